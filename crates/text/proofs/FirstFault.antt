-- What is read, by a list of faults: the first of them, or else the good result.
use Prim.Native.Nat.{ℕ}
use mathlib.Core.Path.{◌≡◌, subst}
use mathlib.Core.List.{List, [], ◌∷◌}
use Rattle.text.specs.Answers.{fault_number}
use Rattle.text.specs.Read.{Stepped}
use Rattle.text.specs.declared.answer.Fault.{Fault}
use Rattle.text.specs.Answers.{misread}

abbrev pub StepRead : List (ℕ × ℕ) → Stepped → Stepped → Type 0
StepRead [] good r = r ≡ good
StepRead (e ∷ fs) good r = (f : Fault) × (fault_number f ≡ e.0) × (r.step ≡ misread f e.1)

pub same_read : {fs fs' : List (ℕ × ℕ)} {good good' : Stepped} (r : Stepped) → fs ≡ fs' → good ≡ good' → StepRead fs good r
    → StepRead fs' good' r
same_read {fs} {fs'} {good} {good'} r e f h =
    subst (λ (z : Stepped). StepRead fs' z r) f (subst (λ (z : List (ℕ × ℕ)). StepRead z good r) e h)
