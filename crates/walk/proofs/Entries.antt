-- The entries of the steps: what stands at each, and one more with each step.
use Prim.Native.Nat.{ℕ, suc, ◌+◌, ◌-◌, ◌<◌, ◌≤◌}
use mathlib.Core.Path.{◌≡◌, sym, ap, ap₂, ◌∙◌}
use mathlib.Core.List.{List, [], ◌∷◌, ◌++◌, append-nil, append_assoc, map}
use native.Mathlib.Nat.{le_of_eq}
use native.Mathlib.Numerals.{add-one}
use native.Mathlib.Omega.{arith}
use lib.ListN.{length, get_or, set, take, drop, length-append, length-drop, drop_of_length-le}
use lib.Seq.{take_all, take-append-le, drop-cons, set_at}
use Rattle.masks.specs.Numbers.{below}
use Rattle.steps.specs.Steps.{steps_in, step_of}
use Rattle.steps.specs.declared.Columns.{Columns}
use Rattle.steps.specs.declared.Step.{Step}
use Rattle.steps.proofs.ColumnLaws.{steps-none, steps-more, steps-length}
use Rattle.terms.specs.declared.Term.{Term}
use Rattle.walk.specs.Known.{known}
use Rattle.walk.specs.Walk.{after_each}
use Rattle.walk.proofs.Each.{each_none, each-suc, each-length, each_at, each-ext}

-- ---- the entries of the steps, as g gives them
module _ (N : ℕ) (g : Term → ℕ) where
  -- the entry after step k
  abbrev entry : List Step → ℕ → ℕ
  entry es k = g (known N (take (suc k) es))

  pub after-length : (es : List Step) → length (after_each N g es) ≡ length es
  unfolding after_each
  after-length es = each-length (entry es) (length es)

  pub after-at : (es : List Step) (k : ℕ) → k < length es → get_or (after_each N g es) k 0 ≡ g (known N (take (suc k) es))
  unfolding after_each
  after-at es k l = each_at (entry es) 0 (length es) k l

  after_none : after_each N g [] ≡ []
  unfolding after_each
  after_none = each_none (entry [])

  after_more : (es : List Step) (e : Step)
      → after_each N g (es ++ (e ∷ [])) ≡ after_each N g es ++ (g (known N (es ++ (e ∷ []))) ∷ [])
  unfolding after_each
  after_more es e =
      ap (λ (n : ℕ). map (entry all) (below n)) size
      ∙ each-suc (entry all) (length es)
      ∙ ap₂ (λ (l : List ℕ) (v : ℕ). l ++ (v ∷ [])) (each-ext (entry all) (entry es) (length es) lower) last
    where
      all : List Step
      all = es ++ (e ∷ [])

      size : length all ≡ suc (length es)
      size = length-append es (e ∷ []) ∙ add-one (length es)

      lower : (k : ℕ) → k < length es → entry all k ≡ entry es k
      lower k l = ap (λ (z : List Step). g (known N z)) (take-append-le (suc k) es (e ∷ []) l)

      last : entry all (length es) ≡ g (known N all)
      last = ap (λ (z : List Step). g (known N z)) (take_all (suc (length es)) all (le_of_eq size))

  -- ---- in a buffer
  module _ (c : Columns) (old : List ℕ) where
    -- the first i entries are written, and the later ones are as they were
    abbrev pub Written : ℕ → List ℕ → Type 0
    Written i s = s ≡ after_each N g (steps_in c i) ++ drop i old

    pub written_none : Written 0 old
    written_none = sym (ap (λ (z : List ℕ). z ++ old) (ap (after_each N g) (steps-none c) ∙ after_none))

    pub written-more : (i v : ℕ) (s : List ℕ) → i < length old → Written i s → v ≡ g (known N (steps_in c (i + 1)))
        → Written (i + 1) (set s i v)
    written-more i v s l h e =
        let front : List ℕ = after_each N g (steps_in c i) in
        let size : length front ≡ i = after-length (steps_in c i) ∙ steps-length c i in
        let more : after_each N g (steps_in c (i + 1)) ≡ front ++ (g (known N (steps_in c (i + 1))) ∷ []) =
        ap (after_each N g) (steps-more c i) ∙ after_more (steps_in c i) (step_of c i)
        ∙ ap (λ (z : List Step). front ++ (g (known N z) ∷ [])) (sym (steps-more c i)) in
        ap (λ (z : List ℕ). set z i v) (h ∙ ap (λ (z : List ℕ). front ++ z) (drop-cons old i 0 l))
        ∙ set_at front (get_or old i 0) (drop (suc i) old) v i size
        ∙ sym (append_assoc front (v ∷ []) (drop (suc i) old))
        ∙ ap₂ (λ (z : ℕ) (j : ℕ). (front ++ (z ∷ [])) ++ drop j old) e (sym (add-one i))
        ∙ ap (λ (z : List ℕ). z ++ drop (i + 1) old) (sym more)

    -- all k entries
    pub written_all : (i k : ℕ) (s : List ℕ) → i ≡ k → length old ≡ k → Written i s → s ≡ after_each N g (steps_in c k)
    written_all i k s e d h =
        h ∙ ap (λ (z : List ℕ). after_each N g (steps_in c i) ++ z) (drop_of_length-le old {i = i} (omega arith))
        ∙ append-nil (after_each N g (steps_in c i)) ∙ ap (λ (j : ℕ). after_each N g (steps_in c j)) e

    pub written-length : (i : ℕ) (s : List ℕ) → i ≤ length old → Written i s → length s ≡ length old
    written-length i s l h =
        let front : List ℕ = after_each N g (steps_in c i) in
        let size : length front ≡ i = after-length (steps_in c i) ∙ steps-length c i in
        let rest : length (drop i old) ≡ length old - i = length-drop i old in
        ap length h ∙ length-append front (drop i old) ∙ omega arith
