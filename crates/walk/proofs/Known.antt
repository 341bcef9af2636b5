-- What is known after one more step: the variable that the step names is put into its state, and the others keep theirs.
use Prim.Native.Nat.{ℕ, ◌+◌, ◌<◌}
use mathlib.Core.Path.{◌≡◌, refl, sym, ap, ap₂, subst, ◌∙◌}
use mathlib.Core.Bool.{Bool, true, false, cond}
use mathlib.Core.Logic.{⊎_elim, ◌≢◌}
use mathlib.Core.List.{List, [], ◌∷◌, ◌++◌}
use lib.Dec.{eqb}
use lib.ListN.{get_or}
use borrow.Author.Tests.{eq-eqb, ne_eqb}
use Rattle.masks.proofs.Masks.{bit-zero}
use Rattle.masks.proofs.Tests.{same?}
use Rattle.steps.specs.Steps.{max_steps, step_of, steps_in}
use Rattle.steps.specs.declared.Columns.{Columns}
use Rattle.steps.specs.declared.Step.{Step}
use Rattle.steps.proofs.ColumnLaws.{steps-more}
use Rattle.terms.specs.Term.{empty, IsTerm}
use Rattle.terms.specs.declared.Term.{Term}
use Rattle.terms.proofs.Terms.{empty-IsTerm}
use Rattle.states.specs.Joining.{with_state}
use Rattle.states.specs.States.{state_by, state_at}
use Rattle.states.specs.declared.State.{State}
use Rattle.std.specs.Prelude.{Some}
use Rattle.states.proofs.Made.{same-states, states-IsTerm, states-read}
use Rattle.states.proofs.States.{with-here, with-there, with-IsTerm}
use Rattle.walk.specs.Known.{act_state, state_after, known}
use Rattle.walk.proofs.Steps.{step-here}

-- the last step decides where it names x
state-last : (x : ℕ) (s : State) (es : List Step) (e : Step)
    → state_after x s (es ++ (e ∷ [])) ≡ cond (eqb e.variable x) (act_state e.act) (state_after x s es)
state-last x s [] e = refl
state-last x s (d ∷ es) e = state-last x (cond (eqb d.variable x) (act_state d.act) s) es e

module _ (N : ℕ) where
  pub known-IsTerm : (es : List Step) → IsTerm N (known N es)
  unfolding known
  known-IsTerm es = states-IsTerm (λ x. state_after x State.Absent es) N

  known_read : (es : List Step) (x : ℕ) → x < N → state_at (known N es) x ≡ Some (state_after x State.Absent es)
  unfolding known
  known_read es x l = states-read (λ x. state_after x State.Absent es) N x l

  -- nothing before the first step
  pub known-none : known N [] ≡ empty
  known-none =
      same-states N (known N []) empty (known-IsTerm []).fits (empty-IsTerm N).fits
      (λ x l. known_read [] x l ∙ sym (ap₂ state_by (bit-zero x) (bit-zero x)))

  module _ (es : List Step) (e : Step) (inside : e.variable < N) where
    abbrev next : Term
    next = with_state (known N es) e.variable (act_state e.act)

    -- the states after the step, by whether it names x
    after-step : (x : ℕ) (b : Bool) → eqb e.variable x ≡ b
        → Some (cond b (act_state e.act) (state_after x State.Absent es))
        ≡ Some (state_after x State.Absent (es ++ (e ∷ [])))
    after-step x b d =
        ap Some
        (sym (state-last x State.Absent es e
        ∙ ap (λ (c : Bool). cond c (act_state e.act) (state_after x State.Absent es)) d))

    named : (x : ℕ) → e.variable ≡ x → state_at next x ≡ Some (act_state e.act)
    named x d =
        subst (λ (y : ℕ). state_at next y ≡ Some (act_state e.act)) d
        (with-here (known N es) e.variable (act_state e.act))

    other : (x : ℕ) → x < N → x ≢ e.variable → state_at next x ≡ Some (state_after x State.Absent es)
    other x l n =
        let there = with-there (known N es) e.variable x (act_state e.act) in
        ap₂ state_by (there true n) (there false n) ∙ known_read es x l

    next-read : (x : ℕ) → x < N → state_at next x ≡ state_at (known N (es ++ (e ∷ []))) x
    next-read x l =
        ⊎_elim
        (λ (d : e.variable ≡ x). named x d ∙ after-step x true (eq-eqb e.variable x d))
        (λ (n : e.variable ≢ x). other x l (λ d. n (sym d)) ∙ after-step x false (ne_eqb e.variable x n))
        (same? e.variable x)
        ∙ sym (known_read (es ++ (e ∷ [])) x l)

    pub known_next : next ≡ known N (es ++ (e ∷ []))
    known_next =
        same-states N next (known N (es ++ (e ∷ [])))
        (with-IsTerm N (known N es) e.variable (act_state e.act) inside (known-IsTerm es)).fits
        (known-IsTerm (es ++ (e ∷ []))).fits next-read

  -- one more step of the columns
  pub known_more : (c : Columns) (i : ℕ) → i < max_steps → (step_of c i).variable < N
      → with_state (known N (steps_in c i)) (get_or c.variables i 0) (act_state (get_or c.acts i 0)) ≡ known N (steps_in c (i + 1))
  known_more c i l inside =
      ap (λ (e : Step). with_state (known N (steps_in c i)) e.variable (act_state e.act)) (sym (step-here c i l))
      ∙ known_next (steps_in c i) (step_of c i) inside
      ∙ ap (known N) (sym (steps-more c i))
