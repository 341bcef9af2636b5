-- The steps in columns, one after the other, and what the check says of each.
use Prim.Native.Nat.{ℕ, zero, suc, ◌+◌, ◌<◌, ◌≤◌}
use mathlib.Core.Path.{◌≡◌, refl, sym, ap, ap₂, ◌∙◌}
use mathlib.Core.Bool.{Bool, true, false, ◌||◌, cond}
use mathlib.Core.Logic.{⊎_elim}
use mathlib.Core.List.{List, [], ◌∷◌, ◌++◌, append_assoc}
use native.Mathlib.Nat.{not-suc-le-zero}
use native.Mathlib.Omega.{arith}
use lib.Dec.{ltb, leb}
use lib.ListN.{length, get_or}
use borrow.Author.Tests.{lt-ltb, le-leb, lt-leb, leb-false}
use Rattle.masks.proofs.Tests.{below_suc}
use Rattle.table.specs.Outcome.{accepted, after, Outcome, answered, refused}
use Rattle.table.proofs.Outcomes.{after-accepted}
use Rattle.steps.specs.Steps.{max_steps, no_step, step_of, steps_in}
use Rattle.steps.specs.declared.Columns.{Columns}
use Rattle.steps.specs.declared.Step.{Step}
use Rattle.steps.proofs.ColumnLaws.{steps-none, steps-suc, steps-more, steps-length}
use Rattle.walk.specs.Walk.{check_steps}

-- ---- the steps
module _ (c : Columns) where
  -- the first k steps are the first i, step i, and the rest
  steps-split : (k i : ℕ) → i < k → (rest : List Step) × (steps_in c k ≡ steps_in c i ++ (step_of c i ∷ rest))
  steps-split zero i l = absurd (not-suc-le-zero l)
  steps-split (suc k) i l =
      ⊎_elim
      (λ (e : i ≡ k). ([], steps-suc c k ∙ ap (λ (j : ℕ). steps_in c j ++ (step_of c j ∷ [])) (sym e)))
      (λ (m : i < k).
      let (rest, e) = steps-split k i m in (
        rest ++ (step_of c k ∷ []),
        steps-suc c k ∙ ap (λ (z : List Step). z ++ (step_of c k ∷ [])) e ∙ append_assoc (steps_in c i) (step_of c i ∷ rest) (step_of c k ∷ []),
      ))
      (below_suc l)

  -- a step of the columns
  pub step-here : (i : ℕ) → i < max_steps → step_of c i ≡ record { variable = get_or c.variables i 0; act = get_or c.acts i 0 }
  step-here i l =
      ap (λ (b : Bool). cond b (record { variable = get_or c.variables i 0; act = get_or c.acts i 0 }) no_step) (lt-ltb i max_steps l)

-- ---- the check
module _ (N : ℕ) where
  -- what the check says at step i, by its two tests
  abbrev at_step : ℕ → Bool → Bool → Outcome (Unit {0}) → Outcome (Unit {0})
  at_step i a b rest = cond a (refused 54 i) (cond b (refused 55 i) rest)

  abbrev wrong_act : ℕ → Step → Bool
  wrong_act i e = leb max_steps i || ltb 2 e.act

  abbrev wrong_variable : Step → Bool
  wrong_variable e = leb N e.variable

  check-step : (i : ℕ) (e : Step) (es : List Step)
      → check_steps N i (e ∷ es) ≡ at_step i (wrong_act i e) (wrong_variable e) (check_steps N (suc i) es)
  unfolding check_steps
  check-step i e es = refl

  check-end : (i : ℕ) → check_steps N i [] ≡ accepted
  unfolding check_steps
  check-end i = refl

  check-append : (i : ℕ) (es fs : List Step)
      → check_steps N i (es ++ fs) ≡ after (check_steps N i es) (check_steps N (i + length es) fs)
  check-append i [] fs =
      let e : i ≡ i + 0 = omega arith in
      ap (λ (j : ℕ). check_steps N j fs) e ∙ after-accepted (check-end i) (check_steps N (i + 0) fs)
  check-append i (e ∷ es) fs =
      check-step i e (es ++ fs)
      ∙ ap (at_step i (wrong_act i e) (wrong_variable e)) (check-append (suc i) es fs ∙ moved)
      ∙ by (wrong_act i e) (wrong_variable e)
      ∙ ap (λ (o : Outcome (Unit {0})). after o (check_steps N (i + suc (length es)) fs)) (sym (check-step i e es))
    where
      moved : after (check_steps N (suc i) es) (check_steps N (suc i + length es) fs)
          ≡ after (check_steps N (suc i) es) (check_steps N (i + suc (length es)) fs)
      moved =
          let d : suc i + length es ≡ i + suc (length es) = omega arith in
          ap (λ (j : ℕ). after (check_steps N (suc i) es) (check_steps N j fs)) d

      by : (a b : Bool)
          → at_step i a b (after (check_steps N (suc i) es) (check_steps N (i + suc (length es)) fs))
          ≡ after (at_step i a b (check_steps N (suc i) es)) (check_steps N (i + suc (length es)) fs)
      by true b = refl
      by false true = refl
      by false false = refl

  module _ (c : Columns) where
    pub check-none : check_steps N 0 (steps_in c 0) ≡ accepted
    check-none = ap (check_steps N 0) (steps-none c) ∙ check-end 0

    -- at step i, and after it
    check-at : (i : ℕ) (rest : List Step)
        → check_steps N 0 (steps_in c i ++ (step_of c i ∷ rest))
        ≡ after (check_steps N 0 (steps_in c i))
        (at_step i (wrong_act i (step_of c i)) (wrong_variable (step_of c i)) (check_steps N (suc i) rest))
    check-at i rest =
        let e : 0 + length (steps_in c i) ≡ i = omega (arith, steps-length c i) in
        check-append 0 (steps_in c i) (step_of c i ∷ rest)
        ∙ ap (λ (j : ℕ). after (check_steps N 0 (steps_in c i)) (check_steps N j (step_of c i ∷ rest))) e
        ∙ ap (after (check_steps N 0 (steps_in c i))) (check-step i (step_of c i) rest)

    -- the first k steps, by the tests at step i
    check-by : (k i : ℕ) → i < k → (a b : Bool) → wrong_act i (step_of c i) ≡ a → wrong_variable (step_of c i) ≡ b
        → (o : Outcome (Unit {0})) × (check_steps N 0 (steps_in c k) ≡ after (check_steps N 0 (steps_in c i)) (at_step i a b o))
    check-by k i l a b p q =
        let (rest, e) = steps-split c k i l in (
          check_steps N (suc i) rest,
          ap (check_steps N 0) e ∙ check-at i rest
              ∙ ap₂ (λ (x y : Bool). after (check_steps N 0 (steps_in c i)) (at_step i x y (check_steps N (suc i) rest))) p q,
        )

    -- ---- the lower steps are good
    module _ (i : ℕ) (good : check_steps N 0 (steps_in c i) ≡ accepted) where
      pub act-stands : (k : ℕ) → i < k → wrong_act i (step_of c i) ≡ true → refused 54 i ≡ check_steps N 0 (steps_in c k)
      act-stands k l p =
          let (o, e) = check-by k i l true (wrong_variable (step_of c i)) p refl in
          sym (e ∙ ap (λ (z : Outcome (Unit {0})). after z (refused 54 i)) good)

      pub variable-stands : (k : ℕ) → i < k → wrong_act i (step_of c i) ≡ false → wrong_variable (step_of c i) ≡ true
          → refused 55 i ≡ check_steps N 0 (steps_in c k)
      variable-stands k l p q =
          let (o, e) = check-by k i l false true p q in
          sym (e ∙ ap (λ (z : Outcome (Unit {0})). after z (refused 55 i)) good)

      pub check-more : wrong_act i (step_of c i) ≡ false → wrong_variable (step_of c i) ≡ false → check_steps N 0 (steps_in c (i + 1)) ≡ accepted
      check-more p q =
          ap (check_steps N 0) (steps-more c i) ∙ check-at i []
          ∙ ap₂ (λ (x y : Bool). after (check_steps N 0 (steps_in c i)) (at_step i x y (check_steps N (suc i) []))) p q
          ∙ ap₂ after good (check-end (suc i))

    -- ---- the tests, by the words of the step
    pub beyond-test : (i : ℕ) → max_steps ≤ i → wrong_act i (step_of c i) ≡ true
    beyond-test i h = ap (λ (b : Bool). b || ltb 2 (step_of c i).act) (le-leb max_steps i h)

    pub act-test : (i : ℕ) (b : Bool) → i < max_steps → ltb 2 (get_or c.acts i 0) ≡ b → wrong_act i (step_of c i) ≡ b
    act-test i b h e = ap₂ (λ (a : Bool) (s : Step). a || ltb 2 s.act) (lt-leb max_steps i h) (step-here c i h) ∙ e

    pub variable-test : (i : ℕ) (b : Bool) → i < max_steps → leb N (get_or c.variables i 0) ≡ b → wrong_variable (step_of c i) ≡ b
    variable-test i b h e = ap (λ (s : Step). leb N s.variable) (step-here c i h) ∙ e

    -- ---- each step of an accepted script
    module _ (k i : ℕ) (l : i < k) (good : check_steps N 0 (steps_in c k) ≡ accepted) where
      both-passed : (wrong_act i (step_of c i) ≡ false) × (wrong_variable (step_of c i) ≡ false)
      both-passed =
          let a : Bool = wrong_act i (step_of c i) in
          let b : Bool = wrong_variable (step_of c i) in
          let (o, e) = check-by k i l a b refl refl in
          by a b o (check_steps N 0 (steps_in c i)) (sym e ∙ good)
        where
          by : (a b : Bool) (o p : Outcome (Unit {0})) → after p (at_step i a b o) ≡ accepted → (a ≡ false) × (b ≡ false)
          by a b o (refused n j) e = let z : ◌≡◌ {A = ℕ} 0 1 = cc in absurd (omega arith)
          by true b o (answered u) e = let z : ◌≡◌ {A = ℕ} 0 1 = cc in absurd (omega arith)
          by false true o (answered u) e = let z : ◌≡◌ {A = ℕ} 0 1 = cc in absurd (omega arith)
          by false false o (answered u) e = (refl, refl)

      pub step-inside : i < max_steps
      step-inside = leb-false max_steps i (left (leb max_steps i) (ltb 2 (step_of c i).act) both-passed.0)
        where
          left : (a b : Bool) → (a || b) ≡ false → a ≡ false
          left true b e = e
          left false b e = refl

      pub variable-inside : (step_of c i).variable < N
      variable-inside = leb-false N (step_of c i).variable both-passed.1
