-- Operations that refuse as the check of a table does and then by the first of their tests that fails: what they may answer, what a
-- refusal leaves, and what an answer says of the tests.
use Prim.Native.Nat.{ℕ}
use mathlib.Core.Path.{◌≡◌, refl, sym, subst, ◌∙◌}
use mathlib.Core.Bool.{Bool, true, false, cond}
use mathlib.Core.Logic.{inl, ◌≢◌}
use mathlib.Core.List.{List, [], ◌∷◌, ◌++◌}
use Rattle.masks.proofs.Tests.{along}
use Rattle.table.specs.Outcome.{accepted, Outcome, answered, refused}
use Rattle.text.proofs.Readers.{value_not, same_number}
use Rattle.circuits.specs.Check.{check}
use Rattle.listing.specs.Guarded.{after_tests, guarded, Out}
use Rattle.demands.specs.Demands.{At, Refusals, Answers, table_refusals}
use Rattle.demands.proofs.Answers.{among-left, answers-right, check-answers, among-other, Without}

-- the refusals of tests
abbrev pub test_refusals : List (Bool × ℕ) → Refusals
test_refusals [] = []
test_refusals (t ∷ ts) = (t.1, At 0) ∷ test_refusals ts

-- the answer a is no test's refusal
abbrev pub Other : {A : Type 0} → Outcome A → List (Bool × ℕ) → Type 0
Other a [] = Unit {0}
Other a (t ∷ ts) = (a ≢ refused t.1 0) × Other a ts

-- every test with the number k is passed
abbrev pub Passing : ℕ → List (Bool × ℕ) → Type 0
Passing k [] = Unit {0}
Passing k (t ∷ ts) = (t.1 ≡ k → t.0 ≡ true) × Passing k ts

other-number : (A : Type 0) (k p : ℕ) (ts : List (Bool × ℕ)) → Without k (test_refusals ts) → Other {A = A} (refused k p) ts
other-number A k p [] none = tt
other-number A k p (t ∷ ts) (d, none) = (λ h. d (sym (same_number k p t.1 0 h).0), other-number A k p ts none)

other-value : {A : Type 0} (v : A) (ts : List (Bool × ℕ)) → Other (answered v) ts
other-value v [] = tt
other-value v (t ∷ ts) = (value_not v t.1 0, other-value v ts)

module _ {A B : Type 0} (b : B) (o : Out A B) where
  tests-answers : (ts : List (Bool × ℕ)) (qs : Refusals) → Answers qs o.answer
      → Answers (test_refusals ts ++ qs) (after_tests ts b o).answer
  tests-answers [] qs h = h
  tests-answers ((true, k) ∷ ts) qs h =
      answers-right ((k, At 0) ∷ []) (test_refusals ts ++ qs) (after_tests ts b o).answer (tests-answers ts qs h)
  tests-answers ((false, k) ∷ ts) qs h = inl (refl, refl)

  tests-kept : (ts : List (Bool × ℕ)) (k p : ℕ) → (o.answer ≡ refused k p → o.after ≡ b) → (after_tests ts b o).answer ≡ refused k p
      → (after_tests ts b o).after ≡ b
  tests-kept [] k p own h = own h
  tests-kept ((true, j) ∷ ts) k p own h = tests-kept ts k p own h
  tests-kept ((false, j) ∷ ts) k p own h = refl

  tests-passed : (ts : List (Bool × ℕ)) (a : Outcome A) → Other a ts → (after_tests ts b o).answer ≡ a → after_tests ts b o ≡ o
  tests-passed [] a other h = refl
  tests-passed ((true, k) ∷ ts) a other h = tests-passed ts a other.1 h
  tests-passed ((false, k) ∷ ts) a other h = absurd (other.0 (sym h))

  tests-unless : (ts : List (Bool × ℕ)) (k p : ℕ) → Passing k ts → (o.answer ≡ refused k p → ⊥)
      → (after_tests ts b o).answer ≡ refused k p → ⊥
  tests-unless [] k p pass own h = own h
  tests-unless ((true, j) ∷ ts) k p pass own h = tests-unless ts k p pass.1 own h
  tests-unless ((false, j) ∷ ts) k p pass own h = along (sym (pass.0 (same_number j 0 k p h).0)) tt

-- ---- after the check of a table
module _ {A B : Type 0} (N n : ℕ) (w : List ℕ) (ts : List (Bool × ℕ)) (b : B) (o : Out A B) where
  abbrev result : Outcome (Unit {0}) → Out A B
  result c = guarded c ts b o

  abbrev out : Out A B
  out = result (check N n w)

  pub guarded-answers : (qs : Refusals) → Answers qs o.answer → Answers (table_refusals n ++ (test_refusals ts ++ qs)) out.answer
  guarded-answers qs h = by (check N n w) (check-answers N n w)
    where
      by : (c : Outcome (Unit {0})) → Answers (table_refusals n) c
          → Answers (table_refusals n ++ (test_refusals ts ++ qs)) (result c).answer
      by (answered u) a =
          answers-right (table_refusals n) (test_refusals ts ++ qs) (after_tests ts b o).answer (tests-answers b o ts qs h)
      by (refused k i) a = among-left (table_refusals n) (test_refusals ts ++ qs) k i a

  pub guarded-kept : (k p : ℕ) → (o.answer ≡ refused k p → o.after ≡ b) → out.answer ≡ refused k p → out.after ≡ b
  guarded-kept k p own h = by (check N n w) h
    where
      by : (c : Outcome (Unit {0})) → (result c).answer ≡ refused k p → (result c).after ≡ b
      by (answered u) g = tests-kept b o ts k p own g
      by (refused j i) g = refl

  -- an answer that neither the check nor a test gives is the operation's own
  passed-by : (c : Outcome (Unit {0})) (a : Outcome A) → ((k i : ℕ) → c ≡ refused k i → a ≢ refused k i) → Other a ts
      → (result c).answer ≡ a → (c ≡ accepted) × (result c ≡ o)
  passed-by (answered u) a none other h = (refl, tests-passed b o ts a other h)
  passed-by (refused k i) a none other h = absurd (none k i refl (sym h))

  pub guarded-done : (v : A) → out.answer ≡ answered v → (check N n w ≡ accepted) × (out ≡ o)
  guarded-done v h = passed-by (check N n w) (answered v) (λ k i e. value_not v k i) (other-value v ts) h

  -- the number k is not one of the check
  module _ (k p : ℕ) (others : Without k (table_refusals n)) where
    not-checked : (j i : ℕ) → check N n w ≡ refused j i → j ≢ k
    not-checked j i e = among-other k (table_refusals n) j i others (subst (Answers (table_refusals n)) e (check-answers N n w))

    pub guarded-refused : Without k (test_refusals ts) → out.answer ≡ refused k p → (check N n w ≡ accepted) × (out ≡ o)
    guarded-refused none h =
        passed-by (check N n w) (refused k p) (λ j i e g. not-checked j i e (sym (same_number k p j i g).0)) (other-number A k p ts none) h

    pub guarded-unless : Passing k ts → (o.answer ≡ refused k p → ⊥) → out.answer ≡ refused k p → ⊥
    guarded-unless pass own h = by (check N n w) refl h
      where
        by : (c : Outcome (Unit {0})) → check N n w ≡ c → (result c).answer ≡ refused k p → ⊥
        by (answered u) e g = tests-unless b o ts k p pass own g
        by (refused j i) e g = not-checked j i e (same_number j i k p g).0

-- ---- the operation's own answer: 42, or done with the value v
module _ {A B : Type 0} (lack full : Out A B) (v : A) (lacks : lack.answer ≡ refused 42 0) (does : full.answer ≡ answered v) where
  abbrev lack_or : Bool → Out A B
  lack_or z = cond z lack full

  pub lack-answers : (z : Bool) → Answers ((42, At 0) ∷ []) (lack_or z).answer
  lack-answers true = subst (Answers ((42, At 0) ∷ [])) (sym lacks) (inl (refl, refl))
  lack-answers false = subst (Answers ((42, At 0) ∷ [])) (sym does) tt

  pub lack-only : (z : Bool) (k p : ℕ) → k ≢ 42 → (lack_or z).answer ≡ refused k p → ⊥
  lack-only true k p other h = other (sym (same_number 42 0 k p (sym lacks ∙ h)).0)
  lack-only false k p other h = value_not v k p (sym does ∙ h)

  pub lack-full : (z : Bool) (p : ℕ) → (lack_or z).answer ≡ refused 42 p → z ≡ true
  lack-full true p h = refl
  lack-full false p h = absurd (value_not v 42 p (sym does ∙ h))

  pub done-fits : (z : Bool) (u : A) → (lack_or z).answer ≡ answered u → z ≡ false
  done-fits true u h = absurd (value_not u 42 0 (sym h ∙ lacks))
  done-fits false u h = refl
