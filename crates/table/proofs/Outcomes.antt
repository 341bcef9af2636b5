-- What an answer of a test says of the answer that comes after it.
use Prim.Native.Nat.{ℕ}
use mathlib.Core.Path.{◌≡◌, refl, sym, ap, ap₂, ◌∙◌}
use mathlib.Core.Bool.{Bool, true, false, cond}
use native.Mathlib.Omega.{arith}
use Rattle.std.specs.Prelude.{Result, Ok, Err}
use Rattle.table.specs.Outcome.{accepted, after, refused_by, outcome, Outcome, answered, refused}
use Rattle.table.specs.declared.Refusal.{Refusal}

module _ {chk : Outcome (Unit {0})} {c : Result (Unit {0}) Refusal} (e : outcome c ≡ chk) where
  pub refusal-stands : {A : Type 0} {r : Refusal} (o : Outcome A) → c ≡ Err r → refused_by r ≡ after chk o
  refusal-stands o d = ap (λ (z : Outcome (Unit {0})). after z o) (sym (ap outcome d) ∙ e)

  pub goes_on : c ≡ Ok tt → chk ≡ accepted
  goes_on d = sym e ∙ ap outcome d

module _ {A : Type 0} {chk : Outcome (Unit {0})} (e : chk ≡ accepted) where
  pub after-accepted : (o : Outcome A) → o ≡ after chk o
  after-accepted o = ap (λ (z : Outcome (Unit {0})). after z o) (sym e)

  -- a test that passes, and one that fails
  pub test-passed : {b : Bool} (o p : Outcome A) → b ≡ true → o ≡ after chk (cond b o p)
  test-passed {b} o p d = sym (ap (λ (t : Bool). cond t o p) d) ∙ after-accepted (cond b o p)

  pub test-failed : {b : Bool} (o p : Outcome A) → b ≡ false → p ≡ after chk (cond b o p)
  test-failed {b} o p d = sym (ap (λ (t : Bool). cond t o p) d) ∙ after-accepted (cond b o p)

-- two tests in turn
pub after-after : {A : Type 0} (c d : Outcome (Unit {0})) (o : Outcome A) → after (after c d) o ≡ after c (after d o)
after-after (answered u) d o = refl
after-after (refused k i) d o = refl

-- what the answer after a test says of the test
pub after-answered : {A : Type 0} (c : Outcome (Unit {0})) (a b : A) → after c (answered a) ≡ answered b → (c ≡ accepted) × (a ≡ b)
after-answered (answered u) a b e = (λ i. accepted, let d : a ≡ b = cc in d)
after-answered (refused k i) a b e = let z : ◌≡◌ {A = ℕ} 0 1 = cc in absurd (omega arith)

pub after-refused : {A B : Type 0} (c : Outcome (Unit {0})) (a : A) (o : Outcome B) (k i : ℕ) → after c (answered a) ≡ refused k i
    → refused k i ≡ after c o
after-refused (answered u) a o k i e = let z : ◌≡◌ {A = ℕ} 0 1 = cc in absurd (omega arith)
after-refused (refused j p) a o k i e =
    let d : k ≡ j = cc in
    let q : i ≡ p = cc in
    ap₂ refused d q
