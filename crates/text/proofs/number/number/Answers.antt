use Rattle.std.proofs.Common.{◌≡◌, ◌+◌, ◌-◌, ◌*◌, ◌^◌, ◌<◌, ◌≤◌, ℕ, zero, suc}
use Rattle.std.proofs.Common.{List, Some, None, sym, ◌∙◌, add_assoc, add-one, pow-suc, lit≤, arith}
use borrow.Author.Tests.{ne_eqb}
use Rattle.text.specs.Read.{digit_at, digits_at, number_at}
use Rattle.text.proofs.number.number.Goals as goal

module _ (s : List ℕ) (at : ℕ) where
  none : digit_at s at ≡ 10 → None ≡ number_at s at
  unfolding number_at
  none e = rw e

  nought : (a : ℕ) → digit_at s at ≡ a → a < 10 → a ≡ 0 → Some (0, at + 1) ≡ number_at s at
  unfolding number_at
  nought a e l z = rw (e, z)

  begins : (a : ℕ) → digit_at s at ≡ a → a < 10 → (a ≡ 0 → ⊥) → number_at s at ≡ digits_at 3 s (at + 1) a
  unfolding number_at
  begins a e l n = rw (e, ne_eqb a 10 (omega arith), ne_eqb a 0 n)

most : (k : ℕ) → k ≤ 4 → 10 ^ k ≤ 10000
most zero l = omega arith
most (suc zero) l = omega arith
most (suc (suc zero)) l = omega arith
most (suc (suc (suc zero))) l = omega arith
most (suc (suc (suc (suc zero)))) l = omega arith
most (suc (suc (suc (suc (suc k))))) l = absurd (omega arith)

-- the value of k digits
module _ (k v : ℕ) where
  small : k ≤ 4 → v < 10 ^ k → v < 10000
  small l h = let b = most k l in omega arith

  longer : (d : ℕ) → v < 10 ^ k → d < 10 → 10 * v + d < 10 ^ (k + 1)
  longer d h l = let e : 10 ^ (k + 1) ≡ 10 ^ k * 10 = rw add-one (pow-suc 10 k) in omega arith

-- after k digits
module _ (k : ℕ) (s : List ℕ) (at v : ℕ) where
  stop : k < 4 → digit_at s (at + k) ≡ 10 → Some (v, at + k) ≡ digits_at (4 - k) s (at + k) v
  unfolding digits_at
  stop h e = let n : 4 - k ≡ suc (4 - (k + 1)) = omega arith in rw (n, e)

  go : k < 4 → (d : ℕ) → digit_at s (at + k) ≡ d → d < 10
      → digits_at (4 - k) s (at + k) v ≡ digits_at (4 - (k + 1)) s (at + (k + 1)) (10 * v + d)
  unfolding digits_at
  go h d e l = let n : 4 - k ≡ suc (4 - (k + 1)) = omega arith in rw (n, e, ne_eqb d 10 (omega arith), ← add_assoc at k 1)

  full : k ≡ 4 → Some (v, at + 4) ≡ digits_at (4 - k) s (at + k) v
  unfolding digits_at
  full e = rw e

pub returns-in_err-v : goal.returns-in_err-v
returns-in_err-v c = rw c.from_residual.ensures (none _ _ c.in_err-v.ensures.0, tt)

pub returns-then-v-eq0 : goal.returns-then-v-eq0
returns-then-v-eq0 c =
    let d = c.in_ok-v.ensures in (nought _ _ _ d.0.0 d.0.1 c.if-v-eq0.true, (omega arith, omega (arith, d.1), omega arith))

pub loop-k-init : goal.loop-k-init
loop-k-init c =
    let d = c.in_ok-v.ensures in (omega (arith, d.1), d.0.1, begins _ _ _ d.0.0 d.0.1 c.if-v-eq0.false)

pub returns-in_default : goal.returns-in_default
returns-in_default c =
    let i = c.loop-k.invariant in (
      stop _ _ _ _ c.loop-k-test.true c.in_default.ensures.0 ∙ sym i.2,
      (omega (arith, c.loop-k.auto.k), i.0, small _ _ (omega (arith, c.loop-k-test.true)) i.1),
    )

pub overflow_mul-v : goal.overflow_mul-v
overflow_mul-v c = let l = small _ _ (omega (arith, c.loop-k-test.true)) c.loop-k.invariant.1 in omega arith

pub overflow_add-v : goal.overflow_add-v
overflow_add-v c =
    let l = small _ _ (omega (arith, c.loop-k-test.true)) c.loop-k.invariant.1 in omega (arith, c.in-Some.ensures.0.1)

pub loop-k-preserved : goal.loop-k-preserved
loop-k-preserved c =
    let i = c.loop-k.invariant in
    let d = c.in-Some.ensures in
    (omega (arith, d.1), longer _ _ _ i.1 d.0.1, i.2 ∙ go _ _ _ _ c.loop-k-test.true _ d.0.0 d.0.1)

at_end : (k : ℕ) → 4 ≤ k → (1 ≤ 4 → k ≤ 4) → k ≡ 4
at_end k l h = let m = h (lit≤ tt) in omega arith

pub returns : goal.returns
returns c =
    let i = c.loop-k.invariant in
    let e = at_end _ c.loop-k-test.false c.loop-k.auto.k-end in
    (full _ _ _ _ e ∙ sym i.2, (omega arith, omega (arith, e), small _ _ (omega (arith, e)) i.1))
