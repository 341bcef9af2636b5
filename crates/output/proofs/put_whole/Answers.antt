use Prim.Native.Nat.{ℕ, zero, suc, ◌+◌, ◌-◌, ◌/◌, ◌*◌, ◌^◌, ◌<◌}
use mathlib.Core.Path.{◌≡◌, refl, ap, ◌∙◌}
use mathlib.Core.List.{List}
use native.Mathlib.Nat.{pow-zero, pow-suc}
use native.Mathlib.Numerals.{add-one}
use native.Mathlib.Omega.{arith}
use Rattle.text.specs.Syntax.{digit_text}
use Rattle.text_writer.specs.Sink.{Wrote}
use Rattle.text_writer.proofs.Sinks.{after, nothing, same}
use Rattle.output.specs.Lines.{high_digits, whole_decimal}
use Rattle.output.proofs.put_whole.Goals as goal

-- a unit is not 0
positive : (k : ℕ) → 0 < 10 ^ k
positive zero = omega (arith, pow-zero 10)
positive (suc k) = let r : 0 < 10 ^ k = positive k in omega (arith, pow-suc 10 k)

-- the next unit
tenth : (j u : ℕ) → j < 19 → u ≡ 10 ^ (19 - j) → u / 10 ≡ 10 ^ (19 - (j + 1))
tenth j u l e =
    let k : ℕ = 19 - (j + 1) in
    let i : 19 - j ≡ suc k = omega arith in
    let f : u ≡ 10 ^ k * 10 = e ∙ ap (10 ^◌) i ∙ pow-suc 10 k in omega arith

-- one digit more
one_more : {d e f : List ℕ} {at p q u : ℕ} (j v : ℕ) → u ≡ 10 ^ (19 - j) → Wrote d at e p (high_digits j v)
    → Wrote e p f q (digit_text u v) → Wrote d at f q (high_digits (j + 1) v)
unfolding high_digits
one_more j v h x y = rw add-one (after x (same (ap (λ (z : ℕ). digit_text z v) h) y))

pub loop-init : goal.loop-init
unfolding high_digits
loop-init c = (refl, omega arith, nothing)

pub put_digit-p-requires : goal.put_digit-p-requires
put_digit-p-requires c =
    let l : 0 < c.loop.unit = omega (arith, c.loop.invariant.0, positive (19 - c.loop.counter)) in
    (omega (arith, c.loop.invariant.1, c.loop-test.true), l)

pub loop-preserved : goal.loop-preserved
loop-preserved c = (
  tenth c.loop.counter c.loop.unit c.loop-test.true c.loop.invariant.0,
  omega (arith, c.put_digit-p.ensures.1, c.loop.invariant.1),
  one_more c.loop.counter c.args.v c.loop.invariant.0 c.loop.invariant.2 c.put_digit-p.ensures.0,
)

pub returns : goal.returns
unfolding whole_decimal
returns c =
    let e : c.loop.counter ≡ 19 = omega (arith, c.loop.auto.counter-end, c.loop-test.false) in
    let high : Wrote c.args.d.now c.args.at c.loop.d c.loop.p (high_digits 19 c.args.v) =
    same (ap (λ (j : ℕ). high_digits j c.args.v) e) c.loop.invariant.2 in
    (after high c.put.ensures.0, omega (arith, c.put.ensures.1, c.loop.invariant.1, e))
