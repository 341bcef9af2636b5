use native.Mathlib.Omega.{arith}
use Rattle.passes.proofs.Readable.{filled_next}
use Rattle.passes.proofs.bottom_up.Goals as goal

pub step-v-requires : goal.step-v-requires
step-v-requires g c =
    let (f, h) = c.requires.made in
    (h c.loop-i.i _ c.loop-i-test.true (c.loop-i.invariant f (λ i a r l k p. (h i a l k).1 r p)).1).0

pub loop-i-preserved : goal.loop-i-preserved
loop-i-preserved g c f made =
    let filled = c.loop-i.invariant f made in
    filled_next c.args.none f c.loop-i.i c.loop-i.values c.step-v.result (omega (arith, c.requires.few)) filled
    (made c.loop-i.i _ c.step-v.result c.loop-i-test.true filled.1 c.step-v.ensures)
