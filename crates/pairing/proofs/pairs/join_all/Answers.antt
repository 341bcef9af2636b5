use mathlib.Core.Path.{refl, ◌∙◌}
use mathlib.Core.Logic.{inl, inr}
use native.Mathlib.Omega.{arith}
use Rattle.pairing.proofs.Steps.{pairs_start, pairs-left, pairs_next, pairs-over, pairs_end}
use Rattle.pairing.proofs.pairs.join_all.Goals as goal

pub loop-turn-init : goal.loop-turn-init
loop-turn-init c = (pairs_start c.requires.growing _ _ refl refl, (refl, refl, refl))

pub step-requires : goal.step-requires
step-requires c = record {
  paired = pairs-left c.requires.growing c.loop-turn.invariant.0 (omega arith) (omega arith);
  has_halves = rw c.loop-turn.auto.columns c.requires.has_halves;
}

pub returns-in_err-turn-clause-made : goal.returns-in_err-turn-clause-made
returns-in_err-turn-clause-made c = rw c.from_residual.ensures (pairs-over c.requires.growing c.loop-turn.invariant.0 c.in_err-turn.ensures.made)

pub loop-turn-smaller : goal.loop-turn-smaller
loop-turn-smaller c =
    let one = c.in_ok-turn.ensures.made.3 in
    omega (arith, one.one, one.within_low, one.within-high)

pub loop-turn-preserved : goal.loop-turn-preserved
loop-turn-preserved c =
    let g = c.in_ok-turn.ensures.made in
    let l = c.step.ensures.same_loan in
    let k = c.loop-turn.invariant.1 in
    (pairs_next c.requires.growing c.loop-turn.invariant.0 g.0 g.1 g.2 g.3, (l.0 ∙ k.0, l.1 ∙ k.1, l.2 ∙ k.2))

pub returns-after-loop-turn-clause-made : goal.returns-after-loop-turn-clause-made
returns-after-loop-turn-clause-made c = pairs_end c.requires.growing c.loop-turn.invariant.0 0 (inl (omega arith))

pub returns-else-turn-len-clause-made : goal.returns-else-turn-len-clause-made
returns-else-turn-len-clause-made c = pairs_end c.requires.growing c.loop-turn.invariant.0 0 (inr (omega arith))
