-- `pairing::pairs::step_low` meets its contract.
use native.Mathlib.Nat.{le_of_lt}
use native.Mathlib.Omega.{arith}
use lib.ListN.{length-take, length-drop}
use Rattle.settling.proofs.Grows.{recounted}
use Rattle.pairing.proofs.Steps.{stepped-low}
use Rattle.pairing.proofs.pairs.step_low.Goals as goal

pub settle_row-requires : goal.settle_row-requires
settle_row-requires c =
    let growing = recounted c.requires.paired.growing c.args.turn.low.cost in record {
      growing = growing;
      at_in_bounds = (c.requires.paired.low-left, simp (length-take, length-drop) (omega (arith, c.requires.has_halves.1)));
    }

pub returns-in_err-c-clause-made : goal.returns-in_err-c-clause-made
returns-in_err-c-clause-made c = rw c.from_residual.ensures c.in_err-c.ensures.made

pub moved-requires : goal.moved-requires
moved-requires c =
    let q = c.requires.paired in
    omega (arith, q.low-left, q.growing.at.few-low)

pub returns-clause-made : goal.returns-clause-made
returns-clause-made c =
    let q = c.requires.paired in
    let g = c.in_ok-c.ensures.made in
    (g.0, g.1, g.2, rw (c.moved.ensures, c.met.ensures) (stepped-low q.growing.at q.low-left (le_of_lt q.high-left) g.3))
