-- `pairing::pairs::step_high` meets its contract.
use native.Mathlib.Nat.{le_of_lt}
use native.Mathlib.Omega.{arith}
use lib.ListN.{length-take}
use Rattle.settling.proofs.Grows.{recounted}
use Rattle.settling.proofs.Least.{least-turned}
use Rattle.pairing.proofs.Steps.{stepped-high, growing-turned, grew-wider, over-wider, kept-wider}
use Rattle.pairing.proofs.pairs.step_high.Goals as goal

pub slice_bounds-settle_row-end-2 : goal.slice_bounds-settle_row-end-2
slice_bounds-settle_row-end-2 c =
    simp length-take (omega arith)

pub slice_bounds-settle_row-end-4 : goal.slice_bounds-settle_row-end-4
slice_bounds-settle_row-end-4 c =
    simp length-take (omega arith)

pub settle_row-requires : goal.settle_row-requires
settle_row-requires c =
    let growing = growing-turned (recounted c.requires.paired.growing c.args.turn.high.cost) in record {
      growing = growing;
      at_in_bounds = (c.requires.paired.high-left, simp length-take (omega (arith, c.requires.has_halves.0)));
    }

pub returns-in_err-c-clause-made : goal.returns-in_err-c-clause-made
returns-in_err-c-clause-made c =
    rw c.from_residual.ensures (over-wider (least-turned c.requires.paired.growing.at.sides) c.in_err-c.ensures.made)

pub moved-requires : goal.moved-requires
moved-requires c =
    let q = c.requires.paired in
    omega (arith, q.high-left, q.growing.at.few-high)

pub returns-clause-made : goal.returns-clause-made
returns-clause-made c =
    let q = c.requires.paired in
    let h = least-turned q.growing.at.sides in
    let g = c.in_ok-c.ensures.made in
    let next = stepped-high q.growing.at (le_of_lt q.low-left) q.high-left g.3 in
    (grew-wider h g.0, kept-wider h g.1, g.2, rw (c.met.ensures, c.moved.ensures) next)
