-- `listing::fill_nodes` meets its contract.
-- The loop's invariant: the nodes below i are listed, and zeros follow; the scratch has place for two children's terms.
use Prim.Native.Nat.{◌≤◌}
use mathlib.Core.List.{[]}
use Rattle.circuits.specs.Function.{signed_function}
use Rattle.lists.specs.List.{by_sign}
use Rattle.nodes.specs.Part.{HasPlace}
use Rattle.listing.proofs.Table.{State}
use Rattle.listing.proofs.fill_nodes.Given as goal

abbrev pub invariant-loop-i : goal.invariant-loop-i
invariant-loop-i l =
    let x = l.shape in
    (l.i ≤ x.nodes)
    × State [] x.variables (signed_function x.sign l.words) x.capacity x.nodes l.i (by_sign l.positives l.negatives) l.counts
    × HasPlace x.capacity l.low_positives l.low_negatives l.high_positives l.high_negatives
