-- `listing::arrange::arrange_nodes` meets its contract.
-- The loop's invariant: the sums are of the weights; the nodes below i are in order by them, the others as they were; the scratch keeps
-- its length.
use Prim.Native.Nat.{ℕ, ◌≤◌}
use mathlib.Core.Path.{◌≡◌}
use mathlib.Core.Bool.{Bool}
use mathlib.Core.List.{[]}
use lib.ListN.{length}
use Rattle.lists.specs.List.{by_sign}
use Rattle.weighing.specs.Sums.{Sums}
use Rattle.listing.specs.Exact.{Holds}
use Rattle.listing.proofs.Arranged.{ArrangedTo}
use Rattle.listing.proofs.arrange.arrange_nodes.Given as goal

abbrev pub invariant-loop-i : goal.invariant-loop-i
invariant-loop-i l =
    let h = l.shape in
    let first = by_sign l.initial.positives l.initial.negatives in
    (l.i ≤ h.nodes) × Sums l.weights l.sums
    × ((F : ℕ → ℕ → Bool) → Holds [] h.variables h.nodes F h.capacity first l.counts
    → ArrangedTo l.weights h.variables F h.capacity first l.i (by_sign l.positives l.negatives))
    × ((length l.keys ≡ length l.initial.keys) × (length l.spare ≡ length l.initial.spare) × (length l.copy ≡ length l.initial.copy))
