-- `weighing::fill` meets its contract. The loop's invariant: the sums of the bytes below k are made.
use Prim.Native.Nat.{◌-◌, ◌≤◌}
use mathlib.Core.Path.{◌≡◌}
use lib.ListN.{length}
use Rattle.weighing.specs.Sums.{sum_count}
use Rattle.weighing.proofs.Filling.{FilledBelow}
use Rattle.weighing.proofs.fill.Given as goal

abbrev pub invariant-loop-k : goal.invariant-loop-k
invariant-loop-k l = (l.k ≤ 5) × (length l.sums ≡ sum_count) × FilledBelow l.weights l.k l.sums

abbrev pub decreases-loop-k : goal.decreases-loop-k
decreases-loop-k l = 5 - l.k
