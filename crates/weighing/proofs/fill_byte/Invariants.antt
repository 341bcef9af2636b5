-- `weighing::fill_byte` meets its contract. The loop's invariant: the sums of the first b variables are made.
use Prim.Native.Nat.{◌-◌, ◌≤◌}
use mathlib.Core.Path.{◌≡◌}
use lib.ListN.{length}
use Rattle.weighing.specs.Sums.{sum_count, FilledByte}
use Rattle.weighing.proofs.fill_byte.Given as goal

abbrev pub invariant-loop-b : goal.invariant-loop-b
invariant-loop-b l = (l.b ≤ 8) × (length l.sums ≡ sum_count) × FilledByte l.weights l.k l.b l.initial.sums l.sums

abbrev pub decreases-loop-b : goal.decreases-loop-b
decreases-loop-b l = 8 - l.b
