-- `weighing::double` meets its contract. The loop's invariant: the first d of the new sums are made.
use Prim.Native.Nat.{◌-◌, ◌≤◌}
use mathlib.Core.Path.{◌≡◌}
use lib.ListN.{length}
use Rattle.weighing.specs.Sums.{Doubled}
use Rattle.weighing.proofs.double.Given as goal

abbrev pub invariant-loop-d : goal.invariant-loop-d
invariant-loop-d l = (l.d ≤ l.n) × (length l.sums ≡ length l.initial.sums) × Doubled l.initial.sums l.at l.n l.w l.d l.sums

abbrev pub decreases-loop-d : goal.decreases-loop-d
decreases-loop-d l = l.n - l.d
