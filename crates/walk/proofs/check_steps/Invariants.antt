-- `walk::check_steps` meets its contract. The loop's invariant: the steps passed are good.
use Prim.Native.Nat.{◌-◌, ◌≤◌}
use mathlib.Core.Path.{◌≡◌}
use Rattle.table.specs.Outcome.{accepted}
use Rattle.steps.specs.Steps.{steps_in}
use Rattle.walk.specs.Walk.{check_steps}
use Rattle.walk.proofs.check_steps.Given as goal

abbrev pub invariant-loop-i : goal.invariant-loop-i
invariant-loop-i l = (l.i ≤ l.k) × (check_steps l.variables 0 (steps_in l.columns l.i) ≡ accepted)

abbrev pub decreases-loop-i : goal.decreases-loop-i
decreases-loop-i l = l.k - l.i
