-- `steps::store` meets its contract. The loop's invariant: the first i steps are stored, and the others are as they were.
use Rattle.std.proofs.Common.{◌≡◌, ◌-◌, ◌≤◌}
use Rattle.steps.proofs.ColumnLaws.{storing}
use Rattle.steps.proofs.store.Given as goal

abbrev pub invariant-loop-i : goal.invariant-loop-i
invariant-loop-i l = (l.i ≤ l.i-end) × (l.steps ≡ storing l.c l.initial.steps l.i)

abbrev pub decreases-loop-i : goal.decreases-loop-i
decreases-loop-i l = l.i-end - l.i
