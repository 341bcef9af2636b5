-- `steps::columns_of` meets its contract. The loop's invariant: the columns hold the steps before i.
use Rattle.std.proofs.Common.{◌≡◌, ◌-◌, ◌≤◌, take}
use Rattle.steps.specs.Steps.{columns}
use Rattle.steps.proofs.columns_of.Given as goal

abbrev pub invariant-loop-i : goal.invariant-loop-i
invariant-loop-i l = (l.i ≤ l.m) × (l.c ≡ columns (take l.i l.steps))

abbrev pub decreases-loop-i : goal.decreases-loop-i
decreases-loop-i l = l.m - l.i
