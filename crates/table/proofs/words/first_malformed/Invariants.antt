-- `table::words::first_malformed` meets its contract. The invariant: no node below `i` breaks the rule.
use Prim.Native.Nat.{◌-◌, ◌≤◌}
use mathlib.Core.Path.{◌≡◌}
use Rattle.masks.specs.Numbers.{least}
use Rattle.table.specs.Words.{malformed}
use Rattle.table.proofs.words.first_malformed.Given as goal

abbrev pub invariant-loop-i : goal.invariant-loop-i
invariant-loop-i l = (l.i ≤ l.n) × (least l.i (malformed l.variables l.words) ≡ l.i)

abbrev pub decreases-loop-i : goal.decreases-loop-i
decreases-loop-i l = l.n - l.i
