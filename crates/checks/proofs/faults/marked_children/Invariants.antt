-- `checks::faults::marked_children` meets its contract. The invariant: the children of the nodes below `j` are marked.
use mathlib.Core.Path.{◌≡◌}
use mathlib.Core.Bool.{false}
use lib.ListN.{length}
use Rattle.table.specs.Node.{max_nodes}
use Rattle.circuits.specs.Check.{is_child}
use Rattle.passes.specs.Tables.{Holds}
use Rattle.checks.proofs.faults.marked_children.Given as goal

abbrev pub invariant-loop-j : goal.invariant-loop-j
invariant-loop-j l = (length l.marked ≡ max_nodes) × Holds false (is_child l.words l.j) max_nodes l.marked
