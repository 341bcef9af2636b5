-- `checks::children::mark` meets its contract. The invariant: the children from place k on are marked.
use lib.ListN.{drop}
use Rattle.table.specs.Gate.{child_list}
use Rattle.checks.specs.Children.{Marked}
use Rattle.checks.proofs.children.mark.Given as goal

abbrev pub invariant-loop-k : goal.invariant-loop-k
invariant-loop-k l = Marked l.initial.marked (drop l.k (child_list l.fn.children)) l.marked
