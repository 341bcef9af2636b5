-- `checks::children::has_false` meets its contract. The invariant speaks of the children from place k on.
use mathlib.Core.Path.{◌≡◌}
use lib.ListN.{drop}
use Rattle.table.specs.Gate.{child_list}
use Rattle.table.specs.Node.{node_at}
use Rattle.terms.specs.Lists.{any}
use Rattle.circuits.specs.Check.{is_false}
use Rattle.checks.proofs.children.has_false.Given as goal

abbrev pub invariant-loop-k : goal.invariant-loop-k
invariant-loop-k l =
    (l.some ≡ any (λ c. is_false (node_at l.words c)) (drop l.k (child_list l.fn.children)))
