-- `checks::children::are_disjoint` meets its contract. The invariant speaks of the children from place k on.
use mathlib.Core.Path.{◌≡◌}
use lib.ListN.{get_or, drop}
use Rattle.table.specs.Gate.{child_list}
use Rattle.circuits.specs.Check.{all_disjoint}
use Rattle.circuits.specs.Function.{union}
use Rattle.checks.proofs.children.are_disjoint.Given as goal

abbrev pub invariant-loop-k : goal.invariant-loop-k
invariant-loop-k l =
    (l.all ≡ union (λ c. get_or l.masks c 0) (drop l.k (child_list l.fn.children)))
    × (l.apart ≡ all_disjoint (λ c. get_or l.masks c 0) (drop l.k (child_list l.fn.children)))
