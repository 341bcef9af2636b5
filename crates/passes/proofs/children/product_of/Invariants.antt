-- `passes::children::product_of` meets its contract. The invariant speaks of the children from place k on.
use mathlib.Core.Path.{◌≡◌}
use lib.ListN.{get_or, drop}
use Rattle.table.specs.Gate.{child_list}
use Rattle.passes.specs.Models.{product_of}
use Rattle.passes.proofs.children.product_of.Given as goal

abbrev pub invariant-loop-k : goal.invariant-loop-k
invariant-loop-k l =
    l.all
    ≡ product_of l.variables (λ c. get_or l.models c 0) (λ c. get_or l.supports c 0) (drop l.k (child_list l.fn.children))
