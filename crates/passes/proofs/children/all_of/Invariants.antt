-- `passes::children::all_of` meets its contract. The invariant speaks of the children from place k on.
use mathlib.Core.Path.{◌≡◌}
use mathlib.Core.Bool.{false}
use lib.ListN.{get_or, drop}
use Rattle.terms.specs.Lists.{all}
use Rattle.table.specs.Gate.{child_list}
use Rattle.passes.proofs.children.all_of.Given as goal

abbrev pub invariant-loop-k : goal.invariant-loop-k
invariant-loop-k l = l.each ≡ all (λ c. get_or l.values c false) (drop l.k (child_list l.fn.children))
