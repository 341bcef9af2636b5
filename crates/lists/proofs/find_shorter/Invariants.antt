-- `lists::find_shorter` meets its contract. Both loops' invariant: nothing is found yet, and the search in what is left
-- finds what the whole search finds.
use mathlib.Core.Path.{◌≡◌}
use lib.ListN.{drop}
use Rattle.std.specs.Prelude.{None}
use Rattle.terms.specs.Lists.{any}
use Rattle.lists.specs.List.{terms_in}
use Rattle.lists.specs.Scans.{short, shorter_join}
use Rattle.lists.proofs.Search.{common_of, shorter_from}
use Rattle.lists.proofs.find_shorter.Given as goal

abbrev pub invariant-loop-l : goal.invariant-loop-l
invariant-loop-l l =
    (l.found ≡ None)
    × (any (short l.t l.a) (drop l.l (terms_in l.second)) ≡ any (short l.t l.a) (terms_in l.second))
    × (common_of l.t l.next (drop l.l (terms_in l.second)) ≡ common_of l.t l.t (terms_in l.second))

abbrev pub invariant-pairs : goal.invariant-pairs
invariant-pairs l =
    (l.found ≡ None)
    × (shorter_from l.t (terms_in l.second) l.shared (drop l.k (terms_in l.first))
    ≡ shorter_join (terms_in l.first) (terms_in l.second) l.t)
