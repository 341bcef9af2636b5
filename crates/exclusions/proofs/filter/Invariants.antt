-- `exclusions::filter` meets its contract. The loop's invariant: the list is filtered up to term k.
use Prim.Native.Nat.{◌≤◌}
use lib.ListN.{length, drop}
use Rattle.lists.specs.List.{SameLoan, slots, terms_in}
use Rattle.exclusions.specs.Exclusions.{Exclusions}
use Rattle.exclusions.specs.Partners.{Folded}
use Rattle.exclusions.proofs.Filtering.{Filtering}
use Rattle.exclusions.proofs.filter.Given as goal

abbrev pub invariant-loop-k : goal.invariant-loop-k
invariant-loop-k l =
    (l.count ≤ l.k)
    × ((e : Exclusions) → Folded e (length e.firsts) l.partners l.heads
    → Filtering e (terms_in l.list) (drop l.k (terms_in l.list)) (length l.initial.kept.positives.now) (slots l.kept) l.count)
    × SameLoan l.initial.kept l.kept
