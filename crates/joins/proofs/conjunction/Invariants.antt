-- `joins::conjunction` meets its contract. The loop's invariant: the slices hold count terms in their front, and inserting what is left
-- makes the whole list.

use Rattle.lists.specs.List.{SameLoan, slots, terms_in}
use Rattle.joins.proofs.Turns.{all_made, joining_all, Steps, Turn}
use Rattle.joins.proofs.conjunction.Given as goal

abbrev pub invariant-loop-k : goal.invariant-loop-k
invariant-loop-k l =
    let m : Steps = joining_all (terms_in l.a) in
    let first = slots l.initial.list in
    Turn m l.b.positives.now l.b.negatives.now (all_made m l.b.positives.now l.b.negatives.now first 0) first (slots l.list) l.count l.k
    × SameLoan l.initial.list l.list
