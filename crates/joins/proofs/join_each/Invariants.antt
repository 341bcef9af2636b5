-- `joins::join_each` meets its contract. The loop's invariant: the slices hold count terms in their front, and inserting what is left
-- makes the whole list.
use Rattle.lists.specs.List.{SameLoan, slots}
use Rattle.joins.proofs.Turns.{all_made, joining_one, Steps, Turn}
use Rattle.joins.proofs.join_each.Given as goal

abbrev pub invariant-loop-k : goal.invariant-loop-k
invariant-loop-k l =
    let m : Steps = joining_one l.t in
    let first = slots l.initial.list in
    Turn m l.others.positives.now l.others.negatives.now (all_made m l.others.positives.now l.others.negatives.now first l.start) first (slots l.list) l.count l.k
    × SameLoan l.initial.list l.list
