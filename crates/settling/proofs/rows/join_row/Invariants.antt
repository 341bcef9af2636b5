-- `settling::rows::join_row` meets its contract. The invariant: the pairs of the row up to j are settled.
use Rattle.lists.specs.List.{SameLoan, nth, slots}
use Rattle.settling.proofs.Grows.{SoFar}
use Rattle.settling.proofs.rows.join_row.Given as goal

abbrev pub invariant-loop-j : goal.invariant-loop-j
invariant-loop-j l =
    SoFar l.a l.b (nth l.a l.at) l.initial.j (slots l.initial.list)
    l.initial.counts.listed (slots l.list) l.kept l.counts l.j
    × SameLoan l.initial.list l.list
