-- `pairing::pairs::join_all` meets its contract. The invariant: the pairs of the rows before the next of each side are settled.
use Rattle.lists.specs.List.{SameLoan, slots}
use Prim.Native.Nat.{◌+◌, ◌-◌}
use lib.ListN.{length}
use Rattle.pairing.proofs.Steps.{PairsDone}
use Rattle.pairing.proofs.pairs.join_all.Given as goal

abbrev pub invariant-loop-turn : goal.invariant-loop-turn
invariant-loop-turn l =
    PairsDone l.a l.b (slots l.initial.list)
    l.initial.turn.listed (slots l.list) l.kept l.turn
    × SameLoan l.initial.list l.list

abbrev pub decreases-loop-turn : goal.decreases-loop-turn
decreases-loop-turn l =
    length l.a.positives.now + length l.b.positives.now - (l.turn.low.at + l.turn.high.at)
