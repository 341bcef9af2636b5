-- `decisions::side::list_side` meets its contract. The invariant: the terms of the side up to k are listed.
use Rattle.lists.specs.List.{SameLoan, slots}
use Prim.Native.Nat.{◌≤◌}
use lib.ListN.{length}
use Rattle.decisions.proofs.OneSide.{SideDone}
use Rattle.decisions.proofs.side.list_side.Given as goal

abbrev pub invariant-loop-k : goal.invariant-loop-k
invariant-loop-k l =
    SideDone l.literal.variable l.literal.sign l.a l.b (slots l.initial.list)
    l.initial.counts.listed (slots l.list) l.kept l.counts l.k
    × (l.end ≤ length l.b.positives.now) × SameLoan l.initial.list l.list
