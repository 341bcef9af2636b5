-- `nodes::fill_turns` meets its contract. The invariant: what is made from place k on stands where `made` says.
use Prim.Native.Nat.{◌≤◌}
use lib.ListN.{length}
use Rattle.lists.specs.List.{by_sign}
use Rattle.nodes.proofs.Making.{Making}
use Rattle.nodes.proofs.fill_turns.Given as goal

abbrev pub invariant-loop-k : goal.invariant-loop-k
invariant-loop-k l =
    Making (by_sign l.initial.positives l.initial.negatives) l.counts l.part l.k (by_sign l.positives l.negatives) l.made
    × (l.part.capacity ≤ length l.low.positives.now) × (l.part.capacity ≤ length l.high.positives.now)
