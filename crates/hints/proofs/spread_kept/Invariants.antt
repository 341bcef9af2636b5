-- `hints::spread_kept` meets its contract. The loop's invariant: each kept term passed cost all words at most.
use Prim.Native.Nat.{◌+◌, ◌*◌, ◌≤◌}
use Rattle.hints.specs.Scratch.{max_words}
use Rattle.hints.proofs.spread_kept.Given as goal

abbrev pub invariant-loop-k : goal.invariant-loop-k
invariant-loop-k l = l.cost ≤ 1 + max_words * l.k
