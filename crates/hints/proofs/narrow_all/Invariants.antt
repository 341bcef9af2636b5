-- `hints::narrow_all` meets its contract.
use Prim.Native.Nat.{◌≤◌}
use Rattle.hints.proofs.narrow_all.Given as goal

abbrev pub invariant-loop-v : goal.invariant-loop-v
invariant-loop-v l = l.rest ≤ l.mask

abbrev pub decreases-loop-v : goal.decreases-loop-v
decreases-loop-v l = l.rest
