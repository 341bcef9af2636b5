-- `walk::settled_from` meets its contract. The loop's invariant: every status from k on is 2.
use Prim.Native.Nat.{◌≤◌}
use mathlib.Core.Path.{◌≡◌}
use mathlib.Core.Bool.{true}
use lib.ListN.{length}
use Rattle.walk.specs.Walk.{allowed_from}
use Rattle.walk.proofs.settled_from.Given as goal

abbrev pub invariant-loop-k : goal.invariant-loop-k
invariant-loop-k l = (l.first ≡ l.k) × (l.k ≤ length l.statuses) × (allowed_from l.statuses l.k ≡ true)
