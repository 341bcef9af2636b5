-- `walk::count_compatible` meets its contract. The loop's invariant: with the terms that are left, the number is the whole.
use Prim.Native.Nat.{◌+◌, ◌≤◌}
use mathlib.Core.Path.{◌≡◌}
use mathlib.Core.Bool.{Bool, not}
use lib.ListN.{length}
use Rattle.terms.specs.Term.{conflict}
use Rattle.terms.specs.declared.Term.{Term}
use Rattle.walk.proofs.Compatible.{kept_from}
use Rattle.walk.proofs.count_compatible.Given as goal

-- u does not conflict with t
abbrev pub free : Term → Term → Bool
free t u = not (conflict u t)

abbrev pub invariant-loop-k : goal.invariant-loop-k
invariant-loop-k l =
    (l.k ≤ length l.list.positives.now) × (l.found ≤ l.k)
    × (l.found + kept_from (free l.t) l.list l.k ≡ kept_from (free l.t) l.list 0)
