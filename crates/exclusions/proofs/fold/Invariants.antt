-- `exclusions::fold` meets its contract. The loop's invariant: the first i pairs are folded.
use Prim.Native.Nat.{◌^◌, ◌<◌}
use lib.ListN.{length}
use Rattle.exclusions.specs.Exclusions.{exclusions}
use Rattle.exclusions.specs.Partners.{Folded}
use Rattle.exclusions.proofs.fold.Given as goal

abbrev pub invariant-loop-i : goal.invariant-loop-i
invariant-loop-i l =
    Folded (exclusions l.firsts l.seconds) l.i l.partners l.heads
    × (l.heads < 2 ^ length l.initial.partners)
