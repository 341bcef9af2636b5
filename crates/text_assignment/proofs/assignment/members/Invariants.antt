-- `text_assignment::assignment::members` meets its contract. The invariant: what is left to read is read as the whole is.
use Prim.Native.Nat.{◌-◌, ◌≤◌}
use mathlib.Core.Path.{◌≡◌}
use lib.ListN.{length}
use Rattle.text_assignment.specs.Line.{members}
use Rattle.text_assignment.proofs.Members.{rest}
use Rattle.text_assignment.proofs.assignment.members.Given as goal

abbrev pub invariant-loop-v : goal.invariant-loop-v
invariant-loop-v l =
    (l.at ≤ length l.s) × (rest l.s l.variables (members 0 0) l.start ≡ rest l.s l.variables (members l.low l.mask) l.at)

abbrev pub decreases-loop-v : goal.decreases-loop-v
decreases-loop-v l = length l.s - l.at
