-- `states::join_by_cases` meets its contract. The loop's invariant: the variables below x make the term so far.
use Rattle.std.specs.Prelude.{Some}
use Prim.Native.Nat.{◌-◌, ◌≤◌}
use mathlib.Core.Path.{◌≡◌}
use Rattle.masks.specs.Mask.{width}
use Rattle.states.specs.Joining.{made}
use Rattle.states.specs.States.{case_at}
use Rattle.states.proofs.join_by_cases.Given as goal

abbrev pub invariant-loop-x : goal.invariant-loop-x
invariant-loop-x l = (l.x ≤ width) × (made l.x (case_at l.t l.u) ≡ Some l.joined)

abbrev pub decreases-loop-x : goal.decreases-loop-x
decreases-loop-x l = width - l.x
