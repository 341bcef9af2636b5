-- `passes::bottom_up` meets its contract. The invariant: the array holds what the step makes of each node below `i`.
use Prim.Native.Nat.{ℕ, ◌<◌}
use mathlib.Core.Path.{◌≡◌}
use Rattle.passes.specs.Tables.{Holds}
use Rattle.passes.proofs.Readable.{FilledTo}
use Rattle.passes.proofs.bottom_up.Given as goal

abbrev pub invariant-loop-i : goal.invariant-loop-i
invariant-loop-i g l =
    (f : ℕ → _) → ((i : ℕ) (a : _) (r : _) → i < l.n → Holds l.fn.none f i a.now → goal.F-post g l.step i a r → r ≡ f i)
    → FilledTo l.fn.none f l.i l.values
