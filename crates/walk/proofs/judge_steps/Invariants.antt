-- `walk::judge_steps` meets its contract. The loop's invariant: what is known is that of the first i steps, and their entries are written.
use Prim.Native.Nat.{ℕ, ◌≤◌}
use mathlib.Core.Path.{◌≡◌}
use mathlib.Core.Bool.{Bool}
use lib.ListN.{length}
use Rattle.steps.specs.Steps.{steps_in}
use Rattle.terms.specs.Completions.{status}
use Rattle.queries.specs.Queries.{circuit}
use Rattle.walk.specs.Known.{known}
use Rattle.walk.specs.Walk.{compatible}
use Rattle.walk.proofs.Entries.{Written}
use Rattle.walk.proofs.judge_steps.Given as goal

abbrev pub invariant-loop-i : goal.invariant-loop-i
invariant-loop-i l =
    let N : ℕ = l.plan.variables in
    let f : ℕ → Bool = circuit l.plan.nodes l.words in
    (l.i ≤ length l.initial.statuses) × (l.known ≡ known N (steps_in l.columns l.i))
    × Written N (status N f) l.columns l.initial.statuses l.i l.statuses
    × Written N (compatible N f) l.columns l.initial.compatibles l.i l.compatibles
