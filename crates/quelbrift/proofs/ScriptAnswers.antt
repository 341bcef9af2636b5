-- What is read of a loading script and what its walk says, as the answers at the boundary.
use Prim.Native.Nat.{ℕ}
use mathlib.Core.Path.{◌≡◌, refl, ap, ◌∙◌}
use mathlib.Core.List.{List}
use lib.ListN.{length}
use Rattle.std.specs.Prelude.{Option, Result, Ok, Err}
use Rattle.steps.specs.Steps.{columns, steps_in}
use Rattle.steps.specs.declared.Step.{Step}
use Rattle.text_script.specs.Answers.{script_outcome}
use Rattle.text_script.specs.declared.answer.ScriptFault.{ScriptFault}
use Rattle.walk.specs.Answers.{settled_step, walked_outcome, WalkResult}
use Rattle.walk.specs.Walk.{walk_table, WalkLent, WalkOut}
use Rattle.walk.specs.declared.StepFault.{StepFault}
use Rattle.walk.specs.declared.WalkRefusal.{WalkRefusal}
use Rattle.walk.proofs.Records.{walk-columns}
use Rattle.quelbrift.specs.Boundary.{answer_by, answer_of, number, numbers, reason_of, refused_at}

-- a script that is refused
pub refused-script : (why : ScriptFault)
    → refused_at (reason_of (script_outcome (Err why))).0 (reason_of (script_outcome (Err why))).1
    ≡ answer_of number (script_outcome (Err why))
refused-script ScriptFault.Sizes = refl
refused-script (ScriptFault.Shape p) = refl
refused-script (ScriptFault.Variable p) = refl

-- a walk
pub told-walk : (r : Result (Option ℕ) WalkRefusal)
    → answer_by (λ s. numbers (settled_step s)) (λ why. reason_of (walked_outcome (Err why))) r ≡ answer_of numbers (walked_outcome r)
told-walk (Ok s) = refl
told-walk (Err (WalkRefusal.Step (StepFault.Act i))) = refl
told-walk (Err (WalkRefusal.Step (StepFault.Variable i))) = refl
told-walk (Err (WalkRefusal.Table why)) = refl

module _ (m : List ℕ) (N n : ℕ) (w : List ℕ) (R : ℕ) (es : List Step) where
  -- what the walk says of the columns of the steps holds of the steps: the answer, and the buffers afterwards
  pub walked-columns : {b b' : WalkLent} {r : Result (Option ℕ) WalkRefusal}
      → WalkResult m N n w R (steps_in (columns es) (length es)) b b' r
      → (answer_of numbers (walked_outcome r) ≡ answer_of numbers (walk_table m N n w R es b).answer)
      × (b' ≡ (walk_table m N n w R es b).after)
  walked-columns {b} {b'} h =
      let same : walk_table m N n w R (steps_in (columns es) (length es)) b ≡ walk_table m N n w R es b = walk-columns m N n w R b es in
      let kept : b' ≡ (walk_table m N n w R (steps_in (columns es) (length es)) b).after =
      λ i. record {
        rows = record { positives = h.positives i; negatives = h.negatives i; counts = h.counts i };
        statuses = h.statuses i;
        compatibles = h.compatibles i;
      } in
      (ap (answer_of numbers) (h.answer ∙ ap (λ (o : WalkOut). o.answer) same), kept ∙ ap (λ (o : WalkOut). o.after) same)
