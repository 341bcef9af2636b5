-- The answers of the walk, in the scope's numbers.
use Rattle.std.specs.Prelude.{ℕ, ◌≡◌, List, Option, Some, None, Result, Ok, Err}
use Rattle.table.specs.Outcome.{Outcome, answered, refused, refused_by}
use Rattle.steps.specs.declared.Step.{Step}
use Rattle.walk.specs.Walk.{walk_table, WalkLent}
use Rattle.walk.specs.declared.StepFault.{StepFault}
use Rattle.walk.specs.declared.WalkRefusal.{WalkRefusal}

-- 54 and 55 come with the step
abbrev pub fault_outcome : {A : Type 0} → StepFault → Outcome A
fault_outcome (StepFault.Act i) = refused 54 i
fault_outcome (StepFault.Variable i) = refused 55 i

abbrev pub steps_outcome : Result (Unit {0}) StepFault → Outcome (Unit {0})
steps_outcome (Ok u) = answered tt
steps_outcome (Err f) = fault_outcome f

-- 1 and the step from which on every status is satisfied, or 0 and 0
abbrev pub settled_step : Option ℕ → ℕ × ℕ
settled_step (Some k) = (1, k)
settled_step None = (0, 0)

abbrev pub walked_outcome : Result (Option ℕ) WalkRefusal → Outcome (ℕ × ℕ)
walked_outcome (Ok s) = answered (settled_step s)
walked_outcome (Err (WalkRefusal.Step f)) = fault_outcome f
walked_outcome (Err (WalkRefusal.Table r)) = refused_by r

-- what the walk answers, and what it leaves in each buffer, for all inputs
pub record WalkResult (m : List ℕ) (N n : ℕ) (w : List ℕ) (R : ℕ) (es : List Step) (b b' : WalkLent) (r : Result (Option ℕ) WalkRefusal) : Type 0 where
  pub answer : walked_outcome r ≡ (walk_table m N n w R es b).answer
  pub positives : b'.rows.positives ≡ (walk_table m N n w R es b).after.rows.positives
  pub negatives : b'.rows.negatives ≡ (walk_table m N n w R es b).after.rows.negatives
  pub counts : b'.rows.counts ≡ (walk_table m N n w R es b).after.rows.counts
  pub statuses : b'.statuses ≡ (walk_table m N n w R es b).after.statuses
  pub compatibles : b'.compatibles ≡ (walk_table m N n w R es b).after.compatibles
