-- The answers of the operation, in the scope's numbers.
use Rattle.std.specs.Prelude.{ℕ, Result, Ok, Err}
use Rattle.table.specs.Outcome.{Outcome, answered, refused, refused_by}
use Rattle.partial.specs.declared.Judgement.{Judgement}
use Rattle.partial.specs.declared.PartialRefusal.{PartialRefusal}
use Rattle.partial.specs.declared.Status.{Status}

-- "forbidden", "open", "allowed"
abbrev pub status_number : Status → ℕ
status_number Status.Falsified = 0
status_number Status.Undetermined = 1
status_number Status.Satisfied = 2

-- the status and the two numbers of completions
abbrev pub judged : Judgement → ℕ × (ℕ × ℕ)
judged j = (status_number j.status, (j.models, j.countermodels))

-- 53 comes with the measurement
abbrev pub partial_outcome : Result Judgement PartialRefusal → Outcome (ℕ × (ℕ × ℕ))
partial_outcome (Ok j) = answered (judged j)
partial_outcome (Err (PartialRefusal.Measurement i)) = refused 53 i
partial_outcome (Err (PartialRefusal.Table r)) = refused_by r
