-- The answers of the reading.
use Rattle.std.specs.Prelude.{ℕ, ◌≤◌, List, Result, Ok, Err, ◌≡◌, length}
use Rattle.steps.specs.Steps.{columns}
use Rattle.steps.specs.declared.Step.{Step}
use Rattle.table.specs.Outcome.{Outcome, answered, refused}
use Rattle.text_script.specs.Faults.{refusal_of}
use Rattle.text_script.specs.declared.answer.Script.{Script}
use Rattle.text_script.specs.declared.answer.ScriptFault.{ScriptFault}

-- the number of steps
abbrev pub script_outcome : Result Script ScriptFault → Outcome ℕ
script_outcome (Ok r) = answered r.count
script_outcome (Err e) = refusal_of e

-- what the code answers where the steps are these, at most `room` of them, or the script is refused
abbrev pub Told : ℕ → Result Script ScriptFault → Outcome (List Step) → Type 0
Told room r (answered es) = (r ≡ Ok (record { columns = columns es; count = length es })) × (length es ≤ room)
Told room r (refused k p) = script_outcome r ≡ refused k p
