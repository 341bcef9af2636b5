-- What the inner functions of the reading answer for a line. No public contract rests on these.
use Rattle.std.specs.Prelude.{ℕ, ◌≤◌, List, Result, Ok, Err, ◌≡◌, length}
use Rattle.steps.specs.declared.Step.{Step}
use Rattle.table.specs.Outcome.{Outcome}
use Rattle.text.specs.Read.{match_at}
use Rattle.lines.specs.Reading.{read_from}
use Rattle.text_script.specs.Faults.{refusal_of}
use Rattle.text_script.specs.Script.{with, script_format, State, line}
use Rattle.text_script.specs.declared.answer.ScriptFault.{ScriptFault}
use Rattle.text_script.specs.declared.answer.ScriptFault.TheVariants.{Shape}

-- what is read after the steps es where the line is read as r
abbrev pub line_then : List ℕ → ℕ → ℕ → List Step → Result (Step × ℕ) ScriptFault → Outcome State
line_then s N room es (Ok (t, p)) = read_from (script_format N room) s (line (with es t.variable t.act)) p
line_then s N room es (Err e) = refusal_of e

-- from the place on, in the state q, the format reads what r says, whatever the steps before and the room
abbrev pub Reads : List ℕ → ℕ → (List Step → State) → ℕ → Result (Step × ℕ) ScriptFault → Type 0
Reads s N q at r = (room : ℕ) (es : List Step) → line_then s N room es r ≡ read_from (script_format N room) s (q es) at

abbrev pub ended_by : ℕ → ℕ → Result ℕ ℕ → Result (Step × ℕ) ScriptFault
ended_by v a (Ok p) = Ok (record { variable = v; act = a }, p)
ended_by v a (Err p) = Err (Shape p)

-- a word at the end of a line
abbrev pub Ended : List ℕ → ℕ → List ℕ → ℕ → ℕ → Result (Step × ℕ) ScriptFault → Type 0
Ended s at w v a r = r ≡ ended_by v a (match_at s at w)

-- where the reading stands after a line
abbrev pub LineRuns : List ℕ → ℕ → Result (Step × ℕ) ScriptFault → Type 0
LineRuns s at (Ok (t, p)) = (at ≤ p) × (p ≤ length s)
LineRuns s at (Err e) = Unit
