-- What the reading of a loading script is to answer, said by its language alone.
use Rattle.std.specs.Prelude.{ℕ, List}
use Rattle.steps.specs.declared.Step.{Step}
use Rattle.table.specs.Outcome.{Outcome}
use Rattle.lines.specs.Meaning.{LinesReadAs}
use Rattle.text_script.specs.Script.{room_for}
use Rattle.text_script.specs.Syntax.{print_script, IsScript, script_faults, steps_of}

-- the answer for the script s over N variables, read into a list of l records: 21, 54 a wrong shape, 55, or the steps
abbrev pub ScriptReadsAs : List ℕ → ℕ → ℕ → Outcome (List Step) → Type 0
ScriptReadsAs s N l = LinesReadAs (IsScript (room_for l)) print_script (script_faults N 0) 54 steps_of N s
