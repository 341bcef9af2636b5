-- `text_script::script::read_lines` meets its contract. The invariant: after some lines the columns have their steps, and what is left to
-- read is read as the whole is.
use Prim.Native.Nat.{ℕ, ◌-◌, ◌≤◌}
use mathlib.Core.Path.{◌≡◌}
use mathlib.Core.List.{List, []}
use lib.ListN.{length}
use Rattle.steps.specs.Steps.{columns}
use Rattle.steps.specs.declared.Columns.{Columns}
use Rattle.steps.specs.declared.Step.{Step}
use Rattle.text_script.specs.Script.{line}
use Rattle.text_script.proofs.Reading.{on}
use Rattle.text_script.proofs.script.read_lines.Given as goal

-- the steps es were read, and `at` is the place past their lines
pub record Past (s : List ℕ) (N room : ℕ) (cs : Columns) (count at : ℕ) (es : List Step) : Type 0 where
  pub held : cs ≡ columns es
  pub counted : count ≡ length es
  pub few : length es ≤ room
  pub inside : at ≤ length s
  pub left : on s N room (line []) 0 ≡ on s N room (line es) at

abbrev pub invariant-loop-columns : goal.invariant-loop-columns
invariant-loop-columns l = (es : List Step) × Past l.s l.variables l.room l.columns l.count l.at es

abbrev pub decreases-loop-columns : goal.decreases-loop-columns
decreases-loop-columns l = length l.s - l.at
