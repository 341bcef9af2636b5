-- Loading scripts as data, and their reading into steps.
use Rattle.std.specs.Prelude.{ℕ, Bool, true, false, cond, List, [], ◌∷◌, ◌++◌, ltb, length, drop}
use Rattle.steps.specs.Steps.{max_steps}
use Rattle.steps.specs.declared.Step.{Step}
use Rattle.table.specs.Outcome.{Outcome, answered, refused}
use Rattle.text.specs.Ascii.{ascii}
use Rattle.lines.specs.Format.{choice, Choice, Piece, Format, words, number}
use Rattle.lines.specs.Reading.{read_lines}

-- each state has the steps of the lines before
pub data State : Type 0 where
  line : List Step → State
  opened : List Step → State
  -- the variable to set, and after it
  setting : List Step → State
  set_to : List Step → ℕ → State
  sign : List Step → ℕ → State
  -- the variable to drop, and after it
  dropping : List Step → State
  dropped : List Step → ℕ → State

abbrev pub with : List Step → ℕ → ℕ → List Step
with es v a = es ++ (record { variable = v; act = a } ∷ [])

-- a line begins where there is room for its step
abbrev pub line_choices : ℕ → List Step → List (Choice State)
line_choices room es = cond (ltb (length es) room) (choice (ascii "(") (opened es) ∷ []) []

abbrev pub opened_choices : List Step → List (Choice State)
opened_choices es = choice (ascii "set ") (setting es) ∷ choice (ascii "drop ") (dropping es) ∷ []

abbrev pub sign_choices : List Step → ℕ → List (Choice State)
sign_choices es v = choice (ascii "yes)\n") (line (with es v 1)) ∷ choice (ascii "no)\n") (line (with es v 0)) ∷ []

abbrev pub script_piece : ℕ → ℕ → State → Piece State
script_piece N room (line es) = words (line_choices room es)
script_piece N room (opened es) = words (opened_choices es)
script_piece N room (setting es) = number (λ v. ltb v N) 55 (set_to es)
script_piece N room (set_to es v) = words (choice (ascii " ") (sign es v) ∷ [])
script_piece N room (sign es v) = words (sign_choices es v)
script_piece N room (dropping es) = number (λ v. ltb v N) 55 (dropped es)
script_piece N room (dropped es v) = words (choice (ascii ")\n") (line (with es v 2)) ∷ [])

abbrev pub script_ends : State → Bool
script_ends (line es) = true
script_ends (opened es) = false
script_ends (setting es) = false
script_ends (set_to es v) = false
script_ends (sign es v) = false
script_ends (dropping es) = false
script_ends (dropped es v) = false

abbrev pub script_format : ℕ → ℕ → Format State
script_format N room = record { piece = script_piece N room; ends = script_ends; shape = 54 }

-- the steps of a script that has ended
abbrev pub steps_in : State → List Step
steps_in (line es) = es
steps_in (opened es) = []
steps_in (setting es) = []
steps_in (set_to es v) = []
steps_in (sign es v) = []
steps_in (dropping es) = []
steps_in (dropped es v) = []

-- how many steps are read into a list of l records
abbrev pub room_for : ℕ → ℕ
room_for l = cond (ltb l max_steps) l max_steps

-- the steps of the script s over N variables, for a list of l records
unfoldable pub read_steps : List ℕ → ℕ → ℕ → Outcome (List Step)
read_steps s N l = read_lines (script_format N (room_for l)) (line []) steps_in N s

-- the answer, the number of steps, with the list afterwards: unchanged past the steps and, refused, throughout
pub record ScriptOut : Type 0 where
  pub answer : Outcome ℕ
  pub steps : List Step

abbrev pub filled : List Step → Outcome (List Step) → ScriptOut
filled list (answered es) = record { answer = answered (length es); steps = es ++ drop (length es) list }
filled list (refused k p) = record { answer = refused k p; steps = list }

-- reading the script into the list
unfoldable pub read_script : List ℕ → ℕ → List Step → ScriptOut
read_script s N list = filled list (read_steps s N (length list))
