-- The language of loading scripts: their lines, how these are printed, their faults, and the steps that they stand for.
use Rattle.std.specs.Prelude.{ℕ, ◌+◌, ◌<◌, ◌≤◌, Bool, true, false, List, [], ◌∷◌, ◌++◌, map, ltb, length}
use Rattle.steps.specs.declared.Step.{Step}
use Rattle.text.specs.Ascii.{ascii}
use Rattle.text.specs.Faults.{unless}
use Rattle.text.specs.Syntax.{decimal}

pub data Line : Type 0 where
  -- `(set V yes)`, or `(set V no)` where the sign is false
  set_line : ℕ → Bool → Line
  -- `(drop V)`
  drop_line : ℕ → Line

abbrev pub variable_of : Line → ℕ
variable_of (set_line v b) = v
variable_of (drop_line v) = v

-- a line up to its variable, and from there on
abbrev pub opening : Line → List ℕ
opening (set_line v b) = ascii "(set "
opening (drop_line v) = ascii "(drop "

abbrev pub closing : Line → List ℕ
closing (set_line v true) = ascii " yes)\n"
closing (set_line v false) = ascii " no)\n"
closing (drop_line v) = ascii ")\n"

unfoldable pub print_line : Line → List ℕ
print_line l = opening l ++ (decimal (variable_of l) ++ closing l)

unfoldable pub print_script : List Line → List ℕ
print_script [] = []
print_script (l ∷ ls) = print_line l ++ print_script ls

-- each number has at most four digits
abbrev pub SmallNumbers : List Line → Type 0
SmallNumbers [] = Unit {0}
SmallNumbers (l ∷ ls) = (variable_of l < 10000) × SmallNumbers ls

-- a script of at most so many lines: a line beyond them is of a wrong shape from its opening bracket on
abbrev pub IsScript : ℕ → List Line → Type 0
IsScript room ls = (length ls ≤ room) × SmallNumbers ls

-- 55: a variable not below N, at the byte after it; the lines start at a place
unfoldable pub script_faults : ℕ → ℕ → List Line → List (ℕ × ℕ)
script_faults N at [] = []
script_faults N at (l ∷ ls) =
    unless (ltb (variable_of l) N) 55 (at + length (opening l) + length (decimal (variable_of l)))
    ++ script_faults N (at + length (print_line l)) ls

-- the step of a line: 0 for no, 1 for yes, 2 for drop
abbrev pub step_of : Line → Step
step_of (set_line v false) = record { variable = v; act = 0 }
step_of (set_line v true) = record { variable = v; act = 1 }
step_of (drop_line v) = record { variable = v; act = 2 }

abbrev pub steps_of : List Line → List Step
steps_of ls = map step_of ls
