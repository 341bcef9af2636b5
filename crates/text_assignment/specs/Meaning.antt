-- What the reading of an assignment line is to answer, said by its language alone.
use Rattle.std.specs.Prelude.{ℕ, List}
use Rattle.table.specs.Outcome.{Outcome}
use Rattle.lines.specs.Meaning.{LinesReadAs}
use Rattle.text_assignment.specs.Syntax.{print_assignment, SmallNumbers, assignment_faults, mask_of}

-- the answer for the line s over N variables: 21, 51 a wrong shape, 52, or the mask
abbrev pub LineReadsAs : List ℕ → ℕ → Outcome ℕ → Type 0
LineReadsAs s N = LinesReadAs SmallNumbers print_assignment (assignment_faults N) 51 mask_of N s
