-- The answers of the reading, by the scope's numbers.
use Rattle.std.specs.Prelude.{ℕ, Result, Ok, Err}
use Rattle.table.specs.Outcome.{Outcome, answered, refused}
use Rattle.text_assignment.specs.declared.assignment.AssignmentFault.{AssignmentFault}
use Rattle.text_assignment.specs.declared.assignment.AssignmentFault.TheVariants.{Sizes, LineShape, LineOrder}

-- the mask of the variables that are true
abbrev pub assignment_of : Result ℕ AssignmentFault → Outcome ℕ
assignment_of (Ok m) = answered m
assignment_of (Err Sizes) = refused 21 0
assignment_of (Err (LineShape p)) = refused 51 p
assignment_of (Err (LineOrder p)) = refused 52 p

-- the mask that comes with an answer: 0 where the line is refused
abbrev pub answered_mask : Outcome ℕ → ℕ
answered_mask (answered m) = m
answered_mask (refused k p) = 0
