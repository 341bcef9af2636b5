-- What the inner functions of the reading answer. No public contract rests on these.
use Prim.Native.Char.{code}
use Rattle.std.specs.Prelude.{ℕ, ◌+◌, ◌<◌, ◌≤◌, ◌&&◌, ◌||◌, cond, List, Option, Some, None, Result, Ok, Err, ltb, leb, eqb, length}
use Rattle.table.specs.Outcome.{Outcome, answered, refused}
use Rattle.text.specs.Read.{end, byte_at, number_at}
use Rattle.text_assignment.specs.declared.assignment.AssignmentFault.{AssignmentFault}
use Rattle.text_assignment.specs.declared.assignment.AssignmentFault.TheVariants.{LineShape, LineOrder}

-- a number from low up to below N, before a space or a closing bracket
abbrev pub variable_of : List ℕ → ℕ → ℕ → ℕ → Option (ℕ × ℕ) → Result (Option (ℕ × ℕ)) AssignmentFault
variable_of s N low at None = Err (LineShape at)
variable_of s N low at (Some (v, p)) =
    cond (eqb (byte_at s p) (code " ") || eqb (byte_at s p) (code ")"))
    (cond (leb low v && ltb v N) (Ok (Some (v, p))) (Err (LineOrder p)))
    (Err (LineShape p))

-- a space and a variable, or the closing bracket
unfoldable pub member_at : List ℕ → ℕ → ℕ → ℕ → Result (Option (ℕ × ℕ)) AssignmentFault
member_at s N low at =
    cond (eqb (byte_at s at) (code ")")) (Ok None)
    (cond (eqb (byte_at s at) (code " ")) (variable_of s N low (at + 1) (number_at s (at + 1))) (Err (LineShape at)))

-- after the closing bracket: byte 10 and the line's end
unfoldable pub closed_at : List ℕ → ℕ → ℕ → Outcome ℕ
closed_at s at mask =
    cond (eqb (byte_at s at) (code "\n"))
    (cond (eqb (byte_at s (at + 1)) end) (answered mask) (refused 51 (at + 1)))
    (refused 51 at)

-- where the reading stands before and after it
abbrev pub MemberRuns : List ℕ → ℕ → ℕ → Result (Option (ℕ × ℕ)) AssignmentFault → Type 0
MemberRuns s at N (Ok None) = at < length s
MemberRuns s at N (Ok (Some (v, p))) = (v < N) × (at < p) × (p ≤ length s)
MemberRuns s at N (Err e) = Unit
