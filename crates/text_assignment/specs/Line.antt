-- Assignment lines as data, and their reading. A line names the variables that are true, rising; every other one is false.
use Rattle.std.specs.Prelude.{ℕ, ◌+◌, Bool, true, false, ◌&&◌, List, [], ◌∷◌, ltb, leb}
use Rattle.masks.specs.Mask.{put}
use Rattle.table.specs.Outcome.{Outcome}
use Rattle.text.specs.Ascii.{ascii}
use Rattle.lines.specs.Format.{choice, Choice, Piece, Format, words, number}
use Rattle.lines.specs.Reading.{read_lines}

pub data State : Type 0 where
  begun : State
  -- a variable from low on may follow; the mask has those before
  members : ℕ → ℕ → State
  member : ℕ → ℕ → State
  closed : ℕ → State

-- a space before a variable, or the end of the line
abbrev pub member_choices : ℕ → ℕ → List (Choice State)
member_choices low mask = choice (ascii " ") (member low mask) ∷ choice (ascii ")\n") (closed mask) ∷ []

abbrev pub line_piece : ℕ → State → Piece State
line_piece N begun = words (choice (ascii "(stow") (members 0 0) ∷ [])
line_piece N (members low mask) = words (member_choices low mask)
line_piece N (member low mask) = number (λ v. leb low v && ltb v N) 52 (λ v. members (v + 1) (put mask v true))
line_piece N (closed mask) = words []

abbrev pub line_ends : State → Bool
line_ends begun = false
line_ends (members low mask) = false
line_ends (member low mask) = false
line_ends (closed mask) = true

abbrev pub line_format : ℕ → Format State
line_format N = record { piece = line_piece N; ends = line_ends; shape = 51 }

-- the mask of a line that has ended
abbrev pub mask_in : State → ℕ
mask_in begun = 0
mask_in (members low mask) = 0
mask_in (member low mask) = 0
mask_in (closed mask) = mask

-- reading the line s over N variables
unfoldable pub read_assignment : List ℕ → ℕ → Outcome ℕ
read_assignment s N = read_lines (line_format N) begun mask_in N s
