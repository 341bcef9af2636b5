-- The reading of a text by its format, for all inputs: the state in which it ends, or the first fault.
use Rattle.std.specs.Prelude.{ℕ, zero, suc, Bool, ◌&&◌, cond, List, eqb, length}
use Rattle.table.specs.Outcome.{Outcome, answered, refused}
use Rattle.table.specs.Words.{variables_fit}
use Rattle.text.specs.Read.{end, byte_at, number_at, match_at}
use Rattle.lines.specs.Format.{pick, starts, Piece, Format, words, number, Choice}
use Rattle.std.specs.Prelude.{Option, Some, None, Result, Ok, Err}

module _ {Q : Type 0} (F : Format Q) (s : List ℕ) where
  -- `go` reads on in a state from a place
  abbrev pub match_then : (ℕ → Outcome Q) → Result ℕ ℕ → Outcome Q
  match_then go (Ok p) = go p
  match_then go (Err p) = refused F.shape p

  abbrev pub word_then : (Q → ℕ → Outcome Q) → ℕ → Option (Choice Q) → Outcome Q
  word_then go at None = refused F.shape at
  word_then go at (Some c) = match_then (go c.next) (match_at s at c.word)

  -- a value that fails the test is a fault only where what follows has the right shape
  abbrev pub number_then : (Q → ℕ → Outcome Q) → (ℕ → Bool) → ℕ → (ℕ → Q) → ℕ → Option (ℕ × ℕ) → Outcome Q
  number_then go test k next at None = refused F.shape at
  number_then go test k next at (Some (v, p)) =
      cond (test v) (go (next v) p)
      (cond (starts (byte_at s p) (F.piece (next v))) (refused k p) (refused F.shape p))

  abbrev pub read_piece : (Q → ℕ → Outcome Q) → ℕ → Piece Q → Outcome Q
  read_piece go at (words cs) = word_then go at (pick cs (byte_at s at))
  read_piece go at (number test k next) = number_then go test k next at (number_at s at)

  -- the end of the text, or the piece
  abbrev pub end_or : Q → ℕ → Outcome Q → Outcome Q
  end_or q at rest = cond (F.ends q && eqb (byte_at s at) end) (answered q) rest

  -- at most `more` pieces and the end
  unfoldable pub read_some : ℕ → Q → ℕ → Outcome Q
  read_some zero q at = end_or q at (refused F.shape at)
  read_some (suc more) q at = end_or q at (read_piece (read_some more) at (F.piece q))

  -- no text has more pieces than bytes
  unfoldable pub read_from : Q → ℕ → Outcome Q
  read_from q at = read_some (length s) q at

-- a whole text, from the state q on
abbrev pub read_all : {Q : Type 0} → Format Q → Q → List ℕ → Outcome Q
read_all F q s = read_from F s q 0

-- what an answer stands for
abbrev pub mapped : {Q A : Type 0} → (Q → A) → Outcome Q → Outcome A
mapped of (answered q) = answered (of q)
mapped of (refused k p) = refused k p

-- reading a text about N variables: `of` says what the state in which it ends stands for
abbrev pub read_lines : {Q A : Type 0} → Format Q → Q → (Q → A) → ℕ → List ℕ → Outcome A
read_lines F q of N s = cond (variables_fit N) (mapped of (read_all F q s)) (refused 21 0)
