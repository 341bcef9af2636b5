-- Lines as data: a format says what may stand next in each state of a text, and to which state it leads. A state has what is known of the
-- text so far.
use Rattle.std.specs.Prelude.{ℕ, ◌+◌, Bool, false, ◌&&◌, cond, List, [], ◌∷◌, ◌++◌, eqb, ltb, length, get_or}
use Rattle.text.specs.Faults.{unless}
use Rattle.text.specs.Read.{end}
use Rattle.text.specs.Syntax.{decimal}
use Rattle.std.specs.Prelude.{Option, Some, None, is_some}

-- a word, and the state after it
pub record Choice (Q : Type 0) : Type 0 where
  pub word : List ℕ
  pub next : Q

abbrev pub choice : {Q : Type 0} → List ℕ → Q → Choice Q
choice w q = record { word = w; next = q }

pub data Piece (Q : Type 0) : Type 0 where
  -- one of these words; no two begin with the same byte
  words : List (Choice Q) → Piece Q
  -- a number of one to four digits, with the state after it. A value that fails the test is a fault with this number, placed at the
  -- byte after the digits
  number : (ℕ → Bool) → ℕ → (ℕ → Q) → Piece Q

pub record Format (Q : Type 0) : Type 0 where
  -- what may stand next
  pub piece : Q → Piece Q
  -- the text may end here
  pub ends : Q → Bool
  -- the number of a wrong shape
  pub shape : ℕ

-- ---- the word that begins with a byte
abbrev pub first : List ℕ → ℕ
first w = get_or w 0 end

abbrev pub pick : {Q : Type 0} → List (Choice Q) → ℕ → Option (Choice Q)
pick [] b = None
pick (c ∷ cs) b = cond (eqb (first c.word) b) (Some c) (pick cs b)

-- one of the words of a piece begins with the byte
abbrev pub starts : {Q : Type 0} → ℕ → Piece Q → Bool
starts b (words cs) = is_some (pick cs b)
starts b (number test k next) = false

-- ---- a text by its moves: at words the first byte of one of them, at a number its value
module _ {Q : Type 0} (F : Format Q) where
  -- the moves lead from q to a state in which the text may end
  abbrev pub fits_word : (Q → Bool) → Option (Choice Q) → Bool
  fits_word rest None = false
  fits_word rest (Some c) = rest c.next

  abbrev pub fits_piece : ℕ → (Q → Bool) → Piece Q → Bool
  fits_piece m rest (words cs) = fits_word rest (pick cs m)
  fits_piece m rest (number test k next) = ltb m 10000 && rest (next m)

  unfoldable pub fits : Q → List ℕ → Bool
  fits q [] = F.ends q
  fits q (m ∷ ms) = fits_piece m (λ r. fits r ms) (F.piece q)

  -- the text of the moves
  abbrev pub print_word : (Q → List ℕ) → Option (Choice Q) → List ℕ
  print_word rest None = []
  print_word rest (Some c) = c.word ++ rest c.next

  abbrev pub print_piece : ℕ → (Q → List ℕ) → Piece Q → List ℕ
  print_piece m rest (words cs) = print_word rest (pick cs m)
  print_piece m rest (number test k next) = decimal m ++ rest (next m)

  unfoldable pub print : Q → List ℕ → List ℕ
  print q [] = []
  print q (m ∷ ms) = print_piece m (λ r. print r ms) (F.piece q)

  -- the state that they lead to
  abbrev pub last_word : Q → (Q → Q) → Option (Choice Q) → Q
  last_word q rest None = q
  last_word q rest (Some c) = rest c.next

  abbrev pub last_piece : Q → ℕ → (Q → Q) → Piece Q → Q
  last_piece q m rest (words cs) = last_word q rest (pick cs m)
  last_piece q m rest (number test k next) = rest (next m)

  unfoldable pub last : Q → List ℕ → Q
  last q [] = q
  last q (m ∷ ms) = last_piece q m (λ r. last r ms) (F.piece q)

  -- their faults, number and place, in the order of their bytes; the text starts at a place
  abbrev pub faults_word : ℕ → (Q → ℕ → List (ℕ × ℕ)) → Option (Choice Q) → List (ℕ × ℕ)
  faults_word at rest None = []
  faults_word at rest (Some c) = rest c.next (at + length c.word)

  abbrev pub faults_piece : ℕ → ℕ → (Q → ℕ → List (ℕ × ℕ)) → Piece Q → List (ℕ × ℕ)
  faults_piece m at rest (words cs) = faults_word at rest (pick cs m)
  faults_piece m at rest (number test k next) =
      let p : ℕ = at + length (decimal m) in unless (test m) k p ++ rest (next m) p

  unfoldable pub faults : Q → ℕ → List ℕ → List (ℕ × ℕ)
  faults q at [] = []
  faults q at (m ∷ ms) = faults_piece m at (λ r p. faults r p ms) (F.piece q)
