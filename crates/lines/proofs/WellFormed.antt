-- What the theorems ask of a format, and the words that it gives.
use Prim.Native.Nat.{ℕ, ◌+◌, ◌%◌, ◌<◌, ◌≤◌}
use mathlib.Core.Path.{◌≡◌, refl, subst}
use mathlib.Core.Bool.{Bool, true, false, cond}
use mathlib.Core.Logic.{◌⊎◌, inl, inr, ◌≢◌}
use mathlib.Core.List.{List, [], ◌∷◌, ◌++◌}
use native.Mathlib.Omega.{arith}
use lib.Dec.{T, eqb}
use lib.ListN.{length, length-append}
use borrow.Author.Tests.{eqb-true}
use Rattle.text.specs.Meaning.{Bytes}
use Rattle.text.specs.Syntax.{digit_text, decimal}
use Rattle.text.proofs.Refusals.{decimal-bytes}
use Rattle.lines.specs.Format.{first, pick, fits_word, fits, Choice, Piece, Format, words, number}
use Rattle.std.specs.Prelude.{Option, Some, None}

-- bytes, at least one
abbrev pub IsWord : List ℕ → Type 0
IsWord [] = ⊥
IsWord (b ∷ w) = Bytes (b ∷ w)

module _ {Q : Type 0} where
  -- each choice has the property
  abbrev pub Each : (Choice Q → Type 0) → List (Choice Q) → Type 0
  Each P [] = Unit {0}
  Each P (c ∷ cs) = P c × Each P cs

  -- after a number stand words that begin with no digit, and not the end
  abbrev pub NoDigit : Piece Q → Type 0
  NoDigit (words cs) = Each (λ c. first c.word < 48) cs
  NoDigit (number test k next) = ⊥

  abbrev pub PieceOk : Format Q → Piece Q → Type 0
  PieceOk F (words cs) = Each (λ c. IsWord c.word) cs
  PieceOk F (number test k next) = (k ≢ F.shape) × ((v : ℕ) → (F.ends (next v) ≡ false) × NoDigit (F.piece (next v)))

-- and from each state some text goes on to its end
pub record WellFormed {Q : Type 0} (F : Format Q) : Type 0 where
  pub pieces : (q : Q) → PieceOk F (F.piece q)
  pub lives : (q : Q) → (ms : List ℕ) × T (fits F q ms)

word_first : (w : List ℕ) → IsWord w → first w < 256
word_first [] h = absurd h
word_first (b ∷ w) h = h.0

module _ {Q : Type 0} where
  -- ---- the choice that a byte picks
  same-choice : (c d : Choice Q) → ◌≡◌ {A = Option (Choice Q)} (Some c) (Some d) → c ≡ d
  same-choice c d e = cc

  never : (c : Choice Q) → ◌≡◌ {A = Option (Choice Q)} None (Some c) → ⊥
  never c e = let z : ◌≡◌ {A = ℕ} 0 1 = cc in absurd (omega arith)

  pub pick-has : (P : Choice Q → Type 0) (cs : List (Choice Q)) (b : ℕ) (c : Choice Q) → Each P cs → pick cs b ≡ Some c
      → P c × (first c.word ≡ b)
  pick-has P [] b c h e = absurd (never c e)
  pick-has P (d ∷ cs) b c (p, h) e = by (eqb (first d.word) b) refl e (pick-has P cs b c h)
    where
      by : (t : Bool) → eqb (first d.word) b ≡ t → cond t (Some d) (pick cs b) ≡ Some c
          → (pick cs b ≡ Some c → P c × (first c.word ≡ b)) → P c × (first c.word ≡ b)
      by true k i more =
          let j : d ≡ c = same-choice d c i in
          subst (λ (x : Choice Q). P x × (first x.word ≡ b)) j (p, eqb-true (first d.word) b k)
      by false k i more = more i

  -- some choice has the property
  abbrev pub Any : (Choice Q → Type 0) → List (Choice Q) → Type 0
  Any P [] = ⊥
  Any P (c ∷ cs) = P c ⊎ Any P cs

  -- a move that fits is the first byte of a word
  pub picked-some : (F : Format Q) (rest : Q → Bool) (cs : List (Choice Q)) (m : ℕ) → T (fits_word F rest (pick cs m))
      → Any (λ c. (first c.word ≡ m) × T (rest c.next)) cs
  picked-some F rest [] m f = absurd f
  picked-some F rest (c ∷ cs) m f = by (eqb (first c.word) m) refl f (picked-some F rest cs m)
    where
      by : (t : Bool) → eqb (first c.word) m ≡ t → T (fits_word F rest (cond t (Some c) (pick cs m)))
          → (T (fits_word F rest (pick cs m)) → Any (λ c. (first c.word ≡ m) × T (rest c.next)) cs)
          → Any (λ c. (first c.word ≡ m) × T (rest c.next)) (c ∷ cs)
      by true e f more = inl (eqb-true (first c.word) m e, f)
      by false e f more = inr (more f)

  -- no word begins with the end
  pub no_end : (cs : List (Choice Q)) → Each (λ c. IsWord c.word) cs → pick cs 256 ≡ None
  no_end cs h = by (pick cs 256) refl
    where
      by : (x : Option (Choice Q)) → pick cs 256 ≡ x → pick cs 256 ≡ None
      by None e = e
      by (Some c) e =
          let (w, f) = pick-has (λ c. IsWord c.word) cs 256 c h e in absurd (omega (arith, word_first c.word w, f))

-- ---- what a text begins with
pub word_bytes : (w : List ℕ) → IsWord w → Bytes w
word_bytes [] h = absurd h
word_bytes (b ∷ w) h = h

pub word-cons : (w : List ℕ) → IsWord w → (b : ℕ) × (r : List ℕ) × (w ≡ b ∷ r) × Bytes (b ∷ r) × (first w ≡ b)
word-cons [] h = absurd h
word-cons (b ∷ r) h = (b, r, refl, h, refl)

pub decimal-word : (v : ℕ) → IsWord (decimal v)
unfolding decimal
decimal-word v =
    by (decimal v) (decimal-bytes v)
    (omega (arith, length-append ((digit_text 1000 v ++ digit_text 100 v) ++ digit_text 10 v) ((48 + v % 10) ∷ [])))
  where
    by : (x : List ℕ) → Bytes x → 1 ≤ length x → IsWord x
    by [] h l = absurd (omega arith)
    by (b ∷ x) h l = h
