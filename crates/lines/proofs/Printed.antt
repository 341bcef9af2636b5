-- A printed text is read as its first fault, or else as the state that its moves lead to.
use Prim.Native.Nat.{ℕ, zero, suc, ◌+◌, ◌<◌, ◌≤◌}
use mathlib.Core.Path.{◌≡◌, refl, sym, ap, subst, ◌∙◌}
use mathlib.Core.Bool.{Bool, true, false, ◌&&◌, and-false}
use mathlib.Core.List.{List, [], ◌∷◌, ◌++◌}
use native.Mathlib.Omega.{arith}
use lib.Dec.{T, eqb, ltb, ltb→lt}
use lib.ListN.{length}
use borrow.Author.Tests.{ne_eqb}
use Rattle.masks.proofs.Tests.{and_l, and_r, is_true, along}
use Rattle.table.specs.Outcome.{Outcome, answered, refused}
use Rattle.text.specs.Read.{byte_at, number_at}
use Rattle.text.specs.Syntax.{decimal}
use Rattle.text.proofs.Pieces.{Here, byte, ended, past, matched, number as number_read}
use Rattle.lines.specs.Format.{first, pick, starts, fits_word, fits_piece, fits, print_word, print_piece, print, last_word, Choice}
use Rattle.lines.specs.Format.{last_piece, last, faults_word, faults_piece, faults, Piece, Format, words, number}
use Rattle.lines.specs.Reading.{word_then, read_piece, read_some}
use Rattle.lines.proofs.WellFormed.{IsWord, NoDigit, PieceOk, WellFormed, pick-has, word-cons, decimal-word}
use Rattle.std.specs.Prelude.{Some}
use Rattle.std.specs.Prelude.{Option, None, is_some}

-- what is read: the first of the faults, or else the good answer
abbrev pub AnswerIs : {A : Type 0} → List (ℕ × ℕ) → Outcome A → Outcome A → Type 0
AnswerIs [] good r = r ≡ good
AnswerIs (e ∷ fs) good r = r ≡ refused e.0 e.1

module _ {Q : Type 0} (F : Format Q) (W : WellFormed F) where
  -- ---- what a text goes on with
  abbrev BeginsWith : (ℕ → Type 0) → List ℕ → Type 0
  BeginsWith P x = (b : ℕ) × (r : List ℕ) × (x ≡ b ∷ r) × P b

  word-begins : (w r : List ℕ) → IsWord w → BeginsWith (λ b. (b < 256) × (b ≡ first w)) (w ++ r)
  word-begins w r h =
      let (b, x, e, k, f) = word-cons w h in (b, x ++ r, ap (λ (z : List ℕ). z ++ r) e, (k.0, sym f))

  module _ (m : ℕ) (ms : List ℕ) where
    abbrev Fits : Piece Q → Type 0
    Fits p = T (fits_piece F m (λ r. fits F r ms) p)

    abbrev text : Piece Q → List ℕ
    text p = print_piece F m (λ r. print F r ms) p

    -- a byte
    begins : (p : Piece Q) → PieceOk F p → Fits p → BeginsWith (λ b. b < 256) (text p)
    begins (words cs) ok f = by (pick cs m) refl f
      where
        by : (x : Option (Choice Q)) → pick cs m ≡ x → T (fits_word F (λ r. fits F r ms) x)
            → BeginsWith (λ b. b < 256) (print_word F (λ r. print F r ms) x)
        by None e f = absurd f
        by (Some c) e f =
            let h = (pick-has (λ c. IsWord c.word) cs m c ok e).0 in
            let (b, r, i, j) = word-begins c.word (print F c.next ms) h in (b, r, i, j.0)
    begins (number test k next) ok f =
        let (b, r, i, j) = word-begins (decimal m) (print F (next m) ms) (decimal-word m) in (b, r, i, j.0)

    -- after a number, one that starts a word and is no digit
    follows : (p : Piece Q) → PieceOk F p → NoDigit p → Fits p → BeginsWith (λ b. (b < 48) × (starts b p ≡ true)) (text p)
    follows (words cs) ok nd f = by (pick cs m) refl f
      where
        by : (x : Option (Choice Q)) → pick cs m ≡ x → T (fits_word F (λ r. fits F r ms) x)
            → BeginsWith (λ b. (b < 48) × (is_some (pick cs b) ≡ true)) (print_word F (λ r. print F r ms) x)
        by None e f = absurd f
        by (Some c) e f =
            let (h, i) = pick-has (λ c. IsWord c.word) cs m c ok e in
            let low : first c.word < 48 = (pick-has (λ c. first c.word < 48) cs m c nd e).0 in
            let (b, r, j, k) = word-begins c.word (print F c.next ms) h in
            let same : b ≡ m = k.1 ∙ i in
            (b, r, j, (omega arith, ap (λ (z : ℕ). is_some (pick cs z)) same ∙ ap is_some e))
    follows (number test k next) ok nd f = absurd nd

  text-follows : (q : Q) → F.ends q ≡ false → NoDigit (F.piece q) → (ms : List ℕ) → T (fits F q ms)
      → BeginsWith (λ b. (b < 48) × (starts b (F.piece q) ≡ true)) (print F q ms)
  unfolding fits print
  text-follows q e nd [] f = absurd (along e f)
  text-follows q e nd (m ∷ ms) f = follows m ms (F.piece q) (W.pieces q) nd f

  -- ---- one move, and what is read after it
  module _ (s : List ℕ) (m : ℕ) (ms : List ℕ) (more : ℕ)
      (rest : (q : Q) (at : ℕ) → T (fits F q ms) → Here s at (print F q ms)
      → AnswerIs (faults F q at ms) (answered (last F q ms)) (read_some F s more q at)) (q : Q) (at : ℕ) where
    abbrev Reads : Piece Q → Type 0
    Reads p =
        AnswerIs (faults_piece F m at (λ r p. faults F r p ms) p) (answered (last_piece F q m (λ r. last F r ms) p))
        (read_piece F s (read_some F s more) at p)

    piece-reads : (p : Piece Q) → PieceOk F p → Fits m ms p → Here s at (text m ms p) → Reads p
    piece-reads (words cs) ok f h = by (pick cs m) refl f h
      where
        by : (x : Option (Choice Q)) → pick cs m ≡ x → T (fits_word F (λ r. fits F r ms) x) → Here s at (print_word F (λ r. print F r ms) x)
            → AnswerIs (faults_word F at (λ r p. faults F r p ms) x) (answered (last_word F q (λ r. last F r ms) x))
            (word_then F s (read_some F s more) at (pick cs (byte_at s at)))
        by None e f h = absurd f
        by (Some c) e f h =
            let (w, i) = pick-has (λ c. IsWord c.word) cs m c ok e in
            let after : List ℕ = print F c.next ms in
            let (b, r, j, k) = word-begins c.word after w in
            let here : byte_at s at ≡ m = byte s at b r (subst (Here s at) j h) ∙ k.1 ∙ i in
            rw (here, e, matched s c.word after at h) (rest c.next (at + length c.word) f (past s at c.word after h))
    piece-reads (number test k next) (nk, ok) f h = by (test m) refl
      where
        p : ℕ
        p = at + length (decimal m)

        after : List ℕ
        after = print F (next m) ms

        small : m < 10000
        small = ltb→lt m 10000 (and_l (ltb m 10000) (fits F (next m) ms) f)

        fit : T (fits F (next m) ms)
        fit = and_r (ltb m 10000) (fits F (next m) ms) f

        next-byte : BeginsWith (λ b. (b < 48) × (starts b (F.piece (next m)) ≡ true)) after
        next-byte = text-follows (next m) (ok m).0 (ok m).1 ms fit

        here : Here s (at + length (decimal m)) after
        here = past s at (decimal m) after h

        value : number_at s at ≡ Some (m, at + length (decimal m))
        value =
            let (b, r, j, l) = next-byte in
            number_read s m b r at l.0 small (subst (λ (z : List ℕ). Here s at (decimal m ++ z)) j h)

        started : starts (byte_at s (at + length (decimal m))) (F.piece (next m)) ≡ true
        started =
            let (b, r, j, l) = next-byte in
            let e : byte_at s (at + length (decimal m)) ≡ b =
            byte s (at + length (decimal m)) b r (subst (Here s (at + length (decimal m))) j here) in
            ap (λ (z : ℕ). starts z (F.piece (next m))) e ∙ l.1

        by : (t : Bool) → test m ≡ t → Reads (number test k next)
        by true e = rw (value, e) (rest (next m) (at + length (decimal m)) fit here)
        by false e = rw (value, e, started)

  pub reads : (s : List ℕ) (ms : List ℕ) (more : ℕ) (q : Q) (at : ℕ) → T (fits F q ms) → length ms ≤ more → Here s at (print F q ms)
      → AnswerIs (faults F q at ms) (answered (last F q ms)) (read_some F s more q at)
  unfolding fits print faults last read_some
  reads s [] zero q at f l h = rw (is_true (F.ends q) f, ended s at h)
  reads s [] (suc more) q at f l h = rw (is_true (F.ends q) f, ended s at h)
  reads s (m ∷ ms) zero q at f l h = absurd (omega arith)
  reads s (m ∷ ms) (suc more) q at f l h =
      let (b, r, e, lb) = begins m ms (F.piece q) (W.pieces q) f in
      let here : byte_at s at ≡ b = byte s at b r (subst (Here s at) e h) in
      let goes : (F.ends q && eqb (byte_at s at) 256) ≡ false =
      ap (λ (z : Bool). F.ends q && z) (ne_eqb (byte_at s at) 256 (λ i. absurd (omega arith))) ∙ and-false (F.ends q) in
      rw goes
      (piece-reads s m ms more (λ r p g k. reads s ms more r p g (omega arith) k) q at (F.piece q) (W.pieces q) f h)
