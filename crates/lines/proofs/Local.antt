-- What is read depends only on the bytes up to where it is found, and not on how many pieces are allowed, if they are enough.
use Prim.Native.Nat.{ℕ, zero, suc, ◌+◌, ◌-◌, ◌<◌, ◌≤◌}
use mathlib.Core.Path.{◌≡◌, refl, sym, ap, ◌∙◌}
use mathlib.Core.Bool.{Bool, ◌&&◌, cond}
use mathlib.Core.List.{List, [], ◌∷◌, ◌++◌}
use native.Mathlib.Omega.{arith}
use native.Mathlib.Decide.{dec_lt}
use lib.Dec.{eqb}
use lib.ListN.{length, take, drop, length-append, get_or-eq_default}
use lib.Seq.{take-add}
use Rattle.table.specs.Outcome.{Outcome, answered, refused}
use Rattle.text.specs.Read.{byte_at, digit_at, number_at, match_at}
use Rattle.text.specs.Syntax.{decimal}
use Rattle.text.proofs.Locality.{SameTo, LocalAnswer, numeral_at, number-loc, match-loc, refused-loc, accepted-loc, if-answer}
use Rattle.text.proofs.Locality.{bind-answer, byte-answer}
use Rattle.text.proofs.Spans.{Span, MatchSaid, match-said, NumberSaid, number-said}
use Rattle.text.proofs.Words.{matched_at}
use Rattle.lines.specs.Format.{pick, starts, Choice, Piece, Format, words, number}
use Rattle.lines.specs.Reading.{match_then, word_then, number_then, read_piece, end_or, read_some, read_from, read_all}
use Rattle.lines.proofs.WellFormed.{IsWord, Each, PieceOk, WellFormed, pick-has, no_end, word_bytes, decimal-word}
use Rattle.std.specs.Prelude.{Option, Some, None, Result, Ok, Err}

module _ {Q : Type 0} where
  same : Outcome Q → Outcome Q
  same a = a

-- ---- a refusal depends on the bytes up to its place
module _ {Q : Type 0} (F : Format Q) (s : List ℕ) where
  match-then : (X : List ℕ → ℕ → Outcome Q) → ((p : ℕ) → LocalAnswer same s (λ z. X z p) p) → (x : Result ℕ ℕ)
      → LocalAnswer same s (λ z. match_then F z (X z) x) (matched_at x)
  unfolding same
  match-then X k (Ok p) = k p
  match-then X k (Err p) = refused-loc same s (refused F.shape p) F.shape p p refl (omega arith)

  word-then : (X : List ℕ → Q → ℕ → Outcome Q) → ((q : Q) (p : ℕ) → LocalAnswer same s (λ z. X z q p) p) → (at : ℕ) (x : Option (Choice Q))
      → LocalAnswer same s (λ z. word_then F z (X z) at x) at
  unfolding same
  word-then X k at None = refused-loc same s (refused F.shape at) F.shape at at refl (omega arith)
  word-then X k at (Some c) =
      bind-answer same s matched_at (λ z. match_at z at c.word) (λ z x. match_then F z (X z c.next) x) at
      (match-loc s c.word at) (match-then (λ z. X z c.next) (k c.next))

  number-then : (X : List ℕ → Q → ℕ → Outcome Q) → ((q : Q) (p : ℕ) → LocalAnswer same s (λ z. X z q p) p)
      → (test : ℕ → Bool) (k : ℕ) (next : ℕ → Q) (at : ℕ) (x : Option (ℕ × ℕ))
      → LocalAnswer same s (λ z. number_then F z (X z) test k next at x) (numeral_at at x)
  unfolding same
  number-then X h test k next at None = refused-loc same s (refused F.shape at) F.shape at at refl (omega arith)
  number-then X h test k next at (Some (v, p)) =
      let wrong : List ℕ → Outcome Q = (λ z. cond (starts (byte_at z p) (F.piece (next v))) (refused k p) (refused F.shape p)) in
      if-answer same s (test v) (λ z. X z (next v) p) wrong p (h (next v) p)
      (byte-answer same s p (λ z c. cond (starts c (F.piece (next v))) (refused k p) (refused F.shape p))
      (λ c. if-answer same s (starts c (F.piece (next v))) (λ z. refused k p) (λ z. refused F.shape p) p
      (refused-loc same s (refused k p) k p p refl (omega arith))
      (refused-loc same s (refused F.shape p) F.shape p p refl (omega arith))))

  piece-loc : (X : List ℕ → Q → ℕ → Outcome Q) → ((q : Q) (p : ℕ) → LocalAnswer same s (λ z. X z q p) p) → (at : ℕ) (y : Piece Q)
      → LocalAnswer same s (λ z. read_piece F z (X z) at y) at
  unfolding same
  piece-loc X h at (words cs) =
      byte-answer same s at (λ z c. word_then F z (X z) at (pick cs c)) (λ c. word-then X h at (pick cs c))
  piece-loc X h at (number test k next) =
      bind-answer same s (numeral_at at) (λ z. number_at z at) (λ z x. number_then F z (X z) test k next at x) at
      (number-loc s at) (number-then X h test k next at)

  end-loc : (q : Q) (at : ℕ) (X : List ℕ → Outcome Q) → LocalAnswer same s X at → LocalAnswer same s (λ z. end_or F z q at (X z)) at
  unfolding same
  end-loc q at X h =
      byte-answer same s at (λ z c. cond (F.ends q && eqb c 256) (answered q) (X z))
      (λ c. if-answer same s (F.ends q && eqb c 256) (λ z. answered q) X at (accepted-loc same s (answered q) q at refl) h)

  some-loc : (more : ℕ) (q : Q) (at : ℕ) → LocalAnswer same s (λ z. read_some F z more q at) at
  unfolding read_some same
  some-loc zero q at =
      end-loc q at (λ z. refused F.shape at) (refused-loc same s (refused F.shape at) F.shape at at refl (omega arith))
  some-loc (suc more) q at =
      end-loc q at (λ z. read_piece F z (read_some F z more) at (F.piece q))
      (piece-loc (λ z. read_some F z more) (some-loc more) at (F.piece q))

-- ---- a piece leaves its place behind
span-past : (s : List ℕ) (at p : ℕ) (x : List ℕ) → IsWord x → Span s at p x → at < p
span-past s at p [] h e = absurd h
span-past s at p (b ∷ x) h e = by (dec_lt at p)
  where
    by : Dec (at < p) → at < p
    by (yes l) = l
    by (no l) =
        let more : List ℕ = take (at - p) (drop p s) in
        let n : at ≡ p + (at - p) = omega arith in
        let back : take at s ≡ take p s ++ more = ap (λ (z : ℕ). take z s) n ∙ take-add p (at - p) s in
        let i : length (take at s) ≡ length (take p s) + length more = ap length back ∙ length-append (take p s) more in
        let j : length (take p s) ≡ length (take at s) + length (b ∷ x) = ap length e ∙ length-append (take at s) (b ∷ x) in
        absurd (omega arith)

-- no number stands at the end
number-end : (s : List ℕ) (at : ℕ) → byte_at s at ≡ 256 → number_at s at ≡ None
unfolding number_at digit_at
number-end s at e = rw e

-- ---- as many pieces as there are bytes left are enough
module _ {Q : Type 0} (F : Format Q) (W : WellFormed F) (s : List ℕ) where
  piece-end : (X : Q → ℕ → Outcome Q) (at : ℕ) (y : Piece Q) → PieceOk F y → length s ≤ at
      → read_piece F s X at y ≡ refused F.shape at
  piece-end X at (words cs) ok l = rw (get_or-eq_default s 256 l, no_end cs ok)
  piece-end X at (number test k next) ok l = rw (number-end s at (get_or-eq_default s 256 l))

  module _ (X Y : Q → ℕ → Outcome Q) (at : ℕ) (h : (q : Q) (p : ℕ) → at < p → X q p ≡ Y q p) where
    word_same : (cs : List (Choice Q)) → Each (λ c. IsWord c.word) cs → (x : Option (Choice Q)) → pick cs (byte_at s at) ≡ x
        → word_then F s X at x ≡ word_then F s Y at x
    word_same cs ok None e = refl
    word_same cs ok (Some c) e = by (match_at s at c.word) (match-said s c.word at (word_bytes c.word w))
      where
        w : IsWord c.word
        w = (pick-has (λ c. IsWord c.word) cs (byte_at s at) c ok e).0

        by : (x : Result ℕ ℕ) → MatchSaid s c.word at x → match_then F s (X c.next) x ≡ match_then F s (Y c.next) x
        by (Ok p) sp = h c.next p (span-past s at p c.word w sp)
        by (Err p) sp = refl

    number_same : (test : ℕ → Bool) (k : ℕ) (next : ℕ → Q) (x : Option (ℕ × ℕ)) → NumberSaid s at x
        → number_then F s X test k next at x ≡ number_then F s Y test k next at x
    number_same test k next None n = refl
    number_same test k next (Some (v, p)) n =
        ap
        (λ (z : Outcome Q). cond (test v) z (cond (starts (byte_at s p) (F.piece (next v))) (refused k p) (refused F.shape p)))
        (h (next v) p (span-past s at p (decimal v) (decimal-word v) n.1))

    piece-same : (y : Piece Q) → PieceOk F y → read_piece F s X at y ≡ read_piece F s Y at y
    piece-same (words cs) ok = word_same cs ok (pick cs (byte_at s at)) refl
    piece-same (number test k next) ok = number_same test k next (number_at s at) (number-said s at)

  some-fuel : (k k' : ℕ) (q : Q) (at : ℕ) → length s ≤ at + k → length s ≤ at + k' → read_some F s k q at ≡ read_some F s k' q at
  unfolding read_some
  some-fuel zero zero q at l l' = refl
  some-fuel zero (suc k') q at l l' =
      ap (end_or F s q at) (sym (piece-end (read_some F s k') at (F.piece q) (W.pieces q) (omega arith)))
  some-fuel (suc k) zero q at l l' =
      ap (end_or F s q at) (piece-end (read_some F s k) at (F.piece q) (W.pieces q) (omega arith))
  some-fuel (suc k) (suc k') q at l l' =
      ap (end_or F s q at)
      (piece-same (read_some F s k) (read_some F s k') at (λ r p h. some-fuel k k' r p (omega arith) (omega arith)) (F.piece q)
      (W.pieces q))

  -- a word that stands at a place, or not the whole of it
  pub word_read : (X : Q → ℕ → Outcome Q) (at : ℕ) (cs : List (Choice Q)) (c : Choice Q) (x : Result ℕ ℕ)
      → pick cs (byte_at s at) ≡ Some c → match_at s at c.word ≡ x
      → word_then F s X at (pick cs (byte_at s at)) ≡ match_then F s (X c.next) x
  word_read X at cs c x e d = ap (word_then F s X at) e ∙ ap (match_then F s (X c.next)) d

  -- the reading from a place on, piece by piece
  pub read_step : (q : Q) (at : ℕ) → read_from F s q at ≡ end_or F s q at (read_piece F s (read_from F s) at (F.piece q))
  unfolding read_from read_some
  read_step q at = some-fuel (length s) (suc (length s)) q at (omega arith) (omega arith)

-- ---- a refusal stands in every text with the same bytes up to its place
pub lines-local : {Q : Type 0} (F : Format Q) (W : WellFormed F) (q : Q) (s s' : List ℕ) (e p : ℕ) → read_all F q s ≡ refused e p
    → SameTo s s' p → read_all F q s' ≡ refused e p
unfolding read_from same
lines-local F W q s s' e p h a =
    let K : ℕ = length s + length s' in
    let f : read_some F s K q 0 ≡ refused e p = some-fuel F W s K (length s) q 0 (omega arith) (omega arith) ∙ h in
    some-fuel F W s' (length s') K q 0 (omega arith) (omega arith) ∙ (some-loc F s K q 0 e p f).1 s' a
