-- The bytes before a refusal begin a text of the format, and a text that is read is one.
use Prim.Native.Nat.{ℕ, zero, suc, ◌+◌, ◌<◌}
use mathlib.Core.Path.{◌≡◌, refl, sym, ap, subst, ◌∙◌}
use mathlib.Core.Bool.{Bool, true, false, ◌&&◌, cond}
use mathlib.Core.Logic.{◌≢◌}
use mathlib.Core.List.{List, [], ◌∷◌, ◌++◌, append-nil, append_assoc}
use lib.Dec.{T, eqb, ltb, eqb→eq, lt→ltb}
use lib.ListN.{length, take}
use lib.Seq.{take_all}
use Rattle.masks.proofs.Tests.{and_i, and_l, and_r, along}
use Rattle.table.specs.Outcome.{Outcome, answered, refused}
use Rattle.text.specs.Language.{IsOut, Begins}
use Rattle.text.specs.Meaning.{Bytes}
use Rattle.text.specs.Read.{byte_at, number_at, match_at}
use Rattle.text.specs.Syntax.{decimal}
use Rattle.text.proofs.Readers.{up_to, at-shape, at_other}
use Rattle.text.proofs.Spans.{one_byte, MatchSaid, match-said, NumberSaid, number-said, past_end}
use Rattle.lines.specs.Format.{pick, starts, fits, print, Choice, Piece, Format, words, number}
use Rattle.lines.specs.Reading.{match_then, word_then, number_then, read_piece, end_or, read_some, read_from, read_all}
use Rattle.lines.proofs.WellFormed.{IsWord, Each, PieceOk, WellFormed, pick-has, word-cons, word_bytes}
use Rattle.std.specs.Prelude.{Option, Some, None, Result, Ok, Err}
use Rattle.std.specs.Prelude.{is_some}

module _ {Q : Type 0} (F : Format Q) (W : WellFormed F) (start : Q) (s : List ℕ) where
  abbrev Fit : List ℕ → Type 0
  Fit ms = T (fits F start ms)

  -- a text of the format
  abbrev IsText : List ℕ → Type 0
  IsText = IsOut Fit (print F start)

  abbrev pub Said : Outcome Q → Type 0
  Said (refused k p) = Begins Fit (print F start) (take (up_to F.shape k p) s)
  Said (answered r) = Bytes s → IsText s

  -- whatever moves go on from the place, they complete a text
  abbrev Open : Q → ℕ → Type 0
  Open q at = (ms : List ℕ) → T (fits F q ms) → IsText (take at s ++ print F q ms)

  viable : (p : ℕ) (x t : List ℕ) → take p s ≡ x → IsText (x ++ t) → Begins Fit (print F start) (take p s)
  viable p x t e (ms, f, i) = (ms, t, f, ap (λ (z : List ℕ). z ++ t) e ∙ sym i)

  -- a wrong shape after x, which is the beginning of what goes on from the place
  wrong : (p : ℕ) (x t : List ℕ) → take p s ≡ x → IsText (x ++ t) → Said (refused F.shape p)
  wrong p x t e i =
      subst (λ (z : ℕ). Begins Fit (print F start) (take z s)) (sym (at-shape F.shape p)) (viable p x t e i)

  -- nothing more fits at the place
  stuck : (q : Q) (at : ℕ) → Open q at → Said (refused F.shape at)
  stuck q at o = let (ms, f) = W.lives q in wrong at (take at s) (print F q ms) refl (o ms f)

  -- ---- a piece
  module _ (q : Q) (at : ℕ) (o : Open q at) where
    -- the word that b picks, and any moves after it
    word-open : (cs : List (Choice Q)) → F.piece q ≡ words cs → (b : ℕ) (c : Choice Q) → pick cs b ≡ Some c
        → (ms : List ℕ) → T (fits F c.next ms) → IsText (take at s ++ (c.word ++ print F c.next ms))
    unfolding fits print
    word-open cs i b c e ms f = subst IsText (rw (i, e)) (o (b ∷ ms) (rw (i, e) f))

    number-open : (test : ℕ → Bool) (k : ℕ) (next : ℕ → Q) → F.piece q ≡ number test k next → (v : ℕ) → v < 10000
        → (ms : List ℕ) → T (fits F (next v) ms) → IsText (take at s ++ (decimal v ++ print F (next v) ms))
    unfolding fits print
    number-open test k next i v l ms f =
        subst IsText (rw i) (o (v ∷ ms) (rw i (and_i (ltb v 10000) (fits F (next v) ms) (lt→ltb v 10000 l) f)))

    module _ (X : Q → ℕ → Outcome Q) (go : (r : Q) (p : ℕ) → Open r p → Said (X r p)) where
      word-said : (cs : List (Choice Q)) → F.piece q ≡ words cs → Each (λ c. IsWord c.word) cs → (x : Option (Choice Q))
          → pick cs (byte_at s at) ≡ x → Said (word_then F s X at x)
      word-said cs i ok None e = stuck q at o
      word-said cs i ok (Some c) e = by (match_at s at c.word) (match-said s c.word at (word_bytes c.word w))
        where
          w : IsWord c.word
          w = (pick-has (λ c. IsWord c.word) cs (byte_at s at) c ok e).0

          by : (x : Result ℕ ℕ) → MatchSaid s c.word at x → Said (match_then F s (X c.next) x)
          by (Ok p) sp =
              go c.next p
              (λ ms f.
              subst IsText
              (sym (append_assoc (take at s) c.word (print F c.next ms)) ∙ ap (λ (z : List ℕ). z ++ print F c.next ms) (sym sp))
              (word-open cs i (byte_at s at) c e ms f))
          by (Err p) (x, t, j, sp) =
              let (ms, f) = W.lives c.next in
              let after : List ℕ = print F c.next ms in
              let whole : take at s ++ (c.word ++ after) ≡ (take at s ++ x) ++ (t ++ after) =
              ap (λ (z : List ℕ). take at s ++ (z ++ after)) j ∙ ap (λ (z : List ℕ). take at s ++ z) (append_assoc x t after)
              ∙ sym (append_assoc (take at s) x (t ++ after)) in
              wrong p (take at s ++ x) (t ++ after) sp (subst IsText whole (word-open cs i (byte_at s at) c e ms f))

  -- a word of the state begins with the byte at the place, which is so viable
  started-by : (b : ℕ) (y : Piece Q) → starts b y ≡ true → (cs : List (Choice Q)) × (c : Choice Q) × (y ≡ words cs) × (pick cs b ≡ Some c)
  started-by b (number test k next) e = absurd (along (sym e) tt)
  started-by b (words cs) e = by (pick cs b) refl e
    where
      by : (x : Option (Choice Q)) → pick cs b ≡ x → is_some x ≡ true
          → (ds : List (Choice Q)) × (c : Choice Q) × (words cs ≡ words ds) × (pick ds b ≡ Some c)
      by None i e = absurd (along (sym e) tt)
      by (Some c) i e = (cs, c, refl, i)

  started : (q : Q) (p : ℕ) → Open q p → starts (byte_at s p) (F.piece q) ≡ true → Begins Fit (print F start) (take (p + 1) s)
  started q p o e =
      let (cs, c, i, j) = started-by (byte_at s p) (F.piece q) e in
      let (w, f) = pick-has (λ c. IsWord c.word) cs (byte_at s p) c (subst (PieceOk F) i (W.pieces q)) j in
      let (b, r, k, h, g) = word-cons c.word w in
      let (ms, fit) = W.lives c.next in
      let after : List ℕ = print F c.next ms in
      let here : byte_at s p ≡ b = sym f ∙ g in
      let whole : take p s ++ (c.word ++ after) ≡ (take p s ++ (b ∷ [])) ++ (r ++ after) =
      ap (λ (z : List ℕ). take p s ++ (z ++ after)) k ∙ sym (append_assoc (take p s) (b ∷ []) (r ++ after)) in
      viable (p + 1) (take p s ++ (b ∷ [])) (r ++ after) (one_byte s p b h.0 here)
      (subst IsText whole (word-open q p o cs i (byte_at s p) c j ms fit))

  module _ (q : Q) (at : ℕ) (o : Open q at) (X : Q → ℕ → Outcome Q) (go : (r : Q) (p : ℕ) → Open r p → Said (X r p)) where
    value-said : (test : ℕ → Bool) (k : ℕ) (next : ℕ → Q) → F.piece q ≡ number test k next → k ≢ F.shape → (x : Option (ℕ × ℕ))
        → NumberSaid s at x → Said (number_then F s X test k next at x)
    value-said test k next i n None h = stuck q at o
    value-said test k next i n (Some (v, p)) (l, sp) = by (test v) (starts (byte_at s p) (F.piece (next v))) refl
      where
        onward : Open (next v) p
        onward ms f =
            subst IsText
            (sym (append_assoc (take at s) (decimal v) (print F (next v) ms)) ∙ ap (λ (z : List ℕ). z ++ print F (next v) ms) (sym sp))
            (number-open q at o test k next i v l ms f)

        by : (t u : Bool) → starts (byte_at s p) (F.piece (next v)) ≡ u
            → Said (cond t (X (next v) p) (cond u (refused k p) (refused F.shape p)))
        by true u e = go (next v) p onward
        by false true e =
            subst (λ (z : ℕ). Begins Fit (print F start) (take z s)) (sym (at_other F.shape k p n)) (started (next v) p onward e)
        by false false e = stuck (next v) p onward

    piece-said : (y : Piece Q) → F.piece q ≡ y → PieceOk F y → Said (read_piece F s X at y)
    piece-said (words cs) i ok = word-said q at o X go cs i ok (pick cs (byte_at s at)) refl
    piece-said (number test k next) i ok = value-said test k next i ok.0 (number_at s at) (number-said s at)

  -- ---- the end, or a piece
  end-said : (q : Q) (at : ℕ) → Open q at → (r : Outcome Q) → Said r → Said (end_or F s q at r)
  unfolding fits print
  end-said q at o r h = by (F.ends q && eqb (byte_at s at) 256) refl
    where
      by : (t : Bool) → (F.ends q && eqb (byte_at s at) 256) ≡ t → Said (cond t (answered q) r)
      by false e = h
      by true e =
          let both : T (F.ends q && eqb (byte_at s at) 256) = along (sym e) tt in
          let f : T (F.ends q) = and_l (F.ends q) (eqb (byte_at s at) 256) both in
          let g : byte_at s at ≡ 256 = eqb→eq (byte_at s at) 256 (and_r (F.ends q) (eqb (byte_at s at) 256) both) in
          λ bytes. subst IsText (append-nil (take at s) ∙ take_all at s (past_end s at bytes g)) (o [] f)

  some-said : (more : ℕ) (q : Q) (at : ℕ) → Open q at → Said (read_some F s more q at)
  unfolding read_some
  some-said zero q at o = end-said q at o (refused F.shape at) (stuck q at o)
  some-said (suc more) q at o =
      end-said q at o (read_piece F s (read_some F s more) at (F.piece q))
      (piece-said q at o (read_some F s more) (some-said more) (F.piece q) refl (W.pieces q))

  pub lines-said : Said (read_all F start s)
  unfolding read_from
  lines-said = some-said (length s) start 0 (λ ms f. (ms, f, refl))
