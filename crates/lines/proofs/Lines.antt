-- The reading of a text of lines is what `LinesReadAs` says, and nothing else is: for every well-formed format.
use Prim.Native.Nat.{ℕ, suc, ◌+◌, ◌≤◌}
use mathlib.Core.Path.{◌≡◌, refl, sym, ap, subst, ◌∙◌}
use mathlib.Core.Bool.{Bool, not}
use mathlib.Core.Logic.{◌⊎◌, inl, inr, ◌≢◌}
use mathlib.Core.List.{List, [], ◌∷◌, ◌++◌}
use native.Mathlib.Nat.{zero-add}
use native.Mathlib.Omega.{arith}
use lib.Dec.{T, ltb}
use lib.ListN.{length, take, length-append}
use Rattle.masks.proofs.Tests.{and_r, decide, is_true, is_false, same?}
use Rattle.table.specs.Outcome.{Outcome, answered, refused}
use Rattle.table.specs.Words.{variables_fit}
use Rattle.text.specs.Faults.{unless}
use Rattle.text.specs.Language.{IsOut, Begins, FaultAt}
use Rattle.text.specs.Meaning.{Bytes}
use Rattle.text.specs.Syntax.{decimal}
use Rattle.text.proofs.FaultNumbers.{Numbered, numbered-append, numbered-unless, numbered-first}
use Rattle.text.proofs.Readers.{value_not, same-value, same_number, up_to, wrong_first, fault-first, wrong-only, fault-only, Reader}
use Rattle.text.proofs.Refusals.{bytes-append, decimal-bytes}
use Rattle.lines.specs.Format.{pick, fits_word, fits_piece, fits, print_word, print_piece}
use Rattle.lines.specs.Format.{print, last, faults_word, faults_piece, faults, Choice}
use Rattle.lines.specs.Format.{Piece, Format, words, number}
use Rattle.lines.specs.Meaning.{LinesReadAs, Tells}
use Rattle.lines.specs.Reading.{read_some, read_from, read_all, mapped, read_lines}
use Rattle.lines.proofs.Local.{lines-local}
use Rattle.lines.proofs.Printed.{AnswerIs, reads}
use Rattle.lines.proofs.Viable.{Said, lines-said}
use Rattle.lines.proofs.WellFormed.{IsWord, PieceOk, WellFormed, pick-has, word_bytes, decimal-word}
use Rattle.std.specs.Prelude.{Option, Some, None}

-- ---- the moves of a text
module _ {Q : Type 0} (F : Format Q) (W : WellFormed F) where
  piece_bytes : (m : ℕ) (rest : Q → List ℕ) → ((q : Q) → Bytes (rest q)) → (y : Piece Q) → PieceOk F y → Bytes (print_piece F m rest y)
  piece_bytes m rest h (words cs) ok = by (pick cs m) refl
    where
      by : (x : Option (Choice Q)) → pick cs m ≡ x → Bytes (print_word F rest x)
      by None e = tt
      by (Some c) e =
          bytes-append c.word (rest c.next) (word_bytes c.word (pick-has (λ c. IsWord c.word) cs m c ok e).0) (h c.next)
  piece_bytes m rest h (number test k next) ok = bytes-append (decimal m) (rest (next m)) (decimal-bytes m) (h (next m))

  print-bytes : (ms : List ℕ) (q : Q) → Bytes (print F q ms)
  unfolding print
  print-bytes [] q = tt
  print-bytes (m ∷ ms) q = piece_bytes m (λ r. print F r ms) (print-bytes ms) (F.piece q) (W.pieces q)

  -- ---- the numbers of faults are those of the format
  module _ (P : ℕ → Type 0) where
    abbrev pub PieceFault : Piece Q → Type 0
    PieceFault (words cs) = Unit {0}
    PieceFault (number test k next) = P k

    piece-numbered : (m at : ℕ) (rest : Q → ℕ → List (ℕ × ℕ)) → ((q : Q) (p : ℕ) → Numbered P (rest q p)) → (y : Piece Q) → PieceFault y
        → Numbered P (faults_piece F m at rest y)
    piece-numbered m at rest h (words cs) ok = by (pick cs m)
      where
        by : (x : Option (Choice Q)) → Numbered P (faults_word F at rest x)
        by None = tt
        by (Some c) = h c.next (at + length c.word)
    piece-numbered m at rest h (number test k next) ok =
        let p : ℕ = at + length (decimal m) in
        numbered-append P (unless (test m) k p) (rest (next m) p) (numbered-unless P (test m) k p ok) (h (next m) p)

    faults-numbered : ((q : Q) → PieceFault (F.piece q)) → (ms : List ℕ) (q : Q) (at : ℕ) → Numbered P (faults F q at ms)
    unfolding faults
    faults-numbered h [] q at = tt
    faults-numbered h (m ∷ ms) q at = piece-numbered m at (λ r p. faults F r p ms) (faults-numbered h ms) (F.piece q) (h q)

  -- none is that of a wrong shape
  other-piece : (y : Piece Q) → PieceOk F y → PieceFault (λ k. k ≢ F.shape) y
  other-piece (words cs) ok = tt
  other-piece (number test k next) ok = ok.0

  -- a text has no more moves than bytes
  word-length : (w r : List ℕ) (n : ℕ) → IsWord w → n ≤ length r → suc n ≤ length (w ++ r)
  word-length [] r n h l = absurd h
  word-length (b ∷ w) r n h l = omega (arith, length-append (b ∷ w) r)

  piece-length : (m n : ℕ) (rest : Q → List ℕ) (ok : Q → Bool) → ((q : Q) → T (ok q) → n ≤ length (rest q)) → (y : Piece Q)
      → PieceOk F y → T (fits_piece F m ok y) → suc n ≤ length (print_piece F m rest y)
  piece-length m n rest ok h (words cs) w f = by (pick cs m) refl f
    where
      by : (x : Option (Choice Q)) → pick cs m ≡ x → T (fits_word F ok x) → suc n ≤ length (print_word F rest x)
      by None e f = absurd f
      by (Some c) e f =
          word-length c.word (rest c.next) n (pick-has (λ c. IsWord c.word) cs m c w e).0 (h c.next f)
  piece-length m n rest ok h (number test k next) w f =
      word-length (decimal m) (rest (next m)) n (decimal-word m) (h (next m) (and_r (ltb m 10000) (ok (next m)) f))

  moves-most : (ms : List ℕ) (q : Q) → T (fits F q ms) → length ms ≤ length (print F q ms)
  unfolding fits print
  moves-most [] q f = omega arith
  moves-most (m ∷ ms) q f =
      piece-length m (length ms) (λ r. print F r ms) (λ r. fits F r ms) (moves-most ms) (F.piece q) (W.pieces q) f

-- ---- a language of a format: its trees stand for the moves
pub record Language {Q A X : Type 0} (F : Format Q) (start : Q) (of : Q → A) (Ok : X → Type 0) (out : X → List ℕ)
    (wrong : X → List (ℕ × ℕ)) (value : X → A) : Type 0 where
  pub moves : X → List ℕ
  pub fit : (t : X) → Ok t → T (fits F start (moves t))
  pub every : (ms : List ℕ) → T (fits F start ms) → (t : X) × Ok t × (moves t ≡ ms)
  pub prints : (t : X) → Ok t → out t ≡ print F start (moves t)
  pub faulted : (t : X) → Ok t → wrong t ≡ faults F start 0 (moves t)
  pub means : (t : X) → Ok t → of (last F start (moves t)) ≡ value t

module _ {Q A X : Type 0} {F : Format Q} {start : Q} {of : Q → A} {Ok : X → Type 0} {out : X → List ℕ} {wrong : X → List (ℕ × ℕ)}
    {value : X → A} (W : WellFormed F) (L : Language F start of Ok out wrong value) where
  -- a printed tree is read as its first fault, or as what it stands for
  tree-read : (t : X) → Ok t → AnswerIs (wrong t) (answered (last F start (L.moves t))) (read_all F start (out t))
  unfolding read_from
  tree-read t ok =
      let ms : List ℕ = L.moves t in
      let s : List ℕ = out t in
      let e : s ≡ print F start ms = L.prints t ok in
      let n : length ms ≤ length s = rw e (moves-most F W ms start (L.fit t ok)) in
      let r : AnswerIs (faults F start 0 ms) (answered (last F start ms)) (read_some F s (length s) start 0) =
      reads F W s ms (length s) start 0 (L.fit t ok) n (e, zero-add (length (print F start ms)) ∙ ap length (sym e)) in
      subst (λ (z : List (ℕ × ℕ)). AnswerIs z (answered (last F start ms)) (read_some F s (length s) start 0)) (sym (L.faulted t ok)) r

  by-faults : (t : X) → Ok t → (fs : List (ℕ × ℕ)) → wrong t ≡ fs
      → AnswerIs fs (answered (last F start (L.moves t))) (read_all F start (out t))
  by-faults t ok fs c =
      subst (λ (z : List (ℕ × ℕ)). AnswerIs z (answered (last F start (L.moves t))) (read_all F start (out t))) c (tree-read t ok)

  -- the trees of a text of the format
  tree-out : (s : List ℕ) → IsOut (λ ms. T (fits F start ms)) (print F start) s → IsOut Ok out s
  tree-out s (ms, f, e) =
      let (t, ok, i) = L.every ms f in (t, ok, L.prints t ok ∙ ap (print F start) i ∙ e)

  tree-begins : (s : List ℕ) → Begins (λ ms. T (fits F start ms)) (print F start) s → Begins Ok out s
  tree-begins s (ms, rest, f, e) =
      let (t, ok, i) = L.every ms f in (t, rest, ok, e ∙ ap (print F start) (sym i) ∙ sym (L.prints t ok))

  tree-numbered : (P : ℕ → Type 0) → ((q : Q) → PieceFault F W P (F.piece q))
      → (t : X) (k p : ℕ) (fs : List (ℕ × ℕ)) → Ok t → wrong t ≡ (k, p) ∷ fs → P k
  tree-numbered P h t k p fs ok c =
      numbered-first P (wrong t) fs k p (rw (L.faulted t ok) (faults-numbered F W P h (L.moves t) start 0)) c

  -- so of a fault that a text has first
  pub fault-numbered : (P : ℕ → Type 0) → ((q : Q) → PieceFault F W P (F.piece q))
      → (s : List ℕ) (k p : ℕ) → FaultAt Ok out wrong s k p → P k
  fault-numbered P h s k p w =
      let (t, rest, ok, e) = w.viable in let (fs, c) = w.first t rest ok e in tree-numbered P h t k p fs ok c

  lines-reader : Reader Ok out wrong F.shape (read_all F start)
  lines-reader =
      record {
        bytes = λ t ok. rw (L.prints t ok) (print-bytes F W (L.moves t) start);
        other = tree-numbered (λ k. k ≢ F.shape) (λ q. other-piece F W (F.piece q) (W.pieces q));
        clean = λ t ok c. (last F start (L.moves t), by-faults t ok [] c);
        faulty = λ t k p fs ok c. by-faults t ok ((k, p) ∷ fs) c;
        local = λ s s' k p h a. lines-local F W start s s' k p h a;
        viable = λ s k p h. tree-begins (take (up_to F.shape k p) s) (subst (Said F W start s) h (lines-said F W start s));
        whole = λ s v b h. tree-out s (subst (Said F W start s) h (lines-said F W start s) b);
      }

  -- ---- what is read, but for N
  abbrev Clean : List ℕ → A → Type 0
  Clean = Tells Ok out wrong value

  told : (s : List ℕ) (v : A) → Clean s v → mapped of (read_all F start s) ≡ answered v
  told s v h =
      ap (λ (z : List ℕ). mapped of (read_all F start z)) (sym h.prints) ∙ ap (mapped of) (by-faults h.tree h.ok [] h.clean)
      ∙ ap answered (L.means h.tree h.ok ∙ h.means)

  tells : (s : List ℕ) (q : Q) → Bytes s → read_all F start s ≡ answered q → Clean s (of q)
  tells s q b h = from (lines-reader.whole s q b h)
    where
      from : IsOut Ok out s → Clean s (of q)
      from (t, ok, e) = by (wrong t) refl
        where
          here : read_all F start (out t) ≡ answered q
          here = ap (read_all F start) e ∙ h

          by : (fs : List (ℕ × ℕ)) → wrong t ≡ fs → Clean s (of q)
          by [] c =
              let m : answered (last F start (L.moves t)) ≡ answered q = sym (by-faults t ok [] c) ∙ here in
              let i : last F start (L.moves t) ≡ q = same-value (last F start (L.moves t)) q m in
              record { tree = t; ok = ok; clean = c; prints = e; means = sym (L.means t ok) ∙ ap of i }
          by (f ∷ fs) c = absurd (value_not q f.0 f.1 (sym here ∙ by-faults t ok (f ∷ fs) c))

  -- ---- and 21
  out_of_range : (N : ℕ) (s : List ℕ) → T (not (variables_fit N)) → read_lines F start of N s ≡ refused 21 0
  out_of_range N s t = rw (is_false (variables_fit N) t)

  in-range : (N : ℕ) (s : List ℕ) → T (variables_fit N) → read_lines F start of N s ≡ mapped of (read_all F start s)
  in-range N s t = rw (is_true (variables_fit N) t)

  abbrev ReadsAs : ℕ → List ℕ → Outcome A → Type 0
  ReadsAs = LinesReadAs Ok out wrong F.shape value

  placed : (N : ℕ) (s : List ℕ) (k p : ℕ) → T (variables_fit N) → read_all F start s ≡ refused k p → ReadsAs N s (refused k p)
  placed N s k p t h = by (same? k F.shape)
    where
      by : (k ≡ F.shape) ⊎ (k ≢ F.shape) → ReadsAs N s (refused k p)
      by (inl e) = inr (t, inl (e, wrong_first lines-reader s p (h ∙ ap (λ (z : ℕ). refused z p) e)))
      by (inr n) = inr (t, inr (n, fault-first lines-reader s k p h n))

  -- the number and the place of a refusal
  pub lines-refused-is : (N : ℕ) (s : List ℕ) (k p : ℕ) → read_lines F start of N s ≡ refused k p → ReadsAs N s (refused k p)
  lines-refused-is N s k p h = by (decide (variables_fit N)) (read_all F start s) refl
    where
      by : T (variables_fit N) ⊎ T (not (variables_fit N)) → (r : Outcome Q) → read_all F start s ≡ r → ReadsAs N s (refused k p)
      by (inr t) r e = let (i, j) = same_number k p 21 0 (sym h ∙ out_of_range N s t) in inl (i, j, t)
      by (inl t) (answered q) e = absurd (value_not (of q) k p (sym (in-range N s t ∙ ap (mapped of) e) ∙ h))
      by (inl t) (refused j q) e =
          let here : ◌≡◌ {A = Outcome A} (refused j q) (refused k p) = sym (in-range N s t ∙ ap (mapped of) e) ∙ h in
          let (i, d) = same_number j q k p here in placed N s k p t (e ∙ λ c. refused (i c) (d c))

  -- the answer is one that the language allows
  pub lines-reading-is : (N : ℕ) (s : List ℕ) → Bytes s → ReadsAs N s (read_lines F start of N s)
  lines-reading-is N s b = by (decide (variables_fit N)) (read_all F start s) refl
    where
      by : T (variables_fit N) ⊎ T (not (variables_fit N)) → (r : Outcome Q) → read_all F start s ≡ r
          → ReadsAs N s (read_lines F start of N s)
      by (inr t) r e = subst (ReadsAs N s) (sym (out_of_range N s t)) (inl (refl, refl, t))
      by (inl t) (answered q) e = subst (ReadsAs N s) (sym (in-range N s t ∙ ap (mapped of) e)) (t, tells s q b e)
      by (inl t) (refused k p) e = subst (ReadsAs N s) (sym (in-range N s t ∙ ap (mapped of) e)) (placed N s k p t e)

  -- and the only one
  pub lines-reading-only : (N : ℕ) (s : List ℕ) → Bytes s → (a : Outcome A) → ReadsAs N s a → read_lines F start of N s ≡ a
  lines-reading-only N s b (answered v) (t, h) = in-range N s t ∙ told s v h
  lines-reading-only N s b (refused k p) (inl (e, i, t)) = out_of_range N s t ∙ λ d. refused (sym e d) (sym i d)
  lines-reading-only N s b (refused k p) (inr (t, inl (e, o))) =
      in-range N s t ∙ ap (mapped of) (wrong-only lines-reader s p b o) ∙ ap (λ (z : ℕ). refused z p) (sym e)
  lines-reading-only N s b (refused k p) (inr (t, inr (n, o))) =
      in-range N s t ∙ ap (mapped of) (fault-only lines-reader s k p o)
