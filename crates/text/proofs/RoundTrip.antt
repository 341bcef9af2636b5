-- A table that is written, read again, is that table; and every well-formed table is written where the sink is long enough.
use Prim.Native.Nat.{ℕ, zero, suc, ◌+◌, ◌-◌, ◌<◌, ◌≤◌}
use mathlib.Core.Path.{◌≡◌, refl, sym, ap, ◌∙◌}
use mathlib.Core.Bool.{true, false, not}
use mathlib.Core.Logic.{◌≢◌}
use mathlib.Core.List.Memᴰ
use mathlib.Core.List.{List, [], ◌∷◌, ◌++◌, cons≢nil}
use native.Mathlib.Nat.{not-suc-le-zero, zero-add}
use native.Mathlib.Omega.{arith}
use native.Mathlib.Decide.{dec_lt}
use lib.Dec.{T, ltb, leb→le}
use lib.ListN.{length, take, drop, length-append, replicate}
use lib.Seq.{take_at}
use borrow.Author.Tests.{lt-ltb, le-ltb}
use Rattle.masks.proofs.Tests.{and_l, and_r}
use Rattle.table.specs.Layout.{words_for, room_in}
use Rattle.table.specs.Node.{max_nodes}
use Rattle.table.specs.Outcome.{answered, Outcome, refused}
use Rattle.table.specs.Words.{in_range, malformed, check_words}
use Rattle.table.proofs.Checking.{accepted-by}
use Rattle.text.specs.Limits.{max_bytes}
use Rattle.text.specs.Read.{answers, room_of, read_text}
use Rattle.text.specs.Syntax.{print_lines, print, compile_lines, compile, Tree, Form}
use Rattle.text.specs.Write.{write_text, table_text, write_checked, write_table, WriteOut}
use Rattle.text.proofs.Clean.{lines-compiled}
use Rattle.text.proofs.Meaning.{read-complete}
use Rattle.text.proofs.Readers.{value_not}
use Rattle.text.proofs.WrittenLines.{forms_from, all-forms, decimal-most, lines-fine, lines-compile}

-- ---- what is written of a well-formed table
abbrev written : ℕ → ℕ → List ℕ → Tree
written N n w = record { variables = N; lines = forms_from w 0 n }

module _ (N n : ℕ) (w : List ℕ) (h : check_words N n w ≡ answered tt) where
  well : T (in_range N n w) × ((i : ℕ) → i < n → T (not (malformed N w i)))
  unfolding check_words
  well =
      let (range, none) = accepted-by N n w ((22, malformed N w) ∷ []) h in
      (range, none (22, malformed N w) (Memᴰ.head refl))

  prints : print (written N n w) ≡ table_text N n w
  unfolding table_text
  prints = ap (λ (y : List Form). print (record { variables = N; lines = y })) (sym (all-forms w n))

  -- its text has at most 110,000 bytes
  pub table-text-short : length (table_text N n w) ≤ max_bytes
  unfolding print
  table-text-short =
      let r : T (in_range N n w) = well.0 in
      let l₂ : N ≤ 40 = leb→le N 40 (search (and_l, and_r)) in
      let l₄ : n ≤ 1024 = leb→le n 1024 (search (and_l, and_r)) in
      let (gr, within, count, long) = lines-fine N w n 0 l₂ (omega arith) (λ j l. well.1 j (omega arith)) in
      omega (arith, header-length, long, ap length prints)
    where
      header-length : length (print (written N n w)) ≤ 15 + length (print_lines (forms_from w 0 n))
      header-length = simp length-append (omega (arith, decimal-most N))

  -- read again with words enough, the text is that table
  round_trip : (m : ℕ) → words_for n ≤ m
      → read_text (table_text N n w) m ≡ answers (answered (N, n)) (take (words_for n) w ++ replicate (m - words_for n) 0)
  unfolding compile
  round_trip m lm =
      let r : T (in_range N n w) = well.0 in
      let l₁ : 1 ≤ N = leb→le 1 N (search (and_l, and_r)) in
      let l₂ : N ≤ 40 = leb→le N 40 (search (and_l, and_r)) in
      let l₃ : 1 ≤ n = leb→le 1 n (search (and_l, and_r)) in
      let l₄ : n ≤ 1024 = leb→le n 1024 (search (and_l, and_r)) in
      let l₅ : words_for n ≤ length w = leb→le (words_for n) (length w) (search (and_l, and_r)) in
      let fs : List Form = forms_from w 0 n in
      let z : 0 + n ≡ n = zero-add n in
      let (gr, within, count, long) = lines-fine N w n 0 l₂ (omega arith) (λ j l. well.1 j (omega arith)) in
      let (i, j) = lines-compiled [] 0 fs gr in
      let c : (compile_lines [] 0 fs).words ≡ take (words_for n) w =
      lines-compile N w n 0 [] refl (λ j l. absurd (not-suc-le-zero l)) (λ j l. well.1 j (omega arith)) (omega arith)
      ∙ ap (λ (y : ℕ). take (words_for y) w) z in
      let room : n ≤ room_of m = fits m lm l₄ in
      read-complete (table_text N n w) m N n (take (words_for n) w ++ replicate (m - words_for n) 0)
      (record {
        tree = written N n w;
        grammatical = record { header = omega arith; some = some-form n l₃; each = gr };
        within =
            record {
              bytes = omega (arith, table-text-short, ap length prints);
              low = l₁;
              high = l₂;
              each = within;
              nodes = omega arith;
            };
        prints = prints;
        variables = refl;
        nodes = omega arith;
        table = ap (λ (y : List ℕ). y ++ replicate (m - words_for n) 0) c;
      })
    where
      fits : (m : ℕ) → words_for n ≤ m → n ≤ 1024 → n ≤ room_of m
      fits m l k = by (dec_lt (room_in m) max_nodes)
        where
          by : Dec (room_in m < max_nodes) → n ≤ room_of m
          by (yes a) = rw (lt-ltb (room_in m) max_nodes a) (omega arith)
          by (no a) = rw (le-ltb (room_in m) max_nodes (omega arith)) k

      some-form : (k : ℕ) → 1 ≤ k → forms_from w 0 k ≢ []
      some-form zero l e = absurd (omega arith)
      some-form (suc k) l e = cons≢nil e

-- ---- the theorems
-- a well-formed table is written into a sink that is long enough
pub writes : (N n : ℕ) (w sink : List ℕ) → check_words N n w ≡ answered tt → length (table_text N n w) ≤ length sink
    → (write_table N n w sink).answer ≡ answered (length (table_text N n w))
unfolding write_table
writes N n w sink h l =
    let text : List ℕ = table_text N n w in
    let fits : ltb (length sink) (length text) ≡ false = le-ltb (length sink) (length text) l in
    ap (λ (z : Outcome (Unit {0})). (write_checked text sink z).answer) h ∙ rw fits

-- where a table is written, what stands in the sink is read as that table, and the other words are 0
pub written_read : (N n : ℕ) (w sink : List ℕ) (k m : ℕ) → (write_table N n w sink).answer ≡ answered k → words_for n ≤ m
    → read_text (take k (write_table N n w sink).sink) m
    ≡ answers (answered (N, n)) (take (words_for n) w ++ replicate (m - words_for n) 0)
unfolding write_table
written_read N n w sink k m h l = checked (check_words N n w) refl h
  where
    text : List ℕ
    text = table_text N n w

    -- what is to be shown of what is written
    Again : WriteOut → Type 0
    Again o =
        read_text (take k o.sink) m ≡ answers (answered (N, n)) (take (words_for n) w ++ replicate (m - words_for n) 0)

    sunk : check_words N n w ≡ answered tt → Dec (length sink < length text) → (write_text text sink).answer ≡ answered k
        → Again (write_text text sink)
    sunk c (yes d) e =
        let z : ltb (length sink) (length text) ≡ true = lt-ltb (length sink) (length text) d in
        absurd (value_not k 16 (length text) (sym (rw z at e)))
    sunk c (no d) e =
        let z : ltb (length sink) (length text) ≡ false = le-ltb (length sink) (length text) (omega arith) in
        let f : answered (length text) ≡ answered k = rw z at e in
        let i : length text ≡ k = cc in
        rw z (ap (λ (z : List ℕ). read_text z m) (take_at text (drop (length text) sink) k i) ∙ round_trip N n w c m l)

    checked : (o : Outcome (Unit {0})) → check_words N n w ≡ o → (write_checked text sink o).answer ≡ answered k
        → Again (write_checked text sink o)
    checked (answered u) c e = sunk c (dec_lt (length sink) (length text)) e
    checked (refused j i) c e = absurd (value_not k j i (sym e))
