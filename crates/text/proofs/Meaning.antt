-- What reading a circuit text means, by the trees that print to it.
use Prim.Native.Nat.{ℕ, ◌+◌, ◌-◌, ◌<◌, ◌≤◌}
use mathlib.Core.Path.{◌≡◌, refl, sym, ap, ap₂, subst, ◌∙◌}
use mathlib.Core.List.{List, [], ◌∷◌, ◌++◌}
use native.Mathlib.Nat.{zero-add}
use native.Mathlib.Omega.{arith}
use native.Mathlib.Decide.{dec_lt}
use lib.ListN.{length, replicate, length-replicate}
use lib.Seq.{sets, sets-eq}
use borrow.Author.Tests.{lt-ltb, le-ltb}
use Rattle.buffers.proofs.Zeros.{drop-zeros}
use Rattle.table.specs.Layout.{words_for, room_in}
use Rattle.table.specs.Node.{max_nodes}
use Rattle.table.specs.Outcome.{Outcome, answered, refused}
use Rattle.text.specs.Faults.{tree_faults}
use Rattle.text.specs.Limits.{max_bytes}
use Rattle.text.specs.Meaning.{Bytes, IsText, Tells}
use Rattle.text.specs.Read.{answers, room_of, read_text, ReadOut}
use Rattle.text.specs.Syntax.{print, compile_lines, compile, Tree, Compiled, Grammatical, Within}
use Rattle.text.proofs.Clean.{lines-compiled, tree-clean, clean-tree}
use Rattle.text.proofs.PrintedLines.{AnswerRead}
use Rattle.text.proofs.Readers.{value_not}
use Rattle.text.proofs.Texts.{read_body, tree_good, tree-read}
use Rattle.text.proofs.Viability.{Said, body-said}

-- a text of at most 110,000 bytes is read by its header and lines
pub short : (s : List ℕ) (m : ℕ) → length s ≤ max_bytes → read_text s m ≡ read_body s m
unfolding read_text
short s m l = rw (le-ltb max_bytes (length s) l)

-- any other is refused with 10
pub long : (s : List ℕ) (m : ℕ) → max_bytes < length s → read_text s m ≡ answers (refused 10 max_bytes) (replicate m 0)
unfolding read_text
long s m l = rw (lt-ltb max_bytes (length s) l)

room-words : (m : ℕ) → words_for (room_of m) ≤ m
room-words m = by (dec_lt (room_in m) max_nodes)
  where
    by : Dec (room_in m < max_nodes) → words_for (room_of m) ≤ m
    by (yes h) = rw (lt-ltb (room_in m) max_nodes h) (omega arith)
    by (no h) = rw (le-ltb (room_in m) max_nodes (omega arith)) (omega arith)

-- the words of a tree that fits, and zeros after them
words_are : (t : Tree) (m : ℕ) → Grammatical t → (compile t).nodes ≤ room_of m
    → sets (replicate m 0) 0 (compile t).words ≡ (compile t).words ++ replicate (m - words_for (compile t).nodes) 0
unfolding compile
words_are t m g l =
    let c : Compiled = compile_lines [] 0 t.lines in
    let (i, j) = lines-compiled [] 0 t.lines g.each in
    let a : length c.words ≡ words_for c.nodes = omega arith in
    let f : 0 + length c.words ≤ length (replicate {A = ℕ} m 0) = omega (arith, room-words m, length-replicate {A = ℕ} m 0) in
    sets-eq c.words (replicate m 0) 0 f
    ∙ ap (λ (z : List ℕ). c.words ++ z) (drop-zeros (0 + length c.words) m ∙ ap (λ (z : ℕ). replicate {A = ℕ} (m - z) 0)
    (zero-add (length c.words) ∙ a))

-- a tree within the limits is read as what it stands for
pub read-complete : (s : List ℕ) (m N n : ℕ) (words : List ℕ) → Tells s m N n words → read_text s m ≡ answers (answered (N, n)) words
read-complete s m N n words h =
    let t : Tree = h.tree in
    let e : length s ≤ max_bytes = subst (λ (z : List ℕ). length z ≤ max_bytes) h.prints h.within.bytes in
    let r : read_body (print t) m ≡ tree_good t m =
    subst (λ (z : List (ℕ × ℕ)). AnswerRead z (tree_good t m) (read_body (print t) m)) (clean-tree (room_of m) t h.grammatical h.within)
    (tree-read t m h.grammatical) in
    short s m e ∙ ap (λ (z : List ℕ). read_body z m) (sym h.prints) ∙ r
    ∙ ap₂ (λ (y : ℕ × ℕ) (z : List ℕ). answers (answered y) z) (λ i. (h.variables i, h.nodes i))
    (words_are t m h.grammatical h.within.nodes
    ∙ ap (λ (z : ℕ). (compile t).words ++ replicate (m - words_for z) 0) h.nodes ∙ h.table)

not-long : (s : List ℕ) (m N n : ℕ) (words : List ℕ) → read_text s m ≡ answers (answered (N, n)) words → length s ≤ max_bytes
not-long s m N n words e = by (dec_lt max_bytes (length s))
  where
    by : Dec (max_bytes < length s) → length s ≤ max_bytes
    by (no l) = omega arith
    by (yes l) =
        absurd (value_not (N, n) 10 max_bytes (ap (λ (z : ReadOut). z.answer) (sym e ∙ long s m l)))

-- a text that is read is that of a tree within the limits, and the words are the tree's
pub read-sound : (s : List ℕ) (m N n : ℕ) (words : List ℕ) → Bytes s → read_text s m ≡ answers (answered (N, n)) words → Tells s m N n words
read-sound s m N n words bytes e = from (accepted bytes)
  where
    l : length s ≤ max_bytes
    l = not-long s m N n words e

    body : read_body s m ≡ answers (answered (N, n)) words
    body = sym (short s m l) ∙ e

    accepted : Bytes s → IsText s
    accepted = subst (Said s) (ap (λ (z : ReadOut). z.answer) body) (body-said s m)

    from : IsText s → Tells s m N n words
    from (t, gr, i) = by (tree_faults (room_of m) t) refl (tree-read t m gr)
      where
        here : read_body (print t) m ≡ answers (answered (N, n)) words
        here = ap (λ (z : List ℕ). read_body z m) i ∙ body

        first : Outcome (ℕ × ℕ) → ℕ
        first (answered v) = v.0
        first (refused k p) = 0

        second : Outcome (ℕ × ℕ) → ℕ
        second (answered v) = v.1
        second (refused k p) = 0

        by : (fs : List (ℕ × ℕ)) → tree_faults (room_of m) t ≡ fs → AnswerRead fs (tree_good t m) (read_body (print t) m) → Tells s m N n words
        by (f ∷ fs) c r = absurd (value_not (N, n) f.0 f.1 (ap (λ (z : ReadOut). z.answer) (sym here) ∙ r))
        by [] c r =
            let w : Within (room_of m) t = tree-clean (room_of m) t gr (subst (λ (z : List ℕ). length z ≤ max_bytes) (sym i) l) c in
            let good : tree_good t m ≡ answers (answered (N, n)) words = sym r ∙ here in
            let v : ◌≡◌ {A = Outcome (ℕ × ℕ)} (answered (t.variables, (compile t).nodes)) (answered (N, n)) = ap
            (λ (z : ReadOut). z.answer) good in
            let nodes : (compile t).nodes ≡ n = ap second v in
            record {
              tree = t;
              grammatical = gr;
              within = w;
              prints = i;
              variables = ap first v;
              nodes = nodes;
              table = sym (words_are t m gr w.nodes ∙ ap (λ (z : ℕ). (compile t).words ++ replicate (m - words_for z) 0) nodes) ∙ ap
                  (λ (z : ReadOut). z.words) good;
            }
