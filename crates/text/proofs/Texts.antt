-- The reading of a printed tree: its first fault, or the table that it stands for.
use Prim.Native.Nat.{ℕ, ◌+◌, ◌<◌, ◌≤◌}
use mathlib.Core.Path.{◌≡◌, refl, sym, ap, ap₂, ◌∙◌}
use mathlib.Core.Bool.{Bool, false, ◌&&◌, cond}
use mathlib.Core.Logic.{◌≢◌}
use mathlib.Core.List.{List, [], ◌∷◌, ◌++◌, append_assoc}
use native.Mathlib.Nat.{not-suc-le-zero, zero-add}
use native.Mathlib.Omega.{arith}
use native.Mathlib.Decide.{dec_lt, dec_le}
use lib.Dec.{ltb, leb}
use lib.ListN.{length, replicate, length-replicate}
use lib.Seq.{sets}
use borrow.Author.Tests.{eq-eqb, lt-ltb, le-ltb, le-leb, lt-leb}
use Rattle.table.specs.Layout.{room_in}
use Rattle.table.specs.Node.{max_nodes}
use Rattle.table.specs.Outcome.{Outcome, answered}
use Rattle.text.specs.Ascii.{ascii}
use Rattle.text.specs.Faults.{unless, lines_faults, tree_faults}
use Rattle.text.specs.Limits.{max_lines}
use Rattle.text.specs.Read.{byte_at, answers, lines_at, header_then, header_of, header_at, room_of, settled, body_of, ReadOut}
use Rattle.text.specs.Syntax.{decimal, print_lines, print, GrammaticalLines, compile_lines, compile, Tree, Grammatical, Form}
use Rattle.text.specs.declared.answer.Fault.TheVariants.{Shape, Range}
use Rattle.text.proofs.Pieces.{Here, byte, past, next, matched, ranged}
use Rattle.text.proofs.PrintedLines.{AnswerRead, lines-read}
use Rattle.std.specs.Prelude.{Ok}
use Rattle.text.specs.Answers.{misread}

pub header-flat : (t : Tree) → print t ≡ ascii "(circuit " ++ (decimal t.variables ++ (41 ∷ 10 ∷ print_lines t.lines))
unfolding print
header-flat t = simp append_assoc

pub room_most : (m : ℕ) → room_of m ≤ max_nodes
room_most m = by (dec_lt (room_in m) max_nodes)
  where
    by : Dec (room_in m < max_nodes) → room_of m ≤ max_nodes
    by (yes h) = rw (lt-ltb (room_in m) max_nodes h) (omega arith)
    by (no h) = rw (le-ltb (room_in m) max_nodes (omega arith)) (omega arith)

settled-read : (m : ℕ) (fs : List (ℕ × ℕ)) (v : ℕ × ℕ) (w : List ℕ) (r : ReadOut) → AnswerRead fs (answers (answered v) w) r
    → AnswerRead fs (answers (answered v) w) (settled m r.words r.answer)
settled-read m [] v w r e = ap (λ (z : ReadOut). settled m z.words z.answer) e
settled-read m (e ∷ fs) v w r h = ap (λ (z : Outcome (ℕ × ℕ)). (settled m r.words z).answer) h

-- the reading of a text, but for its length
abbrev pub read_body : List ℕ → ℕ → ReadOut
read_body s m = body_of s m (header_at s)

-- the table that a tree stands for
abbrev pub tree_good : Tree → ℕ → ReadOut
tree_good t m = answers (answered (t.variables, (compile t).nodes)) (sets (replicate m 0) 0 (compile t).words)

pub tree-read : (t : Tree) (m : ℕ) → Grammatical t → AnswerRead (tree_faults (room_of m) t) (tree_good t m) (read_body (print t) m)
unfolding tree_faults header_at compile
tree-read t m gr = by (dec_le 1 N) (dec_le N 40)
  where
    N : ℕ
    N = t.variables

    s : List ℕ
    s = print t

    p : ℕ
    p = 9 + length (decimal N)

    rest : List ℕ
    rest = 10 ∷ print_lines t.lines

    h₀ : Here s 0 (ascii "(circuit " ++ (decimal N ++ (41 ∷ rest)))
    h₀ = (header-flat t, zero-add (length (ascii "(circuit " ++ (decimal N ++ (41 ∷ rest)))) ∙ ap length (sym (header-flat t)))

    h₁ : Here s 9 (decimal N ++ (41 ∷ rest))
    h₁ = past s 0 (ascii "(circuit ") (decimal N ++ (41 ∷ rest)) h₀

    h₂ : Here s p (41 ∷ rest)
    h₂ = past s 9 (decimal N) (41 ∷ rest) h₁

    h₃ : Here s (p + 1) rest
    h₃ = next s p 41 rest h₂

    h₄ : Here s (p + 2) (print_lines t.lines)
    h₄ = past s p (41 ∷ 10 ∷ []) (print_lines t.lines) h₂

    header : header_at s ≡ header_then s (cond (ltb N 1) (misread Range p) (cond (leb 41 N) (misread Range p) (Ok (N, p))))
    header =
        ap (header_of s) (matched s (ascii "(circuit ") (decimal N ++ (41 ∷ rest)) 0 h₀)
        ∙ ap (header_then s) (ranged s N 1 41 41 9 Range rest gr.header (omega arith) h₁)

    faults : List (ℕ × ℕ)
    faults = unless (leb 1 N && leb N 40) 12 p ++ lines_faults N (room_of m) 0 (p + 2) 0 t.lines

    out : header_at s ≡ misread Range p → leb 1 N && leb N 40 ≡ false → AnswerRead faults (tree_good t m) (body_of s m (header_at s))
    out e f = rw (f, e)

    lines : (fs : List Form) → t.lines ≡ fs → fs ≢ [] → GrammaticalLines fs → Here s (p + 2) (print_lines fs) → 1 ≤ N
        → AnswerRead (lines_faults N (room_of m) 0 (p + 2) 0 fs)
        (answers (answered (N, (compile_lines [] 0 fs).nodes)) (sets (replicate m 0) 0 (compile_lines [] 0 fs).words))
        (body_of s m (Ok (N, p + 2)))
    lines [] e n g h l = absurd (n refl)
    lines (f ∷ fs) e n g h l =
        settled-read m (lines_faults N (room_of m) 0 (p + 2) 0 (f ∷ fs)) (N, (compile_lines [] 0 (f ∷ fs)).nodes)
        (sets (replicate m 0) 0 (compile_lines [] 0 (f ∷ fs)).words)
        (lines_at max_lines s N (room_of m) (replicate max_lines 0) 0 (p + 2) 0 (replicate m 0))
        (lines-read s N (room_of m) (room_most m) fs f max_lines 0 (p + 2) 0 (replicate m 0) (replicate max_lines 0) []
        refl (omega arith) (omega arith) (length-replicate {A = ℕ} max_lines 0) refl (λ j z. absurd (not-suc-le-zero z)) g h)

    by : Dec (1 ≤ N) → Dec (N ≤ 40) → AnswerRead faults (tree_good t m) (body_of s m (header_at s))
    by (no a) b =
        out (header ∙ ap (λ (z : Bool). header_then s (cond z (misread Range p) (cond (leb 41 N) (misread Range p) (Ok (N, p)))))
        (lt-ltb N 1 (omega arith)))
        (ap (λ (z : Bool). z && leb N 40) (lt-leb 1 N (omega arith)))
    by (yes a) (no b) =
        out (header
        ∙ ap₂ (λ (y z : Bool). header_then s (cond y (misread Range p) (cond z (misread Range p) (Ok (N, p))))) (le-ltb N 1 a)
        (le-leb 41 N (omega arith)))
        (ap₂ ◌&&◌ (le-leb 1 N a) (lt-leb N 40 (omega arith)))
    by (yes a) (yes b) =
        let e : header_at s ≡ Ok (N, p + 2) =
        header
        ∙ ap₂ (λ (y z : Bool). header_then s (cond y (misread Range p) (cond z (misread Range p) (Ok (N, p))))) (le-ltb N 1 a)
        (lt-leb 41 N (omega arith))
        ∙ ap (λ (z : Bool). cond z (Ok (N, p + 2)) (misread Shape (p + 1)))
        (eq-eqb (byte_at s (p + 1)) 10 (byte s (p + 1) 10 (print_lines t.lines) h₃)) in
        rw (le-leb 1 N a, le-leb N 40 b, e) (lines t.lines refl gr.some gr.each h₄ a)
