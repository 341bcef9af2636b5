-- What is known of the reader of circuit text (`Readers`): it reads a printed tree as its first fault, its refusals are local, and
-- the bytes before a refusal are viable.
use Prim.Native.Nat.{ℕ, ◌+◌, ◌/◌, ◌%◌, ◌≤◌}
use mathlib.Core.Path.{◌≡◌, ap, subst}
use mathlib.Core.Bool.{Bool, true, false, cond}
use mathlib.Core.List.{List, [], ◌∷◌, ◌++◌}
use native.Mathlib.Nat.{mod-lt, zero-lt-suc}
use native.Mathlib.Omega.{arith}
use lib.Dec.{ltb}
use lib.ListN.{replicate}
use Rattle.table.specs.Outcome.{Outcome, answered, refused}
use Rattle.text.specs.Ascii.{ascii}
use Rattle.text.specs.Faults.{tree_faults}
use Rattle.text.specs.Limits.{max_lines}
use Rattle.text.specs.Meaning.{Bytes}
use Rattle.text.specs.Read.{header_at, answers, room_of, settled, body_of, lines_at, ReadOut}
use Rattle.text.specs.Syntax.{digit_text, decimal, print_operator, print_form, print_forms, print_lines, print, compile, Tree, Grammatical}
use Rattle.text.specs.Syntax.{Form, Forms, constant_form, literal_form, inner_form, line_form, none, more}
use Rattle.text.specs.declared.head.Operator.{Operator}
use Rattle.text.specs.declared.head.Operator.TheVariants.{Decision, Conjunction}
use Rattle.text.proofs.FaultNumbers.{numbered-first, OfTree, tree-numbered}
use Rattle.text.proofs.LocalTexts.{body-local}
use Rattle.text.proofs.PrintedLines.{AnswerRead}
use Rattle.text.proofs.Readers.{Reader, value_not}
use Rattle.text.proofs.Texts.{read_body, tree_good, tree-read}
use Rattle.text.proofs.Viability.{Said, body-said}
use Rattle.std.specs.Prelude.{Result, Ok, Err}
use Rattle.text.specs.declared.answer.Misread.{Misread}

-- ---- the bytes of a printed text are bytes
pub bytes-append : (x y : List ℕ) → Bytes x → Bytes y → Bytes (x ++ y)
bytes-append [] y b c = c
bytes-append (a ∷ x) y b c = (b.0, bytes-append x y b.1 c)

digit-bytes : (unit v : ℕ) → Bytes (digit_text unit v)
digit-bytes unit v = by (ltb v unit)
  where
    by : (b : Bool) → Bytes (cond b [] ((48 + v / unit % 10) ∷ []))
    by true = tt
    by false = (omega (arith, mod-lt (v / unit) (zero-lt-suc 9)), tt)

pub decimal-bytes : (v : ℕ) → Bytes (decimal v)
unfolding decimal
decimal-bytes v =
    bytes-append ((digit_text 1000 v ++ digit_text 100 v) ++ digit_text 10 v) ((48 + v % 10) ∷ [])
    (bytes-append (digit_text 1000 v ++ digit_text 100 v) (digit_text 10 v)
    (bytes-append (digit_text 1000 v) (digit_text 100 v) (digit-bytes 1000 v) (digit-bytes 100 v)) (digit-bytes 10 v))
    (omega arith, tt)

-- a word, a number, and what follows
pub worded : (w : List ℕ) (v : ℕ) (r : List ℕ) → Bytes w → Bytes r → Bytes ((w ++ decimal v) ++ r)
worded w v r b c = bytes-append (w ++ decimal v) r (bytes-append w (decimal v) b (decimal-bytes v)) c

operator-bytes : (op : Operator) → Bytes (print_operator op)
operator-bytes (Decision x) = bytes-append (ascii "(pick ") (decimal x) (omega arith) (decimal-bytes x)
operator-bytes Conjunction = omega arith

mutual
  unfolding print_form

  form-bytes : (f : Form) → Bytes (print_form f)
  form-bytes (constant_form true) = omega arith
  form-bytes (constant_form false) = omega arith
  form-bytes (literal_form true x) = worded (ascii "(yes ") x (41 ∷ []) (omega arith) (omega arith)
  form-bytes (literal_form false x) = worded (ascii "(no ") x (41 ∷ []) (omega arith) (omega arith)
  form-bytes (inner_form op fs) =
      bytes-append (print_operator op ++ print_forms fs) (41 ∷ [])
      (bytes-append (print_operator op) (print_forms fs) (operator-bytes op) (forms-bytes fs)) (omega arith)
  form-bytes (line_form j) = worded (ascii "(line ") j (41 ∷ []) (omega arith) (omega arith)

  forms-bytes : (fs : Forms) → Bytes (print_forms fs)
  forms-bytes none = tt
  forms-bytes (more f fs) = (omega arith, bytes-append (print_form f) (print_forms fs) (form-bytes f) (forms-bytes fs))

lines-bytes : (fs : List Form) → Bytes (print_lines fs)
unfolding print_lines
lines-bytes [] = tt
lines-bytes (f ∷ fs) =
    bytes-append (print_form f ++ (10 ∷ [])) (print_lines fs) (bytes-append (print_form f) (10 ∷ []) (form-bytes f) (omega arith))
    (lines-bytes fs)

pub print-bytes : (t : Tree) → Bytes (print t)
unfolding print
print-bytes t =
    bytes-append ((ascii "(circuit " ++ decimal t.variables) ++ (41 ∷ 10 ∷ [])) (print_lines t.lines)
    (worded (ascii "(circuit ") t.variables (41 ∷ 10 ∷ []) (omega arith) (omega arith)) (lines-bytes t.lines)

-- ---- the reader
pub fault-number : (room : ℕ) (t : Tree) (k p : ℕ) (fs : List (ℕ × ℕ)) → tree_faults room t ≡ (k, p) ∷ fs → (12 ≤ k) × (k ≤ 15)
fault-number room t k p fs c = numbered-first OfTree (tree_faults room t) fs k p (tree-numbered room t) c

pub text-reader : (m : ℕ) → Reader Grammatical print (tree_faults (room_of m)) 11 (λ s. (read_body s m).answer)
text-reader m =
    record {
      bytes = λ t gr. print-bytes t;
      other = λ t k p fs gr c e. let l : 12 ≤ k = (fault-number (room_of m) t k p fs c).0 in absurd (omega arith);
      clean = λ t gr c. ((t.variables, (compile t).nodes), ap (λ (z : ReadOut). z.answer) (reads t gr [] c));
      faulty = λ t k p fs gr c. reads t gr ((k, p) ∷ fs) c;
      local = λ s s' k p h a. (body-local s m k p h).1 s' a;
      viable = λ s k p h. subst (Said s) h (body-said s m);
      whole = λ s v b h. subst (Said s) h (body-said s m) b;
    }
  where
    reads : (t : Tree) → Grammatical t → (fs : List (ℕ × ℕ)) → tree_faults (room_of m) t ≡ fs
        → AnswerRead fs (tree_good t m) (read_body (print t) m)
    reads t gr fs c = subst (λ (z : List (ℕ × ℕ)). AnswerRead z (tree_good t m) (read_body (print t) m)) c (tree-read t m gr)

-- a refusal leaves every word 0
pub refused-words : (s : List ℕ) (m k p : ℕ) → (read_body s m).answer ≡ refused k p → read_body s m ≡ answers (refused k p) (replicate m 0)
refused-words s m k p = by (header_at s)
  where
    settles : (w : List ℕ) (x : Outcome (ℕ × ℕ)) → (settled m w x).answer ≡ refused k p
        → settled m w x ≡ answers (refused k p) (replicate m 0)
    settles w (refused j q) e = ap (λ (z : Outcome (ℕ × ℕ)). answers z (replicate m 0)) e
    settles w (answered v) e = absurd (value_not v k p e)

    by : (x : Result (ℕ × ℕ) Misread) → (body_of s m x).answer ≡ refused k p → body_of s m x ≡ answers (refused k p) (replicate m 0)
    by (Err u) e = ap (λ (z : Outcome (ℕ × ℕ)). answers z (replicate m 0)) e
    by (Ok (N, q)) e =
        let r : ReadOut = lines_at max_lines s N (room_of m) (replicate max_lines 0) 0 q 0 (replicate m 0) in settles r.words r.answer e
