-- The reading of circuit text, for all inputs. A place is a number of bytes from the text's start.
use Prim.Native.Char.{code}
use Rattle.std.specs.Prelude.{ℕ, zero, suc, ◌+◌, ◌-◌, ◌*◌, cond, List, [], ◌∷◌, ltb, leb, eqb, length, get_or, set, replicate}
use Rattle.table.specs.Layout.{room_in, put_words}
use Rattle.table.specs.Node.{children_words, encoded, max_variables, max_nodes, false_number, true_number, positive_number, negative_number}
use Rattle.table.specs.Node.{decision_number, conjunction_number}
use Rattle.table.specs.Outcome.{Outcome, answered, refused}
use Rattle.table.specs.declared.layout.Children.{Children}
use Rattle.table.specs.declared.layout.NodeWords.{NodeWords}
use Rattle.text.specs.Answers.{fault_number}
use Rattle.text.specs.Ascii.{ascii}
use Rattle.text.specs.Limits.{max_bytes, max_depth, max_lines}
use Rattle.text.specs.Syntax.{least_forms, most_forms}
use Rattle.text.specs.Words.{spelling, head_words, or_word}
use Rattle.text.specs.declared.answer.Fault.{Fault}
use Rattle.text.specs.declared.answer.Fault.TheVariants.{Shape, Range, Reference, Depth, Nodes}
use Rattle.text.specs.declared.head.Limits.{Limits}
use Rattle.text.specs.declared.head.Opening.{Opening}
use Rattle.text.specs.declared.head.Opening.TheVariants.{Leaf, Inner, Line}
use Rattle.text.specs.declared.head.Operator.{Operator}
use Rattle.text.specs.declared.head.Operator.TheVariants.{Decision, Conjunction}
use Rattle.text.specs.declared.head.Role.{Role}
use Rattle.text.specs.declared.head.Role.TheVariants.{OwnForm, Argument}
use Rattle.text.specs.declared.head.Word.{Word}
use Rattle.text.specs.declared.head.Word.TheVariants.{False, True, Yes, No, Pick, Both, Line as LineWord}
use Rattle.std.specs.Prelude.{Option, Some, None, Result, Ok, Err}
use Rattle.text.specs.declared.answer.Misread.{Misread}
use Rattle.text.specs.declared.answer.Formed.{Formed}
use Rattle.text.specs.Answers.{misread, formed}

-- ---- bytes and numbers
-- stands for the byte at the end of a text, and is no byte
abbrev pub end : ℕ
end = 256

abbrev pub byte_at : List ℕ → ℕ → ℕ
byte_at s at = get_or s at end

-- the value of the digit at a place, and 10 where none stands
unfoldable pub digit_at : List ℕ → ℕ → ℕ
digit_at s at =
    cond (ltb (byte_at s at) (code "0")) 10 (cond (ltb (code "9") (byte_at s at)) 10 (byte_at s at - code "0"))

-- at most k digits more after those of value v
unfoldable pub digits_at : ℕ → List ℕ → ℕ → ℕ → Option (ℕ × ℕ)
digits_at zero s at v = Some (v, at)
digits_at (suc k) s at v =
    cond (eqb (digit_at s at) 10) (Some (v, at)) (digits_at k s (at + 1) (10 * v + digit_at s at))

-- one to four digits with no leading zero
unfoldable pub number_at : List ℕ → ℕ → Option (ℕ × ℕ)
number_at s at =
    cond (eqb (digit_at s at) 10) None
    (cond (eqb (digit_at s at) 0) (Some (0, at + 1)) (digits_at 3 s (at + 1) (digit_at s at)))

-- ---- the head of a form
-- the bytes of w: the place past them, or that of the first byte that differs
unfoldable pub match_at : List ℕ → ℕ → List ℕ → Result ℕ ℕ
match_at s at [] = Ok at
match_at s at (b ∷ w) = cond (eqb (byte_at s at) b) (match_at s (at + 1) w) (Err at)

abbrev pub ranged_of : List ℕ → ℕ → ℕ → ℕ → ℕ → Fault → Option (ℕ × ℕ) → Result (ℕ × ℕ) Misread
ranged_of s at low high next fault None = misread Shape at
ranged_of s at low high next fault (Some (v, p)) =
    cond (eqb (byte_at s p) next)
    (cond (ltb v low) (misread fault p) (cond (leb high v) (misread fault p) (Ok (v, p))))
    (misread Shape p)

-- a number from low up to below high, before the byte `next`
unfoldable pub ranged_at : List ℕ → ℕ → ℕ → ℕ → ℕ → Fault → Result (ℕ × ℕ) Misread
ranged_at s at low high next fault = ranged_of s at low high next fault (number_at s at)

-- which of the words stands at a place
unfoldable pub word_at : List ℕ → ℕ → List Word → Result (Word × ℕ) ℕ
word_at s at [] = Err at
word_at s at (w ∷ ws) = or_word w (match_at s at (spelling w)) (word_at s at ws)

abbrev pub leaf_of : ℕ → Result (ℕ × ℕ) Misread → Result Opening Misread
leaf_of kind (Err e) = Err e
leaf_of kind (Ok (v, p)) = Ok (Leaf kind v p)

abbrev pub decision_of : Result (ℕ × ℕ) Misread → Result Opening Misread
decision_of (Err e) = Err e
decision_of (Ok (v, p)) = Ok (Inner (Decision v) p)

abbrev pub line_of : Result (ℕ × ℕ) Misread → Result Opening Misread
line_of (Err e) = Err e
line_of (Ok (v, p)) = Ok (Line v p)

-- the variable of a literal
abbrev pub literal_at : List ℕ → ℕ → ℕ → Limits → Result Opening Misread
literal_at s at kind g = leaf_of kind (ranged_at s at 0 g.variables (code ")") Range)

-- what stands after a form's word: no number, a variable or a line
unfoldable pub tail_at : List ℕ → ℕ → Word → Limits → Result Opening Misread
tail_at s at False g = Ok (Leaf false_number 0 at)
tail_at s at True g = Ok (Leaf true_number 0 at)
tail_at s at Yes g = literal_at s at positive_number g
tail_at s at No g = literal_at s at negative_number g
tail_at s at Pick g = decision_of (ranged_at s at 0 g.variables (code " ") Range)
tail_at s at Both g = Ok (Inner Conjunction at)
tail_at s at LineWord g = line_of (ranged_at s at 0 g.earlier (code ")") Reference)

abbrev pub word_then : List ℕ → Limits → Result (Word × ℕ) ℕ → Result Opening Misread
word_then s g (Err p) = misread Shape p
word_then s g (Ok (w, p)) = tail_at s p w g

-- a form's bracket, word and number
unfoldable pub head_at : List ℕ → ℕ → Role → Limits → Result Opening Misread
head_at s at role g =
    cond (eqb (byte_at s at) (code "(")) (word_then s g (word_at s (at + 1) (head_words role))) (misread Shape at)

-- ---- a form
-- an answer with the words afterwards
pub record Stepped : Type 0 where
  pub step : Result Formed Misread
  pub words : List ℕ

abbrev pub stops : Fault → ℕ → List ℕ → Stepped
stops f at w = record { step = misread f at; words = w }

-- a closing bracket makes node n of these words
unfoldable pub close_at : List ℕ → ℕ → List ℕ → ℕ → ℕ → NodeWords → Stepped
close_at s at w n room y =
    cond (eqb (byte_at s at) (code ")"))
    (cond (leb room n) (stops Nodes at w) (record { step = formed (at + 1) (n + 1) n; words = put_words w n y }))
    (stops Shape at w)

-- what does not change while a line is read; `lines` has the node that each earlier line means
pub record Setting : Type 0 where
  pub text : List ℕ
  pub lines : List ℕ
  pub limits : Limits

abbrev pub setting : List ℕ → List ℕ → Limits → Setting
setting s lines g = record { text = s; lines = lines; limits = g }

-- ---- the children of an inner form
-- those read so far, with 0 in the places left
abbrev pub no_children : Children
no_children = children_words []

abbrev pub with_child : Children → ℕ → Children
with_child cs a = record { count = cs.count + 1; nodes = set cs.nodes cs.count a }

abbrev pub operator_words : Operator → Children → NodeWords
operator_words (Decision x) cs = record { kind = decision_number; variable = x; children = cs }
operator_words Conjunction cs = record { kind = conjunction_number; variable = 0; children = cs }

-- the closing bracket, after two forms at least
unfoldable pub end_at : Setting → Operator → ℕ → List ℕ → ℕ → Children → Stepped
end_at g op at w n cs =
    cond (ltb cs.count least_forms) (stops Shape at w)
    (close_at g.text at w n g.limits.room (operator_words op cs))

-- a form was read: `go` reads what follows it
abbrev pub form_then : (ℕ → List ℕ → ℕ → ℕ → Stepped) → List ℕ → Result Formed Misread → Stepped
form_then go w (Err e) = stops e.0 e.1 w
form_then go w (Ok d) = go d.past w d.nodes d.node

-- at most k forms more, each after a space, and the closing bracket
unfoldable pub rest_with : ℕ → (ℕ → List ℕ → ℕ → Stepped) → Setting → Operator → ℕ → List ℕ → ℕ → Children → Stepped
rest_with zero form g op at w n cs = end_at g op at w n cs
rest_with (suc k) form g op at w n cs =
    let r : Stepped = form (at + 1) w n in
    cond (eqb (byte_at g.text at) (code " "))
    (form_then (λ p v m a. rest_with k form g op p v m (with_child cs a)) r.words r.step)
    (end_at g op at w n cs)

abbrev pub opened_of : (ℕ → List ℕ → ℕ → Stepped) → Setting → List ℕ → ℕ → Result Opening Misread → Stepped
opened_of form g w n (Err e) = stops e.0 e.1 w
opened_of form g w n (Ok (Leaf kind x p)) = close_at g.text p w n g.limits.room (encoded kind x [])
opened_of form g w n (Ok (Line k p)) = record { step = formed (p + 1) n (get_or g.lines k 0); words = w }
opened_of form g w n (Ok (Inner op p)) = rest_with (most_forms op) form g op p w n no_children

-- where no more brackets may open: 14 at a bracket
abbrev pub deep_fault : List ℕ → ℕ → Fault
deep_fault s at = cond (eqb (byte_at s at) (code "(")) Depth Shape

-- a form after n nodes, in which d brackets may be open in one another
unfoldable pub form_at : ℕ → Setting → Role → ℕ → List ℕ → ℕ → Stepped
form_at zero g role at w n = stops (deep_fault g.text at) at w
form_at (suc d) g role at w n =
    opened_of (form_at d g Argument) g w n (head_at g.text at role g.limits)

-- the rest of an inner form, after the children cs
unfoldable pub rest_at : ℕ → Setting → Operator → ℕ → List ℕ → ℕ → Children → Stepped
rest_at d g op at w n cs = rest_with (most_forms op - cs.count) (form_at d g Argument) g op at w n cs

-- ---- the whole text
-- the answer, N and n, with every lent word
pub record ReadOut : Type 0 where
  pub answer : Outcome (ℕ × ℕ)
  pub words : List ℕ

abbrev pub answers : Outcome (ℕ × ℕ) → List ℕ → ReadOut
answers a w = record { answer = a; words = w }

-- after a line's own form: byte 10, and then the text's end or the next line
abbrev pub line_end : (ℕ → ℕ → ℕ → List ℕ → ReadOut) → List ℕ → ℕ → List ℕ → Result Formed Misread → ReadOut
line_end next s N w (Err e) = answers (refused (fault_number e.0) e.1) w
line_end next s N w (Ok d) =
    cond (eqb (byte_at s d.past) (code "\n"))
    (cond (eqb (byte_at s (d.past + 1)) end) (answers (answered (N, d.nodes)) w) (next (d.past + 1) d.nodes d.node w))
    (answers (refused 11 d.past) w)

-- the lines from line k on, at most `more`; `lines` has the node that each earlier line means
unfoldable pub lines_at : ℕ → List ℕ → ℕ → ℕ → List ℕ → ℕ → ℕ → ℕ → List ℕ → ReadOut
-- not reached: each line makes a node, and of 1,025 nodes the last has no room
lines_at zero s N room lines k at n w = answers (refused 15 at) w
lines_at (suc more) s N room lines k at n w =
    let g : Limits = record { variables = N; room = room; earlier = k } in
    let r : Stepped = form_at max_depth (setting s lines g) OwnForm at w n in
    line_end (λ p m a v. lines_at more s N room (set lines k a) (k + 1) p m v) s N r.words r.step

abbrev pub header_then : List ℕ → Result (ℕ × ℕ) Misread → Result (ℕ × ℕ) Misread
header_then s (Err e) = Err e
header_then s (Ok (v, p)) = cond (eqb (byte_at s (p + 1)) (code "\n")) (Ok (v, p + 2)) (misread Shape (p + 1))

abbrev pub header_of : List ℕ → Result ℕ ℕ → Result (ℕ × ℕ) Misread
header_of s (Err p) = misread Shape p
header_of s (Ok p) = header_then s (ranged_at s p 1 (max_variables + 1) (code ")") Range)

-- `(circuit N)` and byte 10
unfoldable pub header_at : List ℕ → Result (ℕ × ℕ) Misread
header_at s = header_of s (match_at s 0 (ascii "(circuit "))

-- how many nodes there is room for in m lent words
abbrev pub room_of : ℕ → ℕ
room_of m = cond (ltb (room_in m) max_nodes) (room_in m) max_nodes

-- a refusal leaves every word 0
abbrev pub settled : ℕ → List ℕ → Outcome (ℕ × ℕ) → ReadOut
settled m w (refused k p) = answers (refused k p) (replicate m 0)
settled m w (answered v) = answers (answered v) w

abbrev pub body_of : List ℕ → ℕ → Result (ℕ × ℕ) Misread → ReadOut
body_of s m (Err e) = answers (refused (fault_number e.0) e.1) (replicate m 0)
body_of s m (Ok (N, p)) =
    let r : ReadOut = lines_at max_lines s N (room_of m) (replicate max_lines 0) 0 p 0 (replicate m 0) in
    settled m r.words r.answer

-- reading the text s with m lent words
unfoldable pub read_text : List ℕ → ℕ → ReadOut
read_text s m = cond (ltb max_bytes (length s)) (answers (refused 10 max_bytes) (replicate m 0)) (body_of s m (header_at s))
