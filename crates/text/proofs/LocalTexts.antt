-- A form, a line and a whole text depend only on the bytes up to where they are found.
use Prim.Native.Nat.{ℕ, zero, suc, ◌+◌}
use mathlib.Core.Path.{◌≡◌, refl, sym, ◌∙◌}
use mathlib.Core.Bool.{cond}
use mathlib.Core.List.{List, []}
use native.Mathlib.Omega.{arith}
use lib.Dec.{eqb, ltb, leb}
use lib.ListN.{get_or, set, replicate}
use Rattle.table.specs.Layout.{put_words}
use Rattle.table.specs.Node.{encoded}
use Rattle.table.specs.Outcome.{Outcome, answered, refused}
use Rattle.table.specs.declared.layout.Children.{Children}
use Rattle.table.specs.declared.layout.NodeWords.{NodeWords}
use Rattle.text.specs.Answers.{fault_number}
use Rattle.text.specs.Ascii.{ascii}
use Rattle.text.specs.Limits.{max_lines}
use Rattle.text.specs.Read.{byte_at, match_at, ranged_at, head_at, stops, close_at, setting, no_children, with_child, operator_words, end_at}
use Rattle.text.specs.Read.{form_then, rest_with, opened_of, form_at, answers, line_end, lines_at, header_then, header_of, header_at, room_of}
use Rattle.text.specs.Read.{settled, body_of, Stepped, ReadOut}
use Rattle.text.specs.Syntax.{least_forms, most_forms}
use Rattle.text.specs.declared.answer.Fault.TheVariants.{Shape, Range, Depth, Nodes}
use Rattle.text.specs.declared.head.Limits.{Limits}
use Rattle.text.specs.declared.head.Opening.{Opening}
use Rattle.text.specs.declared.head.Opening.TheVariants.{Leaf, Inner, Line}
use Rattle.text.specs.declared.head.Operator.{Operator}
use Rattle.text.specs.declared.head.Role.{Role}
use Rattle.text.specs.declared.head.Role.TheVariants.{OwnForm, Argument}
use Rattle.text.proofs.LocalHeads.{range_at, opening_at, ranged-loc, head-loc}
use Rattle.text.proofs.Locality.{Local, ret, if, later, bind, at_byte, match-loc, LocalAnswer, refused-loc, accepted-loc, if-answer}
use Rattle.text.proofs.Locality.{later-answer, bind-answer, byte-answer}
use Rattle.text.proofs.Texts.{read_body}
use Rattle.text.proofs.Words.{matched_at}
use Rattle.std.specs.Prelude.{Result, Ok, Err}
use Rattle.text.specs.declared.answer.Misread.{Misread}
use Rattle.text.specs.declared.answer.Formed.{Formed}
use Rattle.text.specs.Answers.{misread, formed}

-- ---- forms
-- where an answer lies
abbrev step_at : Result Formed Misread → ℕ
step_at (Err e) = e.1
step_at (Ok d) = d.past

abbrev stepped_at : Stepped → ℕ
stepped_at x = step_at x.step

module _ (s : List ℕ) where
  close-loc : (at : ℕ) (w : List ℕ) (n room : ℕ) (y : NodeWords) → Local stepped_at s (λ z. close_at z at w n room y) at
  unfolding close_at
  close-loc at w n room y =
      let full : Stepped = stops Nodes at w in
      let made : Stepped = record { step = formed (at + 1) (n + 1) n; words = put_words w n y } in
      let shape : Stepped = stops Shape at w in
      at_byte stepped_at s at (λ z c. cond (eqb c 41) (cond (leb room n) full made) shape)
      (λ c. if stepped_at s (eqb c 41) (λ z. cond (leb room n) full made) (λ z. shape) at
      (if stepped_at s (leb room n) (λ z. full) (λ z. made) at (ret stepped_at s full at (omega arith))
      (ret stepped_at s made at (omega arith)))
      (ret stepped_at s shape at (omega arith)))

  -- a form was read, and then what follows it
  then_by : (X : List ℕ → ℕ → List ℕ → ℕ → ℕ → Stepped) → ((p : ℕ) (v : List ℕ) (m a : ℕ) → Local stepped_at s (λ z. X z p v m a) p)
      → (w : List ℕ) (x : Result Formed Misread) → Local stepped_at s (λ z. form_then (X z) w x) (step_at x)
  then_by X f w (Err e) = ret stepped_at s (stops e.0 e.1 w) e.1 (omega arith)
  then_by X f w (Ok d) = f d.past w d.nodes d.node

  -- a reader of forms, for each text
  module _ (F : List ℕ → ℕ → List ℕ → ℕ → Stepped) (f : (at : ℕ) (w : List ℕ) (n : ℕ) → Local stepped_at s (λ z. F z at w n) at)
      (lines : List ℕ) (g : Limits) where
    end-loc : (op : Operator) (at : ℕ) (w : List ℕ) (n : ℕ) (cs : Children)
        → Local stepped_at s (λ z. end_at (setting z lines g) op at w n cs) at
    unfolding end_at
    end-loc op at w n cs =
        if stepped_at s (ltb cs.count least_forms) (λ z. stops Shape at w) (λ z. close_at z at w n g.room (operator_words op cs)) at
        (ret stepped_at s (stops Shape at w) at (omega arith)) (close-loc at w n g.room (operator_words op cs))

    rest-loc : (op : Operator) (k at : ℕ) (w : List ℕ) (n : ℕ) (cs : Children)
        → Local stepped_at s (λ z. rest_with k (F z) (setting z lines g) op at w n cs) at
    unfolding rest_with
    rest-loc op zero at w n cs = end-loc op at w n cs
    rest-loc op (suc k) at w n cs =
        let X : List ℕ → ℕ → List ℕ → ℕ → ℕ → Stepped =
        (λ z p v m a. rest_with k (F z) (setting z lines g) op p v m (with_child cs a)) in
        let K : List ℕ → Stepped → Stepped = (λ z r. form_then (X z) r.words r.step) in
        let child : List ℕ → Stepped = (λ z. K z (F z (at + 1) w n)) in
        let closed : List ℕ → Stepped = (λ z. end_at (setting z lines g) op at w n cs) in
        at_byte stepped_at s at (λ z c. cond (eqb c 32) (child z) (closed z))
        (λ c. if stepped_at s (eqb c 32) child closed at
        (later stepped_at s child at (at + 1) (omega arith)
        (bind stepped_at s stepped_at (λ z. F z (at + 1) w n) K (at + 1) (f (at + 1) w n)
        (λ r. then_by X (λ p v m a. rest-loc op k p v m (with_child cs a)) r.words r.step)))
        (end-loc op at w n cs))

    opened-by : (w : List ℕ) (n : ℕ) (o : Result Opening Misread)
        → Local stepped_at s (λ z. opened_of (F z) (setting z lines g) w n o) (opening_at o)
    opened-by w n (Err e) = ret stepped_at s (stops e.0 e.1 w) e.1 (omega arith)
    opened-by w n (Ok (Leaf k x p)) = close-loc p w n g.room (encoded k x [])
    opened-by w n (Ok (Line k p)) = ret stepped_at s (record { step = formed (p + 1) n (get_or lines k 0); words = w }) p (omega arith)
    opened-by w n (Ok (Inner op p)) = rest-loc op (most_forms op) p w n no_children

  form-loc : (lines : List ℕ) (g : Limits) (d : ℕ) (role : Role) (at : ℕ) (w : List ℕ) (n : ℕ)
      → Local stepped_at s (λ z. form_at d (setting z lines g) role at w n) at
  unfolding form_at
  form-loc lines g zero role at w n =
      at_byte stepped_at s at (λ z c. record { step = misread (cond (eqb c 40) Depth Shape) at; words = w })
      (λ c. ret stepped_at s (record { step = misread (cond (eqb c 40) Depth Shape) at; words = w }) at (omega arith))
  form-loc lines g (suc d) role at w n =
      bind stepped_at s opening_at (λ z. head_at z at role g)
      (λ z o. opened_of (form_at d (setting z lines g) Argument) (setting z lines g) w n o) at (head-loc s at role g)
      (opened-by (λ z. form_at d (setting z lines g) Argument) (λ at' w' n'. form-loc lines g d Argument at' w' n') lines g w n)

-- ---- lines and texts
abbrev answer_of : ReadOut → Outcome (ℕ × ℕ)
answer_of r = r.answer

module _ (s : List ℕ) where
  end_by : (N : ℕ) (X : List ℕ → ℕ → ℕ → ℕ → List ℕ → ReadOut) → ((p m a : ℕ) (v : List ℕ) → LocalAnswer answer_of s (λ z. X z p m a v) p)
      → (w : List ℕ) (x : Result Formed Misread) → LocalAnswer answer_of s (λ z. line_end (X z) z N w x) (step_at x)
  end_by N X f w (Err e) = refused-loc answer_of s (answers (refused (fault_number e.0) e.1) w) (fault_number e.0) e.1 e.1 refl
      (omega arith)
  end_by N X f w (Ok y) =
      let done : ReadOut = answers (answered (N, y.nodes)) w in
      let shape : ReadOut = answers (refused 11 y.past) w in
      let more : List ℕ → ReadOut = (λ z. cond (eqb (byte_at z (y.past + 1)) 256) done (X z (y.past + 1) y.nodes y.node w)) in
      byte-answer answer_of s y.past (λ z c. cond (eqb c 10) (more z) shape)
      (λ c. if-answer answer_of s (eqb c 10) more (λ z. shape) y.past
      (later-answer answer_of s more y.past (y.past + 1) (omega arith)
      (byte-answer answer_of s (y.past + 1) (λ z d. cond (eqb d 256) done (X z (y.past + 1) y.nodes y.node w))
      (λ d. if-answer answer_of s (eqb d 256) (λ z. done) (λ z. X z (y.past + 1) y.nodes y.node w) (y.past + 1)
      (accepted-loc answer_of s done (N, y.nodes) (y.past + 1) refl) (f (y.past + 1) y.nodes y.node w))))
      (refused-loc answer_of s shape 11 y.past y.past refl (omega arith)))

  lines-loc : (more N room : ℕ) (lines : List ℕ) (k at n : ℕ) (w : List ℕ)
      → LocalAnswer answer_of s (λ z. lines_at more z N room lines k at n w) at
  unfolding lines_at
  lines-loc zero N room lines k at n w = refused-loc answer_of s (answers (refused 15 at) w) 15 at at refl (omega arith)
  lines-loc (suc more) N room lines k at n w =
      let g : Limits = record { variables = N; room = room; earlier = k } in
      bind-answer answer_of s stepped_at (λ z. form_at 16 (setting z lines g) OwnForm at w n)
      (λ z r. line_end (λ p m a v. lines_at more z N room (set lines k a) (k + 1) p m v) z N r.words r.step) at
      (form-loc s lines g 16 OwnForm at w n)
      (λ r. end_by N (λ z p m a v. lines_at more z N room (set lines k a) (k + 1) p m v)
      (λ p m a v. lines-loc more N room (set lines k a) (k + 1) p m v) r.words r.step)

  header-by : (x : Result (ℕ × ℕ) Misread) → Local range_at s (λ z. header_then z x) (range_at x)
  header-by (Err e) = ret range_at s (Err e) e.1 (omega arith)
  header-by (Ok (v, p)) =
      later range_at s (λ z. header_then z (Ok (v, p))) p (p + 1) (omega arith)
      (at_byte range_at s (p + 1) (λ z c. cond (eqb c 10) (Ok (v, p + 2)) (misread Shape (p + 1)))
      (λ c. if range_at s (eqb c 10) (λ z. Ok (v, p + 2)) (λ z. misread Shape (p + 1)) (p + 1)
      (ret range_at s (Ok (v, p + 2)) (p + 1) (omega arith)) (ret range_at s (misread Shape (p + 1)) (p + 1) (omega arith))))

  header_of_lem : (x : Result ℕ ℕ) → Local range_at s (λ z. header_of z x) (matched_at x)
  header_of_lem (Err p) = ret range_at s (misread Shape p) p (omega arith)
  header_of_lem (Ok p) =
      bind range_at s range_at (λ z. ranged_at z p 1 41 41 Range) (λ z x. header_then z x) p (ranged-loc s p 1 41 41 Range) header-by

  header-loc : Local range_at s (λ z. header_at z) 0
  unfolding header_at
  header-loc =
      bind range_at s matched_at (λ z. match_at z 0 (ascii "(circuit ")) (λ z x. header_of z x) 0 (match-loc s (ascii "(circuit ") 0) header_of_lem

  settled-answer : (m : ℕ) (w : List ℕ) (x : Outcome (ℕ × ℕ)) → (settled m w x).answer ≡ x
  settled-answer m w (refused e p) = refl
  settled-answer m w (answered v) = refl

  body-by : (m : ℕ) (x : Result (ℕ × ℕ) Misread) → LocalAnswer answer_of s (λ z. body_of z m x) (range_at x)
  body-by m (Err u) e q h = refused-loc answer_of s (answers (refused (fault_number u.0) u.1) (replicate m 0))
      (fault_number u.0) u.1 u.1 refl
      (omega arith) e q h
  body-by m (Ok (N, p)) e q h =
      let read : List ℕ → ReadOut = (λ z. lines_at max_lines z N (room_of m) (replicate max_lines 0) 0 p 0 (replicate m 0)) in
      let k = lines-loc max_lines N (room_of m) (replicate max_lines 0) 0 p 0 (replicate m 0) e q
      (sym (settled-answer m (read s).words (read s).answer) ∙ h) in
      (k.0, λ s' a. settled-answer m (read s').words (read s').answer ∙ k.1 s' a)

  -- a refusal stands in every text with the same bytes up to its place
  pub body-local : (m : ℕ) → LocalAnswer answer_of s (λ z. read_body z m) 0
  body-local m = bind-answer answer_of s range_at (λ z. header_at z) (λ z x. body_of z m x) 0 header-loc (body-by m)
