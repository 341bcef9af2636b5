-- A form: what is read is one of the grammar; where it is refused, some form begins with the bytes before the place.
use Prim.Native.Nat.{ℕ, zero, suc, ◌+◌, ◌<◌, ◌≤◌}
use mathlib.Core.Path.{◌≡◌, refl, sym, subst}
use mathlib.Core.Logic.{◌⊎◌, inl, inr, ◌≢◌}
use mathlib.Core.List.{List, [], ◌∷◌, ◌++◌, append_assoc}
use native.Mathlib.Nat.{zero-add}
use native.Mathlib.Omega.{arith}
use native.Mathlib.Decide.{dec_lt, dec_le}
use borrow.Author.Tests.{eq-eqb, ne_eqb, lt-ltb, le-ltb, le-leb, lt-leb}
use Rattle.masks.proofs.Tests.{same?}
use Rattle.table.specs.Node.{encoded}
use Rattle.table.specs.declared.layout.Children.{Children}
use Rattle.table.specs.declared.layout.NodeWords.{NodeWords}
use Rattle.text.specs.Ascii.{ascii}
use Rattle.text.specs.Read.{byte_at, head_at, close_at, setting, no_children, with_child, operator_words, end_at, form_then, rest_with}
use Rattle.text.specs.Read.{opened_of, deep_fault, form_at, Stepped}
use Rattle.text.specs.Syntax.{least_forms, most_forms}
use Rattle.text.specs.declared.head.Limits.{Limits}
use Rattle.text.specs.declared.head.Opening.{Opening}
use Rattle.text.specs.declared.head.Opening.TheVariants.{Leaf, Inner, Line}
use Rattle.text.specs.declared.head.Operator.{Operator}
use Rattle.text.specs.declared.head.Role.{Role}
use Rattle.text.specs.declared.head.Role.TheVariants.{Argument}
use Rattle.text.proofs.Grammar.{IsForm, IsRest, true_text, true_text_lem, closed-rest, more-rest, some-rest}
use Rattle.text.proofs.Spans.{viable_at, Span, join, nothing, one_byte}
use Rattle.text.proofs.ViableHeads.{OpenSaid, head-said}
use Rattle.std.specs.Prelude.{Result, Ok, Err}
use Rattle.text.specs.declared.answer.Misread.{Misread}
use Rattle.text.specs.declared.answer.Formed.{Formed}
use Rattle.text.specs.Answers.{misread}

module _ (s : List ℕ) where
  -- a text of a kind is read, or begins
  abbrev Said : (List ℕ → Type 0) → ℕ → Result Formed Misread → Type 0
  Said Is at (Ok d) = (x : List ℕ) × Is x × Span s at d.past x
  Said Is at (Err e) = (x : List ℕ) × (t : List ℕ) × Is (x ++ t) × Span s at (viable_at e.0 e.1) x

  abbrev pub FormSaid : Role → ℕ → Result Formed Misread → Type 0
  FormSaid role at x = Said (IsForm role) at x

  -- after the bytes x
  after : (Is Of : List ℕ → Type 0) (at p : ℕ) (x : List ℕ) → ((y : List ℕ) → Is y → Of (x ++ y)) → Span s at p x
      → (r : Result Formed Misread) → Said Is p r → Said Of at r
  after Is Of at p x H sx (Ok d) (y, i, sy) = (x ++ y, H y i, join s at p d.past x y sx sy)
  after Is Of at p x H sx (Err e) (y, t, i, sy) =
      (x ++ y, t, subst Of (sym (append_assoc x y t)) (H (y ++ t) i), join s at p (viable_at e.0 e.1) x y sx sy)

  close-said : (Is : List ℕ → Type 0) → Is (41 ∷ []) → (at : ℕ) (w : List ℕ) (n room : ℕ) (y : NodeWords)
      → Said Is at (close_at s at w n room y).step
  unfolding close_at
  close-said Is i at w n room y = by (same? (byte_at s at) 41) (dec_le room n)
    where
      by : (byte_at s at ≡ 41) ⊎ (byte_at s at ≢ 41) → Dec (room ≤ n) → Said Is at (close_at s at w n room y).step
      by (inr e) l = rw (ne_eqb (byte_at s at) 41 e) ([], 41 ∷ [], i, nothing s at)
      by (inl e) (yes l) = rw (eq-eqb (byte_at s at) 41 e, le-leb room n l) (41 ∷ [], [], i, one_byte s at 41 (omega arith) e)
      by (inl e) (no l) = rw (eq-eqb (byte_at s at) 41 e, lt-leb room n (omega arith)) (41 ∷ [], i, one_byte s at 41 (omega arith) e)

  -- a reader of forms that says what it should
  module _ (lines : List ℕ) (g : Limits) (F : ℕ → List ℕ → ℕ → Stepped)
      (f : (at : ℕ) (w : List ℕ) (n : ℕ) → FormSaid Argument at (F at w n).step) where
    end-said : (op : Operator) (at : ℕ) (w : List ℕ) (n : ℕ) (cs : Children) → cs.count ≤ most_forms op
        → Said (IsRest op cs.count) at (end_at (setting s lines g) op at w n cs).step
    unfolding end_at
    end-said op at w n cs l = by (dec_lt cs.count least_forms)
      where
        by : Dec (cs.count < least_forms) → Said (IsRest op cs.count) at (end_at (setting s lines g) op at w n cs).step
        by (yes h) = let (u, j) = some-rest op cs.count l in rw (lt-ltb cs.count least_forms h) ([], u, j, nothing s at)
        by (no h) =
            rw (le-ltb cs.count least_forms (omega arith))
            (close-said (IsRest op cs.count) (closed-rest op cs.count (omega arith) l) at w n g.room (operator_words op cs))

    -- a form and what follows it
    then-said : (op : Operator) (c at : ℕ) (go : ℕ → List ℕ → ℕ → ℕ → Stepped) → c < most_forms op → Span s at (at + 1) (32 ∷ [])
        → ((p : ℕ) (v : List ℕ) (m a : ℕ) → Said (IsRest op (c + 1)) p (go p v m a).step)
        → (w : List ℕ) (r : Result Formed Misread) → FormSaid Argument (at + 1) r → Said (IsRest op c) at (form_then go w r).step
    then-said op c at go l sp h w (Err e) (x, t, i, sx) =
        let (u, j) = some-rest op (c + 1) (omega arith) in (
          32 ∷ x,
          t ++ u,
          subst (λ (z : List ℕ). IsRest op c (32 ∷ z)) (append_assoc x t u) (more-rest op c (x ++ t) u i j),
          join s at (at + 1) (viable_at e.0 e.1) (32 ∷ []) x sp sx,
        )
    then-said op c at go l sp h w (Ok d) (x, i, sx) =
        after (IsRest op (c + 1)) (IsRest op c) at d.past (32 ∷ x) (λ y j. more-rest op c x y i j)
        (join s at (at + 1) d.past (32 ∷ []) x sp sx) (go d.past w d.nodes d.node).step (h d.past w d.nodes d.node)

    -- at most k forms more
    rest-said : (op : Operator) (k at : ℕ) (w : List ℕ) (n : ℕ) (cs : Children) → cs.count + k ≡ most_forms op
        → Said (IsRest op cs.count) at (rest_with k F (setting s lines g) op at w n cs).step
    unfolding rest_with
    rest-said op zero at w n cs e = end-said op at w n cs (omega arith)
    rest-said op (suc k) at w n cs e =
        by (λ p v m a. rest-said op k p v m (with_child cs a) (omega arith)) (same? (byte_at s at) 32)
      where
        by : ((p : ℕ) (v : List ℕ) (m a : ℕ)
            → Said (IsRest op (cs.count + 1)) p (rest_with k F (setting s lines g) op p v m (with_child cs a)).step)
            → (byte_at s at ≡ 32) ⊎ (byte_at s at ≢ 32)
            → Said (IsRest op cs.count) at (rest_with (suc k) F (setting s lines g) op at w n cs).step
        by h (inr d) = rw (ne_eqb (byte_at s at) 32 d) (end-said op at w n cs (omega arith))
        by h (inl d) =
            rw (eq-eqb (byte_at s at) 32 d)
            (then-said op cs.count at (λ p v m a. rest_with k F (setting s lines g) op p v m (with_child cs a)) (omega arith)
            (one_byte s at 32 (omega arith) d) h (F (at + 1) w n).words (F (at + 1) w n).step (f (at + 1) w n))

    opened-by : (role : Role) (at : ℕ) (w : List ℕ) (n : ℕ) (o : Result Opening Misread) → OpenSaid s role at o
        → FormSaid role at (opened_of F (setting s lines g) w n o).step
    opened-by role at w n (Err e) h = h
    opened-by role at w n (Ok (Leaf k x p)) (y, fy, sy) =
        after (λ z. z ≡ 41 ∷ []) (IsForm role) at p y (λ z e. subst (λ (u : List ℕ). IsForm role (y ++ u)) (sym e) fy) sy
        (close_at s p w n g.room (encoded k x [])).step
        (close-said (λ z. z ≡ 41 ∷ []) refl p w n g.room (encoded k x []))
    opened-by role at w n (Ok (Line k p)) (x, fx, sx, b) =
        (x ++ (41 ∷ []), fx, join s at p (p + 1) x (41 ∷ []) sx (one_byte s p 41 (omega arith) b))
    opened-by role at w n (Ok (Inner op p)) (x, H, sx) =
        after (IsRest op 0) (IsForm role) at p x H sx (rest_with (most_forms op) F (setting s lines g) op p w n no_children).step
        (rest-said op (most_forms op) p w n no_children (zero-add (most_forms op)))

  pub form-said : (lines : List ℕ) (g : Limits) (d : ℕ) (role : Role) (at : ℕ) (w : List ℕ) (n : ℕ)
      → FormSaid role at (form_at d (setting s lines g) role at w n).step
  unfolding form_at
  form-said lines g zero role at w n = by (same? (byte_at s at) 40)
    where
      by : (byte_at s at ≡ 40) ⊎ (byte_at s at ≢ 40) → FormSaid role at (misread (deep_fault s at) at)
      by (inl e) = rw (eq-eqb (byte_at s at) 40 e) (40 ∷ [], ascii "true)", true_text_lem role, one_byte s at 40 (omega arith) e)
      by (inr n) = rw (ne_eqb (byte_at s at) 40 n) ([], true_text, true_text_lem role, nothing s at)
  form-said lines g (suc d) role at w n =
      opened-by lines g (form_at d (setting s lines g) Argument)
      (λ p v m. form-said lines g d Argument p v m) role at w n (head_at s at role g)
      (head-said s g role at)
