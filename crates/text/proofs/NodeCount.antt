-- How many nodes there are after a form is read: no fewer than before, and for a line's own form more, up to what there is room for.
use Prim.Native.Nat.{ℕ, zero, suc, ◌+◌, ◌<◌, ◌≤◌}
use mathlib.Core.Path.{◌≡◌}
use mathlib.Core.Logic.{◌⊎◌, inl, inr, ◌≢◌}
use mathlib.Core.List.{List, []}
use native.Mathlib.Omega.{arith}
use native.Mathlib.Decide.{dec_lt, dec_le}
use borrow.Author.Tests.{eq-eqb, ne_eqb, lt-ltb, le-ltb, le-leb, lt-leb}
use Rattle.masks.proofs.Tests.{same?}
use Rattle.table.specs.Node.{encoded}
use Rattle.table.specs.declared.layout.Children.{Children}
use Rattle.table.specs.declared.layout.NodeWords.{NodeWords}
use Rattle.text.specs.Read.{byte_at, ranged_at, leaf_of, decision_of, tail_at, word_then, head_at, close_at, setting, no_children, with_child}
use Rattle.text.specs.Read.{operator_words, end_at, form_then, rest_with, opened_of, form_at, Stepped, word_at}
use Rattle.text.specs.Syntax.{least_forms, most_forms}
use Rattle.text.specs.Words.{head_words}
use Rattle.text.specs.declared.answer.Fault.TheVariants.{Range}
use Rattle.text.specs.declared.head.Limits.{Limits}
use Rattle.text.specs.declared.head.Opening.{Opening}
use Rattle.text.specs.declared.head.Opening.TheVariants.{Leaf, Inner, Line}
use Rattle.text.specs.declared.head.Operator.{Operator}
use Rattle.text.specs.declared.head.Role.{Role}
use Rattle.text.specs.declared.head.Role.TheVariants.{OwnForm, Argument}
use Rattle.text.specs.declared.head.Word.TheVariants.{False, True, Yes, No, Pick, Both, Line as LineWord}
use Rattle.text.proofs.Words.{May, OneOf, one_of, each-may}
use Rattle.text.specs.declared.head.Word.{Word}
use Rattle.std.specs.Prelude.{Result, Ok, Err}
use Rattle.text.specs.declared.answer.Misread.{Misread}
use Rattle.text.specs.declared.answer.Formed.{Formed}

-- not the head of a form that refers to an earlier line
abbrev NotLine : Result Opening Misread → Type 0
NotLine (Err e) = Unit {0}
NotLine (Ok (Leaf k v p)) = Unit {0}
NotLine (Ok (Inner op p)) = Unit {0}
NotLine (Ok (Line k p)) = ⊥

leaf-not : (k : ℕ) (y : Result (ℕ × ℕ) Misread) → NotLine (leaf_of k y)
leaf-not k (Ok (v, p)) = tt
leaf-not k (Err e) = tt

decision-not : (y : Result (ℕ × ℕ) Misread) → NotLine (decision_of y)
decision-not (Ok (v, p)) = tt
decision-not (Err e) = tt

-- at least n nodes afterwards
abbrev AtLeast : ℕ → Result Formed Misread → Type 0
AtLeast n (Ok d) = n ≤ d.nodes
AtLeast n (Err e) = Unit {0}

-- one node more than n at least, and no more than there is room for
abbrev pub Grown : ℕ → ℕ → Result Formed Misread → Type 0
Grown n room (Ok d) = (n < d.nodes) × (d.nodes ≤ room)
Grown n room (Err e) = Unit {0}

grown-least : (n l room : ℕ) (x : Result Formed Misread) → l ≤ n → Grown n room x → AtLeast l x
grown-least n l room (Ok d) h k = omega arith
grown-least n l room (Err e) h k = tt

grown-more : (n l room : ℕ) (x : Result Formed Misread) → l ≤ n → Grown n room x → Grown l room x
grown-more n l room (Ok d) h k = omega arith
grown-more n l room (Err e) h k = tt

module _ (s : List ℕ) where
  word-not : (g : Limits) (x : Result (Word × ℕ) ℕ) → OneOf (May OwnForm) x → NotLine (word_then s g x)
  unfolding tail_at
  word-not g (Err p) m = tt
  word-not g (Ok (False, p)) m = tt
  word-not g (Ok (True, p)) m = tt
  word-not g (Ok (Yes, p)) m = leaf-not 2 (ranged_at s p 0 g.variables 41 Range)
  word-not g (Ok (No, p)) m = leaf-not 3 (ranged_at s p 0 g.variables 41 Range)
  word-not g (Ok (Pick, p)) m = decision-not (ranged_at s p 0 g.variables 32 Range)
  word-not g (Ok (Both, p)) m = tt
  word-not g (Ok (LineWord, p)) m = absurd m

  head-not : (at : ℕ) (g : Limits) → NotLine (head_at s at OwnForm g)
  unfolding head_at
  head-not at g = by (same? (byte_at s at) 40)
    where
      by : (byte_at s at ≡ 40) ⊎ (byte_at s at ≢ 40) → NotLine (head_at s at OwnForm g)
      by (inr n) = rw (ne_eqb (byte_at s at) 40 n) tt
      by (inl e) =
          rw (eq-eqb (byte_at s at) 40 e)
          (word-not g (word_at s (at + 1) (head_words OwnForm)) (one_of (May OwnForm) s (at + 1) (head_words OwnForm) (each-may OwnForm)))

  close-grown : (at : ℕ) (w : List ℕ) (n room : ℕ) (y : NodeWords) → Grown n room (close_at s at w n room y).step
  unfolding close_at
  close-grown at w n room y = by (same? (byte_at s at) 41) (dec_le room n)
    where
      by : (byte_at s at ≡ 41) ⊎ (byte_at s at ≢ 41) → Dec (room ≤ n) → Grown n room (close_at s at w n room y).step
      by (inr e) l = rw (ne_eqb (byte_at s at) 41 e) tt
      by (inl e) (yes l) = rw (eq-eqb (byte_at s at) 41 e, le-leb room n l) tt
      by (inl e) (no l) = rw (eq-eqb (byte_at s at) 41 e, lt-leb room n (omega arith)) (omega arith)

  module _ (lines : List ℕ) (g : Limits) (F : ℕ → List ℕ → ℕ → Stepped)
      (f : (at : ℕ) (w : List ℕ) (n : ℕ) → AtLeast n (F at w n).step) where
    end-grown : (op : Operator) (at : ℕ) (w : List ℕ) (n : ℕ) (cs : Children)
        → Grown n g.room (end_at (setting s lines g) op at w n cs).step
    unfolding end_at
    end-grown op at w n cs = by (dec_lt cs.count least_forms)
      where
        by : Dec (cs.count < least_forms) → Grown n g.room (end_at (setting s lines g) op at w n cs).step
        by (yes h) = rw (lt-ltb cs.count least_forms h) tt
        by (no h) = rw (le-ltb cs.count least_forms (omega arith)) (close-grown at w n g.room (operator_words op cs))

    then-grown : (n : ℕ) (go : ℕ → List ℕ → ℕ → ℕ → Stepped)
        → ((p : ℕ) (v : List ℕ) (m a : ℕ) → Grown m g.room (go p v m a).step)
        → (w : List ℕ) (x : Result Formed Misread) → AtLeast n x → Grown n g.room (form_then go w x).step
    then-grown n go h w (Err e) l = tt
    then-grown n go h w (Ok d) l = grown-more d.nodes n g.room (go d.past w d.nodes d.node).step l (h d.past w d.nodes d.node)

    rest-grown : (op : Operator) (k at : ℕ) (w : List ℕ) (n : ℕ) (cs : Children)
        → Grown n g.room (rest_with k F (setting s lines g) op at w n cs).step
    unfolding rest_with
    rest-grown op zero at w n cs = end-grown op at w n cs
    rest-grown op (suc k) at w n cs = by (λ p v m a. rest-grown op k p v m (with_child cs a)) (same? (byte_at s at) 32)
      where
        by : ((p : ℕ) (v : List ℕ) (m a : ℕ) → Grown m g.room (rest_with k F (setting s lines g) op p v m (with_child cs a)).step)
            → (byte_at s at ≡ 32) ⊎ (byte_at s at ≢ 32) → Grown n g.room (rest_with (suc k) F (setting s lines g) op at w n cs).step
        by h (inr e) = rw (ne_eqb (byte_at s at) 32 e) (end-grown op at w n cs)
        by h (inl e) =
            rw (eq-eqb (byte_at s at) 32 e)
            (then-grown n (λ p v m a. rest_with k F (setting s lines g) op p v m (with_child cs a)) h (F (at + 1) w n).words
            (F (at + 1) w n).step (f (at + 1) w n))

    grown-opened : (w : List ℕ) (n : ℕ) (o : Result Opening Misread) → NotLine o
        → Grown n g.room (opened_of F (setting s lines g) w n o).step
    grown-opened w n (Err e) h = tt
    grown-opened w n (Ok (Leaf k x p)) h = close-grown p w n g.room (encoded k x [])
    grown-opened w n (Ok (Line k p)) h = absurd h
    grown-opened w n (Ok (Inner op p)) h = rest-grown op (most_forms op) p w n no_children

    least-opened : (w : List ℕ) (n : ℕ) (o : Result Opening Misread) → AtLeast n (opened_of F (setting s lines g) w n o).step
    least-opened w n (Err e) = tt
    least-opened w n (Ok (Leaf k x p)) =
        grown-least n n g.room (close_at s p w n g.room (encoded k x [])).step (omega arith)
        (close-grown p w n g.room (encoded k x []))
    least-opened w n (Ok (Line k p)) = omega arith
    least-opened w n (Ok (Inner op p)) =
        grown-least n n g.room (rest_with (most_forms op) F (setting s lines g) op p w n no_children).step (omega arith)
        (rest-grown op (most_forms op) p w n no_children)

  form-least : (lines : List ℕ) (g : Limits) (d : ℕ) (role : Role) (at : ℕ) (w : List ℕ) (n : ℕ)
      → AtLeast n (form_at d (setting s lines g) role at w n).step
  unfolding form_at
  form-least lines g zero role at w n = tt
  form-least lines g (suc d) role at w n =
      least-opened lines g (form_at d (setting s lines g) Argument) (λ p v m. form-least lines g d Argument p v m) w n (head_at s at role g)

  pub own-grown : (lines : List ℕ) (g : Limits) (d at : ℕ) (w : List ℕ) (n : ℕ)
      → Grown n g.room (form_at (suc d) (setting s lines g) OwnForm at w n).step
  unfolding form_at
  own-grown lines g d at w n =
      grown-opened lines g (form_at d (setting s lines g) Argument) (λ p v m. form-least lines g d Argument p v m) w n
      (head_at s at OwnForm g) (head-not at g)
