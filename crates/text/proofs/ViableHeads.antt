-- The head of a form: what is read is one of the grammar's; where it is refused, some form begins with the bytes before the place.
use Prim.Native.Nat.{ℕ, ◌+◌, ◌≤◌, max}
use mathlib.Core.Path.{◌≡◌, refl, sym, ap, subst, ◌∙◌}
use mathlib.Core.Bool.{true, false}
use mathlib.Core.Logic.{◌⊎◌, inl, inr, ◌≢◌}
use mathlib.Core.List.{List, [], ◌∷◌, ◌++◌, append_assoc}
use native.Mathlib.Omega.{arith}
use native.Mathlib.Decide.{dec_le}
use borrow.Author.Tests.{eq-eqb, ne_eqb}
use Rattle.masks.proofs.Tests.{same?}
use Rattle.text.specs.Ascii.{ascii}
use Rattle.text.specs.Meaning.{Bytes}
use Rattle.text.specs.Read.{byte_at, match_at, ranged_at, leaf_of, decision_of, line_of, tail_at, word_then, head_at, word_at}
use Rattle.text.specs.Syntax.{print_form}
use Rattle.text.specs.Words.{spelling, head_words, or_word}
use Rattle.text.specs.declared.answer.Fault.TheVariants.{Range, Reference}
use Rattle.text.specs.declared.head.Limits.{Limits}
use Rattle.text.specs.declared.head.Opening.{Opening}
use Rattle.text.specs.declared.head.Opening.TheVariants.{Leaf, Inner, Line}
use Rattle.text.specs.declared.head.Operator.TheVariants.{Decision, Conjunction}
use Rattle.text.specs.declared.head.Role.{Role}
use Rattle.text.specs.declared.head.Word.{Word}
use Rattle.text.specs.declared.head.Word.TheVariants.{False, True, Yes, No, Pick, Both, Line as LineWord}
use Rattle.text.proofs.Grammar.{IsNumber, IsForm, IsRest, one-digit, constant-form, literal-form, inner-form, decision-form}
use Rattle.text.proofs.Grammar.{line-form, true_text, true_text_lem, two_forms, two-forms}
use Rattle.text.proofs.Spans.{viable_at, Span, join, nothing, one_byte, MatchSaid, match-said, RangedSaid, ranged-said}
use Rattle.text.proofs.Words.{May, Each, each-may}
use Rattle.std.specs.Prelude.{Result, Ok, Err}
use Rattle.text.specs.declared.answer.Misread.{Misread}

-- how a form goes on after its word
going_on : Word → List ℕ
going_on False = ascii ")"
going_on True = ascii ")"
going_on Yes = ascii "0)"
going_on No = ascii "0)"
going_on Pick = ascii "0" ++ two_forms
going_on Both = two_forms
going_on LineWord = ascii "0)"

goes_on : (role : Role) (w : Word) → May role w → IsForm role (40 ∷ (spelling w ++ going_on w))
unfolding print_form going_on
goes_on role False m = constant-form role false
goes_on role True m = constant-form role true
goes_on role Yes m = literal-form role true (48 ∷ []) (0, one-digit 0 (omega arith))
goes_on role No m = literal-form role false (48 ∷ []) (0, one-digit 0 (omega arith))
goes_on role Pick m = decision-form role 0 (48 ∷ []) two_forms (0, one-digit 0 (omega arith)) (two-forms (Decision 0))
goes_on role Both m = inner-form role Conjunction two_forms tt (two-forms Conjunction)
goes_on role LineWord m = line-form role (48 ∷ []) m (0, one-digit 0 (omega arith))

word_bytes : (w : Word) → Bytes (spelling w)
word_bytes False = omega arith
word_bytes True = omega arith
word_bytes Yes = omega arith
word_bytes No = omega arith
word_bytes Pick = omega arith
word_bytes Both = omega arith
word_bytes LineWord = omega arith

module _ (s : List ℕ) where
  abbrev pub OpenSaid : Role → ℕ → Result Opening Misread → Type 0
  OpenSaid role at (Err e) = (x : List ℕ) × (t : List ℕ) × IsForm role (x ++ t) × Span s at (viable_at e.0 e.1) x
  OpenSaid role at (Ok (Leaf k v p)) = (x : List ℕ) × IsForm role (x ++ (41 ∷ [])) × Span s at p x
  OpenSaid role at (Ok (Line k p)) = (x : List ℕ) × IsForm role (x ++ (41 ∷ [])) × Span s at p x × (byte_at s p ≡ 41)
  OpenSaid role at (Ok (Inner op p)) = (x : List ℕ) × ((y : List ℕ) → IsRest op 0 y → IsForm role (x ++ y)) × Span s at p x

  -- a number after the word W, before a closing bracket
  module _ (role : Role) (at q : ℕ) (W : List ℕ) (sw : Span s at q W)
      (F : (v : List ℕ) → IsNumber v → IsForm role (W ++ (v ++ (41 ∷ [])))) where
    read_number : (x : List ℕ) → IsNumber x → IsForm role ((W ++ x) ++ (41 ∷ []))
    read_number x nx = subst (IsForm role) (sym (append_assoc W x (41 ∷ []))) (F x nx)

    broken-number : (x t v : List ℕ) → IsNumber v → v ++ (41 ∷ []) ≡ x ++ t → IsForm role ((W ++ x) ++ t)
    broken-number x t v nv e = subst (IsForm role) (ap (λ (z : List ℕ). W ++ z) e ∙ sym (append_assoc W x t)) (F v nv)

    leaf-by : (k : ℕ) (y : Result (ℕ × ℕ) Misread) → RangedSaid s 41 q y → OpenSaid role at (leaf_of k y)
    leaf-by k (Ok (n, p)) (x, nx, sx, b) = (W ++ x, read_number x nx, join s at q p W x sw sx)
    leaf-by k (Err m) (x, t, v, nv, e, sx) = (W ++ x, t, broken-number x t v nv e, join s at q (viable_at m.0 m.1) W x sw sx)

    line-by : (y : Result (ℕ × ℕ) Misread) → RangedSaid s 41 q y → OpenSaid role at (line_of y)
    line-by (Ok (n, p)) (x, nx, sx, b) = (W ++ x, read_number x nx, join s at q p W x sw sx, b)
    line-by (Err m) (x, t, v, nv, e, sx) = (W ++ x, t, broken-number x t v nv e, join s at q (viable_at m.0 m.1) W x sw sx)

  decision-by : (role : Role) (at q : ℕ) (W : List ℕ) → Span s at q W
      → ((v : ℕ) (x y : List ℕ) → IsNumber x → IsRest (Decision v) 0 y → IsForm role (W ++ (x ++ y)))
      → (u : Result (ℕ × ℕ) Misread) → RangedSaid s 32 q u → OpenSaid role at (decision_of u)
  decision-by role at q W sw F (Ok (n, p)) (x, nx, sx, b) =
      (W ++ x, (λ y r. subst (IsForm role) (sym (append_assoc W x y)) (F n x y nx r)), join s at q p W x sw sx)
  decision-by role at q W sw F (Err m) (x, t, v, nv, e, sx) =
      let rest : List ℕ = ascii "(true) (true))" in
      let i : v ++ (32 ∷ rest) ≡ x ++ (t ++ rest) =
      sym (append_assoc v (32 ∷ []) rest) ∙ ap (λ (z : List ℕ). z ++ rest) e ∙ append_assoc x t rest in (
        W ++ x,
        t ++ rest,
        subst (IsForm role) (ap (λ (z : List ℕ). W ++ z) i ∙ sym (append_assoc W x (t ++ rest)))
            (F 0 v two_forms nv (two-forms (Decision 0))),
        join s at q (viable_at m.0 m.1) W x sw sx,
      )

  -- the word that is read, or the beginning of one that may stand there
  abbrev WordSaid : Role → ℕ → Result (Word × ℕ) ℕ → Type 0
  WordSaid role at (Ok (w, p)) = May role w × Span s at p (spelling w)
  WordSaid role at (Err p) =
      (w : Word) × (x : List ℕ) × (t : List ℕ) × May role w × (spelling w ≡ x ++ t) × Span s at p x

  or-said : (role : Role) (at : ℕ) (w : Word) (m : Result ℕ ℕ) (others : Result (Word × ℕ) ℕ) → May role w → MatchSaid s (spelling w) at m
      → WordSaid role at others → WordSaid role at (or_word w m others)
  or-said role at w (Ok p) others y h k = (y, h)
  or-said role at w (Err p) (Ok (v, q)) y h k = k
  or-said role at w (Err p) (Err q) y (x, t, e, sp) k = by (dec_le q p)
    where
      by : Dec (q ≤ p) → WordSaid role at (Err (max p q))
      by (yes l) = let e₁ : max p q ≡ p = omega arith in rw e₁ (w, x, t, y, e, sp)
      by (no l) = let e₁ : max p q ≡ q = omega arith in rw e₁ k

  word-said : (role : Role) (at : ℕ) (ws : List Word) → Each (May role) ws → WordSaid role at (word_at s at ws)
  unfolding word_at
  word-said role at [] m = (True, [], spelling True, tt, refl, nothing s at)
  word-said role at (w ∷ ws) m =
      or-said role at w (match_at s at (spelling w)) (word_at s at ws) m.0 (match-said s (spelling w) at (word_bytes w))
      (word-said role at ws m.1)

  module _ (g : Limits) (role : Role) (at : ℕ) where
    tail-said : (p : ℕ) (w : Word) → May role w → Span s at p (40 ∷ spelling w) → OpenSaid role at (tail_at s p w g)
    unfolding tail_at print_form
    tail-said p False m sp = (40 ∷ spelling False, constant-form role false, sp)
    tail-said p True m sp = (40 ∷ spelling True, constant-form role true, sp)
    tail-said p Yes m sp =
        leaf-by role at p (40 ∷ spelling Yes) sp (literal-form role true) 2 (ranged_at s p 0 g.variables 41 Range)
        (ranged-said s p 0 g.variables 41 Range (omega arith) (omega arith))
    tail-said p No m sp =
        leaf-by role at p (40 ∷ spelling No) sp (literal-form role false) 3 (ranged_at s p 0 g.variables 41 Range)
        (ranged-said s p 0 g.variables 41 Range (omega arith) (omega arith))
    tail-said p Pick m sp =
        decision-by role at p (40 ∷ spelling Pick) sp (decision-form role) (ranged_at s p 0 g.variables 32 Range)
        (ranged-said s p 0 g.variables 32 Range (omega arith) (omega arith))
    tail-said p Both m sp = (40 ∷ spelling Both, (λ y r. inner-form role Conjunction y tt r), sp)
    tail-said p LineWord m sp =
        line-by role at p (40 ∷ spelling LineWord) sp (λ v nv. line-form role v m nv) (ranged_at s p 0 g.earlier 41 Reference)
        (ranged-said s p 0 g.earlier 41 Reference (omega arith) (omega arith))

    word-by : byte_at s at ≡ 40 → (x : Result (Word × ℕ) ℕ) → WordSaid role (at + 1) x → OpenSaid role at (word_then s g x)
    word-by e (Ok (w, p)) (m, sp) = tail-said p w m (join s at (at + 1) p (40 ∷ []) (spelling w) (one_byte s at 40 (omega arith) e) sp)
    word-by e (Err p) (w, x, t, m, i, sp) =
        let j : spelling w ++ going_on w ≡ x ++ (t ++ going_on w) =
        ap (λ (z : List ℕ). z ++ going_on w) i ∙ append_assoc x t (going_on w) in (
          40 ∷ x,
          t ++ going_on w,
          subst (λ (z : List ℕ). IsForm role (40 ∷ z)) j (goes_on role w m),
          join s at (at + 1) p (40 ∷ []) x (one_byte s at 40 (omega arith) e) sp,
        )

    pub head-said : OpenSaid role at (head_at s at role g)
    unfolding head_at
    head-said = by (same? (byte_at s at) 40)
      where
        by : (byte_at s at ≡ 40) ⊎ (byte_at s at ≢ 40) → OpenSaid role at (head_at s at role g)
        by (inr n) = rw (ne_eqb (byte_at s at) 40 n) ([], true_text, true_text_lem role, nothing s at)
        by (inl e) =
            rw (eq-eqb (byte_at s at) 40 e)
            (word-by e (word_at s (at + 1) (head_words role)) (word-said role (at + 1) (head_words role) (each-may role)))
