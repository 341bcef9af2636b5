-- The head of a form depends only on the bytes up to where it is found.
use Prim.Native.Nat.{ℕ, ◌+◌}
use mathlib.Core.Bool.{cond}
use mathlib.Core.List.{List, [], ◌∷◌}
use native.Mathlib.Omega.{arith}
use lib.Dec.{eqb, ltb, leb}
use Rattle.text.specs.Read.{byte_at, number_at, match_at, ranged_of, ranged_at, leaf_of, decision_of, line_of, tail_at, word_then, head_at}
use Rattle.text.specs.Read.{word_at}
use Rattle.text.specs.Words.{spelling, head_words}
use Rattle.text.specs.declared.answer.Fault.{Fault}
use Rattle.text.specs.declared.answer.Fault.TheVariants.{Shape, Range, Reference}
use Rattle.text.specs.declared.head.Limits.{Limits}
use Rattle.text.specs.declared.head.Opening.{Opening}
use Rattle.text.specs.declared.head.Opening.TheVariants.{Leaf, Inner, Line}
use Rattle.text.specs.declared.head.Operator.TheVariants.{Decision, Conjunction}
use Rattle.text.specs.declared.head.Role.{Role}
use Rattle.text.specs.declared.head.Word.{Word}
use Rattle.text.specs.declared.head.Word.TheVariants.{False, True, Yes, No, Pick, Both, Line as LineWord}
use Rattle.text.proofs.Locality.{Local, ret, if, later, same_loc, bind, at_byte, numeral_at, number-loc, match-loc}
use Rattle.text.proofs.Words.{first, apart, spelled_of, letter_then, spelled_at, matched_at, by-letter}
use Rattle.std.specs.Prelude.{Option, Some, None, Result, Ok, Err}
use Rattle.text.specs.declared.answer.Misread.{Misread}
use Rattle.text.specs.Answers.{misread}

-- where each answer lies
abbrev pub range_at : Result (ℕ × ℕ) Misread → ℕ
range_at (Ok (v, p)) = p
range_at (Err e) = e.1

abbrev pub opening_at : Result Opening Misread → ℕ
opening_at (Err e) = e.1
opening_at (Ok (Leaf k x p)) = p
opening_at (Ok (Inner op p)) = p
opening_at (Ok (Line k p)) = p

module _ (s : List ℕ) where
  ranged-by : (at low high next : ℕ) (why : Fault) (x : Option (ℕ × ℕ))
      → Local range_at s (λ z. ranged_of z at low high next why x) (numeral_at at x)
  ranged-by at low high next why None = ret range_at s (misread Shape at) at (omega arith)
  ranged-by at low high next why (Some (v, p)) =
      at_byte range_at s p
      (λ z c. cond (eqb c next) (cond (ltb v low) (misread why p) (cond (leb high v) (misread why p) (Ok (v, p)))) (misread Shape p))
      (λ c. if range_at s (eqb c next) (λ z. cond (ltb v low) (misread why p) (cond (leb high v) (misread why p) (Ok (v, p))))
      (λ z. misread Shape p) p
      (if range_at s (ltb v low) (λ z. misread why p) (λ z. cond (leb high v) (misread why p) (Ok (v, p))) p
      (ret range_at s (misread why p) p (omega arith))
      (if range_at s (leb high v) (λ z. misread why p) (λ z. Ok (v, p)) p (ret range_at s (misread why p) p (omega arith))
      (ret range_at s (Ok (v, p)) p (omega arith))))
      (ret range_at s (misread Shape p) p (omega arith)))

  pub ranged-loc : (at low high next : ℕ) (why : Fault) → Local range_at s (λ z. ranged_at z at low high next why) at
  unfolding ranged_at
  ranged-loc at low high next why =
      bind range_at s (numeral_at at) (λ z. number_at z at) (λ z x. ranged_of z at low high next why x) at (number-loc s at)
      (ranged-by at low high next why)

  leaf-by : (k : ℕ) (x : Result (ℕ × ℕ) Misread) → Local opening_at s (λ z. leaf_of k x) (range_at x)
  leaf-by k (Ok (v, p)) = ret opening_at s (Ok (Leaf k v p)) p (omega arith)
  leaf-by k (Err e) = ret opening_at s (Err e) e.1 (omega arith)

  decision-by : (x : Result (ℕ × ℕ) Misread) → Local opening_at s (λ z. decision_of x) (range_at x)
  decision-by (Ok (v, p)) = ret opening_at s (Ok (Inner (Decision v) p)) p (omega arith)
  decision-by (Err e) = ret opening_at s (Err e) e.1 (omega arith)

  line-by : (x : Result (ℕ × ℕ) Misread) → Local opening_at s (λ z. line_of x) (range_at x)
  line-by (Ok (v, p)) = ret opening_at s (Ok (Line v p)) p (omega arith)
  line-by (Err e) = ret opening_at s (Err e) e.1 (omega arith)

  -- a number at a place, and what is made of it
  number-then : (K : Result (ℕ × ℕ) Misread → Result Opening Misread) (at high next : ℕ) (why : Fault)
      → ((x : Result (ℕ × ℕ) Misread) → Local opening_at s (λ z. K x) (range_at x))
      → Local opening_at s (λ z. K (ranged_at z at 0 high next why)) at
  number-then K at high next why k =
      bind opening_at s range_at (λ z. ranged_at z at 0 high next why) (λ z x. K x) at (ranged-loc at 0 high next why) k

  tail-loc : (at : ℕ) (w : Word) (g : Limits) → Local opening_at s (λ z. tail_at z at w g) at
  unfolding tail_at
  tail-loc at False g = ret opening_at s (Ok (Leaf 0 0 at)) at (omega arith)
  tail-loc at True g = ret opening_at s (Ok (Leaf 1 0 at)) at (omega arith)
  tail-loc at Yes g = number-then (leaf_of 2) at g.variables 41 Range (leaf-by 2)
  tail-loc at No g = number-then (leaf_of 3) at g.variables 41 Range (leaf-by 3)
  tail-loc at Pick g = number-then decision_of at g.variables 32 Range decision-by
  tail-loc at Both g = ret opening_at s (Ok (Inner Conjunction at)) at (omega arith)
  tail-loc at LineWord g = number-then line_of at g.earlier 41 Reference line-by

  word-then : (g : Limits) (x : Result (Word × ℕ) ℕ) → Local opening_at s (λ z. word_then z g x) (spelled_at x)
  word-then g (Ok (w, p)) = tail-loc p w g
  word-then g (Err p) = ret opening_at s (misread Shape p) p (omega arith)

  spelled_by : (w : Word) (x : Result ℕ ℕ) → Local spelled_at s (λ z. spelled_of w x) (matched_at x)
  spelled_by w (Ok p) = ret spelled_at s (Ok (w, p)) p (omega arith)
  spelled_by w (Err p) = ret spelled_at s (Err p) p (omega arith)

  -- the word that begins with a byte
  letter-loc : (at : ℕ) (ws : List Word) (c : ℕ) → Local spelled_at s (λ z. letter_then z at ws c) at
  letter-loc at [] c = ret spelled_at s (Err at) at (omega arith)
  letter-loc at (w ∷ ws) c =
      if spelled_at s (eqb c (first w)) (λ z. spelled_of w (match_at z at (spelling w))) (λ z. letter_then z at ws c) at
      (bind spelled_at s matched_at (λ z. match_at z at (spelling w)) (λ z x. spelled_of w x) at (match-loc s (spelling w) at) (spelled_by w))
      (letter-loc at ws c)

  word-loc : (at : ℕ) (role : Role) → Local spelled_at s (λ z. word_at z at (head_words role)) at
  word-loc at role =
      same_loc spelled_at s (λ z. word_at z at (head_words role)) (λ z. letter_then z at (head_words role) (byte_at z at)) at
      (λ z. by-letter z at (head_words role) (apart role))
      (at_byte spelled_at s at (λ z c. letter_then z at (head_words role) c) (letter-loc at (head_words role)))

  pub head-loc : (at : ℕ) (role : Role) (g : Limits) → Local opening_at s (λ z. head_at z at role g) at
  unfolding head_at
  head-loc at role g =
      let word : List ℕ → Result Opening Misread = (λ z. word_then z g (word_at z (at + 1) (head_words role))) in
      at_byte opening_at s at (λ z c. cond (eqb c 40) (word z) (misread Shape at))
      (λ c. if opening_at s (eqb c 40) word (λ z. misread Shape at) at
      (later opening_at s word at (at + 1) (omega arith)
      (bind opening_at s spelled_at (λ z. word_at z (at + 1) (head_words role)) (λ z x. word_then z g x) (at + 1) (word-loc (at + 1) role)
      (word-then g)))
      (ret opening_at s (misread Shape at) at (omega arith)))
