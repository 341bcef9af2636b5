-- Laws that the code's functions on terms rest on.
use Prim.Native.Nat.{ℕ, ◌^◌, ◌<◌, ◌≤◌}
use mathlib.Core.Path.{◌≡◌, refl, sym, ap, ap₂, ◌∙◌}
use mathlib.Core.Bool.{Bool, true, false, ◌&&◌, ◌||◌, not, and-false, or-false}
use mathlib.Core.Logic.{◌≢◌}
use mathlib.Core.List.{List, [], ◌∷◌}
use native.Mathlib.Nat.{le_of_eq, lt_of_lt_of_le}
use lib.Dec.{T_not, not_T, eqb, ltb, ltb→lt}
use lib.Pow.{pow_mono}
use borrow.Author.Tests.{eq-eqb, ne_eqb, le-ltb}
use Rattle.masks.specs.Mask.{width, bit, within, disjoint}
use Rattle.masks.specs.Numbers.{every, total}
use Rattle.masks.proofs.Masks.{bit_below}
use Rattle.masks.proofs.Numbers.{every-e, every-i}
use Rattle.masks.proofs.Operators.{disjoint-e, disjoint-i}
use Rattle.masks.proofs.Tests.{and_i, and_l, and_r, along, same_test}
use Rattle.terms.specs.Lists.{less}
use Rattle.terms.specs.Order.{weight, key, before}
use Rattle.terms.specs.Term.{has, variables, literals, is_term}
use Rattle.terms.specs.declared.Term.{Term}

-- no bit in both masks, of 64 or of the N that are used
pub disjoint-within : (N a b : ℕ) → N ≤ width → a < 2 ^ N → disjoint a b ≡ every N (λ x. not (bit a x && bit b x))
disjoint-within N a b wide h =
    same_test (disjoint a b) (every N (λ x. not (bit a x && bit b x)))
    (λ d. every-i N (λ x. not (bit a x && bit b x))
    (λ x l. not_T (bit a x && bit b x)
    (λ p. disjoint-e a b (lt_of_lt_of_le h (pow_mono wide)) d x (and_l (bit a x) (bit b x) p) (and_r (bit a x) (bit b x) p))))
    (λ e. disjoint-i a b
    (λ x p q. T_not (bit a x && bit b x) (every-e N (λ x. not (bit a x && bit b x)) e x (bit_below N a x h p))
    (and_i (bit a x) (bit b x) p q)))

-- the three tests of the code say that it is a term
pub is_term-test : (N : ℕ) (t : Term) → N ≤ width
    → (within N t.positive && within N t.negative && disjoint t.positive t.negative) ≡ is_term N t
unfolding is_term
is_term-test N t wide = go (within N t.positive) refl
  where
    none : ℕ → Bool
    none x = not (has t true x && has t false x)

    go : (b : Bool) → within N t.positive ≡ b
        → (b && within N t.negative && disjoint t.positive t.negative) ≡ (b && within N t.negative && every N none)
    go true e =
        ap (λ (d : Bool). within N t.negative && d)
        (disjoint-within N t.positive t.negative wide (ltb→lt t.positive (2 ^ N) (along (sym e) tt)))
    go false e = refl

-- ---- the order of terms, decided by the first numbers that differ
less-ne : (a b : ℕ) (l k : List ℕ) → a ≢ b → less (a ∷ l) (b ∷ k) ≡ ltb a b
less-ne a b l k n = ap (λ (t : Bool). ltb a b || (t && less l k)) (ne_eqb a b n) ∙ or-false (ltb a b)

less-eq : (a b : ℕ) (l k : List ℕ) → a ≡ b → less (a ∷ l) (b ∷ k) ≡ less l k
less-eq a b l k e = ap₂ (λ (s t : Bool). s || (t && less l k)) (le-ltb a b (le_of_eq (sym e))) (eq-eqb a b e)

less-last : (a b : ℕ) → less (a ∷ []) (b ∷ []) ≡ ltb a b
less-last a b = ap (λ (t : Bool). ltb a b || t) (and-false (eqb a b)) ∙ or-false (ltb a b)

module _ (t u : Term) where
  -- different weights decide; where they are the same, it is as without weights
  pub before-weight : (m : List ℕ) → weight m t ≢ weight m u → before m t u ≡ ltb (weight m t) (weight m u)
  unfolding before key
  before-weight m n =
      less-ne (weight m t) (weight m u) (literals t ∷ variables t ∷ t.positive ∷ []) (literals u ∷ variables u ∷ u.positive ∷ []) n

  -- without weights the number of literals decides first
  abbrev behind : Bool
  behind = less (literals t ∷ variables t ∷ t.positive ∷ []) (literals u ∷ variables u ∷ u.positive ∷ [])

  before-behind : (m : List ℕ) → weight m t ≡ weight m u → before m t u ≡ behind
  unfolding before key
  before-behind m e =
      less-eq (weight m t) (weight m u) (literals t ∷ variables t ∷ t.positive ∷ []) (literals u ∷ variables u ∷ u.positive ∷ []) e

  pub before-plain : before [] t u ≡ behind
  unfolding weight total
  before-plain = before-behind [] refl

  pub before-level : (m : List ℕ) → weight m t ≡ weight m u → before m t u ≡ before [] t u
  before-level m e = before-behind m e ∙ sym before-plain

  pub before-literals : literals t ≢ literals u → before [] t u ≡ ltb (literals t) (literals u)
  before-literals n =
      before-plain ∙ less-ne (literals t) (literals u) (variables t ∷ t.positive ∷ []) (variables u ∷ u.positive ∷ []) n

  pub before-variables : literals t ≡ literals u → variables t ≢ variables u → before [] t u ≡ ltb (variables t) (variables u)
  before-variables e n =
      before-plain ∙ less-eq (literals t) (literals u) (variables t ∷ t.positive ∷ []) (variables u ∷ u.positive ∷ []) e
      ∙ less-ne (variables t) (variables u) (t.positive ∷ []) (u.positive ∷ []) n

  pub before-positive : literals t ≡ literals u → variables t ≡ variables u → before [] t u ≡ ltb t.positive u.positive
  before-positive e d =
      before-plain ∙ less-eq (literals t) (literals u) (variables t ∷ t.positive ∷ []) (variables u ∷ u.positive ∷ []) e
      ∙ less-eq (variables t) (variables u) (t.positive ∷ []) (u.positive ∷ []) d
      ∙ less-last t.positive u.positive
