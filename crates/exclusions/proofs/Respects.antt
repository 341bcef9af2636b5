-- What the tests of pairs say: of pair i of a proper list, and of a term that respects the pairs.
use Prim.Native.Nat.{ℕ, ◌<◌, ◌≤◌}
use mathlib.Core.Path.{◌≡◌, sym}
use mathlib.Core.Bool.{true, ◌&&◌, not}
use mathlib.Core.Logic.{◌≢◌}
use native.Mathlib.Nat.{le_trans}
use lib.Dec.{T, T_not, not_T, eqb, ltb, eqb→eq, ltb→lt, lt→ltb}
use lib.ListN.{length}
use borrow.Author.Tests.{eq-eqb}
use Rattle.masks.specs.Numbers.{every}
use Rattle.masks.proofs.Numbers.{every-e, every-i}
use Rattle.masks.proofs.Tests.{and_i, and_l, and_r, is_true, along}
use Rattle.terms.specs.Term.{has}
use Rattle.terms.specs.declared.Term.{Term}
use Rattle.exclusions.specs.Exclusions.{first_at, second_at, distinct, proper, has_both, respects, Exclusions}

-- ---- a list that passes 57
module _ (N : ℕ) (e : Exclusions) (h : proper N e ≡ true) where
  pub proper-even : length e.seconds ≡ length e.firsts
  unfolding proper
  proper-even =
      eqb→eq (length e.seconds) (length e.firsts)
      (and_l (eqb (length e.seconds) (length e.firsts))
      (every (length e.firsts) (λ i. distinct N (first_at e i) (second_at e i)))
      (along (sym h) tt))

  module _ (i : ℕ) (l : i < length e.firsts) where
    pair : T (distinct N (first_at e i) (second_at e i))
    unfolding proper
    pair =
        every-e (length e.firsts) (λ i. distinct N (first_at e i) (second_at e i))
        (and_r (eqb (length e.seconds) (length e.firsts))
        (every (length e.firsts) (λ i. distinct N (first_at e i) (second_at e i)))
        (along (sym h) tt))
        i l

    below : T (ltb (first_at e i) N && ltb (second_at e i) N)
    below = and_l (ltb (first_at e i) N && ltb (second_at e i) N) (not (eqb (first_at e i) (second_at e i))) pair

    pub first_below : first_at e i < N
    first_below = ltb→lt (first_at e i) N (and_l (ltb (first_at e i) N) (ltb (second_at e i) N) below)

    pub second_below : second_at e i < N
    second_below = ltb→lt (second_at e i) N (and_r (ltb (first_at e i) N) (ltb (second_at e i) N) below)

    pub pair-distinct : first_at e i ≢ second_at e i
    pair-distinct d =
        T_not (eqb (first_at e i) (second_at e i))
        (and_r (ltb (first_at e i) N && ltb (second_at e i) N) (not (eqb (first_at e i) (second_at e i))) pair)
        (along (sym (eq-eqb (first_at e i) (second_at e i) d)) tt)

-- such a list, from what its pairs are
pub proper-i : (N : ℕ) (e : Exclusions) → length e.seconds ≡ length e.firsts
    → ((i : ℕ) → i < length e.firsts → (first_at e i < N) × (second_at e i < N) × (first_at e i ≢ second_at e i)) → proper N e ≡ true
unfolding proper
proper-i N e even pairs =
    is_true (proper N e)
    (and_i (eqb (length e.seconds) (length e.firsts))
    (every (length e.firsts) (λ i. distinct N (first_at e i) (second_at e i)))
    (along (sym (eq-eqb (length e.seconds) (length e.firsts) even)) tt)
    (every-i (length e.firsts) (λ i. distinct N (first_at e i) (second_at e i)) each))
  where
    each : (i : ℕ) → i < length e.firsts → T (distinct N (first_at e i) (second_at e i))
    each i l =
        let (p, q, d) = pairs i l in
        and_i (ltb (first_at e i) N && ltb (second_at e i) N) (not (eqb (first_at e i) (second_at e i)))
        (and_i (ltb (first_at e i) N) (ltb (second_at e i) N) (lt→ltb (first_at e i) N p) (lt→ltb (second_at e i) N q))
        (not_T (eqb (first_at e i) (second_at e i)) (λ t. d (eqb→eq (first_at e i) (second_at e i) t)))

-- it is one over more variables
pub proper-wider : (N M : ℕ) (e : Exclusions) → N ≤ M → proper N e ≡ true → proper M e ≡ true
proper-wider N M e le h =
    proper-i M e (proper-even N e h)
    (λ i l. (le_trans (first_below N e h i l) le, le_trans (second_below N e h i l) le, pair-distinct N e h i l))

-- ---- a term that respects the pairs has both positive literals of none
module _ (e : Exclusions) (t : Term) where
  pub respects-e : T (respects e t)
      → (i : ℕ) → i < length e.firsts → T (has t true (first_at e i)) → T (has t true (second_at e i)) → ⊥
  unfolding respects
  respects-e h i l p q =
      T_not (has_both e t i) (every-e (length e.firsts) (λ i. not (has_both e t i)) h i l)
      (and_i (has t true (first_at e i)) (has t true (second_at e i)) p q)

  pub respects-i : ((i : ℕ) → i < length e.firsts → T (has t true (first_at e i)) → T (has t true (second_at e i)) → ⊥)
      → T (respects e t)
  unfolding respects
  respects-i h =
      every-i (length e.firsts) (λ i. not (has_both e t i))
      (λ i l. not_T (has_both e t i)
      (λ b. h i l (and_l (has t true (first_at e i)) (has t true (second_at e i)) b)
      (and_r (has t true (first_at e i)) (has t true (second_at e i)) b)))
