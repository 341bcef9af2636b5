-- Pairs folded into masks: a step of the fold, and what the masks say of a term.
use Prim.Native.Nat.{ℕ, ◌+◌, ◌^◌, ◌<◌, ◌≤◌}
use mathlib.Core.Path.{◌≡◌, sym, ap, subst, ◌∙◌}
use mathlib.Core.Bool.{true, false, ◌&&◌, not}
use mathlib.Core.Logic.{◌⊎◌, inl, inr, ⊎_elim, ◌≢◌}
use mathlib.Core.List.{List}
use native.Mathlib.Nat.{not-suc-le-zero}
use native.Mathlib.Omega.{arith}
use lib.Arith.{lt_of_le-ne}
use lib.Bits.{bit_and}
use lib.Dec.{T, T_not, not_T}
use lib.ListN.{length, get_or, set, replicate}
use lib.Seq.{get_or-set_same, get_or-set_other}
use Rattle.buffers.proofs.Zeros.{zero-at}
use Rattle.masks.specs.Mask.{width, bit, put, disjoint}
use Rattle.masks.proofs.Masks.{bit-zero, put_same, put_other, put_keeps, put-false-le}
use Rattle.masks.proofs.Operators.{bit-and, disjoint-e, disjoint-i}
use Rattle.masks.proofs.Tests.{and_i, and_l, and_r, along, same?}
use Rattle.terms.specs.declared.Term.{Term}
use Rattle.exclusions.specs.Exclusions.{first_at, second_at, respects, Exclusions}
use Rattle.exclusions.specs.Partners.{Folded}
use Rattle.exclusions.proofs.Respects.{respects-i, respects-e}

-- ---- a mask with a bit set has that bit and those that it had
put-out : (m i j : ℕ) → T (bit (put m i true) j) → (j ≡ i) ⊎ T (bit m j)
put-out m i j h = by (same? j i)
  where
    by : (j ≡ i) ⊎ (j ≢ i) → (j ≡ i) ⊎ T (bit m j)
    by (inl e) = inl e
    by (inr n) = inr (along (put_other m i j true n) h)

put-here : (m i : ℕ) → T (bit (put m i true) i)
put-here m i = along (sym (put_same m i true)) tt

-- ---- so has a list of masks with bit y of mask x set
abbrev marked : List ℕ → ℕ → ℕ → List ℕ
marked l x y = set l x (put (get_or l x 0) y true)

module _ (l : List ℕ) (x y : ℕ) (h : x < length l) where
  own : get_or (marked l x y) x 0 ≡ put (get_or l x 0) y true
  own = get_or-set_same l x (put (get_or l x 0) y true) 0 h

  other : (a : ℕ) → a ≢ x → get_or (marked l x y) a 0 ≡ get_or l a 0
  other a n = get_or-set_other l x a (put (get_or l x 0) y true) 0 n

  marked-out : (a b : ℕ) → T (bit (get_or (marked l x y) a 0) b) → ((a ≡ x) × (b ≡ y)) ⊎ T (bit (get_or l a 0) b)
  marked-out a b t = by (same? a x)
    where
      by : (a ≡ x) ⊎ (a ≢ x) → ((a ≡ x) × (b ≡ y)) ⊎ T (bit (get_or l a 0) b)
      by (inl e) =
          ⊎_elim (λ (d : b ≡ y). inl (e, d)) (λ (k : T (bit (get_or l x 0) b)). inr (subst (λ (z : ℕ). T (bit (get_or l z 0) b)) (sym e) k))
          (put-out (get_or l x 0) y b (along (ap (λ (z : ℕ). bit (get_or (marked l x y) z 0) b) e ∙ ap (λ (m : ℕ). bit m b) own) t))
      by (inr n) = inr (along (ap (λ (m : ℕ). bit m b) (other a n)) t)

  marked-here : T (bit (get_or (marked l x y) x 0) y)
  marked-here = along (ap (λ (m : ℕ). bit m y) (sym own)) (put-here (get_or l x 0) y)

  marked-keeps : (a b : ℕ) → T (bit (get_or l a 0) b) → T (bit (get_or (marked l x y) a 0) b)
  marked-keeps a b t =
      ⊎_elim
      (λ (e : a ≡ x).
      subst (λ (z : ℕ). T (bit (get_or (marked l x y) z 0) b)) (sym e)
      (along (ap (λ (m : ℕ). bit m b) (sym own)) (put_keeps (get_or l x 0) y b (subst (λ (z : ℕ). T (bit (get_or l z 0) b)) e t))))
      (λ (n : a ≢ x). along (ap (λ (m : ℕ). bit m b) (sym (other a n))) t)
      (same? a x)

-- ---- the loop of the fold
module _ (e : Exclusions) where
  pub folded_start : (n : ℕ) → Folded e 0 (replicate n 0) 0
  folded_start n =
      record {
        partner = λ i l. absurd (not-suc-le-zero l);
        only = λ x y t. absurd (along (ap (λ (m : ℕ). bit m y) (zero-at n x) ∙ bit-zero y) t);
        head = λ i l. absurd (not-suc-le-zero l);
      }

  folded-marked : (k : ℕ) {l : List ℕ} {heads : ℕ} → first_at e k < length l → Folded e k l heads
      → Folded e (k + 1) (marked l (first_at e k) (second_at e k)) (put heads (first_at e k) true)
  folded-marked k {l} {heads} h f =
      record {
        partner = λ i g. new i g (same? i k);
        only = λ x y t. old x y (marked-out l a b h x y t);
        head = λ i g. top i g (same? i k);
      }
    where
      a : ℕ
      a = first_at e k

      b : ℕ
      b = second_at e k

      new : (i : ℕ) → i < k + 1 → (i ≡ k) ⊎ (i ≢ k) → T (bit (get_or (marked l a b) (first_at e i) 0) (second_at e i))
      new i g (inl d) =
          subst (λ (j : ℕ). T (bit (get_or (marked l a b) (first_at e j) 0) (second_at e j))) (sym d) (marked-here l a b h)
      new i g (inr n) = marked-keeps l a b h (first_at e i) (second_at e i) (f.partner i (omega arith))

      old : (x y : ℕ) → ((x ≡ a) × (y ≡ b)) ⊎ T (bit (get_or l x 0) y)
          → (i : ℕ) × (i < k + 1) × (first_at e i ≡ x) × (second_at e i ≡ y)
      old x y (inl d) = (k, omega arith, sym d.0, sym d.1)
      old x y (inr t) = let (i, g, p, q) = f.only x y t in (i, omega arith, p, q)

      top : (i : ℕ) → i < k + 1 → (i ≡ k) ⊎ (i ≢ k) → T (bit (put heads a true) (first_at e i))
      top i g (inl d) = subst (λ (j : ℕ). T (bit (put heads a true) (first_at e j))) (sym d) (put-here heads a)
      top i g (inr n) = put_keeps heads a (first_at e i) (f.head i (omega arith))

  -- v and g are what the code stores
  pub folded-next : (k : ℕ) {l : List ℕ} {heads v g : ℕ} → first_at e k < length l → Folded e k l heads
      → v ≡ put (get_or l (first_at e k) 0) (second_at e k) true → g ≡ put heads (first_at e k) true
      → Folded e (k + 1) (set l (first_at e k) v) g
  folded-next k h f p q = rw (p, q) (folded-marked k h f)

-- ---- what the masks say of a term
module _ (e : Exclusions) (partners : List ℕ) (heads : ℕ) (f : Folded e (length e.firsts) partners heads) (t : Term) where
  -- both variables of a pair
  pub hit : (x : ℕ) → T (bit t.positive x) → T (not (disjoint (get_or partners x 0) t.positive)) → T (not (respects e t))
  hit x p h =
      let m : ℕ = get_or partners x 0 in
      not_T (respects e t)
      (λ r. T_not (disjoint m t.positive) h
      (disjoint-i m t.positive
      (λ y n q.
      let (i, l, a, b) = f.only x y n in
      respects-e e t r i l (subst (λ (z : ℕ). T (bit t.positive z)) (sym a) p) (subst (λ (z : ℕ). T (bit t.positive z)) (sym b) q))))

  -- both of none
  pub unhit : ((x : ℕ) → get_or partners x 0 < 2 ^ width)
      → ((x : ℕ) → T (bit heads x) → T (bit t.positive x) → T (disjoint (get_or partners x 0) t.positive)) → T (respects e t)
  unhit fit none =
      respects-i e t
      (λ i l p q.
      let x : ℕ = first_at e i in
      disjoint-e (get_or partners x 0) t.positive (fit x) (none x (f.head i l) p) (second_at e i) (f.partner i l) q)

-- ---- the variables that are left to be tested
-- rest has first variables that the term has true; of the others no pair is in it
pub record Left (partners : List ℕ) (heads : ℕ) (t : Term) (rest : ℕ) : Type 0 where
  pub inside : (x : ℕ) → T (bit rest x) → T (bit heads x) × T (bit t.positive x)
  pub others : (x : ℕ) → T (bit heads x) → T (bit t.positive x) → T (bit rest x) ⊎ T (disjoint (get_or partners x 0) t.positive)

module _ (partners : List ℕ) (heads : ℕ) (t : Term) where
  pub left-start : Left partners heads t (bit_and heads t.positive)
  left-start =
      record {
        inside = λ x h.
            let b : T (bit heads x && bit t.positive x) = along (bit-and heads t.positive x) h in
            (and_l (bit heads x) (bit t.positive x) b, and_r (bit heads x) (bit t.positive x) b);
        others = λ x p q. inl (along (sym (bit-and heads t.positive x)) (and_i (bit heads x) (bit t.positive x) p q));
      }

  pub left-next : (rest x : ℕ) → Left partners heads t rest → T (disjoint (get_or partners x 0) t.positive)
      → Left partners heads t (put rest x false)
  left-next rest x l d =
      record {
        inside = λ y h. l.inside y (⊎_elim (same y h) (λ (n : y ≢ x). along (put_other rest x y false n) h) (same? y x));
        others = λ y p q.
            ⊎_elim (λ (a : y ≡ x). inr (subst (λ (z : ℕ). T (disjoint (get_or partners z 0) t.positive)) (sym a) d))
            (λ (n : y ≢ x).
            ⊎_elim (λ (b : T (bit rest y)). inl (along (sym (put_other rest x y false n)) b)) (λ a. inr a) (l.others y p q))
            (same? y x);
      }
    where
      same : (y : ℕ) → T (bit (put rest x false) y) → y ≡ x → T (bit rest y)
      same y h a = absurd (along (ap (bit (put rest x false)) a ∙ put_same rest x false) h)

-- a set bit cleared: less is left
pub cleared-less : (rest x : ℕ) → T (bit rest x) → put rest x false < rest
cleared-less rest x h =
    let le : put rest x false ≤ rest = put-false-le rest x in
    let differ : put rest x false ≢ rest =
    λ e. along (sym (ap (λ (m : ℕ). bit m x) e) ∙ put_same rest x false) h in
    lt_of_le-ne le differ
