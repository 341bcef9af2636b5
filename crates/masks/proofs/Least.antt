-- The least number that passes a test, found by trying the numbers in turn.
use Prim.Native.Nat.{ℕ, zero, suc, ◌+◌, ◌<◌, ◌≤◌}
use mathlib.Core.Path.{◌≡◌, refl, sym, ap, ap₂, subst, ◌∙◌}
use mathlib.Core.Bool.{Bool, true, false, cond}
use mathlib.Core.Logic.{⊎_elim}
use native.Mathlib.Nat.{not-suc-le-zero, le_of_eq, le_antisymm}
use native.Mathlib.Numerals.{add-one}
use borrow.Author.Tests.{lt-ltb, le-ltb}
use Rattle.std.proofs.lemmas.Bool.{ltb-true, ltb-false}
use Rattle.std.specs.Prelude.{Option, Some, None, is_some, ltb}
use Rattle.masks.specs.Numbers.{least, first}
use Rattle.masks.proofs.Tests.{below_suc}

none-some : {l : ℕ} → ◌≡◌ {A = Option ℕ} None (Some l) → ⊥
none-some e = let z : ◌≡◌ {A = Bool} false true = ap is_some e in cc

module _ (p : ℕ → Bool) where
  pub search-start : least 0 p ≡ 0
  unfolding least
  search-start = refl

  -- none below i passes, and i, tested as b, does not
  pub search-next : (i : ℕ) {b : Bool} → least i p ≡ i → b ≡ p i → b ≡ false → least (i + 1) p ≡ i + 1
  unfolding least
  search-next i e t f =
      rw add-one
      (ap₂ (λ (x y : Bool). cond x (least i p) (cond y i (suc i))) (le-ltb (least i p) i (le_of_eq (sym e))) (sym t ∙ f))

  found : (n i : ℕ) → i < n → least i p ≡ i → p i ≡ true → least n p ≡ i
  unfolding least
  found zero i l e h = absurd (not-suc-le-zero l)
  found (suc n) i l e h =
      ⊎_elim
      (λ (d : i ≡ n).
      subst (λ (k : ℕ). least k p ≡ k → p k ≡ true → least (suc n) p ≡ k) (sym d)
      (λ e h. ap₂ (λ (x y : Bool). cond x (least n p) (cond y n (suc n))) (le-ltb (least n p) n (le_of_eq (sym e))) h) e h)
      (λ (k : i < n).
      let f : least n p ≡ i = found n i k e h in
      ap (λ (x : Bool). cond x (least n p) (cond (p n) n (suc n)))
      (lt-ltb (least n p) n (subst (λ (m : ℕ). m < n) (sym f) k))
      ∙ f)
      (below_suc l)

  -- none below i passes, and i, tested as b, does
  pub search-found : (n i : ℕ) {b : Bool} → i < n → least i p ≡ i → b ≡ p i → b ≡ true → i ≡ least n p
  search-found n i l e t f = sym (found n i l e (sym t ∙ f))

  -- none passes
  pub search-done : (n i : ℕ) → i ≤ n → n ≤ i → least i p ≡ i → i ≡ least n p
  search-done n i l k e = sym e ∙ ap (λ (m : ℕ). least m p) (le_antisymm l k)

  -- the answer, as the search goes on
  pub first-found : (n i : ℕ) {b : Bool} → i < n → least i p ≡ i → b ≡ p i → b ≡ true → Some i ≡ first n p
  unfolding first
  first-found n i l e t f =
      let d : i ≡ least n p = search-found n i l e t f in
      subst (λ (m : ℕ). Some i ≡ cond (ltb m n) (Some m) None) d (ap (λ (x : Bool). cond x (Some i) None) (sym (lt-ltb i n l)))

  pub first-none : (n i : ℕ) → i ≤ n → n ≤ i → least i p ≡ i → None ≡ first n p
  unfolding first
  first-none n i l k e =
      let d : i ≡ least n p = search-done n i l k e in
      subst (λ (m : ℕ). None ≡ cond (ltb m n) (Some m) None) d (ap (λ (x : Bool). cond x (Some i) None) (sym (le-ltb i n k)))

-- what an answer by a test says of the test
chosen : (b : Bool) (l i : ℕ) → cond b (Some l) None ≡ Some i → (b ≡ true) × (l ≡ i)
chosen true l i e = (refl, let d : l ≡ i = cc in d)
chosen false l i e = let z : ◌≡◌ {A = Option ℕ} None (Some i) = e in absurd (none-some z)

unchosen : (b : Bool) (l : ℕ) → cond b (Some l) None ≡ None → b ≡ false
unchosen true l e = let z : ◌≡◌ {A = Option ℕ} (Some l) None = e in absurd (none-some (sym z))
unchosen false l e = refl

module _ (p : ℕ → Bool) (n : ℕ) where
  pub first-some : {i : ℕ} → first n p ≡ Some i → (i ≡ least n p) × (i < n)
  unfolding first
  first-some {i} e =
      let h : (ltb (least n p) n ≡ true) × (least n p ≡ i) = chosen (ltb (least n p) n) (least n p) i e in
      (sym h.1, subst (λ (m : ℕ). m < n) h.1 (ltb-true (least n p) n h.0))

  pub first-nowhere : first n p ≡ None → n ≤ least n p
  unfolding first
  first-nowhere e = ltb-false (least n p) n (unchosen (ltb (least n p) n) (least n p) e)
