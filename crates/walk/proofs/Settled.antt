-- The first step from which on every status is 2, looked for from the last step on.
use Prim.Native.Nat.{ℕ, zero, suc, ◌+◌, ◌-◌, ◌<◌, ◌≤◌}
use mathlib.Core.Path.{◌≡◌, refl, sym, ap, ap₂, subst, ◌∙◌}
use mathlib.Core.Bool.{Bool, true, false, ◌&&◌, cond}
use mathlib.Core.Logic.{◌⊎◌, ⊎_elim, ◌≢◌}
use mathlib.Core.List.{List, [], ◌∷◌}
use native.Mathlib.Nat.{not-suc-le-zero, le_of_suc-le-suc, lt-suc_self, eq-or-lt_of_le, le_of_eq}
use native.Mathlib.Numerals.{add-one}
use native.Mathlib.Omega.{arith}
use lib.Dec.{T, not_T, eqb, ltb, eqb→eq}
use lib.ListN.{length, get_or, drop, length-drop}
use lib.Seq.{drop-length, drop-cons, get_or-drop}
use borrow.Author.Tests.{eq-eqb, lt-ltb, le-ltb}
use Rattle.masks.specs.Numbers.{least}
use Rattle.masks.proofs.Least.{search-start, search-next, search-found, search-done}
use Rattle.masks.proofs.Tests.{and_l, and_r, is_false}
use Rattle.terms.specs.Lists.{all}
use Rattle.walk.specs.Walk.{allowed_from, settled}

all-at : (p : ℕ → Bool) (l : List ℕ) (i d : ℕ) → T (all p l) → i < length l → T (p (get_or l i d))
all-at p [] i d h l = absurd (not-suc-le-zero l)
all-at p (a ∷ l) zero d h k = and_l (p a) (all p l) h
all-at p (a ∷ l) (suc i) d h k = all-at p l i d (and_r (p a) (all p l) h) (le_of_suc-le-suc k)

-- where no number below n passes p, the least is n
least-of : (p : ℕ → Bool) (n : ℕ) → ((i : ℕ) → i < n → p i ≡ false) → least n p ≡ n
least-of p zero h = search-start p
least-of p (suc n) h =
    subst (λ (m : ℕ). least m p ≡ m) (add-one n)
    (search-next p n (least-of p n (λ i l. h i (omega arith))) refl (h n (lt-suc_self n)))

module _ (l : List ℕ) where
  pub allowed-end : allowed_from l (length l) ≡ true
  allowed-end = ap (all (λ v. eqb v 2)) (drop-length l)

  pub allowed-more : (k : ℕ) → 0 < k → k ≤ length l → get_or l (k - 1) 0 ≡ 2 → allowed_from l k ≡ true → allowed_from l (k - 1) ≡ true
  allowed-more k pos le e h =
      let lt : k - 1 < length l = omega arith in
      let d : suc (k - 1) ≡ k = omega arith in
      ap (all (λ v. eqb v 2)) (drop-cons l (k - 1) 0 lt)
      ∙ ap₂ ◌&&◌ (eq-eqb (get_or l (k - 1) 0) 2 e) (ap (allowed_from l) d ∙ h)

  -- not from a step on that comes before one that is not allowed
  not-allowed : (j m : ℕ) → j ≤ m → m < length l → get_or l m 0 ≢ 2 → allowed_from l j ≡ false
  not-allowed j m le lt n =
      is_false (allowed_from l j)
      (not_T (allowed_from l j)
      (λ h.
      let e : j + (m - j) ≡ m = omega arith in
      let inside : m - j < length (drop j l) = omega (arith, length-drop j l) in
      n
      (sym (get_or-drop j l (m - j) 0 ∙ ap (λ (i : ℕ). get_or l i 0) e)
      ∙ eqb→eq (get_or (drop j l) (m - j) 0) 2 (all-at (λ v. eqb v 2) (drop j l) (m - j) 0 h inside))))

  -- k is the first: all from it on are allowed, and the one before it is not
  module _ (k : ℕ) (le : k ≤ length l) (from : allowed_from l k ≡ true) (stop : (k ≡ 0) ⊎ (get_or l (k - 1) 0 ≢ 2)) where
    lower : (j : ℕ) → j < k → allowed_from l j ≡ false
    lower j lt =
        ⊎_elim (λ (e : k ≡ 0). absurd (omega arith))
        (λ (n : get_or l (k - 1) 0 ≢ 2). not-allowed j (k - 1) (omega arith) (omega arith) n)
        stop

    first : k ≡ least (length l) (allowed_from l)
    first =
        ⊎_elim (λ (e : k ≡ length l). search-done (allowed_from l) (length l) k le (le_of_eq (sym e)) (least-of (allowed_from l) k lower))
        (λ (lt : k < length l). search-found (allowed_from l) (length l) k lt (least-of (allowed_from l) k lower) refl from)
        (eq-or-lt_of_le le)

    settled-by : (b : Bool) → ltb k (length l) ≡ b → cond b (1, k) (0, 0) ≡ settled l
    unfolding settled
    settled-by b e =
        ap (λ (c : Bool). cond c (1, k) (0, 0)) (sym e)
        ∙ ap (λ (m : ℕ). cond (ltb m (length l)) (1, m) (0, 0)) first

    pub settled_at : k < length l → (1, k) ≡ settled l
    settled_at lt = settled-by true (lt-ltb k (length l) lt)

    pub settled-nowhere : length l ≤ k → (0, 0) ≡ settled l
    settled-nowhere ge = settled-by false (le-ltb k (length l) ge)
