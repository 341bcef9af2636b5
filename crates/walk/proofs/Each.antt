-- Lists with a value for each number below n.
use Prim.Native.Nat.{ℕ, zero, suc, ◌+◌, ◌<◌}
use mathlib.Core.Path.{◌≡◌, refl, sym, ap, ap₂, subst, ◌∙◌}
use mathlib.Core.Logic.{⊎_elim}
use mathlib.Core.List.{List, [], ◌∷◌, ◌++◌, map, map-append}
use native.Mathlib.Nat.{not-suc-le-zero, lt-suc_self}
use native.Mathlib.Numerals.{add-one}
use native.Mathlib.Omega.{arith}
use lib.ListN.{length, get_or, length-append, get_or-append}
use lib.Seq.{get_or_at}
use Rattle.masks.specs.Numbers.{below}
use Rattle.masks.proofs.Tests.{below_suc}

module _ {A : Type 0} (f : ℕ → A) where
  pub each_none : map f (below 0) ≡ []
  unfolding below
  each_none = refl

  pub each-suc : (n : ℕ) → map f (below (suc n)) ≡ map f (below n) ++ (f n ∷ [])
  unfolding below
  each-suc n = map-append f (below n) (n ∷ [])

  pub each-length : (n : ℕ) → length (map f (below n)) ≡ n
  each-length zero = ap length each_none
  each-length (suc n) =
      ap length (each-suc n) ∙ length-append (map f (below n)) (f n ∷ []) ∙ ap (λ (m : ℕ). m + 1) (each-length n) ∙ add-one n

  pub each_at : (d : A) (n i : ℕ) → i < n → get_or (map f (below n)) i d ≡ f i
  each_at d zero i l = absurd (not-suc-le-zero l)
  each_at d (suc n) i l =
      ap (λ (z : List A). get_or z i d) (each-suc n)
      ∙ ⊎_elim
      (λ (e : i ≡ n). get_or_at (map f (below n)) (f n) [] d i (each-length n ∙ sym e) ∙ ap f (sym e))
      (λ (m : i < n).
      get_or-append (map f (below n)) (f n ∷ []) d i (subst (λ (k : ℕ). i < k) (sym (each-length n)) m) ∙ each_at d n i m)
      (below_suc l)

  -- the values below n tell all that is in the list
  pub each-ext : (g : ℕ → A) (n : ℕ) → ((i : ℕ) → i < n → f i ≡ g i) → map f (below n) ≡ map g (below n)
  unfolding below
  each-ext g zero h = refl
  each-ext g (suc n) h =
      each-suc n ∙ ap₂ (λ (l : List A) (v : A). l ++ (v ∷ [])) (each-ext g n (λ i l. h i (omega arith))) (h n (lt-suc_self n))
      ∙ sym (map-append g (below n) (n ∷ []))
