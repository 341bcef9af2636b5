-- The members of terms inserted one after the other.
use Prim.Native.Nat.{ℕ}
use mathlib.Core.Path.{◌≡◌, refl, sym, subst}
use mathlib.Core.Logic.{◌⊎◌, inl, inr, ⊎_elim, ⊎_map}
use mathlib.Core.List.Memᴰ
use mathlib.Core.List.{List, [], ◌∷◌, Memᴰ}
use Rattle.terms.specs.Lists.{insert, sort}
use Rattle.terms.specs.Order.{before}
use Rattle.terms.specs.Term.{IsTerm}
use Rattle.terms.specs.declared.Term.{Term}
use Rattle.terms.proofs.Listed.{before-total, sorted-only}
use Rattle.terms.proofs.Sorted.{insert-out, insert-in}
use Rattle.lists.proofs.Least.{Terms}
use Rattle.joins.specs.Added.{insert_all}
use Rattle.joins.proofs.Adding.{rises}

only-those : (l acc : List Term) (u : Term) → Memᴰ u (insert_all l acc) → Memᴰ u l ⊎ Memᴰ u acc
only-those [] acc u m = inr m
only-those (t ∷ l) acc u m = go (only-those l (insert (before []) t acc) u m)
  where
    go : Memᴰ u l ⊎ Memᴰ u (insert (before []) t acc) → Memᴰ u (t ∷ l) ⊎ Memᴰ u acc
    go (inl k) = inl (Memᴰ.tail k)
    go (inr k) =
        ⊎_map (λ (e : u ≡ t). Memᴰ.head e) (λ (n : Memᴰ u acc). n)
        (insert-out (before []) t acc u k)

module _ (N : ℕ) where
  all-those : (l acc : List Term) → Terms N l → Terms N acc → (u : Term) → Memᴰ u l ⊎ Memᴰ u acc
      → Memᴰ u (insert_all l acc)
  all-those [] acc hl ha u (inl m) = absurd (Memᴰ.not-nil m)
  all-those [] acc hl ha u (inr m) = m
  all-those (t ∷ l) acc hl ha u m =
      all-those l (insert (before []) t acc) (λ v k. hl v (Memᴰ.tail k)) good u (go m)
    where
      into : (v : Term) → (v ≡ t) ⊎ Memᴰ v acc → Memᴰ v (insert (before []) t acc)
      into =
          insert-in (before []) (IsTerm N) (before-total [] N) t acc (hl t (Memᴰ.head refl)) ha

      good : Terms N (insert (before []) t acc)
      good v k =
          ⊎_elim (λ (e : v ≡ t). subst (IsTerm N) (sym e) (hl t (Memᴰ.head refl))) (λ (n : Memᴰ v acc). ha v n)
          (insert-out (before []) t acc v k)

      go : Memᴰ u (t ∷ l) ⊎ Memᴰ u acc → Memᴰ u l ⊎ Memᴰ u (insert (before []) t acc)
      go (inl k) =
          ⊎_elim (λ (e : u ≡ t). inr (into u (inl e))) (λ (n : Memᴰ u l). inl n) (Memᴰ.cases_cons k)
      go (inr k) = inr (into u (inr k))

  -- inserting the terms of one list is sorting another with the same members
  pub inserted-sorted : (l k : List Term) → Terms N l → ((t : Term) → Memᴰ t l → Memᴰ t k)
      → ((t : Term) → Memᴰ t k → Memᴰ t l) → insert_all l [] ≡ sort (before []) k
  inserted-sorted l k h to from =
      sorted-only [] N (insert_all l []) k (rises l [] tt) (λ t m. h t (from t m))
      (λ t m. ⊎_elim (to t) (λ (n : Memᴰ t []). absurd (Memᴰ.not-nil n)) (only-those l [] t m))
      (λ t m. all-those l [] h (λ u n. absurd (Memᴰ.not-nil n)) t (inl (from t m)))
