-- The kept terms: one more, and that they stay listed least joins.
use Prim.Native.Nat.{ℕ, ◌+◌, ◌*◌, ◌≤◌, ◌<◌}
use mathlib.Core.Path.{◌≡◌, refl, sym, ap, subst, ◌∙◌}
use mathlib.Core.Logic.{inl, inr, ⊎_elim}
use mathlib.Core.List.{List, Memᴰ}
use native.Mathlib.Omega.{arith}
use native.Mathlib.Nat.{lt_irrefl}
use native.Mathlib.Numerals.{add-one}
use lib.ListN.{length}
use Rattle.masks.proofs.Tests.{below_suc}
use Rattle.terms.specs.declared.Term.{Term}
use Rattle.hints.specs.Kept.{kept_at, Put}
use Rattle.settling.specs.Sides.{KeptIn}
use Rattle.settling.specs.Growth.{StillKept}

module _ {t : Term} {kept : List ℕ} {k : ℕ} where
  pub still-none : 2 * k ≤ length kept → StillKept t kept k kept k
  still-none h = record { same = refl; room = h; each = λ j l. inr (l, refl) }

  pub still-more : {kept' : List ℕ} → 2 * k + 2 ≤ length kept → Put kept k t kept' → StillKept t kept k kept' (k + 1)
  still-more {kept'} h p =
      record {
        same = p.same;
        room = omega (arith, p.same);
        each = λ j l. ⊎_elim (λ (e : j ≡ k). inl (ap (kept_at kept') e ∙ p.put))
            (λ (m : j < k). inr (m, p.others j (λ e. lt_irrefl k (subst (λ (z : ℕ). z < k) e m))))
            (below_suc (rw (sym (add-one k)) l));
      }

  -- the kept terms are listed least joins, where t is one
  pub kept_in : {least l l' : List Term} {kept' : List ℕ} {k' : ℕ} → KeptIn least l kept k → StillKept t kept k kept' k'
      → ((u : Term) → Memᴰ u l → Memᴰ u l') → Memᴰ t l' → Memᴰ t least → KeptIn least l' kept' k'
  kept_in {least} {l} {l'} {kept'} {k'} h s more m n =
      record {
        room = s.room;
        are-listed = λ j i. ⊎_elim (λ (e : kept_at kept' j ≡ t). subst (λ (z : Term). Memᴰ z l') (sym e) m)
            (λ (e : (j < k) × (kept_at kept' j ≡ kept_at kept j)).
            subst (λ (z : Term). Memᴰ z l') (sym e.1) (more (kept_at kept j) (h.are-listed j e.0)))
            (s.each j i);
        are-least = λ j i. ⊎_elim (λ (e : kept_at kept' j ≡ t). subst (λ (z : Term). Memᴰ z least) (sym e) n)
            (λ (e : (j < k) × (kept_at kept' j ≡ kept_at kept j)).
            subst (λ (z : Term). Memᴰ z least) (sym e.1) (h.are-least j e.0))
            (s.each j i);
      }

-- they stay so while the list grows
pub kept_more : {least l l' : List Term} {kept : List ℕ} {k : ℕ} → KeptIn least l kept k
    → ((u : Term) → Memᴰ u l → Memᴰ u l') → KeptIn least l' kept k
kept_more h more =
    record { room = h.room; are-listed = λ j i. more _ (h.are-listed j i); are-least = h.are-least }
