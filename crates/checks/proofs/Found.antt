-- The lowest node that passes a test, as `find` over a range answers it.
use Prim.Native.Nat.{ℕ, ◌<◌, ◌≤◌}
use mathlib.Core.Path.{◌≡◌, sym, ap, ◌∙◌}
use mathlib.Core.Bool.{Bool, true, false, cond}
use mathlib.Core.Logic.{⊎_elim}
use native.Mathlib.Omega.{arith}
use lib.Dec.{T, T_not, ltb}
use borrow.Author.Tests.{lt-ltb, le-ltb}
use Rattle.std.specs.Prelude.{Option, Some, None, MatchOption}
use Rattle.masks.specs.Numbers.{least, first}
use Rattle.masks.proofs.Numbers.{least-ext, least-none, least-lowest}
use Rattle.masks.proofs.Tests.{along}
use Rattle.table.proofs.NodePlaces.{lt-or-le}

module _ (p : ℕ → Bool) (n : ℕ) where
  -- what the code says of its answer
  abbrev pub Found : Option ℕ → Type 0
  Found r =
      MatchOption r ((k : ℕ) → 0 ≤ k → k < n → p k ≡ false)
      (λ i. (0 ≤ i) × (i < n) × (p i ≡ true) × ((k : ℕ) → 0 ≤ k → k < i → p k ≡ false))

  fails : {k : ℕ} → p k ≡ false → T (p k) → ⊥
  fails e h = along e h

  pub found-first : (r : Option ℕ) → Found r → r ≡ first n p
  unfolding first
  found-first None h =
      let none : n ≤ least n p =
      ⊎_elim
      (λ (l : least n p < n). absurd (fails (h (least n p) (omega arith) l) (least-lowest n p l).0))
      (λ (l : n ≤ least n p). l)
      (lt-or-le (least n p) n) in
      ap (λ (x : Bool). cond x (Some (least n p)) None) (sym (le-ltb (least n p) n none))
  found-first (Some i) h =
      let here : T (p i) = along (sym h.2) tt in
      let below : least n p < n =
      ⊎_elim (λ (l : least n p < n). l)
      (λ (l : n ≤ least n p). absurd (T_not (p i) (least-none n p l i h.1) here))
      (lt-or-le (least n p) n) in
      let lowest = least-lowest n p below in
      let most : i ≤ least n p =
      ⊎_elim (λ (l : least n p < i). absurd (fails (h.3 (least n p) (omega arith) l) lowest.0)) (λ (l : i ≤ least n p). l)
      (lt-or-le (least n p) i) in
      let fewest : least n p ≤ i =
      ⊎_elim (λ (l : i < least n p). absurd (T_not (p i) (lowest.1 i l) here)) (λ (l : least n p ≤ i). l)
      (lt-or-le i (least n p)) in
      let e : i ≡ least n p = omega arith in
      ap Some e ∙ ap (λ (x : Bool). cond x (Some (least n p)) None) (sym (lt-ltb (least n p) n below))

-- the same by a test that agrees below n
pub first-ext : (n : ℕ) (p q : ℕ → Bool) → ((i : ℕ) → i < n → p i ≡ q i) → first n p ≡ first n q
unfolding first
first-ext n p q h = ap (λ (l : ℕ). cond (ltb l n) (Some l) None) (least-ext n p q h)
