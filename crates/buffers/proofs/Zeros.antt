-- Parts of lists of zeros.
use Prim.Native.Nat.{ℕ, zero, suc, ◌-◌, ◌≤◌}
use mathlib.Core.Path.{◌≡◌, refl, ap, ◌∙◌}
use mathlib.Core.List.{List, ◌∷◌}
use native.Mathlib.Nat.{not-suc-le-zero, le_of_suc-le-suc}
use native.Mathlib.Omega.{arith}
use lib.ListN.{get_or, take, drop, replicate}

pub take-zeros : (r m : ℕ) → r ≤ m → take {A = ℕ} r (replicate m 0) ≡ replicate r 0
take-zeros zero m h = refl
take-zeros (suc r) zero h = absurd (not-suc-le-zero h)
take-zeros (suc r) (suc m) h = ap (λ (z : List ℕ). 0 ∷ z) (take-zeros r m (le_of_suc-le-suc h))

pub drop-zeros : (r m : ℕ) → drop {A = ℕ} r (replicate m 0) ≡ replicate (m - r) 0
drop-zeros zero m = let e : m ≡ m - 0 = omega arith in ap (λ (n : ℕ). replicate n 0) e
drop-zeros (suc r) zero = let e : 0 ≡ 0 - suc r = omega arith in ap (λ (n : ℕ). replicate n 0) e
drop-zeros (suc r) (suc m) =
    let e : m - r ≡ suc m - suc r = omega arith in drop-zeros r m ∙ ap (λ (n : ℕ). replicate n 0) e

pub zero-at : (m j : ℕ) → get_or {A = ℕ} (replicate m 0) j 0 ≡ 0
zero-at zero j = refl
zero-at (suc m) zero = refl
zero-at (suc m) (suc j) = zero-at m j
