-- The part of a buffer that the view hands back, by its offset and its length.
use Prim.Native.Nat.{ℕ, zero, suc, ◌*◌, ◌+◌}
use mathlib.Core.Path.{◌≡◌, refl, ap}
use mathlib.Core.Bool.{Bool, true, false, ◌&&◌, cond}
use mathlib.Core.List.{List, [], ◌∷◌}
use lib.Dec.{leb, eqb, ltb}
use lib.ListN.{length, take, drop}
use native.Mathlib.Nat.{le_of_eq, not-suc-le-zero}
use borrow.Author.Tests.{eqb-true}
use Rattle.table.specs.Node.{max_nodes}
use Rattle.lists.specs.Capacity.{max_capacity}
use Rattle.listing.specs.Listing.{viewed}
use Rattle.quelbrift.specs.Boundary.{placed}

-- what a caller finds in the buffer s from an offset on
abbrev pub found : List ℕ → ℕ × (ℕ × ℕ) → List ℕ
found s p = take p.1.0 (drop p.0 s)

take_again : (c : ℕ) (l : List ℕ) → take (length (take c l)) l ≡ take c l
take_again zero l = refl
take_again (suc c) [] = refl
take_again (suc c) (x ∷ l) = ap (λ (r : List ℕ). x ∷ r) (take_again c l)

none_is : (s l : List ℕ) → length l ≡ 0 → take 0 s ≡ l
none_is s [] e = refl
none_is s (x ∷ l) e = absurd (not-suc-le-zero (le_of_eq e))

-- the offset and the length name the part that the view hands back
pub view-is : (s : List ℕ) (R i c : ℕ) → found s (placed R i (viewed s R i c)) ≡ viewed s R i c
view-is s R i c = go (ltb i max_nodes && leb R max_capacity && leb c R && leb (i * R + c) (length s)) where
  part : List ℕ
  part = take c (drop (i * R) s)

  there : (b : Bool) → eqb (length part) 0 ≡ b → found s (cond b (0, (0, 0)) (i * R, (length part, 0))) ≡ part
  there true e = none_is s part (eqb-true (length part) 0 e)
  there false e = take_again c (drop (i * R) s)

  go : (b : Bool) → found s (placed R i (cond b part [])) ≡ cond b part []
  go false = refl
  go true = there (eqb (length part) 0) refl
