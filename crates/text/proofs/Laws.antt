-- Laws on lists that the proofs cite.
use Prim.Native.Nat.{ℕ, zero, suc, ◌<◌}
use mathlib.Core.List.{List, [], ◌∷◌}
use mathlib.Core.Path.{◌≡◌, refl}
use native.Mathlib.Omega.{arith}
use lib.ListN.{length, get_or}

-- a place at which a byte stands lies in the text
pub inside : (s : List ℕ) (at : ℕ) → get_or s at 256 < 256 → at < length s
inside [] zero h = omega arith
inside [] (suc at) h = omega arith
inside (b ∷ s) zero h = omega arith
inside (b ∷ s) (suc at) h = let r = inside s at h in omega arith

-- inside, the default is never read
pub get_or-inside : (s : List ℕ) (at d e : ℕ) → at < length s → get_or s at d ≡ get_or s at e
get_or-inside [] at d e h = absurd (omega arith)
get_or-inside (b ∷ s) zero d e h = refl
get_or-inside (b ∷ s) (suc at) d e h = get_or-inside s at d e (omega arith)
