-- Exclusions folded into one mask a variable, and the filter that uses them. No public contract rests on these.
use Rattle.std.specs.Prelude.{ℕ, ◌-◌, ◌<◌, ◌≡◌, Bool, List, ◌++◌, T, length, get_or, replicate}
use Rattle.masks.specs.Mask.{bit}
use Rattle.terms.specs.Lists.{keep}
use Rattle.terms.specs.declared.Term.{Term}
use Rattle.insertion.specs.Filled.{masks_of}
use Rattle.exclusions.specs.Exclusions.{first_at, second_at, respects, Exclusions}

-- the first k exclusions, folded: mask x of the list has the second variables of the pairs whose first variable is x; heads has all first
-- variables, and perhaps others
pub record Folded (e : Exclusions) (k : ℕ) (partners : List ℕ) (heads : ℕ) : Type 0 where
  pub partner : (i : ℕ) → i < k → T (bit (get_or partners (first_at e i) 0) (second_at e i))
  pub only : (x y : ℕ) → T (bit (get_or partners x 0) y) → (i : ℕ) × (i < k) × (first_at e i ≡ x) × (second_at e i ≡ y)
  pub head : (i : ℕ) → i < k → T (bit heads (first_at e i))

-- the terms that respect the exclusions
abbrev pub respecting : Exclusions → List Term → List Term
respecting e l = keep (respects e) l

-- the list l, which was filtered into slices of R zeros: they are s then, and the answer is r
pub record Filtered (e : Exclusions) (l : List Term) (R : ℕ) (s : Bool → List ℕ) (r : ℕ) : Type 0 where
  pub answer : r ≡ length (respecting e l)
  pub masks : (b : Bool) → s b ≡ masks_of b (respecting e l) ++ replicate (R - length (respecting e l)) 0
