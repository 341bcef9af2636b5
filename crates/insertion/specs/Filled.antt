-- Lists of terms in the front of two slices, and what is left there when a list was made. No public contract rests on these.
use Rattle.std.specs.Prelude.{ℕ, ◌<◌, ◌≤◌, ◌≡◌, Bool, true, false, cond, List, [], ◌∷◌, ◌++◌, map, leb, length, get_or, take, drop}
use Rattle.std.specs.Prelude.{Option, Some, None, Result, Ok, Err}
use Rattle.terms.specs.Lists.{insert}
use Rattle.terms.specs.Order.{before}
use Rattle.terms.specs.Term.{empty, mask}
use Rattle.terms.specs.declared.Term.{Term}

-- the list with v put in front of what stands from k on
abbrev pub insert_at : {A : Type 0} → ℕ → A → List A → List A
insert_at k v l = take k l ++ v ∷ drop k l

-- neither comes before the other: terms over some variables are then the same
abbrev pub Level : Term → Term → Type 0
Level t u = (before [] t u ≡ false) × (before [] u t ≡ false)

-- what a search for the place of t finds
abbrev pub Placed : Term → List Term → Result ℕ ℕ → Type 0
Placed t l (Ok k) = (k < length l) × Level t (get_or l k empty) × (insert (before []) t l ≡ l)
Placed t l (Err k) = (k ≤ length l) × (insert (before []) t l ≡ insert_at k t l)

-- the masks of sign b of the terms
abbrev pub masks_of : Bool → List Term → List ℕ
masks_of b l = map (λ t. mask t b) l

-- s with l over its front
abbrev pub laid : List ℕ → List ℕ → List ℕ
laid l s = l ++ drop (length l) s

-- the answer for the list l in slices of capacity entries
abbrev pub kept_of : ℕ → List Term → Option ℕ
kept_of capacity l = cond (leb (length l) capacity) (Some (length l)) None

-- the list l was to be made in the front of the slices s, which are s' then
pub record Filled (l : List Term) (s s' : Bool → List ℕ) (k : Option ℕ) : Type 0 where
  pub answer : k ≡ kept_of (length (s true)) l
  pub masks : length l ≤ length (s true) → (b : Bool) → s' b ≡ laid (masks_of b l) (s b)
