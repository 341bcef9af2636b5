-- The weights of variables ("minutes"): entry x of a list is the weight of variable x.
use Rattle.std.specs.Prelude.{ℕ, ◌≤◌, Bool, ◌&&◌, List, eqb, leb, length, get_or}
use Rattle.terms.specs.Lists.{all}

-- what a variable weighs at most
abbrev pub max_weight : ℕ
max_weight = 1000

-- exactly N weights, each at most 1,000: not 56
unfoldable pub fitting : ℕ → List ℕ → Bool
fitting N m = eqb (length m) N && all (λ v. leb v max_weight) m

-- ---- as a statement: each weight is at most 1,000
abbrev pub Bounded : List ℕ → Type 0
Bounded m = (x : ℕ) → get_or m x 0 ≤ max_weight
