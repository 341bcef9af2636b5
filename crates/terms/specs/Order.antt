-- The order of terms, by the weights of the variables ("minutes"): entry x of the list m is the weight of variable x. With no weights,
-- which is the empty list, every term weighs nothing.
use Rattle.std.specs.Prelude.{ℕ, Bool, cond, List, [], ◌∷◌, length, get_or}
use Rattle.masks.specs.Numbers.{total}
use Rattle.terms.specs.Lists.{less}
use Rattle.terms.specs.Term.{mentions, variables, literals}
use Rattle.terms.specs.declared.Term.{Term}

-- the sum of the weights of the variables with a literal, positive or negative ("the sum of the marked facts' minutes")
unfoldable pub weight : List ℕ → Term → ℕ
weight m t = total (length m) (λ x. cond (mentions t x) (get_or m x 0) 0)

-- the smaller weight first, then fewer literals, then the smaller mask of all variables, then the smaller positive mask
unfoldable pub key : List ℕ → Term → List ℕ
key m t = weight m t ∷ literals t ∷ variables t ∷ t.positive ∷ []

-- t comes before u
unfoldable pub before : List ℕ → Term → Term → Bool
before m t u = less (key m t) (key m u)
