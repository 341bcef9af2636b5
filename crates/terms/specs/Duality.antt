-- Two lists of terms against each other, as the prime implicants of a function ("clearances") stand against those of its negation
-- ("blockers").
use Rattle.std.specs.Prelude.{ℕ, ◌^◌, ◌<◌, Bool, not, ◌⊎◌, T}
use mathlib.Core.List.{List, Memᴰ}
use Rattle.terms.specs.Term.{has, Agrees}
use Rattle.terms.specs.declared.Term.{Term}

-- t and u have opposite literals of x, a positive one and a negative one ("they disagree on the fact x")
abbrev pub Opposite : Term → Term → ℕ → Type 0
Opposite t u x = (b : Bool) × T (has t b x) × T (has u (not b) x)

-- the assignment s agrees with a term of the list
abbrev pub AgreesWithOne : List Term → ℕ → Type 0
AgreesWithOne l s = (t : Term) × Memᴰ t l × Agrees t s

-- the lists ts and us over N variables
pub record Dual (N : ℕ) (ts us : List Term) : Type 0 where
  -- each term of the one and each of the other have opposite literals of some variable
  pub opposite : (t u : Term) → Memᴰ t ts → Memᴰ u us → (x : ℕ) × (x < N) × Opposite t u x
  -- every assignment agrees with a term of the one or with one of the other
  pub covered : (s : ℕ) → s < 2 ^ N → AgreesWithOne ts s ⊎ AgreesWithOne us s
  -- none agrees with one of each
  pub apart : (s : ℕ) → AgreesWithOne ts s → AgreesWithOne us s → ⊥
