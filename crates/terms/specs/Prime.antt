-- Implicants and prime implicants of a function of assignments. An assignment of N variables is a number below 2 ^ N.
use Rattle.std.specs.Prelude.{ℕ, zero, suc, ◌^◌, ◌<◌, Bool, ◌&&◌, not, cond, T}
use mathlib.Core.List.{List, [], ◌∷◌, ◌++◌, map, Memᴰ}
use Rattle.masks.specs.Mask.{bit}
use Rattle.masks.specs.Numbers.{implied, every, below}
use Rattle.terms.specs.Lists.{keep, sort}
use Rattle.terms.specs.Order.{before}
use Rattle.terms.specs.Term.{term, empty, has, mentions, is_term, agrees, without, extend, Agrees, IsTerm}
use Rattle.terms.specs.declared.Term.{Term}

-- every assignment that agrees with the term makes f true ("the row implies f")
unfoldable pub implicant : ℕ → (ℕ → Bool) → Term → Bool
implicant N f t = every (2 ^ N) (λ s. implied (agrees N t s) (f s))

-- a prime implicant ("clearance"): an implicant that stops being one if any one literal is struck
unfoldable pub prime : ℕ → (ℕ → Bool) → Term → Bool
prime N f t = is_term N t && implicant N f t && every N (λ x. implied (mentions t x) (not (implicant N f (without t x))))

-- every pair of a positive mask of the one list and a negative mask of the other
abbrev pub pairs : List ℕ → List ℕ → List Term
pairs [] ns = []
pairs (p ∷ ps) ns = map (term p) ns ++ pairs ps ns

-- every term over N variables stands among these
unfoldable pub candidates : ℕ → List Term
candidates N = pairs (below (2 ^ N)) (below (2 ^ N))

-- all prime implicants of f over N variables, in order by the weights m
unfoldable pub primes : List ℕ → ℕ → (ℕ → Bool) → List Term
primes m N f = sort (before m) (keep (prime N f) (candidates N))

-- the term of the literals of the variables 0 to k - 1 as the assignment s has them ("all marks")
unfoldable pub assignment_term : ℕ → ℕ → Term
assignment_term s zero = empty
assignment_term s (suc k) = extend (assignment_term s k) k (bit s k)

-- an implicant with the literals of 0 to k - 1 struck in turn, each if the rest is still an implicant ("strike down")
unfoldable pub reduce : ℕ → (ℕ → Bool) → Term → ℕ → Term
reduce N f t zero = t
reduce N f t (suc k) = let u : Term = reduce N f t k in cond (implicant N f (without u k)) (without u k) u

-- ---- the same as statements
-- every assignment of N variables that agrees with the term makes f true
abbrev pub Implicant : ℕ → (ℕ → Bool) → Term → Type 0
Implicant N f t = (s : ℕ) → s < 2 ^ N → Agrees t s → T (f s)

-- a term over N variables that implies f, and stops doing so if any one literal is struck
pub record Prime (N : ℕ) (f : ℕ → Bool) (t : Term) : Type 0 where
  pub is_term : IsTerm N t
  pub holds : Implicant N f t
  pub minimal : (x : ℕ) (b : Bool) → T (has t b x) → Implicant N f (without t x) → ⊥

-- the members of the list are exactly the prime implicants of f
pub record Lists (N : ℕ) (f : ℕ → Bool) (l : List Term) : Type 0 where
  pub only : (t : Term) → Memᴰ t l → Prime N f t
  pub every : (t : Term) → Prime N f t → Memᴰ t l
