-- Tests of the numbers below a bound.
use Rattle.std.specs.Prelude.{ℕ, zero, suc, ◌+◌, ◌<◌, Bool, true, false, ◌&&◌, ◌||◌, not, cond, List, [], ◌∷◌, ◌++◌, T, ltb}
use Rattle.std.specs.Prelude.{Option, Some, None}

-- 1 for true, 0 for false
abbrev pub digit : Bool → ℕ
digit true = 1
digit false = 0

-- where a holds, b does
abbrev pub implied : Bool → Bool → Bool
implied true b = b
implied false b = true

-- the test p passes at every number below n
unfoldable pub every : ℕ → (ℕ → Bool) → Bool
every zero p = true
every (suc n) p = let rest : Bool = every n p in p n && rest

-- the test p passes at some number below n
unfoldable pub some : ℕ → (ℕ → Bool) → Bool
some zero p = false
some (suc n) p = let rest : Bool = some n p in p n || rest

-- how many numbers below n pass the test p
unfoldable pub count : ℕ → (ℕ → Bool) → ℕ
count zero p = 0
count (suc n) p = count n p + digit (p n)

-- the sum of f over the numbers below n
unfoldable pub total : ℕ → (ℕ → ℕ) → ℕ
total zero f = 0
total (suc n) f = total n f + f n

-- the least number below n that passes the test p; n where none does
unfoldable pub least : ℕ → (ℕ → Bool) → ℕ
least zero p = 0
least (suc n) p = let l : ℕ = least n p in cond (ltb l n) l (cond (p n) n (suc n))

-- the same as an answer, None where none does
unfoldable pub first : ℕ → (ℕ → Bool) → Option ℕ
first n p = let l : ℕ = least n p in cond (ltb l n) (Some l) None

-- the numbers below n, rising
unfoldable pub below : ℕ → List ℕ
below zero = []
below (suc n) = below n ++ (n ∷ [])

-- ---- as a statement: k passes the test p, and no lower number does
abbrev pub Lowest : (ℕ → Bool) → ℕ → Type 0
Lowest p k = T (p k) × ((i : ℕ) → i < k → T (not (p i)))
