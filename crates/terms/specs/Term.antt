-- Terms ("rows"): a mask of the positive literals (facts marked yes) and one of the negative literals (facts marked no).
use Rattle.std.specs.Prelude.{ℕ, ◌^◌, ◌<◌, ◌≡◌, Bool, true, false, ◌&&◌, ◌||◌, not, List, [], ◌∷◌, T}
use Rattle.std.specs.Int.Bits.{bit_or}
use Rattle.masks.specs.Mask.{bit, put, within, size, subset, disjoint}
use Rattle.masks.specs.Numbers.{implied, every}
use Rattle.terms.specs.declared.Term.{Term}

abbrev pub term : ℕ → ℕ → Term
term p n = record { positive = p; negative = n }

-- the term with no literal ("the empty row")
abbrev pub empty : Term
empty = term 0 0

-- the variables of the literals with sign b: positive where b is true
abbrev pub mask : Term → Bool → ℕ
mask t true = t.positive
mask t false = t.negative

-- the literal of variable x with sign b is in the term ("x is marked yes", or "no")
abbrev pub has : Term → Bool → ℕ → Bool
has t b x = bit (mask t b) x

-- x has a literal in the term ("x is marked")
abbrev pub mentions : Term → ℕ → Bool
mentions t x = has t true x || has t false x

-- all variables with a literal in the term ("the mask of all marked facts")
abbrev pub variables : Term → ℕ
variables t = bit_or t.positive t.negative

-- the number of literals ("marks")
abbrev pub literals : Term → ℕ
literals t = size (variables t)

-- a term over N variables: no bit at N or above, none in both masks
unfoldable pub is_term : ℕ → Term → Bool
is_term N t = within N t.positive && within N t.negative && every N (λ x. not (has t true x && has t false x))

-- the assignment s ("stow") has the variable x as the term's literals say
abbrev pub agrees_at : Term → ℕ → ℕ → Bool
agrees_at t s x = implied (has t true x) (bit s x) && implied (has t false x) (not (bit s x))

-- the assignment s agrees with the term: it has each of the N variables as the literals say
unfoldable pub agrees : ℕ → Term → ℕ → Bool
agrees N t s = every N (agrees_at t s)

-- the term with no literal of x ("the mark struck")
abbrev pub without : Term → ℕ → Term
without t x = term (put t.positive x false) (put t.negative x false)

-- the term with the literal of x of sign b ("x marked")
abbrev pub extend : Term → ℕ → Bool → Term
extend t x true = term (put t.positive x true) t.negative
extend t x false = term t.positive (put t.negative x true)

-- the literals of both terms ("joined")
abbrev pub join : Term → Term → Term
join t u = term (bit_or t.positive u.positive) (bit_or t.negative u.negative)

-- each literal of t is one of u ("t is inside u")
unfoldable pub inside : Term → Term → Bool
inside t u = subset t.positive u.positive && subset t.negative u.negative

-- some variable has different signs in t and u ("a clash")
unfoldable pub conflict : Term → Term → Bool
conflict t u = not (disjoint t.positive u.negative && disjoint t.negative u.positive)

-- ---- the same as statements
-- an assignment that has each literal's variable as its sign says
abbrev pub Agrees : Term → ℕ → Type 0
Agrees t s = (x : ℕ) (b : Bool) → T (has t b x) → bit s x ≡ b

-- a term over N variables
pub record IsTerm (N : ℕ) (t : Term) : Type 0 where
  pub fits : (b : Bool) → mask t b < 2 ^ N
  pub once : (x : ℕ) (b c : Bool) → T (has t b x) → T (has t c x) → b ≡ c

-- ---- lists of terms
-- the terms with these positive masks and these negative masks
abbrev pub terms_of : List ℕ → List ℕ → List Term
terms_of [] ns = []
terms_of (p ∷ ps) [] = []
terms_of (p ∷ ps) (n ∷ ns) = term p n ∷ terms_of ps ns
