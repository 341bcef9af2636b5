-- Lists: tests of the elements, what a test keeps, and lists in order.
use Rattle.std.specs.Prelude.{ℕ, Bool, true, false, ◌&&◌, ◌||◌, cond, T, eqb, ltb}
use mathlib.Core.List.{List, [], ◌∷◌, Memᴰ}

-- every element passes the test p
abbrev pub all : {A : Type 0} → (A → Bool) → List A → Bool
all p [] = true
all p (a ∷ l) = p a && all p l

-- some element passes the test p
abbrev pub any : {A : Type 0} → (A → Bool) → List A → Bool
any p [] = false
any p (a ∷ l) = p a || any p l

-- the elements that pass the test p
abbrev pub keep : {A : Type 0} → (A → Bool) → List A → List A
keep p [] = []
keep {A} p (a ∷ l) = let rest : List A = keep p l in cond (p a) (a ∷ rest) rest

-- lists of numbers in lexicographic order: the first numbers in which they differ decide
abbrev pub less : List ℕ → List ℕ → Bool
less [] k = false
less (a ∷ l) [] = false
less (a ∷ l) (b ∷ k) = ltb a b || (eqb a b && less l k)

module _ {A : Type 0} (before : A → A → Bool) where
  -- a put into a list in order, unless it is there
  abbrev pub insert : A → List A → List A
  insert a [] = a ∷ []
  insert a (b ∷ l) =
      let rest : List A = insert a l in cond (before a b) (a ∷ b ∷ l) (cond (before b a) (b ∷ rest) (b ∷ l))

  -- the elements in order, each once
  unfoldable pub sort : List A → List A
  sort [] = []
  sort (a ∷ l) = insert a (sort l)

  -- each element comes before all later ones
  abbrev pub Rising : List A → Type 0
  Rising [] = Unit {0}
  Rising (a ∷ l) = ((b : A) → Memᴰ b l → T (before a b)) × Rising l
