-- Terms inserted one after the other. No public contract rests on these.
use Rattle.std.specs.Prelude.{ℕ, Bool, List, [], ◌∷◌, Option}
use Rattle.terms.specs.Lists.{insert}
use Rattle.terms.specs.Order.{before}
use Rattle.terms.specs.declared.Term.{Term}
use Rattle.lists.specs.List.{held}
use Rattle.insertion.specs.Filled.{Filled}

-- the terms of l inserted into acc, one after the other
abbrev pub insert_all : List Term → List Term → List Term
insert_all [] acc = acc
insert_all (t ∷ l) acc = insert_all l (insert (before []) t acc)

-- the list l was to be inserted into the terms that the first count entries of s hold
abbrev pub Added : List Term → (Bool → List ℕ) → ℕ → (Bool → List ℕ) → Option ℕ → Type 0
Added l s count s' k = Filled (insert_all l (held s count)) s s' k
