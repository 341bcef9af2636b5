-- The terms of one side of a decision in the list. No public contract rests on these.
use Rattle.std.specs.Prelude.{ℕ, ◌<◌, ◌≡◌, Bool, false, T}
use mathlib.Core.List.{List, ◌++◌, Memᴰ}
use Rattle.terms.specs.Joins.{holds_one, extended}
use Rattle.terms.specs.Term.{has, extend}
use Rattle.terms.specs.declared.Term.{Term}
use Rattle.lists.specs.List.{terms_in}
use Rattle.lists.specs.declared.list.TermList.{TermList}
use Rattle.settling.specs.Growth.{Growing}
use Rattle.settling.specs.Sides.{least_joins}
use Rattle.settling.specs.declared.counts.Counts.{Counts}

-- a list grows by the terms of the side a, in which x is not
pub record Extending (x : ℕ) (a b : TermList) (s : Bool → List ℕ) (kept : List ℕ) (c : Counts) : Type 0 where
  pub growing : Growing a b s kept c
  pub below : x < growing.at.sides.variables
  pub free : (t : Term) → Memᴰ t (terms_in a) → (d : Bool) → T (has t d x) → ⊥

-- the terms of the side a that may be listed: with the literal of x, or as least joins
abbrev pub side_terms : ℕ → Bool → List Term → List Term → List Term
side_terms x sign a b = extended x sign b a ++ least_joins a b

-- the term t with the literal is listed, where no term of b is inside t
abbrev pub ListsOne : ℕ → Bool → List Term → Term → List Term → Type 0
ListsOne x sign b t l = holds_one b t ≡ false → Memᴰ (extend t x sign) l

-- every term of a with the literal that is to be listed is
abbrev pub ListsSide : ℕ → Bool → List Term → List Term → List Term → Type 0
ListsSide x sign a b l = (t : Term) → Memᴰ t (extended x sign b a) → Memᴰ t l
