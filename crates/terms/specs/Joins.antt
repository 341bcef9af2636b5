-- Terms joined and extended, as Propositions 3 and 5 of the article do it, and of two lists. No public contract rests on these.
use Rattle.std.specs.Prelude.{ℕ, Bool, true, false, ◌&&◌, not, List, [], ◌∷◌, ◌++◌, map, ltb}
use Rattle.terms.specs.Lists.{any, keep}
use Rattle.terms.specs.Term.{literals, extend, join, inside, conflict}
use Rattle.terms.specs.declared.Term.{Term}

-- the terms of the list without a conflict with t, joined with it
abbrev pub joins_with : Term → List Term → List Term
joins_with t us = map (join t) (keep (λ u. not (conflict t u)) us)

-- some term of the list is inside t
abbrev pub holds_one : List Term → Term → Bool
holds_one us t = any (λ u. inside u t) us

-- the terms of one side with none of the other side inside, extended by the literal of x of sign b
unfoldable pub extended : ℕ → Bool → List Term → List Term → List Term
extended x b other l = map (λ t. extend t x b) (keep (λ t. not (holds_one other t)) l)

-- each term of the one list joined with each of the other
abbrev pub joins : List Term → List Term → List Term
joins [] us = []
joins (t ∷ ts) us = joins_with t us ++ joins ts us

-- some term of the list is inside t and has fewer literals
abbrev pub holds_shorter : List Term → Term → Bool
holds_shorter us t = any (λ u. inside u t && ltb (literals u) (literals t)) us

-- the terms of the list with no shorter one of it inside
unfoldable pub least_of : List Term → List Term
least_of l = keep (λ t. not (holds_shorter l t)) l

-- the terms of a conjunction without a common variable, from the terms of its two parts: all joins; those of its negation: both lists
abbrev pub conjunction_terms : Bool → List Term → List Term → List Term
conjunction_terms true a b = joins a b
conjunction_terms false a b = a ++ b

-- the terms of a decision by x, from the terms of its sides
unfoldable pub decision_terms : ℕ → List Term → List Term → List Term
decision_terms x a b = extended x false b a ++ (extended x true a b ++ least_of (joins a b))
