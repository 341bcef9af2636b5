-- The search of two lists of terms for a shorter join. No public contract rests on these.
use Rattle.std.specs.Prelude.{ℕ, ◌≡◌, Bool, true, false, ◌&&◌, not, cond, List, ltb, length, Option, Some, None}
use Rattle.std.specs.Int.Bits.{bit_and}
use Rattle.terms.specs.Lists.{any}
use Rattle.terms.specs.Term.{term, join, inside}
use Rattle.terms.specs.declared.Term.{Term}
use Rattle.lists.specs.List.{nth, terms_in}
use Rattle.lists.specs.declared.list.TermList.{TermList}

-- b is inside t, and a literal of t is neither in a nor in b
unfoldable pub short : Term → Term → Term → Bool
short t a b = inside b t && not (inside t (join a b))

-- a and b are inside t, and their join lacks a literal of t
unfoldable pub shorter : Term → Term → Term → Bool
shorter t a b = inside a t && short t a b

-- so are some term of the one list and some of the other
abbrev pub shorter_join : List Term → List Term → Term → Bool
shorter_join l k t = any (λ a. any (shorter t a) k) l

-- so are term k of the one list and term l of the other, which are there
abbrev pub shorter_at : TermList → TermList → ℕ → ℕ → Term → Bool
shorter_at a b k l t =
    (ltb k (length a.positives.now) && ltb l (length b.positives.now)) && shorter t (nth a k) (nth b l)

-- what a search for such a pair finds: that there is none, or the places of one
abbrev pub Found : TermList → TermList → Term → Option (ℕ × ℕ) → Type 0
Found a b t None = shorter_join (terms_in a) (terms_in b) t ≡ false
Found a b t (Some p) = shorter_at a b p.0 p.1 t ≡ true

-- the literals of c that b has too, if b is inside t; else all of c's
unfoldable pub narrowed : Term → Term → Term → Term
narrowed t c b = cond (inside b t) (term (bit_and c.positive b.positive) (bit_and c.negative b.negative)) c
