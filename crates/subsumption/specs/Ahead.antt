-- What a search for a term inside another finds in a list in order, and where it may stop. No public contract rests on these.
use Rattle.std.specs.Prelude.{ℕ, ◌<◌, ◌≤◌, ◌≡◌, Bool, true, false, ltb, length, Option, Some, None}
use mathlib.Core.List.{List, [], Memᴰ}
use Rattle.masks.specs.Mask.{width}
use Rattle.terms.specs.Joins.{holds_one}
use Rattle.terms.specs.Lists.{Rising}
use Rattle.terms.specs.Order.{before}
use Rattle.terms.specs.Term.{literals, inside, IsTerm}
use Rattle.terms.specs.declared.Term.{Term}
use Rattle.lists.specs.List.{nth, terms_in}
use Rattle.lists.specs.declared.list.TermList.{TermList}

-- u comes earlier than t by the first part of the order's key, as each term inside t does but t itself
unfoldable pub ahead : Term → Term → Bool
ahead u t = ltb (literals u) (literals t)

-- from k on no term of the list is ahead of t
abbrev pub NoneAhead : TermList → Term → ℕ → Type 0
NoneAhead l t k = (i : ℕ) → k ≤ i → i < length l.positives.now → ahead (nth l i) t ≡ false

-- t and the terms of the list are terms over some number of variables, which masks can hold
pub record OverSome (t : Term) (l : List Term) : Type 0 where
  pub over : ℕ
  pub wide : over ≤ width
  pub is_term : IsTerm over t
  pub terms : (u : Term) → Memᴰ u l → IsTerm over u

-- what a search for a term inside t asks of the list: it is in order, and the terms ahead of t stand before `end`
pub record Searchable (l : TermList) (end : ℕ) (t : Term) : Type 0 where
  pub within : end ≤ length l.positives.now
  pub rising : Rising (before []) (terms_in l)
  pub none : NoneAhead l t end
  pub terms : OverSome t (terms_in l)

-- what a search in the terms before `end` for one inside t finds
abbrev pub FoundBefore : TermList → ℕ → Term → Option ℕ → Type 0
FoundBefore l end t (Some k) = (k < end) × (inside (nth l k) t ≡ true)
FoundBefore l end t None = (k : ℕ) → k < end → inside (nth l k) t ≡ false

-- what a search in the whole list finds
abbrev pub FoundInside : TermList → Term → Option ℕ → Type 0
FoundInside l t (Some k) = (k < length l.positives.now) × (inside (nth l k) t ≡ true)
FoundInside l t None = holds_one (terms_in l) t ≡ false
