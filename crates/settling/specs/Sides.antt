-- Two lists of prime implicants, and when a pair of their terms is settled. No public contract rests on these.
use Rattle.std.specs.Prelude.{ℕ, ◌+◌, ◌*◌, ◌≤◌, ◌<◌, ◌≡◌, Bool, true, ◌⊎◌, T, length}
use mathlib.Core.List.{List, [], Memᴰ}
use Rattle.masks.specs.Mask.{width}
use Rattle.terms.specs.Joins.{joins, least_of}
use Rattle.terms.specs.Lists.{Rising}
use Rattle.terms.specs.Order.{before}
use Rattle.terms.specs.Prime.{Lists}
use Rattle.terms.specs.Term.{has, join, inside, conflict}
use Rattle.terms.specs.declared.Term.{Term}
use Rattle.lists.specs.List.{nth, terms_in}
use Rattle.lists.specs.Capacity.{max_capacity}
use Rattle.lists.specs.declared.list.TermList.{TermList}
use Rattle.hints.specs.Kept.{kept_at}

-- the lists have the prime implicants of two functions, in order
pub record Sides (a b : List Term) : Type 0 where
  pub variables : ℕ
  pub wide : variables ≤ width
  pub low : ℕ → Bool
  pub high : ℕ → Bool
  pub lists-low : Lists variables low a
  pub lists-high : Lists variables high b
  pub rising-low : Rising (before []) a
  pub rising-high : Rising (before []) b

-- the two sides as they are lent
pub record SidesAt (a b : TermList) : Type 0 where
  pub few-low : length a.positives.now ≤ max_capacity
  pub few-high : length b.positives.now ≤ max_capacity
  pub sides : Sides (terms_in a) (terms_in b)

-- and x is in none of their terms
pub record DecidedAt (x : ℕ) (a b : TermList) : Type 0 where
  pub at : SidesAt a b
  pub below : x < at.sides.variables
  pub not_low : (t : Term) → Memᴰ t (terms_in a) → (d : Bool) → T (has t d x) → ⊥
  pub not-high : (t : Term) → Memᴰ t (terms_in b) → (d : Bool) → T (has t d x) → ⊥

-- the joins of two lists with no shorter one inside
abbrev pub least_joins : List Term → List Term → List Term
least_joins a b = least_of (joins a b)

-- those of two lent lists
abbrev pub least_between : TermList → TermList → List Term
least_between a b = least_joins (terms_in a) (terms_in b)

-- a listed least join is inside q
pub record Covered (least listed : List Term) (q : Term) : Type 0 where
  pub term : Term
  pub is-listed : Memᴰ term listed
  pub is-least : Memᴰ term least
  pub is-inside : inside term q ≡ true

-- t and u have a conflict, or a listed least join is inside their join
abbrev pub Settled : List Term → List Term → Term → Term → Type 0
Settled least listed t u = (conflict t u ≡ true) ⊎ Covered least listed (join t u)

-- the terms of b from a place on are settled with t
abbrev pub SettledFrom : List Term → List Term → Term → TermList → ℕ → Type 0
SettledFrom least listed t b from = (j : ℕ) → from ≤ j → j < length b.positives.now → Settled least listed t (nth b j)

-- all pairs are settled
abbrev pub AllSettled : List Term → List Term → TermList → TermList → Type 0
AllSettled least listed a b =
    (i j : ℕ) → i < length a.positives.now → j < length b.positives.now → Settled least listed (nth a i) (nth b j)

-- the kept terms are listed least joins
pub record KeptIn (least listed : List Term) (kept : List ℕ) (count : ℕ) : Type 0 where
  pub room : 2 * count ≤ length kept
  pub are-listed : (k : ℕ) → k < count → Memᴰ (kept_at kept k) listed
  pub are-least : (k : ℕ) → k < count → Memᴰ (kept_at kept k) least

-- the pairs of a place below low, or of one of the other side below high, and how many more there are after a step
pub record Stepped (least : List Term) (a b : TermList) (low high : ℕ) (listed : List Term) (low' high' : ℕ) : Type 0 where
  pub one : low' + high' ≡ low + high + 1
  pub within_low : low' ≤ length a.positives.now
  pub within-high : high' ≤ length b.positives.now
  pub settles : (i j : ℕ) → i < length a.positives.now → j < length b.positives.now → (i < low') ⊎ (j < high')
      → ((i < low) ⊎ (j < high)) ⊎ Settled least listed (nth a i) (nth b j)
