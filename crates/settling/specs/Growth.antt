-- A list in the front of two slices that grows. No public contract rests on these.
use Rattle.std.specs.Prelude.{ℕ, ◌*◌, ◌≤◌, ◌<◌, ◌≡◌, Bool, true, false, ◌⊎◌, length, Option, Some, None}
use mathlib.Core.List.{List, [], Memᴰ}
use Rattle.terms.specs.Lists.{insert, Rising}
use Rattle.terms.specs.Order.{before}
use Rattle.terms.specs.Term.{IsTerm}
use Rattle.terms.specs.declared.Term.{Term}
use Rattle.lists.specs.List.{held}
use Rattle.lists.specs.Capacity.{max_capacity}
use Rattle.lists.specs.declared.list.TermList.{TermList}
use Rattle.insertion.specs.Filled.{Filled}
use Rattle.hints.specs.Kept.{kept_at}
use Rattle.settling.specs.Sides.{SidesAt, least_between, KeptIn}
use Rattle.settling.specs.declared.counts.Counts.{Counts}

-- the first count entries hold terms over N variables, in order
pub record Front (N : ℕ) (s : Bool → List ℕ) (count : ℕ) : Type 0 where
  pub fits : count ≤ length (s true)
  pub even : length (s false) ≡ length (s true)
  pub rising : Rising (before []) (held s count)
  pub terms : (t : Term) → Memᴰ t (held s count) → IsTerm N t

-- the list has grown by some terms of `more`, and nothing behind it changed
pub record Grew (more : List Term) (s : Bool → List ℕ) (count : ℕ) (s' : Bool → List ℕ) (c : ℕ) : Type 0 where
  pub holds : Filled (held s' c) s s' (Some c)
  pub rising : Rising (before []) (held s' c)
  pub only : (t : Term) → Memᴰ t (held s' c) → Memᴰ t (held s count) ⊎ Memᴰ t more
  pub keeps : (t : Term) → Memᴰ t (held s count) → Memᴰ t (held s' c)

-- there are more terms, listed ones or of `more`, than the slices have entries
pub record Overflow (more : List Term) (s : Bool → List ℕ) (count : ℕ) : Type 0 where
  pub list : List Term
  pub rising : Rising (before []) list
  pub only : (t : Term) → Memᴰ t list → Memᴰ t (held s count) ⊎ Memᴰ t more
  pub over : length (s true) < length list

-- of the first k kept terms and t come the first k' of kept'
pub record StillKept (t : Term) (kept : List ℕ) (k : ℕ) (kept' : List ℕ) (k' : ℕ) : Type 0 where
  pub same : length kept' ≡ length kept
  pub room : 2 * k' ≤ length kept'
  pub each : (j : ℕ) → j < k' → (kept_at kept' j ≡ t) ⊎ ((j < k) × (kept_at kept' j ≡ kept_at kept j))

-- t was to be listed and kept
abbrev pub Keeps : Term → (Bool → List ℕ) → List ℕ → Counts → (Bool → List ℕ) → List ℕ → Option Counts → Type 0
Keeps t s kept c s' kept' (Some d) =
    Filled (insert (before []) t (held s c.listed)) s s' (Some d.listed) × StillKept t kept c.kept kept' d.kept
Keeps t s kept c s' kept' None = Filled (insert (before []) t (held s c.listed)) s s' None

-- a list grows by terms of two sides, and the kept terms are least joins
pub record Growing (a b : TermList) (s : Bool → List ℕ) (kept : List ℕ) (c : Counts) : Type 0 where
  pub at : SidesAt a b
  pub front : Front at.sides.variables s c.listed
  pub keeps : KeptIn (least_between a b) (held s c.listed) kept c.kept
  pub room : length kept ≤ 2 * max_capacity

-- it was to grow by some terms of `more` so that `done` holds of it; the kept terms are of `least`
abbrev pub Grown : List Term → List Term → (List Term → Type 0) → (Bool → List ℕ) → ℕ → (Bool → List ℕ) → List ℕ → Option Counts → Type 0
Grown more least done s count s' kept' (Some d) =
    Grew more s count s' d.listed × KeptIn least (held s' d.listed) kept' d.kept × (length kept' ≤ 2 * max_capacity)
    × done (held s' d.listed)
Grown more least done s count s' kept' None = Overflow more s count
