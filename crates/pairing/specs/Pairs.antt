-- A step through the pairs of two sides. No public contract rests on these.
use Rattle.std.specs.Prelude.{ℕ, ◌*◌, ◌≤◌, ◌<◌, Bool, List, length, Option, Some, None}
use Rattle.terms.specs.declared.Term.{Term}
use Rattle.lists.specs.List.{held}
use Rattle.lists.specs.declared.list.TermList.{TermList}
use Rattle.lists.specs.Capacity.{max_capacity}
use Rattle.settling.specs.Growth.{Grew, Overflow, Growing}
use Rattle.settling.specs.Sides.{least_between, KeptIn, Stepped}
use Rattle.pairing.specs.declared.pairs.Turn.{Turn}

-- a row of each side is left
pub record Paired (a b : TermList) (s : Bool → List ℕ) (kept : List ℕ) (t : Turn) : Type 0 where
  pub growing : Growing a b s kept (record { listed = t.listed; kept = t.kept; cost = 0 })
  pub low-left : t.low.at < length a.positives.now
  pub high-left : t.high.at < length b.positives.now

-- the list grew by least joins so that one row of pairs more is settled
abbrev pub Turns : TermList → TermList → (Bool → List ℕ) → Turn → (Bool → List ℕ) → List ℕ → Option Turn → Type 0
Turns a b s t s' kept' (Some u) =
    let least : List Term = least_between a b in
    Grew least s t.listed s' u.listed × KeptIn least (held s' u.listed) kept' u.kept × (length kept' ≤ 2 * max_capacity)
    × Stepped least a b t.low.at t.high.at (held s' u.listed) u.low.at u.high.at
Turns a b s t s' kept' None = Overflow (least_between a b) s t.listed
