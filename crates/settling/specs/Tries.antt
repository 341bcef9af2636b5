-- What a look for a kept term says of a pair of terms. No public contract rests on these.
use Rattle.std.specs.Prelude.{ℕ, ◌<◌, ◌≡◌, true, false, ◌⊎◌, List}
use Rattle.terms.specs.Term.{join, inside, conflict}
use Rattle.terms.specs.declared.Term.{Term}
use Rattle.hints.specs.Kept.{kept_at}
use Rattle.settling.specs.declared.rows.Tried.{Tried}

-- settled: t and u have a conflict, or one of the first k kept terms is inside their join; not settled: they have no conflict
pub record Tries (kept : List ℕ) (k : ℕ) (t u : Term) (r : Tried) : Type 0 where
  pub yes : r.settled ≡ true → (conflict t u ≡ true) ⊎ ((h : ℕ) × (h < k) × (inside (kept_at kept h) (join t u) ≡ true))
  pub no : r.settled ≡ false → conflict t u ≡ false
