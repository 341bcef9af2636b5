-- Kept terms as the code holds them: term k is entries 2k (its positive mask) and 2k + 1 (its negative mask) of one list. No
-- public contract rests on these.
use Rattle.std.specs.Prelude.{ℕ, ◌+◌, ◌*◌, ◌≡◌, List, length, get_or}
use Rattle.terms.specs.Term.{term}
use Rattle.terms.specs.declared.Term.{Term}

-- kept term k
abbrev pub kept_at : List ℕ → ℕ → Term
kept_at l k = term (get_or l (2 * k) 0) (get_or l (2 * k + 1) 0)

-- after is before with t as kept term k
pub record Put (before : List ℕ) (k : ℕ) (t : Term) (after : List ℕ) : Type 0 where
  pub same : length after ≡ length before
  pub put : kept_at after k ≡ t
  pub others : (j : ℕ) → (j ≡ k → ⊥) → kept_at after j ≡ kept_at before j
