-- Partial assignments ("half-known stows"): a term says of its variables what is known. Its completions are the assignments that agree
-- with it.
use Rattle.std.specs.Prelude.{ℕ, ◌^◌, Bool, ◌&&◌, not, cond}
use Rattle.masks.specs.Numbers.{count}
use Rattle.terms.specs.Prime.{implicant}
use Rattle.terms.specs.Term.{mentions, agrees}
use Rattle.terms.specs.declared.Term.{Term}

-- how many completions of the term make f true: its models under the term
unfoldable pub models_under : ℕ → (ℕ → Bool) → Term → ℕ
models_under N f t = count (2 ^ N) (λ s. agrees N t s && f s)

-- how many of the N variables have no literal in the term ("unknown facts")
unfoldable pub unknowns : ℕ → Term → ℕ
unknowns N t = count N (λ x. not (mentions t x))

-- the status ("verdict") in the scope's numbers: 2 ("allowed") where every completion makes f true, 0 ("forbidden") where every one makes
-- it false, else 1 ("open")
abbrev pub status_by : Bool → Bool → ℕ
status_by all_true all_false = cond all_true 2 (cond all_false 0 1)

unfoldable pub status : ℕ → (ℕ → Bool) → Term → ℕ
status N f t = status_by (implicant N f t) (implicant N (λ s. not (f s)) t)
