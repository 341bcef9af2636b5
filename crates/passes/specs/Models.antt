-- What the pass keeps of the models under a term. No public contract rests on these.
use Rattle.std.specs.Prelude.{ℕ, ◌-◌, ◌*◌, ◌/◌, ◌^◌, ◌≤◌, ◌≡◌, Bool, List, [], ◌∷◌, T, drop}
use Rattle.masks.specs.Mask.{size}
use Rattle.table.specs.Outcome.{accepted}
use Rattle.terms.specs.Completions.{models_under}
use Rattle.terms.specs.Term.{literals, is_term}
use Rattle.terms.specs.declared.Term.{Term}
use Rattle.circuits.specs.Check.{check}
use Rattle.circuits.specs.Function.{support}
use Rattle.passes.specs.Tables.{Holds}

-- what the pass over the nodes keeps of each: the models under the term, doubled for each literal
abbrev pub scaled : ℕ → (ℕ → Bool) → Term → ℕ
scaled N f t = models_under N f t * 2 ^ literals t

-- the models of a conjunction from those of its children: F has what is kept of each, S the variables under it
abbrev pub product_of : ℕ → (ℕ → ℕ) → (ℕ → ℕ) → List ℕ → ℕ
product_of N F S [] = 2 ^ N
product_of N F S (c ∷ cs) = F c / 2 ^ (N - size (S c)) * (product_of N F S cs / 2 ^ size (S c))

-- no product passes 2 to the power of 40, and no child has more than N variables under it
pub record Multiplied (N : ℕ) (F S : ℕ → ℕ) (cs : List ℕ) : Type 0 where
  pub low : (k : ℕ) → product_of N F S (drop k cs) ≤ 2 ^ 40
  pub own : (k c : ℕ) (rest : List ℕ) → drop k cs ≡ c ∷ rest → size (S c) ≤ N

-- what the pass takes for granted: an accepted table, a term over its variables, and the variables under each node
pub record ModelPass (N n : ℕ) (w : List ℕ) (t : Term) (supports : List ℕ) : Type 0 where
  pub table : check N n w ≡ accepted
  pub over : T (is_term N t)
  pub under : Holds 0 (support w) n supports
