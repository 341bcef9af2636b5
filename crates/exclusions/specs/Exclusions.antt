-- Exclusions: pairs of variables that can not both be true ("facts that exclude each other"). Entry i of one list and entry i of the other
-- are the variables of pair i.
use Rattle.std.specs.Prelude.{ℕ, Bool, true, ◌&&◌, not, List, eqb, ltb, length, get_or}
use Rattle.masks.specs.Numbers.{every}
use Rattle.terms.specs.Term.{has}
use Rattle.terms.specs.declared.Term.{Term}

pub record Exclusions : Type 0 where
  pub firsts : List ℕ
  pub seconds : List ℕ

abbrev pub exclusions : List ℕ → List ℕ → Exclusions
exclusions fs ss = record { firsts = fs; seconds = ss }

-- the variables of pair i
abbrev pub first_at : Exclusions → ℕ → ℕ
first_at e i = get_or e.firsts i 0

abbrev pub second_at : Exclusions → ℕ → ℕ
second_at e i = get_or e.seconds i 0

-- two different variables below N
abbrev pub distinct : ℕ → ℕ → ℕ → Bool
distinct N x y = ltb x N && ltb y N && not (eqb x y)

-- not 57: no pair is incomplete, and each has two different variables below N
unfoldable pub proper : ℕ → Exclusions → Bool
proper N e = eqb (length e.seconds) (length e.firsts) && every (length e.firsts) (λ i. distinct N (first_at e i) (second_at e i))

-- the term has the positive literals of both variables of pair i ("asks for both")
abbrev pub has_both : Exclusions → Term → ℕ → Bool
has_both e t i = has t true (first_at e i) && has t true (second_at e i)

-- the term respects the exclusions: of no pair has it both positive literals
unfoldable pub respects : Exclusions → Term → Bool
respects e t = every (length e.firsts) (λ i. not (has_both e t i))
