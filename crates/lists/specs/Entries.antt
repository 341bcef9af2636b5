-- A term in two slices. No public contract rests on this.
use Rattle.std.specs.Prelude.{ℕ, List, get_or}
use Rattle.terms.specs.Term.{term}
use Rattle.terms.specs.declared.Term.{Term}

-- the term in entry k of two slices
abbrev pub term_at : List ℕ → List ℕ → ℕ → Term
term_at ps ns k = term (get_or ps k 0) (get_or ns k 0)
