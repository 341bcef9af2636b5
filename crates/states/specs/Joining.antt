-- Terms made of states, and two terms joined by the nine cases.
use Rattle.std.specs.Prelude.{ℕ, zero, suc, true, false, Option, Some, None}
use Rattle.terms.specs.Term.{empty, without, extend}
use Rattle.terms.specs.declared.Term.{Term}
use Rattle.states.specs.States.{case_at}
use Rattle.states.specs.declared.State.{State}

-- the term with x in the state s, whatever it was in
abbrev pub with_state : Term → ℕ → State → Term
with_state t x State.Absent = without t x
with_state t x State.Negative = extend (without t x) x false
with_state t x State.Positive = extend (without t x) x true

-- the term that has each variable x below n in the state f x
unfoldable pub of_states : ℕ → (ℕ → State) → Term
of_states zero f = empty
of_states (suc n) f = with_state (of_states n f) n (f n)

-- a term with what is said of x, where neither is a conflict
abbrev pub with_said : Option Term → ℕ → Option State → Option Term
with_said (Some t) x (Some s) = Some (with_state t x s)
with_said (Some t) x None = None
with_said None x s = None

-- the term that has each variable x below n in the state f x; a conflict where one of these is
unfoldable pub made : ℕ → (ℕ → Option State) → Option Term
made zero f = Some empty
made (suc n) f = with_said (made n f) n (f n)

-- two terms over N variables joined by the nine cases, variable by variable
abbrev pub join_by_cases : ℕ → Term → Term → Option Term
join_by_cases N t u = made N (case_at t u)
