-- What a term says of a variable, and what two terms say of it together.
use Rattle.std.specs.Prelude.{ℕ, Bool, true, false, Option, Some, None}
use Rattle.terms.specs.Term.{has}
use Rattle.terms.specs.declared.Term.{Term}
use Rattle.states.specs.declared.State.{State}

-- the nine cases of two states of one variable ("absent, no, yes against the same"): a state, or a conflict ("a clash")
abbrev pub join_states : State → State → Option State
join_states State.Absent State.Absent = Some State.Absent
join_states State.Absent State.Negative = Some State.Negative
join_states State.Absent State.Positive = Some State.Positive
join_states State.Negative State.Absent = Some State.Negative
join_states State.Negative State.Negative = Some State.Negative
join_states State.Negative State.Positive = None
join_states State.Positive State.Absent = Some State.Positive
join_states State.Positive State.Negative = None
join_states State.Positive State.Positive = Some State.Positive

-- no state comes of it
abbrev pub is_conflict : Option State → Bool
is_conflict (Some s) = false
is_conflict None = true

-- the state of a variable by its bits in the positive and the negative mask; no term has both
abbrev pub state_by : Bool → Bool → Option State
state_by false false = Some State.Absent
state_by false true = Some State.Negative
state_by true false = Some State.Positive
state_by true true = None

-- what any two masks say of x
abbrev pub state_at : Term → ℕ → Option State
state_at t x = state_by (has t true x) (has t false x)

-- what two pairs of masks say of one variable, from what each says: a conflict in either stays one
abbrev pub join_said : Option State → Option State → Option State
join_said (Some a) (Some b) = join_states a b
join_said (Some a) None = None
join_said None b = None

-- the case of x in two terms
abbrev pub case_at : Term → Term → ℕ → Option State
case_at t u x = join_said (state_at t x) (state_at u x)
