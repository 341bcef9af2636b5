-- The joining of two terms over N variables: what the code makes of whole masks is what the nine cases make of each variable.
use Rattle.std.specs.Prelude.{ℕ, ◌≡◌, ◌&&◌, not, cond, [], ◌∷◌, Some, None, option_to_list}
use Rattle.masks.specs.Numbers.{some}
use Rattle.terms.specs.Joins.{joins_with}
use Rattle.terms.specs.Term.{agrees, join, conflict}
use Rattle.terms.specs.declared.Term.{Term}
use Rattle.states.specs.Joining.{join_by_cases}
use Rattle.states.specs.States.{join_states, is_conflict, state_at, case_at}
use Rattle.states.specs.declared.State.{State}

-- at variable x each term has a state, and the join of their masks has what the case of these two gives
pub record CaseOf (t u : Term) (x : ℕ) : Type 0 where
  pub left : State
  pub right : State
  pub left_is : state_at t x ≡ Some left
  pub right_is : state_at u x ≡ Some right
  pub joined : state_at (join t u) x ≡ join_states left right

pub record NineCases (N : ℕ) (t u : Term) : Type 0 where
  -- the terms conflict exactly if some variable's case is a conflict
  pub conflicts : conflict t u ≡ some N (λ x. is_conflict (case_at t u x))
  -- their join has each variable's result
  pub results : (x : ℕ) → CaseOf t u x
  -- joined variable by variable they are that join, unless they conflict
  pub joins : join_by_cases N t u ≡ cond (conflict t u) None (Some (join t u))
  -- what the two add to a list of joins, in the words of the builder's contracts, is that join, or nothing
  pub adds : joins_with t (u ∷ []) ≡ option_to_list (join_by_cases N t u)
  -- the article's conjunction: an assignment agrees with both exactly if they do not conflict and it agrees with their join
  pub means : (s : ℕ) → (agrees N t s && agrees N u s) ≡ (not (conflict t u) && agrees N (join t u) s)
