-- What the steps of a loading script say of the variables: nothing at first, and of each variable what the last step that names it says.
use Rattle.std.specs.Prelude.{ℕ, cond, List, [], ◌∷◌, eqb}
use Rattle.terms.specs.declared.Term.{Term}
use Rattle.states.specs.Joining.{of_states}
use Rattle.states.specs.declared.State.{State}
use Rattle.steps.specs.declared.Step.{Step}

-- the acts: 0 ("no"), 1 ("yes") and 2 ("drop"); no other is walked
abbrev pub act_state : ℕ → State
act_state a = cond (eqb a 0) State.Negative (cond (eqb a 1) State.Positive State.Absent)

-- the state that the steps leave x in: that of the last step that names x, and s where none does
abbrev pub state_after : ℕ → State → List Step → State
state_after x s [] = s
state_after x s (e ∷ es) = state_after x (cond (eqb e.variable x) (act_state e.act) s) es

-- what is known of the N variables after the steps ("the marks so far"), as a term
unfoldable pub known : ℕ → List Step → Term
known N es = of_states N (λ x. state_after x State.Absent es)
