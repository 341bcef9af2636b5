-- `walk::status_under` meets its contract.
use Prim.Native.Nat.{ℕ}
use mathlib.Core.Path.{ap, ◌∙◌}
use Rattle.partial.specs.Partial.{judgement}
use Rattle.walk.proofs.status_under.Goals as goal

pub returns : goal.returns
unfolding judgement
returns c = c.status_number.ensures ∙ ap (λ (z : ℕ × (ℕ × ℕ)). z.0) c.before.judge-judgement.ensures
