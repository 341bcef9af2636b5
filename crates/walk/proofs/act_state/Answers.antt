-- `walk::act_state` meets its contract.
use mathlib.Core.Path.{sym, ap, ap₂}
use mathlib.Core.Bool.{Bool, cond}
use borrow.Author.Tests.{ne_eqb}
use Rattle.states.specs.declared.State.{State}
use Rattle.walk.specs.Known.{act_state}
use Rattle.walk.proofs.act_state.Goals as goal

pub returns-in-0 : goal.returns-in-0
returns-in-0 c = sym (ap act_state c.in-0.is)

pub returns-in-1 : goal.returns-in-1
returns-in-1 c = sym (ap act_state c.in-1.is)

pub returns-in-2 : goal.returns-in-2
returns-in-2 c = sym (ap act_state c.in-2.is)

pub returns-in-3-to-4294967295 : goal.returns-in-3-to-4294967295
returns-in-3-to-4294967295 c =
    let a = c.before.args.act in
    let n = c.in-3-to-4294967295.in-3-to-4294967295-own.rest in
    sym (ap₂ (λ (p q : Bool). cond p State.Negative (cond q State.Positive State.Absent)) (ne_eqb a 0 n.0.0.1) (ne_eqb a 1 n.0.1))
