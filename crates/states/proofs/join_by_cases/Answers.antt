use Prim.Native.Nat.{ℕ, ◌<◌}
use mathlib.Core.Path.{◌≡◌, sym, ap, subst, ◌∙◌}
use native.Mathlib.Omega.{arith}
use Rattle.std.specs.Prelude.{Some}
use Rattle.masks.specs.Mask.{width}
use Rattle.states.specs.Joining.{made}
use Rattle.states.specs.States.{case_at}
use Rattle.states.proofs.Made.{made-start, made-next, made-conflict}
use Rattle.states.proofs.join_by_cases.Goals as goal

pub loop-x-init : goal.loop-x-init
loop-x-init c = (omega arith, made-start (case_at c.args.t c.args.u))

pub returns-in_err-s : goal.returns-in_err-s
returns-in_err-s c =
    let below : c.loop-x.x < width = omega (arith, c.loop-x-test.true) in
    c.from_residual.ensures ∙ sym (made-conflict (case_at c.args.t c.args.u) width c.loop-x.x below (sym c.case_at.ensures ∙ c.in_err-s.was))

pub loop-x-preserved : goal.loop-x-preserved
loop-x-preserved c =
    let next = made-next (case_at c.args.t c.args.u) c.loop-x.x c.loop-x.invariant.1 (sym c.case_at.ensures ∙ c.in_ok-s.was) in
    (omega arith, next ∙ sym (ap Some c.with_state-joined.ensures))

pub returns : goal.returns
returns c =
    let end : c.loop-x.x ≡ width = omega arith in
    sym (subst (λ (n : ℕ). made n (case_at c.args.t c.args.u) ≡ Some c.loop-x.joined) end c.loop-x.invariant.1)
