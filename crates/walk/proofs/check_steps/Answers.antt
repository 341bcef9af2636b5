use Prim.Native.Nat.{ℕ}
use mathlib.Core.Path.{◌≡◌, sym, ap, ◌∙◌}
use mathlib.Core.Bool.{true, false}
use native.Mathlib.Omega.{arith}
use borrow.Author.Rules.{rules}
use borrow.Author.Tests.{lt-ltb, le-ltb, le-leb, lt-leb}
use Rattle.steps.specs.Steps.{steps_in}
use Rattle.walk.specs.Walk.{check_steps}
use Rattle.walk.proofs.Steps.{check-none, check-more, act-stands, variable-stands, beyond-test, act-test, variable-test}
use Rattle.walk.proofs.check_steps.Goals as goal

pub loop-i-init : goal.loop-i-init
loop-i-init c = let x = c.args in (search rules, check-none x.variables x.columns)

pub returns-then-i-ge-MAX_STEPS : goal.returns-then-i-ge-MAX_STEPS
returns-then-i-ge-MAX_STEPS c =
    let a = c.before.before in
    let x = a.before.args in
    let i = a.loop-i.i in
    act-stands x.variables x.columns i a.loop-i.invariant.1 x.k (omega arith) (beyond-test x.variables x.columns i (omega arith))

pub returns-then-columns-i-gt2 : goal.returns-then-columns-i-gt2
returns-then-columns-i-gt2 c =
    let e = c.before.before in
    let a = e.before.before in
    let x = a.before.args in
    let i = a.loop-i.i in
    let wrong = act-test x.variables x.columns i true (omega arith) (lt-ltb _ _ c.if-columns-i-gt2.true) in
    act-stands x.variables x.columns i a.loop-i.invariant.1 x.k (omega arith) wrong

pub returns-then-variables-columns : goal.returns-then-variables-columns
returns-then-variables-columns c =
    let d = c.before.before in
    let a = d.before.before.before.before in
    let x = a.before.args in
    let i = a.loop-i.i in
    let good = act-test x.variables x.columns i false (omega arith) (le-ltb _ _ d.if-columns-i-gt2.false) in
    let wrong = variable-test x.variables x.columns i true (omega arith) (le-leb _ _ c.if-variables-columns.true) in
    variable-stands x.variables x.columns i a.loop-i.invariant.1 x.k (omega arith) good wrong

pub loop-i-preserved : goal.loop-i-preserved
loop-i-preserved c =
    let d = c.before.before in
    let a = d.before.before.before.before in
    let x = a.before.args in
    let i = a.loop-i.i in
    let act = act-test x.variables x.columns i false (omega arith) (le-ltb _ _ d.if-columns-i-gt2.false) in
    let variable = variable-test x.variables x.columns i false (omega arith) (lt-leb _ _ c.if-variables-columns.false) in
    (omega arith, check-more x.variables x.columns i a.loop-i.invariant.1 act variable)

pub returns : goal.returns
returns c =
    let a = c.before in
    let x = a.before.args in
    let e : a.loop-i.i ≡ x.k = omega arith in
    sym a.loop-i.invariant.1 ∙ ap (λ (j : ℕ). check_steps x.variables 0 (steps_in x.columns j)) e
