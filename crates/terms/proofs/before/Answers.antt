-- `terms::before` meets its contract.
use mathlib.Core.Path.{sym, ◌∙◌}
use Rattle.terms.proofs.Leaves.{before-literals, before-variables, before-positive}
use Rattle.terms.proofs.before.Goals as goal

pub returns-then-a-b : goal.returns-then-a-b
returns-then-a-b c = let args = c.before.before.before.args in
    let a = c.before.before.literals-a.ensures in
    let b = c.before.literals-b.ensures in
    rw (a, b) (sym (before-literals args.t args.u (λ e. c.if-a-b.true (a ∙ e ∙ sym b))))

pub returns-then-v-w : goal.returns-then-v-w
returns-then-v-w c = let l = c.before.before.before.before in
    let v = c.before.before.variables-v.ensures in
    let w = c.before.variables-w.ensures in
    let same = sym l.before.literals-a.ensures ∙ c.before.before.before.if-a-b.false ∙ l.literals-b.ensures in
    rw (v, w) (sym (before-variables l.before.before.args.t l.before.before.args.u same (λ e. c.if-v-w.true (v ∙ e ∙ sym w))))

pub returns : goal.returns
returns c = let e2 = c.before.before in
    let l = e2.before.before.before.before in
    let v = e2.before.before.variables-v.ensures in
    let w = e2.before.variables-w.ensures in
    let same = sym l.before.literals-a.ensures ∙ e2.before.before.before.if-a-b.false ∙ l.literals-b.ensures in
    sym (before-positive l.before.before.args.t l.before.before.args.u same (sym v ∙ e2.if-v-w.false ∙ w))
