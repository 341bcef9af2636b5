use Rattle.std.proofs.Common.{sym, ap, ◌∙◌, ◌≡◌, ◌<◌, min, length, arith}
use Rattle.steps.proofs.ColumnLaws.{storing, storing-none, storing-more, storing-all}
use Rattle.steps.proofs.store.Goals as goal

pub loop-i-init : goal.loop-i-init
loop-i-init c = (omega arith, sym (storing-none c.args.c c.args.steps.now))

pub loop-i-preserved : goal.loop-i-preserved
loop-i-preserved c =
    let x = c.args in
    let i = c.loop-i.i in
    let inside : i < length x.steps.now = omega arith in
    (omega arith, rw (c.step_of.ensures, c.loop-i.invariant.1) (storing-more x.c x.steps.now i inside))

pub returns : goal.returns
returns c =
    let x = c.args in
    let e : c.loop-i.i ≡ min x.n (length x.steps.now) = omega arith in
    c.loop-i.invariant.1 ∙ ap (storing x.c x.steps.now) e ∙ storing-all x.c x.steps.now x.n
