use Rattle.std.proofs.Common.{ap, ◌∙◌, ◌≡◌, ◌<◌, min, length, take, arith}
use Rattle.steps.proofs.ColumnLaws.{columns-none, columns-more, columns-first}
use Rattle.steps.specs.Steps.{columns}
use Rattle.steps.proofs.columns_of.Goals as goal

pub loop-i-init : goal.loop-i-init
loop-i-init c = (omega arith, c.no_columns-c.ensures ∙ columns-none)

pub loop-i-preserved : goal.loop-i-preserved
loop-i-preserved c =
    let ss = c.args.steps.now in
    let i = c.loop-i.i in
    let inside : i < length ss = omega arith in
    (omega arith, rw (c.with_step-c.ensures, c.step_at.ensures, c.loop-i.invariant.1) (columns-more ss i inside))

pub returns : goal.returns
returns c =
    let ss = c.args.steps.now in
    let e : c.loop-i.i ≡ min (length ss) 256 = omega arith in
    c.loop-i.invariant.1 ∙ ap (λ k. columns (take k ss)) e ∙ columns-first ss
