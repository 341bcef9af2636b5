-- `text_assignment::assignment::read_assignment` meets its contract.
use Rattle.std.proofs.Common.{◌≡◌, Ok, rules, refl, sym, ◌∙◌}
use Rattle.text_assignment.proofs.Members.{line-starts, misfits}
use Rattle.text_assignment.proofs.assignment.read_assignment.Goals as goal

pub returns-then-variables-lt1 : goal.returns-then-variables-lt1
returns-then-variables-lt1 c = misfits _ _ c.then-variables-lt1.either

pub returns-in_err-p : goal.returns-in_err-p
returns-in_err-p c =
    let e = line-starts c.args.line.now c.args.variables c.if-variables-lt1.false c.if-variables-gt-MAX_VARIABLES.false _ refl in
    search rules

pub returns : goal.returns
returns c =
    let i : c.match_at.result ≡ Ok c.in_ok-p.p = search rules in
    c.members.ensures
    ∙ line-starts _ _ c.if-variables-lt1.false c.if-variables-gt-MAX_VARIABLES.false _ (sym i ∙ c.match_at.ensures.0)
