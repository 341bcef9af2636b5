-- `text_script::line::set_at` meets its contract.
use Rattle.std.proofs.lemmas.Result.{err_from_is_err_and}
use Rattle.text_script.proofs.Reading.{set-unfit, set-inside}
use Rattle.text_script.proofs.line.set_at.Goals as goal

pub returns-in_err-variable : goal.returns-in_err-variable
returns-in_err-variable c =
    let p = err_from_is_err_and c.from_residual.result c.from_residual.ensures.1 in
    rw (p.1, p.2) (set-unfit _ _ _ _ c.in_err-variable.ensures.0)

pub returns : goal.returns
returns c = let h = c.in_ok-variable.ensures in set-inside _ _ _ c.sign_at.result _ _ h.0 h.1 c.sign_at.ensures
