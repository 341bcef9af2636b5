-- `quelbrift::scripts::quelbrift_read_script` meets its contract: what was read is stored in the list, and its number is answered.
use Rattle.std.proofs.Common.{ap, ◌∙◌}
use Rattle.text_script.proofs.Filled.{script-filled}
use Rattle.quelbrift.proofs.ScriptAnswers.{refused-script}
use Rattle.quelbrift.specs.Boundary.{answer_of, number}
use Rattle.quelbrift.proofs.scripts.quelbrift_read_script.Goals as goal

pub returns-in-Ok : goal.returns-in-Ok
returns-in-Ok c =
    let x = c.args in
    let told = script-filled x.list.now c.read.result x.text.now x.variables c.read.ensures in
    let filled = rw c.in-Ok.is at told in
    (c.done.ensures ∙ ap (answer_of number) filled.0, c.store.ensures ∙ filled.1)

pub returns-in-Err : goal.returns-in-Err
returns-in-Err c =
    let x = c.args in
    let told = script-filled x.list.now c.read.result x.text.now x.variables c.read.ensures in
    let filled = rw c.in-Err.is at told in
    (c.refused.ensures ∙ refused-script c.in-Err.why ∙ ap (answer_of number) filled.0, filled.1)
