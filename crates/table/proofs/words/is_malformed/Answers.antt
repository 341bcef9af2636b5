-- `table::words::is_malformed` meets its contract.
use mathlib.Core.Path.{ap, ◌∙◌}
use mathlib.Core.Bool.{not}
use Rattle.table.specs.Words.{well_formed, malformed}
use Rattle.table.specs.declared.layout.NodeWords.{NodeWords}
use Rattle.table.proofs.words.is_malformed.Goals as goal

pub returns : goal.returns
unfolding malformed
returns c =
    let x = c.before.before.before.args in
    c.is_unfit.ensures
    ∙ ap (λ (y : NodeWords). not (well_formed x.variables x.i y)) c.before.words_at.ensures
