-- `weighing::any_weight` meets its contract.
use mathlib.Core.Path.{◌∙◌}
use Rattle.std.proofs.Common.{rules, tests}
use Rattle.std.proofs.lemmas.Iterator.{YieldsList-from_slice}
use Rattle.std.proofs.lemmas.Iterator.Search.{any_from_yields_List}
use Rattle.std.specs.Prelude.{not, eqb}
use Rattle.terms.proofs.Std.{any_std}
use Rattle.weighing.proofs.any_weight.Goals as goal

pub returns : goal.returns
returns c =
    let m = c.args.weights.now in
    any_from_yields_List (λ v. not (eqb v 0)) _ _ _ c.any.ensures.ran (YieldsList-from_slice m cc) (λ x b q k. search (rules, tests))
    ∙ any_std (λ v. not (eqb v 0)) m
