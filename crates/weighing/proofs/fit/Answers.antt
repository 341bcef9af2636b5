-- `weighing::fit` meets its contract.
use mathlib.Core.Path.{sym, ap, ◌∙◌}
use mathlib.Core.Bool.{Bool, ◌&&◌}
use borrow.Author.Tests.{eq-eqb, ne_eqb}
use Rattle.std.proofs.Common.{rules, tests}
use Rattle.std.proofs.lemmas.Iterator.{YieldsList-from_slice}
use Rattle.std.proofs.lemmas.Iterator.Search.{all_from_yields_List}
use Rattle.std.specs.Prelude.{leb, length}
use Rattle.terms.specs.Lists.{all}
use Rattle.terms.proofs.Std.{all_std}
use Rattle.weighing.specs.Weights.{max_weight, fitting}
use Rattle.weighing.proofs.fit.Goals as goal

pub returns-then-weights-variables : goal.returns-then-weights-variables
unfolding fitting
returns-then-weights-variables c =
    let m = c.args.weights.now in
    all_from_yields_List (λ v. leb v max_weight) _ _ _ c.all.ensures.ran (YieldsList-from_slice m cc) (λ x b q k. search (rules, tests))
    ∙ all_std (λ v. leb v max_weight) m
    ∙ sym (ap (λ (b : Bool). b && all (λ v. leb v max_weight) m) (eq-eqb (length m) c.args.variables c.if-weights-variables.true))

pub returns-else-weights-variables : goal.returns-else-weights-variables
unfolding fitting
returns-else-weights-variables c =
    let m = c.args.weights.now in
    let other = ne_eqb (length m) c.args.variables c.if-weights-variables.false in
    other ∙ sym (ap (λ (b : Bool). b && all (λ v. leb v max_weight) m) other)
