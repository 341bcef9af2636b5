-- `listing::arrange::arrange_all` meets its contract.
use mathlib.Core.Path.{sym, ◌∙◌}
use Rattle.weighing.proofs.Weights.{none-weighs}
use Rattle.listing.proofs.Arranged.{holds-none}
use Rattle.listing.proofs.arrange.arrange_all.Goals as goal

pub returns-else-any_weight : goal.returns-else-any_weight
returns-else-any_weight c =
    λ F h. holds-none (none-weighs c.args.weights.now (sym c.any_weight.ensures ∙ c.if-any_weight.false)) h
