-- `checks::faults::first_undecomposable` meets its contract.
use mathlib.Core.Path.{◌≡◌}
use mathlib.Core.Bool.{true, false}
use Rattle.std.proofs.Common.{rules}
use Rattle.std.proofs.lemmas.Iterator.{first_from_Range}
use Rattle.circuits.specs.Check.{undecomposable}
use Rattle.checks.proofs.Found.{found-first}
use Rattle.checks.proofs.faults.first_undecomposable.Goals as goal

pub returns : goal.returns
returns c =
    let p = undecomposable c.args.words.now in
    found-first p c.args.n c.find.result
    (first_from_Range _ _ _ _ (λ i. p i ≡ true) (λ i. p i ≡ false) c.find.ensures.ran (λ x q k. search rules) (λ x q k. search rules))
