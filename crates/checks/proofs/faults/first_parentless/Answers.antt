-- `checks::faults::first_parentless` meets its contract.
use Prim.Native.Nat.{ℕ, ◌+◌}
use mathlib.Core.Path.{◌≡◌, ◌∙◌}
use mathlib.Core.Bool.{Bool, true, false, ◌&&◌, not}
use native.Mathlib.Omega.{arith}
use lib.Dec.{ltb}
use lib.ListN.{get_or}
use Rattle.std.proofs.Common.{rules, tests}
use Rattle.std.proofs.lemmas.Iterator.{first_from_Range}
use Rattle.circuits.specs.Check.{parentless}
use Rattle.checks.proofs.Found.{found-first, first-ext}
use Rattle.checks.proofs.Rules.{parentless-test}
use Rattle.checks.proofs.faults.first_parentless.Goals as goal

pub returns : goal.returns
returns c =
    let n = c.args.n in
    let few = c.requires.1.nodes in
    let marked = c.marked_children-marked.result in
    let p : ℕ → Bool = λ i. ltb (i + 1) n && not (get_or marked i false) in
    found-first p n c.find.result
    (first_from_Range _ _ _ _ (λ i. p i ≡ true) (λ i. p i ≡ false) c.find.ensures.ran (λ x q k. search (rules, tests))
    (λ x q k. (search rules, search (rules, tests))))
    ∙ first-ext n p (parentless c.args.words.now n)
    (λ i l. parentless-test c.args.words.now n i marked (omega arith) c.marked_children-marked.ensures)
