use borrow.Author.Rules.{rules}
use Rattle.circuits.specs.Function.{support}
use Rattle.passes.proofs.supports.Goals as goal

pub bottom_up-requires : goal.bottom_up-requires
bottom_up-requires c =
    let r = c.requires.1.nodes in
    (search rules, (search rules, (support c.args.words.now, λ i a k h. (search rules, λ r p. search rules))))

pub returns : goal.returns
returns c = c.bottom_up.ensures (support c.args.words.now) (λ i a r k h p. search rules)
