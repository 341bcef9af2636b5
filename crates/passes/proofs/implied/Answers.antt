use mathlib.Core.Bool.{false}
use borrow.Author.Rules.{rules}
use Rattle.passes.specs.Implied.{implied_at}
use Rattle.passes.proofs.Readable.{last-held}
use Rattle.passes.proofs.implied.Goals as goal

pub bottom_up-requires : goal.bottom_up-requires
bottom_up-requires c =
    let r = c.requires.1.nodes in
    (search rules, (search rules, ((implied_at c.args.words.now c.args.t), λ i a k h. (search rules, λ r p. search rules))))

pub returns : goal.returns
returns c =
    let held = c.bottom_up.ensures (implied_at c.args.words.now c.args.t) (λ i a r k h p. search rules) in
    last-held false (implied_at c.args.words.now c.args.t) c.args.n c.bottom_up.new.values c.requires.1.first held
