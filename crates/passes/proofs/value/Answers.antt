use mathlib.Core.Bool.{false}
use borrow.Author.Rules.{rules}
use Rattle.circuits.specs.Function.{function}
use Rattle.passes.proofs.Readable.{last-held}
use Rattle.passes.proofs.value.Goals as goal

pub bottom_up-requires : goal.bottom_up-requires
bottom_up-requires c =
    let r = c.requires.1.nodes in
    (search rules, (search rules, ((λ i. function c.args.words.now i c.args.s), λ i a k h. (search rules, λ r p. search rules))))

pub returns : goal.returns
returns c =
    let held = c.bottom_up.ensures (λ i. function c.args.words.now i c.args.s) (λ i a r k h p. search rules) in
    last-held false (λ i. function c.args.words.now i c.args.s) c.args.n c.bottom_up.new.values c.requires.1.first held
