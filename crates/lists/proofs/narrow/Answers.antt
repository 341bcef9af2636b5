-- `lists::narrow` meets its contract.
use mathlib.Core.Path.{◌≡◌, sym, ap, ◌∙◌}
use mathlib.Core.Bool.{Bool, cond}
use lib.Bits.{bit_and}
use Rattle.terms.specs.Term.{term}
use Rattle.lists.specs.Scans.{narrowed}
use Rattle.lists.proofs.narrow.Goals as goal
use Rattle.lists.proofs.narrow.Goals.{After-inside}

-- what the definition gives, by what the test said
told : (c : After-inside) (q : Bool) → c.inside.result ≡ q
    → let x = c.args in
    narrowed x.t x.c x.b
    ≡ cond q (term (bit_and x.c.positive x.b.positive) (bit_and x.c.negative x.b.negative)) x.c
unfolding narrowed
told c q e =
    let x = c.args in
    ap (λ (r : Bool). cond r (term (bit_and x.c.positive x.b.positive) (bit_and x.c.negative x.b.negative)) x.c)
    (sym c.inside.ensures ∙ e)

pub returns-then-inside : goal.returns-then-inside
returns-then-inside c = sym (told (goal.at.returns-then-inside c).After-inside _ c.if-inside.true)

pub returns : goal.returns
returns c = sym (told (goal.at.returns c).After-inside _ c.if-inside.false)
