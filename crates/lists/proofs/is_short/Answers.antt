-- `lists::is_short` meets its contract.
use mathlib.Core.Path.{◌≡◌, sym, ap, ◌∙◌}
use mathlib.Core.Bool.{Bool, ◌&&◌, not}
use Rattle.terms.specs.Term.{join, inside}
use Rattle.lists.specs.Scans.{short}
use Rattle.lists.proofs.is_short.Goals as goal
use Rattle.lists.proofs.is_short.Goals.{After-inside}

-- what the definition gives, by what the first test said
told : (c : After-inside) (q : Bool) → c.inside.result ≡ q
    → let x = c.args in
    short x.t x.a x.b ≡ (q && not (inside x.t (join x.a x.b)))
unfolding short
told c q e =
    let x = c.args in
    ap (λ (r : Bool). r && not (inside x.t (join x.a x.b))) (sym c.inside.ensures ∙ e)

pub returns-then-inside : goal.returns-then-inside
returns-then-inside c =
    ap not (c.inside-then-inside.ensures ∙ ap (inside c.args.t) c.join.ensures)
    ∙ sym (told (goal.at.returns-then-inside c).After-inside _ c.if-inside.true)

pub returns : goal.returns
returns c = sym (told (goal.at.returns c).After-inside _ c.if-inside.false)
