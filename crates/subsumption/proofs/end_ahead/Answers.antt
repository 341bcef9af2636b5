use mathlib.Core.Path.{◌≡◌, sym, ap, ◌∙◌}
use mathlib.Core.Bool.{false}
use native.Mathlib.Omega.{arith}
use Rattle.terms.specs.declared.Term.{Term}
use Rattle.lists.specs.List.{nth}
use Rattle.subsumption.specs.Ahead.{ahead}
use Rattle.subsumption.proofs.Ahead.{none_ahead}
use Rattle.subsumption.proofs.end_ahead.Goals as goal

pub returns-then-not-is_ahead : goal.returns-then-not-is_ahead
returns-then-not-is_ahead c =
    let x = c.args in
    let level : ahead (nth x.list c.loop-k.k) x.t ≡ false =
    sym (ap (λ (u : Term). ahead u x.t) c.at.ensures)
    ∙ sym c.is_ahead.ensures
    ∙ c.if-not-is_ahead.true in (
      omega arith,
      omega arith,
      none_ahead x.list c.requires.1 x.t c.loop-k.k level,
    )
