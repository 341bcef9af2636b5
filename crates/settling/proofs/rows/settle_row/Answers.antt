-- `settling::rows::settle_row` meets its contract.
use Prim.Native.Nat.{ℕ, ◌<◌}
use mathlib.Core.Path.{◌≡◌, subst}
use mathlib.Core.Bool.{true}
use Rattle.std.specs.Prelude.{Some}
use Rattle.terms.specs.Term.{inside}
use Rattle.terms.specs.declared.Term.{Term}
use Rattle.lists.specs.List.{nth}
use Rattle.hints.specs.Kept.{kept_at}
use Rattle.settling.proofs.Growth.{grew_none}
use Rattle.settling.proofs.Looks.{row-covered}
use Rattle.settling.proofs.rows.settle_row.Goals as goal

pub returns-then-covers-clause-made : goal.returns-then-covers-clause-made
returns-then-covers-clause-made c =
    let x = c.args in
    let g = c.requires.growing in
    let found =
    subst (λ (t : Term). (h : ℕ) × (x.row.hint ≡ Some h) × (h < x.row.counts.kept) × (inside (kept_at x.kept.now h) t ≡ true))
    c.at.ensures (c.covers.ensures c.if-covers.true) in (
      grew_none g.front,
      g.keeps,
      g.room,
      row-covered (nth x.a x.row.at) x.b x.row.from x.row.hint g.keeps found,
    )
