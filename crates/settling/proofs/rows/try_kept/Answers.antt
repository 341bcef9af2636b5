-- `settling::rows::try_kept` meets its contract.
use mathlib.Core.Path.{refl, sym, ◌∙◌}
use Rattle.settling.proofs.Looks.{tries-conflict, tries-kept, tries-not}
use Rattle.settling.proofs.rows.try_kept.Goals as goal

pub returns-then-conflict : goal.returns-then-conflict
returns-then-conflict c = tries-conflict _ c.at-u.ensures (sym c.conflict.ensures ∙ c.if-conflict.true) refl

pub returns-then-covers : goal.returns-then-covers
returns-then-covers c =
    tries-kept _ c.at-u.ensures _ _ _ (sym c.conflict.ensures ∙ c.if-conflict.false) c.join-q.ensures
    c.covers.ensures (sym c.if-covers.true)

pub returns-then-cost-gt0 : goal.returns-then-cost-gt0
returns-then-cost-gt0 c =
    tries-not _ c.at-u.ensures (sym c.conflict.ensures ∙ c.if-conflict.false) refl

pub covers-settled-requires : goal.covers-settled-requires
covers-settled-requires c =
    c.requires.1

pub returns : goal.returns
returns c =
    tries-kept _ c.at-u.ensures _ _ _ (sym c.conflict.ensures ∙ c.if-conflict.false) c.join-q.ensures
    c.covers-settled.ensures refl
