use mathlib.Core.Path.{refl, subst, ◌∙◌}
use native.Mathlib.Omega.{arith}
use Rattle.terms.specs.declared.Term.{Term}
use Rattle.lists.specs.List.{nth}
use Rattle.settling.specs.Tries.{Tries}
use Rattle.settling.proofs.Grows.{so-far-start, so-far-growing, so-far-next, so-far-over, so-far-end}
use Rattle.settling.proofs.Looks.{tried-settled}
use Rattle.settling.proofs.rows.join_row.Goals as goal

pub loop-j-init : goal.loop-j-init
loop-j-init c =
    let x = c.args in
    (so-far-start c.requires.growing (nth x.a x.row.at) x.row.from 0, (refl, refl, refl))

pub try_kept-tried-requires : goal.try_kept-tried-requires
try_kept-tried-requires c =
    let h = c.loop-j.invariant.0 in
    let g = c.requires.growing in
    (h.room, h.keeps.room, omega arith, omega arith, g.at.few-high, omega (arith, c.loop-j-test.true))

pub settle-requires : goal.settle-requires
settle-requires c =
    let x = c.args in
    let h = c.loop-j.invariant.0 in
    let t : Term = nth x.a x.row.at in
    let u : Term = nth x.b c.loop-j.j in
    let looked : Tries c.loop-j.kept c.loop-j.counts.kept t u c.try_kept-tried.result =
    subst (λ (z : Term). Tries c.loop-j.kept c.loop-j.counts.kept z u c.try_kept-tried.result) c.at-t.ensures
    c.try_kept-tried.ensures in
    record {
      growing = so-far-growing c.requires.growing h;
      low_in_bounds = (c.requires.at_in_bounds.0, omega (arith, c.loop-j-test.true));
      settled = (tried-settled t u h.keeps looked, looked.no);
    }

pub returns-in_err-next-clause-made : goal.returns-in_err-next-clause-made
returns-in_err-next-clause-made c =
    rw c.from_residual.ensures (so-far-over c.requires.growing c.loop-j.invariant.0 c.in_err-next.ensures.made)

pub spread_new-requires : goal.spread_new-requires
spread_new-requires c = (
  c.in_ok-next.ensures.made.1.room,
  c.bit_words-words.ensures.1,
  omega arith,
  omega arith,
)

pub loop-j-preserved : goal.loop-j-preserved
loop-j-preserved c =
    let g = c.in_ok-next.ensures.made in
    let l = c.settle.ensures.same_loan in
    let k = c.loop-j.invariant.1 in
    (so-far-next c.requires.growing c.loop-j.invariant.0 g.0 g.1 g.2 g.3, (l.0 ∙ k.0, l.1 ∙ k.1, l.2 ∙ k.2))

pub returns-clause-made : goal.returns-clause-made
returns-clause-made c = so-far-end c.requires.growing c.loop-j.invariant.0 (omega (arith, c.loop-j-test.false))
