use mathlib.Core.Path.{refl, sym, subst, ◌∙◌}
use native.Mathlib.Omega.{arith}
use Rattle.terms.specs.Term.{IsTerm}
use Rattle.terms.specs.declared.Term.{Term}
use Rattle.subsumption.specs.Ahead.{FoundInside}
use Rattle.settling.proofs.Down.{low-in}
use Rattle.settling.proofs.Least.{low-terms, high-terms}
use Rattle.decisions.proofs.OneSide.{side-start, side-extending, side-next, side-over, side-end}
use Rattle.decisions.proofs.side.list_side.Goals as goal

pub loop-k-init : goal.loop-k-init
loop-k-init c =
    (side-start c.requires c.args.literal.sign, omega arith, (refl, refl, refl))

pub end_ahead-end-requires : goal.end_ahead-end-requires
end_ahead-end-requires c = (c.loop-k.invariant.1, c.requires.growing.at.sides.rising-high)

pub find_inside-found-requires : goal.find_inside-found-requires
find_inside-found-requires c =
    let h = c.requires.growing.at in
    record {
      within = c.end_ahead-end.ensures.1;
      rising = h.sides.rising-high;
      none = c.end_ahead-end.ensures.2;
      terms = record {
        over = h.sides.variables;
        wide = h.sides.wide;
        is_term = subst (IsTerm h.sides.variables) (sym c.at-t.ensures)
            (low-terms h.sides _ (low-in h c.loop-k.k (omega (arith, c.loop-k-test.true))));
        terms = high-terms h.sides;
      };
    }

pub list_one-requires : goal.list_one-requires
list_one-requires c =
    let x = c.args in record {
      extending = side-extending c.requires x.literal.sign c.loop-k.invariant.0;
      at_in_bounds = (
        omega (arith, c.loop-k-test.true),
        subst (λ (t : Term). FoundInside x.b t c.find_inside-found.result) c.at-t.ensures
            c.find_inside-found.ensures,
      );
    }

pub returns-in_err-next-clause-made : goal.returns-in_err-next-clause-made
returns-in_err-next-clause-made c =
    rw c.from_residual.ensures (side-over c.requires c.args.literal.sign c.loop-k.invariant.0 c.in_err-next.ensures.made)

pub loop-k-preserved : goal.loop-k-preserved
loop-k-preserved c =
    let g = c.in_ok-next.ensures.made in
    let l = c.list_one.ensures.same_loan in
    let k = c.loop-k.invariant.2 in (
      side-next c.requires c.args.literal.sign c.loop-k.invariant.0 g.0 g.1 g.2 g.3,
      c.end_ahead-end.ensures.1,
      (l.0 ∙ k.0, l.1 ∙ k.1, l.2 ∙ k.2),
    )

pub returns-clause-made : goal.returns-clause-made
returns-clause-made c = side-end c.requires c.args.literal.sign c.loop-k.invariant.0 (omega (arith, c.loop-k-test.false))
