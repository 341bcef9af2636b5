use Prim.Native.Nat.{ℕ, ◌^◌, ◌<◌}
use mathlib.Core.Path.{◌≡◌, sym, subst}
use mathlib.Core.Bool.{true}
use mathlib.Core.List.{List}
use native.Mathlib.Omega.{arith}
use lib.ListN.{length}
use lib.Pow.{pow_pos}
use Rattle.masks.proofs.Masks.{put-lt}
use Rattle.exclusions.specs.Exclusions.{exclusions, first_at, second_at, Exclusions}
use Rattle.exclusions.specs.Partners.{Folded}
use Rattle.exclusions.proofs.Folding.{folded_start, folded-next}
use Rattle.exclusions.proofs.Respects.{proper-even, first_below, second_below}
use Rattle.exclusions.proofs.fold.Goals as goal
use Rattle.exclusions.proofs.fold.Goals.{In-loop-i}

-- what the pairs say at a turn: both variables are below the number of masks, and pair i is complete
module _ (c : In-loop-i) where
  abbrev pairs : Exclusions
  pairs = exclusions c.args.firsts.now c.args.seconds.now

  abbrev masks : ℕ
  masks = length c.args.partners.now

  first_fits : first_at pairs c.loop-i.i < masks
  first_fits = first_below masks pairs c.requires.2 c.loop-i.i c.loop-i-test.true

  second_fits : second_at pairs c.loop-i.i < masks
  second_fits = second_below masks pairs c.requires.2 c.loop-i.i c.loop-i-test.true

  complete : length c.args.seconds.now ≡ length c.args.firsts.now
  complete = proper-even masks pairs c.requires.2

pub loop-i-init : goal.loop-i-init
loop-i-init c =
    let x = c.args in
    let e = exclusions x.firsts.now x.seconds.now in (
      subst (λ (l : List ℕ). Folded e 0 l 0) (sym c.requires.0) (folded_start e (length x.partners.now)),
      pow_pos (length x.partners.now),
    )

pub bounds-partners-x : goal.bounds-partners-x
bounds-partners-x c = omega (arith, first_fits (goal.at.bounds-partners-x c).In-loop-i)

pub bounds-seconds-i : goal.bounds-seconds-i
bounds-seconds-i c = omega (arith, complete (goal.at.bounds-seconds-i c).In-loop-i)

pub with_bit-requires : goal.with_bit-requires
with_bit-requires c = omega (arith, second_fits (goal.at.with_bit-requires c).In-loop-i)

pub bounds-partners-x-in-loop-i : goal.bounds-partners-x-in-loop-i
bounds-partners-x-in-loop-i c = omega (arith, first_fits (goal.at.bounds-partners-x-in-loop-i c).In-loop-i)

pub with_bit-heads-requires : goal.with_bit-heads-requires
with_bit-heads-requires c = omega (arith, first_fits (goal.at.with_bit-heads-requires c).In-loop-i)

pub loop-i-preserved : goal.loop-i-preserved
loop-i-preserved c =
    let t = (goal.at.loop-i-preserved c).In-loop-i in
    let l = c.loop-i in (
      folded-next (pairs t) l.i (omega (arith, first_fits t)) l.invariant.0 c.with_bit.ensures c.with_bit-heads.ensures,
      subst (λ (m : ℕ). m < 2 ^ masks t) (sym c.with_bit-heads.ensures)
          (put-lt (masks t) l.heads (first_at (pairs t) l.i) true (first_fits t) l.invariant.1),
    )
