use Prim.Native.Nat.{ℕ, ◌<◌}
use mathlib.Core.Path.{◌≡◌, sym, ap, subst, ◌∙◌}
use mathlib.Core.Bool.{not}
use mathlib.Core.Logic.{⊎_elim}
use native.Mathlib.Omega.{arith}
use lib.Dec.{T}
use lib.ListN.{length, get_or}
use Rattle.masks.specs.Mask.{bit, disjoint}
use Rattle.masks.proofs.Masks.{bit_below, bit-zero}
use Rattle.masks.proofs.Tests.{is_true, along}
use Rattle.exclusions.specs.Exclusions.{respects}
use Rattle.exclusions.proofs.Folding.{hit, unhit, left-start, left-next, cleared-less, Left}
use Rattle.exclusions.proofs.violates.Goals as goal
use Rattle.exclusions.proofs.violates.Goals.{After-lowest_bit-x}

-- a turn: its variable is left, so it is the first of a pair, and the term has it
module _ (c : After-lowest_bit-x) where
  abbrev x : ℕ
  x = c.lowest_bit-x.result

  left : T (bit c.loop-rest.rest x)
  left = c.lowest_bit-x.ensures.0

  has : T (bit c.args.heads x) × T (bit c.args.t.positive x)
  has = c.loop-rest.invariant.inside x left

  small : x < length c.args.partners.now
  small = bit_below (length c.args.partners.now) c.args.heads x c.requires.0 has.0

pub loop-rest-init : goal.loop-rest-init
loop-rest-init c = left-start c.args.partners.now c.args.heads c.args.t

pub bounds-partners-x : goal.bounds-partners-x
bounds-partners-x c = small (goal.at.bounds-partners-x c).After-lowest_bit-x

pub returns-then-not-is_disjoint : goal.returns-then-not-is_disjoint
returns-then-not-is_disjoint c e f =
    let b = (goal.at.returns-then-not-is_disjoint c).After-lowest_bit-x in
    let s = c.args in
    sym (is_true (not (respects e s.t))
    (hit e s.partners.now s.heads f s.t (x b) (has b).1
    (along (sym (ap not (sym c.is_disjoint.ensures ∙ c.if-not-is_disjoint.true))) tt)))

pub without_bit-rest-requires : goal.without_bit-rest-requires
without_bit-rest-requires c = omega (arith, small (goal.at.without_bit-rest-requires c).After-lowest_bit-x, c.requires.1)

pub loop-rest-smaller : goal.loop-rest-smaller
loop-rest-smaller c =
    let b = (goal.at.loop-rest-smaller c).After-lowest_bit-x in
    let rest = c.loop-rest.rest in
    subst (λ (m : ℕ). m < rest) (sym c.without_bit-rest.ensures) (cleared-less rest (x b) (left b))

pub loop-rest-preserved : goal.loop-rest-preserved
loop-rest-preserved c =
    let b = (goal.at.loop-rest-preserved c).After-lowest_bit-x in
    let s = c.args in
    let l = c.loop-rest in
    let apart : T (disjoint (get_or s.partners.now (x b) 0) s.t.positive) =
    along (sym (sym c.is_disjoint.ensures ∙ c.if-not-is_disjoint.false)) tt in
    subst (Left s.partners.now s.heads s.t) (sym c.without_bit-rest.ensures)
    (left-next s.partners.now s.heads s.t l.rest (x b) l.invariant apart)

pub returns : goal.returns
returns c e f =
    let l = c.loop-rest in
    let s = c.args in
    let none : l.rest ≡ 0 = omega arith in
    sym (ap not (is_true (respects e s.t)
    (unhit e s.partners.now s.heads f s.t (λ j. omega (arith, c.type_inv.partners j))
    (λ y p q.
    ⊎_elim (λ (b : T (bit l.rest y)). absurd (along (ap (λ (m : ℕ). bit m y) none ∙ bit-zero y) b)) (λ d. d)
    (l.invariant.others y p q)))))
