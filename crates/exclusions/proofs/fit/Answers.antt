use Prim.Native.Nat.{ℕ}
use mathlib.Core.Path.{◌≡◌, sym, ap, ap₂, ◌∙◌}
use mathlib.Core.Bool.{Bool, true, false, ◌&&◌}
use native.Mathlib.Numerals.{add-one}
use native.Mathlib.Omega.{arith}
use lib.Dec.{eqb}
use lib.ListN.{length}
use borrow.Author.Tests.{eq-eqb, ne_eqb}
use borrow.Author.Rules.{rules}
use Rattle.masks.specs.Numbers.{every}
use Rattle.masks.proofs.Numbers.{every-fails}
use Rattle.exclusions.specs.Exclusions.{proper}
use Rattle.exclusions.proofs.fit.Invariants.{fits}
use Rattle.exclusions.proofs.fit.Goals as goal
use Rattle.exclusions.proofs.fit.Goals.{At-loop-i}

-- at the loop the lists have the same length
complete : (c : At-loop-i) → eqb (length c.args.seconds.now) (length c.args.firsts.now) ≡ true
complete c = eq-eqb (length c.args.seconds.now) (length c.args.firsts.now) (omega arith)

pub loop-i-init : goal.loop-i-init
unfolding every
loop-i-init c = search rules

pub returns-then-seconds-firsts : goal.returns-then-seconds-firsts
unfolding proper
returns-then-seconds-firsts c =
    let x = c.args in
    let rest : Bool = every (length x.firsts.now) (fits x.variables x.firsts.now x.seconds.now) in
    sym (ap (λ (b : Bool). b && rest) (ne_eqb (length x.seconds.now) (length x.firsts.now) c.if-seconds-firsts.true))

pub returns-then-not-is_distinct : goal.returns-then-not-is_distinct
unfolding proper
returns-then-not-is_distinct c =
    let x = c.args in
    let p : ℕ → Bool = fits x.variables x.firsts.now x.seconds.now in
    let bad : p c.loop-i.i ≡ false = sym c.is_distinct.ensures ∙ c.if-not-is_distinct.true in
    sym
    (ap₂ ◌&&◌ (complete (goal.at.returns-then-not-is_distinct c).At-loop-i)
    (every-fails (length x.firsts.now) p c.loop-i.i (omega arith) bad))

pub loop-i-preserved : goal.loop-i-preserved
unfolding every
loop-i-preserved c =
    let good = sym c.is_distinct.ensures ∙ c.if-not-is_distinct.false in rw add-one (ap₂ ◌&&◌ good c.loop-i.invariant)

pub returns : goal.returns
unfolding proper
returns c =
    let x = c.args in
    let e : c.loop-i.i ≡ length x.firsts.now = omega arith in
    let p : ℕ → Bool = fits x.variables x.firsts.now x.seconds.now in
    sym (ap₂ ◌&&◌ (complete (goal.at.returns c).At-loop-i) (ap (λ (n : ℕ). every n p) (sym e) ∙ c.loop-i.invariant))
