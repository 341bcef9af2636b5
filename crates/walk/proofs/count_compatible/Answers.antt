use Prim.Native.Nat.{◌+◌}
use mathlib.Core.Path.{◌≡◌, refl, sym, ap, ◌∙◌}
use mathlib.Core.Bool.{Bool, true, false, not}
use native.Mathlib.Omega.{arith}
use Rattle.masks.specs.Numbers.{digit}
use Rattle.walk.proofs.Compatible.{kept_from, kept_next, kept-end}
use Rattle.walk.proofs.count_compatible.Invariants.{free}
use Rattle.walk.proofs.count_compatible.Goals as goal
use Rattle.walk.proofs.count_compatible.Goals.{then-not-conflict, else-not-conflict}

pub loop-k-preserved : goal.loop-k-preserved
loop-k-preserved c =
    let x = c.args in
    let k = c.loop-k.k in
    -- the number from term k on, by what the test said of it
    let counted : (b : Bool) → c.conflict.result ≡ not b
    → kept_from (free x.t) x.list k ≡ digit b + kept_from (free x.t) x.list (k + 1) =
    λ b e. kept_next (free x.t) x.list k b (omega (arith, c.loop-k-test.true))
    (ap (free x.t) (sym c.at.ensures) ∙ sym (ap not c.conflict.ensures) ∙ ap not e ∙ not-not b) in
    elim c.if-not-conflict.branch [
      | then-not-conflict w ↦ let n = counted true w.if-not-conflict.true in
          (omega arith, omega arith, omega (arith, n, c.loop-k.invariant.2))
      | else-not-conflict w ↦ let n = counted false w.if-not-conflict.false in
          (omega arith, omega arith, omega (arith, n, c.loop-k.invariant.2))
    ]
  where
    not-not : (b : Bool) → not (not b) ≡ b
    not-not true = refl
    not-not false = refl

pub returns : goal.returns
returns c =
    let e = kept-end (free c.args.t) c.args.list c.loop-k.k (omega (arith, c.loop-k-test.false)) in
    omega (arith, c.loop-k.invariant.2, e)
