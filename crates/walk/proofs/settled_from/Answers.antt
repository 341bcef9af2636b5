use Prim.Native.Nat.{ℕ, ◌-◌, ◌<◌, ◌≤◌}
use mathlib.Core.Path.{◌≡◌, ap, ◌∙◌}
use mathlib.Core.Logic.{◌⊎◌, inl, inr, ◌≢◌}
use native.Mathlib.Omega.{arith}
use Rattle.std.specs.Prelude.{true}
use Rattle.walk.specs.Walk.{allowed_from, settled}
use lib.ListN.{length, get_or}
use Rattle.walk.proofs.Settled.{settled_at, settled-nowhere}
use mathlib.Core.List.{List}
use Rattle.walk.proofs.settled_from.Goals as goal
use Rattle.walk.proofs.settled_from.Goals.{else-loop-k-test, then-loop-k-test+then-statuses-k}

-- the loop ended at the first step, or before one that is not allowed
abbrev Stopped : List ℕ → ℕ → Type 0
Stopped l k = (k ≡ 0) ⊎ (get_or l (k - 1) 0 ≢ 2)

module _ (l : List ℕ) (k f : ℕ) (e : f ≡ k) (le : k ≤ length l) (from : allowed_from l k ≡ true) (stop : Stopped l k) where
  found : f < length l → (1, f) ≡ settled l
  found h = ap (λ (i : ℕ). (1, i)) e ∙ settled_at l k le from stop (omega (arith, e))

  nowhere : length l ≤ f → (0, 0) ≡ settled l
  nowhere h = settled-nowhere l k le from stop (omega (arith, e))

pub returns-then-first-statuses : goal.returns-then-first-statuses
returns-then-first-statuses c =
    let l = c.args.statuses.now in
    let i = c.loop-k.invariant in
    let stopped : Stopped l c.loop-k.k =
    elim c.loop-k-test.branch [
      | else-loop-k-test w ↦ inl (omega (arith, w.loop-k-test.false))
      | then-loop-k-test+then-statuses-k w ↦ inr w.if-statuses-k.true
    ] in
    found l c.loop-k.k c.loop-k.first i.0 i.1 i.2 stopped c.if-first-statuses.true

pub returns : goal.returns
returns c =
    let l = c.args.statuses.now in
    let i = c.loop-k.invariant in
    let stopped : Stopped l c.loop-k.k =
    elim c.loop-k-test.branch [
      | else-loop-k-test w ↦ inl (omega (arith, w.loop-k-test.false))
      | then-loop-k-test+then-statuses-k w ↦ inr w.if-statuses-k.true
    ] in
    nowhere l c.loop-k.k c.loop-k.first i.0 i.1 i.2 stopped c.if-first-statuses.false
