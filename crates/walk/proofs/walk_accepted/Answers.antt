-- `walk::walk_accepted` meets its contract.
use Prim.Native.Nat.{ℕ, ◌≤◌}
use mathlib.Core.Path.{◌≡◌, sym, ap, ap₂, subst, ◌∙◌}
use mathlib.Core.Bool.{Bool, true, false, ◌||◌, not}
use mathlib.Core.List.{List, ◌++◌}
use lib.Dec.{ltb}
use lib.ListN.{length, take, drop}
use lib.Seq.{length-take-le}
use Rattle.table.specs.Outcome.{accepted}
use Rattle.steps.specs.Steps.{steps_in}
use Rattle.steps.specs.declared.Step.{Step}
use Rattle.steps.proofs.ColumnLaws.{steps-length}
use Rattle.terms.specs.Completions.{status}
use Rattle.terms.specs.declared.Term.{Term}
use Rattle.queries.specs.Queries.{circuit}
use Rattle.checks.proofs.Refusals.{handed}
use Rattle.listing.specs.Listing.{lent, ListResult, Lent}
use Rattle.walk.specs.Answers.{WalkResult}
use Rattle.walk.specs.Walk.{check_steps, compatible, after_each, settled, walk_lent, steps_fit, WalkLent}
use Rattle.walk.proofs.Answers.{fits_by, fits-e, walks-short, walks-lack, walks-all}
use Rattle.walk.proofs.Listed.{walk-ready}
use Rattle.walk.proofs.walk_accepted.Goals as goal
use Rattle.walk.proofs.walk_accepted.Goals.{Start}

module _ (s : Start) where
  abbrev steps : List Step
  steps = steps_in s.args.plan.columns s.args.k

  -- the buffers of the listing, and all
  abbrev rows : Lent
  rows = lent s.args.positives.now s.args.negatives.now s.args.counts.now

  abbrev buffers : WalkLent
  buffers = walk_lent rows s.args.statuses.now s.args.compatibles.now

  count : length steps ≡ s.args.k
  count = steps-length s.args.plan.columns s.args.k

  -- what the test of the steps' buffers said
  tested : (b : Bool) → (ltb (length s.args.statuses.now) s.args.k || ltb (length s.args.compatibles.now) s.args.k) ≡ b
      → steps_fit steps buffers ≡ not b
  tested b e = fits_by steps buffers s.args.k count b e

-- ---- after the tests
module _ (s : Start) (fits : (ltb (length s.args.statuses.now) s.args.k || ltb (length s.args.compatibles.now) s.args.k) ≡ false) where
  room : (s.args.k ≤ length s.args.statuses.now) × (s.args.k ≤ length s.args.compatibles.now)
  room = fits-e (steps s) (buffers s) s.args.k (count s) (tested s false fits)

  -- the fronts that are lent
  statuses-size : length (take s.args.k s.args.statuses.now) ≡ s.args.k
  statuses-size = length-take-le s.args.k s.args.statuses.now room.0

  compatibles-size : length (take s.args.k s.args.compatibles.now) ≡ s.args.k
  compatibles-size = length-take-le s.args.k s.args.compatibles.now room.1

pub returns-then-statuses-k : goal.returns-then-statuses-k
returns-then-statuses-k c =
    let s = (goal.at.returns-then-statuses-k c).Start in
    let x = c.args in
    walks-short x.weights.now x.plan.variables x.plan.nodes x.words.now x.capacity (steps s) (buffers s) c.requires.0 c.requires.1
    (tested s true c.if-statuses-k.true)

pub returns-in_err-list_accepted : goal.returns-in_err-list_accepted
returns-in_err-list_accepted c =
    let s = (goal.at.returns-in_err-list_accepted c).Start in
    let x = c.args in
    let l = c.list_accepted.new in
    let after : Lent = lent l.positives l.negatives l.counts in
    subst
    (WalkResult x.weights.now x.plan.variables x.plan.nodes x.words.now x.capacity (steps s) (buffers s)
    (walk_lent after x.statuses.now x.compatibles.now))
    (sym (handed _ _ c.from_residual.ensures))
    (walks-lack x.weights.now x.plan.variables x.plan.nodes x.words.now x.capacity (steps s) (buffers s) c.requires.0 c.requires.1
    (tested s false c.if-statuses-k.false) after c.list_accepted.result c.list_accepted.ensures _ c.in_err-list_accepted.was)

pub walk_listed-requires : goal.walk_listed-requires
walk_listed-requires c =
    let s = (goal.at.walk_listed-requires c).Start in
    let x = c.args in
    let l = c.list_accepted.new in
    let after : Lent = lent l.positives l.negatives l.counts in
    let listed =
    subst (ListResult true x.weights.now x.plan.variables x.plan.nodes x.words.now x.capacity (rows s) after) c.in_ok-list_accepted.was
    c.list_accepted.ensures in
    let good =
    subst (λ (m : ℕ). check_steps x.plan.variables 0 (steps_in x.plan.columns m) ≡ accepted)
    (sym (statuses-size s c.if-statuses-k.false)) c.requires.1 in
    let even = compatibles-size s c.if-statuses-k.false ∙ sym (statuses-size s c.if-statuses-k.false) in
    walk-ready x.weights.now x.plan x.words.now x.capacity _ _ (rows s) after
    (record { accepts = c.requires.0; good = good; even = even }) listed
    c.list_accepted.auto.positives c.list_accepted.auto.negatives c.list_accepted.auto.counts

pub returns : goal.returns
returns c =
    let s = (goal.at.returns c).Start in
    let x = c.args in
    let l = c.list_accepted.new in
    let after : Lent = lent l.positives l.negatives l.counts in
    let N : ℕ = x.plan.variables in
    let f : ℕ → Bool = circuit x.plan.nodes x.words.now in
    let m : ℕ = length (take x.k x.statuses.now) in
    let all : (g : Term → ℕ) (l : List ℕ) → l ≡ after_each N g (steps_in x.plan.columns m) → l ≡ after_each N g (steps s) =
    λ g l d. d ∙ ap (λ (j : ℕ). after_each N g (steps_in x.plan.columns j)) (statuses-size s c.if-statuses-k.false) in
    let ss = all (status N f) c.walk_listed.new.statuses c.walk_listed.ensures.judged.statuses in
    let cs = all (compatible N f) c.walk_listed.new.compatibles c.walk_listed.ensures.judged.compatibles in
    walks-all x.weights.now N x.plan.nodes x.words.now x.capacity (steps s) (buffers s) c.requires.0 c.requires.1
    (tested s false c.if-statuses-k.false) after c.list_accepted.result c.list_accepted.ensures c.in_ok-list_accepted.was _ _
    c.walk_listed.result (c.walk_listed.ensures.result_value ∙ ap settled ss)
    (ap₂ (λ (l : List ℕ) (m : ℕ). l ++ drop m x.statuses.now) ss (sym (count s)))
    (ap₂ (λ (l : List ℕ) (m : ℕ). l ++ drop m x.compatibles.now) cs (sym (count s)))
