-- The answer of the walk and what it leaves in the buffers, by the tests that were made.
use Prim.Native.Nat.{ℕ, ◌≤◌}
use mathlib.Core.Path.{◌≡◌, refl, sym, ap, ap₂, ◌∙◌}
use mathlib.Core.Bool.{Bool, true, false, ◌&&◌, ◌||◌, not, cond}
use mathlib.Core.List.{List, ◌++◌}
use lib.Dec.{ltb, leb}
use lib.ListN.{length, drop}
use Rattle.table.specs.Outcome.{accepted, after, refused_by, outcome, Outcome, answered, refused}
use Rattle.table.specs.declared.Refusal.{Refusal}
use Rattle.table.specs.declared.Refusal.TheVariants.{Buffers}
use Rattle.steps.specs.declared.Step.{Step}
use Rattle.terms.specs.Completions.{status}
use Rattle.circuits.specs.Check.{check}
use Rattle.queries.specs.Queries.{circuit}
use Rattle.listing.specs.Listing.{list_table, ListResult, Lent, ListOut}
use Rattle.std.specs.Prelude.{Option, Result, Ok, Err}
use Rattle.listing.proofs.Bounds.{two-fit, two-fit-e}
use Rattle.walk.specs.Answers.{fault_outcome, settled_step, walked_outcome, WalkResult}
use Rattle.walk.specs.Walk.{check_steps, compatible, after_each, settled, walk_lent, walk_listed, steps_fit, walk_checked, walk_table}
use Rattle.walk.specs.Walk.{WalkLent, WalkOut}
use Rattle.walk.specs.declared.StepFault.{StepFault}
use Rattle.walk.specs.declared.WalkRefusal.{WalkRefusal}
use Rattle.walk.specs.declared.WalkRefusal.TheVariants.{Step as InStep, Table}

-- ---- the buffers of the steps, by the tests of the code
module _ (es : List Step) (b : WalkLent) (k : ℕ) (size : length es ≡ k) where
  pub fits_by : (t : Bool) → (ltb (length b.statuses) k || ltb (length b.compatibles) k) ≡ t → steps_fit es b ≡ not t
  fits_by t e =
      ap (λ (m : ℕ). leb m (length b.statuses) && leb m (length b.compatibles)) size
      ∙ two-fit k (length b.statuses) (length b.compatibles) t e

  pub fits-e : steps_fit es b ≡ true → (k ≤ length b.statuses) × (k ≤ length b.compatibles)
  fits-e e =
      two-fit-e k (length b.statuses) (length b.compatibles)
      (sym (ap (λ (m : ℕ). leb m (length b.statuses) && leb m (length b.compatibles)) size) ∙ e)

module _ (m : List ℕ) (N n : ℕ) (w : List ℕ) (R : ℕ) (es : List Step) (b : WalkLent) where
  abbrev f : ℕ → Bool
  f = circuit n w

  abbrev out : WalkOut
  out = walk_table m N n w R es b

  -- the answer with every buffer as it was
  abbrev untouched : Outcome (ℕ × ℕ) → WalkOut
  untouched o = record { answer = o; after = b }

  -- by the outcome
  walks-by : (o : WalkOut) (b' : WalkLent) (r : Result (Option ℕ) WalkRefusal) → out ≡ o → walked_outcome r ≡ o.answer
      → b'.rows.positives ≡ o.after.rows.positives → b'.rows.negatives ≡ o.after.rows.negatives
      → b'.rows.counts ≡ o.after.rows.counts → b'.statuses ≡ o.after.statuses → b'.compatibles ≡ o.after.compatibles
      → WalkResult m N n w R es b b' r
  walks-by o b' r e h p q c ss cs =
      record {
        answer = h ∙ ap (λ (z : WalkOut). z.answer) (sym e);
        positives = p ∙ ap (λ (z : WalkOut). z.after.rows.positives) (sym e);
        negatives = q ∙ ap (λ (z : WalkOut). z.after.rows.negatives) (sym e);
        counts = c ∙ ap (λ (z : WalkOut). z.after.rows.counts) (sym e);
        statuses = ss ∙ ap (λ (z : WalkOut). z.after.statuses) (sym e);
        compatibles = cs ∙ ap (λ (z : WalkOut). z.after.compatibles) (sym e);
      }

  walks-untouched : (r : Result (Option ℕ) WalkRefusal) → out ≡ untouched (walked_outcome r) → WalkResult m N n w R es b b r
  walks-untouched r e = walks-by (untouched (walked_outcome r)) b r e refl refl refl refl refl refl

  -- by the answers of the check and of the steps
  out-by : (c d : Outcome (Unit {0})) → check N n w ≡ c → check_steps N 0 es ≡ d → out ≡ walk_checked m N n w R es b (after c d)
  unfolding walk_table
  out-by c d p q = ap₂ (λ (y z : Outcome (Unit {0})). walk_checked m N n w R es b (after y z)) p q

  -- ---- 21 to 25
  pub walks-refused : (r : Refusal) → refused_by r ≡ check N n w → WalkResult m N n w R es b b (Err (Table r))
  walks-refused r e = walks-untouched (Err (Table r)) (out-by (refused_by r) (check_steps N 0 es) (sym e) refl)

  module _ (acc : check N n w ≡ accepted) where
    -- ---- 54 and 55
    pub walks-fault : (fault : StepFault) → fault_outcome fault ≡ check_steps N 0 es → WalkResult m N n w R es b b (Err (InStep fault))
    walks-fault (StepFault.Act i) e = walks-untouched (Err (InStep (StepFault.Act i))) (out-by accepted (refused 54 i) acc (sym e))
    walks-fault (StepFault.Variable i) e = walks-untouched (Err (InStep (StepFault.Variable i))) (out-by accepted (refused 55 i) acc (sym e))

    module _ (good : check_steps N 0 es ≡ accepted) where
      abbrev list : ListOut
      list = list_table true m N n w R b.rows

      abbrev by_room : Bool → Outcome (Unit {0}) → WalkOut
      by_room x o = cond x (walk_listed N f es b list.after o) (untouched (refused 41 0))

      out-is : (x : Bool) (o : Outcome (Unit {0})) → steps_fit es b ≡ x → list.answer ≡ o → out ≡ by_room x o
      out-is x o e d = out-by accepted accepted acc good ∙ ap₂ by_room e d

      -- ---- 41 by the buffers of the steps
      pub walks-short : steps_fit es b ≡ false → WalkResult m N n w R es b b (Err (Table Buffers))
      walks-short e = walks-untouched (Err (Table Buffers)) (out-is false list.answer e refl)

      -- ---- by the answer of the listing
      module _ (fits : steps_fit es b ≡ true) (rows : Lent) (a : Result (Unit {0}) Refusal) (l : ListResult true m N n w R b.rows rows a) where
        pub walks-lack : (why : Refusal) → a ≡ Err why
            → WalkResult m N n w R es b (walk_lent rows b.statuses b.compatibles) (Err (Table why))
        walks-lack why d =
            let o : Outcome (Unit {0}) = refused_by why in
            walks-by (by_room true o) (walk_lent rows b.statuses b.compatibles) (Err (Table why))
            (out-is true o fits (sym l.answer ∙ ap outcome d)) refl l.positives l.negatives l.counts refl refl

        pub walks-all : a ≡ Ok tt → (ss cs : List ℕ) (step : Option ℕ) → settled_step step ≡ settled (after_each N (status N f) es)
            → ss ≡ after_each N (status N f) es ++ drop (length es) b.statuses
            → cs ≡ after_each N (compatible N f) es ++ drop (length es) b.compatibles
            → WalkResult m N n w R es b (walk_lent rows ss cs) (Ok step)
        walks-all d ss cs step h p q =
            walks-by (by_room true accepted) (walk_lent rows ss cs) (Ok step) (out-is true accepted fits (sym l.answer ∙ ap outcome d)) (ap answered h)
            l.positives l.negatives l.counts p q
