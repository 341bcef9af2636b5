-- The walk of a list of records is that of its columns: of the steps past the 256th only that there are some matters.
use Prim.Native.Nat.{ℕ, zero, suc, ◌+◌, ◌<◌, ◌≤◌}
use mathlib.Core.Path.{◌≡◌, refl, sym, ap, ◌∙◌}
use mathlib.Core.Bool.{Bool, true, false, ◌||◌, cond}
use mathlib.Core.List.{List, [], ◌∷◌}
use native.Mathlib.Omega.{arith}
use native.Mathlib.Decide.{dec_le}
use lib.Dec.{leb, ltb}
use lib.ListN.{length, get_or, take, drop}
use borrow.Author.Tests.{le-leb}
use Rattle.table.specs.Outcome.{after, Outcome, answered, refused}
use Rattle.steps.specs.Steps.{no_step, columns, steps_in}
use Rattle.steps.specs.declared.Step.{Step}
use Rattle.steps.proofs.ColumnLaws.{steps-length, steps-again, steps-cut}
use Rattle.circuits.specs.Check.{check}
use Rattle.walk.specs.Walk.{check_steps, walk_checked, walk_table, WalkLent}

-- ---- the check of more than 256 steps: it refuses, by the first 256 and that there is one more
module _ (N : ℕ) where
  abbrev Refused : Outcome (Unit {0}) → Type 0
  Refused o = (k : ℕ) × (p : ℕ) × (o ≡ refused k p)

  beyond : (i : ℕ) (e : Step) (es : List Step) → 256 ≤ i → check_steps N i (e ∷ es) ≡ refused 54 i
  unfolding check_steps
  beyond i e es l = rw (le-leb 256 i l)

  -- m more steps may be good
  long-refused : (m i : ℕ) (es : List Step) → i + m ≡ 256 → m < length es → Refused (check_steps N i es)
  unfolding check_steps
  long-refused m i [] e l = absurd (omega arith)
  long-refused zero i (d ∷ es) e l = (54, i, beyond i d es (omega arith))
  long-refused (suc m) i (d ∷ es) e l =
      by (leb 256 i || ltb 2 d.act) (leb N d.variable) (long-refused m (suc i) es (omega arith) (omega arith))
    where
      by : (a v : Bool) → Refused (check_steps N (suc i) es)
          → Refused (cond a (refused 54 i) (cond v (refused 55 i) (check_steps N (suc i) es)))
      by true v r = (54, i, refl)
      by false true r = (55, i, refl)
      by false false r = r

  long_same : (m i : ℕ) (es ds : List Step) → i + m ≡ 256 → m < length es → m < length ds → take m es ≡ take m ds
      → check_steps N i es ≡ check_steps N i ds
  unfolding check_steps
  long_same m i [] ds e l k t = absurd (omega arith)
  long_same m i (x ∷ es) [] e l k t = absurd (omega arith)
  long_same zero i (x ∷ es) (y ∷ ds) e l k t = beyond i x es (omega arith) ∙ sym (beyond i y ds (omega arith))
  long_same (suc m) i (x ∷ es) (y ∷ ds) e l k t =
      let h : x ≡ y = ap (λ (z : List Step). get_or z 0 no_step) t in
      let r : check_steps N (suc i) es ≡ check_steps N (suc i) ds =
      long_same m (suc i) es ds (omega arith) (omega arith) (omega arith) (ap (drop 1) t) in
      λ j. cond (leb 256 i || ltb 2 (h j).act) (refused 54 i) (cond (leb N (h j).variable) (refused 55 i) (r j))

-- ---- so the walk answers the same, whatever the steps past the 256th are
module _ (m : List ℕ) (N n : ℕ) (w : List ℕ) (R : ℕ) (b : WalkLent) where
  refused-same : (es ds : List Step) (o : Outcome (Unit {0})) → Refused N o → walk_checked m N n w R es b o ≡ walk_checked m N n w R ds b o
  refused-same es ds o (k, p, e) = ap (walk_checked m N n w R es b) e ∙ ap (walk_checked m N n w R ds b) (sym e)

  after-refused : (c o : Outcome (Unit {0})) → Refused N o → Refused N (after c o)
  after-refused (answered u) o r = r
  after-refused (refused k p) o r = (k, p, refl)

  long-walk : (es ds : List Step) → 256 < length es → 256 < length ds → take 256 es ≡ take 256 ds
      → walk_table m N n w R es b ≡ walk_table m N n w R ds b
  unfolding walk_table
  long-walk es ds l k t =
      refused-same es ds (after (check N n w) (check_steps N 0 es))
      (after-refused (check N n w) (check_steps N 0 es) (long-refused N 256 0 es refl l))
      ∙ ap (λ (o : Outcome (Unit {0})). walk_checked m N n w R ds b (after (check N n w) o)) (long_same N 256 0 es ds refl l k t)

  pub walk-columns : (es : List Step) → walk_table m N n w R (steps_in (columns es) (length es)) b ≡ walk_table m N n w R es b
  walk-columns es = by (dec_le (length es) 256)
    where
      by : Dec (length es ≤ 256) → walk_table m N n w R (steps_in (columns es) (length es)) b ≡ walk_table m N n w R es b
      by (yes h) = ap (λ (z : List Step). walk_table m N n w R z b) (steps-again es h)
      by (no h) =
          let l : 256 < length es = omega arith in
          let k : length (steps_in (columns es) (length es)) ≡ length es = steps-length (columns es) (length es) in
          long-walk (steps_in (columns es) (length es)) es (omega arith) l (steps-cut es 256 (omega arith) (omega arith))
