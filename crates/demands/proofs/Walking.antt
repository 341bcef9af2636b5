-- Where the walk may be refused and what it leaves in the buffers.
use Prim.Native.Nat.{ℕ, zero, suc, ◌+◌, ◌<◌, ◌≤◌}
use mathlib.Core.Path.{◌≡◌, refl, sym, ap, ap₂, subst, ◌∙◌}
use mathlib.Core.Bool.{Bool, true, false, ◌&&◌, ◌||◌, not, cond}
use mathlib.Core.Logic.{⊎_elim, inl, inr, ◌≢◌}
use mathlib.Core.List.{List, [], ◌∷◌, ◌++◌}
use native.Mathlib.Nat.{zero-add}
use native.Mathlib.Omega.{arith}
use lib.Dec.{T, leb, ltb, T_not, nleb→lt}
use lib.ListN.{get_or, length, drop, drop_of_length-le}
use lib.Seq.{drop-cons, drop_at}
use borrow.Author.Tests.{le-leb}
use Rattle.masks.proofs.Tests.{along, below_suc, not-or, or_l, or_r}
use Rattle.steps.specs.Steps.{max_steps, no_step}
use Rattle.steps.specs.declared.Step.{Step}
use Rattle.table.specs.Outcome.{accepted, after, Outcome, answered, refused}
use Rattle.text.proofs.Readers.{value_not, same_number}
use Rattle.terms.specs.Completions.{status}
use Rattle.terms.specs.declared.Term.{Term}
use Rattle.circuits.specs.Check.{check}
use Rattle.queries.specs.Queries.{circuit}
use Rattle.listing.specs.Listing.{list_table, Lent, ListOut}
use Rattle.walk.specs.Walk.{check_steps, compatible, after_each, settled, walk_lent, walk_listed, steps_fit, walk_checked, walk_table}
use Rattle.walk.specs.Walk.{WalkLent, WalkOut}
use Rattle.walk.proofs.Entries.{after-length}
use Rattle.demands.specs.Demands.{At, Refusals, Answers, table_refusals, wrong_act, wrong_variable, ActAt, VariableAt, WrongStep}
use Rattle.demands.proofs.Answers.{among-left, among-between, answers-right, question-answers, among-other}
use Rattle.demands.proofs.Listing.{list-answers, list-kept}

-- ---- the steps: the check refuses by the lowest wrong one
module _ (N : ℕ) (es : List Step) where
  abbrev step_refusals : Refusals
  step_refusals = (54, ActAt N es) ∷ (55, VariableAt N es) ∷ []

  abbrev bad : ℕ → Bool
  bad i = wrong_act es i || wrong_variable N es i

  -- the check from step i on
  abbrev from : ℕ → Outcome (Unit {0})
  from i = check_steps N i (drop i es)

  -- by its tests of step i
  abbrev at_step : ℕ → Bool → Bool → Outcome (Unit {0})
  at_step i a v = cond a (refused 54 i) (cond v (refused 55 i) (from (suc i)))

  at-step : (i : ℕ) → i < length es → from i ≡ at_step i (wrong_act es i) (wrong_variable N es i)
  unfolding check_steps
  at-step i l = ap (check_steps N i) (drop-cons es i no_step l)

  at-end : (i : ℕ) → length es ≤ i → from i ≡ accepted
  unfolding check_steps
  at-end i l = ap (check_steps N i) (drop_of_length-le es l)

  -- every step before i is good
  abbrev GoodBefore : ℕ → Type 0
  GoodBefore i = (j : ℕ) → j < i → T (not (bad j))

  module _ (i : ℕ) (inside : i < length es) (few : i ≤ max_steps) (good : GoodBefore i) where
    wrong : T (bad i) → WrongStep N es i
    wrong h = record { inside = (inside, few); lowest = (h, good) }

    -- a good step is one of the first 256
    next-few : T (not (bad i)) → suc i ≤ max_steps
    next-few h =
        let act : T (not (wrong_act es i)) = (not-or (wrong_act es i) (wrong_variable N es i) h).0 in
        nleb→lt max_steps i (not-or (leb max_steps i) (ltb 2 (get_or es i no_step).act) act).0

    next-good : T (not (bad i)) → GoodBefore (suc i)
    next-good h j l = ⊎_elim (λ (e : j ≡ i). subst (λ (x : ℕ). T (not (bad x))) (sym e) h) (good j) (below_suc l)

    step-answers : (suc i ≤ max_steps → GoodBefore (suc i) → Answers step_refusals (from (suc i))) → Answers step_refusals (from i)
    step-answers next = subst (Answers step_refusals) (sym (at-step i inside)) (by (wrong_act es i) (wrong_variable N es i) refl refl)
      where
        by : (a v : Bool) → wrong_act es i ≡ a → wrong_variable N es i ≡ v → Answers step_refusals (at_step i a v)
        by true v p q =
            let t : T (wrong_act es i) = along (sym p) tt in
            inl (refl, (wrong (or_l (wrong_act es i) (wrong_variable N es i) t), t))
        by false true p q =
            let t : T (wrong_variable N es i) = along (sym q) tt in
            inr (inl (refl, (wrong (or_r (wrong_act es i) (wrong_variable N es i) t), along (ap not (sym p)) tt)))
        by false false p q =
            let h : T (not (bad i)) = along (ap₂ (λ (x y : Bool). not (x || y)) (sym p) (sym q)) tt in
            next (next-few h) (next-good h)

  -- m steps are left
  from-answers : (m i : ℕ) → i + m ≡ length es → i ≤ max_steps → GoodBefore i → Answers step_refusals (from i)
  from-answers zero i e few good = subst (Answers step_refusals) (sym (at-end i (omega arith))) tt
  from-answers (suc m) i e few good = step-answers i (omega arith) few good (from-answers m (suc i) (omega arith))

  pub steps-answers : Answers step_refusals (check_steps N 0 es)
  steps-answers = from-answers (length es) 0 (zero-add (length es)) (omega arith) (λ j l. absurd (omega arith))

-- ---- the walk
module _ (m : List ℕ) (N n : ℕ) (w : List ℕ) (R : ℕ) (es : List Step) (b : WalkLent) where
  abbrev list : ListOut
  list = list_table true m N n w R b.rows

  abbrev list_refusals : Refusals
  list_refusals = (41, At 0) ∷ (56, At 0) ∷ (42, At 0) ∷ []

  -- the refusals of the tests before the listing: of the table, and of the steps
  abbrev test_refusals : Refusals
  test_refusals = table_refusals n ++ step_refusals N es

  abbrev walk_refusals : Refusals
  walk_refusals = test_refusals ++ list_refusals

  -- the buffers after the listing alone
  abbrev listed_lent : WalkLent
  listed_lent = walk_lent list.after b.statuses b.compatibles

  -- ---- by the answer of the listing
  abbrev by_list : Outcome (Unit {0}) → WalkOut
  by_list o = walk_listed N (circuit n w) es b list.after o

  abbrev Kept : WalkOut → Type 0
  Kept o = (k p : ℕ) → o.answer ≡ refused k p → k ≢ 42 → o.after ≡ b

  -- 42 is the listing's
  abbrev Lack : WalkOut → Type 0
  Lack o = (p : ℕ) → o.answer ≡ refused 42 p → (list.answer ≡ refused 42 p) × (o.after ≡ listed_lent)

  -- a walk is done after a listing that is
  abbrev Done : WalkOut → Type 0
  Done o = (v : ℕ × ℕ) → o.answer ≡ answered v → (list.answer ≡ accepted) × (o ≡ by_list accepted)

  listed-answers : (o : Outcome (Unit {0})) → Answers (table_refusals n ++ list_refusals) o → Answers walk_refusals (by_list o).answer
  listed-answers (answered u) h = tt
  listed-answers (refused k p) h = among-between (table_refusals n) (step_refusals N es) list_refusals k p h

  listed_kept : (o : Outcome (Unit {0})) → list.answer ≡ o → Kept (by_list o)
  listed_kept (answered u) e k p h other = absurd (value_not (settled (after_each N (status N (circuit n w)) es)) k p h)
  listed_kept (refused j i) e k p h other =
      let d : j ≡ k = (same_number j i k p h).0 in
      ap (λ (l : Lent). walk_lent l b.statuses b.compatibles) (list-kept true m N n w R b.rows j i e (λ c. other (sym d ∙ c)))

  listed-lack : (o : Outcome (Unit {0})) → list.answer ≡ o → Lack (by_list o)
  listed-lack (answered u) e p h = absurd (value_not (settled (after_each N (status N (circuit n w)) es)) 42 p h)
  listed-lack (refused j i) e p h = let (d, c) = same_number j i 42 p h in (e ∙ ap₂ refused d c, refl)

  listed-done : (o : Outcome (Unit {0})) → list.answer ≡ o → Done (by_list o)
  listed-done (answered u) e v h = (e, refl)
  listed-done (refused j i) e v h = absurd (value_not v j i (sym h))

  -- ---- by the room for the steps
  abbrev by_room : Bool → WalkOut
  by_room x = cond x (by_list list.answer) (record { answer = refused 41 0; after = b })

  room-answers : (x : Bool) → Answers walk_refusals (by_room x).answer
  room-answers true = listed-answers list.answer (list-answers true m N n w R b.rows)
  room-answers false = answers-right test_refusals list_refusals (by_room false).answer (inl (refl, refl))

  room-kept : (x : Bool) → Kept (by_room x)
  room-kept true k p h other = listed_kept list.answer refl k p h other
  room-kept false k p h other = refl

  room-lack : (x : Bool) → Lack (by_room x)
  room-lack true p h = listed-lack list.answer refl p h
  room-lack false p h = let e : ◌≡◌ {A = ℕ} 41 42 = (same_number 41 0 42 p h).0 in absurd (omega arith)

  room-done : (x : Bool) → Done (by_room x)
  room-done true v h = listed-done list.answer refl v h
  room-done false v h = absurd (value_not v 41 0 (sym h))

  -- ---- by the answer of the tests before
  abbrev by_check : Outcome (Unit {0}) → WalkOut
  by_check o = walk_checked m N n w R es b o

  checked-answers : (o : Outcome (Unit {0})) → Answers test_refusals o → Answers walk_refusals (by_check o).answer
  checked-answers (answered u) h = room-answers (steps_fit es b)
  checked-answers (refused k p) h = among-left test_refusals list_refusals k p h

  checked-kept : (o : Outcome (Unit {0})) → Kept (by_check o)
  checked-kept (answered u) k p h other = room-kept (steps_fit es b) k p h other
  checked-kept (refused j i) k p h other = refl

  checked-lack : (o : Outcome (Unit {0})) → Answers test_refusals o → Lack (by_check o)
  checked-lack (answered u) a p h = room-lack (steps_fit es b) p h
  checked-lack (refused j i) a p h = absurd (among-other 42 test_refusals j i (omega arith) a (same_number j i 42 p h).0)

  checked-done : (o : Outcome (Unit {0})) → Done (by_check o)
  checked-done (answered u) v h = room-done (steps_fit es b) v h
  checked-done (refused j i) v h = absurd (value_not v j i (sym h))

  -- ---- the walk
  abbrev tests : Outcome (Unit {0})
  tests = after (check N n w) (check_steps N 0 es)

  abbrev out : WalkOut
  out = walk_table m N n w R es b

  tests-answers : Answers test_refusals tests
  tests-answers = question-answers N n w (step_refusals N es) (check_steps N 0 es) (steps-answers N es)

  pub walk-answers : Answers walk_refusals out.answer
  unfolding walk_table
  walk-answers = checked-answers tests tests-answers

  pub walk_kept : Kept out
  unfolding walk_table
  walk_kept = checked-kept tests

  pub walk-lack : Lack out
  unfolding walk_table
  walk-lack = checked-lack tests tests-answers

  pub walk-done : Done out
  unfolding walk_table
  walk-done = checked-done tests

  pub walk-rest : (v : ℕ × ℕ) → out.answer ≡ answered v
      → (drop (length es) out.after.statuses ≡ drop (length es) b.statuses)
      × (drop (length es) out.after.compatibles ≡ drop (length es) b.compatibles)
  walk-rest v h =
      let e : out ≡ by_list accepted = (walk-done v h).1 in (
        ap (λ (o : WalkOut). drop (length es) o.after.statuses) e ∙ past (status N (circuit n w)) b.statuses,
        ap (λ (o : WalkOut). drop (length es) o.after.compatibles) e ∙ past (compatible N (circuit n w)) b.compatibles,
      )
    where
      past : (g : Term → ℕ) (s : List ℕ) → drop (length es) (after_each N g es ++ drop (length es) s) ≡ drop (length es) s
      past g s = drop_at (after_each N g es) (drop (length es) s) (length es) (after-length N g es)

-- ---- and done where nothing is wrong
good-steps : (N : ℕ) (es : List Step) → ((i : ℕ) → i < length es → T (not (wrong_act es i || wrong_variable N es i)))
    → check_steps N 0 es ≡ accepted
good-steps N es good = by (check_steps N 0 es) (steps-answers N es)
  where
    never : (p : ℕ) → WrongStep N es p → ⊥
    never p s = T_not (wrong_act es p || wrong_variable N es p) (good p s.inside.0) s.lowest.0

    by : (o : Outcome (Unit {0})) → Answers ((54, ActAt N es) ∷ (55, VariableAt N es) ∷ []) o → o ≡ accepted
    by (answered u) h = refl
    by (refused k p) (inl (e, (s, t))) = absurd (never p s)
    by (refused k p) (inr (inl (e, (s, t)))) = absurd (never p s)
    by (refused k p) (inr (inr h)) = absurd h

module _ (m : List ℕ) (N n : ℕ) (w : List ℕ) (R : ℕ) (es : List Step) (b : WalkLent) (acc : check N n w ≡ accepted) where
  pub walks : ((i : ℕ) → i < length es → T (not (wrong_act es i || wrong_variable N es i))) → length es ≤ length b.statuses
      → length es ≤ length b.compatibles → (list_table true m N n w R b.rows).answer ≡ answered tt
      → (v : ℕ × ℕ) × ((walk_table m N n w R es b).answer ≡ answered v)
  unfolding walk_table
  walks good ls lc done =
      let f : ℕ → Bool = circuit n w in
      let list : ListOut = list_table true m N n w R b.rows in
      let fits : steps_fit es b ≡ true =
      ap₂ ◌&&◌ (le-leb (length es) (length b.statuses) ls) (le-leb (length es) (length b.compatibles) lc) in (
        settled (after_each N (status N f) es),
        ap₂ (λ (c d : Outcome (Unit {0})). (walk_checked m N n w R es b (after c d)).answer) acc (good-steps N es good)
            ∙ ap₂ (λ (x : Bool) (o : Outcome (Unit {0})).
            (cond x (walk_listed N f es b list.after o) (record { answer = refused 41 0; after = b })).answer)
            fits done,
      )
