-- What a walk of an accepted circuit that is done says: each entry of a step, and the step named.
use Prim.Native.Nat.{ℕ, zero, suc, ◌+◌, ◌<◌, ◌≤◌}
use mathlib.Core.Path.{◌≡◌, refl, sym, ap, subst₂, ◌∙◌}
use mathlib.Core.Bool.{Bool, true, false, cond}
use mathlib.Core.Logic.{◌⊎◌, inl, inr, ◌≢◌}
use mathlib.Core.List.{List, [], ◌∷◌, ◌++◌}
use native.Mathlib.Nat.{not-suc-le-zero, le_of_suc-le-suc}
use native.Mathlib.Numerals.{add-one}
use native.Mathlib.Omega.{arith}
use lib.Dec.{T, T_not, eqb, ltb, eqb→eq}
use lib.ListN.{get_or, length, take, drop, get_or-append}
use lib.Seq.{take_at}
use borrow.Author.Tests.{eqb-true, eqb-false, eq-eqb, ltb-true, ltb-false}
use Rattle.masks.specs.Mask.{width}
use Rattle.masks.specs.Numbers.{least}
use Rattle.masks.proofs.Numbers.{least-lowest, least-none}
use Rattle.masks.proofs.Tests.{and_i, and_l, and_r, along}
use Rattle.steps.specs.Steps.{no_step}
use Rattle.steps.specs.declared.Step.{Step}
use Rattle.table.specs.Outcome.{accepted, answered}
use Rattle.text.proofs.Readers.{same-value}
use Rattle.terms.specs.Completions.{status}
use Rattle.terms.specs.Term.{IsTerm}
use Rattle.terms.specs.declared.Term.{Term}
use Rattle.terms.proofs.Completions.{satisfied-e, satisfied-i, falsified-e, falsified-i, status-le}
use Rattle.states.specs.declared.State.{State}
use Rattle.states.proofs.Made.{states-read}
use Rattle.circuits.specs.Check.{check}
use Rattle.circuits.proofs.Accepted.{accepted-e, variables-wide}
use Rattle.queries.specs.Queries.{circuit}
use Rattle.listing.specs.Listing.{list_table, ListOut}
use Rattle.walk.specs.Known.{act_state, state_after, known}
use Rattle.walk.specs.Walk.{compatible, after_each, allowed_from, settled, walk_listed, walk_table, WalkLent, WalkOut}
use Rattle.walk.proofs.Entries.{after-length, after-at}
use Rattle.walk.proofs.Forbidden.{forbidden-exactly}
use Rattle.walk.proofs.Known.{known-IsTerm}
use Rattle.demands.specs.Demands.{KnownAfter, StepJudged, AllowedFrom, Names, Walked}
use Rattle.demands.proofs.Walking.{walk-done}

-- ---- what is known of a variable x
module _ (x : ℕ) where
  -- no step from i on names x
  abbrev NoneFrom : ℕ → List Step → Type 0
  NoneFrom i es = (j : ℕ) → i ≤ j → j < length es → (get_or es j no_step).variable ≢ x

  abbrev NoneNames : List Step → Type 0
  NoneNames es = (j : ℕ) → j < length es → (get_or es j no_step).variable ≢ x

  -- from the state s the steps lead to the state r: that of the last step that names x, or s
  abbrev Leads : List Step → State → State → Type 0
  Leads es s r =
      ((i : ℕ) × (i < length es) × ((get_or es i no_step).variable ≡ x) × (act_state (get_or es i no_step).act ≡ r) × NoneFrom (suc i) es)
      ⊎ ((r ≡ s) × NoneNames es)

  -- one more step in front
  module _ (e : Step) (es : List Step) where
    none_from : (i : ℕ) → NoneFrom i es → NoneFrom (suc i) (e ∷ es)
    none_from i none zero h k = absurd (not-suc-le-zero h)
    none_from i none (suc j) h k = none j (le_of_suc-le-suc h) (le_of_suc-le-suc k)

    none-names : e.variable ≢ x → NoneNames es → NoneNames (e ∷ es)
    none-names d none zero k = d
    none-names d none (suc j) k = none j (le_of_suc-le-suc k)

    leads-more : (s r : State) (b : Bool) → eqb e.variable x ≡ b → Leads es (cond b (act_state e.act) s) r → Leads (e ∷ es) s r
    leads-more s r b d (inl (i, l, v, a, later)) = inl (suc i, omega arith, v, a, none_from (suc i) later)
    leads-more s r true d (inr (a, none)) =
        inl (0, omega arith, eqb-true e.variable x d, sym a, none_from 0 (λ j h. none j))
    leads-more s r false d (inr (a, none)) = inr (a, none-names (eqb-false e.variable x d) none)

  leads : (es : List Step) (s : State) → Leads es s (state_after x s es)
  leads [] s = inr (refl, λ j l. absurd (not-suc-le-zero l))
  leads (e ∷ es) s =
      let next : State = cond (eqb e.variable x) (act_state e.act) s in
      leads-more e es s (state_after x next es) (eqb e.variable x) refl (leads es next)

known-after : (N : ℕ) (es : List Step) → KnownAfter N es (known N es)
unfolding known
known-after N es =
    record {
      is_term = known-IsTerm N es;
      each = λ x l. (state_after x State.Absent es, states-read (λ x. state_after x State.Absent es) N x l, leads x es State.Absent);
    }

step-judged : (N : ℕ) → N ≤ width → (f : ℕ → Bool) (u : Term) → IsTerm N u → StepJudged N f u (status N f u) (compatible N f u)
unfolding compatible
step-judged N wide f u h =
    record {
      satisfied = (satisfied-e N u h f, satisfied-i N u h f);
      falsified = (falsified-e N u h f, falsified-i N u h f);
      range = status-le N u h f;
      number = refl;
      none = forbidden-exactly N wide f u h;
    }

-- ---- the step named
allowed-e : (l : List ℕ) (k : ℕ) → T (allowed_from l k) → AllowedFrom l k
allowed-e [] k h j le lt = absurd (not-suc-le-zero lt)
allowed-e (a ∷ l) zero h zero le lt = eqb→eq a 2 (and_l (eqb a 2) (allowed_from l 0) h)
allowed-e (a ∷ l) zero h (suc j) le lt = allowed-e l 0 (and_r (eqb a 2) (allowed_from l 0) h) j (omega arith) (le_of_suc-le-suc lt)
allowed-e (a ∷ l) (suc k) h zero le lt = absurd (not-suc-le-zero le)
allowed-e (a ∷ l) (suc k) h (suc j) le lt = allowed-e l k h j (le_of_suc-le-suc le) (le_of_suc-le-suc lt)

allowed-i : (l : List ℕ) (k : ℕ) → AllowedFrom l k → T (allowed_from l k)
allowed-i [] zero h = tt
allowed-i [] (suc k) h = tt
allowed-i (a ∷ l) zero h =
    let e : a ≡ 2 = h 0 (omega arith) (omega arith) in
    and_i (eqb a 2) (allowed_from l 0) (along (sym (eq-eqb a 2 e)) tt) (allowed-i l 0 (λ j le lt. h (suc j) (omega arith) (omega arith)))
allowed-i (a ∷ l) (suc k) h = allowed-i l k (λ j le lt. h (suc j) (omega arith) (omega arith))

settled-names : (l : List ℕ) → Names l (settled l)
unfolding settled
settled-names l = by (ltb first (length l)) refl
  where
    first : ℕ
    first = least (length l) (allowed_from l)

    by : (b : Bool) → ltb first (length l) ≡ b → Names l (cond b (1, first) (0, 0))
    by true e =
        let inside : first < length l = ltb-true first (length l) e in
        let (passes, lower) = least-lowest (length l) (allowed_from l) inside in
        inl (refl, inside, allowed-e l first passes, λ i lt h. T_not (allowed_from l i) (lower i lt) (allowed-i l i h))
    by false e =
        let none = least-none (length l) (allowed_from l) (ltb-false first (length l) e) in
        inr (refl, refl, λ i lt h. T_not (allowed_from l i) (none i lt) (allowed-i l i h))

-- ---- the walk
module _ (m : List ℕ) (N n : ℕ) (w : List ℕ) (R : ℕ) (es : List Step) (b : WalkLent) (v : ℕ × ℕ) where
  abbrev f : ℕ → Bool
  f = circuit n w

  abbrev out : WalkOut
  out = walk_table m N n w R es b

  abbrev list : ListOut
  list = list_table true m N n w R b.rows

  abbrev statuses : List ℕ
  statuses = after_each N (status N f) es

  -- entry k of the buffer s, which begins with what g says after each step
  entry : (g : Term → ℕ) (s rest : List ℕ) → s ≡ after_each N g es ++ rest → (k : ℕ) → k < length es
      → get_or s k 0 ≡ g (known N (take (k + 1) es))
  entry g s rest e k l =
      ap (λ (z : List ℕ). get_or z k 0) e ∙ get_or-append (after_each N g es) rest 0 k (omega (arith, after-length N g es))
      ∙ after-at N g es k l
      ∙ ap (λ (j : ℕ). g (known N (take j es))) (sym (add-one k))

  module _ (acc : check N n w ≡ accepted) (h : out.answer ≡ answered v) where
    is : out ≡ walk_listed N f es b list.after accepted
    is = (walk-done m N n w R es b v h).1

    judged : (k : ℕ) → k < length es → let u : Term = known N (take (k + 1) es) in
        StepJudged N f u (get_or out.after.statuses k 0) (get_or out.after.compatibles k 0)
    judged k l =
        let u : Term = known N (take (k + 1) es) in
        let ss : List ℕ = out.after.statuses in
        let cs : List ℕ = out.after.compatibles in
        let s : get_or ss k 0 ≡ status N f u =
        entry (status N f) ss (drop (length es) b.statuses) (ap (λ (o : WalkOut). o.after.statuses) is) k l in
        let c : get_or cs k 0 ≡ compatible N f u =
        entry (compatible N f) cs (drop (length es) b.compatibles) (ap (λ (o : WalkOut). o.after.compatibles) is) k l in
        subst₂ (StepJudged N f u) (sym s) (sym c)
        (step-judged N (variables-wide (accepted-e N n w acc)) f u (known-IsTerm N (take (k + 1) es)))

    names : Names (take (length es) out.after.statuses) v
    names =
        let front : take (length es) out.after.statuses ≡ statuses =
        ap (λ (o : WalkOut). take (length es) o.after.statuses) is
        ∙ take_at statuses (drop (length es) b.statuses) (length es) (after-length N (status N f) es) in
        let named : settled statuses ≡ v = same-value (settled statuses) v (sym (ap (λ (o : WalkOut). o.answer) is) ∙ h) in
        subst₂ Names (sym front) named (settled-names statuses)

    pub walked : Walked m N n w R es b v
    walked =
        record {
          listed = (walk-done m N n w R es b v h).0;
          rows = ap (λ (o : WalkOut). o.after.rows) is;
          steps = λ k l. (known N (take (k + 1) es), known-after N (take (k + 1) es), judged k l);
          names = names;
        }
