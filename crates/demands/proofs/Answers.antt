-- Laws of what an operation may answer, and where the check of a table and a question to it may be refused.
use Prim.Native.Nat.{ℕ}
use mathlib.Core.Path.{◌≡◌, refl, sym, ◌∙◌}
use mathlib.Core.Bool.{Bool, true, false, cond}
use mathlib.Core.Logic.{inl, inr, ◌≢◌}
use mathlib.Core.List.{List, [], ◌∷◌, ◌++◌, map}
use lib.Dec.{ltb, ltb→lt}
use Rattle.masks.specs.Numbers.{least}
use Rattle.masks.proofs.Tests.{along}
use Rattle.table.specs.Outcome.{accepted, after, Outcome, answered, refused}
use Rattle.table.specs.Words.{in_range, first_fault, check_by}
use Rattle.circuits.specs.Check.{rules, check}
use Rattle.demands.specs.Demands.{At, Below, Refusals, Among, Answers, table_refusals}

-- ---- more refusals may be allowed
pub among-left : (rs qs : Refusals) (k p : ℕ) → Among rs k p → Among (rs ++ qs) k p
among-left [] qs k p h = absurd h
among-left (r ∷ rs) qs k p (inl e) = inl e
among-left (r ∷ rs) qs k p (inr h) = inr (among-left rs qs k p h)

among-right : (rs qs : Refusals) (k p : ℕ) → Among qs k p → Among (rs ++ qs) k p
among-right [] qs k p h = h
among-right (r ∷ rs) qs k p h = inr (among-right rs qs k p h)

-- also between others
pub among-between : (rs ps qs : Refusals) (k p : ℕ) → Among (rs ++ qs) k p → Among (rs ++ (ps ++ qs)) k p
among-between [] ps qs k p h = among-right ps qs k p h
among-between (r ∷ rs) ps qs k p (inl e) = inl e
among-between (r ∷ rs) ps qs k p (inr h) = inr (among-between rs ps qs k p h)

pub answers-right : {A : Type 0} (rs qs : Refusals) (o : Outcome A) → Answers qs o → Answers (rs ++ qs) o
answers-right rs qs (answered v) h = tt
answers-right rs qs (refused k p) h = among-right rs qs k p h

-- ---- none of these refusals has the number j
abbrev pub Without : ℕ → Refusals → Type 0
Without j [] = Unit {0}
Without j (r ∷ rs) = (r.0 ≢ j) × Without j rs

pub among-other : (j : ℕ) (rs : Refusals) (k p : ℕ) → Without j rs → Among rs k p → k ≢ j
among-other j [] k p none h = absurd h
among-other j (r ∷ rs) k p (d, none) (inl (e, i)) = λ c. d (sym e ∙ c)
among-other j (r ∷ rs) k p (d, none) (inr h) = among-other j rs k p none h

-- ---- a test that refuses by k, before what is refused by qs
pub answers-test : {A : Type 0} (b : Bool) (k : ℕ) (qs : Refusals) (o : Outcome A) → Answers qs o
    → Answers ((k, At 0) ∷ qs) (cond b o (refused k 0))
answers-test true k qs o h = answers-right ((k, At 0) ∷ []) qs o h
answers-test false k qs o h = inl (refl, refl)

-- ---- what comes after the check of a table
pub answers-after : {A : Type 0} (rs qs : Refusals) (c : Outcome (Unit {0})) (o : Outcome A) → Answers rs c → Answers qs o
    → Answers (rs ++ qs) (after c o)
answers-after rs qs (answered u) o h g = answers-right rs qs o g
answers-after rs qs (refused k p) o h g = among-left rs qs k p h

-- ---- the check
-- the refusals of some rules for the nodes below n
abbrev pub rule_refusals : ℕ → List (ℕ × (ℕ → Bool)) → Refusals
rule_refusals n rs = map (λ r. (r.0, Below n)) rs

-- the first fault stands at a node below n
fault-answers : (n : ℕ) (rs : List (ℕ × (ℕ → Bool))) → Answers (rule_refusals n rs) (first_fault n rs)
fault-answers n [] = tt
fault-answers n (r ∷ rs) = by (ltb (least n r.1) n) refl (fault-answers n rs)
  where
    by : (b : Bool) → ltb (least n r.1) n ≡ b → Answers (rule_refusals n rs) (first_fault n rs)
        → Answers (rule_refusals n (r ∷ rs)) (cond b (refused r.0 (least n r.1)) (first_fault n rs))
    by true e h = inl (refl, ltb→lt (least n r.1) n (along (sym e) tt))
    by false e h = answers-right ((r.0, Below n) ∷ []) (rule_refusals n rs) (first_fault n rs) h

pub check-by-answers : (N n : ℕ) (w : List ℕ) (rs : List (ℕ × (ℕ → Bool)))
    → Answers ((21, At 0) ∷ rule_refusals n rs) (check_by N n w rs)
check-by-answers N n w rs = answers-test (in_range N n w) 21 (rule_refusals n rs) (first_fault n rs) (fault-answers n rs)

pub check-answers : (N n : ℕ) (w : List ℕ) → Answers (table_refusals n) (check N n w)
unfolding check
check-answers N n w = check-by-answers N n w (rules N n w)

-- a question to a table
pub question-answers : {A : Type 0} (N n : ℕ) (w : List ℕ) (qs : Refusals) (o : Outcome A) → Answers qs o
    → Answers (table_refusals n ++ qs) (after (check N n w) o)
question-answers N n w qs o h = answers-after (table_refusals n) qs (check N n w) o (check-answers N n w) h

-- a question after a test b of its argument, which refuses by k
pub tested-answers : {A : Type 0} (N n : ℕ) (w : List ℕ) (b : Bool) (k : ℕ) (qs : Refusals) (o : Outcome A) → Answers qs o
    → Answers (table_refusals n ++ ((k, At 0) ∷ qs)) (after (after (check N n w) (cond b accepted (refused k 0))) o)
tested-answers N n w b k qs o h = by b (check N n w) (check-answers N n w)
  where
    by : (b : Bool) (c : Outcome (Unit {0})) → Answers (table_refusals n) c
        → Answers (table_refusals n ++ ((k, At 0) ∷ qs)) (after (after c (cond b accepted (refused k 0))) o)
    by true (answered u) g = answers-right (table_refusals n) ((k, At 0) ∷ qs) o (answers-right ((k, At 0) ∷ []) qs o h)
    by false (answered u) g = among-right (table_refusals n) ((k, At 0) ∷ qs) k 0 (inl (refl, refl))
    by b (refused j p) g = among-left (table_refusals n) ((k, At 0) ∷ qs) j p g
