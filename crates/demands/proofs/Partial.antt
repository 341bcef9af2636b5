-- Partial assignments: where they may be refused, and what the judgement says.
use Prim.Native.Nat.{ℕ, ◌<◌}
use mathlib.Core.Path.{◌≡◌, refl, sym, subst, ◌∙◌}
use mathlib.Core.Bool.{Bool, true, false, not, cond}
use mathlib.Core.Logic.{inl}
use mathlib.Core.List.{List, [], ◌∷◌, ◌++◌}
use native.Mathlib.Nat.{le_refl}
use lib.Dec.{T, ltb, ltb→lt}
use Rattle.masks.specs.Numbers.{least, Lowest}
use Rattle.masks.proofs.Numbers.{least-lowest}
use Rattle.masks.proofs.Tests.{along}
use Rattle.table.specs.Outcome.{accepted, after, Outcome, answered, refused}
use Rattle.table.proofs.Outcomes.{after-accepted}
use Rattle.terms.specs.Completions.{models_under, status}
use Rattle.terms.specs.Term.{variables, is_term, IsTerm}
use Rattle.terms.specs.declared.Term.{Term}
use Rattle.terms.proofs.Completions.{completions-sum, satisfied-e, satisfied-i, falsified-e, falsified-i, status-le, no-false-e, no-false-i}
use Rattle.terms.proofs.Completions.{no-true-e, no-true-i}
use Rattle.terms.proofs.Terms.{is_term-i}
use Rattle.measurements.specs.Measurement.{entries, wrong, measured_term, check_measurements, Measurements}
use Rattle.measurements.proofs.Literals.{measured-IsTerm, measured-kept, measured-added, measured-only}
use Rattle.measurements.proofs.Right.{right-e, few-right, right-passed, Right}
use Rattle.circuits.specs.Check.{check}
use Rattle.checks.specs.Arguments.{check_term}
use Rattle.checks.proofs.Arguments.{term-i}
use Rattle.queries.specs.Queries.{circuit}
use Rattle.partial.specs.Partial.{judgement, partial_evaluation}
use Rattle.demands.specs.Demands.{At, Answers, table_refusals, WrongAt, Adds, Judged, JudgedWith}
use Rattle.demands.proofs.Answers.{answers-after, tested-answers}

module _ (N : ℕ) (t : Term) (m : Measurements) where
  abbrev bad : ℕ → Bool
  bad = wrong N (variables t) m

  abbrev first : ℕ
  first = least (entries m) bad

  -- 53 stands at the lowest wrong measurement
  at_first : first < entries m → WrongAt N t m first
  at_first l =
      let lowest : Lowest bad first = least-lowest (entries m) bad l in
      (lowest, few-right N (variables t) m first (λ i k. right-e N (variables t) m i (lowest.1 i k)))

  test-answers : Answers ((53, WrongAt N t m) ∷ []) (check_measurements N t m)
  unfolding check_measurements
  test-answers = by (ltb first (entries m)) refl
    where
      by : (b : Bool) → ltb first (entries m) ≡ b → Answers ((53, WrongAt N t m) ∷ []) (cond b (refused 53 first) accepted)
      by true e = inl (refl, at_first (ltb→lt first (entries m) (along (sym e) tt)))
      by false e = tt

  pub partial-answers : (n : ℕ) (w : List ℕ)
      → Answers (table_refusals n ++ ((32, At 0) ∷ (53, WrongAt N t m) ∷ [])) (partial_evaluation N n w t m)
  unfolding partial_evaluation check_term
  partial-answers n w =
      let last : Outcome (ℕ × (ℕ × ℕ)) = answered (judgement N (circuit n w) (measured_term t m (entries m))) in
      tested-answers N n w (is_term N t) 32 ((53, WrongAt N t m) ∷ []) (after (check_measurements N t m) last)
      (answers-after ((53, WrongAt N t m) ∷ []) [] (check_measurements N t m) last test-answers tt)

  module _ (h : IsTerm N t) (none : (i : ℕ) → i < entries m → T (not (bad i))) where
    passed : check_measurements N t m ≡ accepted
    passed = right-passed N t m none

    right : (i : ℕ) → i < entries m → Right N (variables t) m i
    right i l = right-e N (variables t) m i (none i l)

    abbrev known : Term
    known = measured_term t m (entries m)

    known-IsTerm : IsTerm N known
    known-IsTerm = measured-IsTerm t m N (entries m) right h (entries m) (le_refl (entries m))

    adds : Adds N t m known
    adds =
        record {
          is_term = known-IsTerm;
          kept = λ b x k. measured-kept t m N (entries m) right b x k (entries m) (le_refl (entries m));
          added = λ i b l k. measured-added t m N (entries m) right i b k (entries m) l (le_refl (entries m));
          only = λ b x k. measured-only t m N (entries m) right b x (entries m) (le_refl (entries m)) k;
        }

    judged : (f : ℕ → Bool) → Judged N f known (status N f known) (models_under N f known) (models_under N (λ s. not (f s)) known)
    unfolding models_under
    judged f =
        record {
          satisfied = (satisfied-e N known known-IsTerm f, satisfied-i N known known-IsTerm f);
          falsified = (falsified-e N known known-IsTerm f, falsified-i N known known-IsTerm f);
          range = status-le N known known-IsTerm f;
          no_false = (no-false-e N known known-IsTerm f, no-false-i N known known-IsTerm f);
          no_true = (no-true-e N known known-IsTerm f, no-true-i N known known-IsTerm f);
          trues = refl;
          falses = refl;
          sum = completions-sum N known known-IsTerm f;
        }

    pub partial-judged : (n : ℕ) (w : List ℕ) → check N n w ≡ accepted → JudgedWith N (circuit n w) t m (partial_evaluation N n w t m)
    unfolding partial_evaluation judgement
    partial-judged n w acc =
        let f : ℕ → Bool = circuit n w in
        let last : Outcome (ℕ × (ℕ × ℕ)) = answered (judgement N f known) in
        subst (JudgedWith N f t m)
        (after-accepted passed last
        ∙ after-accepted (term-i N n w t acc (is_term-i N t h)) (after (check_measurements N t m) last))
        (known, adds, judged f)
