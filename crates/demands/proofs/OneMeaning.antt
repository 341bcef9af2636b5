-- Demand 2: one meaning.
use Prim.Native.Nat.{ℕ, ◌^◌, ◌<◌}
use mathlib.Core.Path.{◌≡◌, sym, ap, subst, ◌∙◌}
use mathlib.Core.Bool.{Bool, true, false, not, cond}
use mathlib.Core.List.{List}
use lib.Dec.{T, lt→ltb}
use Rattle.masks.specs.Numbers.{count}
use Rattle.masks.proofs.Tests.{is_true, is_false}
use Rattle.table.specs.Outcome.{accepted, Outcome, answered, refused}
use Rattle.table.proofs.Outcomes.{after-accepted}
use Rattle.text.proofs.Determined.{reading-is, reading-only}
use Rattle.text_assignment.proofs.Lines.{line-reading-is, line-reading-only}
use Rattle.text_script.proofs.Lines.{script-reading-is, script-reading-only}
use Rattle.text.proofs.Ordered.{tree-ordered}
use Rattle.text.proofs.RoundTrip.{writes, written_read}
use Rattle.terms.specs.Prime.{implicant, prime, assignment_term, reduce, Implicant, Prime}
use Rattle.terms.specs.Term.{IsTerm}
use Rattle.terms.specs.declared.Term.{Term}
use Rattle.terms.proofs.Implicants.{implicant-e, implicant-i, prime-e, prime-i}
use Rattle.terms.proofs.Struck.{reduction-prime}
use Rattle.terms.proofs.Terms.{is_term-i}
use Rattle.circuits.specs.Check.{check}
use Rattle.circuits.proofs.Accepted.{accepted-e}
use Rattle.circuits.proofs.Tables.{function_of}
use Rattle.checks.specs.Arguments.{check_assignment, check_term}
use Rattle.checks.proofs.Arguments.{assignment-i, term-i}
use Rattle.queries.specs.Queries.{circuit, evaluation, model_count, implicant_test, prime_test, reduction}
use Rattle.demands.specs.Demands.{Decides, ReducedTo, Means, OneMeaning}
use Rattle.demands.proofs.Partial.{partial-judged}
use Rattle.demands.proofs.Walked.{walked}
use Rattle.demands.proofs.Walking.{walks}

module _ (N n : ℕ) (w : List ℕ) (acc : check N n w ≡ accepted) where
  models : model_count N n w ≡ answered (count (2 ^ N) (circuit n w))
  unfolding model_count
  models = sym (after-accepted acc (answered (count (2 ^ N) (circuit n w))))

  module _ (t : Term) (h : IsTerm N t) where
    fits : check_term N n w t ≡ accepted
    fits = term-i N n w t acc (is_term-i N t h)

    implies : Decides (implicant_test N n w t) (Implicant N (circuit n w) t)
    unfolding implicant_test
    implies =
        subst (λ (o : Outcome Bool). Decides o (Implicant N (circuit n w) t)) (after-accepted fits (answered (implicant N (circuit n w) t)))
        (implicant-e N (circuit n w) t, implicant-i N (circuit n w) t h)

    primes : Decides (prime_test N n w t) (Prime N (circuit n w) t)
    unfolding prime_test
    primes =
        subst (λ (o : Outcome Bool). Decides o (Prime N (circuit n w) t)) (after-accepted fits (answered (prime N (circuit n w) t)))
        (prime-e N (circuit n w) t, prime-i N (circuit n w) t)

  module _ (s : ℕ) (l : s < 2 ^ N) where
    inside : check_assignment N n w s ≡ accepted
    inside = assignment-i N n w s acc (lt→ltb s (2 ^ N) l)

    verdict : evaluation N n w s ≡ answered (circuit n w s)
    unfolding evaluation
    verdict = sym (after-accepted inside (answered (circuit n w s)))

    left : Term
    left = reduce N (circuit n w) (assignment_term s N) N

    reduction-is : (b : Bool) → circuit n w s ≡ b → reduction N n w s ≡ cond b (answered left) (refused 33 0)
    unfolding reduction left
    reduction-is b e =
        sym (after-accepted inside (cond (circuit n w s) (answered left) (refused 33 0)))
        ∙ ap (λ (c : Bool). cond c (answered left) (refused 33 0)) e

    reduced : T (circuit n w s) → ReducedTo N (circuit n w) s (reduction N n w s)
    unfolding left
    reduced h =
        subst (ReducedTo N (circuit n w) s) (sym (reduction-is true (is_true (circuit n w s) h)))
        (reduction-prime N (circuit n w) s l h)

    unsatisfied : T (not (circuit n w s)) → reduction N n w s ≡ refused 33 0
    unsatisfied h = reduction-is false (is_false (circuit n w s) h)

  means : Means N n w
  means =
      record {
        functions = λ i s l. function_of N n w (accepted-e N n w acc).well i l s;
        verdict = verdict;
        models = models;
        implies = implies;
        prime = primes;
        reduced = reduced;
        unsatisfied = unsatisfied;
        partial = λ t m h none. partial-judged N t m h none n w acc;
        walks = λ m R es b. walks m N n w R es b acc;
        walk = λ m R es b v h. walked m N n w R es b v acc h;
      }

pub one-meaning : OneMeaning
one-meaning =
    record {
      circuits = means;
      read = reading-is;
      read_only = reading-only;
      ordered = tree-ordered;
      line = line-reading-is;
      line-only = line-reading-only;
      script = script-reading-is;
      script-only = script-reading-only;
      writes = writes;
      written_read = written_read;
    }
