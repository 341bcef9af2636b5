-- Demand 1: every operation takes any input.
use Prim.Native.Nat.{ℕ, ◌^◌}
use mathlib.Core.Path.{ap}
use mathlib.Core.Bool.{cond}
use mathlib.Core.List.{List, [], ◌∷◌, ◌++◌}
use Rattle.masks.specs.Mask.{within}
use Rattle.masks.specs.Numbers.{count}
use Rattle.table.specs.Outcome.{answered, refused}
use Rattle.text_assignment.specs.Answers.{answered_mask}
use Rattle.terms.specs.Prime.{implicant, prime, assignment_term, reduce}
use Rattle.terms.specs.Term.{is_term}
use Rattle.terms.specs.declared.Term.{Term}
use Rattle.checks.specs.Arguments.{check_assignment, check_term}
use Rattle.queries.specs.Queries.{circuit, evaluation, model_count, implicant_test, prime_test, reduction}
use Rattle.demands.specs.Demands.{At, Answers, table_refusals, AnyInput}
use Rattle.demands.proofs.Answers.{answers-test, check-answers, question-answers, tested-answers}
use Rattle.demands.proofs.Filtering.{filter-answers, filter-unweighed, filter-weighed, filter-unpaired, filter-paired, filter-kept}
use Rattle.demands.proofs.Filtering.{filter-zeroed, filter-nodes, filter-rest}
use Rattle.demands.proofs.Listing.{list-answers, list-unweighed, list-weighed, list-kept, list-zeroed, list-rest}
use Rattle.demands.proofs.Listing.{view-part, view-none}
use Rattle.demands.proofs.Partial.{partial-answers}
use Rattle.demands.proofs.Reading.{read-answers, read-zeros, line-answers}
use Rattle.demands.proofs.Scripts.{script-answers, script-kept, script-rest}
use Rattle.demands.proofs.Unread.{same-answers}
use Rattle.demands.proofs.Walking.{walk-answers, walk_kept, walk-lack, walk-rest}
use Rattle.demands.proofs.Writing.{write-answers, write-needed, write_kept, write-rest}

reduce-answers : (N n : ℕ) (w : List ℕ) (s : ℕ) → Answers (table_refusals n ++ ((31, At 0) ∷ (33, At 0) ∷ [])) (reduction N n w s)
unfolding reduction check_assignment
reduce-answers N n w s =
    let t : Term = reduce N (circuit n w) (assignment_term s N) N in
    tested-answers N n w (within N s) 31 ((33, At 0) ∷ []) (cond (circuit n w s) (answered t) (refused 33 0))
    (answers-test (circuit n w s) 33 [] (answered t) tt)

pub any-input : AnyInput
unfolding evaluation model_count implicant_test prime_test check_assignment check_term
any-input =
    record {
      read = read-answers;
      read-refused = read-zeros;
      write = write-answers;
      write-short = write-needed;
      write-refused = write_kept;
      write-past = write-rest;
      check = check-answers;
      evaluate = λ N n w s. tested-answers N n w (within N s) 31 [] (answered (circuit n w s)) tt;
      count = λ N n w. question-answers N n w [] (answered (count (2 ^ N) (circuit n w))) tt;
      implies = λ N n w t. tested-answers N n w (is_term N t) 32 [] (answered (implicant N (circuit n w) t)) tt;
      prime = λ N n w t. tested-answers N n w (is_term N t) 32 [] (answered (prime N (circuit n w) t)) tt;
      reduce = reduce-answers;
      partial = λ N n w t m. partial-answers N t m n w;
      list = list-answers;
      list-unweighed = list-unweighed;
      list-weighed = list-weighed;
      list-refused = list-kept;
      list-lack = list-zeroed;
      list-past = list-rest;
      filter = filter-answers;
      filter-unweighed = filter-unweighed;
      filter-weighed = filter-weighed;
      filter-unpaired = filter-unpaired;
      filter-paired = filter-paired;
      filter-refused = filter-kept;
      filter-lack = filter-zeroed;
      filter-nodes = filter-nodes;
      filter-past = filter-rest;
      view = view-part;
      view-empty = view-none;
      line = line-answers;
      line_refused = λ s N k p h. ap answered_mask h;
      script = script-answers;
      script-refused = script-kept;
      script-past = script-rest;
      walk = walk-answers;
      walk_refused = walk_kept;
      walk-lack = walk-lack;
      walk-past = walk-rest;
      unread = same-answers;
    }
