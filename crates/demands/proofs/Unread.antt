-- Words past those of the nodes are not read by any operation.
use mathlib.Core.Path.{sym, ◌≡◌, refl, ap, ap₂, ◌∙◌}
use Prim.Native.Nat.{ℕ, pred, ◌^◌, ◌*◌, ◌<◌, ◌≤◌}
use mathlib.Core.Bool.{Bool, true, false, cond}
use mathlib.Core.List.{List, [], ◌∷◌, ◌++◌, map, flat_map, Memᴰ}
use lib.Dec.{ltb}
use lib.ListN.{length, drop}
use Rattle.masks.specs.Mask.{within}
use Rattle.masks.specs.Numbers.{count, below}
use Rattle.masks.proofs.Numbers.{below_out}
use Rattle.steps.specs.declared.Step.{Step}
use Rattle.table.specs.Layout.{words_for}
use Rattle.table.specs.Node.{node_at}
use Rattle.table.specs.Outcome.{accepted, after, Outcome, answered, refused}
use Rattle.table.specs.Words.{malformed, check_words}
use Rattle.table.proofs.Outcomes.{after-after}
use Rattle.text.specs.Syntax.{print, Form}
use Rattle.text.specs.Write.{node_form, table_text, write_checked, write_table}
use Rattle.terms.specs.Lists.{keep}
use Rattle.terms.specs.Prime.{implicant, prime, primes, assignment_term, reduce}
use Rattle.terms.specs.Term.{is_term, mask}
use Rattle.terms.specs.declared.Term.{Term}
use Rattle.measurements.specs.Measurement.{entries, measured_term, check_measurements, Measurements}
use Rattle.weighing.specs.Weights.{fitting}
use Rattle.exclusions.specs.Exclusions.{proper, respects, Exclusions}
use Rattle.circuits.specs.Check.{check}
use Rattle.circuits.specs.Function.{function, signed, signed_function}
use Rattle.circuits.proofs.Accepted.{accepted-e, last-below}
use Rattle.circuits.proofs.Unread.{fault-same, node-same, function-same, malformed-same, range_same, check-same, with_rest, rest-long}
use Rattle.circuits.proofs.Unread.{rest-same, SameNodes}
use Rattle.checks.specs.Arguments.{check_assignment, check_term}
use Rattle.queries.specs.Queries.{circuit, evaluation, model_count, implicant_test, prime_test, reduction}
use Rattle.partial.specs.Partial.{judgement, partial_evaluation}
use Rattle.listing.specs.Listing.{lent, Lent, node_primes, padded, listed_masks, listed_counts, suffices, exceeds, cleared}
use Rattle.listing.specs.Listing.{filled, list_checked, list_table, ListOut}
use Rattle.listing.specs.Guarded.{after_tests}
use Rattle.filtered.specs.Filtered.{shown_primes, filtered_lent, suffices_all, cleared_all, filled_all, filtered_checked, filtered_table}
use Rattle.filtered.specs.Filtered.{FilteredLent, FilteredOut}
use Rattle.walk.specs.Walk.{check_steps, walk_listed, steps_fit, walk_checked, walk_table, WalkLent}
use Rattle.demands.specs.Demands.{SameAnswers}

map-local : {A B : Type 0} (f g : A → B) (l : List A) → ((a : A) → Memᴰ a l → f a ≡ g a) → map f l ≡ map g l
map-local f g [] h = refl
map-local f g (x ∷ l) h = ap₂ ◌∷◌ (h x (Memᴰ.head refl)) (map-local f g l (λ a m. h a (Memᴰ.tail m)))

flat_map-local : {A B : Type 0} (f g : A → List B) (l : List A) → ((a : A) → Memᴰ a l → f a ≡ g a) → flat_map f l ≡ flat_map g l
unfolding flat_map
flat_map-local f g [] h = refl
flat_map-local f g (x ∷ l) h = ap₂ ◌++◌ (h x (Memᴰ.head refl)) (flat_map-local f g l (λ a m. h a (Memᴰ.tail m)))

module _ (N n : ℕ) (w v : List ℕ) (long : words_for n ≤ length w) where
  -- the table with other words after those of its nodes
  abbrev w' : List ℕ
  w' = with_rest n w v

  same : SameNodes n w w'
  same = rest-same n w v long

  long' : words_for n ≤ length w'
  long' = rest-long n w v long

  check-unread : check N n w' ≡ check N n w
  check-unread = check-same n w w' same N long long'

  node-there : check N n w ≡ accepted → pred n < n
  node-there acc = last-below (accepted-e N n w acc)

  -- ---- the questions: q asks something about the circuit's function
  question-unread : {A : Type 0} (q : (ℕ → Bool) → Outcome A)
      → after (check N n w') (q (circuit n w')) ≡ after (check N n w) (q (circuit n w))
  question-unread q = ap (λ (c : Outcome (Unit {0})). after c (q (circuit n w'))) check-unread ∙ by (check N n w) refl
    where
      by : (c : Outcome (Unit {0})) → check N n w ≡ c → after c (q (circuit n w')) ≡ after c (q (circuit n w))
      by (answered u) acc = ap q (function-same n w w' same (pred n) (node-there acc))
      by (refused k i) e = refl

  -- the same after a test t of the argument
  tested-unread : {A : Type 0} (t : Outcome (Unit {0})) (q : (ℕ → Bool) → Outcome A)
      → after (after (check N n w') t) (q (circuit n w')) ≡ after (after (check N n w) t) (q (circuit n w))
  tested-unread t q =
      after-after (check N n w') t (q (circuit n w')) ∙ question-unread (λ f. after t (q f))
      ∙ sym (after-after (check N n w) t (q (circuit n w)))

  evaluate-unread : (s : ℕ) → evaluation N n w' s ≡ evaluation N n w s
  unfolding evaluation check_assignment
  evaluate-unread s = tested-unread (cond (within N s) accepted (refused 31 0)) (λ f. answered (f s))

  count-unread : model_count N n w' ≡ model_count N n w
  unfolding model_count
  count-unread = question-unread (λ f. answered (count (2 ^ N) f))

  implies-unread : (t : Term) → implicant_test N n w' t ≡ implicant_test N n w t
  unfolding implicant_test check_term
  implies-unread t = tested-unread (cond (is_term N t) accepted (refused 32 0)) (λ f. answered (implicant N f t))

  prime-unread : (t : Term) → prime_test N n w' t ≡ prime_test N n w t
  unfolding prime_test check_term
  prime-unread t = tested-unread (cond (is_term N t) accepted (refused 32 0)) (λ f. answered (prime N f t))

  reduce-unread : (s : ℕ) → reduction N n w' s ≡ reduction N n w s
  unfolding reduction check_assignment
  reduce-unread s =
      tested-unread (cond (within N s) accepted (refused 31 0))
      (λ f. cond (f s) (answered (reduce N f (assignment_term s N) N)) (refused 33 0))

  partial-unread : (t : Term) (m : Measurements) → partial_evaluation N n w' t m ≡ partial_evaluation N n w t m
  unfolding partial_evaluation check_term
  partial-unread t m =
      tested-unread (cond (is_term N t) accepted (refused 32 0))
      (λ f. after (check_measurements N t m) (answered (judgement N f (measured_term t m (entries m)))))

  -- ---- the listing
  module _ (c : Bool) (m : List ℕ) where
    abbrev F : ℕ → ℕ → Bool
    F = signed_function c w

    abbrev F' : ℕ → ℕ → Bool
    F' = signed_function c w'

    primes-unread : (i : ℕ) → i < n → node_primes m N F' i ≡ node_primes m N F i
    primes-unread i l = ap (λ (f : ℕ → Bool). primes m N (λ s. signed c (f s))) (function-same n w w' same i l)

    exceeds-unread : (R : ℕ) → check N n w ≡ accepted → exceeds m N n F' R ≡ exceeds m N n F R
    unfolding exceeds
    exceeds-unread R acc = ap (λ (ts : List Term). ltb R (length ts)) (primes-unread (pred n) (node-there acc))

    masks-unread : (R : ℕ) (b : Bool) → listed_masks m N n F' R b ≡ listed_masks m N n F R b
    unfolding listed_masks
    masks-unread R b =
        flat_map-local (λ i. padded R (map (λ t. mask t b) (node_primes m N F' i))) (λ i. padded R (map (λ t. mask t b) (node_primes m N F i)))
        (below n)
        (λ i k. ap (λ (ts : List Term). padded R (map (λ t. mask t b) ts)) (primes-unread i (below_out n i k)))

    counts-unread : listed_counts m N n F' ≡ listed_counts m N n F
    unfolding listed_counts
    counts-unread =
        map-local (λ i. length (node_primes m N F' i)) (λ i. length (node_primes m N F i)) (below n)
        (λ i k. ap (λ (ts : List Term). length ts) (primes-unread i (below_out n i k)))

    module _ (R : ℕ) (b : Lent) where
      filled-unread : filled m N n F' R b ≡ filled m N n F R b
      filled-unread = λ j.
          record {
            answer = answered tt;
            after =
                lent (masks-unread R true j ++ drop (n * R) b.positives) (masks-unread R false j ++ drop (n * R) b.negatives)
                (counts-unread j ++ drop n b.counts);
          }

      list-unread : list_table c m N n w' R b ≡ list_table c m N n w R b
      unfolding list_table
      list-unread = ap (list_checked m N n F' R b) check-unread ∙ by (check N n w) refl
        where
          by : (o : Outcome (Unit {0})) → check N n w ≡ o → list_checked m N n F' R b o ≡ list_checked m N n F R b o
          by (answered u) acc =
              ap₂ (λ (x : Bool) (l : ListOut). after_tests ((suffices n R b, 41) ∷ (fitting N m, 56) ∷ []) b (cond x (cleared n R b) l))
              (exceeds-unread R acc) filled-unread
          by (refused k i) e = refl

  -- ---- the listing with a shown list
  module _ (m : List ℕ) (e : Exclusions) (R : ℕ) (b : FilteredLent) where
    shown-unread : check N n w ≡ accepted → shown_primes m e N n (function w') ≡ shown_primes m e N n (function w)
    unfolding shown_primes
    shown-unread acc = ap (keep (respects e)) (primes-unread true m (pred n) (node-there acc))

    filled-all-unread : check N n w ≡ accepted → filled_all m e N n (function w') R b ≡ filled_all m e N n (function w) R b
    filled-all-unread acc =
        ap₂ (λ (ts : List Term) (l : ListOut). shows ts l) (shown-unread acc) (filled-unread true m R b.nodes)
      where
        shows : List Term → ListOut → FilteredOut
        shows ts l =
            record {
              answer = answered (length ts);
              after =
                  filtered_lent l.after (padded R (map (λ t. mask t true) ts) ++ drop R b.positives)
                  (padded R (map (λ t. mask t false) ts) ++ drop R b.negatives);
            }

    filter-unread : filtered_table m e N n w' R b ≡ filtered_table m e N n w R b
    unfolding filtered_table
    filter-unread = ap (filtered_checked m e N n (function w') R b) check-unread ∙ by (check N n w) refl
      where
        by : (o : Outcome (Unit {0})) → check N n w ≡ o
            → filtered_checked m e N n (function w') R b o ≡ filtered_checked m e N n (function w) R b o
        by (answered u) acc =
            ap₂ (λ (x : Bool) (l : FilteredOut).
            after_tests ((suffices_all n R b, 41) ∷ (fitting N m, 56) ∷ (proper N e, 57) ∷ []) b (cond x (cleared_all n R b) l))
            (exceeds-unread true m R acc) (filled-all-unread acc)
        by (refused k i) e = refl

  -- ---- the walk
  walk-unread : (m : List ℕ) (R : ℕ) (es : List Step) (b : WalkLent) → walk_table m N n w' R es b ≡ walk_table m N n w R es b
  unfolding walk_table
  walk-unread m R es b =
      ap (λ (c : Outcome (Unit {0})). walk_checked m N n w' R es b (after c steps)) check-unread ∙ by (check N n w) steps refl
    where
      steps : Outcome (Unit {0})
      steps = check_steps N 0 es

      by : (c d : Outcome (Unit {0})) → check N n w ≡ c → walk_checked m N n w' R es b (after c d) ≡ walk_checked m N n w R es b (after c d)
      by (answered u) (answered v) acc =
          ap₂ (λ (f : ℕ → Bool) (l : ListOut).
          cond (steps_fit es b) (walk_listed N f es b l.after l.answer) (record { answer = refused 41 0; after = b }))
          (function-same n w w' same (pred n) (node-there acc)) (list-unread true m R b.rows)
      by (answered u) (refused k i) acc = refl
      by (refused k i) d e = refl

  -- ---- the writing
  text-unread : table_text N n w' ≡ table_text N n w
  unfolding table_text
  text-unread =
      ap (λ (fs : List Form). print (record { variables = N; lines = fs }))
      (map-local (λ i. node_form (node_at w' i)) (λ i. node_form (node_at w i)) (below n)
      (λ i m. ap node_form (node-same n w w' same i (below_out n i m))))

  words-unread : check_words N n w' ≡ check_words N n w
  unfolding check_words
  words-unread =
      ap₂ (λ (b : Bool) (o : Outcome (Unit {0})). cond b o (refused 21 0)) (range_same n w w' same N long long')
      (fault-same n 22 (malformed N w) (malformed N w') accepted accepted (malformed-same n w w' same N) (λ h. refl))

  write-unread : (sink : List ℕ) → write_table N n w' sink ≡ write_table N n w sink
  unfolding write_table
  write-unread sink = ap₂ (λ (t : List ℕ) (c : Outcome (Unit {0})). write_checked t sink c) text-unread words-unread

  pub same-answers : SameAnswers N n w w'
  same-answers =
      record {
        check = check-unread;
        write = write-unread;
        evaluate = evaluate-unread;
        count = count-unread;
        implies = implies-unread;
        prime = prime-unread;
        reduce = reduce-unread;
        partial = partial-unread;
        list = list-unread;
        filter = filter-unread;
        walk = walk-unread;
      }
