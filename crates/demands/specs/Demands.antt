-- The demands on the engine, each as one statement over the definitions that the contracts of the exported functions cite.
-- N is a number of variables, n of nodes, w a table's words; a place is a number of bytes, a node or a needed length.
use Rattle.std.specs.Prelude.{ℕ, pred, ◌+◌, ◌-◌, ◌*◌, ◌^◌, ◌<◌, ◌≤◌, Bool, true, false, Some, ◌&&◌, ◌||◌, not, T, ltb, leb, get_or, length, take, drop, replicate, ◌≡◌, ◌⊎◌, ◌≢◌}
use mathlib.Core.List.{Memᴰ, List, [], ◌∷◌, ◌++◌}
use Rattle.masks.specs.Numbers.{count, Lowest}
use Rattle.steps.specs.Steps.{max_steps, no_step}
use Rattle.steps.specs.declared.Step.{Step}
use Rattle.table.specs.Layout.{words_for}
use Rattle.table.specs.Node.{node_at, max_nodes}
use Rattle.table.specs.Outcome.{accepted, Outcome, answered, refused}
use Rattle.table.specs.Words.{check_words}
use Rattle.text.specs.Faults.{Between, tree_faults}
use Rattle.text.specs.Limits.{max_bytes}
use Rattle.text.specs.Meaning.{Bytes, ReadsAs}
use Rattle.text.specs.Read.{answers, read_text}
use Rattle.text.specs.Syntax.{print, Tree}
use Rattle.text.specs.Write.{table_text, write_table}
use Rattle.text_assignment.specs.Answers.{answered_mask}
use Rattle.text_assignment.specs.Line.{read_assignment}
use Rattle.text_assignment.specs.Meaning.{LineReadsAs}
use Rattle.text_script.specs.Meaning.{ScriptReadsAs}
use Rattle.text_script.specs.Script.{read_steps, read_script}
use Rattle.terms.specs.Completions.{unknowns}
use Rattle.terms.specs.Duality.{Dual}
use Rattle.terms.specs.Lists.{keep, less, Rising}
use Rattle.terms.specs.Order.{before}
use Rattle.terms.specs.Prime.{primes, Implicant, Prime}
use Rattle.terms.specs.Term.{has, variables, literals, agrees, conflict, Agrees, IsTerm, terms_of}
use Rattle.terms.specs.declared.Term.{Term}
use Rattle.states.specs.States.{state_at}
use Rattle.states.specs.declared.State.{State}
use Rattle.weighing.specs.Weights.{max_weight}
use Rattle.exclusions.specs.Exclusions.{first_at, second_at, Exclusions}
use Rattle.measurements.specs.Measurement.{entries, variable_at, low_at, high_at, threshold_at, says, wrong, Measurements}
use Rattle.circuits.specs.Check.{check}
use Rattle.circuits.specs.Function.{function, node_value}
use Rattle.queries.specs.Queries.{circuit, evaluation, model_count, implicant_test, prime_test, reduction}
use Rattle.partial.specs.Partial.{partial_evaluation}
use Rattle.lists.specs.Capacity.{max_capacity}
use Rattle.listing.specs.Listing.{lent, Lent, ListOut, node_primes, list_table, viewed}
use Rattle.filtered.specs.Filtered.{filtered_lent, filtered_table, FilteredLent, FilteredOut}
use Rattle.walk.specs.Known.{act_state}
use Rattle.walk.specs.Walk.{walk_table, walk_lent, WalkLent}

-- ---- places: the place p is c, is below c, is at most c, is above c
abbrev pub At : ℕ → ℕ → Type 0
At c p = p ≡ c

abbrev pub Below : ℕ → ℕ → Type 0
Below c p = p < c

abbrev pub UpTo : ℕ → ℕ → Type 0
UpTo c p = p ≤ c

abbrev pub Above : ℕ → ℕ → Type 0
Above c p = c < p

-- numbers of refusals, each with the places that go with it
abbrev pub Refusals : Type 1
Refusals = List (ℕ × (ℕ → Type 0))

-- the number k is one of these, and the place p goes with it
abbrev pub Among : Refusals → ℕ → ℕ → Type 0
Among [] k p = ⊥
Among (r ∷ rs) k p = ((k ≡ r.0) × r.1 p) ⊎ Among rs k p

-- the work is done, or refused by one of these
abbrev pub Answers : {A : Type 0} → Refusals → Outcome A → Type 0
Answers rs (answered v) = Unit {0}
Answers rs (refused k p) = Among rs k p

-- ---- the refusals of a circuit text of l bytes
abbrev pub read_refusals : ℕ → Refusals
read_refusals l =
    (10, At max_bytes) ∷ (11, UpTo l) ∷ (12, Below l) ∷ (13, Below l) ∷ (14, Below l) ∷ (15, Below l) ∷ []

-- of an assignment line of l bytes
abbrev pub line_refusals : ℕ → Refusals
line_refusals l = (21, At 0) ∷ (51, UpTo l) ∷ (52, Below l) ∷ []

-- of a loading script of l bytes
abbrev pub script_refusals : ℕ → Refusals
script_refusals l = (21, At 0) ∷ (54, UpTo l) ∷ (55, Below l) ∷ []

-- of a table of n nodes
abbrev pub table_refusals : ℕ → Refusals
table_refusals n = (21, At 0) ∷ (22, Below n) ∷ (23, Below n) ∷ (24, Below n) ∷ (25, Below n) ∷ []

-- of a table of n nodes that is written into a sink of l bytes
abbrev pub write_refusals : ℕ → ℕ → Refusals
write_refusals n l = (21, At 0) ∷ (22, Below n) ∷ (16, Above l) ∷ []

-- of measurements beside the term t: the lowest wrong one, which is among the first N + 1, however long the lists are
abbrev pub WrongAt : ℕ → Term → Measurements → ℕ → Type 0
WrongAt N t m i = Lowest (wrong N (variables t) m) i × (i ≤ N)

-- of the steps es of a walk over N variables: the lowest wrong one, however long the list is
abbrev pub wrong_act : List Step → ℕ → Bool
wrong_act es i = leb max_steps i || ltb 2 (get_or es i no_step).act

abbrev pub wrong_variable : ℕ → List Step → ℕ → Bool
wrong_variable N es i = leb N (get_or es i no_step).variable

pub record WrongStep (N : ℕ) (es : List Step) (i : ℕ) : Type 0 where
  pub inside : (i < length es) × (i ≤ max_steps)
  pub lowest : Lowest (λ j. wrong_act es j || wrong_variable N es j) i

-- 54 for its act, or as the step after the 256th; 55 for its variable only where it is not 54
abbrev pub ActAt : ℕ → List Step → ℕ → Type 0
ActAt N es i = WrongStep N es i × T (wrong_act es i)

abbrev pub VariableAt : ℕ → List Step → ℕ → Type 0
VariableAt N es i = WrongStep N es i × T (not (wrong_act es i))

-- of a listing: an accepted table, a capacity within the limit, and buffers large enough, whatever they hold, are not refused; so are
-- exactly N weights, each at most 1,000
pub record Room (N n : ℕ) (w : List ℕ) (R : ℕ) (b : Lent) : Type 0 where
  pub table : check N n w ≡ accepted
  pub capacity : R ≤ max_capacity
  pub positives : n * R ≤ length b.positives
  pub negatives : n * R ≤ length b.negatives
  pub counts : n ≤ length b.counts

pub record Weights (N : ℕ) (m : List ℕ) : Type 0 where
  pub number : length m ≡ N
  pub most : (x : ℕ) → x < N → get_or m x 0 ≤ max_weight

-- with a shown list: besides, buffers of it with R entries, and complete pairs of different variables below N
pub record ShownRoom (N n : ℕ) (w : List ℕ) (R : ℕ) (b : FilteredLent) : Type 0 where
  pub nodes : Room N n w R b.nodes
  pub positives : R ≤ length b.positives
  pub negatives : R ≤ length b.negatives

pub record Pairs (N : ℕ) (e : Exclusions) : Type 0 where
  pub complete : length e.seconds ≡ length e.firsts
  pub different : (i : ℕ) → i < length e.firsts → (first_at e i < N) × (second_at e i < N) × (first_at e i ≢ second_at e i)

-- every operation answers and leaves the same for the table w' as for w
pub record SameAnswers (N n : ℕ) (w w' : List ℕ) : Type 0 where
  pub check : check N n w' ≡ check N n w
  pub write : (sink : List ℕ) → write_table N n w' sink ≡ write_table N n w sink
  pub evaluate : (s : ℕ) → evaluation N n w' s ≡ evaluation N n w s
  pub count : model_count N n w' ≡ model_count N n w
  pub implies : (t : Term) → implicant_test N n w' t ≡ implicant_test N n w t
  pub prime : (t : Term) → prime_test N n w' t ≡ prime_test N n w t
  pub reduce : (s : ℕ) → reduction N n w' s ≡ reduction N n w s
  pub partial : (t : Term) (m : Measurements) → partial_evaluation N n w' t m ≡ partial_evaluation N n w t m
  pub list : (c : Bool) (m : List ℕ) (R : ℕ) (b : Lent) → list_table c m N n w' R b ≡ list_table c m N n w R b
  pub filter : (m : List ℕ) (e : Exclusions) (R : ℕ) (b : FilteredLent) → filtered_table m e N n w' R b ≡ filtered_table m e N n w R b
  pub walk : (m : List ℕ) (R : ℕ) (es : List Step) (b : WalkLent) → walk_table m N n w' R es b ≡ walk_table m N n w R es b

-- ---- demand 1: every operation takes any input and does its work or refuses by a number of the scope, at a place that the
-- scope allows; what a refusal leaves in each lent buffer is fixed
pub record AnyInput : Type 0 where
  -- reading the text s with m lent words
  pub read : (s : List ℕ) (m : ℕ) → Answers (read_refusals (length s)) (read_text s m).answer
  -- a refusal leaves every lent word 0
  pub read-refused : (s : List ℕ) (m k p : ℕ) → (read_text s m).answer ≡ refused k p → (read_text s m).words ≡ replicate m 0
  -- writing a table into a sink
  pub write : (N n : ℕ) (w sink : List ℕ) → Answers (write_refusals n (length sink)) (write_table N n w sink).answer
  -- 16 comes with the needed length
  pub write-short : (N n : ℕ) (w sink : List ℕ) (p : ℕ) → (write_table N n w sink).answer ≡ refused 16 p → p ≡ length (table_text N n w)
  -- a refusal leaves the sink as it was
  pub write-refused : (N n : ℕ) (w sink : List ℕ) (k p : ℕ) → (write_table N n w sink).answer ≡ refused k p
      → (write_table N n w sink).sink ≡ sink
  -- bytes past the text, of length k, never change
  pub write-past : (N n : ℕ) (w sink : List ℕ) (k : ℕ) → (write_table N n w sink).answer ≡ answered k
      → drop k (write_table N n w sink).sink ≡ drop k sink
  -- the check of a table
  pub check : (N n : ℕ) (w : List ℕ) → Answers (table_refusals n) (check N n w)
  -- the value at the assignment s
  pub evaluate : (N n : ℕ) (w : List ℕ) (s : ℕ) → Answers (table_refusals n ++ ((31, At 0) ∷ [])) (evaluation N n w s)
  -- the model count
  pub count : (N n : ℕ) (w : List ℕ) → Answers (table_refusals n) (model_count N n w)
  -- the tests of the term t
  pub implies : (N n : ℕ) (w : List ℕ) (t : Term) → Answers (table_refusals n ++ ((32, At 0) ∷ [])) (implicant_test N n w t)
  pub prime : (N n : ℕ) (w : List ℕ) (t : Term) → Answers (table_refusals n ++ ((32, At 0) ∷ [])) (prime_test N n w t)
  -- the reduction of the assignment s
  pub reduce : (N n : ℕ) (w : List ℕ) (s : ℕ)
      → Answers (table_refusals n ++ ((31, At 0) ∷ (33, At 0) ∷ [])) (reduction N n w s)
  -- the judgement of the term t with the measurements m: 53 comes with the lowest wrong one
  pub partial : (N n : ℕ) (w : List ℕ) (t : Term) (m : Measurements)
      → Answers (table_refusals n ++ ((32, At 0) ∷ (53, WrongAt N t m) ∷ [])) (partial_evaluation N n w t m)
  -- listing by the weights m with the capacity R into the buffers b, without a shown list: the nodes' negations where c is false; where it
  -- is true their functions, as a walk does first
  pub list : (c : Bool) (m : List ℕ) (N n : ℕ) (w : List ℕ) (R : ℕ) (b : Lent)
      → Answers (table_refusals n ++ ((41, At 0) ∷ (56, At 0) ∷ (42, At 0) ∷ [])) (list_table c m N n w R b).answer
  -- 56 exactly if there is not one weight for each variable, or one is above 1,000: after 21 to 25 and 41, and before 42
  pub list-unweighed : (c : Bool) (m : List ℕ) (N n : ℕ) (w : List ℕ) (R : ℕ) (b : Lent) → Room N n w R b → (Weights N m → ⊥)
      → (list_table c m N n w R b).answer ≡ refused 56 0
  pub list-weighed : (c : Bool) (m : List ℕ) (N n : ℕ) (w : List ℕ) (R : ℕ) (b : Lent) (p : ℕ)
      → (list_table c m N n w R b).answer ≡ refused 56 p → Weights N m → ⊥
  -- a refusal other than 42 leaves every buffer as it was
  pub list-refused : (c : Bool) (m : List ℕ) (N n : ℕ) (w : List ℕ) (R : ℕ) (b : Lent) (k p : ℕ)
      → (list_table c m N n w R b).answer ≡ refused k p → k ≢ 42 → (list_table c m N n w R b).after ≡ b
  -- 42 leaves zeros in the first n × R entries of both row buffers and in the first n counts, and the rest as it was
  pub list-lack : (c : Bool) (m : List ℕ) (N n : ℕ) (w : List ℕ) (R : ℕ) (b : Lent) (p : ℕ) → (list_table c m N n w R b).answer ≡ refused 42 p
      → (list_table c m N n w R b).after
      ≡ lent (replicate (n * R) 0 ++ drop (n * R) b.positives) (replicate (n * R) 0 ++ drop (n * R) b.negatives)
      (replicate n 0 ++ drop n b.counts)
  -- a listing that is done leaves the entries past n × R, and the counts past n, as they were
  pub list-past : (c : Bool) (m : List ℕ) (N n : ℕ) (w : List ℕ) (R : ℕ) (b : Lent) → let a : Lent = (list_table c m N n w R b).after in
      (list_table c m N n w R b).answer ≡ answered tt
      → (drop (n * R) a.positives ≡ drop (n * R) b.positives)
      × (drop (n * R) a.negatives ≡ drop (n * R) b.negatives)
      × (drop n a.counts ≡ drop n b.counts)
  -- listing the nodes' functions, with those of the last node's terms shown that respect the exclusions e
  pub filter : (m : List ℕ) (e : Exclusions) (N n : ℕ) (w : List ℕ) (R : ℕ) (b : FilteredLent)
      → Answers (table_refusals n ++ ((41, At 0) ∷ (56, At 0) ∷ (57, At 0) ∷ (42, At 0) ∷ [])) (filtered_table m e N n w R b).answer
  -- 56 as above, and 57 exactly if a pair is incomplete, has one variable twice or one not below N: after 56, and before 42
  pub filter-unweighed : (m : List ℕ) (e : Exclusions) (N n : ℕ) (w : List ℕ) (R : ℕ) (b : FilteredLent) → ShownRoom N n w R b
      → (Weights N m → ⊥) → (filtered_table m e N n w R b).answer ≡ refused 56 0
  pub filter-weighed : (m : List ℕ) (e : Exclusions) (N n : ℕ) (w : List ℕ) (R : ℕ) (b : FilteredLent) (p : ℕ)
      → (filtered_table m e N n w R b).answer ≡ refused 56 p → Weights N m → ⊥
  pub filter-unpaired : (m : List ℕ) (e : Exclusions) (N n : ℕ) (w : List ℕ) (R : ℕ) (b : FilteredLent) → ShownRoom N n w R b
      → Weights N m → (Pairs N e → ⊥) → (filtered_table m e N n w R b).answer ≡ refused 57 0
  pub filter-paired : (m : List ℕ) (e : Exclusions) (N n : ℕ) (w : List ℕ) (R : ℕ) (b : FilteredLent) (p : ℕ)
      → (filtered_table m e N n w R b).answer ≡ refused 57 p → Pairs N e → ⊥
  -- a refusal other than 42 leaves every buffer as it was
  pub filter-refused : (m : List ℕ) (e : Exclusions) (N n : ℕ) (w : List ℕ) (R : ℕ) (b : FilteredLent) (k p : ℕ)
      → (filtered_table m e N n w R b).answer ≡ refused k p → k ≢ 42 → (filtered_table m e N n w R b).after ≡ b
  -- 42 leaves the nodes' buffers as above, and zeros in the first R entries of the shown list's
  pub filter-lack : (m : List ℕ) (e : Exclusions) (N n : ℕ) (w : List ℕ) (R : ℕ) (b : FilteredLent) (p : ℕ)
      → (filtered_table m e N n w R b).answer ≡ refused 42 p
      → (filtered_table m e N n w R b).after
      ≡ filtered_lent
      (lent (replicate (n * R) 0 ++ drop (n * R) b.nodes.positives) (replicate (n * R) 0 ++ drop (n * R) b.nodes.negatives)
      (replicate n 0 ++ drop n b.nodes.counts))
      (replicate R 0 ++ drop R b.positives) (replicate R 0 ++ drop R b.negatives)
  -- where neither 41 nor 57 is met, the answer and the nodes' buffers are those of the listing without a shown list: pairs change neither
  pub filter-nodes : (m : List ℕ) (e : Exclusions) (N n : ℕ) (w : List ℕ) (R : ℕ) (b : FilteredLent) → ShownRoom N n w R b → Pairs N e
      → let o : FilteredOut = filtered_table m e N n w R b in
      (o.after.nodes ≡ (list_table true m N n w R b.nodes).after)
      × ((k p : ℕ) → o.answer ≡ refused k p → (list_table true m N n w R b.nodes).answer ≡ refused k p)
      × ((c : ℕ) → o.answer ≡ answered c → (list_table true m N n w R b.nodes).answer ≡ answered tt)
  -- a listing that is done leaves the entries of the shown list past R as they were
  pub filter-past : (m : List ℕ) (e : Exclusions) (N n : ℕ) (w : List ℕ) (R : ℕ) (b : FilteredLent) (c : ℕ)
      → let a : FilteredLent = (filtered_table m e N n w R b).after in
      (filtered_table m e N n w R b).answer ≡ answered c
      → (drop R a.positives ≡ drop R b.positives) × (drop R a.negatives ≡ drop R b.negatives)
  -- the view of c entries of node i in the row buffer s: those from i × R on, and the empty part where an argument is out of range
  pub view : (s : List ℕ) (R i c : ℕ) → i < max_nodes → R ≤ max_capacity → c ≤ R → i * R + c ≤ length s
      → viewed s R i c ≡ take c (drop (i * R) s)
  pub view-empty : (s : List ℕ) (R i c : ℕ) → ((max_nodes ≤ i) ⊎ (max_capacity < R) ⊎ (R < c) ⊎ (length s < i * R + c)) → viewed s R i c ≡ []
  -- reading the assignment line s
  pub line : (s : List ℕ) (N : ℕ) → Answers (line_refusals (length s)) (read_assignment s N)
  -- a refusal comes with the mask 0
  pub line_refused : (s : List ℕ) (N k p : ℕ) → read_assignment s N ≡ refused k p → answered_mask (read_assignment s N) ≡ 0
  -- reading the loading script s into a list of steps
  pub script : (s : List ℕ) (N : ℕ) (list : List Step) → Answers (script_refusals (length s)) (read_script s N list).answer
  -- a refusal leaves the list as it was, and a reading of k steps what stands past them
  pub script-refused : (s : List ℕ) (N : ℕ) (list : List Step) (k p : ℕ) → (read_script s N list).answer ≡ refused k p
      → (read_script s N list).steps ≡ list
  pub script-past : (s : List ℕ) (N : ℕ) (list : List Step) (k : ℕ) → (read_script s N list).answer ≡ answered k
      → drop k (read_script s N list).steps ≡ drop k list
  -- walking the steps es by the weights m with the capacity R and the buffers b
  pub walk : (m : List ℕ) (N n : ℕ) (w : List ℕ) (R : ℕ) (es : List Step) (b : WalkLent)
      → Answers (table_refusals n ++ ((54, ActAt N es) ∷ (55, VariableAt N es) ∷ (41, At 0) ∷ (56, At 0) ∷ (42, At 0) ∷ []))
      (walk_table m N n w R es b).answer
  -- a refusal other than 42 leaves every buffer as it was; 42 leaves the listing's as the listing does, and those of the steps
  pub walk_refused : (m : List ℕ) (N n : ℕ) (w : List ℕ) (R : ℕ) (es : List Step) (b : WalkLent) (k p : ℕ)
      → (walk_table m N n w R es b).answer ≡ refused k p → k ≢ 42 → (walk_table m N n w R es b).after ≡ b
  pub walk-lack : (m : List ℕ) (N n : ℕ) (w : List ℕ) (R : ℕ) (es : List Step) (b : WalkLent) (p : ℕ)
      → (walk_table m N n w R es b).answer ≡ refused 42 p
      → ((list_table true m N n w R b.rows).answer ≡ refused 42 p)
      × ((walk_table m N n w R es b).after ≡ walk_lent (list_table true m N n w R b.rows).after b.statuses b.compatibles)
  -- a walk that is done leaves the entries past the steps as they were
  pub walk-past : (m : List ℕ) (N n : ℕ) (w : List ℕ) (R : ℕ) (es : List Step) (b : WalkLent) (v : ℕ × ℕ)
      → let a : WalkLent = (walk_table m N n w R es b).after in
      (walk_table m N n w R es b).answer ≡ answered v
      → (drop (length es) a.statuses ≡ drop (length es) b.statuses)
      × (drop (length es) a.compatibles ≡ drop (length es) b.compatibles)
  -- words past those of the nodes are not read: any v may stand there
  pub unread : (N n : ℕ) (w v : List ℕ) → words_for n ≤ length w → SameAnswers N n w (take (words_for n) w ++ v)

-- ---- demand 2: verdicts, count, tests and reduction agree with the Boolean function of the circuit, which is its last node's; the
-- reading answers what the grammar says, and a table that is written is read in again
-- an answer that is yes exactly if P holds
abbrev pub Decides : Outcome Bool → Type 0 → Type 0
Decides (answered b) P = (T b → P) × (P → T b)
Decides (refused k p) P = ⊥

-- what is left of the assignment s: a prime implicant of f that agrees with it
abbrev pub ReducedTo : ℕ → (ℕ → Bool) → ℕ → Outcome Term → Type 0
ReducedTo N f s (answered t) = Prime N f t × Agrees t s
ReducedTo N f s (refused k p) = ⊥

-- u is the term t with what each of the measurements m says of its variable, and nothing else
pub record Adds (N : ℕ) (t : Term) (m : Measurements) (u : Term) : Type 0 where
  pub is_term : IsTerm N u
  pub kept : (b : Bool) (x : ℕ) → T (has t b x) → T (has u b x)
  pub added : (i : ℕ) (b : Bool) → i < entries m → T (says (low_at m i) (high_at m i) (threshold_at m i) b) → T (has u b (variable_at m i))
  pub only : (b : Bool) (x : ℕ) → T (has u b x)
      → T (has t b x) ⊎ ((i : ℕ) × (i < entries m) × (variable_at m i ≡ x) × T (says (low_at m i) (high_at m i) (threshold_at m i) b))

-- the status v of the partial assignment u, and how many of its completions make f true, a, and false, b
pub record Judged (N : ℕ) (f : ℕ → Bool) (u : Term) (v a b : ℕ) : Type 0 where
  -- 2 exactly if every completion makes f true, 0 exactly if none does, and 1 otherwise
  pub satisfied : (v ≡ 2 → Implicant N f u) × (Implicant N f u → v ≡ 2)
  pub falsified : (v ≡ 0 → Implicant N (λ s. not (f s)) u) × (Implicant N (λ s. not (f s)) u → v ≡ 0)
  pub range : v ≤ 2
  -- so exactly if the other number is 0; together they are 2 to the power of the variables without a literal
  pub no_false : (v ≡ 2 → b ≡ 0) × (b ≡ 0 → v ≡ 2)
  pub no_true : (v ≡ 0 → a ≡ 0) × (a ≡ 0 → v ≡ 0)
  pub trues : a ≡ count (2 ^ N) (λ s. agrees N u s && f s)
  pub falses : b ≡ count (2 ^ N) (λ s. agrees N u s && not (f s))
  pub sum : a + b ≡ 2 ^ unknowns N u

-- the answer is such a judgement of t with the measurements m
abbrev pub JudgedWith : ℕ → (ℕ → Bool) → Term → Measurements → Outcome (ℕ × (ℕ × ℕ)) → Type 0
JudgedWith N f t m (answered r) = (u : Term) × Adds N t m u × Judged N f u r.0 r.1.0 r.1.1
JudgedWith N f t m (refused k p) = ⊥

-- what the steps es say of the variable x: what the last of them that names it says, or nothing
abbrev pub SaysLast : List Step → ℕ → State → Type 0
SaysLast es x s =
    ((i : ℕ) × (i < length es) × ((get_or es i no_step).variable ≡ x) × (act_state (get_or es i no_step).act ≡ s)
    × ((j : ℕ) → i < j → j < length es → (get_or es j no_step).variable ≢ x))
    ⊎ ((s ≡ State.Absent) × ((j : ℕ) → j < length es → (get_or es j no_step).variable ≢ x))

-- u is the term over N variables that has each of them as the steps say last
pub record KnownAfter (N : ℕ) (es : List Step) (u : Term) : Type 0 where
  pub is_term : IsTerm N u
  pub each : (x : ℕ) → x < N → (s : State) × (state_at u x ≡ Some s) × SaysLast es x s

-- the entries of a step: v is the status of what is known, u, and c the number of prime implicants of f that do not conflict with it
pub record StepJudged (N : ℕ) (f : ℕ → Bool) (u : Term) (v c : ℕ) : Type 0 where
  pub satisfied : (v ≡ 2 → Implicant N f u) × (Implicant N f u → v ≡ 2)
  pub falsified : (v ≡ 0 → Implicant N (λ s. not (f s)) u) × (Implicant N (λ s. not (f s)) u → v ≡ 0)
  pub range : v ≤ 2
  pub number : c ≡ length (keep (λ t. not (conflict t u)) (primes [] N f))
  -- forbidden exactly if every prime implicant conflicts with it
  pub none : (v ≡ 0 → c ≡ 0) × (c ≡ 0 → v ≡ 0)

-- the step named: from it on every status is 2, and from no earlier one; or there is no such step
abbrev pub AllowedFrom : List ℕ → ℕ → Type 0
AllowedFrom l k = (j : ℕ) → k ≤ j → j < length l → get_or l j 0 ≡ 2

abbrev pub Names : List ℕ → ℕ × ℕ → Type 0
Names l v =
    ((v.0 ≡ 1) × (v.1 < length l) × AllowedFrom l v.1 × ((i : ℕ) → i < v.1 → AllowedFrom l i → ⊥))
    ⊎ ((v.0 ≡ 0) × (v.1 ≡ 0) × ((i : ℕ) → i < length l → AllowedFrom l i → ⊥))

-- a walk of an accepted circuit that is done
pub record Walked (m : List ℕ) (N n : ℕ) (w : List ℕ) (R : ℕ) (es : List Step) (b : WalkLent) (v : ℕ × ℕ) : Type 0 where
  -- the listing is done first
  pub listed : (list_table true m N n w R b.rows).answer ≡ answered tt
  pub rows : (walk_table m N n w R es b).after.rows ≡ (list_table true m N n w R b.rows).after
  -- each prefix is judged by itself
  pub steps : (k : ℕ) → k < length es → let a : WalkLent = (walk_table m N n w R es b).after in
      (u : Term) × KnownAfter N (take (k + 1) es) u × StepJudged N (circuit n w) u (get_or a.statuses k 0) (get_or a.compatibles k 0)
  pub names : Names (take (length es) (walk_table m N n w R es b).after.statuses) v

-- an accepted circuit
pub record Means (N n : ℕ) (w : List ℕ) : Type 0 where
  -- a node's function is what its kind makes of its variable and of its children's functions
  pub functions : (i s : ℕ) → i < n → function w i s ≡ node_value s (node_at w i) (λ c. function w c s)
  -- the verdict for the assignment s is the function's value, and the count that of the assignments at which it is true
  pub verdict : (s : ℕ) → s < 2 ^ N → evaluation N n w s ≡ answered (circuit n w s)
  pub models : model_count N n w ≡ answered (count (2 ^ N) (circuit n w))
  -- the tests of a term: every assignment that agrees with it makes the function true; and no literal can be struck
  pub implies : (t : Term) → IsTerm N t → Decides (implicant_test N n w t) (Implicant N (circuit n w) t)
  pub prime : (t : Term) → IsTerm N t → Decides (prime_test N n w t) (Prime N (circuit n w) t)
  -- the reduction of a satisfying assignment, and 33 for any other
  pub reduced : (s : ℕ) → s < 2 ^ N → T (circuit n w s) → ReducedTo N (circuit n w) s (reduction N n w s)
  pub unsatisfied : (s : ℕ) → s < 2 ^ N → T (not (circuit n w s)) → reduction N n w s ≡ refused 33 0
  -- a partial assignment with measurements of which none is wrong
  pub partial : (t : Term) (m : Measurements) → IsTerm N t → ((i : ℕ) → i < entries m → T (not (wrong N (variables t) m i)))
      → JudgedWith N (circuit n w) t m (partial_evaluation N n w t m)
  -- a loading script, walked: done where no step is wrong, the steps' buffers have an entry each, and the listing is done
  pub walks : (m : List ℕ) (R : ℕ) (es : List Step) (b : WalkLent)
      → ((i : ℕ) → i < length es → T (not (wrong_act es i || wrong_variable N es i)))
      → length es ≤ length b.statuses → length es ≤ length b.compatibles → (list_table true m N n w R b.rows).answer ≡ answered tt
      → (v : ℕ × ℕ) × ((walk_table m N n w R es b).answer ≡ answered v)
  pub walk : (m : List ℕ) (R : ℕ) (es : List Step) (b : WalkLent) (v : ℕ × ℕ) → (walk_table m N n w R es b).answer ≡ answered v
      → Walked m N n w R es b v

pub record OneMeaning : Type 0 where
  -- the questions to every accepted circuit
  pub circuits : (N n : ℕ) (w : List ℕ) → check N n w ≡ accepted → Means N n w
  -- the reading of a text answers what the grammar allows, and nothing else is allowed
  pub read : (s : List ℕ) (m : ℕ) → Bytes s → ReadsAs s m (read_text s m).answer (read_text s m).words
  pub read_only : (s : List ℕ) (m : ℕ) → Bytes s → (a : Outcome (ℕ × ℕ)) (v : List ℕ) → ReadsAs s m a v → read_text s m ≡ answers a v
  -- the faults of a tree stand in the order of their places, so that the first is the lowest
  pub ordered : (room : ℕ) (t : Tree) → Between 0 (length (print t)) (tree_faults room t)
  -- the same of an assignment line
  pub line : (s : List ℕ) (N : ℕ) → Bytes s → LineReadsAs s N (read_assignment s N)
  pub line-only : (s : List ℕ) (N : ℕ) → Bytes s → (a : Outcome ℕ) → LineReadsAs s N a → read_assignment s N ≡ a
  -- and of a loading script, read into a list of l records
  pub script : (s : List ℕ) (N l : ℕ) → Bytes s → ScriptReadsAs s N l (read_steps s N l)
  pub script-only : (s : List ℕ) (N l : ℕ) → Bytes s → (a : Outcome (List Step)) → ScriptReadsAs s N l a → read_steps s N l ≡ a
  -- every table with neither 21 nor 22 is written where the sink is long enough
  pub writes : (N n : ℕ) (w sink : List ℕ) → check_words N n w ≡ accepted → length (table_text N n w) ≤ length sink
      → (write_table N n w sink).answer ≡ answered (length (table_text N n w))
  -- where writing answers the length k, the first k bytes of the sink, read with words enough, give N, n and the table, the rest 0
  pub written_read : (N n : ℕ) (w sink : List ℕ) (k m : ℕ) → (write_table N n w sink).answer ≡ answered k → words_for n ≤ m
      → read_text (take k (write_table N n w sink).sink) m
      ≡ answers (answered (N, n)) (take (words_for n) w ++ replicate (m - words_for n) 0)

-- ---- demand 3: a listing of an accepted circuit by weights and pairs that fit is refused (42) exactly if it has more prime implicants
-- than the capacity; else every node's entries are all its prime implicants, each once, in order by the weights, and nothing else; no node
-- has more than the last; and the shown list's are all of the last node's that respect the pairs. F is the function of each node: what the
-- circuit says, or its negation
-- what a listing asks
pub record Asked (m : List ℕ) (N n : ℕ) (w : List ℕ) (R : ℕ) (b : Lent) : Type 0 where
  pub room : Room N n w R b
  pub weights : Weights N m

-- with a shown list
pub record ShownAsked (m : List ℕ) (e : Exclusions) (N n : ℕ) (w : List ℕ) (R : ℕ) (b : FilteredLent) : Type 0 where
  pub room : ShownRoom N n w R b
  pub weights : Weights N m
  pub pairs : Pairs N e

-- node i's entries in the buffers a: as many as its count says, from i × R on, as terms
abbrev pub entries_at : ℕ → Lent → ℕ → List Term
entries_at R a i =
    let c : ℕ = get_or a.counts i 0 in
    terms_of (take c (drop (i * R) a.positives)) (take c (drop (i * R) a.negatives))

-- the order without weights: fewer literals first, then the smaller mask of all variables, then the smaller positive mask
abbrev pub by_literals : Term → Term → Bool
by_literals t u = less (literals t ∷ variables t ∷ t.positive ∷ []) (literals u ∷ variables u ∷ u.positive ∷ [])

-- node i in the buffers a after a listing by the weights m
pub record NodeListed (m : List ℕ) (N n : ℕ) (F : ℕ → ℕ → Bool) (R : ℕ) (a : Lent) (i : ℕ) : Type 0 where
  -- its count is the number of its prime implicants and of its entries, and no count is above the last node's
  pub number : get_or a.counts i 0 ≡ length (node_primes m N F i)
  pub entries : length (entries_at R a i) ≡ get_or a.counts i 0
  pub most : get_or a.counts i 0 ≤ get_or a.counts (pred n) 0
  -- its entries are prime implicants of its function, and all of them, in order and so each once
  pub only : (t : Term) → Memᴰ t (entries_at R a i) → Prime N (F i) t
  pub every : (t : Term) → Prime N (F i) t → Memᴰ t (entries_at R a i)
  pub order : Rising (before m) (entries_at R a i)
  -- with every weight 0 that is the order without weights
  pub unweighted : ((x : ℕ) → x < N → get_or m x 0 ≡ 0) → Rising by_literals (entries_at R a i)
  -- the other entries of its part are 0
  pub unused : (j : ℕ) → get_or a.counts i 0 ≤ j → j < R
      → (get_or a.positives (i * R + j) 0 ≡ 0) × (get_or a.negatives (i * R + j) 0 ≡ 0)

-- such a listing: its answer is o, with the value v where it is done, and a are the buffers afterwards
pub record Listed {A : Type 0} (m : List ℕ) (N n : ℕ) (F : ℕ → ℕ → Bool) (R : ℕ) (o : Outcome A) (v : A) (a : Lent) : Type 0 where
  -- 42 exactly if the circuit, its last node, has more prime implicants than R
  pub lack : o ≡ refused 42 0 → R < length (node_primes m N F (pred n))
  pub lacking : R < length (node_primes m N F (pred n)) → o ≡ refused 42 0
  -- otherwise it is done, and every node is listed
  pub done : length (node_primes m N F (pred n)) ≤ R → o ≡ answered v
  pub nodes : length (node_primes m N F (pred n)) ≤ R → (i : ℕ) → i < n → NodeListed m N n F R a i

-- of no pair has the term both positive literals
abbrev pub Respects : Exclusions → Term → Type 0
Respects e t = (i : ℕ) → i < length e.firsts → T (has t true (first_at e i)) → T (has t true (second_at e i)) → ⊥

-- the first c entries of the shown list, as terms
abbrev pub shown_entries : ℕ → FilteredLent → List Term
shown_entries c a = terms_of (take c a.positives) (take c a.negatives)

-- the shown list in the buffers a after a listing by the weights m: f is the circuit's function, and c the number that is answered
pub record Shown (m : List ℕ) (e : Exclusions) (N : ℕ) (f : ℕ → Bool) (R : ℕ) (a : FilteredLent) (c : ℕ) : Type 0 where
  pub entries : length (shown_entries c a) ≡ c
  pub fewer : c ≤ R
  -- its entries are prime implicants that respect the pairs, and all of them, in order and so each once
  pub only : (t : Term) → Memᴰ t (shown_entries c a) → Prime N f t × Respects e t
  pub every : (t : Term) → Prime N f t → Respects e t → Memᴰ t (shown_entries c a)
  pub order : Rising (before m) (shown_entries c a)
  -- the other entries up to R are 0
  pub unused : (j : ℕ) → c ≤ j → j < R → (get_or a.positives j 0 ≡ 0) × (get_or a.negatives j 0 ≡ 0)

-- the listing of the nodes' functions (prime implicants, "clearances"), with a shown list
pub record ShownListed (m : List ℕ) (e : Exclusions) (N n : ℕ) (w : List ℕ) (R : ℕ) (o : FilteredOut) : Type 0 where
  pub count : ℕ
  pub listed : Listed m N n (function w) R o.answer count o.after.nodes
  pub shown : length (node_primes m N (function w) (pred n)) ≤ R → Shown m e N (circuit n w) R o.after count

-- every listing: that one; that of the nodes' negations ("blockers"); and that which a walk makes first, of the nodes' functions
pub record WholeListing : Type 0 where
  pub functions : (m : List ℕ) (e : Exclusions) (N n : ℕ) (w : List ℕ) (R : ℕ) (b : FilteredLent) → ShownAsked m e N n w R b
      → ShownListed m e N n w R (filtered_table m e N n w R b)
  pub negations : (m : List ℕ) (N n : ℕ) (w : List ℕ) (R : ℕ) (b : Lent) → Asked m N n w R b
      → Listed m N n (λ i s. not (function w i s)) R (list_table false m N n w R b).answer tt (list_table false m N n w R b).after
  pub walked : (m : List ℕ) (N n : ℕ) (w : List ℕ) (R : ℕ) (b : Lent) → Asked m N n w R b
      → Listed m N n (function w) R (list_table true m N n w R b).answer tt (list_table true m N n w R b).after

-- ---- clearances against blockers: two listings of one circuit that are both done, one of the nodes' functions with a shown list, one of
-- their negations; each by its own weights, with its own capacity and its own buffers, whatever these held. It is said of all entries of a
-- node, not of the shown ones
pub record Duality : Type 0 where
  -- of the circuit, which is its last node
  pub circuits : (N n : ℕ) (w m m' : List ℕ) (e : Exclusions) (R R' : ℕ) (b : FilteredLent) (b' : Lent) (c : ℕ)
      → let o : FilteredOut = filtered_table m e N n w R b in let o' : ListOut = list_table false m' N n w R' b' in
      o.answer ≡ answered c → o'.answer ≡ answered tt
      → Dual N (entries_at R o.after.nodes (pred n)) (entries_at R' o'.after (pred n))
  -- and of every node
  pub nodes : (N n : ℕ) (w m m' : List ℕ) (e : Exclusions) (R R' : ℕ) (b : FilteredLent) (b' : Lent) (c : ℕ)
      → let o : FilteredOut = filtered_table m e N n w R b in let o' : ListOut = list_table false m' N n w R' b' in
      o.answer ≡ answered c → o'.answer ≡ answered tt
      → (i : ℕ) → i < n → Dual N (entries_at R o.after.nodes i) (entries_at R' o'.after i)
