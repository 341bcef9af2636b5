-- The small circuits P1 to P12 of the scope, and two conjunctions of three, from their texts, as one list of what is known of each.
use Prim.Native.String.{String}
use Rattle.std.specs.Prelude.{ℕ, Bool, true, false, List, [], ◌∷◌, ℤ, pos, negsuc}
use Rattle.table.specs.Layout.{words_for}
use Rattle.table.specs.Outcome.{Outcome, answered, refused}
use Rattle.text.specs.Ascii.{ascii}
use Rattle.text.specs.Read.{read_text, ReadOut}
use Rattle.terms.specs.Term.{term}
use Rattle.terms.specs.declared.Term.{Term}
use Rattle.measurements.specs.Measurement.{measurements, Measurements}
use Rattle.exclusions.specs.Exclusions.{exclusions}
use Rattle.small_circuits.specs.Known.{holds, Known, fault, accepts, shows, Primes, Question}

-- a circuit text, and what is known of the circuit
pub record SmallCircuit : Type 0 where
  pub text : List ℕ
  pub known : Known

-- what is known follows from the table that is read, with words for ten nodes
abbrev answer_holds : List ℕ → Known → Outcome (ℕ × ℕ) → Bool
answer_holds w k (answered v) = holds v.0 v.1 w k
answer_holds w k (refused e p) = false

abbrev pub small_holds : SmallCircuit → Bool
small_holds c = let r : ReadOut = read_text c.text (words_for 10) in answer_holds r.words c.known r.answer

abbrev circuit : String → Known → SmallCircuit
circuit s k = record { text = ascii s; known = k }

abbrev these : List Term → List (ℕ × Bool) → Primes
these ts capacities = record { terms = ts; capacities = capacities; weighed = [] }

-- with their order by the weights m besides
abbrev weighing : List ℕ → List Term → Primes → Primes
weighing m ts ps = record { terms = ps.terms; capacities = ps.capacities; weighed = (m, ts) ∷ ps.weighed }

abbrev asks : Term → Measurements → Outcome (ℕ × (ℕ × ℕ)) → Question
asks t m o = record { given = t; measured = m; judgement = o }

-- no measurement, and one: its variable, low, high and threshold
abbrev unmeasured : Measurements
unmeasured = measurements [] [] [] []

abbrev one : ℕ → ℤ → ℤ → ℤ → Measurements
one x low high threshold = measurements (x ∷ []) (low ∷ []) (high ∷ []) (threshold ∷ [])

-- the status, and how many completions are models and how many are not
abbrev judged : ℕ → ℕ → ℕ → Outcome (ℕ × (ℕ × ℕ))
judged v a b = answered (v, (a, b))

-- judgements of P9, whose models are 0, 3, 4, 5 and 7
unfoldable pub judgements : List Question
judgements =
    asks (term 0 0) unmeasured (judged 1 5 3)
    -- low is the threshold; high is one less; high is the threshold, and low is not
    ∷ asks (term 1 0) (one 1 (pos 10) (pos 20) (pos 10)) (judged 2 2 0)
    ∷ asks (term 1 4) (one 1 (pos 3) (pos 9) (pos 10)) (judged 0 0 1)
    ∷ asks (term 1 4) (one 1 (pos 9) (pos 10) (pos 10)) (judged 1 1 1)
    -- -3 to -1 against -3, -9 to -4 against -3, -5 to 5 against 0: 0 is true, 1 is false, 2 is left unknown
    ∷ asks (term 0 0)
    (measurements (0 ∷ 1 ∷ 2 ∷ []) (negsuc 2 ∷ negsuc 8 ∷ negsuc 4 ∷ []) (negsuc 0 ∷ negsuc 3 ∷ pos 5 ∷ [])
    (negsuc 2 ∷ negsuc 2 ∷ pos 0 ∷ []))
    (judged 1 1 1)
    -- at the ends of the i32: 1 is true, 0 is false
    ∷ asks (term 0 0)
    (measurements (1 ∷ 0 ∷ []) (pos 2147483647 ∷ negsuc 2147483647 ∷ []) (pos 2147483647 ∷ pos 2147483646 ∷ [])
    (pos 2147483647 ∷ pos 2147483647 ∷ []))
    (judged 0 0 2)
    -- measured again, where the first left it unknown
    ∷ asks (term 0 0)
    (measurements (1 ∷ 1 ∷ []) (pos 0 ∷ pos 12 ∷ []) (pos 20 ∷ pos 20 ∷ []) (pos 10 ∷ pos 10 ∷ []))
    (refused 53 1)
    -- a variable of the term, negative and positive
    ∷ asks (term 0 2) (measurements (0 ∷ 1 ∷ []) (pos 0 ∷ pos 0 ∷ []) (pos 9 ∷ pos 9 ∷ []) (pos 5 ∷ pos 5 ∷ [])) (refused 53 1)
    ∷ asks (term 4 0) (one 2 (pos 5) (pos 9) (pos 5)) (refused 53 0)
    -- lists of different lengths: the shortest has one entry, or none
    ∷ asks (term 0 0) (measurements (0 ∷ 1 ∷ []) (pos 0 ∷ pos 0 ∷ []) (pos 9 ∷ []) (pos 5 ∷ pos 5 ∷ pos 5 ∷ [])) (refused 53 1)
    ∷ asks (term 0 0) (measurements [] [] [] (pos 5 ∷ [])) (refused 53 0)
    -- low above high: -1 and -2; a variable out of range, and a later fault
    ∷ asks (term 0 0) (one 0 (negsuc 0) (negsuc 1) (negsuc 5)) (refused 53 0)
    ∷ asks (term 0 0)
    (measurements (0 ∷ 3 ∷ 0 ∷ []) (pos 0 ∷ pos 0 ∷ pos 0 ∷ []) (pos 9 ∷ pos 9 ∷ pos 9 ∷ []) (pos 5 ∷ pos 5 ∷ pos 5 ∷ []))
    (refused 53 1)
    -- no term, and a variable out of range
    ∷ asks (term 1 1) (one 3 (pos 0) (pos 9) (pos 5)) (refused 32 0)
    ∷ []

-- shown lists of P9, whose clearances are 0 and 1 false, 0 and 1 true, 0 and 2 true, 2 true and 1 false
abbrev shown_lists : Known → Known
shown_lists k =
    -- no pair; one, reversed and repeated; one that no clearance has true in both; two
    shows 4 (exclusions [] []) (answered (term 0 3 ∷ term 3 0 ∷ term 5 0 ∷ term 4 2 ∷ []))
    (shows 4 (exclusions (1 ∷ 0 ∷ []) (0 ∷ 1 ∷ [])) (answered (term 0 3 ∷ term 5 0 ∷ term 4 2 ∷ []))
    (shows 4 (exclusions (1 ∷ []) (2 ∷ [])) (answered (term 0 3 ∷ term 3 0 ∷ term 5 0 ∷ term 4 2 ∷ []))
    (shows 4 (exclusions (0 ∷ 2 ∷ []) (1 ∷ 0 ∷ [])) (answered (term 0 3 ∷ term 4 2 ∷ []))
    -- three are shown, and four do not fit
    (shows 3 (exclusions (1 ∷ []) (0 ∷ [])) (refused 42 0)
    -- a variable twice, and one out of range, both before 42; an incomplete pair
    (shows 3 (exclusions (0 ∷ 2 ∷ []) (1 ∷ 2 ∷ [])) (refused 57 0)
    (shows 3 (exclusions (3 ∷ []) (0 ∷ [])) (refused 57 0) (shows 4 (exclusions (0 ∷ []) []) (refused 57 0) k)))))))

-- after each count the prime implicants of the circuit ("clearances"), those of its negation ("blockers"), then judgements; before a list
-- some weights and the list in their order
unfoldable pub small : List SmallCircuit
small =
    -- P1 to P4
    circuit "(circuit 1)\n(false)\n"
    (accepts 0 (these [] ((0, true) ∷ [])) (these (term 0 0 ∷ []) ((0, false) ∷ (1, true) ∷ []))
    (asks (term 0 0) unmeasured (judged 0 0 2) ∷ asks (term 0 0) (one 0 (pos 2) (pos 2) (pos 1)) (judged 0 0 1) ∷ []))
    ∷ circuit "(circuit 1)\n(true)\n"
    (accepts 2 (these (term 0 0 ∷ []) ((0, false) ∷ [])) (these [] ((0, true) ∷ []))
    (asks (term 0 0) unmeasured (judged 2 2 0) ∷ asks (term 0 0) (one 0 (pos 1) (pos 1) (pos 2)) (judged 2 1 0) ∷ []))
    ∷ circuit "(circuit 1)\n(pick 0 (true) (true))\n" (accepts 2 (these (term 0 0 ∷ []) []) (these [] []) [])
    ∷ circuit "(circuit 2)\n(both (yes 0) (no 1))\n"
    (accepts 1 (these (term 1 2 ∷ []) []) (these (term 0 1 ∷ term 2 0 ∷ []) [])
    (asks (term 0 0) unmeasured (judged 1 1 3)
    ∷ asks (term 0 1) unmeasured (judged 0 0 2)
    ∷ asks (term 1 0) (one 1 (pos 1) (pos 6) (pos 7)) (judged 2 1 0)
    ∷ []))
    -- P5 to P8
    ∷ circuit "(circuit 1)\n(both (yes 0) (no 0))\n" (fault 24 2)
    ∷ circuit "(circuit 1)\n(pick 0 (yes 0) (true))\n" (fault 24 2)
    ∷ circuit "(circuit 1)\n(pick 0 (false) (false))\n" (fault 25 2)
    ∷ circuit "(circuit 1)\n(yes 0)\n(no 0)\n" (fault 23 0)
    -- P9: with a capacity of 2 or 3 the clearances lack room, the blockers do not. By the weights 10, 0 and 3 the clearances weigh 10, 10,
    -- 13 and 3
    ∷ circuit "(circuit 3)\n(pick 0 (no 1) (pick 1 (yes 2) (true)))\n"
    (shown_lists
    (accepts 5
    (weighing (10 ∷ 0 ∷ 3 ∷ []) (term 4 2 ∷ term 0 3 ∷ term 3 0 ∷ term 5 0 ∷ [])
    (these (term 0 3 ∷ term 3 0 ∷ term 5 0 ∷ term 4 2 ∷ []) ((3, false) ∷ (4, true) ∷ [])))
    (these (term 2 1 ∷ term 1 6 ∷ []) ((1, false) ∷ (2, true) ∷ [])) judgements))
    -- P10 to P12: v3, v2 and v1 of Example 1 in the article, with b, e, p, s as variables 0 to 3
    ∷ circuit "(circuit 4)\n(pick 3 (true) (yes 2))\n"
    (accepts 12 (these (term 4 0 ∷ term 0 8 ∷ []) []) (these (term 8 4 ∷ []) []) [])
    ∷ circuit "(circuit 4)\n(pick 0 (pick 3 (true) (yes 2)) (no 2))\n"
    (accepts 10 (these (term 1 4 ∷ term 4 1 ∷ term 0 9 ∷ term 0 12 ∷ []) []) (these (term 5 0 ∷ term 8 5 ∷ []) []) [])
    -- P12: with 1,000 at variable 2 alone, one clearance and one blocker weigh nothing, and come first though they have no fewer marks;
    -- the others weigh the same. Judged where 2 is false: with 3 false by -20 to -11 against -10; with 1 false by the same and 3 left
    -- unknown by -20 to -10
    ∷ circuit "(circuit 4)\n(pick 1 (pick 0 (pick 3 (true) (yes 2)) (no 2)) (both (no 2) (no 3)))\n"
    (accepts 7
    (weighing (0 ∷ 0 ∷ 1000 ∷ 0 ∷ []) (term 0 11 ∷ term 0 12 ∷ term 1 6 ∷ term 4 3 ∷ [])
    (these (term 0 12 ∷ term 1 6 ∷ term 4 3 ∷ term 0 11 ∷ []) []))
    (weighing (0 ∷ 0 ∷ 1000 ∷ 0 ∷ []) (term 10 0 ∷ term 5 0 ∷ term 6 0 ∷ term 8 5 ∷ [])
    (these (term 5 0 ∷ term 6 0 ∷ term 10 0 ∷ term 8 5 ∷ []) ((3, false) ∷ [])))
    (asks (term 0 4) (one 3 (negsuc 19) (negsuc 10) (negsuc 9)) (judged 2 4 0)
    ∷ asks (term 0 4)
    (measurements (1 ∷ 3 ∷ []) (negsuc 19 ∷ negsuc 19 ∷ []) (negsuc 10 ∷ negsuc 9 ∷ []) (negsuc 9 ∷ negsuc 9 ∷ []))
    (judged 1 3 1)
    ∷ []))
    -- conjunctions of three: with no variable in common, and with one in the first and the last
    ∷ circuit "(circuit 4)\n(both (no 1) (pick 0 (yes 2) (true)) (yes 3))\n"
    (accepts 3 (these (term 9 2 ∷ term 12 2 ∷ []) ((1, false) ∷ [])) (these (term 2 0 ∷ term 0 8 ∷ term 0 5 ∷ []) ((2, false) ∷ [])) [])
    ∷ circuit "(circuit 2)\n(both (yes 0) (no 1) (yes 0))\n" (fault 24 3)
    ∷ []
