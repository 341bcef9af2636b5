-- What is read and listed under the program's limits.
use Prim.Native.Nat.{ℕ, ◌*◌, ◌<◌, ◌≤◌}
use mathlib.Core.Bool.{true, false}
use mathlib.Core.List.{List, []}
use mathlib.Core.Logic.{⊎_elim}
use mathlib.Core.Path.{◌≡◌, sym, ap, ◌∙◌}
use native.Mathlib.Omega.{arith}
use lib.ListN.{length, take, replicate}
use borrow.Author.Tests.{lt-ltb, le-ltb, le-leb, lt-leb}
use Rattle.buffers.proofs.Zeros.{take-zeros}
use Rattle.table.specs.Node.{max_variables}
use Rattle.table.specs.Outcome.{Outcome, refused}
use Rattle.table.specs.Words.{in_range}
use Rattle.table.proofs.Checking.{out_of_range}
use Rattle.table.proofs.NodePlaces.{lt-or-le}
use Rattle.text.specs.Read.{answers, read_text}
use Rattle.exclusions.specs.Exclusions.{exclusions}
use Rattle.circuits.specs.Check.{check, rules}
use Rattle.circuits.specs.Function.{function}
use Rattle.listing.specs.Listing.{lent, suffices, Lent}
use Rattle.filtered.specs.Filtered.{filtered_lent, filtered_checked, filtered_table, Gives, FilteredLent, FilteredOut}
use Rattle.std.specs.Prelude.{Result}
use Rattle.table.specs.Outcome.{outcome}
use Rattle.table.specs.declared.Refusal.{Refusal}
use Rattle.program.specs.Program.{program_bytes, program_words, program_nodes, program_capacity, program_reading, program_listing}

-- ---- reading, by the text's length
module _ (s v : List ℕ) where
  pub long : program_bytes < length s → answers (refused 10 program_bytes) v ≡ program_reading s v
  long h = rw (lt-ltb program_bytes (length s) h)

  pub short : length s ≤ program_bytes → length v ≡ program_words → read_text s (length v) ≡ program_reading s v
  short h e = rw (le-ltb program_bytes (length s) h) (ap (read_text s) e)

-- ---- listing
-- more variables than a circuit has are refused by 21
wide : (N n : ℕ) (w : List ℕ) → max_variables < N → check N n w ≡ refused 21 0
unfolding check
wide N n w h =
    let e : in_range N n w ≡ false = simp (le-leb 1 N (omega arith), lt-leb N max_variables h) in
    out_of_range N n w (rules N n w) e

module _ (N n : ℕ) (w : List ℕ) (b : Lent) where
  -- the listing by any weights and pairs, with zeros in the shown list's buffers
  abbrev zeros : List ℕ
  zeros = replicate program_capacity 0

  abbrev lists : List ℕ → List ℕ → List ℕ → FilteredOut
  lists m fs ss = filtered_table m (exclusions fs ss) N n w program_capacity (filtered_lent b zeros zeros)

  -- refused by 21, whatever the weights
  refused-alike : (m k : List ℕ) → max_variables < N → lists m [] [] ≡ lists k [] []
  unfolding filtered_table
  refused-alike m k h =
      let by : List ℕ → Outcome (Unit {0}) → FilteredOut =
      λ v. filtered_checked v (exclusions [] []) N n (function w) program_capacity (filtered_lent b zeros zeros) in
      ap (by m) (wide N n w h) ∙ sym (ap (by k) (wide N n w h))

  -- the first N of 40 zeros do for N weights
  weightless : lists (take N (replicate max_variables 0)) [] [] ≡ program_listing N n w b
  weightless =
      ⊎_elim (refused-alike (take N (replicate max_variables 0)) (replicate N 0))
      (λ (h : N ≤ max_variables). ap (λ (m : List ℕ). lists m [] []) (take-zeros N max_variables h)) (lt-or-le max_variables N)

  -- what such a listing gives is what the program's gives
  pub given : {m fs ss : List ℕ} → m ≡ take N (replicate max_variables 0) → fs ≡ [] → ss ≡ []
      → {b' : FilteredLent} {r : Result ℕ Refusal} → Gives (lists m fs ss) b' r
      → (outcome r ≡ (program_listing N n w b).answer) × (b'.nodes ≡ (program_listing N n w b).after.nodes)
  given {m} {fs} {ss} p q s g =
      let e : lists m fs ss ≡ program_listing N n w b = (λ i. lists (p i) (q i) (s i)) ∙ weightless in (
        g.answer ∙ ap (λ (o : FilteredOut). o.answer) e,
        ap (λ (d : FilteredLent). d.nodes) g.after ∙ ap (λ (o : FilteredOut). o.after.nodes) e,
      )

-- the buffers of the listing are large enough for the program's nodes
pub enough : (ps ns cs : List ℕ) → length ps ≡ program_nodes * program_capacity → length ns ≡ program_nodes * program_capacity
    → length cs ≡ program_nodes → suffices program_nodes program_capacity (lent ps ns cs) ≡ true
enough ps ns cs p q r = rw (p, q, r)
