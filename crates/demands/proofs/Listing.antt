-- Where the listing may be refused and what it leaves in the buffers; the view of one node's entries.
use Prim.Native.Nat.{ℕ, ◌+◌, ◌*◌, ◌<◌, ◌≤◌}
use mathlib.Core.Path.{◌≡◌, refl, sym, ap, subst, ◌∙◌}
use mathlib.Core.Bool.{Bool, true, false, ◌&&◌, cond}
use mathlib.Core.Logic.{◌⊎◌, inl, inr, ◌≢◌}
use mathlib.Core.List.{List, [], ◌∷◌, ◌++◌}
use native.Mathlib.Omega.{arith}
use lib.Dec.{ltb, lt→ltb, ltb→lt, T, leb, not_T, leb→le, le→leb}
use lib.ListN.{length, take, drop}
use lib.Seq.{drop_at}
use Rattle.masks.proofs.Tests.{and_i, and_l, and_r, is_true, is_false}
use Rattle.table.specs.Node.{max_nodes}
use Rattle.table.specs.Outcome.{accepted, answered, refused}
use Rattle.weighing.specs.Weights.{fitting}
use Rattle.weighing.proofs.Weights.{fitting-i, fitting-length, fitting-most}
use Rattle.circuits.specs.Check.{check}
use Rattle.circuits.specs.Function.{signed_function}
use Rattle.lists.specs.Capacity.{max_capacity}
use Rattle.listing.specs.Listing.{listed_masks, listed_counts, suffices, exceeds, cleared, filled}
use Rattle.listing.specs.Listing.{list_table, viewed, Lent, ListOut}
use Rattle.listing.proofs.Answers.{out-is}
use Rattle.listing.proofs.Last.{all_fit}
use Rattle.listing.proofs.Table.{Fit, length-listed, length-counts}
use Rattle.demands.specs.Demands.{At, Answers, table_refusals, Room, Weights}
use Rattle.demands.proofs.Tests.{guarded-answers, guarded-kept, guarded-done, guarded-refused, guarded-unless}
use Rattle.demands.proofs.Tests.{lack-answers, lack-only, lack-full, done-fits}

-- room and weights, as tests
pub room-suffices : {N n : ℕ} {w : List ℕ} {R : ℕ} {b : Lent} → Room N n w R b → suffices n R b ≡ true
room-suffices {n = n} {R = R} {b = b} r =
    let small : Bool = leb R max_capacity in
    let p : Bool = leb (n * R) (length b.positives) in
    let q : Bool = leb (n * R) (length b.negatives) in
    let both : T (small && p) =
    and_i small p (le→leb R max_capacity r.capacity) (le→leb (n * R) (length b.positives) r.positives) in
    let all_three : T (small && p && q) = and_i (small && p) q both (le→leb (n * R) (length b.negatives) r.negatives) in
    is_true (suffices n R b) (and_i (small && p && q) (leb n (length b.counts)) all_three (le→leb n (length b.counts) r.counts))

module _ (N : ℕ) (m : List ℕ) where
  pub fits-weights : Weights N m → fitting N m ≡ true
  fits-weights k = fitting-i N m k.number (λ x l. k.most x (subst (λ (z : ℕ). x < z) k.number l))

  pub unfit-weights : (Weights N m → ⊥) → fitting N m ≡ false
  unfit-weights none =
      is_false (fitting N m)
      (not_T (fitting N m)
      (λ t.
      let e : fitting N m ≡ true = is_true (fitting N m) t in
      none (record { number = fitting-length N m e; most = λ x l. fitting-most N m e x })))

module _ (c : Bool) (m : List ℕ) (N n : ℕ) (w : List ℕ) (R : ℕ) (b : Lent) where
  abbrev F : ℕ → ℕ → Bool
  F = signed_function c w

  abbrev tests : List (Bool × ℕ)
  tests = (suffices n R b, 41) ∷ (fitting N m, 56) ∷ []

  -- by whether there are more terms than the capacity
  abbrev lists : Bool → ListOut
  lists z = cond z (cleared n R b) (filled m N n F R b)

  abbrev over : Bool
  over = exceeds m N n F R

  abbrev KeptPast : ListOut → Type 0
  KeptPast o =
      (drop (n * R) o.after.positives ≡ drop (n * R) b.positives)
      × (drop (n * R) o.after.negatives ≡ drop (n * R) b.negatives)
      × (drop n o.after.counts ≡ drop n b.counts)

  -- the listed parts fill the first n × R entries
  filled-past : check N n w ≡ accepted → over ≡ false → KeptPast (filled m N n F R b)
  filled-past acc e =
      let fit : Fit m N F R n = all_fit c m N n w R acc e in (
        drop_at (listed_masks m N n F R true) (drop (n * R) b.positives) (n * R) (length-listed m N F R n true fit),
        drop_at (listed_masks m N n F R false) (drop (n * R) b.negatives) (n * R) (length-listed m N F R n false fit),
        drop_at (listed_counts m N n F) (drop n b.counts) n (length-counts m N F R n),
      )

  abbrev out : ListOut
  out = list_table c m N n w R b

  pub list-answers : Answers (table_refusals n ++ ((41, At 0) ∷ (56, At 0) ∷ (42, At 0) ∷ [])) out.answer
  unfolding list_table
  list-answers =
      guarded-answers N n w tests b (lists over) ((42, At 0) ∷ []) (lack-answers (cleared n R b) (filled m N n F R b) tt refl refl over)

  only-lack : (k p : ℕ) → k ≢ 42 → (lists over).answer ≡ refused k p → ⊥
  only-lack = lack-only (cleared n R b) (filled m N n F R b) tt refl refl over

  pub list-kept : (k p : ℕ) → out.answer ≡ refused k p → k ≢ 42 → out.after ≡ b
  unfolding list_table
  list-kept k p h other = guarded-kept N n w tests b (lists over) k p (λ g. absurd (only-lack k p other g)) h

  pub list-zeroed : (p : ℕ) → out.answer ≡ refused 42 p → out.after ≡ (cleared n R b).after
  unfolding list_table
  list-zeroed p h =
      let (acc, e) = guarded-refused N n w tests b (lists over) 42 p (omega arith) (omega arith) h in
      let z : over ≡ true =
      lack-full (cleared n R b) (filled m N n F R b) tt refl refl over p (sym (ap (λ (o : ListOut). o.answer) e) ∙ h) in
      ap (λ (o : ListOut). o.after) e ∙ ap (λ (x : Bool). (lists x).after) z

  pub list-weighed : (p : ℕ) → out.answer ≡ refused 56 p → Weights N m → ⊥
  unfolding list_table
  list-weighed p h k =
      guarded-unless N n w tests b (lists over) 56 p (omega arith)
      (λ (e : 41 ≡ 56). absurd (omega arith), (λ (e : 56 ≡ 56). fits-weights N m k, tt))
      (only-lack 56 p (omega arith)) h

  pub list-unweighed : Room N n w R b → (Weights N m → ⊥) → out.answer ≡ refused 56 0
  list-unweighed r none =
      ap (λ (z : ListOut). z.answer)
      (out-is c m N n w R b r.table true false (exceeds m N n F R) (room-suffices r) (unfit-weights N m none) refl)

  -- a listing that is done has filled the buffers
  pub list_done : out.answer ≡ answered tt → (check N n w ≡ accepted) × (over ≡ false) × (out ≡ filled m N n F R b)
  unfolding list_table
  list_done h =
      let (acc, e) = guarded-done N n w tests b (lists over) tt h in
      let z : over ≡ false =
      done-fits (cleared n R b) (filled m N n F R b) tt refl refl over tt (sym (ap (λ (o : ListOut). o.answer) e) ∙ h) in
      (acc, z, e ∙ ap lists z)

  pub list-rest : out.answer ≡ answered tt → KeptPast out
  list-rest h = let (acc, z, e) = list_done h in subst KeptPast (sym e) (filled-past acc z)

-- ---- the view
module _ (s : List ℕ) (R i c : ℕ) where
  abbrev inside : Bool
  inside = ltb i max_nodes && leb R max_capacity && leb c R && leb (i * R + c) (length s)

  pub view-part : i < max_nodes → R ≤ max_capacity → c ≤ R → i * R + c ≤ length s → viewed s R i c ≡ take c (drop (i * R) s)
  view-part hi hR hc hs =
      let p : Bool = ltb i max_nodes in
      let q : Bool = leb R max_capacity in
      let a : T (p && q) = and_i p q (lt→ltb i max_nodes hi) (le→leb R max_capacity hR) in
      let b : T (p && q && leb c R) = and_i (p && q) (leb c R) a (le→leb c R hc) in
      let t : T inside = and_i (p && q && leb c R) (leb (i * R + c) (length s)) b (le→leb (i * R + c) (length s) hs) in
      ap (λ (z : Bool). cond z (take c (drop (i * R) s)) []) (is_true inside t)

  range : T inside → (i < max_nodes) × (R ≤ max_capacity) × (c ≤ R) × (i * R + c ≤ length s)
  range t = (
    ltb→lt i max_nodes (search (and_l, and_r)),
    leb→le R max_capacity (search (and_l, and_r)),
    leb→le c R (search (and_l, and_r)),
    leb→le (i * R + c) (length s) (search (and_l, and_r)),
  )

  outside : (max_nodes ≤ i) ⊎ (max_capacity < R) ⊎ (R < c) ⊎ (length s < i * R + c) → T inside → ⊥
  outside h t = by h (range t)
    where
      by : (max_nodes ≤ i) ⊎ (max_capacity < R) ⊎ (R < c) ⊎ (length s < i * R + c)
          → (i < max_nodes) × (R ≤ max_capacity) × (c ≤ R) × (i * R + c ≤ length s) → ⊥
      by (inl l) (hi, hR, hc, hs) = omega arith
      by (inr (inl l)) (hi, hR, hc, hs) = omega arith
      by (inr (inr (inl l))) (hi, hR, hc, hs) = omega arith
      by (inr (inr (inr l))) (hi, hR, hc, hs) = omega arith

  pub view-none : (max_nodes ≤ i) ⊎ (max_capacity < R) ⊎ (R < c) ⊎ (length s < i * R + c) → viewed s R i c ≡ []
  view-none h = ap (λ (z : Bool). cond z (take c (drop (i * R) s)) []) (is_false inside (not_T inside (outside h)))
