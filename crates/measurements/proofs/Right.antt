-- Measurements of which none is wrong: the term with their literals.
use Prim.Native.Nat.{ℕ, zero, suc, ◌≤◌, ◌<◌}
use mathlib.Core.Path.{◌≡◌, refl, sym, ap, subst, ◌∙◌}
use mathlib.Core.Bool.{Bool, true, false, ◌||◌, not, cond}
use mathlib.Core.Logic.{⊎_elim}
use native.Mathlib.Nat.{le_refl, le_trans, le_antisymm, lt_irrefl, le-max_left}
use native.Mathlib.Omega.{arith}
use lib.Dec.{T, T_not, leb, ltb, eqb, nleb→lt}
use lib.ListN.{length}
use lib.Signed.{lt_z}
use borrow.Author.Tests.{ltb-false, lt-ltb, le-ltb}
use Rattle.std.specs.Prelude.{Some, None}
use Rattle.masks.specs.Mask.{width, bit, put}
use Rattle.masks.specs.Numbers.{some, count, least}
use Rattle.masks.proofs.Least.{first-some, first-nowhere}
use Rattle.masks.proofs.Masks.{put_same, put_keeps}
use Rattle.masks.proofs.Numbers.{count_less, count-not, least-none, least-lowest}
use Rattle.masks.proofs.Tests.{not-or, along}
use Rattle.table.specs.Outcome.{accepted, Outcome, answered, refused, after}
use Rattle.table.proofs.NodePlaces.{lt-or-le}
use Rattle.table.proofs.Outcomes.{after-answered, after-refused}
use Rattle.terms.specs.Term.{variables}
use Rattle.terms.specs.declared.Term.{Term}
use Rattle.measurements.specs.Measurement.{complete, entries, variable_at, low_at, high_at, wrong, measured_term, Measurements}
use Rattle.measurements.specs.Measurement.{check_measurements, with_measurements}
use Rattle.measurements.specs.Walk.{first_wrong, seen, Usable}
use Rattle.measurements.proofs.Walk.{in-variables, seen-bit}

-- what it says of a measurement that it is not wrong
pub record Right (N v : ℕ) (m : Measurements) (i : ℕ) : Type 0 where
  pub whole : i < complete m
  pub ordered : T (not (lt_z (high_at m i) (low_at m i)))
  pub below : variable_at m i < N
  pub unknown : T (not (bit v (variable_at m i)))
  pub once : T (not (some i (λ j. eqb (variable_at m i) (variable_at m j))))

neither : (a b : Bool) → T (not a) → T (not b) → T (not (a || b))
neither false b h k = k
neither true b h k = h

module _ (N v : ℕ) (m : Measurements) where
  pub right-e : (i : ℕ) → T (not (wrong N v m i)) → Right N v m i
  unfolding wrong
  right-e i h =
      let x : ℕ = variable_at m i in
      let short : Bool = leb (complete m) i in
      let above : Bool = lt_z (high_at m i) (low_at m i) in
      let (h4, e) = not-or (short || above || leb N x || bit v x) (some i (λ j. eqb x (variable_at m j))) h in
      let (h3, d) = not-or (short || above || leb N x) (bit v x) h4 in
      let (h2, c) = not-or (short || above) (leb N x) h3 in
      let (a, b) = not-or short above h2 in
      record { whole = nleb→lt (complete m) i a; ordered = b; below = nleb→lt N x c; unknown = d; once = e }

  -- none is wrong
  none_below : entries m ≤ least (entries m) (wrong N v m) → (i : ℕ) → i < entries m → Right N v m i
  none_below h i l = right-e i (least-none (entries m) (wrong N v m) h i l)

  pub all_right : first_wrong N v m ≡ None → (i : ℕ) → i < entries m → Right N v m i
  all_right h = none_below (first-nowhere (wrong N v m) (entries m) h)

  -- then each list is as long as the longest
  pub whole-lists : first_wrong N v m ≡ None → length m.variables ≡ entries m
  whole-lists h =
      le_antisymm (le-max_left (length m.variables) _)
      (⊎_elim
      (λ (l : complete m < entries m). absurd (lt_irrefl (complete m) (all_right h (complete m) l).whole))
      (λ (l : entries m ≤ complete m). le_trans l (in-variables m))
      (lt-or-le (complete m) (entries m)))

  -- right ones measure different variables below N, so that there are no more than N
  seen-grows : (k : ℕ) → ((i : ℕ) → i < k → Right N v m i) → k ≤ count N (bit (seen v m k))
  unfolding seen
  seen-grows zero right = omega arith
  seen-grows (suc k) right =
      let s : ℕ = seen v m k in
      let x : ℕ = variable_at m k in
      let r : Right N v m k = right k (le_refl (suc k)) in
      let fresh : T (not (bit s x)) =
      along (ap not (sym (seen-bit m v k x))) (neither (bit v x) (some k (λ j. eqb x (variable_at m j))) r.unknown r.once) in
      let more : count N (bit s) < count N (bit (put s x true)) =
      count_less N (bit s) (bit (put s x true)) (λ i l h. put_keeps s x i h) x r.below fresh (along (sym (put_same s x true)) tt) in
      let before : k ≤ count N (bit s) = seen-grows k (λ i l. right i (omega arith)) in
      omega arith

  pub few-right : (k : ℕ) → ((i : ℕ) → i < k → Right N v m i) → k ≤ N
  few-right k right =
      let grown : k ≤ count N (bit (seen v m k)) = seen-grows k right in
      omega (arith, count-not N (bit (seen v m k)))

  pub usable : N ≤ width → first_wrong N v m ≡ None → Usable (length m.variables) m
  usable wide h i l =
      let r : Right N v m i = all_right h i (subst (λ (n : ℕ). i < n) (whole-lists h) l) in
      let b : variable_at m i < N = r.below in
      (r.whole, omega arith)

-- ---- the answer
module _ (N : ℕ) (t : Term) (m : Measurements) where
  abbrev lowest : ℕ
  lowest = least (entries m) (wrong N (variables t) m)

  -- what stands after the test of all measurements
  abbrev known : Outcome Term
  known = answered (measured_term t m (entries m))

  by_lowest : (b : Bool) → ltb lowest (entries m) ≡ b → cond b (refused 53 lowest) known ≡ with_measurements N t m
  unfolding with_measurements check_measurements
  by_lowest true e = sym (ap (λ (b : Bool). after (cond b (refused 53 lowest) accepted) known) e)
  by_lowest false e = sym (ap (λ (b : Bool). after (cond b (refused 53 lowest) accepted) known) e)

  pub some-wrong : {i : ℕ} → first_wrong N (variables t) m ≡ Some i → refused 53 i ≡ with_measurements N t m
  some-wrong {i} e =
      let (d, l) = first-some (wrong N (variables t) m) (entries m) e in
      ap (refused 53) d ∙ by_lowest true (lt-ltb lowest (entries m) (subst (λ (z : ℕ). z < entries m) d l))

  pub none-wrong : {u : Term} → first_wrong N (variables t) m ≡ None → u ≡ measured_term t m (length m.variables)
      → answered u ≡ with_measurements N t m
  none-wrong h e =
      ap answered (e ∙ ap (measured_term t m) (whole-lists N (variables t) m h))
      ∙ by_lowest false (le-ltb lowest (entries m) (first-nowhere (wrong N (variables t) m) (entries m) h))

  -- what the answer says of the test
  pub known-passed : (u : Term) → with_measurements N t m ≡ answered u
      → (check_measurements N t m ≡ accepted) × (measured_term t m (entries m) ≡ u)
  unfolding with_measurements
  known-passed u e = after-answered (check_measurements N t m) (measured_term t m (entries m)) u e

  pub wrong-stands : {A : Type 0} (o : Outcome A) (k i : ℕ) → with_measurements N t m ≡ refused k i
      → refused k i ≡ after (check_measurements N t m) o
  unfolding with_measurements
  wrong-stands o k i e = after-refused (check_measurements N t m) (measured_term t m (entries m)) o k i e

  -- where the measurements pass, none is wrong
  pub passed-right : check_measurements N t m ≡ accepted → (i : ℕ) → i < entries m → Right N (variables t) m i
  unfolding check_measurements
  passed-right e = none_below N (variables t) m (none (ltb lowest (entries m)) refl e)
    where
      none : (b : Bool) → ltb lowest (entries m) ≡ b → cond b (refused 53 lowest) accepted ≡ accepted → entries m ≤ lowest
      none true d h = let z : ◌≡◌ {A = ℕ} 0 1 = cc in absurd (omega arith)
      none false d h = ltb-false lowest (entries m) d

  pub right-passed : ((i : ℕ) → i < entries m → T (not (wrong N (variables t) m i))) → check_measurements N t m ≡ accepted
  unfolding check_measurements
  right-passed h =
      ⊎_elim
      (λ (l : lowest < entries m).
      absurd (T_not (wrong N (variables t) m lowest) (h lowest l) (least-lowest (entries m) (wrong N (variables t) m) l).0))
      (λ (l : entries m ≤ lowest). ap (λ (b : Bool). cond b (refused 53 lowest) accepted) (le-ltb lowest (entries m) l))
      (lt-or-le lowest (entries m))
