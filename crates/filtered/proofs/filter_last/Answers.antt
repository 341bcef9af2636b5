-- `filtered::filter_last` meets its contract.
use Prim.Native.Nat.{ℕ, pred, ◌+◌, ◌-◌, ◌*◌, ◌^◌, ◌<◌, ◌≤◌}
use mathlib.Core.Path.{◌≡◌, refl, sym, ap, ap₂, subst, ◌∙◌}
use mathlib.Core.Bool.{Bool, true}
use mathlib.Core.List.{List}
use native.Mathlib.Nat.{le_trans, le_of_eq}
use native.Mathlib.Omega.{arith}
use lib.ListN.{length, get_or, take, drop, replicate, length-append, length-drop, length-replicate}
use lib.Seq.{length-take-le}
use Rattle.masks.proofs.Numbers.{product_le}
use Rattle.table.specs.Node.{max_nodes, max_variables}
use Rattle.terms.specs.Term.{terms_of}
use Rattle.terms.specs.declared.Term.{Term}
use Rattle.exclusions.specs.Exclusions.{exclusions, Exclusions}
use Rattle.exclusions.specs.Partners.{respecting, Filtered}
use Rattle.exclusions.proofs.Respects.{proper-wider}
use Rattle.lists.specs.Capacity.{max_capacity}
use Rattle.insertion.specs.Filled.{masks_of}
use Rattle.insertion.proofs.Parts.{length-masks}
use Rattle.listing.proofs.Last.{last-part}
use Rattle.listing.specs.declared.Shape.{Shape}
use Rattle.filtered.specs.Exact.{last_terms, LastHeld}
use Rattle.filtered.proofs.filter_last.Goals as goal

module _ (h : Shape) (ps ns cs : List ℕ) (held : LastHeld h ps ns cs) where
  abbrev n : ℕ
  n = h.nodes

  abbrev R : ℕ
  R = h.capacity

  -- where the last node's terms start, and how many they are
  abbrev from : ℕ
  from = (n - 1) * R

  abbrev size : ℕ
  size = get_or cs (n - 1) 0

  last : n - 1 ≡ pred n
  last = let some : 1 ≤ n = held.some in omega arith

  ends : from + R ≡ n * R
  ends = ap (λ (m : ℕ). m * R + R) last ∙ last-part n R held.some

  short : n * R ≤ max_nodes * max_capacity
  short = product_le n R max_nodes max_capacity held.most held.small

  few : size ≤ R
  few = le_trans (le_of_eq (ap (λ (m : ℕ). get_or cs m 0) last)) held.few

  -- the part that is lent, of either buffer: as long as the count says, and what the last node has there
  part_length : (old : List ℕ) → n * R ≤ length old → length (take (from + size - from) (drop from old)) ≡ size
  part_length old l =
      let d : from + size - from ≡ size = omega arith in
      ap (λ (m : ℕ). length (take m (drop from old))) d
      ∙ length-take-le size (drop from old) (le_trans few (omega (arith, ends, l, length-drop from old)))

  part : (old : List ℕ) → take (from + size - from) (drop from old) ≡ take (get_or cs (pred n) 0) (drop (pred n * R) old)
  part old =
      let d : from + size - from ≡ size = omega arith in
      ap (λ (m : ℕ). take m (drop from old)) d ∙ ap (λ (m : ℕ). take (get_or cs m 0) (drop (m * R) old)) last

  abbrev lent-terms : List Term
  lent-terms = terms_of (take (from + size - from) (drop from ps)) (take (from + size - from) (drop from ns))

  -- what the filter leaves in slices of m entries
  is-filtered : (e : Exclusions) (m : ℕ) (s : Bool → List ℕ) (k : ℕ) → m ≡ R → Filtered e lent-terms m s k
      → Filtered e (last_terms h ps ns cs) R s k
  is-filtered e m s k l f =
      subst (λ (t : List Term). Filtered e t R s k) (ap₂ terms_of (part ps) (part ns))
      (subst (λ (r : ℕ). Filtered e lent-terms r s k) l f)

-- no more than there is room for
few-kept : (e : Exclusions) (t : List Term) (R : ℕ) (s : Bool → List ℕ) (k : ℕ) → Filtered e t R s k → length (s true) ≡ R → k ≤ R
few-kept e t R s k f l =
    let kept : List Term = respecting e t in
    let long : length (s true) ≡ length kept + (R - length kept) =
    ap length (f.masks true) ∙ length-append (masks_of true kept) (replicate (R - length kept) 0)
    ∙ ap₂ ◌+◌ (length-masks true kept) (length-replicate (R - length kept) 0) in
    omega (arith, long, f.answer, l)

shown-length : (R : ℕ) (s : List ℕ) → s ≡ replicate R 0 → length s ≡ R
shown-length R s e = ap length e ∙ length-replicate R 0

pub fold-heads-requires : goal.fold-heads-requires
fold-heads-requires c =
    let h = c.requires.last_held in
    (refl, omega arith, proper-wider c.args.shape.variables max_variables (exclusions c.args.firsts.now c.args.seconds.now) h.1 h.2)

pub overflow_sub-last : goal.overflow_sub-last
overflow_sub-last c = c.requires.last_held.0.some

pub overflow_mul-at : goal.overflow_mul-at
overflow_mul-at c = let x = c.args in let h = c.requires.last_held.0 in
    omega (arith, ends x.shape _ _ _ h, short x.shape _ _ _ h)

pub bounds-counts-last : goal.bounds-counts-last
bounds-counts-last c = let h = c.requires.last_held.0 in omega (arith, h.some, h.counts)

pub overflow_cast-end : goal.overflow_cast-end
overflow_cast-end c = let x = c.args in let h = c.requires.last_held.0 in omega (arith, few x.shape _ _ _ h, h.small)

pub overflow_add-end : goal.overflow_add-end
overflow_add-end c = let x = c.args in let h = c.requires.last_held.0 in
    omega (arith, few x.shape _ _ _ h, ends x.shape _ _ _ h, short x.shape _ _ _ h)

pub offset_bounds-positives-at : goal.offset_bounds-positives-at
offset_bounds-positives-at c = let x = c.args in let h = c.requires.last_held.0 in
    omega (arith, ends x.shape _ _ _ h, short x.shape _ _ _ h)

pub offset_bounds-negatives-at : goal.offset_bounds-negatives-at
offset_bounds-negatives-at c = let x = c.args in let h = c.requires.last_held.0 in
    omega (arith, ends x.shape _ _ _ h, short x.shape _ _ _ h)

pub filter_in-requires : goal.filter_in-requires
filter_in-requires c =
    let x = c.args in
    let h = c.requires.last_held.0 in
    let R : ℕ = x.shape.capacity in
    let p = part_length x.shape _ _ _ h x.positives.now h.positives in
    let q = part_length x.shape _ _ _ h x.negatives.now h.negatives in
    let l = shown-length R x.shown_positives.now c.requires.shown_positives_value.0 in
    let zeros : ◌≡◌ {A = List ℕ} (replicate R 0) (replicate (length x.shown_positives.now) 0) =
    ap (λ (k : ℕ). replicate k 0) (sym l) in
    let f = c.fold-heads in
    let k : length f.new.partners ≡ 40 = f.auto.partners in
    let heads : f.result < 2 ^ length f.new.partners = subst (λ (k : ℕ). f.result < 2 ^ k) (sym k) f.ensures.1 in
    record {
      room = (le_trans (le_of_eq p) (le_trans (few x.shape _ _ _ h) (le_of_eq (sym l))), heads, omega (arith, k));
      zeros = (c.requires.shown_positives_value.0 ∙ zeros, c.requires.shown_positives_value.1 ∙ zeros);
    }

pub overflow_cast-result : goal.overflow_cast-result
overflow_cast-result c =
    let x = c.args in
    let h = c.requires.last_held.0 in
    let e : Exclusions = exclusions x.firsts.now x.seconds.now in
    let l = shown-length x.shape.capacity x.shown_positives.now c.requires.shown_positives_value.0 in
    let k = few-kept _ _ _ _ _ (is-filtered x.shape _ _ _ h e _ _ _ l (c.filter_in.ensures e c.fold-heads.ensures.0))
    (c.filter_in.auto.positives ∙ l) in
    omega (arith, k, h.small)

pub returns : goal.returns
returns c =
    let x = c.args in
    let e : Exclusions = exclusions x.firsts.now x.seconds.now in
    is-filtered x.shape _ _ _ c.requires.last_held.0 e _ _ c.filter_in.result
    (shown-length x.shape.capacity x.shown_positives.now c.requires.shown_positives_value.0)
    (c.filter_in.ensures e c.fold-heads.ensures.0)
