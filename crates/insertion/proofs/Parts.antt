-- Lists of terms held in the front of two slices.
use Prim.Native.Nat.{ℕ, suc, ◌+◌, ◌<◌, ◌≤◌}
use mathlib.Core.Path.{◌≡◌, refl, sym, ap, subst, ◌∙◌}
use mathlib.Core.Bool.{Bool, true, false, cond}
use mathlib.Core.List.{List, [], ◌∷◌, ◌++◌}
use native.Mathlib.Omega.{arith}
use native.Mathlib.Numerals.{add-one}
use lib.Dec.{leb}
use lib.ListN.{length, take, drop, length-map, take-append-drop}
use lib.Seq.{length-take-le}
use borrow.Author.Tests.{leb-true, leb-false, le-leb, lt-leb}
use Rattle.std.specs.Prelude.{Some, None, Err}
use Rattle.terms.specs.Lists.{insert}
use Rattle.terms.specs.Order.{before}
use Rattle.terms.specs.Term.{mask, terms_of}
use Rattle.terms.specs.declared.Term.{Term}
use Rattle.lists.proofs.Parts.{length-terms}
use Rattle.lists.specs.List.{by_sign, held, slots}
use Rattle.lists.specs.declared.list.TermBuffer.{TermBuffer}
use Rattle.insertion.specs.Filled.{insert_at, Placed, masks_of, kept_of, Filled}
use Rattle.insertion.proofs.Inserted.{length-insert_at, map-insert_at}

masks-terms : (b : Bool) (ps ns : List ℕ) → length ns ≡ length ps → masks_of b (terms_of ps ns) ≡ by_sign ps ns b
masks-terms true [] ns e = refl
masks-terms true (p ∷ ps) [] e = absurd (omega arith)
masks-terms true (p ∷ ps) (n ∷ ns) e = ap (λ (z : List ℕ). p ∷ z) (masks-terms true ps ns (omega arith))
masks-terms false [] [] e = refl
masks-terms false [] (n ∷ ns) e = absurd (omega arith)
masks-terms false (p ∷ ps) [] e = absurd (omega arith)
masks-terms false (p ∷ ps) (n ∷ ns) e = ap (λ (z : List ℕ). n ∷ z) (masks-terms false ps ns (omega arith))

pub terms-masks : (l : List Term) → terms_of (masks_of true l) (masks_of false l) ≡ l
terms-masks [] = refl
terms-masks (t ∷ l) = ap (λ (z : List Term). t ∷ z) (terms-masks l)

pub length-masks : (b : Bool) (l : List Term) → length (masks_of b l) ≡ length l
length-masks b l = length-map l (λ t. mask t b)

-- both slices have the same number of entries
abbrev pub Even : (Bool → List ℕ) → Type 0
Even s = (b : Bool) → length (s b) ≡ length (s true)

pub even : (ps ns : List ℕ) → length ns ≡ length ps → Even (by_sign ps ns)
even ps ns e true = refl
even ps ns e false = e

pub even-slots : (b : TermBuffer) → Even (slots b)
even-slots b = even b.positives.now b.negatives.now b.same_length

module _ (s : Bool → List ℕ) (ev : Even s) (count : ℕ) (h : count ≤ length (s true)) where
  part : (b : Bool) → length (take count (s b)) ≡ count
  part b = length-take-le count (s b) (rw (ev b) h)

  pub length-held : length (held s count) ≡ count
  length-held = length-terms (take count (s true)) (take count (s false)) (part false ∙ sym (part true)) ∙ part true

  pub masks-held : (b : Bool) → masks_of b (held s count) ≡ take count (s b)
  masks-held true = masks-terms true (take count (s true)) (take count (s false)) (part false ∙ sym (part true))
  masks-held false = masks-terms false (take count (s true)) (take count (s false)) (part false ∙ sym (part true))

-- ---- what an answer says of the capacity
pub kept-count : (capacity : ℕ) (l : List Term) (c : ℕ) → Some c ≡ kept_of capacity l → (length l ≤ capacity) × (c ≡ length l)
kept-count capacity l c e = go (leb (length l) capacity) refl e
  where
    go : (b : Bool) → leb (length l) capacity ≡ b → Some c ≡ cond b (Some (length l)) None → (length l ≤ capacity) × (c ≡ length l)
    go true q e = (leb-true (length l) capacity q, cc)
    go false q e = absurd cc

pub kept_full : (capacity : ℕ) (l : List Term) → None ≡ kept_of capacity l → capacity < length l
kept_full capacity l e = go (leb (length l) capacity) refl e
  where
    go : (b : Bool) → leb (length l) capacity ≡ b → None ≡ cond b (Some (length l)) None → capacity < length l
    go true q e = absurd cc
    go false q e = leb-false (length l) capacity q

-- and the other way round
pub count_kept : (capacity : ℕ) (l : List Term) → length l ≤ capacity → Some (length l) ≡ kept_of capacity l
count_kept capacity l h = ap (λ (t : Bool). cond t (Some (length l)) None) (sym (le-leb (length l) capacity h))

pub full-kept : (capacity : ℕ) (l : List Term) → capacity < length l → None ≡ kept_of capacity l
full-kept capacity l h = ap (λ (t : Bool). cond t (Some (length l)) None) (sym (lt-leb (length l) capacity h))

-- ---- a list that was made, or does not fit
module _ (l : List Term) (s s' : Bool → List ℕ) where
  pub filled-count : (n : ℕ) → length l ≡ n → n ≤ length (s true) → ((b : Bool) → s' b ≡ masks_of b l ++ drop n (s b))
      → Filled l s s' (Some n)
  filled-count n e h m =
      record {
        answer =
            sym (ap (λ (k : ℕ). cond (leb k (length (s true))) (Some k) None) e
            ∙ ap (λ (b : Bool). cond b (Some n) None) (le-leb n (length (s true)) h));
        masks = λ _ b. m b ∙ ap (λ (k : ℕ). masks_of b l ++ drop k (s b)) (sym (length-masks b l ∙ e));
      }

  pub filled-full : length (s true) < length l → Filled l s s' None
  filled-full h =
      record {
        answer = sym (ap (λ (b : Bool). cond b (Some (length l)) None) (lt-leb (length l) (length (s true)) h));
        masks = λ k b. absurd (omega arith);
      }

module _ (s : Bool → List ℕ) (ev : Even s) (count : ℕ) (h : count ≤ length (s true)) where
  pub filled_none : Filled (held s count) s s (Some count)
  filled_none =
      filled-count (held s count) s s count (length-held s ev count h) h
      (λ b. sym (ap (λ (z : List ℕ). z ++ drop count (s b)) (masks-held s ev count h b) ∙ take-append-drop count (s b)))

  -- ---- what an insertion leaves
  module _ (t : Term) where
    pub filled-present : insert (before []) t (held s count) ≡ held s count → Filled (insert (before []) t (held s count)) s s (Some count)
    filled-present e = subst (λ (l : List Term). Filled l s s (Some count)) (sym e) filled_none

    module _ (k : ℕ) (p : Placed t (held s count) (Err k)) where
      length-put : length (insert_at k t (held s count)) ≡ count + 1
      length-put = length-insert_at k t (held s count) ∙ ap suc (length-held s ev count h) ∙ sym (add-one count)

      pub filled_at : (s' : Bool → List ℕ) → count < length (s true)
          → ((b : Bool) → s' b ≡ insert_at k (mask t b) (take count (s b)) ++ drop (count + 1) (s b))
          → Filled (insert (before []) t (held s count)) s s' (Some (count + 1))
      filled_at s' lt m =
          subst (λ (l : List Term). Filled l s s' (Some (count + 1))) (sym p.1)
          (filled-count (insert_at k t (held s count)) s s' (count + 1) length-put (omega arith)
          (λ b. m b
          ∙ ap (λ (z : List ℕ). z ++ drop (count + 1) (s b))
          (sym (map-insert_at (λ t. mask t b) k t (held s count) ∙ ap (insert_at k (mask t b)) (masks-held s ev count h b)))))

      pub filled-over : length (s true) ≤ count → Filled (insert (before []) t (held s count)) s s None
      filled-over le =
          subst (λ (l : List Term). Filled l s s None) (sym p.1)
          (filled-full (insert_at k t (held s count)) s s (omega (arith, length-put)))
