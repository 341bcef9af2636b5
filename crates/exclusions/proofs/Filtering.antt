-- A list filtered turn by turn: what is kept so far, in front of zeros, and what is left to test.
use Prim.Native.Nat.{ℕ, suc, ◌+◌, ◌-◌, ◌<◌}
use mathlib.Core.Path.{◌≡◌, refl, sym, ap, ap₂, ◌∙◌}
use mathlib.Core.Bool.{Bool, true, false, cond}
use mathlib.Core.List.{List, [], ◌∷◌, ◌++◌, append-nil, map-append}
use native.Mathlib.Omega.{arith}
use lib.ListN.{length, set, replicate, length-append}
use lib.Seq.{append_snoc, set_at}
use Rattle.terms.specs.Term.{mask}
use Rattle.terms.specs.declared.Term.{Term}
use Rattle.insertion.specs.Filled.{masks_of}
use Rattle.insertion.proofs.Parts.{length-masks}
use Rattle.exclusions.specs.Exclusions.{respects, Exclusions}
use Rattle.exclusions.specs.Partners.{respecting, Filtered}

-- the list l is filtered up to `left`: count terms of it are kept, and stand in the slices s of R entries
pub record Filtering (e : Exclusions) (l left : List Term) (R : ℕ) (s : Bool → List ℕ) (count : ℕ) : Type 0 where
  pub kept : List Term
  pub whole : respecting e l ≡ kept ++ respecting e left
  pub number : count ≡ length kept
  pub masks : (b : Bool) → s b ≡ masks_of b kept ++ replicate (R - count) 0

module _ (e : Exclusions) (l : List Term) (R : ℕ) (s : Bool → List ℕ) where
  pub filtering-start : ((b : Bool) → s b ≡ replicate R 0) → Filtering e l l R s 0
  filtering-start h =
      let n : R ≡ R - 0 = omega arith in
      record { kept = []; whole = refl; number = refl; masks = λ b. h b ∙ ap (λ (k : ℕ). replicate k 0) n }

  module _ (count : ℕ) where
    pub filtering-end : {left : List Term} → left ≡ [] → Filtering e l left R s count → Filtered e l R s count
    filtering-end d f =
        let all : respecting e l ≡ f.kept = f.whole ∙ ap (λ (z : List Term). f.kept ++ respecting e z) d ∙ append-nil f.kept in
        let n : count ≡ length (respecting e l) = f.number ∙ ap length (sym all) in
        record {
          answer = n;
          masks = λ b. f.masks b ∙ ap₂ (λ (z : List Term) (k : ℕ). masks_of b z ++ replicate (R - k) 0) (sym all) n;
        }

    -- ---- a turn with the term t, and `rest` behind it
    -- s' and n are the slices and the count then
    module _ (t : Term) {left rest : List Term} (d : left ≡ t ∷ rest) (f : Filtering e l left R s count) (s' : Bool → List ℕ) (n : ℕ) where
      next : (b : Bool) → respects e t ≡ b
          → respecting e l ≡ f.kept ++ cond b (t ∷ respecting e rest) (respecting e rest)
      next b h =
          f.whole
          ∙ ap (λ (z : List Term). f.kept ++ respecting e z) d
          ∙ ap (λ (p : Bool). f.kept ++ cond p (t ∷ respecting e rest) (respecting e rest)) h

      pub filtering-skip : respects e t ≡ false → ((b : Bool) → s' b ≡ s b) → n ≡ count → Filtering e l rest R s' n
      filtering-skip h m q =
          record {
            kept = f.kept;
            whole = next false h;
            number = q ∙ f.number;
            masks = λ b. m b ∙ f.masks b ∙ ap (λ (k : ℕ). masks_of b f.kept ++ replicate (R - k) 0) (sym q);
          }

      pub filtering-keep : respects e t ≡ true → count < R → ((b : Bool) → s' b ≡ set (s b) count (mask t b)) → n ≡ count + 1
          → Filtering e l rest R s' n
      filtering-keep h g m q =
          record {
            kept = f.kept ++ (t ∷ []);
            whole = next true h ∙ sym (append_snoc f.kept t (respecting e rest));
            number = omega (arith, f.number, length-append f.kept (t ∷ []));
            masks = λ b. m b
                ∙ ap (λ (z : List ℕ). set z count (mask t b)) (f.masks b)
                ∙ stored b
                ∙ ap (λ (k : ℕ). masks_of b (f.kept ++ (t ∷ [])) ++ replicate (R - k) 0) (sym q);
          }
        where
          room : R - count ≡ suc (R - (count + 1))
          room = omega arith

          stored : (b : Bool) → set (masks_of b f.kept ++ replicate (R - count) 0) count (mask t b)
              ≡ masks_of b (f.kept ++ (t ∷ [])) ++ replicate (R - (count + 1)) 0
          stored b =
              ap (λ (k : ℕ). set (masks_of b f.kept ++ replicate k 0) count (mask t b)) room
              ∙ set_at (masks_of b f.kept) 0 (replicate (R - (count + 1)) 0) (mask t b) count (length-masks b f.kept ∙ sym f.number)
              ∙ sym (append_snoc (masks_of b f.kept) (mask t b) (replicate (R - (count + 1)) 0))
              ∙ ap (λ (z : List ℕ). z ++ replicate (R - (count + 1)) 0) (sym (map-append (λ t. mask t b) f.kept (t ∷ [])))
