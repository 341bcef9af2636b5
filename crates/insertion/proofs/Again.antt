-- What is left in slices when a list was made in their front, and then a longer one.
use Prim.Native.Nat.{ℕ, ◌+◌, ◌-◌, ◌≤◌}
use mathlib.Core.Path.{◌≡◌, sym, ap, ap₂, ◌∙◌}
use mathlib.Core.Bool.{Bool, true, false}
use mathlib.Core.List.{List, ◌++◌}
use native.Mathlib.Omega.{arith}
use lib.ListN.{length, take, drop, length-append, length-drop}
use lib.Seq.{take_at, drop_at, drop-drop}
use Rattle.std.specs.Prelude.{Option, Some}
use Rattle.terms.specs.Term.{terms_of}
use Rattle.terms.specs.declared.Term.{Term}
use Rattle.lists.specs.List.{held}
use Rattle.insertion.specs.Filled.{masks_of, kept_of, Filled}
use Rattle.insertion.proofs.Parts.{terms-masks, length-masks, Even, kept-count}

drop_more : (a b : ℕ) (x y : List ℕ) → a ≤ b → drop a x ≡ drop a y → drop b x ≡ drop b y
drop_more a b x y h e =
    let n : b ≡ a + (b - a) = omega arith in
    ap (λ (k : ℕ). drop k x) n ∙ sym (drop-drop (b - a) a x) ∙ ap (drop (b - a)) e ∙ drop-drop (b - a) a y
    ∙ ap (λ (k : ℕ). drop k y) (sym n)

-- ---- the list m was made in the front of s₀, which is s then
module _ (m : List Term) (s₀ s : Bool → List ℕ) (ev : Even s₀) (c : ℕ) (f : Filled m s₀ s (Some c)) where
  told : (length m ≤ length (s₀ true)) × (c ≡ length m)
  told = kept-count (length (s₀ true)) m c f.answer

  is-laid : (b : Bool) → s b ≡ masks_of b m ++ drop c (s₀ b)
  is-laid b = f.masks told.0 b ∙ ap (λ (k : ℕ). masks_of b m ++ drop k (s₀ b)) (length-masks b m ∙ sym told.1)

  size : (b : Bool) → length (masks_of b m) ≡ c
  size b = length-masks b m ∙ sym told.1

  pub filled-length : (b : Bool) → length (s b) ≡ length (s₀ b)
  filled-length b =
      let h : c ≤ length (s₀ b) = omega (arith, told, ev b) in
      ap length (is-laid b) ∙ length-append (masks_of b m) (drop c (s₀ b))
      ∙ ap₂ ◌+◌ (size b) (length-drop c (s₀ b)) ∙ omega arith

  pub filled-fits : c ≤ length (s true)
  filled-fits = omega (arith, told, filled-length true)

  -- the first entries hold it
  pub filled-held : held s c ≡ m
  filled-held =
      ap₂ terms_of (front true) (front false) ∙ terms-masks m
    where
      front : (b : Bool) → take c (s b) ≡ masks_of b m
      front b = ap (take c) (is-laid b) ∙ take_at (masks_of b m) (drop c (s₀ b)) c (size b)

  -- a longer list made after it is made in s₀
  pub filled-then : (l : List Term) (s' : Bool → List ℕ) (k : Option ℕ) → length m ≤ length l → Filled l s s' k → Filled l s₀ s' k
  filled-then l s' k more g =
      record {
        answer = g.answer ∙ ap (λ (n : ℕ). kept_of n l) (filled-length true);
        masks = λ h b. g.masks (rw (filled-length true) h) b ∙ ap (λ (z : List ℕ). masks_of b l ++ z) (past b);
      }
    where
      past : (b : Bool) → drop (length (masks_of b l)) (s b) ≡ drop (length (masks_of b l)) (s₀ b)
      past b =
          drop_more c (length (masks_of b l)) (s b) (s₀ b) (omega (arith, told, length-masks b l))
          (ap (drop c) (is-laid b) ∙ drop_at (masks_of b m) (drop c (s₀ b)) c (size b))
