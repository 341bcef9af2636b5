-- Terms inserted one after the other, and what is left in the slices when one list after another was inserted.
use Prim.Native.Nat.{ℕ, ◌≤◌}
use mathlib.Core.Path.{◌≡◌, refl, subst}
use mathlib.Core.Bool.{Bool, true}
use mathlib.Core.List.{List, [], ◌∷◌, ◌++◌}
use native.Mathlib.Nat.{le_refl, le_trans, lt_of_lt_of_le}
use lib.ListN.{length}
use Rattle.std.specs.Prelude.{Option, Some, None}
use Rattle.terms.specs.Lists.{insert, Rising}
use Rattle.terms.specs.Order.{before}
use Rattle.terms.specs.declared.Term.{Term}
use Rattle.terms.proofs.Listed.{inserted_rising}
use Rattle.insertion.specs.Filled.{Filled}
use Rattle.insertion.proofs.Again.{filled-held, filled-then}
use Rattle.insertion.proofs.Inserted.{length-insert}
use Rattle.insertion.proofs.Parts.{Even, kept_full, filled-full}
use Rattle.joins.specs.Added.{insert_all, Added}

pub insert_all-append : (l k acc : List Term) → insert_all (l ++ k) acc ≡ insert_all k (insert_all l acc)
insert_all-append [] k acc = refl
insert_all-append (t ∷ l) k acc = insert_all-append l k (insert (before []) t acc)

pub length-insert_all : (l acc : List Term) → length acc ≤ length (insert_all l acc)
length-insert_all [] acc = le_refl (length acc)
length-insert_all (t ∷ l) acc = le_trans (length-insert t acc) (length-insert_all l (insert (before []) t acc))

-- they stay in order
pub rises : (l acc : List Term) → Rising (before []) acc → Rising (before []) (insert_all l acc)
rises [] acc r = r
rises (t ∷ l) acc r = rises l (insert (before []) t acc) (inserted_rising [] t acc r)

-- ---- the list m was made in the front of s₀, which is s then
module _ (m : List Term) (s₀ s : Bool → List ℕ) (ev : Even s₀) (c : ℕ) (f : Filled m s₀ s (Some c)) where
  -- the terms of l inserted into it
  module _ (l : List Term) (s' : Bool → List ℕ) where
    pub added_then : (k : Option ℕ) → Added l s c s' k → Filled (insert_all l m) s₀ s' k
    added_then k g =
        filled-then m s₀ s ev c f (insert_all l m) s' k (length-insert_all l m)
        (subst (λ (z : List Term). Filled (insert_all l z) s s' k) (filled-held m s₀ s ev c f) g)

    -- where they do not fit, what is to be inserted after them does not fit either
    pub added_full : (rest : List Term) (s'' : Bool → List ℕ) → Added l s c s' None → Filled (insert_all rest (insert_all l m)) s₀ s'' None
    added_full rest s'' g =
        filled-full (insert_all rest (insert_all l m)) s₀ s''
        (lt_of_lt_of_le (kept_full (length (s₀ true)) (insert_all l m) (added_then None g).answer)
        (length-insert_all rest (insert_all l m)))
