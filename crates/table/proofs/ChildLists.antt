-- The children of a node from a place on, for walks that go from the last child down.
use Prim.Native.Nat.{ℕ, zero, suc, ◌-◌, ◌<◌, ◌≤◌}
use mathlib.Core.Path.{◌≡◌, ap, ◌∙◌}
use mathlib.Core.List.{List, [], ◌∷◌}
use native.Mathlib.Omega.{arith}
use lib.ListN.{length, get_or, drop, drop_of_length-le}
use lib.Seq.{drop-cons, get_or-take, length-take-le}
use Rattle.table.specs.Gate.{child_list}
use Rattle.table.specs.declared.layout.Children.{Children}

module _ (cs : Children) (room : cs.count ≤ length cs.nodes) where
  -- the children from place k on
  abbrev pub from : ℕ → List ℕ
  from k = drop k (child_list cs)

  pub list_length : length (child_list cs) ≡ cs.count
  list_length = length-take-le cs.count cs.nodes room

  pub none_left : from cs.count ≡ []
  none_left =
      let h : length (child_list cs) ≤ cs.count = omega (arith, list_length) in
      drop_of_length-le (child_list cs) h

  -- one child more
  pub one_more : (k : ℕ) → 0 < k → k ≤ cs.count → from (k - 1) ≡ get_or cs.nodes (k - 1) 0 ∷ from k
  one_more zero p l = absurd (omega arith)
  one_more (suc k) p l =
      let one : suc k - 1 ≡ k = omega arith in
      let h : k < length (child_list cs) = omega (arith, list_length) in
      rw one
      (drop-cons (child_list cs) k 0 h ∙ ap (λ (x : ℕ). x ∷ from (suc k)) (get_or-take cs.count cs.nodes k 0 l))
