-- A node's part of the buffers, and its children's terms there, as the table of listed nodes gives them.
use Prim.Native.Nat.{ℕ, ◌+◌, ◌*◌, ◌≤◌, ◌<◌}
use mathlib.Core.Path.{◌≡◌, sym, ap, subst, ◌∙◌}
use mathlib.Core.Bool.{Bool, true, false}
use mathlib.Core.List.{List, []}
use native.Mathlib.Nat.{le_refl, le_trans, le_of_eq, mul-le-mul_right, suc-mul}
use native.Mathlib.Numerals.{add-one}
use native.Mathlib.Omega.{arith}
use lib.ListN.{length, get_or}
use Rattle.table.specs.Gate.{ChildrenBelow}
use Rattle.table.specs.Layout.{words_at}
use Rattle.table.specs.Node.{max_nodes}
use Rattle.table.specs.declared.gates.Decoded.{Decoded}
use Rattle.table.specs.declared.layout.Children.{Children}
use Rattle.table.proofs.Encoding.{node-children, child-word}
use Rattle.circuits.specs.Function.{signed_function}
use Rattle.circuits.proofs.Accepted.{nodes-le, Accepted}
use Rattle.lists.specs.Capacity.{max_capacity}
use Rattle.nodes.specs.Part.{node_made, NodeGiven, places, child_from, child_size, child_terms, terms_from, Laid, IsPart}
use Rattle.nodes.specs.declared.NodePart.{NodePart}
use Rattle.nodes.proofs.Exact.{given, made-exact}
use Rattle.listing.specs.Listing.{node_primes}
use Rattle.listing.proofs.Table.{State, state-length, state-counts, count-le, terms-back}

module _ {N n : ℕ} {w : List ℕ} (acc : Accepted N n w) (c : Bool) {R i : ℕ} {s : Bool → List ℕ} {cs : List ℕ}
    (st : State [] N (signed_function c w) R n i s cs) (lt : i < n) (small : R ≤ max_capacity) where
  -- the part of a node up to i stands in the buffers
  pub part-fits : (a : ℕ) → a ≤ i → (b : Bool) → a * R + R ≤ length (s b)
  part-fits a h b =
      let m : a * R ≤ i * R = mul-le-mul_right R h in
      let k : (i + 1) * R ≤ n * R = mul-le-mul_right R (omega arith) in
      let e : length (s b) ≡ n * R = state-length st (omega arith) b in
      let d : (i + 1) * R ≡ i * R + R = next-part i in
      omega (arith, m, k, e, d)
    where
      next-part : (i : ℕ) → (i + 1) * R ≡ i * R + R
      next-part i = ap (λ (m : ℕ). m * R) (add-one i) ∙ suc-mul i R

  -- the part of a node below i stands before its own
  part-before : (a : ℕ) → a < i → a * R + R ≤ i * R
  part-before a h =
      let m : (a + 1) * R ≤ i * R = mul-le-mul_right R (omega arith) in
      omega (arith, m, ap (λ (k : ℕ). k * R) (add-one a) ∙ suc-mul a R)

  module _ (p : NodePart) (is : IsPart c w i R p) where
    same : p.children ≡ (words_at w i).children
    same = ap (λ (z : Decoded). z.children) is.node

    children : ChildrenBelow i p.children
    children = subst (ChildrenBelow i) (sym same) (node-children N i w (acc.well i lt))

    word-le : (j : ℕ) → get_or p.children.nodes j 0 ≤ i
    word-le j = subst (λ (z : Children). get_or z.nodes j 0 ≤ i) (sym same) (child-word N i w (acc.well i lt) j)

    from_is : (j : ℕ) → child_from p j ≡ get_or p.children.nodes j 0 * R
    from_is j = ap (λ (m : ℕ). get_or p.children.nodes j 0 * m) is.capacity-is

    size-le : (j : ℕ) → child_size cs p j ≤ R
    size-le j = count-le st lt (get_or p.children.nodes j 0)

    pub part_lies : Laid s cs p
    part_lies =
        let most : n ≤ max_nodes = nodes-le acc in
        let long : length cs ≡ n = state-counts st (omega arith) in
        record {
          small = omega (arith, is.capacity-is);
          inside = omega (arith, is.capacity-is, is.at, part-fits i (le_refl i) true);
          even = state-length st (omega arith) false ∙ sym (state-length st (omega arith) true);
          few = children.few;
          sizes = λ j. omega (arith, is.capacity-is, size-le j);
          below = λ j l.
              omega (arith, is.capacity-is, is.at, from_is j, part-before (get_or p.children.nodes j 0) (children.each j l));
          nodes = le_trans (le_of_eq long) most;
          words = λ j. omega (arith, word-le j, long);
          there = λ j. omega (arith, is.capacity-is, from_is j, part-fits (get_or p.children.nodes j 0) (word-le j) true);
        }

    -- the sign of the part is that of the listing
    signs : (d : ℕ) → node_primes [] N (signed_function p.sign w) d ≡ node_primes [] N (signed_function c w) d
    signs d = ap (λ (b : Bool). node_primes [] N (signed_function b w) d) is.sign-is

    listed : (j : ℕ) → j < p.children.count
        → child_terms s cs p j ≡ node_primes [] N (signed_function p.sign w) (get_or p.children.nodes j 0)
    listed j l =
        let d : ℕ = get_or p.children.nodes j 0 in
        ap (λ (from : ℕ). terms_from s from (child_size cs p j)) (from_is j) ∙ terms-back st lt d (children.each j l) ∙ sym (signs d)

    pub part-given : NodeGiven p.sign p.gate (child_terms s cs p) (places p.gate p.children.count)
    part-given = given acc i lt s cs p is.node part_lies listed

    pub part-made : node_made p.sign p.gate p.children.count (child_terms s cs p) ≡ node_primes [] N (signed_function c w) i
    part-made = made-exact acc i lt s cs p is.node part_lies listed ∙ signs i
