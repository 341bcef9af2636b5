-- One node of an accepted table: its children's terms are what is taken for granted of them, and what is made of them is its own.
use Prim.Native.Nat.{ℕ, suc, ◌+◌, ◌-◌, ◌<◌, ◌≤◌}
use mathlib.Core.Path.{◌≡◌, sym, ap, ap₂, subst, ◌∙◌}
use mathlib.Core.Bool.{Bool, true, false}
use mathlib.Core.List.{List, [], ◌∷◌, Memᴰ}
use native.Mathlib.Nat.{add-zero}
use native.Mathlib.Omega.{arith}
use lib.Dec.{T, eqb→eq}
use lib.ListN.{length, get_or, drop, length-drop}
use lib.Seq.{drop-cons, get_or-drop, get_or-take}
use Rattle.masks.proofs.Tests.{and_l, and_r, not-not}
use Rattle.table.specs.Gate.{gate, gate_of, decoded_at, child_list}
use Rattle.table.specs.Layout.{max_children, words_at}
use Rattle.table.specs.Node.{kind, decode, node_at, Kind, constant_kind, literal_kind, decision_kind, conjunction_kind, unknown_kind}
use Rattle.table.specs.Node.{literal, decision, conjunction, unknown}
use Rattle.table.specs.Words.{count_fits, well_formed, malformed}
use Rattle.table.specs.declared.gates.Decoded.{Decoded}
use Rattle.table.specs.declared.gates.Gate.{Gate}
use Rattle.table.specs.declared.gates.Gate.TheVariants.{Constant, Literal, Decision, Conjunction, Unknown}
use Rattle.table.specs.declared.layout.Children.{Children}
use Rattle.table.specs.declared.layout.NodeWords.{NodeWords}
use Rattle.table.proofs.ChildLists.{list_length}
use Rattle.table.proofs.Encoding.{Fits}
use Rattle.table.proofs.NodePlaces.{eight-long}
use Rattle.terms.specs.Joins.{decision_terms}
use Rattle.terms.specs.Lists.{sort, Rising}
use Rattle.terms.specs.Order.{before}
use Rattle.terms.specs.Prime.{primes, Lists}
use Rattle.terms.specs.declared.Term.{Term}
use Rattle.terms.proofs.Embeddings.{embeds-length}
use Rattle.terms.proofs.Implicants.{free-unmentioned}
use Rattle.terms.proofs.Listed.{primes-lists, primes-rising}
use Rattle.circuits.specs.Function.{signed_function}
use Rattle.circuits.proofs.Accepted.{variables-wide, Accepted}
use Rattle.circuits.proofs.Conjoined.{apart-rest, apart-drop, conjunction-apart, rest_up, all-rows, Apart}
use Rattle.circuits.proofs.Nodes.{node-fits}
use Rattle.circuits.proofs.Rows.{constant-rows, literal-rows, decision-rows, alone-rows, conjunction-rows}
use Rattle.circuits.proofs.Signed.{signed_all, side-free}
use Rattle.settling.specs.Sides.{Sides}
use Rattle.nodes.specs.Part.{gate_made, PairGiven, places, made_from, node_made, child_terms, NodeGiven, Laid}
use Rattle.nodes.specs.declared.NodePart.{NodePart}

-- two lists of all prime implicants
abbrev sides-of : {N n : ℕ} {w : List ℕ} → Accepted N n w → (a b : List Term) (f g : ℕ → Bool) → a ≡ primes [] N f
    → b ≡ primes [] N g → Sides a b
sides-of {N} acc a b f g q r =
    record {
      variables = N;
      wide = variables-wide acc;
      low = f;
      high = g;
      lists-low = subst (Lists N f) (sym q) (primes-lists [] N f);
      lists-high = subst (Lists N g) (sym r) (primes-lists [] N g);
      rising-low = subst (Rising (before [])) (sym q) (primes-rising [] N f);
      rising-high = subst (Rising (before [])) (sym r) (primes-rising [] N g);
    }

module _ {N n : ℕ} {w : List ℕ} (acc : Accepted N n w) (c : Bool) where
  -- the prime implicants of a node, and of a conjunction of nodes
  abbrev rows : ℕ → List Term
  rows d = primes [] N (signed_function c w d)

  abbrev rows_all : List ℕ → List Term
  rows_all ds = primes [] N (signed_all c w ds)

  -- what is made of nodes with no variable in common has the prime implicants of their conjunction, or of its negation
  made-primes : (l : List ℕ) (v : ℕ → List Term) (k : ℕ) → 1 ≤ length l
      → ((j : ℕ) → j < length l → v (k + j) ≡ rows (get_or l j 0)) → Apart acc l
      → made_from c Conjunction v k (length l) ≡ rows_all l
  made-primes [] v k some h a = absurd (omega arith)
  made-primes (d ∷ []) v k some h a = ap v (sym (add-zero k)) ∙ h 0 (omega arith) ∙ alone-rows acc [] c d
  made-primes (d ∷ e ∷ l) v k some h a =
      let rest : made_from c Conjunction v (suc k) (length (e ∷ l)) ≡ rows_all (e ∷ l) =
      made-primes (e ∷ l) v (suc k) (omega arith)
      (λ j lt. let q : k + suc j ≡ suc k + j = omega arith in ap v (sym q) ∙ h (suc j) (omega arith)) (apart-rest acc d (e ∷ l) a) in
      ap₂ (gate_made c Conjunction) (ap v (sym (add-zero k)) ∙ h 0 (omega arith)) rest ∙ all-rows acc d (e ∷ l) a [] c

  module _ (i : ℕ) (l : i < n) (cs : Children) (long : length cs.nodes ≡ max_children) (few : cs.count ≤ max_children)
      (v : ℕ → List Term) (h : (j : ℕ) → j < cs.count → v j ≡ rows (get_or cs.nodes j 0)) where
    abbrev list : List ℕ
    list = child_list cs

    -- what is made of a conjunction of them: of some places from one on
    abbrev made : ℕ → ℕ → List Term
    made = made_from c Conjunction v

    list-long : length list ≡ cs.count
    list-long = list_length cs (omega arith)

    at_place : (j : ℕ) → j < length list → v j ≡ rows (get_or list j 0)
    at_place j lt =
        let m : j < cs.count = omega (arith, list-long) in
        h j m ∙ ap rows (sym (get_or-take cs.count cs.nodes j 0 m))

    -- what is made from a place on
    module _ (e : node_at w i ≡ conjunction list) where
      apart : (k : ℕ) → Apart acc (drop k list)
      apart k = apart-drop acc k list (conjunction-apart acc i list l e)

      from_place : (k : ℕ) → k < length list → made k (length list - k) ≡ rows_all (drop k list)
      from_place k lt =
          let d : length (drop k list) ≡ length list - k = length-drop k list in
          ap (made k) (sym d)
          ∙ made-primes (drop k list) v k (omega arith)
          (λ j m. at_place (k + j) (omega arith) ∙ ap rows (sym (get_or-drop k list j 0))) (apart k)

      children-conjoined : 2 ≤ length list → NodeGiven c Conjunction v cs.count
      children-conjoined two =
          record {
            two = omega (arith, list-long);
            pairs = λ k m q. pair k m (q ∙ sym list-long);
            grows = λ k m q. more k (suc m) (q ∙ sym list-long);
          }
        where
          split : (k : ℕ) → k < length list → drop k list ≡ get_or list k 0 ∷ drop (suc k) list
          split k lt = drop-cons list k 0 lt

          after : (k m : ℕ) → k + suc (suc m) ≡ length list → made (suc k) (suc m) ≡ rows_all (drop (suc k) list)
          after k m q =
              let d : suc m ≡ length list - suc k = omega arith in
              ap (made (suc k)) d ∙ from_place (suc k) (omega arith)

          here : (k m : ℕ) → k + suc (suc m) ≡ length list → made k (suc (suc m)) ≡ rows_all (drop k list)
          here k m q =
              let d : suc (suc m) ≡ length list - k = omega arith in
              ap (made k) d ∙ from_place k (omega arith)

          pair : (k m : ℕ) → k + suc (suc m) ≡ length list → Sides (v k) (made (suc k) (suc m))
          pair k m q =
              sides-of acc (v k) (made (suc k) (suc m)) (signed_function c w (get_or list k 0)) (signed_all c w (drop (suc k) list))
              (at_place k (omega arith)) (after k m q)

          more : (k m : ℕ) → k + suc (suc m) ≡ length list → length (made (suc k) (suc m)) ≤ length (made k (suc (suc m)))
          more k m q =
              let d : ℕ = get_or list k 0 in
              let rest : List ℕ = drop (suc k) list in
              let s : drop k list ≡ d ∷ rest = split k (omega arith) in
              subst (λ (z : List Term). length z ≤ length (made k (suc (suc m)))) (sym (after k m q))
              (subst (λ (z : List Term). length (rows_all rest) ≤ length z)
              (sym (here k m q ∙ ap rows_all s))
              (embeds-length N [] [] (signed_all c w rest) (signed_all c w (d ∷ rest))
              (rest_up acc d rest (subst (Apart acc) s (apart k)) c)))

      conjunction-made : 2 ≤ length list → made 0 cs.count ≡ rows i
      conjunction-made two =
          let d : cs.count ≡ length list - 0 = omega (arith, list-long) in
          ap (made 0) d ∙ from_place 0 (omega arith) ∙ conjunction-rows acc [] c i list l e

    -- ---- by the kind of the node
    module _ (x : ℕ) where
      abbrev low : ℕ
      low = get_or cs.nodes 0 0

      abbrev high : ℕ
      high = get_or cs.nodes 1 0

      by_kind : (k : Kind) → T (count_fits k cs.count) → node_at w i ≡ decode k x cs
          → node_made c (gate k x low high) cs.count v ≡ rows i
      by_kind (constant_kind b) fit e = constant-rows acc [] c i b l e
      by_kind (literal_kind b) fit e = literal-rows acc [] c i b x l e
      by_kind decision_kind fit e =
          let two : cs.count ≡ 2 = eqb→eq cs.count 2 fit in
          ap₂ (λ (p q : List Term). sort (before []) (decision_terms x p q)) (h 0 (omega arith)) (h 1 (omega arith))
          ∙ decision-rows acc [] c i x low high l e
      by_kind conjunction_kind fit e =
          let f : Fits N i (conjunction list) = node-fits acc i (conjunction list) l e in conjunction-made e f.0
      by_kind unknown_kind fit e = absurd (node-fits acc i unknown l e)

-- ---- node i, whose part is p, in buffers s that hold its children's prime implicants
module _ {N n : ℕ} {w : List ℕ} (acc : Accepted N n w) (i : ℕ) (l : i < n) (s : Bool → List ℕ) (counts : List ℕ) (p : NodePart)
    (is : record { gate = p.gate; children = p.children } ≡ decoded_at w i) (lies : Laid s counts p)
    (h : (j : ℕ) → j < p.children.count
    → child_terms s counts p j ≡ primes [] N (signed_function p.sign w (get_or p.children.nodes j 0))) where
  abbrev node_of : ℕ → ℕ → Bool
  node_of = signed_function p.sign w

  abbrev y : NodeWords
  y = words_at w i

  abbrev k : Kind
  k = kind y.kind

  abbrev cs : Children
  cs = p.children

  same : cs ≡ y.children
  same = ap (λ (z : Decoded). z.children) is

  fit : T (well_formed N i y)
  unfolding malformed
  fit = not-not (well_formed N i y) (acc.well i l)

  counted : T (count_fits k cs.count)
  counted = subst (λ (z : Children). T (count_fits k z.count)) (sym same) (let f = fit in search (and_l, and_r))

  long : length cs.nodes ≡ max_children
  long = ap (λ (z : Children). length z.nodes) same ∙ eight-long w i

  node : node_at w i ≡ decode k y.variable cs
  unfolding node_at
  node = ap (decode k y.variable) (sym same)

  gated : p.gate ≡ gate k y.variable (get_or cs.nodes 0 0) (get_or cs.nodes 1 0)
  unfolding gate_of
  gated =
      ap (λ (z : Decoded). z.gate) is
      ∙ ap (λ (z : Children). gate k y.variable (get_or z.nodes 0 0) (get_or z.nodes 1 0)) (sym same)

  -- what is made of it is its own
  pub made-exact : node_made p.sign p.gate cs.count (child_terms s counts p) ≡ primes [] N (node_of i)
  made-exact =
      ap (λ (g : Gate). node_made p.sign g cs.count (child_terms s counts p)) gated
      ∙ by_kind acc p.sign i l cs long lies.few (child_terms s counts p) h y.variable k counted node

  -- ---- what is taken for granted of its children's terms
  -- a gate of two lists
  two-lists : (g : Gate) → PairGiven g (child_terms s counts p 0) (child_terms s counts p 1)
      → NodeGiven p.sign g (child_terms s counts p) 2
  two-lists g h =
      record {
        two = omega arith;
        pairs = λ k m q.
            let zk : k ≡ 0 = omega arith in
            let zm : m ≡ 0 = omega arith in
            subst (λ (k : ℕ). PairGiven g (v k) (made_from p.sign g v (suc k) (suc m))) (sym zk)
            (subst (λ (m : ℕ). PairGiven g (v 0) (made_from p.sign g v 1 (suc m))) (sym zm) h);
        grows = λ k m q. absurd (omega arith);
      }
    where
      v : ℕ → List Term
      v = child_terms s counts p

  abbrev Gives : Gate → Type 0
  Gives g = NodeGiven p.sign g (child_terms s counts p) (places g cs.count)

  given-kind : (k : Kind) (x : ℕ) → T (count_fits k cs.count) → node_at w i ≡ decode k x cs
      → Gives (gate k x (get_or cs.nodes 0 0) (get_or cs.nodes 1 0))
  given-kind (constant_kind b) x fit e = two-lists (Constant b) tt
  given-kind (literal_kind b) x fit e =
      let f : x < N = node-fits acc i (literal b x) l e in two-lists (Literal b x) (omega (arith, variables-wide acc))
  given-kind decision_kind x fit e =
      let two : cs.count ≡ 2 = eqb→eq cs.count 2 fit in
      let a : ℕ = get_or cs.nodes 0 0 in
      let b : ℕ = get_or cs.nodes 1 0 in
      let f : Fits N i (decision x a b) = node-fits acc i (decision x a b) l e in
      let q : child_terms s counts p 0 ≡ primes [] N (node_of a) = h 0 (omega arith) in
      let r : child_terms s counts p 1 ≡ primes [] N (node_of b) = h 1 (omega arith) in
      two-lists (Decision x a b)
      (record {
        sides = sides-of acc (child_terms s counts p 0) (child_terms s counts p 1) (node_of a) (node_of b) q r;
        below = f.0;
        not_low = λ t m c k. free-unmentioned N (node_of a) x (side-free acc p.sign i x a b l e false) t
            ((primes-lists [] N (node_of a)).only t (subst (Memᴰ t) q m)) c k;
        not-high = λ t m c k. free-unmentioned N (node_of b) x (side-free acc p.sign i x a b l e true) t
            ((primes-lists [] N (node_of b)).only t (subst (Memᴰ t) r m)) c k;
      })
  given-kind conjunction_kind x fit e =
      let f : Fits N i (conjunction (child_list cs)) = node-fits acc i (conjunction (child_list cs)) l e in
      children-conjoined acc p.sign i l cs long lies.few (child_terms s counts p) h e f.0
  given-kind unknown_kind x fit e = two-lists Unknown tt

  pub given : Gives p.gate
  given = subst Gives (sym gated) (given-kind k y.variable counted node)
