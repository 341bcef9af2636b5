-- Laws of a table that meets neither 21 nor 22, and of the arrays that the passes fill.
use Prim.Native.Nat.{ℕ, suc, pred, ◌+◌, ◌-◌, ◌<◌, ◌≤◌}
use mathlib.Core.Path.{◌≡◌, refl, sym, ap, ap₂, subst, ◌∙◌}
use mathlib.Core.Bool.{Bool, true, false, ◌&&◌, cond}
use mathlib.Core.Logic.{⊎_elim}
use mathlib.Core.List.{List}
use native.Mathlib.Nat.{lt_of_lt_of_le, lt_irrefl}
use native.Mathlib.Omega.{arith}
use native.Mathlib.Numerals.{add-one, sub-one}
use lib.ListN.{length, get_or, set, length-set}
use lib.Seq.{get_or-set_same, get_or-set_other}
use Rattle.masks.specs.Mask.{width}
use Rattle.masks.proofs.Tests.{below_suc}
use Rattle.table.specs.Gate.{decoded_at, gate_node, ChildrenBelow}
use Rattle.table.specs.Layout.{words_for}
use Rattle.table.specs.Node.{max_nodes, node_at, Node, constant, literal, decision, conjunction, unknown}
use Rattle.table.specs.Words.{Readable}
use Rattle.table.specs.declared.gates.Decoded.{Decoded}
use Rattle.table.specs.declared.gates.Gate.{Gate}
use Rattle.table.proofs.Decoding.{node-read}
use Rattle.table.proofs.Encoding.{Fits, node-children}
use Rattle.terms.specs.Term.{has}
use Rattle.terms.specs.declared.Term.{Term}
use Rattle.circuits.specs.Function.{node_value, function, node_support, support}
use Rattle.circuits.proofs.BottomUp.{Local, from-children, branch-mem, all_local, value-local, support-local}
use Rattle.circuits.proofs.Tables.{fits, children-below, function_of, support-of}
use Rattle.passes.specs.Implied.{node_implied, implied_at}
use Rattle.passes.specs.Tables.{Holds}

pub implied-local : (t : Term) → Local (node_implied t)
implied-local t (constant b) v v' h = refl
implied-local t (literal b x) v v' h = refl
implied-local t (decision x a b) v v' h =
    ap₂ (λ (p q : Bool). cond (has t true x) q (cond (has t false x) p (p && q))) (h a (branch-mem a b false))
    (h b (branch-mem a b true))
implied-local t (conjunction cs) v v' h = all_local cs v v' h
implied-local t unknown v v' h = refl

-- what the reading of node i asks
pub readable-words : (n : ℕ) (w : List ℕ) → Readable n w → (i : ℕ) → i < n → (i < max_nodes) × (words_for (i + 1) ≤ length w)
readable-words n w r i l = let s = r.1 in (omega arith, omega arith)

fits_more : (N M i j : ℕ) → N ≤ M → i ≤ j → (y : Node) → Fits N i y → Fits M j y
fits_more N M i j p q (constant b) f = tt
fits_more N M i j p q (literal b x) f = lt_of_lt_of_le f p
fits_more N M i j p q (decision x a b) f = (lt_of_lt_of_le f.0 p, lt_of_lt_of_le f.1 q, lt_of_lt_of_le f.2 q)
fits_more N M i j p q (conjunction cs) f = (f.0, f.1, λ c m. lt_of_lt_of_le (f.2 c m) q)
fits_more N M i j p q unknown f = f

-- node i was read as r
pub record Read (n : ℕ) (w : List ℕ) (i : ℕ) (r : Decoded) : Type 0 where
  pub readable : Readable n w
  pub below : i < n
  pub is : r ≡ decoded_at w i

pub reading : {n : ℕ} {w : List ℕ} {i : ℕ} {r : Decoded} → Readable n w → i < n → r ≡ decoded_at w i → Read n w i r
reading a b e = record { readable = a; below = b; is = e }

-- its children stand below it
pub read-children : {n : ℕ} {w : List ℕ} {i : ℕ} {r : Decoded} → Read n w i r → ChildrenBelow i r.children
read-children {n} {w} {i} {r} h =
    subst (λ (z : Decoded). ChildrenBelow i z.children) (sym h.is)
    (node-children h.readable.0 i w (h.readable.1.well i h.below))

pub read-bounds : {n : ℕ} {w : List ℕ} {i : ℕ} {r : Decoded} → Read n w i r → ChildrenBelow max_nodes r.children
read-bounds {n} {w} {i} {r} h =
    let s = h.readable.1 in
    let l : i < n = h.below in
    let b : ChildrenBelow i r.children = read-children h in
    record { few = b.few; each = λ k m. let c : get_or r.children.nodes k 0 < i = b.each k m in omega arith }

module _ {n : ℕ} {w : List ℕ} {i : ℕ} {r : Decoded} {h : Gate} (read : Read n w i r) (d : r.gate ≡ h) where
  -- node i, by the case of the gate
  pub node-is : node_at w i ≡ gate_node h r.children
  node-is = sym (node-read w i r read.is d)

  pub gate-fits : Fits read.readable.0 i (gate_node h r.children)
  gate-fits =
      subst (Fits read.readable.0 i) node-is (fits read.readable.0 n w read.readable.1.well i read.below)

  -- its variable is below 64, its children below 1,024
  pub gate-bounds : Fits width max_nodes (gate_node h r.children)
  gate-bounds =
      let s = read.readable.1 in
      let l = read.below in
      fits_more read.readable.0 width i max_nodes (omega arith) (omega arith) (gate_node h r.children) gate-fits

  -- what a pass makes of node i, from the array that holds what it made of the nodes below
  pub from-array : {A : Type 0} (z : A) (f : Node → (ℕ → A) → A) → Local f → (F : ℕ → A) → F i ≡ f (node_at w i) F
      → (v : List A) → Holds z F i v → F i ≡ f (gate_node h r.children) (λ c. get_or v c z)
  from-array z f local F step v held =
      step
      ∙ local (node_at w i) F (λ c. get_or v c z)
      (λ c m. sym (held c (children-below read.readable.0 n w read.readable.1.well i read.below c m)))
      ∙ ap (λ (y : Node). f y (λ c. get_or v c z)) node-is

  -- the passes: values, variables under a node, and implicants
  pub value-from : (s : ℕ) (v : List Bool) → Holds false (λ c. function w c s) i v
      → node_value s (gate_node h r.children) (λ c. get_or v c false) ≡ function w i s
  value-from s v held =
      sym
      (from-array false (node_value s) (value-local s) (λ c. function w c s)
      (function_of read.readable.0 n w read.readable.1.well i read.below s) v held)

  pub support-from : (v : List ℕ) → Holds 0 (support w) i v → node_support (gate_node h r.children) (λ c. get_or v c 0) ≡ support w i
  support-from v held =
      sym
      (from-array 0 node_support support-local (support w)
      (support-of read.readable.0 n w read.readable.1.well i read.below) v held)

  pub implied-from : (t : Term) (v : List Bool) → Holds false (implied_at w t) i v
      → node_implied t (gate_node h r.children) (λ c. get_or v c false) ≡ implied_at w t i
  unfolding implied_at
  implied-from t v held =
      sym
      (from-array false (node_implied t) (implied-local t) (implied_at w t)
      (from-children false (node_implied t) w (implied-local t) i
      (children-below read.readable.0 n w read.readable.1.well i read.below)) v held)

-- ---- an array of 1,024 that is filled from the lowest node on
abbrev pub FilledTo : {A : Type 0} → A → (ℕ → A) → ℕ → List A → Type 0
FilledTo d f i l = (length l ≡ max_nodes) × Holds d f i l

-- one element more
pub filled_next : {A : Type 0} (d : A) (f : ℕ → A) (i : ℕ) (l : List A) (v : A) → i < max_nodes → FilledTo d f i l → v ≡ f i
    → FilledTo d f (i + 1) (set l i v)
filled_next d f i l v k (long, h) e = (length-set l i v ∙ long, rw add-one more)
  where
    more : Holds d f (suc i) (set l i v)
    more c m =
        ⊎_elim
        (λ (q : c ≡ i).
        subst (λ (z : ℕ). get_or (set l i v) z d ≡ f z) (sym q)
        (get_or-set_same l i v d (subst (λ (m : ℕ). i < m) (sym long) k) ∙ e))
        (λ (q : c < i). get_or-set_other l i c v d (λ z. lt_irrefl i (subst (λ (y : ℕ). y < i) z q)) ∙ h c q)
        (below_suc m)

-- the last of all n
pub last-held : {A : Type 0} (d : A) (f : ℕ → A) (n : ℕ) (l : List A) → 1 ≤ n → Holds d f n l → get_or l (n - 1) d ≡ f (pred n)
last-held d f n l p h = h (n - 1) (omega arith) ∙ ap f (sub-one n)
