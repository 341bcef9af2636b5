-- Laws of the rules of the check, by the gate that was read at a node.
use Prim.Native.Nat.{ℕ, ◌+◌, ◌<◌}
use mathlib.Core.Path.{◌≡◌, sym, ap, ap₂, subst, ◌∙◌}
use mathlib.Core.Bool.{Bool, true, false, ◌&&◌, ◌||◌, not, or-true, or-false, or_assoc, or_comm}
use mathlib.Core.Logic.{⊎_elim, ◌≢◌}
use mathlib.Core.List.{List, ◌∷◌}
use native.Mathlib.Omega.{arith}
use native.Mathlib.Numerals.{add-one}
use lib.Dec.{eqb, ltb}
use lib.ListN.{length, get_or, set, length-set, replicate, get_or-replicate}
use lib.Seq.{get_or-set_same, get_or-set_other}
use borrow.Author.Tests.{eq-eqb, ne_eqb}
use Rattle.masks.specs.Numbers.{some}
use Rattle.masks.proofs.Tests.{same?}
use Rattle.table.specs.Gate.{gate_node, child_list}
use Rattle.table.specs.Node.{max_nodes, node_at, children}
use Rattle.table.specs.declared.gates.Decoded.{Decoded}
use Rattle.table.specs.declared.gates.Gate.{Gate}
use Rattle.table.proofs.Encoding.{node-list}
use Rattle.terms.specs.Lists.{any}
use Rattle.circuits.specs.Check.{parentless, node_meets, undecomposable, is_false, node_unreduced, unreduced, has_child, is_child}
use Rattle.circuits.specs.Function.{support}
use Rattle.circuits.proofs.Tables.{children-below}
use Rattle.circuits.proofs.Unread.{meets_local}
use Rattle.passes.specs.Tables.{Holds}
use Rattle.passes.proofs.Readable.{node-is, Read}
use Rattle.checks.specs.Children.{Marked}

-- ---- 23: the marks of the children
set-mark : (l : List Bool) (a c : ℕ) → a < length l → get_or (set l a true) c false ≡ (get_or l c false || eqb c a)
set-mark l a c k =
    ⊎_elim
    (λ (e : c ≡ a).
    ap (λ (z : ℕ). get_or (set l a true) z false) e ∙ get_or-set_same l a true false k
    ∙ sym (ap (λ (t : Bool). get_or l c false || t) (eq-eqb c a e) ∙ or-true (get_or l c false)))
    (λ (n : c ≢ a).
    get_or-set_other l a c true false n
    ∙ sym (ap (λ (t : Bool). get_or l c false || t) (ne_eqb c a n) ∙ or-false (get_or l c false)))
    (same? c a)

-- one child more
pub marked_more : (l m : List Bool) (a : ℕ) (cs : List ℕ) → a < max_nodes → Marked l cs m → Marked l (a ∷ cs) (set m a true)
marked_more l m a cs k h =
    record {
      long = length-set m a true ∙ h.long;
      marks = λ c b.
          set-mark m a c (subst (λ (z : ℕ). a < z) (sym h.long) k)
          ∙ ap (λ (t : Bool). t || eqb c a) (h.marks c b)
          ∙ or_assoc (get_or l c false) (any (eqb c) cs) (eqb c a)
          ∙ ap (λ (t : Bool). get_or l c false || t) (or_comm (any (eqb c) cs) (eqb c a));
    }

pub marks-start : (w : List ℕ) → Holds false (is_child w 0) max_nodes (replicate max_nodes false)
unfolding some
marks-start w c k = get_or-replicate max_nodes c false false k

-- one node more
pub marks-next : (w : List ℕ) (j : ℕ) (cs : List ℕ) (l m : List Bool) → children (node_at w j) ≡ cs → Holds false (is_child w j) max_nodes l
    → Marked l cs m → Holds false (is_child w (j + 1)) max_nodes m
unfolding some
marks-next w j cs l m e h k c b =
    k.marks c b ∙ ap₂ (λ (x : Bool) (y : List ℕ). x || any (eqb c) y) (h c b) (sym e)
    ∙ or_comm (is_child w j c) (has_child c (node_at w j))
    ∙ ap (λ (i : ℕ). is_child w i c) (sym (add-one j))

pub parentless-test : (w : List ℕ) (n i : ℕ) (l : List Bool) → i < max_nodes → Holds false (is_child w n) max_nodes l
    → (ltb (i + 1) n && not (get_or l i false)) ≡ parentless w n i
unfolding parentless
parentless-test w n i l k h =
    ap₂ (λ (x : ℕ) (t : Bool). ltb x n && not t) (add-one i) (h i k)

-- the children of a node that was read
pub read-list : {n : ℕ} {w : List ℕ} {i : ℕ} {r : Decoded} → Read n w i r → children (node_at w i) ≡ child_list r.children
read-list {n} {w} {i} {r} h =
    node-list h.readable.0 i w (h.readable.1.well i h.below) ∙ sym (ap (λ (z : Decoded). child_list z.children) h.is)

-- ---- 24 and 25
module _ {n : ℕ} {w : List ℕ} {i : ℕ} {r : Decoded} {h : Gate} (read : Read n w i r) (d : r.gate ≡ h) where
  pub meets-from : (v : List ℕ) → Holds 0 (support w) n v → node_meets (λ c. get_or v c 0) (gate_node h r.children) ≡ undecomposable w i
  unfolding undecomposable
  meets-from v held =
      ap (node_meets (λ c. get_or v c 0)) (sym (node-is read d))
      ∙ meets_local (node_at w i) (λ c. get_or v c 0) (support w)
      (λ c m. let k : c < i = children-below read.readable.0 n w read.readable.1.well i read.below c m in
      let l : i < n = read.below in
      held c (omega arith))

  pub unreduced-from : node_unreduced (λ c. is_false (node_at w c)) (gate_node h r.children) ≡ unreduced w i
  unfolding unreduced
  unreduced-from = ap (node_unreduced (λ c. is_false (node_at w c))) (sym (node-is read d))
