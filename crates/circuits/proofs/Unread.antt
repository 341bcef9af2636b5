-- Words past those of the nodes are not read: tables that agree in the words of the nodes below n agree in all that is said of these.
use Prim.Native.Nat.{ℕ, zero, suc, ◌<◌, ◌≤◌}
use mathlib.Core.Path.{◌≡◌, refl, sym, ap, ap₂, ◌∙◌}
use mathlib.Core.Bool.{Bool, true, false, ◌&&◌, ◌||◌, not, cond}
use mathlib.Core.List.{List, [], ◌∷◌, ◌++◌, Memᴰ}
use native.Mathlib.Omega.{arith}
use lib.Dec.{T, ltb, leb, nltb→le, le→leb}
use lib.ListN.{length, get_or, take, length-append}
use lib.Seq.{length-take-le}
use Rattle.masks.specs.Mask.{bit, disjoint}
use Rattle.masks.specs.Numbers.{least}
use Rattle.masks.proofs.Numbers.{some-ext, least-ext, least-none}
use Rattle.masks.proofs.Tests.{is_true, along}
use Rattle.table.specs.Layout.{words_for, words_at}
use Rattle.table.specs.Node.{decode_words, node_at, children, Node, constant, literal, decision, conjunction, unknown}
use Rattle.table.specs.Outcome.{Outcome, refused}
use Rattle.table.specs.Words.{well_formed, variables_fit, in_range, malformed, first_fault}
use Rattle.table.specs.declared.layout.NodeWords.{NodeWords}
use Rattle.table.proofs.NodePlaces.{words-front}
use Rattle.terms.specs.Lists.{any}
use Rattle.circuits.specs.Check.{has_child, parentless, all_disjoint, node_meets, undecomposable, is_false, node_unreduced, unreduced}
use Rattle.circuits.specs.Check.{rules, check}
use Rattle.circuits.specs.Function.{bottom_up, of_node, node_value, function, node_support, support}
use Rattle.circuits.proofs.BottomUp.{branch-mem, union-local}
use Rattle.circuits.proofs.Tables.{WellFormed, children-below}

-- ---- rules 24 and 25 look only at the children
any-local : (cs : List ℕ) (p p' : ℕ → Bool) → ((c : ℕ) → Memᴰ c cs → p c ≡ p' c) → any p cs ≡ any p' cs
any-local [] p p' h = refl
any-local (c ∷ cs) p p' h = ap₂ ◌||◌ (h c (Memᴰ.head refl)) (any-local cs p p' (λ b m. h b (Memᴰ.tail m)))

disjoint-local : (cs : List ℕ) (v v' : ℕ → ℕ) → ((c : ℕ) → Memᴰ c cs → v c ≡ v' c) → all_disjoint v cs ≡ all_disjoint v' cs
disjoint-local [] v v' h = refl
disjoint-local (c ∷ cs) v v' h =
    let rest : (b : ℕ) → Memᴰ b cs → v b ≡ v' b = λ b m. h b (Memᴰ.tail m) in
    ap₂ ◌&&◌ (ap₂ disjoint (h c (Memᴰ.head refl)) (union-local cs v v' rest)) (disjoint-local cs v v' rest)

pub meets_local : (y : Node) (v v' : ℕ → ℕ) → ((c : ℕ) → Memᴰ c (children y) → v c ≡ v' c) → node_meets v y ≡ node_meets v' y
meets_local (constant b) v v' h = refl
meets_local (literal b x) v v' h = refl
meets_local (decision x a b) v v' h =
    ap₂ (λ (s t : ℕ). bit s x || bit t x) (h a (branch-mem a b false)) (h b (branch-mem a b true))
meets_local (conjunction cs) v v' h = ap not (disjoint-local cs v v' h)
meets_local unknown v v' h = refl

unreduced-local : (y : Node) (p p' : ℕ → Bool) → ((c : ℕ) → Memᴰ c (children y) → p c ≡ p' c)
    → node_unreduced p y ≡ node_unreduced p' y
unreduced-local (constant b) p p' h = refl
unreduced-local (literal b x) p p' h = refl
unreduced-local (decision x a b) p p' h = ap₂ ◌&&◌ (h a (branch-mem a b false)) (h b (branch-mem a b true))
unreduced-local (conjunction cs) p p' h = any-local cs p p' h
unreduced-local unknown p p' h = refl

-- a rule k that says the same of every node below n, before what is the same where no node breaks the rule
pub fault-same : (n k : ℕ) (p p' : ℕ → Bool) (o o' : Outcome (Unit {0})) → ((i : ℕ) → i < n → p' i ≡ p i)
    → (((i : ℕ) → i < n → T (not (p i))) → o' ≡ o)
    → cond (ltb (least n p') n) (refused k (least n p')) o' ≡ cond (ltb (least n p) n) (refused k (least n p)) o
fault-same n k p p' o o' e rest =
    ap (λ (i : ℕ). cond (ltb i n) (refused k i) o') (least-ext n p' p e) ∙ by (ltb (least n p) n) refl
  where
    by : (b : Bool) → ltb (least n p) n ≡ b → cond b (refused k (least n p)) o' ≡ cond b (refused k (least n p)) o
    by true d = refl
    by false d = rest (least-none n p (nltb→le (least n p) n (along (ap not (sym d)) tt)))

-- w' has the words of w at the nodes below n
abbrev pub SameNodes : ℕ → List ℕ → List ℕ → Type 0
SameNodes n w w' = (i : ℕ) → i < n → words_at w' i ≡ words_at w i

module _ (n : ℕ) (w w' : List ℕ) (same : SameNodes n w w') where
  pub node-same : (i : ℕ) → i < n → node_at w' i ≡ node_at w i
  unfolding node_at
  node-same i l = ap decode_words (same i l)

  -- ---- what is computed bottom up
  module _ {A : Type 0} (d : A) (f : Node → (ℕ → A) → A) where
    up_same : (m : ℕ) → m ≤ n → bottom_up d f w' m ≡ bottom_up d f w m
    unfolding bottom_up
    up_same zero l = refl
    up_same (suc m) l =
        ap₂ (λ (v : List A) (y : Node). v ++ (f y (λ c. get_or v c d) ∷ [])) (up_same m (omega arith)) (node-same m l)

    pub of-same : (i : ℕ) → i < n → of_node d f w' i ≡ of_node d f w i
    unfolding of_node
    of-same i l = ap (λ (v : List A). get_or v i d) (up_same (suc i) l)

  pub function-same : (i : ℕ) → i < n → function w' i ≡ function w i
  unfolding function
  function-same i l = λ j s. of-same false (node_value s) i l j

  pub support-same : (i : ℕ) → i < n → support w' i ≡ support w i
  unfolding support
  support-same i l = of-same 0 node_support i l

  -- ---- the rules
  pub malformed-same : (N i : ℕ) → i < n → malformed N w' i ≡ malformed N w i
  unfolding malformed
  malformed-same N i l = ap (λ (y : NodeWords). not (well_formed N i y)) (same i l)

  parentless-same : (i : ℕ) → parentless w' n i ≡ parentless w n i
  unfolding parentless
  parentless-same i =
      ap (λ (b : Bool). ltb (suc i) n && not b)
      (some-ext n (λ j. has_child i (node_at w' j)) (λ j. has_child i (node_at w j)) (λ j l. ap (has_child i) (node-same j l)))

  module _ (N : ℕ) (well : WellFormed N n w) where
    below : (i : ℕ) → i < n → (c : ℕ) → Memᴰ c (children (node_at w i)) → c < n
    below i l c m = let k : c < i = children-below N n w well i l c m in omega arith

    undecomposable-same : (i : ℕ) → i < n → undecomposable w' i ≡ undecomposable w i
    unfolding undecomposable
    undecomposable-same i l =
        ap (node_meets (support w')) (node-same i l)
        ∙ meets_local (node_at w i) (support w') (support w) (λ c m. support-same c (below i l c m))

    unreduced-same : (i : ℕ) → i < n → unreduced w' i ≡ unreduced w i
    unfolding unreduced
    unreduced-same i l =
        ap (node_unreduced (λ c. is_false (node_at w' c))) (node-same i l)
        ∙ unreduced-local (node_at w i) (λ c. is_false (node_at w' c)) (λ c. is_false (node_at w c))
        (λ c m. ap is_false (node-same c (below i l c m)))

  -- rules 24 and 25 look at children, which stand below n where no node breaks 22
  rules-same : (N : ℕ) → first_fault n (rules N n w') ≡ first_fault n (rules N n w)
  rules-same N =
      let accepts : Outcome (Unit {0}) = first_fault n [] in
      let last : List ℕ → Outcome (Unit {0}) = λ v. first_fault n ((25, unreduced v) ∷ []) in
      let later : List ℕ → Outcome (Unit {0}) = λ v. first_fault n ((24, undecomposable v) ∷ (25, unreduced v) ∷ []) in
      let nodes : List ℕ → Outcome (Unit {0}) =
      λ v. first_fault n ((23, parentless v n) ∷ (24, undecomposable v) ∷ (25, unreduced v) ∷ []) in
      fault-same n 22 (malformed N w) (malformed N w') (nodes w) (nodes w') (malformed-same N) (λ well.
      fault-same n 23 (parentless w n) (parentless w' n) (later w) (later w') (λ i l. parentless-same i) (λ h.
      fault-same n 24 (undecomposable w) (undecomposable w') (last w) (last w') (undecomposable-same N well) (λ h.
      fault-same n 25 (unreduced w) (unreduced w') accepts accepts (unreduced-same N well) (λ h. refl))))

  module _ (N : ℕ) (long : words_for n ≤ length w) (long' : words_for n ≤ length w') where
    pub range_same : in_range N n w' ≡ in_range N n w
    range_same =
        ap (λ (b : Bool). variables_fit N && leb 1 n && leb n 1024 && b)
        (is_true (leb (words_for n) (length w')) (le→leb (words_for n) (length w') long')
        ∙ sym (is_true (leb (words_for n) (length w)) (le→leb (words_for n) (length w) long)))

    pub check-same : check N n w' ≡ check N n w
    unfolding check
    check-same = ap₂ (λ (b : Bool) (o : Outcome (Unit {0})). cond b o (refused 21 0)) range_same (rules-same N)

-- ---- the words of n nodes, and any others after them
abbrev pub with_rest : ℕ → List ℕ → List ℕ → List ℕ
with_rest n w v = take (words_for n) w ++ v

module _ (n : ℕ) (w v : List ℕ) (long : words_for n ≤ length w) where
  pub rest-long : words_for n ≤ length (with_rest n w v)
  rest-long = omega (arith, length-take-le (words_for n) w long, length-append (take (words_for n) w) v)

  pub rest-same : SameNodes n w (with_rest n w v)
  rest-same i l = words-front n w v long i l
