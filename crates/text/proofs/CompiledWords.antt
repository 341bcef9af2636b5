-- The nodes that a form stands for: how many there are, their words in the table, and the children that the reader collects.
use Prim.Native.Nat.{ℕ, suc, ◌+◌, ◌-◌, ◌<◌, ◌≤◌}
use mathlib.Core.Path.{◌≡◌, refl, sym, ap, ◌∙◌}
use mathlib.Core.List.{List, [], ◌∷◌, ◌++◌, append-nil, append_assoc}
use native.Mathlib.Nat.{add-zero}
use native.Mathlib.Omega.{arith}
use native.Mathlib.Numerals.{add-one}
use lib.ListN.{length, set, replicate, length-append}
use lib.Seq.{sets, set-append_seam}
use Rattle.table.specs.Layout.{max_children, words_for, word_list, put_words}
use Rattle.table.specs.Node.{children, children_words, encode, Node, constant, literal}
use Rattle.table.specs.declared.layout.Children.{Children}
use Rattle.table.specs.declared.layout.NodeWords.{NodeWords}
use Rattle.table.proofs.Encoding.{encode-wide}
use Rattle.table.proofs.NodePlaces.{list-long, sets-append}
use Rattle.text.specs.Faults.{nodes_in, nodes_in_all}
use Rattle.text.specs.Read.{no_children, with_child, operator_words, Stepped}
use Rattle.text.specs.Syntax.{count, least_forms, most_forms, print_form, print_forms, FormFits, FormsFit, operator_node, compile_form}
use Rattle.text.specs.Syntax.{compile_forms, Form, Forms, constant_form, literal_form, inner_form, line_form, none, more}
use Rattle.text.specs.declared.head.Operator.{Operator}
use Rattle.text.specs.declared.head.Operator.TheVariants.{Decision, Conjunction}
use Rattle.text.specs.Answers.{formed}

-- ---- how many
mutual
  unfolding compile_form

  pub compile-nodes : (e : List ℕ) (n : ℕ) (f : Form) → (compile_form e n f).nodes ≡ n + nodes_in f
  compile-nodes e n (constant_form v) = sym (add-one n)
  compile-nodes e n (literal_form v x) = sym (add-one n)
  compile-nodes e n (inner_form op fs) = let p = compile-nodes-all e n fs in omega arith
  compile-nodes e n (line_form k) = sym (add-zero n)

  pub compile-nodes-all : (e : List ℕ) (n : ℕ) (fs : Forms) → (compile_forms e n fs).nodes ≡ n + nodes_in_all fs
  compile-nodes-all e n none = sym (add-zero n)
  compile-nodes-all e n (more f fs) =
      let p = compile-nodes e n f in
      let q = compile-nodes-all e (compile_form e n f).nodes fs in
      omega arith

-- a child for each form
pub children-count : (e : List ℕ) (n : ℕ) (fs : Forms) → length (compile_forms e n fs).children ≡ count fs
unfolding compile_form
children-count e n none = refl
children-count e n (more f fs) = ap suc (children-count e (compile_form e n f).nodes fs)

-- ---- their words
own-words : (y : Node) → length (children y) ≤ max_children → length (word_list (encode y)) ≡ words_for 1
own-words y l = list-long (encode y) (encode-wide y l)

operator-few : (op : Operator) (cs : List ℕ) → length cs ≤ most_forms op → length (children (operator_node op cs)) ≤ max_children
operator-few (Decision x) cs l = omega arith
operator-few Conjunction cs l = omega arith

mutual
  unfolding compile_form

  pub compile-length : (N k : ℕ) (e : List ℕ) (n : ℕ) (f : Form) → FormFits N k f → length (compile_form e n f).words ≡ words_for (nodes_in f)
  compile-length N k e n (constant_form v) b = own-words (constant v) (omega arith)
  compile-length N k e n (literal_form v x) b = own-words (literal v x) (omega arith)
  compile-length N k e n (inner_form op fs) (bx, least, most, b) =
      let cs : List ℕ = (compile_forms e n fs).children in
      let y : Node = operator_node op cs in
      let few : length cs ≤ most_forms op = omega (arith, children-count e n fs) in
      let own : length (word_list (encode y)) ≡ words_for 1 = own-words y (operator-few op cs few) in
      let a = compile-length-all N k e n fs b in
      length-append (compile_forms e n fs).words (word_list (encode y)) ∙ omega arith
  compile-length N k e n (line_form j) b = refl

  pub compile-length-all : (N k : ℕ) (e : List ℕ) (n : ℕ) (fs : Forms) → FormsFit N k fs
      → length (compile_forms e n fs).words ≡ words_for (nodes_in_all fs)
  compile-length-all N k e n none b = refl
  compile-length-all N k e n (more f fs) (bf, bs) =
      let m : ℕ = (compile_form e n f).nodes in
      let p = compile-length N k e n f bf in
      let q = compile-length-all N k e m fs bs in
      length-append (compile_form e n f).words (compile_forms e m fs).words ∙ omega arith

-- words that stand behind those of other nodes
pub sets_behind : (w u v : List ℕ) (n m : ℕ) → words_for m ≡ words_for n + length u
    → sets (sets w (words_for n) u) (words_for m) v ≡ sets w (words_for n) (u ++ v)
sets_behind w u v n m e = ap (λ (k : ℕ). sets (sets w (words_for n) u) k v) e ∙ sym (sets-append w (words_for n) u v)

-- what reading the form f at a place gives
abbrev pub result : List ℕ → Form → ℕ → List ℕ → ℕ → Stepped
result lines f at w n =
    record {
      step = formed (at + length (print_form f)) (n + nodes_in f) (compile_form lines n f).node;
      words = sets w (words_for n) (compile_form lines n f).words;
    }

pub made-same : {p p' m m' a a' : ℕ} {w w' : List ℕ} → p ≡ p' → m ≡ m' → a ≡ a' → w ≡ w'
    → ◌≡◌ {A = Stepped} (record { step = formed p m a; words = w }) (record { step = formed p' m' a'; words = w' })
made-same e f g h = λ i. record { step = formed (e i) (f i) (g i); words = h i }

-- node n of these words, made at the closing bracket at p
abbrev pub made : ℕ → List ℕ → ℕ → NodeWords → Stepped
made p w n y = record { step = formed (p + 1) (n + 1) n; words = put_words w n y }

pub made_as : {p p' n n' : ℕ} {w w' : List ℕ} {y y' : NodeWords} → p ≡ p' → w ≡ w' → n ≡ n' → y ≡ y' → made p w n y ≡ made p' w' n' y'
made_as e f g h = λ i. made (e i) (f i) (g i) (h i)

-- ---- the children collected
abbrev pub with_children : Children → List ℕ → Children
with_children cs [] = cs
with_children cs (c ∷ l) = with_children (with_child cs c) l

-- what reading the forms fs after the children cs gives, with the closing bracket
abbrev pub rest_result : List ℕ → Operator → Forms → Children → ℕ → List ℕ → ℕ → Stepped
rest_result lines op fs cs at w n =
    made (at + length (print_forms fs)) (sets w (words_for n) (compile_forms lines n fs).words) (n + nodes_in_all fs)
    (operator_words op (with_children cs (compile_forms lines n fs).children))

one_more : (l : List ℕ) (c : ℕ) → length l < max_children → with_child (children_words l) c ≡ children_words (l ++ (c ∷ []))
one_more l c h =
    let n : length (l ++ (c ∷ [])) ≡ length l + 1 = length-append l (c ∷ []) in
    let left : ℕ = max_children - (length l + 1) in
    let z : max_children - length l ≡ suc left = omega arith in
    let e : set (l ++ replicate (max_children - length l) 0) (length l) c
    ≡ (l ++ (c ∷ [])) ++ replicate (max_children - length (l ++ (c ∷ []))) 0 =
    rw (z, n, set-append_seam l 0 (replicate left 0) c, append_assoc l (c ∷ []) (replicate left 0)) in
    λ i. record { count = sym n i; nodes = e i }

more-collected : (done l : List ℕ) → length done + length l ≤ max_children → with_children (children_words done) l ≡ children_words (done ++ l)
more-collected done [] h = ap children_words (sym (append-nil done))
more-collected done (c ∷ l) h =
    let n : length (done ++ (c ∷ [])) ≡ length done + 1 = length-append done (c ∷ []) in
    ap (λ (k : Children). with_children k l) (one_more done c (omega arith))
    ∙ more-collected (done ++ (c ∷ [])) l (omega arith)
    ∙ ap children_words (append_assoc done (c ∷ []) l)

operator-same : (op : Operator) (cs : List ℕ) → least_forms ≤ length cs → length cs ≤ most_forms op
    → operator_words op (children_words cs) ≡ encode (operator_node op cs)
operator-same Conjunction cs l m = refl
operator-same (Decision x) [] l m = absurd (omega arith)
operator-same (Decision x) (a ∷ []) l m = absurd (omega arith)
operator-same (Decision x) (a ∷ b ∷ []) l m = refl
operator-same (Decision x) (a ∷ b ∷ c ∷ cs) l m = absurd (omega arith)

-- the words that the reader makes of an operator and its children are those of its node
pub operator-words : (op : Operator) (cs : List ℕ) → least_forms ≤ length cs → length cs ≤ most_forms op
    → operator_words op (with_children no_children cs) ≡ encode (operator_node op cs)
operator-words op cs l m =
    ap (operator_words op) (more-collected [] cs (few op m)) ∙ operator-same op cs l m
  where
    few : (op : Operator) → length cs ≤ most_forms op → length {A = ℕ} [] + length cs ≤ max_children
    few (Decision x) m = omega arith
    few Conjunction m = omega arith
