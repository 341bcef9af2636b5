-- The lines that the writer makes of well-formed nodes: each within the limits, one node, and that node's words.
use Prim.Native.Nat.{ℕ, zero, suc, ◌+◌, ◌*◌, ◌/◌, ◌%◌, ◌<◌, ◌≤◌}
use mathlib.Core.Path.{◌≡◌, refl, sym, ap, subst, ◌∙◌}
use mathlib.Core.Bool.{Bool, true, false, cond, not}
use mathlib.Core.Logic.{⊎_elim}
use mathlib.Core.List.{List, [], ◌∷◌, ◌++◌, map, append-nil, append_assoc, Memᴰ}
use native.Mathlib.Nat.{add-zero, zero-add}
use native.Mathlib.Omega.{arith}
use lib.Dec.{T, ltb}
use lib.ListN.{length, get_or, take, length-append, get_or-append}
use lib.Seq.{get_or_at}
use Rattle.masks.specs.Numbers.{below}
use Rattle.masks.proofs.Tests.{below_suc}
use Rattle.table.specs.Layout.{words_for, words_at, word_list}
use Rattle.table.specs.Node.{encode, node_at, Node, constant, literal, decision, conjunction, unknown}
use Rattle.table.specs.Words.{malformed}
use Rattle.table.specs.declared.layout.NodeWords.{NodeWords}
use Rattle.table.proofs.Encoding.{Fits, node-fits, node-encoded, fits_below}
use Rattle.table.proofs.NodePlaces.{words-next}
use Rattle.text.specs.Ascii.{ascii}
use Rattle.text.specs.Faults.{nodes_in, nodes_in_all}
use Rattle.text.specs.Syntax.{digit_text, decimal, count, least_forms, most_forms, print_operator, print_form, print_forms, print_lines}
use Rattle.text.specs.Syntax.{OperatorFits, FormFits, FormsFit, Own, GrammaticalLines, makes, operator_node, compile_form, compile_forms}
use Rattle.text.specs.Syntax.{compile_lines, depth, depths, LinesWithin, Compiled, CompiledForms, Form, Forms, constant_form}
use Rattle.text.specs.Syntax.{literal_form, inner_form, line_form, none, more}
use Rattle.text.specs.Write.{line_forms, node_form}
use Rattle.text.specs.declared.head.Operator.{Operator}
use Rattle.text.specs.declared.head.Operator.TheVariants.{Decision, Conjunction}
use Rattle.text.proofs.Clean.{lines_nodes}
use Rattle.text.proofs.Spelling.{constant-length, literal-length, line-length, inner-length, more-length}

-- the forms of k nodes from node i on
abbrev pub forms_from : List ℕ → ℕ → ℕ → List Form
forms_from w i zero = []
forms_from w i (suc k) = node_form (node_at w i) ∷ forms_from w (suc i) k

forms-snoc : (w : List ℕ) (i k : ℕ) → forms_from w i k ++ (node_form (node_at w (i + k)) ∷ []) ≡ forms_from w i (suc k)
forms-snoc w i zero = ap (λ (z : ℕ). node_form (node_at w z) ∷ []) (add-zero i)
forms-snoc w i (suc k) =
    let e : i + suc k ≡ suc i + k = omega arith in
    ap (λ (z : ℕ). node_form (node_at w i) ∷ (forms_from w (suc i) k ++ (node_form (node_at w z) ∷ []))) e
    ∙ ap (λ (z : List Form). node_form (node_at w i) ∷ z) (forms-snoc w (suc i) k)

map_snoc : {A B : Type 0} (f : A → B) (xs : List A) (x : A) → map f (xs ++ (x ∷ [])) ≡ map f xs ++ (f x ∷ [])
map_snoc f [] x = refl
map_snoc f (y ∷ xs) x = ap (λ z. f y ∷ z) (map_snoc f xs x)

pub all-forms : (w : List ℕ) (n : ℕ) → map (λ i. node_form (node_at w i)) (below n) ≡ forms_from w 0 n
unfolding below
all-forms w zero = refl
all-forms w (suc n) =
    map_snoc (λ i. node_form (node_at w i)) (below n) n ∙ ap (λ (z : List Form). z ++ (node_form (node_at w n) ∷ [])) (all-forms w n)
    ∙ ap (λ (z : ℕ). forms_from w 0 n ++ (node_form (node_at w z) ∷ [])) (sym (zero-add n)) ∙ forms-snoc w 0 n

-- ---- one node
-- what a line of the writer is: within the limits, one node, and that node
pub record NodeLine (N i : ℕ) (y : Node) (f : Form) : Type 0 where
  pub own : Own f
  pub below : FormFits N i f
  pub shallow : depth f ≤ 2
  pub one : nodes_in f ≡ 1
  pub length_most : length (print_form f) ≤ 102
  pub compiled : (e : List ℕ) → ((j : ℕ) → j < i → get_or e j 0 ≡ j) → compile_form e i f ≡ makes [] i y

digit-most : (unit v : ℕ) → length (digit_text unit v) ≤ 1
digit-most unit v = by (ltb v unit)
  where
    by : (b : Bool) → length (cond b [] ((48 + v / unit % 10) ∷ [])) ≤ 1
    by true = omega arith
    by false = omega arith

pub decimal-most : (v : ℕ) → length (decimal v) ≤ 4
unfolding decimal
decimal-most v = simp length-append (omega (arith, digit-most 1000 v, digit-most 100 v, digit-most 10 v))

-- children as lines
module _ (N i : ℕ) where
  lines-below : (cs : List ℕ) → ((c : ℕ) → Memᴰ c cs → c < i) → FormsFit N i (line_forms cs)
  lines-below [] h = tt
  lines-below (c ∷ cs) h = (h c (Memᴰ.head refl), lines-below cs (λ d m. h d (Memᴰ.tail m)))

  lines-compiled : (cs : List ℕ) → ((c : ℕ) → Memᴰ c cs → c < i) → (e : List ℕ) → ((j : ℕ) → j < i → get_or e j 0 ≡ j)
      → compile_forms e i (line_forms cs) ≡ record { words = []; nodes = i; children = cs }
  unfolding compile_form
  lines-compiled [] h e g = refl
  lines-compiled (c ∷ cs) h e g =
      let a : get_or e c 0 ≡ c = g c (h c (Memᴰ.head refl)) in
      let b = lines-compiled cs (λ d m. h d (Memᴰ.tail m)) e g in
      λ t. record { words = (b t).words; nodes = (b t).nodes; children = a t ∷ (b t).children }

lines-count : (cs : List ℕ) → count (line_forms cs) ≡ length cs
lines-count [] = refl
lines-count (c ∷ cs) = ap suc (lines-count cs)

lines_none : (cs : List ℕ) → nodes_in_all (line_forms cs) ≡ 0
lines_none [] = refl
lines_none (c ∷ cs) = omega (arith, lines_none cs)

lines-shallow : (cs : List ℕ) → depths (line_forms cs) ≤ 1
lines-shallow [] = omega arith
lines-shallow (c ∷ cs) = let l = lines-shallow cs in omega arith

lines-length : (cs : List ℕ) → length (print_forms (line_forms cs)) ≤ 12 * length cs
unfolding print_form
lines-length [] = omega arith
lines-length (c ∷ cs) =
    omega (arith, more-length (line_form c) (line_forms cs), line-length c, decimal-most c, lines-length cs)

-- one child more, behind the others
pub lines_snoc : (cs : List ℕ) (c : ℕ)
    → print_forms (line_forms (cs ++ (c ∷ []))) ≡ print_forms (line_forms cs) ++ (ascii " " ++ print_form (line_form c))
unfolding print_form
lines_snoc [] c = append-nil (ascii " " ++ print_form (line_form c))
lines_snoc (b ∷ cs) c =
    ap (λ (z : List ℕ). ascii " " ++ print_form (line_form b) ++ z) (lines_snoc cs c)
    ∙ sym (append_assoc (ascii " " ++ print_form (line_form b)) (print_forms (line_forms cs)) (ascii " " ++ print_form (line_form c)))

-- an operator with as many children as it takes at most
operator-most : (op : Operator) → length (print_operator op) + 12 * most_forms op ≤ 101
operator-most (Decision x) = omega (arith, length-append (ascii "(pick ") (decimal x), decimal-most x)
operator-most Conjunction = omega arith

module _ (N i : ℕ) where
  inner-line : (op : Operator) (cs : List ℕ) → OperatorFits N op → least_forms ≤ length cs → length cs ≤ most_forms op
      → ((c : ℕ) → Memᴰ c cs → c < i) → NodeLine N i (operator_node op cs) (inner_form op (line_forms cs))
  unfolding compile_form
  inner-line op cs b least most h =
      let fs : Forms = line_forms cs in
      let n : count fs ≡ length cs = lines-count cs in
      record {
        own = tt;
        below = (b, omega arith, omega arith, lines-below N i cs h);
        shallow = omega (arith, lines-shallow cs);
        one = omega (arith, lines_none cs);
        length_most = omega (arith, inner-length op fs, lines-length cs, operator-most op);
        compiled = λ e g.
            ap (λ (z : CompiledForms). makes z.words z.nodes (operator_node op z.children)) (lines-compiled N i cs h e g);
      }

  constant-line : (v : Bool) → NodeLine N i (constant v) (constant_form v)
  unfolding compile_form
  constant-line v =
      record { own = tt; below = tt; shallow = omega arith; one = refl; length_most = most v; compiled = λ e h. refl }
    where
      most : (v : Bool) → length (print_form (constant_form v)) ≤ 102
      most true = omega (arith, constant-length true)
      most false = omega (arith, constant-length false)

  literal-line : (v : Bool) (x : ℕ) → x < N → NodeLine N i (literal v x) (literal_form v x)
  unfolding compile_form
  literal-line v x l =
      record { own = tt; below = l; shallow = omega arith; one = refl; length_most = most v; compiled = λ e h. refl }
    where
      most : (v : Bool) → length (print_form (literal_form v x)) ≤ 102
      most true = omega (arith, literal-length true x, decimal-most x)
      most false = omega (arith, literal-length false x, decimal-most x)

  -- the line of a well-formed node
  node-line : (y : Node) → Fits N i y → NodeLine N i y (node_form y)
  node-line (constant v) f = constant-line v
  node-line (literal v x) f = literal-line v x f
  node-line (decision x a b) f =
      inner-line (Decision x) (a ∷ b ∷ []) f.0 (omega arith) (omega arith) (fits_below N i (decision x a b) f)
  node-line (conjunction cs) f = inner-line Conjunction cs tt f.0 f.1 f.2
  node-line unknown f = absurd f

-- ---- all nodes
mutual
  wider : (N N' k k' : ℕ) (f : Form) → N ≤ N' → k ≤ k' → FormFits N k f → FormFits N' k' f
  wider N N' k k' (constant_form v) l m b = tt
  wider N N' k k' (literal_form v x) l m b = omega arith
  wider N N' k k' (inner_form (Decision x) fs) l m (bx, least, most, bs) = (omega arith, least, most, all-wider N N' k k' fs l m bs)
  wider N N' k k' (inner_form Conjunction fs) l m (bx, least, most, bs) = (tt, least, most, all-wider N N' k k' fs l m bs)
  wider N N' k k' (line_form j) l m b = omega arith

  all-wider : (N N' k k' : ℕ) (fs : Forms) → N ≤ N' → k ≤ k' → FormsFit N k fs → FormsFit N' k' fs
  all-wider N N' k k' none l m b = tt
  all-wider N N' k k' (more f fs) l m (bf, bs) = (wider N N' k k' f l m bf, all-wider N N' k k' fs l m bs)

module _ (N : ℕ) (w : List ℕ) where
  -- the nodes below n are well-formed
  abbrev WellTo : ℕ → Type 0
  WellTo n = (i : ℕ) → i < n → T (not (malformed N w i))

  written-line : (i : ℕ) → T (not (malformed N w i)) → NodeLine N i (node_at w i) (node_form (node_at w i))
  written-line i h = node-line N i (node_at w i) (node-fits N i w h)

  pub lines-fine : (k i : ℕ) → N ≤ 40 → i + k ≤ 1024 → WellTo (i + k)
      → GrammaticalLines (forms_from w i k) × LinesWithin N i (forms_from w i k) × (lines_nodes (forms_from w i k) ≡ k)
      × (length (print_lines (forms_from w i k)) ≤ 103 * k)
  unfolding print_lines
  lines-fine zero i ln lk h = (tt, tt, refl, omega arith)
  lines-fine (suc k) i ln lk h =
      let o = written-line i (h i (omega arith)) in
      let f : Form = node_form (node_at w i) in
      let (a, b, c, d) = lines-fine k (suc i) ln (omega arith) (λ j l. h j (omega arith)) in (
        (o.own, wider N 10000 i 10000 f (omega arith) (omega arith) o.below, a),
        (o.below, omega (arith, o.shallow), b),
        omega (arith, o.one, c),
        omega (
          arith,
          length-append (print_form f ++ (10 ∷ [])) (print_lines (forms_from w (suc i) k)),
          length-append (print_form f) (10 ∷ []),
          o.length_most,
          d,
        ),
      )

  -- the words of k nodes after those of i
  pub lines-compile : (k i : ℕ) (e : List ℕ) → length e ≡ i → ((j : ℕ) → j < i → get_or e j 0 ≡ j) → WellTo (i + k)
      → words_for (i + k) ≤ length w
      → take (words_for i) w ++ (compile_lines e i (forms_from w i k)).words ≡ take (words_for (i + k)) w
  unfolding compile_lines
  lines-compile zero i e le h well long =
      append-nil (take (words_for i) w) ∙ ap (λ (z : ℕ). take (words_for z) w) (sym (add-zero i))
  lines-compile (suc k) i e le h well long =
      let f : Form = node_form (node_at w i) in
      let ok : T (not (malformed N w i)) = well i (omega arith) in
      let c : compile_form e i f ≡ makes [] i (node_at w i) = (written-line i ok).compiled e h in
      let own : word_list (encode (node_at w i)) ≡ word_list (words_at w i) = ap (λ (z : NodeWords). word_list z) (node-encoded N i w ok) in
      let rest : List ℕ = (compile_lines (e ++ (i ∷ [])) (suc i) (forms_from w (suc i) k)).words in
      let n : suc i + k ≡ i + suc k = omega arith in
      let all = lines-compile k (suc i) (e ++ (i ∷ [])) (length-append e (i ∷ []) ∙ omega arith) same (λ j l. well j (omega arith))
      (omega arith) in
      ap (λ (z : Compiled).
      take (words_for i) w ++ (z.words ++ (compile_lines (e ++ (z.node ∷ [])) z.nodes (forms_from w (suc i) k)).words)) c
      ∙ ap (λ (z : List ℕ). take (words_for i) w ++ (z ++ rest)) own
      ∙ sym (append_assoc (take (words_for i) w) (word_list (words_at w i)) rest)
      ∙ ap (λ (z : List ℕ). z ++ rest) (sym (words-next w i (omega arith)))
      ∙ all ∙ ap (λ (z : ℕ). take (words_for z) w) n
    where
      same : (j : ℕ) → j < suc i → get_or (e ++ (i ∷ [])) j 0 ≡ j
      same j l =
          ⊎_elim
          (λ (d : j ≡ i). subst (λ (z : ℕ). get_or (e ++ (i ∷ [])) z 0 ≡ z) (sym d) (get_or_at e i [] 0 i le))
          (λ (d : j < i). get_or-append e (i ∷ []) 0 j (subst (λ (z : ℕ). j < z) (sym le) d) ∙ h j d)
          (below_suc l)
