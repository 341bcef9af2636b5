-- Well-formed words: what the node that they stand for has, and that they are its encoding.
use Prim.Native.Nat.{ℕ, zero, suc, ◌+◌, ◌-◌, ◌<◌, ◌≤◌}
use mathlib.Core.Path.{◌≡◌, refl, sym, ap, subst, ◌∙◌}
use mathlib.Core.Bool.{Bool, true, false, not}
use mathlib.Core.Logic.{⊎_elim}
use mathlib.Core.List.Memᴰ
use mathlib.Core.List.{List, [], ◌∷◌, ◌++◌, Memᴰ}
use native.Mathlib.Omega.{arith}
use lib.Dec.{T, ltb, eqb→eq, ltb→lt, leb→le}
use lib.ListN.{length, get_or, take, drop, replicate, length-append, length-drop, length-replicate}
use lib.ListN.{get_or-replicate, take-append-drop, get_or-eq_default}
use lib.Seq.{take-suc, ext_get_or, get_or-take, get_or-drop}
use borrow.Author.Tests.{lt-ltb, le-ltb}
use Rattle.masks.proofs.Numbers.{every-e}
use Rattle.masks.proofs.Tests.{and_l, and_r, along, not-not}
use Rattle.table.specs.Gate.{child_list, ChildrenBelow}
use Rattle.table.specs.Layout.{max_children, words_at}
use Rattle.table.specs.Node.{kind, decode, node_at, children, children_words, encoded, encode, Kind, constant_kind, literal_kind}
use Rattle.table.specs.Node.{decision_kind, conjunction_kind, unknown_kind, Node, constant, literal, decision, conjunction, unknown}
use Rattle.table.specs.Words.{is_known, count_fits, word_fits, children_fit, fits_kind, well_formed, malformed}
use Rattle.table.specs.declared.layout.Children.{Children}
use Rattle.table.specs.declared.layout.NodeWords.{NodeWords}
use Rattle.table.proofs.ChildLists.{list_length}
use Rattle.table.proofs.NodePlaces.{lt-or-le, eight-long}

-- what a well-formed node i has
abbrev pub Fits : ℕ → ℕ → Node → Type 0
Fits N i (constant b) = Unit {0}
Fits N i (literal b x) = x < N
Fits N i (decision x a b) = (x < N) × (a < i) × (b < i)
Fits N i (conjunction cs) = (2 ≤ length cs) × (length cs ≤ max_children) × ((c : ℕ) → Memᴰ c cs → c < i)
Fits N i unknown = ⊥

-- ---- the children that are used stand below, the other words are 0
module _ (i : ℕ) (cs : Children) (fit : T (children_fit i cs)) where
  at_place : (j : ℕ) → j < max_children → T (word_fits (ltb j cs.count) i (get_or cs.nodes j 0))
  unfolding children_fit
  at_place j l = every-e max_children (λ j. word_fits (ltb j cs.count) i (get_or cs.nodes j 0)) fit j l

  pub used-below : (j : ℕ) → j < max_children → j < cs.count → get_or cs.nodes j 0 < i
  used-below j l k =
      ltb→lt (get_or cs.nodes j 0) i
      (along (ap (λ (b : Bool). word_fits b i (get_or cs.nodes j 0)) (lt-ltb j cs.count k)) (at_place j l))

  pub unused-zero : (j : ℕ) → j < max_children → cs.count ≤ j → get_or cs.nodes j 0 ≡ 0
  unused-zero j l k =
      eqb→eq (get_or cs.nodes j 0) 0
      (along (ap (λ (b : Bool). word_fits b i (get_or cs.nodes j 0)) (le-ltb j cs.count k)) (at_place j l))

  module _ (long : length cs.nodes ≡ max_children) (few : cs.count ≤ max_children) where
    taken-long : length (child_list cs) ≡ cs.count
    taken-long = list_length cs (omega arith)

    pub taken-below : (c : ℕ) → Memᴰ c (take cs.count cs.nodes) → c < i
    taken-below = each (take cs.count cs.nodes)
        (λ j l.
        subst (λ (z : ℕ). z < i) (sym (get_or-take cs.count cs.nodes j 0 (omega (arith, taken-long))))
        (used-below j (omega (arith, taken-long)) (omega (arith, taken-long))))
      where
        each : (l : List ℕ) → ((j : ℕ) → j < length l → get_or l j 0 < i) → (c : ℕ) → Memᴰ c l → c < i
        each [] h c m = absurd (Memᴰ.not-nil m)
        each (a ∷ l) h c m =
            ⊎_elim (λ (e : c ≡ a). let k : a < i = h 0 (omega arith) in omega arith)
            (λ (k : Memᴰ c l). each l (λ j lj. h (suc j) (omega arith)) c k)
            (Memᴰ.cases_cons m)

    -- the words are those of the children that are used
    pub padded : cs.nodes ≡ take cs.count cs.nodes ++ replicate (max_children - length (take cs.count cs.nodes)) 0
    padded =
        sym (take-append-drop cs.count cs.nodes)
        ∙ ap (λ (v : List ℕ). take cs.count cs.nodes ++ v)
        (zeros ∙ ap (λ (k : ℕ). replicate (max_children - k) 0) (sym taken-long))
      where
        zeros : drop cs.count cs.nodes ≡ replicate (max_children - cs.count) 0
        zeros =
            ext_get_or 0 (drop cs.count cs.nodes) (replicate (max_children - cs.count) 0)
            (length-drop cs.count cs.nodes ∙ ap (λ (k : ℕ). k - cs.count) long
            ∙ sym (length-replicate (max_children - cs.count) 0))
            (λ j l.
            let m : j < max_children - cs.count = omega (arith, length-drop cs.count cs.nodes) in
            get_or-drop cs.count cs.nodes j 0 ∙ unused-zero (cs.count + j) (omega arith) (omega arith)
            ∙ sym (get_or-replicate (max_children - cs.count) j 0 0 m))

    pub children-padded : (l : List ℕ) → take cs.count cs.nodes ≡ l → cs ≡ children_words l
    children-padded l e =
        let count : cs.count ≡ length l = sym taken-long ∙ ap length e in
        let nodes : cs.nodes ≡ l ++ replicate (max_children - length l) 0 =
        padded ∙ ap (λ (v : List ℕ). v ++ replicate (max_children - length v) 0) e in
        λ d. record { count = count d; nodes = nodes d }

-- ---- the node that well-formed words stand for
module _ (N i : ℕ) where
  kind_fits : (k : Kind) (x : ℕ) (cs : Children) → length cs.nodes ≡ max_children → T (fits_kind N i k x cs) → Fits N i (decode k x cs)
  kind_fits (constant_kind v) x cs long h = tt
  kind_fits (literal_kind v) x cs long h = ltb→lt x N (search (and_l, and_r))
  kind_fits decision_kind x cs long h =
      let two : cs.count ≡ 2 = eqb→eq cs.count 2 (search (and_l, and_r)) in
      let fit : T (children_fit i cs) = search (and_l, and_r) in (
        ltb→lt x N (search (and_l, and_r)),
        used-below i cs fit 0 (omega arith) (omega arith),
        used-below i cs fit 1 (omega arith) (omega arith),
      )
  kind_fits conjunction_kind x cs long h =
      let low : 2 ≤ cs.count = leb→le 2 cs.count (search (and_l, and_r)) in
      let high : cs.count ≤ max_children = leb→le cs.count max_children (search (and_l, and_r)) in
      let fit : T (children_fit i cs) = search (and_l, and_r) in
      let e : length (take cs.count cs.nodes) ≡ cs.count = taken-long i cs fit long high in
      (omega arith, omega arith, taken-below i cs fit long high)
  kind_fits unknown_kind x cs long h = h

  two-taken : (cs : Children) → length cs.nodes ≡ max_children → cs.count ≡ 2
      → child_list cs ≡ get_or cs.nodes 0 0 ∷ get_or cs.nodes 1 0 ∷ []
  two-taken cs long e =
      ap (λ (k : ℕ). take k cs.nodes) e
      ∙ take-suc cs.nodes 1 0 (omega arith)
      ∙ ap (λ (v : List ℕ). v ++ (get_or cs.nodes 1 0 ∷ [])) (take-suc cs.nodes 0 0 (omega arith))

  -- no children, two, or any number of them
  module _ (cs : Children) (long : length cs.nodes ≡ max_children) (fit : T (children_fit i cs)) where
    none-are : cs.count ≡ 0 → cs ≡ children_words []
    none-are e = children-padded i cs fit long (omega arith) [] (ap (λ (k : ℕ). take k cs.nodes) e)

    two-are : cs.count ≡ 2 → cs ≡ children_words (get_or cs.nodes 0 0 ∷ get_or cs.nodes 1 0 ∷ [])
    two-are e =
        children-padded i cs fit long (omega arith) (get_or cs.nodes 0 0 ∷ get_or cs.nodes 1 0 ∷ [])
        (two-taken cs long e)

  -- the words by the number of their kind, with the variable and the children as they are known to be
  words_are : (k x x' : ℕ) (cs : Children) (l : List ℕ) → x ≡ x' → cs ≡ children_words l
      → encoded k x' l ≡ record { kind = k; variable = x; children = cs }
  words_are k x x' cs l e d = λ j. record { kind = k; variable = sym e j; children = sym d j }

  encode-by : (k x : ℕ) (cs : Children) → length cs.nodes ≡ max_children → T (fits_kind N i (kind k) x cs)
      → encode (decode (kind k) x cs) ≡ record { kind = k; variable = x; children = cs }
  encode-by zero x cs long h =
      words_are 0 x 0 cs [] (eqb→eq x 0 (search (and_l, and_r)))
      (none-are cs long (search (and_l, and_r)) (eqb→eq cs.count 0 (search (and_l, and_r))))
  encode-by (suc zero) x cs long h =
      words_are 1 x 0 cs [] (eqb→eq x 0 (search (and_l, and_r)))
      (none-are cs long (search (and_l, and_r)) (eqb→eq cs.count 0 (search (and_l, and_r))))
  encode-by (suc (suc zero)) x cs long h =
      words_are 2 x x cs [] refl (none-are cs long (search (and_l, and_r)) (eqb→eq cs.count 0 (search (and_l, and_r))))
  encode-by (suc (suc (suc zero))) x cs long h =
      words_are 3 x x cs [] refl (none-are cs long (search (and_l, and_r)) (eqb→eq cs.count 0 (search (and_l, and_r))))
  encode-by (suc (suc (suc (suc zero)))) x cs long h =
      words_are 4 x x cs (get_or cs.nodes 0 0 ∷ get_or cs.nodes 1 0 ∷ []) refl
      (two-are cs long (search (and_l, and_r)) (eqb→eq cs.count 2 (search (and_l, and_r))))
  encode-by (suc (suc (suc (suc (suc zero))))) x cs long h =
      let few : cs.count ≤ max_children = leb→le cs.count max_children (search (and_l, and_r)) in
      words_are 5 x 0 cs (take cs.count cs.nodes) (eqb→eq x 0 (search (and_l, and_r)))
      (children-padded i cs (search (and_l, and_r)) long few (take cs.count cs.nodes) refl)
  encode-by (suc (suc (suc (suc (suc (suc k)))))) x cs long h = absurd h

  -- what a well-formed node of a table has
  pub node-fits : (w : List ℕ) → T (not (malformed N w i)) → Fits N i (node_at w i)
  unfolding malformed node_at
  node-fits w h =
      let y : NodeWords = words_at w i in
      kind_fits (kind y.kind) y.variable y.children (eight-long w i) (not-not (well_formed N i y) h)

  -- its words are those that its node is encoded by
  pub node-encoded : (w : List ℕ) → T (not (malformed N w i)) → encode (node_at w i) ≡ words_at w i
  unfolding malformed node_at
  node-encoded w h =
      let y : NodeWords = words_at w i in
      encode-by y.kind y.variable y.children (eight-long w i) (not-not (well_formed N i y) h)

  -- as many children as there are words for, below the node
  kind-few : (k : Kind) (c : ℕ) → T (is_known k) → T (count_fits k c) → c ≤ max_children
  kind-few (constant_kind v) c h f = let e : c ≡ 0 = eqb→eq c 0 f in omega arith
  kind-few (literal_kind v) c h f = let e : c ≡ 0 = eqb→eq c 0 f in omega arith
  kind-few decision_kind c h f = let e : c ≡ 2 = eqb→eq c 2 f in omega arith
  kind-few conjunction_kind c h f = leb→le c max_children (search (and_l, and_r))
  kind-few unknown_kind c h f = absurd h

  pub node-children : (w : List ℕ) → T (not (malformed N w i)) → ChildrenBelow i (words_at w i).children
  unfolding malformed
  node-children w h =
      let y : NodeWords = words_at w i in
      let cs : Children = y.children in
      let well : T (well_formed N i y) = not-not (well_formed N i y) h in
      let few : cs.count ≤ max_children =
      kind-few (kind y.kind) cs.count (search (and_l, and_r)) (search (and_l, and_r)) in
      record { few = few; each = λ k l. used-below i cs (search (and_l, and_r)) k (omega arith) l }

  kind-list : (k : Kind) (x : ℕ) (cs : Children) → length cs.nodes ≡ max_children → T (is_known k) → T (count_fits k cs.count)
      → children (decode k x cs) ≡ child_list cs
  kind-list (constant_kind v) x cs long h f = sym (ap (λ (k : ℕ). take k cs.nodes) (eqb→eq cs.count 0 f))
  kind-list (literal_kind v) x cs long h f = sym (ap (λ (k : ℕ). take k cs.nodes) (eqb→eq cs.count 0 f))
  kind-list decision_kind x cs long h f = sym (two-taken cs long (eqb→eq cs.count 2 f))
  kind-list conjunction_kind x cs long h f = refl
  kind-list unknown_kind x cs long h f = absurd h

  -- its children are the child words that are used, whatever its kind
  pub node-list : (w : List ℕ) → T (not (malformed N w i)) → children (node_at w i) ≡ child_list (words_at w i).children
  unfolding malformed node_at
  node-list w h =
      let y : NodeWords = words_at w i in
      let well : T (well_formed N i y) = not-not (well_formed N i y) h in
      kind-list (kind y.kind) y.variable y.children (eight-long w i) (search (and_l, and_r)) (search (and_l, and_r))

  -- no child word is above the node's number
  pub child-word : (w : List ℕ) → T (not (malformed N w i)) → (j : ℕ) → get_or (words_at w i).children.nodes j 0 ≤ i
  unfolding malformed
  child-word w h j =
      let y : NodeWords = words_at w i in
      let cs : Children = y.children in
      let well : T (well_formed N i y) = not-not (well_formed N i y) h in
      let fit : T (children_fit i cs) = search (and_l, and_r) in
      ⊎_elim
      (λ (l : j < max_children). ⊎_elim
      (λ (u : j < cs.count). let b : get_or cs.nodes j 0 < i = used-below i cs fit j l u in omega arith)
      (λ (u : cs.count ≤ j). let e : get_or cs.nodes j 0 ≡ 0 = unused-zero i cs fit j l u in omega arith)
      (lt-or-le j cs.count))
      (λ (l : max_children ≤ j).
      let e : get_or cs.nodes j 0 ≡ 0 = get_or-eq_default cs.nodes 0 (let z = eight-long w i in omega arith) in omega arith)
      (lt-or-le j max_children)

  -- its children stand below it
  pub fits_below : (y : Node) → Fits N i y → (c : ℕ) → Memᴰ c (children y) → c < i
  fits_below (constant b) f c m = absurd (Memᴰ.not-nil m)
  fits_below (literal b x) f c m = absurd (Memᴰ.not-nil m)
  fits_below (decision x a b) f c m =
      ⊎_elim (λ (e : c ≡ a). let l : a < i = f.1 in omega arith)
      (λ (k : Memᴰ c (b ∷ [])). let e : c ≡ b = Memᴰ.eq_of_singleton k in let l : b < i = f.2 in omega arith)
      (Memᴰ.cases_cons m)
  fits_below (conjunction cs) f c m = f.2 c m
  fits_below unknown f c m = absurd f

-- ---- as many words as a node has
pub encode-wide : (y : Node) → length (children y) ≤ max_children → length (encode y).children.nodes ≡ max_children
encode-wide (constant false) l = refl
encode-wide (constant true) l = refl
encode-wide (literal true x) l = refl
encode-wide (literal false x) l = refl
encode-wide (decision x a b) l = refl
encode-wide (conjunction cs) l =
    length-append cs (replicate (max_children - length cs) 0)
    ∙ omega (arith, length-replicate {A = ℕ} (max_children - length cs) 0)
encode-wide unknown l = refl
