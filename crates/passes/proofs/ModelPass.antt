-- The model pass: the models under a term of each node of an accepted table, from its children's.
use Prim.Native.Nat.{ℕ, ◌+◌, ◌-◌, ◌*◌, ◌/◌, ◌^◌, ◌<◌, ◌≤◌}
use mathlib.Core.Path.{◌≡◌, refl, sym, ap, ap₂, subst, ◌∙◌, fun_ext}
use mathlib.Core.Bool.{Bool, true, false, ◌&&◌, not, cond}
use mathlib.Core.Logic.{⊎_elim}
use mathlib.Core.List.{List, [], ◌∷◌, Memᴰ}
use native.Mathlib.Nat.{le_trans, mul-div_cancel}
use native.Mathlib.Omega.{arith}
use lib.Dec.{T, T_not}
use lib.ListN.{get_or, drop}
use lib.Bits.{bit_or, or_lt}
use lib.Pow.{pow_pos, pow_mono}
use Rattle.masks.specs.Mask.{width, bit, size, disjoint}
use Rattle.masks.specs.Numbers.{count}
use Rattle.masks.proofs.Masks.{put-lt}
use Rattle.masks.proofs.Numbers.{count-ext, count-not}
use Rattle.masks.proofs.Operators.{bit-or, size-within, disjoint-at}
use Rattle.masks.proofs.Tests.{and_l}
use Rattle.table.specs.Node.{node_at, children, Node, constant, literal, decision, conjunction, unknown}
use Rattle.table.specs.Outcome.{accepted}
use Rattle.table.specs.Words.{Readable, Sound}
use Rattle.table.proofs.Checking.{range-e}
use Rattle.table.proofs.Encoding.{Fits}
use Rattle.terms.specs.Completions.{models_under}
use Rattle.terms.specs.Term.{has, mentions, variables, literals, is_term, agrees, IsTerm}
use Rattle.terms.specs.declared.Term.{Term}
use Rattle.terms.proofs.Implicants.{Free}
use Rattle.terms.proofs.Sorted.{drop-in}
use Rattle.terms.proofs.Terms.{is_term-e}
use Rattle.circuits.specs.Check.{all_disjoint, check}
use Rattle.circuits.specs.Function.{signed, node_value, function, union, node_support, support}
use Rattle.circuits.proofs.Accepted.{accepted-e, variables-le, variables-wide, Accepted}
use Rattle.circuits.proofs.BottomUp.{branch-mem}
use Rattle.circuits.proofs.Nodes.{sides, all_of, node-fits, function-is, not-under, decision-free, conjunction-below, conjunction-disjoint}
use Rattle.circuits.proofs.Nodes.{all-not-under, rest-disjoint, drop-disjoint}
use Rattle.circuits.proofs.Tables.{WellFormed, fits, children-below, support-of, node-induction}
use Rattle.passes.specs.Models.{scaled, product_of, ModelPass, Multiplied}
use Rattle.passes.specs.Tables.{Holds}
use Rattle.passes.proofs.Under.{models, models-le, models-constant, models-agree, models-choice, models-conjunction}

module _ (N n : ℕ) (w : List ℕ) where
  pub accepted-sound : Accepted N n w → Sound N n w
  accepted-sound acc =
      let r = range-e N n w acc.range in
      record { narrow = r.0; first = r.1; nodes = r.2; words = r.3; well = acc.well }

  -- only variables below N are under a node
  union-lt : (v : ℕ → ℕ) (cs : List ℕ) → ((c : ℕ) → Memᴰ c cs → v c < 2 ^ N) → union v cs < 2 ^ N
  union-lt v [] h = pow_pos N
  union-lt v (c ∷ cs) h =
      or_lt N (v c) (union v cs) (h c (Memᴰ.head refl)) (union-lt v cs (λ b m. h b (Memᴰ.tail m)))

  node-support-lt : (i : ℕ) (v : ℕ → ℕ) (y : Node) → Fits N i y → ((c : ℕ) → Memᴰ c (children y) → v c < 2 ^ N)
      → node_support y v < 2 ^ N
  node-support-lt i v (constant b) f h = pow_pos N
  node-support-lt i v (literal b x) f h = put-lt N 0 x true f (pow_pos N)
  node-support-lt i v (decision x a b) f h =
      put-lt N (bit_or (v a) (v b)) x true f.0
      (or_lt N (v a) (v b) (h a (branch-mem a b false)) (h b (branch-mem a b true)))
  node-support-lt i v (conjunction cs) f h = union-lt v cs h
  node-support-lt i v unknown f h = pow_pos N

  pub support-lt : WellFormed N n w → (i : ℕ) → i < n → support w i < 2 ^ N
  support-lt well =
      node-induction N n w well (λ i. support w i < 2 ^ N)
      (λ i l below.
      subst (λ (m : ℕ). m < 2 ^ N) (sym (support-of N n w well i l))
      (node-support-lt i (support w) (node_at w i) (fits N n w well i l) below))

-- a term's literals are its variables, counted below N
pub literals-are : (N : ℕ) (t : Term) → N ≤ width → IsTerm N t → literals t ≡ count N (mentions t)
literals-are N t wide h =
    size-within N (variables t) wide (or_lt N t.positive t.negative (h.fits true) (h.fits false))
    ∙ count-ext N (bit (variables t)) (mentions t) (λ x l. bit-or t.positive t.negative x)

-- what the pass keeps is the model count of the function with the literals forced
pub scaled-is : (N : ℕ) (t : Term) (f : ℕ → Bool) → N ≤ width → (h : IsTerm N t) → scaled N f t ≡ models N t h f
unfolding models_under
scaled-is N t f wide h =
    ap (λ (k : ℕ). count (2 ^ N) (λ s. agrees N t s && f s) * 2 ^ k) (literals-are N t wide h) ∙ models-agree N t h f

-- the pass, by the kind of the node: F holds what is kept of the children, S the variables under them
abbrev pub node_models : ℕ → Term → (ℕ → ℕ) → (ℕ → ℕ) → Node → ℕ
node_models N t F S (constant b) = cond b (2 ^ N) 0
node_models N t F S (literal b x) =
    cond (has t true x) (cond b (2 ^ N) 0)
    (cond (has t false x) (cond (not b) (2 ^ N) 0) ((cond (not b) (2 ^ N) 0 + cond b (2 ^ N) 0) / 2))
node_models N t F S (decision x a b) = cond (has t true x) (F b) (cond (has t false x) (F a) ((F a + F b) / 2))
node_models N t F S (conjunction cs) = product_of N F S cs
node_models N t F S unknown = 0

module _ {N n : ℕ} {w : List ℕ} (acc : Accepted N n w) (t : Term) (is_t : IsTerm N t) where
  abbrev kept : ℕ → ℕ
  kept i = models N t is_t (function w i)

  -- the models of a conjunction of nodes with no variable in common are the product of theirs
  pub all_models : (cs : List ℕ) → T (all_disjoint (support w) cs) → ((c : ℕ) → Memᴰ c cs → c < n)
      → models N t is_t (all_of w cs) ≡ product_of N kept (support w) cs
  all_models [] h below = models-constant N t is_t true
  all_models (c ∷ cs) h below =
      models-conjunction N t is_t (function w c) (all_of w cs) (bit (support w c))
      (λ x k p. not-under acc c x (below c (Memᴰ.head refl)) p)
      (λ x k p. others x k p)
      ∙ ap₂ (λ (k m : ℕ). kept c / 2 ^ (N - k) * (m / 2 ^ k))
      (sym
      (size-within N (support w c) (variables-wide acc) (support-lt N n w acc.well c (below c (Memᴰ.head refl)))))
      (all_models cs (rest-disjoint acc c cs h) (λ d m. below d (Memᴰ.tail m)))
    where
      others : (x : ℕ) → x < N → T (bit (support w c) x) → Free N (all_of w cs) x
      others x k p =
          let wide : N ≤ width = variables-wide acc in
          ⊎_elim (λ (q : T (not (bit (support w c) x))). absurd (T_not (bit (support w c) x) q p))
          (λ (q : T (not (bit (union (support w) cs) x))). all-not-under acc cs x (λ d m. below d (Memᴰ.tail m)) q)
          (disjoint-at (support w c) (union (support w) cs)
          (and_l (disjoint (support w c) (union (support w) cs)) (all_disjoint (support w) cs) h) x (omega arith))

  node-models : (i : ℕ) → i < n → (y : Node) → node_at w i ≡ y → Fits N i y
      → models N t is_t (λ s. node_value s y (λ c. function w c s)) ≡ node_models N t kept (support w) y
  node-models i l (constant b) e f = models-constant N t is_t b
  node-models i l (literal b x) e f =
      models-choice N t is_t (λ c s. signed b c) x f (λ c s v k. refl)
      ∙ ap₂ (λ (p q : ℕ). cond (has t true x) q (cond (has t false x) p ((p + q) / 2))) (side false) (side true)
    where
      sided : (b c : Bool) → signed b c ≡ cond c b (not b)
      sided true true = refl
      sided true false = refl
      sided false true = refl
      sided false false = refl

      side : (c : Bool) → models N t is_t (λ s. signed b c) ≡ cond (cond c b (not b)) (2 ^ N) 0
      side c = models-constant N t is_t (signed b c) ∙ ap (λ (v : Bool). cond v (2 ^ N) 0) (sided b c)
  node-models i l (decision x a b) e f =
      models-choice N t is_t (sides w a b) x f.0 (decision-free acc i x a b l e)
  node-models i l (conjunction cs) e f =
      all_models cs (conjunction-disjoint acc i cs l e) (conjunction-below acc i cs l e)
  node-models i l unknown e f = absurd f

  -- what is kept of node i, from the arrays
  pub models-from : (i : ℕ) → i < n → (y : Node) → node_at w i ≡ y
      → node_models N t (λ c. scaled N (function w c) t) (support w) y ≡ scaled N (function w i) t
  models-from i l y e =
      let wide : N ≤ width = variables-wide acc in
      ap (λ (F : ℕ → ℕ). node_models N t F (support w) y) (fun_ext (λ c. scaled-is N t (function w c) wide is_t))
      ∙ sym
      (scaled-is N t (function w i) wide is_t
      ∙ ap (models N t is_t) (function-is acc i y l e)
      ∙ node-models i l y e (node-fits acc i y l e))

  pub scaled-le : (i : ℕ) → scaled N (function w i) t ≤ 2 ^ N
  scaled-le i =
      subst (λ (m : ℕ). m ≤ 2 ^ N) (sym (scaled-is N t (function w i) (variables-wide acc) is_t))
      (models-le N t is_t (function w i))

-- only the children's entries matter
product-local : (N : ℕ) (F F' S S' : ℕ → ℕ) (cs : List ℕ) → ((c : ℕ) → Memᴰ c cs → (F c ≡ F' c) × (S c ≡ S' c))
    → product_of N F S cs ≡ product_of N F' S' cs
product-local N F F' S S' [] e = refl
product-local N F F' S S' (c ∷ cs) e =
    let (f, s) = e c (Memᴰ.head refl) in
    ap₂ (λ (p q : ℕ). p / 2 ^ (N - size (S c)) * (q / 2 ^ size (S c))) f
    (product-local N F F' S S' cs (λ d m. e d (Memᴰ.tail m)))
    ∙ ap (λ (k : ℕ). F' c / 2 ^ (N - size k) * (product_of N F' S' cs / 2 ^ size k)) s

models-local : (N : ℕ) (t : Term) (F F' S S' : ℕ → ℕ) (y : Node)
    → ((c : ℕ) → Memᴰ c (children y) → (F c ≡ F' c) × (S c ≡ S' c))
    → node_models N t F S y ≡ node_models N t F' S' y
models-local N t F F' S S' (constant b) e = refl
models-local N t F F' S S' (literal b x) e = refl
models-local N t F F' S S' (decision x a b) e =
    ap₂ (λ (p q : ℕ). cond (has t true x) q (cond (has t false x) p ((p + q) / 2))) (e a (branch-mem a b false)).0
    (e b (branch-mem a b true)).0
models-local N t F F' S S' (conjunction cs) e = product-local N F F' S S' cs e
models-local N t F F' S S' unknown e = refl

pub constant-le : (N : ℕ) (v : Bool) (r : ℕ) → N ≤ 40 → r ≡ cond v (2 ^ N) 0 → r ≤ 2 ^ 40
constant-le N v r l e = subst (λ (m : ℕ). m ≤ 2 ^ 40) (sym e) (go v)
  where
    go : (v : Bool) → cond v (2 ^ N) 0 ≤ 2 ^ 40
    go true = pow_mono l
    go false = omega arith

module _ {N n : ℕ} {w : List ℕ} {t : Term} {sup : List ℕ} (p : ModelPass N n w t sup) where
  acc : Accepted N n w
  acc = accepted-e N n w p.table

  pub pass-narrow : N ≤ 40
  pass-narrow = variables-le acc

  pub pass-readable : Readable n w
  pass-readable = (N, accepted-sound N n w acc)

  pub own-le : (c : ℕ) → c < n → size (get_or sup c 0) ≤ N
  own-le c k =
      let e : size (get_or sup c 0) ≡ count N (bit (support w c)) =
      ap size (p.under c k) ∙ size-within N (support w c) (variables-wide acc) (support-lt N n w acc.well c k) in
      omega (arith, count-not N (bit (support w c)))

  module _ (i : ℕ) (l : i < n) (m : List ℕ) (held : Holds 0 (λ c. scaled N (function w c) t) i m) where
    pub entry-le : (c : ℕ) → c < i → get_or m c 0 ≤ 2 ^ 40
    entry-le c k =
        subst (λ (z : ℕ). z ≤ 2 ^ 40) (sym (held c k))
        (le_trans (scaled-le acc t (is_term-e N t p.over) c) (pow_mono (variables-le acc)))

    pub models-array : (y : Node) → node_at w i ≡ y
        → node_models N t (λ c. get_or m c 0) (λ c. get_or sup c 0) y ≡ scaled N (function w i) t
    models-array y e =
        models-local N t (λ c. get_or m c 0) (λ c. scaled N (function w c) t) (λ c. get_or sup c 0) (support w) y
        (λ c k. let b : c < i =
        children-below N n w acc.well i l c (subst (λ (z : Node). Memᴰ c (children z)) (sym e) k) in
        (held c b, p.under c (omega arith)))
        ∙ models-from acc t (is_term-e N t p.over) i l y e

    -- the products of a conjunction's children, from each child on
    pub multiplied : (cs : List ℕ) → node_at w i ≡ conjunction cs
        → Multiplied N (λ c. get_or m c 0) (λ c. get_or sup c 0) cs
    multiplied cs e =
        record {
          low = λ k. from_low (drop k cs) (drop-disjoint acc k cs (conjunction-disjoint acc i cs l e)) (λ c q. below c (drop-in k cs c q));
          own = λ k c rest q.
              let b : c < i = below c (drop-in k cs c (subst (Memᴰ c) (sym q) (Memᴰ.head refl))) in
              own-le c (omega arith);
        }
      where
        below : (c : ℕ) → Memᴰ c cs → c < i
        below c q = (node-fits acc i (conjunction cs) l e).2 c q

        from_low : (cs : List ℕ) → T (all_disjoint (support w) cs) → ((c : ℕ) → Memᴰ c cs → c < i)
            → product_of N (λ c. get_or m c 0) (λ c. get_or sup c 0) cs ≤ 2 ^ 40
        from_low cs h b =
            let is_t : IsTerm N t = is_term-e N t p.over in
            let same : product_of N (λ c. get_or m c 0) (λ c. get_or sup c 0) cs ≡ models N t is_t (all_of w cs) =
            product-local N (λ c. get_or m c 0) (λ c. models N t is_t (function w c)) (λ c. get_or sup c 0) (support w) cs
            (λ c q. let k : c < i = b c q in
            (held c k ∙ scaled-is N t (function w c) (variables-wide acc) is_t, p.under c (omega arith)))
            ∙ sym (all_models acc t is_t cs h (λ c q. let k : c < i = b c q in omega arith)) in
            subst (λ (z : ℕ). z ≤ 2 ^ 40) (sym same) (le_trans (models-le N t is_t (all_of w cs)) (pow_mono (variables-le acc)))

-- what an accepted table gives
module _ (N n : ℕ) (w : List ℕ) (e : check N n w ≡ accepted) where
  pub accepted-readable : Readable n w
  accepted-readable = (N, accepted-sound N n w (accepted-e N n w e))

  pub literals-le : (t : Term) → T (is_term N t) → literals t ≤ 40
  literals-le t h =
      let acc : Accepted N n w = accepted-e N n w e in
      let l : N ≤ 40 = variables-le acc in
      omega (arith, literals-are N t (variables-wide acc) (is_term-e N t h), count-not N (mentions t))

pub unscaled : (N : ℕ) (f : ℕ → Bool) (t : Term) (v k : ℕ) → v ≡ scaled N f t → k ≡ literals t → v / 2 ^ k ≡ models_under N f t
unscaled N f t v k e d =
    ap₂ (λ (a b : ℕ). a / 2 ^ b) e d ∙ mul-div_cancel (models_under N f t) (pow_pos (literals t))
