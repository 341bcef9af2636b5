-- The nodes' parts of the buffers, one after the other, and the loop that fills them.
use Prim.Native.Nat.{ℕ, zero, suc, pred, ◌+◌, ◌-◌, ◌*◌, ◌<◌, ◌≤◌, zero-le}
use mathlib.Core.Path.{◌≡◌, refl, sym, ap, ap₂, subst, ◌∙◌}
use mathlib.Core.Bool.{Bool, true, false, not, true≢false}
use mathlib.Core.Logic.{⊎_elim}
use mathlib.Core.List.{List, [], ◌∷◌, ◌++◌, append-nil, append_assoc, flat_map, map-append}
use native.Mathlib.Nat.{not-suc-le-zero, le_trans, le_of_eq, suc-mul, lt-suc_self, mul-le-mul_right, zero-mul}
use native.Mathlib.Omega.{arith}
use native.Mathlib.Numerals.{add-one}
use lib.Dec.{T, ltb, ltb→lt, nltb→le}
use lib.ListN.{length, get_or, take, drop, set, length-append, replicate, length-replicate, get_or-append}
use lib.Seq.{get_or-drop, get_or_at, get_or-append-add, take_at, drop_at, set_at}
use borrow.Author.Tests.{lt-ltb, le-ltb}
use Rattle.buffers.proofs.Zeros.{take-zeros, drop-zeros, zero-at}
use Rattle.masks.specs.Numbers.{below}
use Rattle.masks.proofs.Tests.{decide, below_suc}
use Rattle.terms.specs.Term.{terms_of}
use Rattle.terms.specs.declared.Term.{Term}
use Rattle.insertion.specs.Filled.{masks_of, laid}
use Rattle.insertion.proofs.Parts.{terms-masks, length-masks}
use Rattle.nodes.specs.Part.{terms_from, laid_at}
use Rattle.listing.specs.Exact.{Tried}
use Rattle.listing.specs.Listing.{node_primes, padded, listed_masks, listed_counts, exceeds}

flat_map-append : (f : ℕ → List ℕ) (l k : List ℕ) → flat_map f (l ++ k) ≡ flat_map f l ++ flat_map f k
unfolding flat_map
flat_map-append f [] k = refl
flat_map-append f (x ∷ l) k =
    ap (λ (z : List ℕ). f x ++ z) (flat_map-append f l k) ∙ sym (append_assoc (f x) (flat_map f l) (flat_map f k))

module _ (m : List ℕ) (N : ℕ) (F : ℕ → ℕ → Bool) (R : ℕ) where
  abbrev rows : ℕ → List Term
  rows = node_primes m N F

  -- node i's part
  abbrev part : Bool → ℕ → List ℕ
  part b i = padded R (masks_of b (rows i))

  pub masks-suc : (i : ℕ) (b : Bool) → listed_masks m N (suc i) F R b ≡ listed_masks m N i F R b ++ part b i
  unfolding listed_masks flat_map below
  masks-suc i b =
      flat_map-append (part b) (below i) (i ∷ []) ∙ ap (λ (z : List ℕ). flat_map (part b) (below i) ++ z) (append-nil (part b i))

  counts-suc : (i : ℕ) → listed_counts m N (suc i) F ≡ listed_counts m N i F ++ (length (rows i) ∷ [])
  unfolding listed_counts below
  counts-suc i = map-append (λ j. length (rows j)) (below i) (i ∷ [])

  pub masks-none : (b : Bool) → listed_masks m N 0 F R b ≡ []
  unfolding listed_masks flat_map below
  masks-none b = refl

  pub counts-none : listed_counts m N 0 F ≡ []
  unfolding listed_counts below
  counts-none = refl

  -- the first n nodes' terms fit
  abbrev pub Fit : ℕ → Type 0
  Fit i = (c : ℕ) → c < i → length (rows c) ≤ R

  fit-less : (i : ℕ) → Fit (suc i) → Fit i
  fit-less i h c l = h c (omega arith)

  length-padded : (l : List ℕ) → length l ≤ R → length (padded R l) ≡ R
  length-padded l h =
      length-append l (replicate (R - length l) 0) ∙ ap (λ (n : ℕ). length l + n) (length-replicate (R - length l) 0) ∙ omega arith

  pub length_part : (i : ℕ) (b : Bool) → length (rows i) ≤ R → length (part b i) ≡ R
  length_part i b h = length-padded (masks_of b (rows i)) (rw (length-masks b (rows i)) h)

  pub length-listed : (i : ℕ) (b : Bool) → Fit i → length (listed_masks m N i F R b) ≡ i * R
  length-listed zero b h = ap length (masks-none b) ∙ sym (zero-mul R)
  length-listed (suc i) b h =
      ap length (masks-suc i b) ∙ length-append (listed_masks m N i F R b) (part b i)
      ∙ ap₂ ◌+◌ (length-listed i b (fit-less i h)) (length_part i b (h i (lt-suc_self i))) ∙ sym (suc-mul i R)

  pub length-counts : (i : ℕ) → length (listed_counts m N i F) ≡ i
  length-counts zero = ap length counts-none
  length-counts (suc i) =
      ap length (counts-suc i) ∙ length-append (listed_counts m N i F) (length (rows i) ∷ [])
      ∙ ap (λ (n : ℕ). n + 1) (length-counts i) ∙ add-one i

  -- ---- read back
  -- node a's part stands from a × R on
  pub part-from : (i a : ℕ) (b : Bool) (rest : List ℕ) → Fit i → a < i
      → (more : List ℕ) × (drop (a * R) (listed_masks m N i F R b ++ rest) ≡ part b a ++ more)
  part-from zero a b rest h l = absurd (not-suc-le-zero l)
  part-from (suc i) a b rest h l =
      by (⊎_elim (λ (e : a ≡ i). (rest, here e)) (part-from i a b (part b i ++ rest) (fit-less i h)) (below_suc l))
    where
      split : listed_masks m N (suc i) F R b ++ rest ≡ listed_masks m N i F R b ++ (part b i ++ rest)
      split = ap (λ (z : List ℕ). z ++ rest) (masks-suc i b) ∙ append_assoc (listed_masks m N i F R b) (part b i) rest

      here : a ≡ i → drop (a * R) (listed_masks m N i F R b ++ (part b i ++ rest)) ≡ part b a ++ rest
      here e =
          subst (λ (c : ℕ). drop (c * R) (listed_masks m N i F R b ++ (part b i ++ rest)) ≡ part b c ++ rest) (sym e)
          (drop_at (listed_masks m N i F R b) (part b i ++ rest) (i * R) (length-listed i b (fit-less i h)))

      by : (more : List ℕ) × (drop (a * R) (listed_masks m N i F R b ++ (part b i ++ rest)) ≡ part b a ++ more)
          → (more : List ℕ) × (drop (a * R) (listed_masks m N (suc i) F R b ++ rest) ≡ part b a ++ more)
      by (more, e) = (more, ap (drop (a * R)) split ∙ e)

  module _ (i a : ℕ) (b : Bool) (rest : List ℕ) (h : Fit i) (l : a < i) where
    zeros : List ℕ
    zeros = replicate (R - length (masks_of b (rows a))) 0

    pub masks-back : take (length (rows a)) (drop (a * R) (listed_masks m N i F R b ++ rest)) ≡ masks_of b (rows a)
    unfolding zeros
    masks-back =
        let (more, e) = part-from i a b rest h l in
        ap (take (length (rows a))) (e ∙ append_assoc (masks_of b (rows a)) zeros more)
        ∙ take_at (masks_of b (rows a)) (zeros ++ more) (length (rows a)) (length-masks b (rows a))

    -- the entries past its terms are 0
    pub unused-back : (j : ℕ) → length (rows a) ≤ j → j < R → get_or (listed_masks m N i F R b ++ rest) (a * R + j) 0 ≡ 0
    unfolding zeros
    unused-back j lo hi =
        let (more, e) = part-from i a b rest h l in
        let n : length (masks_of b (rows a)) ≡ length (rows a) = length-masks b (rows a) in
        let inside : j < length (part b a) = subst (λ (z : ℕ). j < z) (sym (length_part a b (h a l))) hi in
        let k : j ≡ length (masks_of b (rows a)) + (j - length (rows a)) = omega arith in
        sym (get_or-drop (a * R) (listed_masks m N i F R b ++ rest) j 0)
        ∙ ap (λ (z : List ℕ). get_or z j 0) e ∙ get_or-append (part b a) more 0 j inside
        ∙ ap (λ (z : ℕ). get_or (part b a) z 0) k ∙ get_or-append-add (masks_of b (rows a)) zeros (j - length (rows a)) 0
        ∙ zero-at (R - length (masks_of b (rows a))) (j - length (rows a))

  pub count-back : (i a : ℕ) (rest : List ℕ) → a < i → get_or (listed_counts m N i F ++ rest) a 0 ≡ length (rows a)
  count-back zero a rest l = absurd (not-suc-le-zero l)
  count-back (suc i) a rest l =
      ap (λ (z : List ℕ). get_or z a 0)
      (ap (λ (z : List ℕ). z ++ rest) (counts-suc i) ∙ append_assoc (listed_counts m N i F) (length (rows i) ∷ []) rest)
      ∙ ⊎_elim here (count-back i a (length (rows i) ∷ rest)) (below_suc l)
    where
      here : a ≡ i → get_or (listed_counts m N i F ++ (length (rows i) ∷ rest)) a 0 ≡ length (rows a)
      here e =
          subst (λ (c : ℕ). get_or (listed_counts m N i F ++ (length (rows i) ∷ rest)) c 0 ≡ length (rows c)) (sym e)
          (get_or_at (listed_counts m N i F) (length (rows i)) rest 0 i (length-counts i))

  -- ---- the loop over n nodes
  module _ (n : ℕ) where
    -- the first i nodes are listed, and zeros follow
    pub record State (i : ℕ) (s : Bool → List ℕ) (cs : List ℕ) : Type 0 where
      pub fit : Fit i
      pub masks : (b : Bool) → s b ≡ listed_masks m N i F R b ++ replicate (n * R - i * R) 0
      pub counts : cs ≡ listed_counts m N i F ++ replicate (n - i) 0

    pub state-start : (s : Bool → List ℕ) (cs : List ℕ) → ((b : Bool) → s b ≡ replicate (n * R) 0) → cs ≡ replicate n 0 → State 0 s cs
    state-start s cs hs hc =
        let e : n * R - 0 * R ≡ n * R = omega (arith, zero-mul R) in
        let d : n - 0 ≡ n = omega arith in
        record {
          fit = λ c l. absurd (not-suc-le-zero l);
          masks = λ b. hs b ∙ sym (ap₂ (λ (z : List ℕ) (q : ℕ). z ++ replicate q 0) (masks-none b) e);
          counts = hc ∙ sym (ap₂ (λ (z : List ℕ) (q : ℕ). z ++ replicate q 0) counts-none d);
        }

-- ---- what the loop has listed
pub state-end : {m : List ℕ} {N : ℕ} {F : ℕ → ℕ → Bool} {R n : ℕ} {s : Bool → List ℕ} {cs : List ℕ} → State m N F R n n s cs
    → ((b : Bool) → s b ≡ listed_masks m N n F R b) × (cs ≡ listed_counts m N n F)
state-end {m} {N} {F} {R} {n} {s} {cs} st =
    let e : n * R - n * R ≡ 0 = omega arith in
    let d : n - n ≡ 0 = omega arith in (
      λ b. st.masks b ∙ ap (λ (q : ℕ). listed_masks m N n F R b ++ replicate q 0) e ∙ append-nil (listed_masks m N n F R b),
      st.counts ∙ ap (λ (q : ℕ). listed_counts m N n F ++ replicate q 0) d ∙ append-nil (listed_counts m N n F),
    )

module _ {m : List ℕ} {N : ℕ} {F : ℕ → ℕ → Bool} {R n i : ℕ} {s : Bool → List ℕ} {cs : List ℕ} (st : State m N F R n i s cs)
    (le : i ≤ n) where
  pub state-length : (b : Bool) → length (s b) ≡ n * R
  state-length b =
      let bound : i * R ≤ n * R = mul-le-mul_right R le in
      ap length (st.masks b) ∙ length-append (listed_masks m N i F R b) (replicate (n * R - i * R) 0)
      ∙ ap₂ ◌+◌ (length-listed m N F R i b st.fit) (length-replicate (n * R - i * R) 0) ∙ omega arith

  pub state-counts : length cs ≡ n
  state-counts =
      ap length st.counts ∙ length-append (listed_counts m N i F) (replicate (n - i) 0)
      ∙ ap₂ ◌+◌ (length-counts m N F R i) (length-replicate (n - i) 0) ∙ omega arith

module _ {m : List ℕ} {N : ℕ} {F : ℕ → ℕ → Bool} {R n i : ℕ} {s : Bool → List ℕ} {cs : List ℕ} (st : State m N F R n i s cs)
    (lt : i < n) where
  next-part : i * R + R ≤ n * R
  next-part = let bound : suc i * R ≤ n * R = mul-le-mul_right R lt in omega (arith, suc-mul i R)

  -- every count is at most R
  pub count-le : (k : ℕ) → get_or cs k 0 ≤ R
  count-le k = ⊎_elim listed-one past (decide (ltb k i))
    where
      listed-one : T (ltb k i) → get_or cs k 0 ≤ R
      listed-one t =
          let l : k < i = ltb→lt k i t in
          le_trans (le_of_eq (ap (λ (z : List ℕ). get_or z k 0) st.counts ∙ count-back m N F R i k (replicate (n - i) 0) l)) (st.fit k l)

      past : T (not (ltb k i)) → get_or cs k 0 ≤ R
      past t =
          let l : i ≤ k = nltb→le k i t in
          let e : k ≡ length (listed_counts m N i F) + (k - i) = omega (arith, length-counts m N F R i) in
          le_trans
          (le_of_eq
          (ap₂ (λ (z : List ℕ) (j : ℕ). get_or z j 0) st.counts e
          ∙ get_or-append-add (listed_counts m N i F) (replicate (n - i) 0) (k - i) 0
          ∙ zero-at (n - i) (k - i)))
          zero-le

  -- the terms of a lower node, read back
  pub terms-back : (c : ℕ) → c < i → terms_from s (c * R) (get_or cs c 0) ≡ rows m N F R c
  terms-back c l = ap₂ terms_of (back true) (back false) ∙ terms-masks (rows m N F R c)
    where
      size : get_or cs c 0 ≡ length (rows m N F R c)
      size = ap (λ (z : List ℕ). get_or z c 0) st.counts ∙ count-back m N F R i c (replicate (n - i) 0) l

      back : (b : Bool) → take (get_or cs c 0) (drop (c * R) (s b)) ≡ masks_of b (rows m N F R c)
      back b =
          ap₂ (λ (q : ℕ) (z : List ℕ). take q (drop (c * R) z)) size (st.masks b)
          ∙ masks-back m N F R i c b (replicate (n * R - i * R) 0) st.fit l

  -- node i is listed
  pub state-more : (s' : Bool → List ℕ) (cs' : List ℕ) → length (rows m N F R i) ≤ R
      → ((b : Bool) → s' b ≡ laid_at (i * R) R (masks_of b (rows m N F R i)) (s b)) → cs' ≡ set cs i (length (rows m N F R i))
      → State m N F R n (suc i) s' cs'
  state-more s' cs' h hs hc =
      record {
        fit = λ c l. ⊎_elim (λ (e : c ≡ i). subst (λ (d : ℕ). length (rows m N F R d) ≤ R) (sym e) h) (st.fit c) (below_suc l);
        masks = masks-more;
        counts = counts-more;
      }
    where
      masks-more : (b : Bool) → s' b ≡ listed_masks m N (suc i) F R b ++ replicate (n * R - suc i * R) 0
      masks-more b =
          let L : List ℕ = listed_masks m N i F R b in
          let M : List ℕ = masks_of b (rows m N F R i) in
          let at : ℕ = i * R in
          let left : ℕ = n * R - i * R in
          let len : length L ≡ at = length-listed m N F R i b st.fit in
          let tk : take at (s b) ≡ L = ap (take at) (st.masks b) ∙ take_at L (replicate left 0) at len in
          let dr : drop at (s b) ≡ replicate left 0 = ap (drop at) (st.masks b) ∙ drop_at L (replicate left 0) at len in
          let over : take R (drop at (s b)) ≡ replicate R 0 =
          ap (take R) dr ∙ take-zeros R left (omega (arith, next-part)) in
          let past : drop R (drop at (s b)) ≡ replicate (left - R) 0 = ap (drop R) dr ∙ drop-zeros R left in
          let rest : left - R ≡ n * R - suc i * R = omega (arith, suc-mul i R) in
          hs b
          ∙ (λ j. tk j ++ (laid M (over j) ++ past j))
          ∙ ap₂ (λ (z : List ℕ) (q : ℕ). L ++ ((M ++ z) ++ replicate q 0)) (drop-zeros (length M) R) rest
          ∙ sym (append_assoc L (padded R M) (replicate (n * R - suc i * R) 0))
          ∙ ap (λ (z : List ℕ). z ++ replicate (n * R - suc i * R) 0) (sym (masks-suc m N F R i b))

      counts-more : cs' ≡ listed_counts m N (suc i) F ++ replicate (n - suc i) 0
      counts-more =
          let C : List ℕ = listed_counts m N i F in
          let e : n - i ≡ suc (n - suc i) = omega arith in
          hc
          ∙ ap (λ (z : List ℕ). set z i (length (rows m N F R i))) (st.counts ∙ ap (λ (q : ℕ). C ++ replicate q 0) e)
          ∙ set_at C 0 (replicate (n - suc i) 0) (length (rows m N F R i)) i (length-counts m N F R i)
          ∙ sym (append_assoc C (length (rows m N F R i) ∷ []) (replicate (n - suc i) 0))
          ∙ ap (λ (z : List ℕ). z ++ replicate (n - suc i) 0) (sym (counts-suc m N F R i))

-- ---- the last node decides
module _ (N n : ℕ) (F : ℕ → ℕ → Bool) (R : ℕ) where
  -- more terms than R at the last node
  pub tried-full : (s : Bool → List ℕ) (cs : List ℕ) → R < length (node_primes [] N F (pred n)) → Tried N n F R s cs false
  unfolding exceeds
  tried-full s cs h =
      record {
        answer = sym (ap not (lt-ltb R (length (node_primes [] N F (pred n))) h));
        holds = λ e. absurd (true≢false (sym e));
      }

  pub tried-all : (s : Bool → List ℕ) (cs : List ℕ) → 1 ≤ n → State [] N F R n n s cs → Tried N n F R s cs true
  unfolding exceeds
  tried-all s cs h st =
      let fits : length (node_primes [] N F (pred n)) ≤ R = st.fit (pred n) (omega arith) in
      record {
        answer = sym (ap not (le-ltb R (length (node_primes [] N F (pred n))) fits));
        holds = λ e. record { fits = st.fit; masks = (state-end st).0; counts = (state-end st).1 };
      }
