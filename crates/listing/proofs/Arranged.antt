-- The nodes' parts, put into the order by the weights m one after the other.
use Prim.Native.Nat.{ℕ, suc, ◌+◌, ◌-◌, ◌*◌, ◌<◌, ◌≤◌}
use mathlib.Core.Path.{◌≡◌, sym, ap, ap₂, subst, fun_ext, ◌∙◌}
use mathlib.Core.Bool.{Bool, true, false}
use mathlib.Core.List.{List, [], ◌++◌, map, flat_map, append-nil, append_assoc, Memᴰ}
use native.Mathlib.Nat.{le_of_eq, le_trans, suc-mul, zero-mul, mul-le-mul_right}
use native.Mathlib.Omega.{arith}
use lib.ListN.{length, get_or, take, drop, replicate, drop_of_length-le, length-append, length-drop}
use lib.Seq.{take_at, drop_at, drop-drop}
use Rattle.masks.specs.Numbers.{below}
use Rattle.terms.specs.Lists.{sort, Rising}
use Rattle.terms.specs.Order.{before}
use Rattle.terms.specs.Term.{terms_of}
use Rattle.terms.specs.declared.Term.{Term}
use Rattle.terms.proofs.Embeddings.{primes-length}
use Rattle.terms.proofs.Listed.{primes-lists, primes-rising, sort-primes}
use Rattle.terms.proofs.Weights.{primes-none}
use Rattle.lists.specs.Capacity.{max_capacity}
use Rattle.insertion.specs.Filled.{masks_of}
use Rattle.insertion.proofs.Parts.{terms-masks, length-masks}
use Rattle.arranging.specs.Arranged.{Arrangeable}
use Rattle.listing.specs.Exact.{Holds}
use Rattle.listing.specs.Listing.{node_primes, padded, listed_masks, listed_counts}
use Rattle.listing.proofs.Table.{masks-suc, masks-none, length-listed, length-counts, part-from, masks-back, count-back, length_part}

-- there are as many terms by any weights
counts-as : (m k : List ℕ) (N n : ℕ) (F : ℕ → ℕ → Bool) → listed_counts m N n F ≡ listed_counts k N n F
unfolding listed_counts
counts-as m k N n F = ap (λ (f : ℕ → ℕ). map f (below n)) (fun_ext (λ i. primes-length N m k (F i)))

-- where every weight is 0, the parts are in order as they stand
pub holds-none : {m : List ℕ} {N n : ℕ} {F : ℕ → ℕ → Bool} {R : ℕ} {s : Bool → List ℕ} {cs : List ℕ}
    → ((x : ℕ) → get_or m x 0 ≡ 0) → Holds [] N n F R s cs → Holds m N n F R s cs
unfolding listed_masks
holds-none {m} {N} {n} {F} {R} none h =
    record {
      fits = λ i l. subst (λ (k : ℕ). k ≤ R) (primes-length N [] m (F i)) (h.fits i l);
      masks = λ b. h.masks b ∙ masks-as b;
      counts = h.counts ∙ counts-as [] m N n F;
    }
  where
    masks-as : (b : Bool) → listed_masks [] N n F R b ≡ listed_masks m N n F R b
    masks-as b =
        ap (λ (f : ℕ → List Term). flat_map (λ i. padded R (masks_of b (f i))) (below n)) (fun_ext (λ i. sym (primes-none m none N (F i))))

-- the nodes below i are in order by the weights m, the others as they were
abbrev pub ArrangedTo : List ℕ → ℕ → (ℕ → ℕ → Bool) → ℕ → (Bool → List ℕ) → ℕ → (Bool → List ℕ) → Type 0
ArrangedTo m N F R s₀ i s = (b : Bool) → s b ≡ listed_masks m N i F R b ++ drop (i * R) (s₀ b)

module _ (m : List ℕ) {N n : ℕ} {F : ℕ → ℕ → Bool} {R : ℕ} {s₀ : Bool → List ℕ} {cs : List ℕ} (h : Holds [] N n F R s₀ cs) where
  fits-as : (i : ℕ) → i < n → length (node_primes m N F i) ≤ R
  fits-as i l = subst (λ (k : ℕ). k ≤ R) (primes-length N [] m (F i)) (h.fits i l)

  -- the parts of the first i nodes take i × R entries
  long : (i : ℕ) → i ≤ n → (b : Bool) → length (listed_masks m N i F R b) ≡ i * R
  long i le b = length-listed m N F R i b (λ c l. fits-as c (omega arith))

  pub whole : (b : Bool) → length (s₀ b) ≡ n * R
  whole b = ap length (h.masks b) ∙ length-listed [] N F R n b h.fits

  pub arranged-start : ArrangedTo m N F R s₀ 0 s₀
  arranged-start b =
      sym (ap₂ (λ (l : List ℕ) (k : ℕ). l ++ drop k (s₀ b)) (masks-none m N F R b) (zero-mul R))

  pub arranged-end : (s : Bool → List ℕ) → ArrangedTo m N F R s₀ n s → Holds m N n F R s cs
  arranged-end s a =
      record {
        fits = fits-as;
        masks = λ b. a b
            ∙ ap (λ (l : List ℕ). listed_masks m N n F R b ++ l) (drop_of_length-le (s₀ b) {i = n * R} (le_of_eq (whole b)))
            ∙ append-nil (listed_masks m N n F R b);
        counts = h.counts ∙ counts-as [] m N n F;
      }

  pub arranged-length : (i : ℕ) (s : Bool → List ℕ) → i ≤ n → ArrangedTo m N F R s₀ i s → (b : Bool) → length (s b) ≡ n * R
  arranged-length i s le a b =
      let bound : i * R ≤ n * R = mul-le-mul_right R le in
      ap length (a b) ∙ length-append (listed_masks m N i F R b) (drop (i * R) (s₀ b))
      ∙ ap₂ ◌+◌ (long i le b) (length-drop (i * R) (s₀ b)) ∙ omega (arith, bound, whole b)

  pub all-counted : length cs ≡ n
  all-counted = ap length h.counts ∙ length-counts [] N F R n

  -- the count of a node
  pub counted : (i : ℕ) → i < n → get_or cs i 0 ≡ length (node_primes [] N F i)
  counted i l =
      ap (λ (z : List ℕ). get_or z i 0) (h.counts ∙ sym (append-nil (listed_counts [] N n F))) ∙ count-back [] N F R n i [] l

  module _ (i : ℕ) (s : Bool → List ℕ) (l : i < n) (a : ArrangedTo m N F R s₀ i s) where
    abbrev rows : List Term
    rows = node_primes [] N F i

    -- node i's part and those behind it are as they were
    behind : (b : Bool) → drop (i * R) (s b) ≡ drop (i * R) (s₀ b)
    behind b =
        ap (drop (i * R)) (a b) ∙ drop_at (listed_masks m N i F R b) (drop (i * R) (s₀ b)) (i * R) (long i (omega arith) b)

    ahead : (b : Bool) → take (i * R) (s b) ≡ listed_masks m N i F R b
    ahead b =
        ap (take (i * R)) (a b) ∙ take_at (listed_masks m N i F R b) (drop (i * R) (s₀ b)) (i * R) (long i (omega arith) b)

    -- node i's part, and the next
    own : (b : Bool) → drop (i * R) (s₀ b) ≡ padded R (masks_of b rows) ++ drop (suc i * R) (s₀ b)
    own b =
        let (more, e) = part-from [] N F R n i b [] h.fits l in
        let f : drop (i * R) (s₀ b) ≡ padded R (masks_of b rows) ++ more =
        ap (drop (i * R)) (h.masks b ∙ sym (append-nil (listed_masks [] N n F R b))) ∙ e in
        let g : drop (suc i * R) (s₀ b) ≡ more =
        ap (λ (k : ℕ). drop k (s₀ b)) (suc-mul i R) ∙ sym (drop-drop R (i * R) (s₀ b)) ∙ ap (drop R) f
        ∙ drop_at (padded R (masks_of b rows)) more R (length_part [] N F R i b (h.fits i l)) in
        f ∙ ap (λ (z : List ℕ). padded R (masks_of b rows) ++ z) (sym g)

    -- its terms
    pub own-terms : (b : Bool) → take (get_or cs i 0) (drop (i * R) (s b)) ≡ masks_of b rows
    own-terms b =
        ap₂ (λ (k : ℕ) (z : List ℕ). take k z) (counted i l)
        (behind b ∙ ap (drop (i * R)) (h.masks b ∙ sym (append-nil (listed_masks [] N n F R b))))
        ∙ masks-back [] N F R n i b [] h.fits l

    pub own-short : (b : Bool) → length (take (get_or cs i 0) (drop (i * R) (s b))) ≤ R
    own-short b = le_trans (le_of_eq (ap length (own-terms b) ∙ length-masks b rows)) (h.fits i l)

    pub own-arrangeable : R ≤ max_capacity
        → Arrangeable (take (get_or cs i 0) (drop (i * R) (s true))) (take (get_or cs i 0) (drop (i * R) (s false)))
    own-arrangeable small =
        let e = ap₂ terms_of (own-terms true) (own-terms false) ∙ terms-masks rows in
        record {
          even = ap length (own-terms false) ∙ length-masks false rows ∙ sym (length-masks true rows) ∙ sym (ap length (own-terms true));
          few = le_trans (own-short true) small;
          over = N;
          terms = λ t k. ((primes-lists [] N (F i)).only t (subst (λ (z : List Term). Memᴰ t z) e k)).is_term;
          rising = subst (Rising (before [])) (sym e) (primes-rising [] N (F i));
        }

    -- when its k terms are in order by the weights, the nodes up to it are
    pub arranged-more : (k : ℕ) → k ≡ get_or cs i 0 → (s' : Bool → List ℕ)
        → ((b : Bool) → s' b ≡ take (i * R) (s b)
        ++ (masks_of b (sort (before m) (terms_of (take k (drop (i * R) (s true))) (take k (drop (i * R) (s false)))))
        ++ drop k (drop (i * R) (s b))))
        → ArrangedTo m N F R s₀ (suc i) s'
    arranged-more k size s' e b =
        let here : List Term = node_primes m N F i in
        let terms : (c : Bool) → take k (drop (i * R) (s c)) ≡ masks_of c rows =
        λ c. ap (λ (j : ℕ). take j (drop (i * R) (s c))) size ∙ own-terms c in
        let sorted : sort (before m) (terms_of (take k (drop (i * R) (s true))) (take k (drop (i * R) (s false)))) ≡ here =
        ap (sort (before m)) (ap₂ terms_of (terms true) (terms false) ∙ terms-masks rows)
        ∙ sort-primes m N (F i) rows (primes-lists [] N (F i)) in
        let zeros : List ℕ = replicate (R - length (masks_of b rows)) 0 in
        let rest : List ℕ = drop (suc i * R) (s₀ b) in
        let past : drop k (drop (i * R) (s b)) ≡ zeros ++ rest =
        ap (drop k) (behind b ∙ own b ∙ append_assoc (masks_of b rows) zeros rest)
        ∙ drop_at (masks_of b rows) (zeros ++ rest) k (length-masks b rows ∙ sym (size ∙ counted i l)) in
        let same : length (masks_of b rows) ≡ length (masks_of b here) =
        length-masks b rows ∙ primes-length N [] m (F i) ∙ sym (length-masks b here) in
        e b
        ∙ (λ j. ahead b j ++ (masks_of b (sorted j) ++ past j))
        ∙ ap (λ (z : ℕ). listed_masks m N i F R b ++ (masks_of b here ++ (replicate (R - z) 0 ++ rest))) same
        ∙ ap (λ (z : List ℕ). listed_masks m N i F R b ++ z)
        (sym (append_assoc (masks_of b here) (replicate (R - length (masks_of b here)) 0) rest))
        ∙ sym (append_assoc (listed_masks m N i F R b) (padded R (masks_of b here)) rest)
        ∙ ap (λ (z : List ℕ). z ++ rest) (sym (masks-suc m N F R i b))
