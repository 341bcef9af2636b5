-- The making of a node's terms, place by place from the last one down: what the buffers hold once some are made.
use Prim.Native.Nat.{ℕ, zero, suc, ◌+◌, ◌-◌, ◌<◌, ◌≤◌, zero-le}
use mathlib.Core.Path.{◌≡◌, refl, sym, ap, ap₂, subst, ◌∙◌}
use mathlib.Core.Bool.{Bool, true, false}
use mathlib.Core.List.{List, []}
use mathlib.Core.Logic.{⊎_elim}
use native.Mathlib.Nat.{le_refl, le_trans, eq-or-lt_of_le}
use native.Mathlib.Omega.{arith}
use lib.ListN.{length, take, drop}
use Rattle.std.specs.Prelude.{Option, Some, None}
use Rattle.table.specs.Layout.{max_children}
use Rattle.table.specs.declared.gates.Gate.{Gate}
use Rattle.table.specs.declared.gates.Gate.TheVariants.{Constant, Literal, Decision, Conjunction, Unknown}
use Rattle.terms.specs.Term.{terms_of}
use Rattle.terms.specs.declared.Term.{Term}
use Rattle.lists.proofs.Parts.{length-terms}
use Rattle.insertion.specs.Filled.{masks_of}
use Rattle.insertion.proofs.Parts.{terms-masks, length-masks, kept-count, kept_full, count_kept, full-kept}
use Rattle.nodes.specs.Part.{gate_made, PairGiven, terms_from, terms_at, laid_at, places, made_from, node_made, PartFilled}
use Rattle.nodes.specs.Part.{child_from, child_size, child_terms, NodeGiven, Laid}
use Rattle.nodes.specs.declared.NodePart.{NodePart}
use Rattle.nodes.specs.declared.Terms.{Terms}
use Rattle.nodes.proofs.Parts.{length_part, laid_nil, laid-front, laid-back, length-laid, laid-over, same-before}

-- ---- the places of a gate
pub places-few : (g : Gate) (count : ℕ) → count ≤ max_children → places g count ≤ max_children
places-few (Constant b) count h = omega arith
places-few (Literal b x) count h = omega arith
places-few (Decision x a b) count h = omega arith
places-few Conjunction count h = h
places-few Unknown count h = omega arith

-- only a conjunction has more than two, one for each child
places-more : (g : Gate) (count k : ℕ) → suc (suc k) < places g count → k < count
places-more (Constant b) count k h = absurd (omega arith)
places-more (Literal b x) count k h = absurd (omega arith)
places-more (Decision x a b) count k h = absurd (omega arith)
places-more Conjunction count k h = omega arith
places-more Unknown count k h = absurd (omega arith)

-- the terms in two parts of the same length
length_from : (s : Bool → List ℕ) (from n : ℕ) → from + n ≤ length (s true) → length (s false) ≡ length (s true)
    → length (terms_from s from n) ≡ n
length_from s from n h e =
    let p : length (take n (drop from (s true))) ≡ n = length_part from n (s true) h in
    let q : length (take n (drop from (s false))) ≡ n = length_part from n (s false) (omega arith) in
    length-terms (take n (drop from (s true))) (take n (drop from (s false))) (q ∙ sym p) ∙ p

module _ (s : Bool → List ℕ) (counts : List ℕ) (p : NodePart) where
  abbrev v : ℕ → List Term
  v = child_terms s counts p

  -- the number of places
  abbrev pub all : ℕ
  all = places p.gate p.children.count

  -- what is made of m places from k on, and of all from k on
  abbrev made_of : ℕ → ℕ → List Term
  made_of = made_from p.sign p.gate v

  abbrev after : ℕ → List Term
  after k = made_of k (all - k)

  abbrev two_made : List Term → List Term → List Term
  two_made = gate_made p.sign p.gate

  -- l was to be made in the part
  abbrev Filled : List Term → (Bool → List ℕ) → (Bool → List ℕ) → Option ℕ → Type 0
  Filled l = PartFilled l p.at p.capacity

  -- the buffers s' hold what is made from place k on where `high` says, and are s but for the part, which is as it was before the first
  -- turn and holds that list after each
  pub record Making (k : ℕ) (s' : Bool → List ℕ) (high : Terms) : Type 0 where
    pub some : k < all
    pub list : List Term
    pub few : length list ≤ p.capacity
    pub over : (b : Bool) → s' b ≡ laid_at p.at p.capacity (masks_of b list) (s b)
    pub none : suc k ≡ all → list ≡ []
    pub whole : suc k < all → list ≡ after k
    pub terms : terms_at s' high ≡ after k
    pub size : high.count ≡ length (after k)
    pub room : high.count ≤ p.capacity
    pub there : high.from + p.capacity ≤ length (s true)

  module _ (lies : Laid s counts p) (given : NodeGiven p.sign p.gate v all) where
    inside : (b : Bool) → p.at + p.capacity ≤ length (s b)
    inside true = lies.inside
    inside false = let e = lies.even in let i = lies.inside in omega arith

    all_after : after 0 ≡ made_of 0 all
    all_after = let d : all - 0 ≡ all = omega arith in ap (made_of 0) d

    pub last-below : all - 1 ≤ 7
    last-below = let h = places-few p.gate p.children.count lies.few in omega arith

    -- ---- the start
    pub making-start : (k : ℕ) (high : Terms) → k ≡ all - 1 → high.from ≡ child_from p k → high.count ≡ child_size counts p k
        → Making k s high
    making-start k high e f c =
        let two = given.two in
        let one : after k ≡ v k = let d : all - k ≡ 1 = omega arith in ap (made_of k) d in
        let few : child_size counts p k ≤ p.capacity = lies.sizes k in
        let low : child_from p k + p.capacity ≤ length (s true) = lies.there k in
        record {
          some = omega arith;
          list = [];
          few = zero-le;
          over = λ b. sym (laid_nil p.at p.capacity (s b) (inside b));
          none = λ h. refl;
          whole = λ h. absurd (omega arith);
          terms = ap₂ (terms_from s) f c ∙ sym one;
          size = c ∙ sym (length_from s (child_from p k) (child_size counts p k) (omega arith) lies.even) ∙ ap length (sym one);
          room = omega arith;
          there = omega arith;
        }

    -- the buffers keep their lengths
    pub making-long : (k : ℕ) (s' : Bool → List ℕ) (high : Terms) → Making k s' high → (b : Bool) → length (s' b) ≡ length (s b)
    making-long k s' high j b =
        ap length (j.over b)
        ∙ length-laid p.at p.capacity (s b) (inside b) (masks_of b j.list) (omega (arith, length-masks b j.list, j.few))

    -- there is a child at each place of a turn
    pub making-few : (k : ℕ) (s' : Bool → List ℕ) (high : Terms) → Making k s' high → k ≤ 7
    making-few k s' high j = let h = j.some in let l = last-below in omega arith

    -- ---- what is made with one place more
    module _ (k : ℕ) (h : suc k < all) where
      abbrev left : ℕ
      left = all - suc (suc k)

      two : k + suc (suc left) ≡ all
      two = omega arith

      after_next : after (suc k) ≡ made_of (suc k) (suc left)
      after_next = let d : all - suc k ≡ suc (all - suc (suc k)) = omega arith in ap (made_of (suc k)) d

      after-this : after k ≡ two_made (v k) (after (suc k))
      after-this =
          let d : all - k ≡ suc (suc (all - suc (suc k))) = omega arith in
          ap (made_of k) d ∙ ap (two_made (v k)) (sym after_next)

      pair : PairGiven p.gate (v k) (after (suc k))
      pair = subst (PairGiven p.gate (v k)) (sym after_next) (given.pairs k left two)

    more-after : (k : ℕ) → suc (suc k) < all → length (after (suc k)) ≤ length (after k)
    more-after k h =
        let rest : ℕ = all - suc (suc (suc k)) in
        let d : all - suc k ≡ suc (suc rest) = omega arith in
        let e : all - k ≡ suc (suc (suc rest)) = omega arith in
        subst (λ (m : ℕ). length (made_of (suc k) m) ≤ length (after k)) (sym d)
        (subst (λ (m : ℕ). length (made_of (suc k) (suc (suc rest))) ≤ length (made_of k m)) (sym e)
        (given.grows k rest (omega arith)))

    most-after : (k : ℕ) → suc k < all → length (after k) ≤ length (after 0)
    most-after zero l = le_refl (length (after 0))
    most-after (suc k) l = le_trans (more-after k l) (most-after k (omega arith))

    -- ---- a turn
    module _ (k : ℕ) (s' : Bool → List ℕ) (high : Terms) (j : Making (suc k) s' high) where
      long : (b : Bool) → length (s' b) ≡ length (s b)
      long b = making-long (suc k) s' high j b

      even : length (s' false) ≡ length (s' true)
      even = long false ∙ lies.even ∙ sym (long true)

      -- what was made before is no longer than what is made now
      short : length j.list ≤ length (after k)
      short =
          ⊎_elim
          (λ (e : suc (suc k) ≡ all). subst (λ (l : List Term). length l ≤ length (after k)) (sym (j.none e)) zero-le)
          (λ (l : suc (suc k) < all).
          subst (λ (m : List Term). length m ≤ length (after k)) (sym (j.whole l)) (more-after k l))
          (eq-or-lt_of_le j.some)

      -- the child's terms are where they were: nothing was made yet, or they stand below
      child-same : (b : Bool)
          → take (child_size counts p k) (drop (child_from p k) (s' b)) ≡ take (child_size counts p k) (drop (child_from p k) (s b))
      child-same b = ⊎_elim first later (eq-or-lt_of_le j.some)
        where
          first : suc (suc k) ≡ all
              → take (child_size counts p k) (drop (child_from p k) (s' b)) ≡ take (child_size counts p k) (drop (child_from p k) (s b))
          first e =
              ap (λ (z : List ℕ). take (child_size counts p k) (drop (child_from p k) z))
              (j.over b ∙ ap (λ (l : List Term). laid_at p.at p.capacity (masks_of b l) (s b)) (j.none e)
              ∙ laid_nil p.at p.capacity (s b) (inside b))

          later : suc (suc k) < all
              → take (child_size counts p k) (drop (child_from p k) (s' b)) ≡ take (child_size counts p k) (drop (child_from p k) (s b))
          later l =
              let low : child_from p k + p.capacity ≤ p.at = lies.below k (places-more p.gate p.children.count k l) in
              let few : child_size counts p k ≤ p.capacity = lies.sizes k in
              same-before p.at (child_from p k) (child_size counts p k) (s b) (s' b) (omega arith)
              (ap (take p.at) (j.over b) ∙ laid-front p.at p.capacity (s b) (inside b) (masks_of b j.list))

      module _ (low : Terms) (f : low.from ≡ child_from p k) (c : low.count ≡ child_size counts p k) where
        abbrev Rooms : Type 0
        Rooms =
            (low.count ≤ p.capacity) × (high.count ≤ p.capacity) × (low.from + p.capacity ≤ length (s' true))
            × (high.from + p.capacity ≤ length (s' true)) × (p.at + p.capacity ≤ length (s' true))
            × (length (s' false) ≡ length (s' true))

        pub turn-rooms : Rooms
        turn-rooms =
            let few = lies.sizes k in
            let low-there = lies.there k in
            let there = j.there in
            let i = lies.inside in
            let l = long true in
            (omega arith, j.room, omega arith, omega arith, omega arith, even)

        low-terms : terms_at s' low ≡ v k
        low-terms = ap₂ (terms_from s') f c ∙ ap₂ terms_of (child-same true) (child-same false)

        pub turn-given : PairGiven p.gate (terms_at s' low) (terms_at s' high)
        turn-given =
            subst (λ (a : List Term). PairGiven p.gate a (terms_at s' high)) (sym low-terms)
            (subst (PairGiven p.gate (v k)) (sym j.terms) (pair k j.some))

        -- what was made
        module _ (s'' : Bool → List ℕ) (r : Option ℕ) (filled : Filled (two_made (terms_at s' low) (terms_at s' high)) s' s'' r) where
          here : Filled (after k) s' s'' r
          here =
              subst (λ (l : List Term). Filled l s' s'' r) (ap₂ two_made low-terms j.terms ∙ sym (after-this k j.some)) filled

          pub making-more : (n : ℕ) → r ≡ Some n → Making k s'' (record { from = p.at; count = n })
          making-more n e =
              let (fits, size) = kept-count p.capacity (after k) n (sym e ∙ here.answer) in
              let over : (b : Bool) → s'' b ≡ laid_at p.at p.capacity (masks_of b (after k)) (s b) = λ b.
              here.masks fits b ∙ ap (laid_at p.at p.capacity (masks_of b (after k))) (j.over b)
              ∙ laid-over p.at p.capacity (s b) (inside b) (masks_of b j.list) (masks_of b (after k))
              (omega (arith, length-masks b j.list, length-masks b (after k), short))
              (omega (arith, length-masks b (after k))) in
              let i = j.some in
              record {
                some = omega arith;
                list = after k;
                few = fits;
                over = over;
                none = λ h. absurd (omega arith);
                whole = λ h. refl;
                terms = ap₂ terms_of (back n size over true) (back n size over false) ∙ terms-masks (after k);
                size = size;
                room = omega arith;
                there = lies.inside;
              }
            where
              back : (n : ℕ) → n ≡ length (after k) → ((b : Bool) → s'' b ≡ laid_at p.at p.capacity (masks_of b (after k)) (s b))
                  → (b : Bool) → take n (drop p.at (s'' b)) ≡ masks_of b (after k)
              back n size over b =
                  ap₂ (λ (m : ℕ) (z : List ℕ). take m (drop p.at z)) (size ∙ sym (length-masks b (after k))) (over b)
                  ∙ laid-back p.at p.capacity (s b) (inside b) (masks_of b (after k))

          -- more terms than the part holds: so has the whole
          pub making-full : r ≡ None → Filled (node_made p.sign p.gate p.children.count v) s s'' r
          making-full e =
              let over : p.capacity < length (after k) = kept_full p.capacity (after k) (sym e ∙ here.answer) in
              let most : length (after k) ≤ length (after 0) = most-after k j.some in
              let past : p.capacity < length (after 0) = omega arith in
              subst (λ (l : List Term). Filled l s s'' r) all_after
              (record { answer = e ∙ full-kept p.capacity (after 0) past; masks = λ h. absurd (omega arith) })

    -- all are made
    pub making-end : (s' : Bool → List ℕ) (high : Terms) → Making 0 s' high
        → Filled (node_made p.sign p.gate p.children.count v) s s' (Some high.count)
    making-end s' high j =
        let t = given.two in
        let size = j.size in
        let room = j.room in
        subst (λ (l : List Term). Filled l s s' (Some high.count)) all_after
        (record {
          answer = ap Some size ∙ count_kept p.capacity (after 0) (omega arith);
          masks = λ h b. j.over b ∙ ap (λ (l : List Term). laid_at p.at p.capacity (masks_of b l) (s b)) (j.whole (omega arith));
        })
