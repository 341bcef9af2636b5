-- The least joins of two sides: what is one, and that each is listed once every pair is settled.
use Prim.Native.Nat.{ℕ, suc, ◌<◌}
use mathlib.Core.Path.{◌≡◌, refl, sym, ap, ap₂, subst, ◌∙◌}
use mathlib.Core.Bool.{Bool, true, false, not, and_comm}
use mathlib.Core.Logic.{◌⊎◌, inl, inr, ⊎_elim}
use mathlib.Core.List.Memᴰ
use mathlib.Core.List.{List, [], ◌∷◌, Memᴰ}
use native.Mathlib.Omega.{arith}
use lib.Bits.{or_comm}
use lib.Dec.{T, T_not}
use lib.ListN.{length}
use Rattle.masks.proofs.Tests.{along, is_true, is_false, decide}
use Rattle.terms.specs.Joins.{holds_one, joins, holds_shorter, least_of}
use Rattle.terms.specs.Prime.{Prime, Lists}
use Rattle.terms.specs.Term.{term, without, join, inside, conflict, IsTerm, terms_of}
use Rattle.terms.specs.declared.Term.{Term}
use Rattle.terms.proofs.Built.{joins-in, joins-out, conflict-free, joined_free, implicant-listed, least-lists, JoinOf}
use Rattle.terms.proofs.Conjunctions.{conj, conj-i, conj-l}
use Rattle.terms.proofs.Implicants.{least-same}
use Rattle.terms.proofs.Sorted.{keep_out, keep-in}
use Rattle.terms.proofs.Terms.{Inside, join-IsTerm, inside-e, inside-i, inside-trans}
use Rattle.lists.specs.Entries.{term_at}
use Rattle.lists.specs.Scans.{shorter_join}
use Rattle.lists.proofs.Least.{Terms, shorter-joins}
use Rattle.settling.specs.Sides.{Sides, least_joins, Covered, Settled}

-- ---- terms by their places
-- a term of the list stands at some place
pub place_of : (ps ns : List ℕ) (t : Term) → length ns ≡ length ps → Memᴰ t (terms_of ps ns)
    → (k : ℕ) × (k < length ps) × (t ≡ term_at ps ns k)
place_of [] ns t e m = absurd (Memᴰ.not-nil m)
place_of (p ∷ ps) [] t e m = absurd (Memᴰ.not-nil m)
place_of (p ∷ ps) (n ∷ ns) t e m = go (Memᴰ.cases_cons m) (place_of ps ns t (omega arith))
  where
    go : (t ≡ term p n) ⊎ Memᴰ t (terms_of ps ns) → (Memᴰ t (terms_of ps ns) → (k : ℕ) × (k < length ps) × (t ≡ term_at ps ns k))
        → (k : ℕ) × (k < length (p ∷ ps)) × (t ≡ term_at (p ∷ ps) (n ∷ ns) k)
    go (inl d) r = (0, omega arith, d)
    go (inr k) r = let (i, l, d) = r k in (suc i, omega arith, d)

pub join-comm : (t u : Term) → join t u ≡ join u t
join-comm t u = ap₂ term (or_comm t.positive u.positive) (or_comm t.negative u.negative)

-- a listed term stays listed
pub settled-more : {least l l' : List Term} (t u : Term) → ((v : Term) → Memᴰ v l → Memᴰ v l')
    → Settled least l t u → Settled least l' t u
settled-more t u h (inl e) = inl e
settled-more t u h (inr c) =
    inr (record { term = c.term; is-listed = h c.term c.is-listed; is-least = c.is-least; is-inside = c.is-inside })

-- the sides the other way round
abbrev pub turned : {a b : List Term} → Sides a b → Sides b a
turned h =
    record {
      variables = h.variables;
      wide = h.wide;
      low = h.high;
      high = h.low;
      lists-low = h.lists-high;
      lists-high = h.lists-low;
      rising-low = h.rising-high;
      rising-high = h.rising-low;
    }

module _ {a b : List Term} (h : Sides a b) where
  abbrev N : ℕ
  N = h.variables

  abbrev both : ℕ → Bool
  both = conj N h.low h.high

  pub low-terms : Terms N a
  low-terms t m = (h.lists-low.only t m).is_term

  pub high-terms : Terms N b
  high-terms t m = (h.lists-high.only t m).is_term

  lists-least : Lists N both (least_joins a b)
  lists-least = least-lists N h.wide h.low h.high a b h.lists-low h.lists-high

  pub least-prime : (t : Term) → Memᴰ t (least_joins a b) → Prime N both t
  least-prime = lists-least.only

  pub least-terms : Terms N (least_joins a b)
  least-terms t m = (least-prime t m).is_term

  -- the join of two terms without a conflict
  pub joined : (t u : Term) → Memᴰ t a → Memᴰ u b → conflict t u ≡ false → Memᴰ (join t u) (joins a b)
  joined t u m n e = joins-in b a t u (join t u) m n (along (sym (ap not e)) tt) refl

  pub joins-terms : Terms N (joins a b)
  joins-terms t m =
      let j : JoinOf a b t = joins-out b a t m in
      let l : IsTerm N j.left = low-terms j.left j.in_left in
      subst (IsTerm N) (sym j.is)
      (join-IsTerm N j.left j.right l (high-terms j.right j.in_right)
      (conflict-free N h.wide j.left j.right l j.free))

  -- a join with no shorter one inside is least
  pub struck : (t : Term) → Memᴰ t (joins a b) → shorter_join a b t ≡ false → Memᴰ t (least_joins a b)
  unfolding least_of
  struck t m e =
      keep-in (λ t. not (holds_shorter (joins a b) t)) (joins a b) t m
      (along (ap not (sym e ∙ shorter-joins N h.wide a b low-terms high-terms t (joins-terms t m))) tt)

  -- a term of the low side with one of the high side inside is a least join
  pub alone : (t : Term) → Memᴰ t a → T (holds_one b t) → Memᴰ t (least_joins a b)
  alone t m o =
      let c : Prime N h.low t = h.lists-low.only t m in
      lists-least.every t
      (record {
        is_term = c.is_term;
        holds = conj-i N h.low h.high t c.holds
            (implicant-listed N h.wide h.high b h.lists-high t c.is_term o);
        minimal = λ x s p i. c.minimal x s p (conj-l N h.low h.high (without t x) i);
      })

  -- a term inside a term inside q is inside q
  pub inside-then : (r t q : Term) → IsTerm N r → IsTerm N t → T (inside r t) → T (inside t q) → T (inside r q)
  inside-then r t q kr kt p o =
      inside-i N r q (inside-trans r t q (inside-e N h.wide r t kr p) (inside-e N h.wide t q kt o))

  -- a least join with a listed one inside is listed
  covered-listed : {l : List Term} (t : Term) → Memᴰ t (least_joins a b) → Covered (least_joins a b) l t → Memᴰ t l
  covered-listed {l} t m c =
      let p : Prime N both c.term = least-prime c.term c.is-least in
      let i : Inside c.term t = inside-e N h.wide c.term t p.is_term (along (sym c.is-inside) tt) in
      subst (λ (z : Term). Memᴰ z l) (least-same N both t c.term (least-prime t m) p.is_term i p.holds) c.is-listed

  -- once every pair is settled, every least join is listed
  pub all_listed : {l : List Term}
      → ((t u : Term) → Memᴰ t a → Memᴰ u b → Settled (least_joins a b) l t u)
      → (t : Term) → Memᴰ t (least_joins a b) → Memᴰ t l
  unfolding least_of
  all_listed {l} done t m =
      let (k, n) = keep_out (λ t. not (holds_shorter (joins a b) t)) (joins a b) t m in
      let j : JoinOf a b t = joins-out b a t k in
      go j (done j.left j.right j.in_left j.in_right)
    where
      go : (j : JoinOf a b t) → Settled (least_joins a b) l j.left j.right → Memᴰ t l
      go j (inl e) = absurd (T_not (conflict j.left j.right) j.free (along (sym e) tt))
      go j (inr c) = covered-listed t m (subst (Covered (least_joins a b) l) (sym j.is) c)

-- ---- the sides the other way round have the same least joins, and settle the same pairs
module _ {a b : List Term} (h : Sides a b) where
  same-both : conj h.variables h.high h.low ≡ conj h.variables h.low h.high
  same-both = λ i s. and_comm (h.high s) (h.low s) i

  pub least-turned : (t : Term) → Memᴰ t (least_joins b a) → Memᴰ t (least_joins a b)
  least-turned t m =
      (least-lists h.variables h.wide h.low h.high a b h.lists-low h.lists-high).every t
      (subst (λ (f : ℕ → Bool). Prime h.variables f t) same-both (least-prime (turned h) t m))

  conflict-turned : (t u : Term) → Memᴰ t a → Memᴰ u b → conflict u t ≡ true → conflict t u ≡ true
  conflict-turned t u m n e = ⊎_elim (is_true (conflict t u)) free (decide (conflict t u))
    where
      free : T (not (conflict t u)) → conflict t u ≡ true
      free f =
          let k : IsTerm h.variables (join t u) =
          joins-terms h (join t u) (joined h t u m n (is_false (conflict t u) f)) in
          absurd
          (T_not (conflict u t)
          (joined_free h.variables h.wide u t (subst (IsTerm h.variables) (join-comm t u) k))
          (along (sym e) tt))

  pub settled-turned : {l : List Term} (t u : Term) → Memᴰ t a → Memᴰ u b
      → Settled (least_joins b a) l u t → Settled (least_joins a b) l t u
  settled-turned t u m n (inl e) = inl (conflict-turned t u m n e)
  settled-turned {l} t u m n (inr c) =
      inr
      (record {
        term = c.term;
        is-listed = c.is-listed;
        is-least = least-turned c.term c.is-least;
        is-inside = subst (λ (q : Term). inside c.term q ≡ true) (join-comm u t) c.is-inside;
      })
