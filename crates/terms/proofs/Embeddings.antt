-- Proposition 6: the prime implicants of a side of a decision, or of a conjunction of functions with no variable in common,
-- go one to one into those of the whole.
use Prim.Native.Nat.{ℕ, suc, ◌+◌, ◌<◌, ◌≤◌}
use mathlib.Core.Path.{◌≡◌, refl, sym, ap, subst, ◌∙◌}
use mathlib.Core.Bool.{Bool, true, false, not, cond}
use mathlib.Core.Logic.{◌⊎◌, inl, inr, ⊎_elim, ◌≢◌}
use mathlib.Core.List.Memᴰ
use mathlib.Core.List.{List, [], ◌∷◌, ◌++◌, Memᴰ}
use native.Mathlib.Omega.{arith}
use lib.Dec.{T}
use lib.ListN.{length, length-append}
use Rattle.masks.proofs.Tests.{along}
use Rattle.terms.specs.Lists.{keep, Rising}
use Rattle.terms.specs.Order.{before}
use Rattle.terms.specs.Prime.{implicant, primes, Prime}
use Rattle.terms.specs.Term.{has, without, extend, join}
use Rattle.terms.specs.declared.Term.{Term}
use Rattle.terms.proofs.Conjunctions.{conj, inside-left, inside-right, apart-prime}
use Rattle.terms.proofs.Decisions.{choice, side-unmentioned, both-sides, one_side}
use Rattle.terms.proofs.Implicants.{Free, implicant-e, implicant-i}
use Rattle.terms.proofs.Listed.{before-irrefl, primes-lists, primes-rising}
use Rattle.terms.proofs.Sorted.{keep-in, keep_out, keep-rising}
use Rattle.terms.proofs.Terms.{Inside, Unmentioned, extend-here, join-l, join-r, term-ext, without-extend}

-- ---- a list without repetitions that goes one to one into another is no longer
split_at : {A : Type 0} (a : A) (l : List A) → Memᴰ a l → (p : List A) × (q : List A) × (l ≡ p ++ (a ∷ q))
split_at a [] m = absurd (Memᴰ.not-nil m)
split_at {A} a (b ∷ l) m = go (Memᴰ.cases_cons m) (split_at a l)
  where
    go : (a ≡ b) ⊎ Memᴰ a l → (Memᴰ a l → (p : List A) × (q : List A) × (l ≡ p ++ (a ∷ q)))
        → (p : List A) × (q : List A) × (b ∷ l ≡ p ++ (a ∷ q))
    go (inl e) r = ([], l, ap (λ (x : A). x ∷ l) (sym e))
    go (inr n) r = let (p, q, e) = r n in (b ∷ p, q, ap (λ (x : List A). b ∷ x) e)

-- a member other than a stays one when a is taken out
leave-out : {A : Type 0} (a c : A) (p q : List A) → c ≢ a → Memᴰ c (p ++ (a ∷ q)) → Memᴰ c (p ++ q)
leave-out {A} a c p q n m =
    ⊎_elim (λ (k : Memᴰ c p). Memᴰ.append_left q k)
    (λ (k : Memᴰ c (a ∷ q)).
    ⊎_elim (λ (e : c ≡ a). absurd (n e)) (λ (i : Memᴰ c q). Memᴰ.append_right p i) (Memᴰ.cases_cons k))
    (Memᴰ.append_cases p m)

abbrev Distinct : {A : Type 0} → List A → Type 0
Distinct [] = Unit {0}
Distinct {A} (a ∷ l) = ((b : A) → Memᴰ b l → b ≢ a) × Distinct l

into-length : {A : Type 0} (φ : A → A) (l k : List A) → Distinct l → ((a : A) → Memᴰ a l → Memᴰ (φ a) k)
    → ((a b : A) → Memᴰ a l → Memᴰ b l → φ a ≡ φ b → a ≡ b) → length l ≤ length k
into-length φ [] k d h one = omega arith
into-length {A} φ (a ∷ l) k d h one =
    let (p, q, e) = split_at (φ a) k (h a (Memᴰ.head refl)) in
    let other : (b : A) → Memᴰ b l → φ b ≢ φ a =
    (λ b m f. d.0 b m (one b a (Memᴰ.tail m) (Memᴰ.head refl) f)) in
    let shorter : length l ≤ length (p ++ q) =
    into-length φ l (p ++ q) d.1
    (λ b m. leave-out (φ a) (φ b) p q (other b m) (subst (λ (z : List A). Memᴰ (φ b) z) e (h b (Memᴰ.tail m))))
    (λ b c m n. one b c (Memᴰ.tail m) (Memᴰ.tail n)) in
    let x : length (p ++ q) ≡ length p + length q = length-append p q in
    let y : length (p ++ (φ a ∷ q)) ≡ length p + suc (length q) = length-append p (φ a ∷ q) in
    let z : length k ≡ length (p ++ (φ a ∷ q)) = ap length e in
    omega arith

rising-distinct : (m : List ℕ) (l : List Term) → Rising (before m) l → Distinct l
rising-distinct m [] r = tt
rising-distinct m (a ∷ l) r =
    (λ b i e. before-irrefl m a (subst (λ (z : Term). T (before m a z)) e (r.0 b i)), rising-distinct m l r.1)

-- a list in order whose members are all in another is no longer
pub rising-length : (m : List ℕ) (l k : List Term) → Rising (before m) l → ((t : Term) → Memᴰ t l → Memᴰ t k)
    → length l ≤ length k
rising-length m l k r h = into-length (λ t. t) l k (rising-distinct m l r) h (λ t u i j e. e)

module _ (N : ℕ) where
  -- the prime implicants of f go one to one into those of g
  pub record Embeds (f g : ℕ → Bool) : Type 0 where
    pub to : Term → Term
    pub keeps : (t : Term) → Prime N f t → Prime N g (to t)
    pub apart : (t u : Term) → Prime N f t → Prime N f u → to t ≡ to u → t ≡ u

  pub embeds-refl : (f : ℕ → Bool) → Embeds f f
  embeds-refl f = record { to = λ t. t; keeps = λ t c. c; apart = λ t u c d e. e }

  pub embeds-trans : (f g h : ℕ → Bool) → Embeds f g → Embeds g h → Embeds f h
  embeds-trans f g h p q =
      record {
        to = λ t. q.to (p.to t);
        keeps = λ t c. q.keeps (p.to t) (p.keeps t c);
        apart = λ t u c d e. p.apart t u c d (q.apart (p.to t) (p.to u) (p.keeps t c) (p.keeps u d) e);
      }

  -- the weights, which may differ, say only in which order the lists are
  pub embeds-length : (m k : List ℕ) (f g : ℕ → Bool) → Embeds f g → length (primes m N f) ≤ length (primes k N g)
  embeds-length m k f g p =
      into-length p.to (primes m N f) (primes k N g) (rising-distinct m (primes m N f) (primes-rising m N f))
      (λ t i. (primes-lists k N g).every (p.to t) (p.keeps t ((primes-lists m N f).only t i)))
      (λ t u i j. p.apart t u ((primes-lists m N f).only t i) ((primes-lists m N f).only u j))

  -- there are as many by other weights
  pub primes-length : (m k : List ℕ) (f : ℕ → Bool) → length (primes m N f) ≡ length (primes k N f)
  primes-length m k f =
      let there : length (primes m N f) ≤ length (primes k N f) = embeds-length m k f f (embeds-refl f) in
      let back : length (primes k N f) ≤ length (primes m N f) = embeds-length k m f f (embeds-refl f) in
      omega arith

  -- and as many that pass a test
  pub kept-length : (m k : List ℕ) (f : ℕ → Bool) (p : Term → Bool) → length (keep p (primes m N f)) ≡ length (keep p (primes k N f))
  kept-length m k f p =
      let there : length (keep p (primes m N f)) ≤ length (keep p (primes k N f)) = no_more m k in
      let back : length (keep p (primes k N f)) ≤ length (keep p (primes m N f)) = no_more k m in
      omega arith
    where
      no_more : (m k : List ℕ) → length (keep p (primes m N f)) ≤ length (keep p (primes k N f))
      no_more m k =
          rising-length m (keep p (primes m N f)) (keep p (primes k N f)) (keep-rising p (before m) (primes m N f) (primes-rising m N f))
          (λ t i.
          let (j, h) = keep_out p (primes m N f) t i in
          keep-in p (primes k N f) t ((primes-lists k N f).every t ((primes-lists m N f).only t j)) h)

  -- ---- a side of a decision
  module _ (F : Bool → ℕ → Bool) (x : ℕ) (l : x < N) (free : (b : Bool) → Free N (F b) x) where
    lift : Bool → Term → Term
    lift b t = cond (implicant N (F (not b)) t) t (extend t x b)

    pub side-embeds : (b : Bool) → Embeds (F b) (choice F x)
    unfolding lift
    side-embeds b =
        record {
          to = lift b;
          keeps = λ t c. keeps t c (implicant N (F (not b)) t) refl;
          apart = λ t u c d e. apart t u c d (implicant N (F (not b)) t) (implicant N (F (not b)) u) e;
        }
      where
        bare : (t : Term) → Prime N (F b) t → Unmentioned t x
        bare t c = side-unmentioned N F x l free b t c

        keeps : (t : Term) → Prime N (F b) t → (a : Bool) → implicant N (F (not b)) t ≡ a
            → Prime N (choice F x) (cond a t (extend t x b))
        keeps t c true e = both-sides N F x l free b t c (implicant-e N (F (not b)) t (along (sym e) tt))
        keeps t c false e = one_side N F x l free b t c (λ q. along e (implicant-i N (F (not b)) t c.is_term q))

        apart : (t u : Term) → Prime N (F b) t → Prime N (F b) u → (a a' : Bool)
            → cond a t (extend t x b) ≡ cond a' u (extend u x b) → t ≡ u
        apart t u c d true true e = e
        apart t u c d true false e =
            absurd (bare t c b (subst (λ (z : Term). T (has z b x)) (sym e) (extend-here u x b)))
        apart t u c d false true e = absurd (bare u d b (subst (λ (z : Term). T (has z b x)) e (extend-here t x b)))
        apart t u c d false false e =
            sym (without-extend N t x b l c.is_term (bare t c)) ∙ ap (λ (z : Term). without z x) e
            ∙ without-extend N u x b l d.is_term (bare u d)

  -- ---- a side of a conjunction of functions with no variable in common
  module _ (f g : ℕ → Bool) (free : (x : ℕ) → x < N → Free N f x ⊎ Free N g x) where
    pub left-embeds : (u : Term) → Prime N g u → Embeds f (conj N f g)
    left-embeds u pu =
        record {
          to = λ t. join t u;
          keeps = λ t pt. apart-prime N f g free t u pt pu;
          apart = λ t t' pt pt' e. term-ext N t t' pt.is_term pt'.is_term
              (inside-left N f g free t' u t pu pt (subst (λ (z : Term). Inside t z) e (join-l t u)))
              (inside-left N f g free t u t' pu pt' (subst (λ (z : Term). Inside t' z) (sym e) (join-l t' u)));
        }

    pub right-embeds : (t : Term) → Prime N f t → Embeds g (conj N f g)
    right-embeds t pt =
        record {
          to = λ u. join t u;
          keeps = λ u pu. apart-prime N f g free t u pt pu;
          apart = λ u u' pu pu' e. term-ext N u u' pu.is_term pu'.is_term
              (inside-right N f g free t u' u pt pu (subst (λ (z : Term). Inside u z) e (join-r t u)))
              (inside-right N f g free t u u' pt pu' (subst (λ (z : Term). Inside u' z) (sym e) (join-r t u')));
        }
