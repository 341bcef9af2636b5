-- The nodes of an accepted table as functions: decisions and conjunctions of their children's, with no variable in common.
use Prim.Native.Nat.{ℕ, zero, suc, ◌<◌, ◌≤◌}
use mathlib.Core.Path.{◌≡◌, refl, sym, ap, subst, ◌∙◌, fun_ext}
use mathlib.Core.Bool.{Bool, true, false, not, cond}
use mathlib.Core.Logic.{◌⊎◌, ⊎_elim, ⊎_map, ◌≢◌}
use mathlib.Core.List.{List, [], ◌∷◌, Memᴰ}
use native.Mathlib.Omega.{arith}
use lib.Dec.{T}
use lib.ListN.{drop}
use lib.Pow.{pow_pos}
use Rattle.masks.specs.Mask.{width, bit, put, disjoint}
use Rattle.masks.proofs.Masks.{put_same, put-lt}
use Rattle.masks.proofs.Operators.{disjoint-at}
use Rattle.masks.proofs.Tests.{and_l, and_r, not-or, not-not, along, either, same?}
use Rattle.table.specs.Node.{node_at, Node, decision, conjunction}
use Rattle.table.proofs.Encoding.{Fits}
use Rattle.terms.specs.Lists.{all}
use Rattle.terms.specs.Prime.{Prime}
use Rattle.terms.specs.Term.{empty, has, without, extend}
use Rattle.terms.proofs.Implicants.{Free}
use Rattle.terms.proofs.Terms.{without-here, extend-here, extend-there, empty-has, without-inside, empty-IsTerm, extend-IsTerm}
use Rattle.circuits.specs.Check.{all_disjoint, node_meets, undecomposable}
use Rattle.circuits.specs.Function.{signed, node_value, function, union, support}
use Rattle.circuits.proofs.Accepted.{variables-wide, Accepted}
use Rattle.circuits.proofs.Tables.{all-free, fits, function_of, not-under-free}

-- the two sides of a decision: the function of child a where the variable is no, of b where it is yes
abbrev pub sides : List ℕ → ℕ → ℕ → Bool → ℕ → Bool
sides w a b c = function w (cond c b a)

-- the conjunction of the children's functions
abbrev pub all_of : List ℕ → List ℕ → ℕ → Bool
all_of w cs s = all (λ c. function w c s) cs

module _ {N n : ℕ} {w : List ℕ} (acc : Accepted N n w) where
  pub node-fits : (i : ℕ) (y : Node) → i < n → node_at w i ≡ y → Fits N i y
  node-fits i y l e = subst (Fits N i) e (fits N n w acc.well i l)

  -- a node's function, by its kind
  pub function-is : (i : ℕ) (y : Node) → i < n → node_at w i ≡ y → function w i ≡ (λ s. node_value s y (λ c. function w c s))
  function-is i y l e =
      fun_ext (λ s. function_of N n w acc.well i l s ∙ ap (λ (z : Node). node_value s z (λ c. function w c s)) e)

  pub not-under : (i x : ℕ) → i < n → T (not (bit (support w i) x)) → Free N (function w i) x
  not-under i x l h = not-under-free N n w acc.well i x l h

  -- ---- a decision's variable does not matter to its sides
  pub decision-free : (i x a b : ℕ) → i < n → node_at w i ≡ decision x a b → (c : Bool) → Free N (sides w a b c) x
  unfolding undecomposable
  decision-free i x a b l e =
      let f : (x < N) × (a < i) × (b < i) = node-fits i (decision x a b) l e in
      let (p, q) =
      not-or (bit (support w a) x) (bit (support w b) x)
      (subst (λ (y : Node). T (not (node_meets (support w) y))) e (acc.decomposed i l)) in
      either (λ c. Free N (sides w a b c) x) true (not-under b x (omega arith) q) (not-under a x (omega arith) p)

  -- ---- no variable matters to two children of a conjunction
  pub conjunction-below : (i : ℕ) (cs : List ℕ) → i < n → node_at w i ≡ conjunction cs → (c : ℕ) → Memᴰ c cs → c < n
  conjunction-below i cs l e c m = let k : c < i = (node-fits i (conjunction cs) l e).2 c m in omega arith

  pub conjunction-disjoint : (i : ℕ) (cs : List ℕ) → i < n → node_at w i ≡ conjunction cs → T (all_disjoint (support w) cs)
  unfolding undecomposable
  conjunction-disjoint i cs l e =
      not-not (all_disjoint (support w) cs) (subst (λ (y : Node). T (not (node_meets (support w) y))) e (acc.decomposed i l))

  pub all-not-under : (cs : List ℕ) (x : ℕ) → ((c : ℕ) → Memᴰ c cs → c < n) → T (not (bit (union (support w) cs) x))
      → Free N (all_of w cs) x
  all-not-under cs x l h s b k =
      all-free x cs (support w) (λ c. function w c (put s x b)) (λ c. function w c s) h
      (λ c m g. not-under c x (l c m) g s b k)

  pub all_apart : (c : ℕ) (cs : List ℕ) → T (all_disjoint (support w) (c ∷ cs)) → ((d : ℕ) → Memᴰ d (c ∷ cs) → d < n)
      → (x : ℕ) → x < N → Free N (function w c) x ⊎ Free N (all_of w cs) x
  all_apart c cs h l x k =
      let wide : N ≤ width = variables-wide acc in
      ⊎_map (λ (p : T (not (bit (support w c) x))). not-under c x (l c (Memᴰ.head refl)) p)
      (λ (p : T (not (bit (union (support w) cs) x))). all-not-under cs x (λ d m. l d (Memᴰ.tail m)) p)
      (disjoint-at (support w c) (union (support w) cs)
      (and_l (disjoint (support w c) (union (support w) cs)) (all_disjoint (support w) cs) h) x (omega arith))

  pub rest-disjoint : (c : ℕ) (cs : List ℕ) → T (all_disjoint (support w) (c ∷ cs)) → T (all_disjoint (support w) cs)
  rest-disjoint c cs h = and_r (disjoint (support w c) (union (support w) cs)) (all_disjoint (support w) cs) h

-- ---- the children from a place on
pub drop-disjoint : {N n : ℕ} {w : List ℕ} → Accepted N n w → (k : ℕ) (cs : List ℕ) → T (all_disjoint (support w) cs)
    → T (all_disjoint (support w) (drop k cs))
drop-disjoint acc zero cs h = h
drop-disjoint acc (suc k) [] h = tt
drop-disjoint acc (suc k) (c ∷ cs) h = drop-disjoint acc k cs (rest-disjoint acc c cs h)

-- ---- the leaves' prime implicants
module _ (N : ℕ) where
  pub true-prime : Prime N (λ s. true) empty
  true-prime =
      record { is_term = empty-IsTerm N; holds = λ s l a. tt; minimal = λ x b p h. empty-has x b p }

  signed-i : (b t : Bool) → t ≡ b → T (signed b t)
  signed-i true t e = along (sym e) tt
  signed-i false t e = along (ap not (sym e)) tt

  pub signed-not : (b : Bool) → T (signed b (not b)) → ⊥
  signed-not true h = h
  signed-not false h = h

  -- only x matters to the literal of x
  at-variable : (b : Bool) (x y : ℕ) (c : Bool) → T (has (extend empty x b) c y) → y ≡ x
  at-variable b x y c p =
      ⊎_elim (λ (e : y ≡ x). e)
      (λ (n : y ≢ x). absurd (empty-has y c (along (extend-there empty x y b c n) p)))
      (same? y x)

  pub literal-prime : (b : Bool) (x : ℕ) → x < N → Prime N (λ s. signed b (bit s x)) (extend empty x b)
  literal-prime b x l =
      record {
        is_term = extend-IsTerm N empty x b l (empty-IsTerm N) (empty-has x);
        holds = λ s k a. signed-i b (bit s x) (a x b (extend-here empty x b));
        minimal = λ y c p h. signed-not b
            (along (ap (signed b) (put_same 0 x (not b)))
            (h (put 0 x (not b)) (put-lt N 0 x (not b) l (pow_pos N)) (λ z d q. absurd (gone y c p z d q))));
      }
    where
      gone : (y : ℕ) (c : Bool) → T (has (extend empty x b) c y) → (z : ℕ) (d : Bool)
          → T (has (without (extend empty x b) y) d z) → ⊥
      gone y c p z d q =
          let e : z ≡ y =
          at-variable b x z d (without-inside (extend empty x b) y z d q) ∙ sym (at-variable b x y c p) in
          without-here (extend empty x b) y d (subst (λ (v : ℕ). T (has (without (extend empty x b) y) d v)) e q)
