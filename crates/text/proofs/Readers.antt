-- Any reader that reads each printed tree as its first fault, and whose refusals depend only on the bytes up to their place: where its
-- refusals stand, and that no other answer fits these statements. Cited for circuit text and for texts of lines.
use Prim.Native.Nat.{ℕ, zero, suc, ◌+◌, ◌-◌, ◌<◌, ◌≤◌}
use mathlib.Core.Path.{◌≡◌, refl, sym, ap, subst, ◌∙◌}
use mathlib.Core.Bool.{Bool, cond}
use mathlib.Core.Logic.{◌⊎◌, inl, inr, ◌≢◌}
use mathlib.Core.List.{List, [], ◌∷◌, ◌++◌, append_assoc}
use native.Mathlib.Omega.{arith}
use native.Mathlib.Decide.{dec_lt, dec_le}
use lib.Dec.{eqb}
use lib.ListN.{length, get_or, take, drop, length-append, replicate, length-replicate, get_or-append, get_or-eq_default}
use lib.Seq.{get_or-append-add, length-take-le, get_or-take, take-add}
use borrow.Author.Tests.{eq-eqb, ne_eqb}
use Rattle.masks.proofs.Tests.{same?}
use Rattle.table.specs.Outcome.{Outcome, answered, refused}
use Rattle.text.specs.Language.{IsOut, Begins, WrongAt, FaultAt}
use Rattle.text.specs.Meaning.{Bytes}
use Rattle.text.specs.Read.{byte_at}
use Rattle.text.proofs.Locality.{SameTo}
use Rattle.text.proofs.Spans.{past_end}

-- ---- two answers that are the same
pub value_not : {A : Type 0} (v : A) (k p : ℕ) → ◌≡◌ {A = Outcome A} (answered v) (refused k p) → ⊥
value_not v k p e = let z : ◌≡◌ {A = ℕ} 0 1 = cc in omega arith

pub same-value : {A : Type 0} (v w : A) → ◌≡◌ {A = Outcome A} (answered v) (answered w) → v ≡ w
same-value v w e = cc

pub same_number : {A : Type 0} (e p e' p' : ℕ) → ◌≡◌ {A = Outcome A} (refused e p) (refused e' p') → (e ≡ e') × (p ≡ p')
same_number e p e' p' h = (cc, cc)

-- ---- texts that begin alike
begins-same : (s s' rest : List ℕ) (q : ℕ) → q ≤ length s → take q s ++ rest ≡ s'
    → (i : ℕ) → i < q → byte_at s' i ≡ byte_at s i
begins-same s s' rest q l e i h =
    let n : length (take q s) ≡ q = length-take-le q s l in
    ap (λ (z : List ℕ). byte_at z i) (sym e) ∙ get_or-append (take q s) rest 256 i (omega arith) ∙ get_or-take q s i 256 h

-- the text with its end made visible: no printed tree has such a byte
abbrev marked : List ℕ → ℕ → List ℕ
marked s k = s ++ replicate k 256

marked-same : (s : List ℕ) (k p : ℕ) → SameTo s (marked s k) p
marked-same s k p i l = by (dec_lt i (length s))
  where
    past_all : (k j : ℕ) → get_or (replicate {A = ℕ} k 256) j 256 ≡ 256
    past_all zero j = refl
    past_all (suc k) zero = refl
    past_all (suc k) (suc j) = past_all k j

    by : Dec (i < length s) → byte_at (marked s k) i ≡ byte_at s i
    by (yes h) = get_or-append s (replicate k 256) 256 i h
    by (no h) =
        let e : i ≡ length s + (i - length s) = omega arith in
        ap (λ (z : ℕ). get_or (marked s k) z 256) e ∙ get_or-append-add s (replicate k 256) (i - length s) 256 ∙ past_all k (i - length s)
        ∙ sym (get_or-eq_default s 256 (omega arith))

-- bytes that a printed text begins with lie inside the text that was read
printed-inside : (s : List ℕ) (q k : ℕ) (t rest : List ℕ) → Bytes t → q ≤ length s + k → take q (marked s k) ++ rest ≡ t
    → q ≤ length s
printed-inside s q k t rest bytes l e = by (dec_le q (length s))
  where
    by : Dec (q ≤ length s) → q ≤ length s
    by (yes h) = h
    by (no h) =
        let i : ℕ = length s in
        let n : length (marked s k) ≡ length s + k =
        length-append s (replicate k 256) ∙ ap (λ (z : ℕ). length s + z) (length-replicate {A = ℕ} k 256) in
        let m : length (take q (marked s k)) ≡ q = length-take-le q (marked s k) (omega arith) in
        let c : get_or t i 256 ≡ 256 =
        begins-same (marked s k) t rest q (omega arith) e i (omega arith) ∙ marked-same s k i i (omega arith)
        ∙ get_or-eq_default s 256 (omega arith) in
        let j : i < length t = omega (arith, ap length e, length-append (take q (marked s k)) rest) in
        absurd (omega (arith, past_end t i bytes c, j))

-- ---- a language: the trees that are Ok, printed, with their faults in the order of their bytes
module _ {X : Type 0} (Ok : X → Type 0) (out : X → List ℕ) where
  -- a beginning of a beginning is one
  begins-less : (s : List ℕ) (p q : ℕ) → p ≤ q → Begins Ok out (take q s) → Begins Ok out (take p s)
  begins-less s p q l (t, rest, ok, e) =
      let more : List ℕ = take (q - p) (drop p s) in
      let n : q ≡ p + (q - p) = omega arith in
      let split : take q s ≡ take p s ++ more = ap (λ (z : ℕ). take z s) n ∙ take-add p (q - p) s in
      (t, more ++ rest, ok, sym (append_assoc (take p s) more rest) ∙ ap (λ (z : List ℕ). z ++ rest) (sym split) ∙ e)

-- the place up to which the bytes are viable: before a byte of a wrong shape, and past the byte of any other fault
abbrev pub up_to : ℕ → ℕ → ℕ → ℕ
up_to shape k p = cond (eqb k shape) p (p + 1)

pub at-shape : (shape p : ℕ) → up_to shape shape p ≡ p
at-shape shape p = ap (λ (z : Bool). cond z p (p + 1)) (eq-eqb shape shape refl)

pub at_other : (shape k p : ℕ) → k ≢ shape → up_to shape k p ≡ p + 1
at_other shape k p n = ap (λ (z : Bool). cond z p (p + 1)) (ne_eqb k shape n)

-- what is known of a reader; `shape` is its number for a byte of a wrong shape
pub record Reader {A X : Type 0} (Ok : X → Type 0) (out : X → List ℕ) (faults : X → List (ℕ × ℕ)) (shape : ℕ)
    (read : List ℕ → Outcome A) : Type 0 where
  pub bytes : (t : X) → Ok t → Bytes (out t)
  pub other : (t : X) (k p : ℕ) (fs : List (ℕ × ℕ)) → Ok t → faults t ≡ (k, p) ∷ fs → k ≢ shape
  pub clean : (t : X) → Ok t → faults t ≡ [] → (v : A) × (read (out t) ≡ answered v)
  pub faulty : (t : X) (k p : ℕ) (fs : List (ℕ × ℕ)) → Ok t → faults t ≡ (k, p) ∷ fs → read (out t) ≡ refused k p
  pub local : (s s' : List ℕ) (k p : ℕ) → read s ≡ refused k p → SameTo s s' p → read s' ≡ refused k p
  pub viable : (s : List ℕ) (k p : ℕ) → read s ≡ refused k p → Begins Ok out (take (up_to shape k p) s)
  pub whole : (s : List ℕ) (v : A) → Bytes s → read s ≡ answered v → IsOut Ok out s

module _ {A X : Type 0} {Ok : X → Type 0} {out : X → List ℕ} {faults : X → List (ℕ × ℕ)} {shape : ℕ} {read : List ℕ → Outcome A}
    (r : Reader Ok out faults shape read) where
  -- a printed tree is refused by its first fault
  tree-refused : (t : X) (k p : ℕ) → Ok t → read (out t) ≡ refused k p → (fs : List (ℕ × ℕ)) × (faults t ≡ (k, p) ∷ fs)
  tree-refused t k p ok h = by (faults t) refl
    where
      by : (fs : List (ℕ × ℕ)) → faults t ≡ fs → (fs : List (ℕ × ℕ)) × (faults t ≡ (k, p) ∷ fs)
      by [] c = let (v, e) = r.clean t ok c in absurd (value_not v k p (sym e ∙ h))
      by (f ∷ fs) c =
          let (i, j) = same_number f.0 f.1 k p (sym (r.faulty t f.0 f.1 fs ok c) ∙ h) in
          (fs, c ∙ ap (λ (z : ℕ × ℕ). z ∷ fs) (λ d. (i d, j d)))

  -- no text of the language is of a wrong shape
  never-shape : (t : X) (p : ℕ) → Ok t → read (out t) ≡ refused shape p → ⊥
  never-shape t p ok h = let (fs, e) = tree-refused t shape p ok h in r.other t shape p fs ok e refl

  -- the place of a refusal lies in the text, or at its end
  place_inside : (s : List ℕ) (k p : ℕ) → read s ≡ refused k p → up_to shape k p ≤ length s
  place_inside s k p h =
      let q : ℕ = up_to shape k p in
      let (t, rest, ok, e) = r.viable (marked s q) k p (r.local s (marked s q) k p h (marked-same s q p)) in
      printed-inside s q q (out t) rest (r.bytes t ok) (omega arith) e

  -- a refusal before place p is the same for s and for every text that begins with the bytes of s before p
  module _ (s : List ℕ) (p : ℕ) (l : p ≤ length s) (t : X) (rest : List ℕ) (e : take p s ++ rest ≡ out t) (k q : ℕ) (d : q < p) where
    onward : read s ≡ refused k q → read (out t) ≡ refused k q
    onward h = r.local s (out t) k q h (λ i j. begins-same s (out t) rest p l e i (omega arith))

    back : read (out t) ≡ refused k q → read s ≡ refused k q
    back h = r.local (out t) s k q h (λ i j. sym (begins-same s (out t) rest p l e i (omega arith)))

  pub wrong_first : (s : List ℕ) (p : ℕ) → read s ≡ refused shape p → WrongAt Ok out faults s p
  wrong_first s p h =
      let l : p ≤ length s = omega (arith, place_inside s shape p h, at-shape shape p) in
      record {
        inside = l;
        before = subst (λ (z : ℕ). Begins Ok out (take z s)) (at-shape shape p) (r.viable s shape p h);
        here = λ l v. let (t, rest, ok, e) = v in never-shape t p ok (onward s (p + 1) (omega arith) t rest e shape p (omega arith) h);
        none = λ v. let (t, ok, e) = v in never-shape t p ok (ap read e ∙ h);
        lowest = λ t rest ok e k q fs c. low t rest ok e k q fs c l (dec_lt q p);
      }
    where
      low : (t : X) (rest : List ℕ) → Ok t → take p s ++ rest ≡ out t → (k q : ℕ) (fs : List (ℕ × ℕ)) → faults t ≡ (k, q) ∷ fs
          → p ≤ length s → Dec (q < p) → p ≤ q
      low t rest ok e k q fs c l (no d) = omega arith
      low t rest ok e k q fs c l (yes d) =
          let g : read s ≡ refused k q = back s p l t rest e k q d (r.faulty t k q fs ok c) in
          absurd (r.other t k q fs ok c (same_number k q shape p (sym g ∙ h)).0)

  pub fault-first : (s : List ℕ) (k p : ℕ) → read s ≡ refused k p → k ≢ shape → FaultAt Ok out faults s k p
  fault-first s k p h n =
      let l : p < length s = omega (arith, place_inside s k p h, at_other shape k p n) in
      record {
        inside = l;
        viable = subst (λ (z : ℕ). Begins Ok out (take z s)) (at_other shape k p n) (r.viable s k p h);
        first = λ t rest ok e. tree-refused t k p ok (onward s (p + 1) (omega arith) t rest e k p (omega arith) h);
      }

  -- where a wrong byte or a fault stands first, the reader says so
  pub fault-only : (s : List ℕ) (k p : ℕ) → FaultAt Ok out faults s k p → read s ≡ refused k p
  fault-only s k p w =
      let (t, rest, ok, e) = w.viable in
      let (fs, c) = w.first t rest ok e in
      back s (p + 1) (omega (arith, w.inside)) t rest e k p (omega arith) (r.faulty t k p fs ok c)

  pub wrong-only : (s : List ℕ) (p : ℕ) → Bytes s → WrongAt Ok out faults s p → read s ≡ refused shape p
  wrong-only s p b w = by (read s) refl
    where
      -- the bytes of s are viable up to no place past p
      most : (q : ℕ) → q ≤ length s → Begins Ok out (take q s) → q ≤ p
      most q l v = at_most (dec_lt p q)
        where
          at_most : Dec (p < q) → q ≤ p
          at_most (no d) = omega arith
          at_most (yes d) = absurd (w.here (omega arith) (begins-less Ok out s (p + 1) q (omega arith) v))

      -- and a refusal before p would be a fault before p
      least : (k q : ℕ) → read s ≡ refused k q → p ≤ q
      least k q h = at_least (dec_lt q p)
        where
          at_least : Dec (q < p) → p ≤ q
          at_least (no d) = omega arith
          at_least (yes d) =
              let (t, rest, ok, e) = w.before in
              let (fs, c) = tree-refused t k q ok (onward s p w.inside t rest e k q d h) in
              w.lowest t rest ok e k q fs c

      by : (o : Outcome A) → read s ≡ o → read s ≡ refused shape p
      by (answered v) h = absurd (w.none (r.whole s v b h))
      by (refused k q) h = at (same? k shape)
        where
          upper : up_to shape k q ≤ p
          upper = most (up_to shape k q) (place_inside s k q h) (r.viable s k q h)

          at : (k ≡ shape) ⊎ (k ≢ shape) → read s ≡ refused shape p
          at (inr n) = absurd (omega (arith, upper, at_other shape k q n, least k q h))
          at (inl e) =
              let f : up_to shape k q ≡ q = ap (λ (z : ℕ). up_to shape z q) e ∙ at-shape shape q in
              let i : q ≡ p = omega (arith, upper, least k q h) in
              h ∙ λ d. refused (e d) (i d)
