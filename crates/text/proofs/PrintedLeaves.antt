-- The reading of a printed form that has no children: its first fault, or the node that it stands for.
use Prim.Native.Nat.{ℕ, suc, ◌+◌, ◌<◌}
use mathlib.Core.Path.{◌≡◌, refl, sym, ap, subst, ◌∙◌}
use mathlib.Core.Bool.{Bool, true, false, cond}
use mathlib.Core.List.{List, [], ◌∷◌, ◌++◌}
use native.Mathlib.Omega.{arith}
use native.Mathlib.Decide.{dec_lt}
use lib.Dec.{ltb, leb}
use lib.ListN.{length, get_or}
use borrow.Author.Tests.{eq-eqb, lt-ltb, le-ltb, le-leb, lt-leb}
use Rattle.table.specs.Node.{encoded, encode, Node, constant, literal}
use Rattle.table.specs.declared.layout.NodeWords.{NodeWords}
use Rattle.text.specs.Faults.{unless}
use Rattle.text.specs.Read.{byte_at, ranged_at, leaf_of, line_of, tail_at, head_at, close_at, setting, opened_of, form_at, Setting}
use Rattle.text.specs.Syntax.{decimal, print_form, constant_form, literal_form, line_form}
use Rattle.text.specs.Words.{spelling}
use Rattle.text.specs.declared.answer.Fault.{Fault}
use Rattle.text.specs.declared.answer.Fault.TheVariants.{Nodes, Range, Reference}
use Rattle.text.specs.declared.head.Limits.{Limits}
use Rattle.text.specs.declared.head.Opening.{Opening}
use Rattle.text.specs.declared.head.Opening.TheVariants.{Leaf, Line}
use Rattle.text.specs.declared.head.Role.{Role}
use Rattle.text.specs.declared.head.Role.TheVariants.{Argument}
use Rattle.text.specs.declared.head.Word.{Word}
use Rattle.text.specs.declared.head.Word.TheVariants.{False, True, Yes, No, Line as LineWord}
use Rattle.text.proofs.CompiledWords.{made}
use Rattle.text.proofs.FirstFault.{StepRead}
use Rattle.text.proofs.Pieces.{Here, byte, past, next, ranged, opening}
use Rattle.text.proofs.Spelling.{constant-flat, literal-flat, line-flat}
use Rattle.text.proofs.Words.{LineMay, May}
use Rattle.std.specs.Prelude.{Result, Ok}
use Rattle.text.specs.declared.answer.Misread.{Misread}
use Rattle.text.specs.Answers.{misread, formed}

module _ (s : List ℕ) where
  -- a printed number, by its bound
  pub range-read : (x high end at : ℕ) (why : Fault) (r : List ℕ) → x < 10000 → end < 48 → Here s at (decimal x ++ (end ∷ r))
      → ranged_at s at 0 high end why ≡ cond (ltb x high) (Ok (x, at + length (decimal x))) (misread why (at + length (decimal x)))
  range-read x high end at why r lx le h = ranged s x 0 high end at why r lx le h ∙ by (dec_lt x high)
    where
      p : ℕ
      p = at + length (decimal x)

      by : Dec (x < high) → cond {A = Result (ℕ × ℕ) Misread} (ltb x 0) (misread why p) (cond (leb high x) (misread why p) (Ok (x, p)))
          ≡ cond (ltb x high) (Ok (x, p)) (misread why p)
      by (yes l) = rw (le-ltb x 0 (omega arith), lt-leb high x l, lt-ltb x high l)
      by (no l) = rw (le-ltb x 0 (omega arith), le-leb high x (omega arith), le-ltb x high (omega arith))

module _ (s : List ℕ) (N k room : ℕ) (lines : List ℕ) where
  abbrev lim : Limits
  lim = record { variables = N; room = room; earlier = k }

  abbrev G : Setting
  G = setting s lines lim

  -- a closing bracket, by the room for a node
  pub close-read : (p : ℕ) (w : List ℕ) (n : ℕ) (y : NodeWords) (r : List ℕ) → Here s p (41 ∷ r)
      → StepRead (unless (ltb n room) 15 p) (made p w n y) (close_at s p w n room y)
  unfolding close_at
  close-read p w n y r h = by (dec_lt n room)
    where
      by : Dec (n < room) → StepRead (unless (ltb n room) 15 p) (made p w n y) (close_at s p w n room y)
      by (yes l) = rw (lt-ltb n room l, eq-eqb (byte_at s p) 41 (byte s p 41 r h), lt-leb room n l)
      by (no l) =
          rw (le-ltb n room (omega arith), eq-eqb (byte_at s p) 41 (byte s p 41 r h), le-leb room n (omega arith))
          (Nodes, refl, refl)

  -- a form by its head
  pub by-head : (d : ℕ) (role : Role) (at : ℕ) (w : List ℕ) (n : ℕ) (o : Result Opening Misread) → head_at s at role lim ≡ o
      → form_at (suc d) G role at w n ≡ opened_of (form_at d G Argument) G w n o
  unfolding form_at
  by-head d role at w n o h = ap (opened_of (form_at d G Argument) G w n) h

  module _ (d : ℕ) (role : Role) (at : ℕ) (w : List ℕ) (n : ℕ) where
    -- a head with no child, and the closing bracket
    leaf-read : (kd x p : ℕ) (y : Node) (r : List ℕ) → head_at s at role lim ≡ Ok (Leaf kd x p) → encoded kd x [] ≡ encode y
        → Here s p (41 ∷ r)
        → StepRead (unless (ltb n room) 15 p) (made p w n (encode y)) (form_at (suc d) G role at w n)
    leaf-read kd x p y r e i h =
        subst (StepRead (unless (ltb n room) 15 p) (made p w n (encode y)))
        (ap (close_at s p w n room) (sym i) ∙ sym (by-head d role at w n (Ok (Leaf kd x p)) e)) (close-read p w n (encode y) r h)

    pub constant-read : (v : Bool) (r : List ℕ) → Here s at (print_form (constant_form v) ++ r)
        → let p : ℕ = at + 1 + length (spelling (cond v True False)) in
        StepRead (unless (ltb n room) 15 p) (made p w n (encode (constant v))) (form_at (suc d) G role at w n)
    unfolding tail_at
    constant-read v r h =
        let y : Word = cond v True False in
        let p : ℕ = at + 1 + length (spelling y) in
        let h₁ : Here s at (40 ∷ (spelling y ++ (41 ∷ r))) = subst (Here s at) (constant-flat v r) h in
        let h₂ : Here s p (41 ∷ r) = past s (at + 1) (spelling y) (41 ∷ r) (next s at 40 (spelling y ++ (41 ∷ r)) h₁) in
        leaf-read (cond v 1 0) 0 p (constant v) r (opening s y role at lim (41 ∷ r) (may v) h₁ ∙ tail v p) (words v) h₂
      where
        may : (v : Bool) → May role (cond v True False)
        may true = tt
        may false = tt

        tail : (v : Bool) (p : ℕ) → tail_at s p (cond v True False) lim ≡ Ok (Leaf (cond v 1 0) 0 p)
        tail true p = refl
        tail false p = refl

        words : (v : Bool) → encoded (cond v 1 0) 0 [] ≡ encode (constant v)
        words true = refl
        words false = refl

    pub literal-read : (v : Bool) (x : ℕ) (r : List ℕ) → x < 10000 → Here s at (print_form (literal_form v x) ++ r)
        → let p : ℕ = at + 1 + length (spelling (cond v Yes No)) + length (decimal x) in
        StepRead (unless (ltb x N) 12 p ++ unless (ltb n room) 15 p) (made p w n (encode (literal v x))) (form_at (suc d) G role at w n)
    unfolding tail_at
    literal-read v x r lx h = by (dec_lt x N)
      where
        kd : ℕ
        kd = cond v 2 3

        y : Word
        y = cond v Yes No

        q : ℕ
        q = at + 1 + length (spelling (cond v Yes No))

        p : ℕ
        p = q + length (decimal x)

        may : (v : Bool) → May role (cond v Yes No)
        may true = tt
        may false = tt

        tail : (v : Bool) (q : ℕ) → tail_at s q (cond v Yes No) lim ≡ leaf_of (cond v 2 3) (ranged_at s q 0 N 41 Range)
        tail true q = refl
        tail false q = refl

        words : (v : Bool) → encoded (cond v 2 3) x [] ≡ encode (literal v x)
        words true = refl
        words false = refl

        h₁ : Here s at (40 ∷ (spelling y ++ (decimal x ++ (41 ∷ r))))
        h₁ = subst (Here s at) (literal-flat v x r) h

        h₂ : Here s q (decimal x ++ (41 ∷ r))
        h₂ = past s (at + 1) (spelling y) (decimal x ++ (41 ∷ r)) (next s at 40 (spelling y ++ (decimal x ++ (41 ∷ r))) h₁)

        head : head_at s at role lim ≡ leaf_of kd (cond (ltb x N) (Ok (x, p)) (misread Range p))
        head =
            opening s y role at lim (decimal x ++ (41 ∷ r)) (may v) h₁ ∙ tail v q
            ∙ ap (leaf_of kd) (range-read s x N 41 q Range r lx (omega arith) h₂)

        by : Dec (x < N)
            → StepRead (unless (ltb x N) 12 p ++ unless (ltb n room) 15 p) (made p w n (encode (literal v x)))
            (form_at (suc d) G role at w n)
        by (yes a) =
            let t : ltb x N ≡ true = lt-ltb x N a in
            let e : head_at s at role lim ≡ Ok (Leaf kd x p) =
            head ∙ ap (λ (b : Bool). leaf_of kd (cond b (Ok (x, p)) (misread Range p))) t in
            rw t (leaf-read kd x p (literal v x) r e (words v) (past s q (decimal x) (41 ∷ r) h₂))
        by (no a) =
            let t : ltb x N ≡ false = le-ltb x N (omega arith) in
            let e : head_at s at role lim ≡ misread Range p =
            head ∙ ap (λ (b : Bool). leaf_of kd (cond b (Ok (x, p)) (misread Range p))) t in
            rw (t, by-head d role at w n (misread Range p) e) (Range, refl, refl)

    pub line_read : (j : ℕ) (r : List ℕ) → j < 10000 → LineMay role → Here s at (print_form (line_form j) ++ r)
        → let p : ℕ = at + 6 + length (decimal j) in
        StepRead (unless (ltb j k) 13 p) (record { step = formed (p + 1) n (get_or lines j 0); words = w }) (form_at (suc d) G role at w n)
    unfolding tail_at
    line_read j r lj l h = by (dec_lt j k)
      where
        p : ℕ
        p = at + 6 + length (decimal j)

        h₁ : Here s at (40 ∷ (spelling LineWord ++ (decimal j ++ (41 ∷ r))))
        h₁ = subst (Here s at) (line-flat j r) h

        h₂ : Here s (at + 6) (decimal j ++ (41 ∷ r))
        h₂ = past s at (40 ∷ spelling LineWord) (decimal j ++ (41 ∷ r)) h₁

        six : at + 1 + 5 ≡ at + 6
        six = omega arith

        head : head_at s at role lim ≡ line_of (cond (ltb j k) (Ok (j, p)) (misread Reference p))
        head =
            opening s LineWord role at lim (decimal j ++ (41 ∷ r)) l h₁
            ∙ ap (λ (q : ℕ). line_of (ranged_at s q 0 k 41 Reference)) six
            ∙ ap line_of (range-read s j k 41 (at + 6) Reference r lj (omega arith) h₂)

        by : Dec (j < k) → StepRead (unless (ltb j k) 13 p) (record { step = formed (p + 1) n (get_or lines j 0); words = w })
            (form_at (suc d) G role at w n)
        by (yes a) =
            let t : ltb j k ≡ true = lt-ltb j k a in
            let e : head_at s at role lim ≡ Ok (Line j p) =
            head ∙ ap (λ (b : Bool). line_of (cond b (Ok (j, p)) (misread Reference p))) t in
            rw (t, by-head d role at w n (Ok (Line j p)) e)
        by (no a) =
            let t : ltb j k ≡ false = le-ltb j k (omega arith) in
            let e : head_at s at role lim ≡ misread Reference p =
            head ∙ ap (λ (b : Bool). line_of (cond b (Ok (j, p)) (misread Reference p))) t in
            rw (t, by-head d role at w n (misread Reference p) e) (Reference, refl, refl)
