-- What stands between two places of a text: the words and the numbers that are read there, or the beginning of one where it is refused.
use Prim.Native.Nat.{ℕ, zero, suc, ◌+◌, ◌-◌, ◌*◌, ◌<◌, ◌≤◌}
use mathlib.Core.Path.{◌≡◌, refl, sym, ap, ◌∙◌}
use mathlib.Core.Bool.{cond}
use mathlib.Core.Logic.{◌⊎◌, inl, inr, ◌≢◌}
use mathlib.Core.List.{List, [], ◌∷◌, ◌++◌, append-nil, append_assoc}
use native.Mathlib.Omega.{arith}
use native.Mathlib.Numerals.{add-one}
use native.Mathlib.Decide.{dec_lt, dec_le}
use lib.Dec.{eqb, ltb, leb}
use lib.ListN.{length, get_or, take}
use lib.Seq.{take-suc}
use borrow.Author.Tests.{eq-eqb, ne_eqb, lt-ltb, le-ltb, le-leb, lt-leb}
use Rattle.masks.proofs.Tests.{same?}
use Rattle.text.specs.Answers.{fault_number}
use Rattle.text.specs.Meaning.{Bytes}
use Rattle.text.specs.Read.{byte_at, digit_at, digits_at, number_at, match_at, ranged_of, ranged_at}
use Rattle.text.specs.Syntax.{decimal}
use Rattle.text.specs.declared.answer.Fault.{Fault}
use Rattle.text.specs.declared.answer.Fault.TheVariants.{Shape}
use Rattle.text.proofs.Grammar.{IsDecimal, IsNumber, one-digit, two_digits, three-digits, four-digits}
use Rattle.text.proofs.Laws.{inside}
use Rattle.std.specs.Prelude.{Option, Some, None, Result, Ok, Err}
use Rattle.text.specs.declared.answer.Misread.{Misread}
use Rattle.text.specs.Answers.{misread}

-- the place up to which the bytes are viable: before 11, and past the byte of any other fault
abbrev pub viable_to : ℕ → ℕ → ℕ
viable_to k p = cond (eqb k 11) p (p + 1)

abbrev pub viable_at : Fault → ℕ → ℕ
viable_at f p = viable_to (fault_number f) p

-- where no byte is read, the text has ended
pub past_end : (l : List ℕ) (i : ℕ) → Bytes l → get_or l i 256 ≡ 256 → length l ≤ i
past_end [] i b e = omega arith
past_end (c ∷ l) zero b e = absurd (omega (arith, b.0, e))
past_end (c ∷ l) (suc i) b e = let r = past_end l i b.1 e in omega arith

module _ (s : List ℕ) where
  -- x stands from place at up to place p
  abbrev pub Span : ℕ → ℕ → List ℕ → Type 0
  Span at p x = take p s ≡ take at s ++ x

  pub join : (at p q : ℕ) (x y : List ℕ) → Span at p x → Span p q y → Span at q (x ++ y)
  join at p q x y a b = b ∙ ap (λ (z : List ℕ). z ++ y) a ∙ append_assoc (take at s) x y

  pub nothing : (at : ℕ) → Span at at []
  nothing at = sym (append-nil (take at s))

  pub one_byte : (at b : ℕ) → b < 256 → byte_at s at ≡ b → Span at (at + 1) (b ∷ [])
  one_byte at b l e =
      let i = inside s at (omega (arith, e)) in
      ap (λ (k : ℕ). take k s) (add-one at) ∙ take-suc s at 256 i ∙ ap (λ (c : ℕ). take at s ++ (c ∷ [])) e

  -- ---- words and numbers
  abbrev pub MatchSaid : List ℕ → ℕ → Result ℕ ℕ → Type 0
  MatchSaid w at (Ok p) = Span at p w
  MatchSaid w at (Err p) = (x : List ℕ) × (t : List ℕ) × (w ≡ x ++ t) × Span at p x

  match-more : (b : ℕ) (w : List ℕ) (at : ℕ) (x : Result ℕ ℕ) → Span at (at + 1) (b ∷ []) → MatchSaid w (at + 1) x → MatchSaid (b ∷ w) at x
  match-more b w at (Ok p) a h = join at (at + 1) p (b ∷ []) w a h
  match-more b w at (Err p) a (x, t, e, sp) =
      (b ∷ x, t, ap (λ (z : List ℕ). b ∷ z) e, join at (at + 1) p (b ∷ []) x a sp)

  pub match-said : (w : List ℕ) (at : ℕ) → Bytes w → MatchSaid w at (match_at s at w)
  unfolding match_at
  match-said [] at l = nothing at
  match-said (b ∷ w) at l = by (same? (byte_at s at) b) (match-said w (at + 1) l.1)
    where
      by : (byte_at s at ≡ b) ⊎ (byte_at s at ≢ b) → MatchSaid w (at + 1) (match_at s (at + 1) w)
          → MatchSaid (b ∷ w) at (cond (eqb (byte_at s at) b) (match_at s (at + 1) w) (Err at))
      by (inl e) h = rw (eq-eqb (byte_at s at) b e) (match-more b w at (match_at s (at + 1) w) (one_byte at b l.0 e) h)
      by (inr n) h = rw (ne_eqb (byte_at s at) b n) ([], b ∷ w, refl, nothing at)

  -- what a digit's value says of its byte
  digit-said : (at d : ℕ) → digit_at s at ≡ d → d ≢ 10 → (d < 10) × (byte_at s at ≡ 48 + d)
  unfolding digit_at
  digit-said at d e n = by (dec_lt (byte_at s at) 48) (dec_lt 57 (byte_at s at)) e
    where
      by : Dec (byte_at s at < 48) → Dec (57 < byte_at s at) → digit_at s at ≡ d → (d < 10) × (byte_at s at ≡ 48 + d)
      by (yes l) h e = absurd (n (sym e ∙ rw (lt-ltb (byte_at s at) 48 l)))
      by (no l) (yes h) e = absurd (n (sym e ∙ rw (le-ltb (byte_at s at) 48 (omega arith), lt-ltb 57 (byte_at s at) h)))
      by (no l) (no h) e =
          let f : digit_at s at ≡ byte_at s at - 48 =
          rw (le-ltb (byte_at s at) 48 (omega arith), le-ltb 57 (byte_at s at) (omega arith)) in
          let g : byte_at s at - 48 ≡ d = sym f ∙ e in
          omega arith

  abbrev pub NumberSaid : ℕ → Option (ℕ × ℕ) → Type 0
  NumberSaid at None = Unit {0}
  NumberSaid at (Some (v, p)) = (v < 10000) × Span at p (decimal v)

  digits-done : (start at v : ℕ) (x : List ℕ) → IsDecimal v x → Span start at x → NumberSaid start (Some (v, at))
  digits-done start at v x (l, e) sx = (l, sx ∙ ap (λ (z : List ℕ). take start s ++ z) (sym e))

  digits_step : (k start at v : ℕ) (x : List ℕ) → IsDecimal v x → Span start at x
      → ((d : ℕ) → d < 10 → Span start (at + 1) (x ++ ((48 + d) ∷ [])) → NumberSaid start (digits_at k s (at + 1) (10 * v + d)))
      → NumberSaid start (digits_at (suc k) s at v)
  unfolding digits_at
  digits_step k start at v x nx sx more = by (same? (digit_at s at) 10)
    where
      by : (digit_at s at ≡ 10) ⊎ (digit_at s at ≢ 10)
          → NumberSaid start (cond (eqb (digit_at s at) 10) (Some (v, at)) (digits_at k s (at + 1) (10 * v + digit_at s at)))
      by (inl e) = rw (eq-eqb (digit_at s at) 10 e) (digits-done start at v x nx sx)
      by (inr n) =
          let d = digit-said at (digit_at s at) refl n in
          rw (ne_eqb (digit_at s at) 10 n)
          (more (digit_at s at) d.0
          (join start at (at + 1) x ((48 + digit_at s at) ∷ []) sx (one_byte at (48 + digit_at s at) (omega (arith, d.0)) d.1)))

  pub number-said : (at : ℕ) → NumberSaid at (number_at s at)
  unfolding number_at digits_at
  number-said at = by (same? (digit_at s at) 10) (same? (digit_at s at) 0)
    where
      a : ℕ
      a = digit_at s at

      by : (a ≡ 10) ⊎ (a ≢ 10) → (a ≡ 0) ⊎ (a ≢ 0)
          → NumberSaid at (cond (eqb a 10) None (cond (eqb a 0) (Some (0, at + 1)) (digits_at 3 s (at + 1) a)))
      by (inl e) z = rw (eq-eqb a 10 e) tt
      by (inr n) (inl z) =
          let d = digit-said at a refl n in
          rw (ne_eqb a 10 n, eq-eqb a 0 z)
          (digits-done at (at + 1) 0 (48 ∷ []) (one-digit 0 (omega arith)) (one_byte at 48 (omega arith) (omega (arith, d.1, z))))
      by (inr n) (inr z) =
          let d = digit-said at a refl n in
          let la : a < 10 = d.0 in
          let za : 0 < a = omega arith in
          rw (ne_eqb a 10 n, ne_eqb a 0 z)
          (digits_step 2 at (at + 1) a ((48 + a) ∷ []) (one-digit a la) (one_byte at (48 + a) (omega arith) d.1)
          (λ b lb sb.
          digits_step 1 at (at + 1 + 1) (10 * a + b) ((48 + a) ∷ (48 + b) ∷ []) (two_digits a b za la lb) sb
          (λ c lc sc.
          digits_step 0 at (at + 1 + 1 + 1) (10 * (10 * a + b) + c) ((48 + a) ∷ (48 + b) ∷ (48 + c) ∷ [])
          (three-digits a b c za la lb lc) sc
          (λ e le se.
          digits-done at (at + 1 + 1 + 1 + 1) (10 * (10 * (10 * a + b) + c) + e) ((48 + a) ∷ (48 + b) ∷ (48 + c) ∷ (48 + e) ∷ [])
          (four-digits a b c e za la lb lc le) se))))

  abbrev pub RangedSaid : ℕ → ℕ → Result (ℕ × ℕ) Misread → Type 0
  RangedSaid end at (Ok (v, p)) = (x : List ℕ) × IsNumber x × Span at p x × (byte_at s p ≡ end)
  RangedSaid end at (Err e) =
      (x : List ℕ) × (t : List ℕ) × (v : List ℕ) × IsNumber v × (v ++ (end ∷ []) ≡ x ++ t) × Span at (viable_at e.0 e.1) x

  ranged-value : (at low high end : ℕ) (why : Fault) (n p : ℕ) (x : List ℕ) → end < 256 → fault_number why ≢ 11 → IsNumber x → Span at p x
      → RangedSaid end at (ranged_of s at low high end why (Some (n, p)))
  ranged-value at low high end why n p x le nf nx sx = by (same? (byte_at s p) end) (dec_lt n low) (dec_le high n)
    where
      range : byte_at s p ≡ end → RangedSaid end at (misread why p)
      range e = (
        x ++ (end ∷ []),
        [],
        x,
        nx,
        sym (append-nil (x ++ (end ∷ []))),
        rw (ne_eqb (fault_number why) 11 nf) (join at p (p + 1) x (end ∷ []) sx (one_byte p end le e)),
      )

      by : (byte_at s p ≡ end) ⊎ (byte_at s p ≢ end) → Dec (n < low) → Dec (high ≤ n)
          → RangedSaid end at (cond (eqb (byte_at s p) end)
          (cond (ltb n low) (misread why p) (cond (leb high n) (misread why p) (Ok (n, p)))) (misread Shape p))
      by (inr e) l h = rw (ne_eqb (byte_at s p) end e) (x, end ∷ [], x, nx, refl, sx)
      by (inl e) (yes l) h = rw (eq-eqb (byte_at s p) end e, lt-ltb n low l) (range e)
      by (inl e) (no l) (yes h) = rw (eq-eqb (byte_at s p) end e, le-ltb n low (omega arith), le-leb high n h) (range e)
      by (inl e) (no l) (no h) = rw (eq-eqb (byte_at s p) end e, le-ltb n low (omega arith), lt-leb high n (omega arith)) (x, nx, sx, e)

  pub ranged-said : (at low high end : ℕ) (why : Fault) → end < 256 → fault_number why ≢ 11
      → RangedSaid end at (ranged_at s at low high end why)
  unfolding ranged_at
  ranged-said at low high end why le nf = by (number_at s at) (number-said at)
    where
      by : (y : Option (ℕ × ℕ)) → NumberSaid at y → RangedSaid end at (ranged_of s at low high end why y)
      by None h = ([], 48 ∷ end ∷ [], 48 ∷ [], (0, one-digit 0 (omega arith)), refl, nothing at)
      by (Some (n, p)) (l, sp) = ranged-value at low high end why n p (decimal n) le nf (n, (l, refl)) sp
