-- `text_reader::reader::read` meets its contract.
use Prim.Native.Nat.{ℕ, ◌<◌, ◌≤◌}
use mathlib.Core.List.{List}
use mathlib.Core.Path.{◌≡◌, refl, ap, ◌∙◌}
use lib.ListN.{length, replicate}
use borrow.Author.Tests.{lt-ltb, le-ltb}
use Rattle.text.specs.Answers.{reading_of}
use Rattle.text.specs.Limits.{max_bytes, max_lines}
use Rattle.text.specs.Places.{ReadIs}
use Rattle.text.specs.Read.{lines_at, header_at, room_of, read_text, ReadOut}
use Rattle.text.specs.declared.answer.Fault.TheVariants.{Length}
use Rattle.std.specs.Prelude.{true, false, Result, Ok, Err}
use Rattle.std.specs.Result.{is_err}
use Rattle.std.proofs.lemmas.Result.{err_from_is_err_and}
use Rattle.text.specs.Answers.{misread}
use Rattle.text.specs.declared.answer.Circuit.{Circuit}
use Rattle.text.specs.declared.answer.Misread.{Misread}
use Rattle.text_reader.proofs.reader.read.Goals as goal

module _ (s : List ℕ) (m : ℕ) (v : List ℕ) where
  long : max_bytes < length s → v ≡ replicate m 0 → ReadIs (misread Length max_bytes) v (read_text s m)
  unfolding read_text
  long h z = rw (lt-ltb max_bytes (length s) h) (refl, z)

  module _ (h : length s ≤ max_bytes) where
    unfit : (x : Misread) → Err x ≡ header_at s → v ≡ replicate m 0 → ReadIs (Err x) v (read_text s m)
    unfolding read_text
    unfit x e z = rw (le-ltb max_bytes (length s) h, ← e) (refl, z)

    -- the lines are read into the words w, all 0
    module _ (N p : ℕ) (e : Ok (N, p) ≡ header_at s) (w : List ℕ) (l : length w ≡ m) (z : w ≡ replicate m 0) where
      abbrev read : ReadOut
      read = lines_at max_lines s N (room_of (length w)) (replicate max_lines 0) 0 p 0 w

      accepted : (x : Result Circuit Misread) → false ≡ is_err x → reading_of x ≡ read.answer → v ≡ read.words
          → ReadIs x v (read_text s m)
      unfolding read_text
      accepted (Ok c) t i j =
          let a = rw (l, z) at i in
          let b = rw (l, z) at j in
          rw (le-ltb max_bytes (length s) h, ← e, ← a, ← b) (refl, refl)
      accepted (Err y) t i j = cc

      cleared : (x : Result Circuit Misread) → true ≡ is_err x → reading_of x ≡ read.answer → v ≡ replicate m 0
          → ReadIs x v (read_text s m)
      unfolding read_text
      cleared (Ok c) t i j = cc
      cleared (Err y) t i j =
          let a = rw (l, z) at i in
          rw (le-ltb max_bytes (length s) h, ← e, ← a) (refl, j)

pub returns-then-text-gt-MAX_BYTES : goal.returns-then-text-gt-MAX_BYTES
returns-then-text-gt-MAX_BYTES c =
    long _ _ _ c.if-text-gt-MAX_BYTES.true c.clear.ensures

pub returns-in_err-variables : goal.returns-in_err-variables
returns-in_err-variables c =
    let p = err_from_is_err_and c.from_residual.result c.from_residual.ensures.1 in
    rw (p.1, p.2) (unfit _ _ _ c.if-text-gt-MAX_BYTES.false _ c.in_err-variables.ensures.0 c.clear.ensures)

pub returns-then-is_err : goal.returns-then-is_err
returns-then-is_err c =
    let n = c.lines_from-reading.auto.words ∙ c.clear.auto.words in
    cleared _ _ _ c.if-text-gt-MAX_BYTES.false _ _ c.in_ok-variables.ensures.0 c.clear.new.words
    c.clear.auto.words c.clear.ensures _ c.if-is_err.ensures.value c.lines_from-reading.ensures.0
    (c.clear-then-is_err.ensures ∙ ap (λ (k : ℕ). replicate {A = ℕ} k 0) n)

pub returns-else-is_err : goal.returns-else-is_err
returns-else-is_err c =
    accepted _ _ _ c.if-text-gt-MAX_BYTES.false _ _ c.in_ok-variables.ensures.0 c.clear.new.words
    c.clear.auto.words c.clear.ensures _ c.if-is_err.ensures.value c.lines_from-reading.ensures.0
    c.lines_from-reading.ensures.1
