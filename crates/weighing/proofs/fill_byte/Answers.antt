use Prim.Native.Nat.{ℕ, ◌*◌, ◌%◌, ◌^◌, ◌<◌, ◌≤◌}
use mathlib.Core.Path.{◌≡◌, ◌∙◌}
use native.Mathlib.Omega.{arith}
use lib.ListN.{length-set}
use lib.Pow.{pow_mono}
use Rattle.masks.proofs.Operators.{one_shift}
use Rattle.weighing.proofs.Filling.{filled-start, filled-room, filled_next}
use Rattle.weighing.proofs.fill_byte.Goals as goal

-- `1 << b`, how many sums are made before turn b
abbrev made : ℕ → ℕ
made b = 1 * 2 ^ b % 2 ^ 64

made-pow : (b : ℕ) → b < 8 → made b ≡ 2 ^ b
made-pow b l = one_shift 64 b (omega arith)

pub loop-b-init : goal.loop-b-init
loop-b-init c =
    let s = c.before.before in
    let m = s.args.weights.now in
    let sums = s.args.sums.now in
    (omega arith, length-set sums (256 * s.args.k) 0 ∙ s.requires.0, filled-start m s.args.k sums (omega arith))

pub double-requires : goal.double-requires
double-requires c =
    let l = c.before.before.before in
    let s = l.before.before.before in
    let n = made l.loop-b.b in
    let e : n ≡ 2 ^ l.loop-b.b = made-pow l.loop-b.b (omega arith) in
    let below : l.loop-b.b ≤ 7 = omega arith in
    let half : 2 ^ l.loop-b.b ≤ 2 ^ 7 = pow_mono below in (
      omega arith,
      filled-room s.args.weights.now s.args.k l.loop-b.b n c.weight_at.result e c.weight_at.ensures l.loop-b.invariant.2
          s.requires.2 (omega arith),
    )

pub loop-b-preserved : goal.loop-b-preserved
loop-b-preserved c =
    let a = c.before.before in
    let w = a.before in
    let l = w.before.before.before in
    let s = l.before.before.before in
    let n = made l.loop-b.b in
    let e : n ≡ 2 ^ l.loop-b.b = made-pow l.loop-b.b (omega arith) in (
      omega arith,
      a.double.auto.sums ∙ l.loop-b.invariant.1,
      filled_next s.args.weights.now s.args.k l.loop-b.b n w.weight_at.result e w.weight_at.ensures l.loop-b.invariant.2
          a.double.ensures,
    )
