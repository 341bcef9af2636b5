-- `filtered::list_exact` meets its contract.
use Prim.Native.Nat.{ℕ}
use mathlib.Core.Path.{◌≡◌, sym}
use mathlib.Core.Bool.{true, false}
use native.Mathlib.Omega.{arith}
use lib.ListN.{length, replicate}
use Rattle.masks.proofs.Tests.{along}
use Rattle.circuits.proofs.Accepted.{accepted-e, variables-le}
use Rattle.lists.specs.List.{by_sign}
use Rattle.exclusions.specs.Exclusions.{exclusions}
use Rattle.listing.specs.Listing.{lent, suffices, Lent}
use Rattle.listing.proofs.Answers.{zeros_of}
use Rattle.listing.proofs.Bounds.{enough, Enough}
use Rattle.filtered.proofs.Shown.{last-held, exact-filtered, exact-lack}
use Rattle.filtered.proofs.list_exact.Goals as goal

-- the buffers b' are as long as the buffers b
large : (n R : ℕ) (b b' : Lent) → suffices n R b ≡ true → length b'.positives ≡ length b.positives
    → length b'.negatives ≡ length b.negatives → length b'.counts ≡ length b.counts → Enough n R b'
large n R b b' e p q r =
    let l = enough n R b (along (sym e) tt) in
    record {
      small = l.small;
      positives = omega (arith, l.positives, p);
      negatives = omega (arith, l.negatives, q);
      counts = omega (arith, l.counts, r);
    }

pub list_ready-requires : goal.list_ready-requires
list_ready-requires c =
    record {
      words_value = (c.requires.words_value.0, c.requires.words_value.1);
      counts_value = c.requires.counts_value.0;
    }

pub returns-then-not-list_ready : goal.returns-then-not-list_ready
returns-then-not-list_ready c =
    let x = c.args in
    let R : ℕ = x.shape.capacity in
    exact-lack _ _ x.words.now x.shape _ _ c.list_ready.result c.requires.words_value.0 c.list_ready.ensures _
    c.if-not-list_ready.true
    (λ d.
    elim d as (λ d. by_sign c.fill.new.self c.fill-2.new.self d ≡ replicate R 0) [
      | true ↦ zeros_of R _ x.shown_positives.now (c.fill.ensures.after (λ y e. e)) c.requires.counts_value.1
      | false ↦ zeros_of R _ x.shown_negatives.now (c.fill-2.ensures.after (λ y e. e)) c.requires.counts_value.2
    ])

-- the listing is done
pub filter_last-requires : goal.filter_last-requires
filter_last-requires c =
    let x = c.args in
    let R : ℕ = x.shape.capacity in
    let a = c.list_ready.auto in
    record {
      last_held = (
        last-held _ (exclusions x.firsts.now x.seconds.now) x.words.now x.shape _ _ c.list_ready.result
            c.requires.words_value.0 c.list_ready.ensures c.if-not-list_ready.false
            (large x.shape.nodes R (lent x.positives.now x.negatives.now x.counts.now) _ c.requires.counts_value.0 a.positives
            a.negatives a.counts),
        variables-le (accepted-e x.shape.variables x.shape.nodes x.words.now c.requires.words_value.0),
        c.requires.words_value.2,
      );
      shown_positives_value = (
        zeros_of R _ x.shown_positives.now (c.fill.ensures.after (λ y e. e)) c.requires.counts_value.1,
        zeros_of R _ x.shown_negatives.now (c.fill-2.ensures.after (λ y e. e)) c.requires.counts_value.2,
      );
    }

pub returns : goal.returns
returns c =
    let x = c.args in
    exact-filtered _ _ x.words.now x.shape _ _ c.list_ready.result c.requires.words_value.0 c.list_ready.ensures
    c.if-not-list_ready.false _ c.filter_last.result c.filter_last.ensures
