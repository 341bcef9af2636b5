-- `listing::list_exact` meets its contract.
use Prim.Native.Nat.{ℕ, ◌*◌}
use mathlib.Core.Path.{◌≡◌, ◌∙◌}
use mathlib.Core.Bool.{Bool, true, false}
use mathlib.Core.List.{List}
use lib.ListN.{length}
use Rattle.circuits.specs.Function.{signed_function}
use Rattle.circuits.proofs.Accepted.{accepted-e, variables-le, nodes-le, Accepted}
use Rattle.lists.specs.List.{by_sign}
use Rattle.listing.proofs.Answers.{exact-all, exact_none, zeros_of}
use lib.ListN.{replicate}
use Rattle.listing.proofs.list_exact.Goals as goal
use Rattle.listing.proofs.list_exact.Lts as lts
use Rattle.listing.proofs.list_exact.Reads as reads
use Rattle.listing.proofs.list_exact.Tie as tie

-- places of the code
abbrev After-clear : Type 0
After-clear = lts.After-clear tie.the-claims reads.Pre reads.Post tie.handed_clauses

abbrev Start : Type 0
Start = lts.Start tie.the-claims reads.Pre reads.Post tie.handed_clauses

abbrev After-fill_all : Type 0
After-fill_all = lts.After-fill_all tie.the-claims reads.Pre reads.Post tie.handed_clauses

abbrev start : After-clear → Start
start k = k.before.before.before.before.before.before.before.before.before

-- after the first clearing, and after the loop over the nodes
abbrev cleared : After-fill_all → After-clear
cleared f = f.before.before.before.before.before.before.before.before.before.before

-- the nodes' functions, or their negations
abbrev listed : Start → ℕ → ℕ → Bool
listed s = signed_function s.args.shape.sign s.args.words.now

abbrev buffers : After-fill_all → Bool → List ℕ
buffers f = by_sign f.fill_all.new.positives f.fill_all.new.negatives

pub fill_all-requires : goal.fill_all-requires
fill_all-requires c =
    let k = c.before.before.before.before.before.before.before.before.before in
    let s = start k.before in
    let x = s.args in
    let h = x.shape in
    let z = k.clear.ensures in
    record {
      accepts = s.requires.words_value.0;
      small = s.requires.words_value.1;
      masks = λ b.
          elim b as (λ b. by_sign k.clear.new.positives k.clear.new.negatives b ≡ replicate (h.nodes * h.capacity) 0) [
            | true ↦ zeros_of (h.nodes * h.capacity) k.clear.new.positives x.positives.now z.0 s.requires.positives_len.0
            | false ↦ zeros_of (h.nodes * h.capacity) k.clear.new.negatives x.negatives.now z.1 s.requires.positives_len.1
          ];
      counts = zeros_of h.nodes k.clear.new.counts x.counts.now z.2 s.requires.words_value.2;
    }

accepts : (s : Start) → Accepted s.args.shape.variables s.args.shape.nodes s.args.words.now
accepts s = accepted-e s.args.shape.variables s.args.shape.nodes s.args.words.now s.requires.words_value.0

pub arrange_all-requires : goal.arrange_all-requires
arrange_all-requires c =
    let f = c.before.before.before.before.before.before.before.before.before.before in
    let s = start (cleared f) in
    record {
      variables-few = variables-le (accepts s);
      nodes-few = nodes-le (accepts s);
      small = s.requires.words_value.1;
      weights = s.requires.words_value.3;
      listed = listed s;
      holds = f.fill_all.ensures.holds c.before.before.before.if-fill_all.true;
    }

pub returns-then-fill_all : goal.returns-then-fill_all
returns-then-fill_all c =
    let p = c.before.before.before.before in
    let f = c.before.before.before.before.before.before.before.before.before.before.before.before.before.before.before in
    let done = c.before.before.before.before.before.before.before.before.if-fill_all.true in
    let s = start (cleared f) in
    let h = s.args.shape in
    exact-all s.args.weights.now h.variables h.nodes (listed s) h.capacity (buffers f) f.fill_all.new.counts
    f.fill_all.result f.fill_all.ensures (by_sign p.arrange_all.new.positives p.arrange_all.new.negatives) done
    (p.arrange_all.ensures (listed s) (f.fill_all.ensures.holds done))

pub returns : goal.returns
returns c =
    let z = c.before.before.before.before.before.before in
    let e = z.before.before.before.before in
    let f = e.before.before.before.before.before.before.before in
    let k = cleared f.before in
    let s = start k in
    let x = s.args in
    let h = x.shape in
    let d = z.clear-2.ensures in
    let p : length f.fill_all.new.positives ≡ h.nodes * h.capacity = f.fill_all.auto.positives ∙ k.clear.auto.positives
    ∙ s.requires.positives_len.0 in
    let q : length f.fill_all.new.negatives ≡ h.nodes * h.capacity = f.fill_all.auto.negatives ∙ k.clear.auto.negatives
    ∙ s.requires.positives_len.1 in
    let m : length f.fill_all.new.counts ≡ h.nodes = f.fill_all.auto.counts ∙ k.clear.auto.counts ∙ s.requires.words_value.2 in
    exact_none x.weights.now h.variables h.nodes (listed s) h.capacity (buffers f.before) f.fill_all.new.counts
    f.fill_all.result f.fill_all.ensures (by_sign z.clear-2.new.positives z.clear-2.new.negatives) z.clear-2.new.counts
    e.if-fill_all.false
    (λ b. elim b as (λ b. by_sign z.clear-2.new.positives z.clear-2.new.negatives b ≡ replicate (h.nodes * h.capacity) 0) [
      | true ↦ zeros_of (h.nodes * h.capacity) z.clear-2.new.positives f.fill_all.new.positives d.0 p
      | false ↦ zeros_of (h.nodes * h.capacity) z.clear-2.new.negatives f.fill_all.new.negatives d.1 q
    ])
    (zeros_of h.nodes z.clear-2.new.counts f.fill_all.new.counts d.2 m)
