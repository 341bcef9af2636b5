use Prim.Native.Nat.{ℕ, ◌*◌, ◌<◌, ◌≤◌}
use mathlib.Core.Path.{◌≡◌, sym, ap, subst, ◌∙◌}
use borrow.Author.Rules.{rules}
use mathlib.Core.Bool.{Bool}
use mathlib.Core.List.{List, []}
use native.Mathlib.Nat.{lt_of_lt_of_le}
use native.Mathlib.Omega.{arith}
use native.Mathlib.Numerals.{add-one}
use lib.ListN.{length, set}
use Rattle.std.specs.Prelude.{Option, Some}
use Rattle.table.specs.Layout.{words_for}
use Rattle.table.specs.Node.{max_nodes}
use Rattle.terms.specs.declared.Term.{Term}
use Rattle.circuits.specs.Function.{signed_function}
use Rattle.circuits.proofs.Accepted.{accepted-e, nodes-some, nodes-le, words-enough, Accepted}
use Rattle.circuits.proofs.Largest.{no_more}
use Rattle.lists.specs.List.{by_sign}
use Rattle.insertion.proofs.Parts.{kept-count, kept_full}
use Rattle.nodes.specs.Part.{PartFilled, HasPlace}
use Rattle.listing.specs.Listing.{node_primes}
use Rattle.listing.proofs.NodeParts.{part_lies, part-given, part-made}
use Rattle.listing.proofs.Table.{state-start, state-more}
use Rattle.listing.proofs.Table.{tried-full, tried-all, State}
use Rattle.listing.proofs.fill_nodes.Goals as goal
use Rattle.listing.proofs.fill_nodes.Goals.{Start, After-fill_node}

module _ (c : Start) where
  accepts : let h = c.args.shape in Accepted h.variables h.nodes c.args.words.now
  accepts = let h = c.args.shape in accepted-e h.variables h.nodes c.args.words.now c.requires.zeroed.accepts

  -- the nodes' functions, or their negations
  abbrev listed : ℕ → ℕ → Bool
  listed = signed_function c.args.shape.sign c.args.words.now

-- ---- a node's part is filled
module _ (c : After-fill_node) where
  -- the prime implicants of the turn's node
  abbrev own : List Term
  own = node_primes [] c.args.shape.variables (signed_function c.args.shape.sign c.args.words.now) c.loop-i.i

  abbrev now : Bool → List ℕ
  now = by_sign c.loop-i.positives c.loop-i.negatives

  abbrev then : Bool → List ℕ
  then = by_sign c.fill_node.new.positives c.fill_node.new.negatives

  holds : let h = c.args.shape in Accepted h.variables h.nodes c.args.words.now
  holds = let h = c.args.shape in accepted-e h.variables h.nodes c.args.words.now c.requires.zeroed.accepts

  -- it has them
  filled : let R = c.args.shape.capacity in PartFilled own (c.loop-i.i * R) R now then c.fill_node.result
  filled =
      let h = c.args.shape in
      let part = c.part_of-part.result in
      let is = c.part_of-part.ensures in
      let r : Option ℕ = c.fill_node.result in
      let own-is = part-made holds h.sign c.loop-i.invariant.1 c.loop-i-test.true c.requires.zeroed.small part is in
      subst (λ (m : ℕ). PartFilled own m h.capacity now then r) is.at
      (subst (λ (m : ℕ). PartFilled own part.at m now then r) is.capacity-is
      (subst (λ (k : List Term). PartFilled k part.at part.capacity now then r) own-is c.fill_node.ensures.made))

  -- so many of them, where there is room
  counted : (n : ℕ) → c.fill_node.result ≡ Some n → (length own ≤ c.args.shape.capacity) × (n ≡ length own)
  counted n e = kept-count c.args.shape.capacity own n (sym e ∙ filled.answer)

pub loop-i-init : goal.loop-i-init
loop-i-init c =
    let x = c.args in
    let h = x.shape in (
      omega arith,
      state-start [] h.variables (signed_function h.sign x.words.now) h.capacity h.nodes (by_sign x.positives.now x.negatives.now)
          x.counts.now c.requires.zeroed.masks c.requires.zeroed.counts,
      c.requires.has_place,
    )

pub part_of-part-requires : goal.part_of-part-requires
part_of-part-requires c =
    let holds = accepts (goal.at.part_of-part-requires c).Start in
    let most : c.args.shape.nodes ≤ max_nodes = nodes-le holds in
    let enough : words_for c.args.shape.nodes ≤ length c.args.words.now = words-enough holds in
    (omega (arith, c.loop-i-test.true), c.requires.zeroed.small, omega (arith, c.loop-i-test.true))

pub fill_node-requires : goal.fill_node-requires
fill_node-requires c =
    let holds = accepts (goal.at.fill_node-requires c).Start in
    let sign : Bool = c.args.shape.sign in
    let state = c.loop-i.invariant.1 in
    let part = c.part_of-part.result in
    let is = c.part_of-part.ensures in
    record {
      laid = (
        part_lies holds sign state c.loop-i-test.true c.requires.zeroed.small part is,
        part-given holds sign state c.loop-i-test.true c.requires.zeroed.small part is,
      );
      has_place = subst
          (λ (m : ℕ). HasPlace m c.loop-i.low_positives c.loop-i.low_negatives c.loop-i.high_positives c.loop-i.high_negatives)
          (sym is.capacity-is) c.loop-i.invariant.2;
    }

pub returns-in_default : goal.returns-in_default
returns-in_default c =
    let d = (goal.at.returns-in_default c).After-fill_node in
    let h = c.args.shape in
    let over : h.capacity < length (own d) = kept_full h.capacity (own d) (sym c.in_default.is ∙ (filled d).answer) in
    tried-full h.variables h.nodes (signed_function h.sign c.args.words.now) h.capacity (then d) c.loop-i.counts
    (lt_of_lt_of_le over (no_more (holds d) h.sign [] c.loop-i.i c.loop-i-test.true))

pub loop-i-preserved : goal.loop-i-preserved
loop-i-preserved c =
    let d = (goal.at.loop-i-preserved c).After-fill_node in
    let h = c.args.shape in
    let i : ℕ = c.loop-i.i in
    let k : ℕ = c.in-Some.c in
    let n = counted d k c.in-Some.is in
    let Listed : ℕ → Type 0 =
    λ m. State [] h.variables (signed_function h.sign c.args.words.now) h.capacity h.nodes m (then d) (set c.loop-i.counts i k) in (
      omega (arith, c.loop-i-test.true),
      subst Listed (sym (add-one i))
          (state-more c.loop-i.invariant.1 c.loop-i-test.true (then d) (set c.loop-i.counts i k) n.0 ((filled d).masks n.0)
          (ap (set c.loop-i.counts i) n.1)),
      subst
          (λ (m : ℕ).
          HasPlace m c.fill_node.new.low_positives c.fill_node.new.low_negatives c.fill_node.new.high_positives
          c.fill_node.new.high_negatives)
          c.part_of-part.ensures.capacity-is c.fill_node.ensures.has_place,
    )

pub returns : goal.returns
returns c =
    let h = c.args.shape in
    let F : ℕ → ℕ → Bool = signed_function h.sign c.args.words.now in
    let now : Bool → List ℕ = by_sign c.loop-i.positives c.loop-i.negatives in
    let e : c.loop-i.i ≡ h.nodes = omega (arith, c.loop-i-test.false) in
    tried-all h.variables h.nodes F h.capacity now c.loop-i.counts (nodes-some (accepts (goal.at.returns c).Start))
    (subst (λ (m : ℕ). State [] h.variables F h.capacity h.nodes m now c.loop-i.counts) e c.loop-i.invariant.1)

-- the count is that of a node's part
pub overflow_cast-counts : goal.overflow_cast-counts
overflow_cast-counts c =
    let d = (goal.at.overflow_cast-counts c).After-fill_node in
    let n = counted d c.in-Some.c c.in-Some.is in
    search (rules, n.0, n.1, c.requires.zeroed.small, arith)
