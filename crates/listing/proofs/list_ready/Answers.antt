-- `listing::list_ready` meets its contract.
use Prim.Native.Nat.{ℕ, ◌*◌, ◌≤◌}
use mathlib.Core.Path.{sym}
use native.Mathlib.Omega.{arith}
use lib.Seq.{length-take-le}
use Rattle.masks.proofs.Numbers.{product_le}
use Rattle.masks.proofs.Tests.{along}
use Rattle.table.specs.Node.{max_nodes}
use Rattle.circuits.specs.Function.{signed_function}
use Rattle.circuits.proofs.Accepted.{accepted-e, nodes-le}
use Rattle.lists.specs.Capacity.{max_capacity}
use Rattle.lists.specs.List.{by_sign}
use Rattle.listing.specs.Listing.{lent, Lent}
use Rattle.listing.proofs.Answers.{attempted}
use Rattle.listing.proofs.Bounds.{enough, Enough}
use Rattle.listing.proofs.list_ready.Goals as goal
use Rattle.listing.proofs.list_ready.Lts as lts
use Rattle.listing.proofs.list_ready.Reads as reads
use Rattle.listing.proofs.list_ready.Tie as tie

-- places of the code
abbrev Start : Type 0
Start = lts.Start tie.the-claims reads.Pre reads.Post tie.handed_clauses

abbrev After-struct_known : Type 0
After-struct_known = lts.After-struct_known tie.the-claims reads.Pre reads.Post tie.handed_clauses

-- the lent buffers
abbrev buffers : Start → Lent
buffers s = lent s.args.positives.now s.args.negatives.now s.args.counts.now

most : (s : Start) → s.args.shape.nodes ≤ max_nodes
most s = nodes-le (accepted-e s.args.shape.variables s.args.shape.nodes s.args.words.now s.requires.words_value.0)

large : (s : Start) → Enough s.args.shape.nodes s.args.shape.capacity (buffers s)
large s = enough s.args.shape.nodes s.args.shape.capacity (buffers s) (along (sym s.requires.counts_value) tt)

-- after the slices and the shape are known
abbrev start : After-struct_known → Start
start c = c.before.before.before.before.before.before

pub overflow_mul-total : goal.overflow_mul-total
overflow_mul-total c =
    let s = start c.before in
    let h = s.args.shape in
    omega (arith, product_le h.nodes h.capacity max_nodes max_capacity (most s) (large s).small)

pub slice_bounds-list_exact-end : goal.slice_bounds-list_exact-end
slice_bounds-list_exact-end c = (large (start c.before)).positives

pub slice_bounds-list_exact-end-2 : goal.slice_bounds-list_exact-end-2
slice_bounds-list_exact-end-2 c =
    let s = start c.before.before in
    let x = s.args in
    sym (length-take-le (x.shape.nodes * x.shape.capacity) x.positives.now (large s).positives)

pub slice_bounds-list_exact-end-3 : goal.slice_bounds-list_exact-end-3
slice_bounds-list_exact-end-3 c = (large (start c.before.before)).negatives

pub slice_bounds-list_exact-end-4 : goal.slice_bounds-list_exact-end-4
slice_bounds-list_exact-end-4 c =
    let s = start c.before.before.before in
    let x = s.args in
    sym (length-take-le (x.shape.nodes * x.shape.capacity) x.negatives.now (large s).negatives)

pub slice_bounds-list_exact-end-5 : goal.slice_bounds-list_exact-end-5
slice_bounds-list_exact-end-5 c = (large (start c.before.before.before)).counts

pub slice_bounds-list_exact-end-6 : goal.slice_bounds-list_exact-end-6
slice_bounds-list_exact-end-6 c =
    let s = start c.before.before.before.before in
    let x = s.args in
    sym (length-take-le x.shape.nodes x.counts.now (large s).counts)

pub list_exact-requires : goal.list_exact-requires
list_exact-requires c =
    let s = start c.before.before.before.before in
    let x = s.args in
    let total : ℕ = x.shape.nodes * x.shape.capacity in
    let l = large s in record {
      words_value = (s.requires.words_value.0, l.small, length-take-le x.shape.nodes x.counts.now l.counts, s.requires.words_value.1);
      positives_len = (length-take-le total x.positives.now l.positives, length-take-le total x.negatives.now l.negatives);
    }

pub returns : goal.returns
returns c =
    let p = c.before.before.before.before.before.before in
    let s = start p.before.before.before.before.before in
    let x = s.args in
    let h = x.shape in
    let l = p.list_exact.new in
    attempted x.weights.now h.variables h.nodes (signed_function h.sign x.words.now) h.capacity (buffers s)
    (by_sign l.positives l.negatives) l.counts p.list_exact.result p.list_exact.ensures
