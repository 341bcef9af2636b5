-- `decisions::decide` meets its contract: one side, the other, and all pairs.
use mathlib.Core.List.{List}
use Rattle.terms.specs.declared.Term.{Term}
use Rattle.lists.specs.List.{slots, terms_in}
use Rattle.decisions.specs.Extended.{Extending}
use Rattle.decisions.proofs.Whole.{first, second, third, over₁, over₂, over₃, ends}
use Rattle.decisions.proofs.decide.Goals as goal
use Rattle.decisions.proofs.decide.Goals.{Start}

-- the sides, and the slices at first
module _ (c : Start) where
  abbrev low : List Term
  low = terms_in c.args.a

  abbrev high : List Term
  high = terms_in c.args.b

  abbrev begun : Extending c.args.x c.args.a c.args.b
      (slots c.args.list.now) c.args.kept.now (record { listed = 0; kept = 0; cost = 0 })
  begun =
      first c.requires.decided_at (slots c.args.list.now) c.args.kept.now c.args.list.now.same_length
      c.requires.kept_len

pub list_side-requires : goal.list_side-requires
list_side-requires c = begun (goal.at.list_side-requires c).Start

pub returns-in_err-c-clause-made : goal.returns-in_err-c-clause-made
returns-in_err-c-clause-made c =
    rw c.from_residual.ensures (over₁ c.requires.decided_at (begun (goal.at.returns-in_err-c-clause-made c).Start) c.in_err-c.ensures.made)

pub list_side-requires-2 : goal.list_side-requires-2
list_side-requires-2 c =
    second c.requires.decided_at (begun (goal.at.list_side-requires-2 c).Start) _ c.list_side.new.kept c.in_ok-c.c c.in_ok-c.ensures.made

pub returns-in_err-d-clause-made : goal.returns-in_err-d-clause-made
returns-in_err-d-clause-made c =
    rw c.from_residual-in_err-d.ensures
    (over₂ c.requires.decided_at (begun (goal.at.returns-in_err-d-clause-made c).Start) _ c.list_side.new.kept c.in_ok-c.c c.in_ok-c.ensures.made
    c.in_err-d.ensures.made)

pub join_all-requires : goal.join_all-requires
join_all-requires c = record {
  growing =
      third c.requires.decided_at (begun (goal.at.join_all-requires c).Start) _ c.list_side.new.kept c.in_ok-c.c c.in_ok-c.ensures.made _
      c.list_side-2.new.kept c.in_ok-d.d c.in_ok-d.ensures.made;
  has_halves = c.requires.has_halves;
}

pub returns-in_err-e-clause-made : goal.returns-in_err-e-clause-made
returns-in_err-e-clause-made c =
    rw c.from_residual-in_err-e.ensures
    (over₃ c.requires.decided_at (begun (goal.at.returns-in_err-e-clause-made c).Start) _ c.list_side.new.kept c.in_ok-c.c c.in_ok-c.ensures.made _
    c.list_side-2.new.kept c.in_ok-d.d c.in_ok-d.ensures.made c.in_err-e.ensures.made)

pub returns-clause-made : goal.returns-clause-made
returns-clause-made c =
    ends c.requires.decided_at (begun (goal.at.returns-clause-made c).Start) _ c.list_side.new.kept c.in_ok-c.c c.in_ok-c.ensures.made _
    c.list_side-2.new.kept c.in_ok-d.d c.in_ok-d.ensures.made _ c.join_all.new.kept c.in_ok-e.e c.in_ok-e.ensures.made
