-- The terms of a list, and the entries of a buffer. No public contract rests on these.
use Rattle.std.specs.Prelude.{ℕ, Bool, true, false, List, length, take, ◌≡◌}
use Rattle.terms.specs.Term.{terms_of}
use Rattle.terms.specs.declared.Term.{Term}
use Rattle.lists.specs.Entries.{term_at}
use Rattle.lists.specs.declared.list.TermBuffer.{TermBuffer}
use Rattle.lists.specs.declared.list.TermList.{TermList}

-- the terms of a list, in its order
abbrev pub terms_in : TermList → List Term
terms_in l = terms_of l.positives.now l.negatives.now

-- term k of a list
abbrev pub nth : TermList → ℕ → Term
nth l k = term_at l.positives.now l.negatives.now k

-- two slices by sign: the positive masks for true
abbrev pub by_sign : List ℕ → List ℕ → Bool → List ℕ
by_sign ps ns true = ps
by_sign ps ns false = ns

-- both slices are still lent from where they were, so that what is in them at the end is what their lender finds, and as long as they were;
-- the two are of one length
abbrev pub SameLoan : TermBuffer → TermBuffer → Type 0
SameLoan b b' =
    (b'.positives.ghost_name ≡ b.positives.ghost_name) × (b'.negatives.ghost_name ≡ b.negatives.ghost_name)
    × (length b'.positives.now ≡ length b.positives.now)

-- the entries of a buffer, by sign
abbrev pub slots : TermBuffer → Bool → List ℕ
slots b = by_sign b.positives.now b.negatives.now

-- the terms that the first count entries hold
abbrev pub held : (Bool → List ℕ) → ℕ → List Term
held s count = terms_of (take count (s true)) (take count (s false))
