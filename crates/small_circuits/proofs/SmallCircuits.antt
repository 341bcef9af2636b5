-- The small circuits, computed from the definitions.
use lib.Dec.{T}
use Rattle.masks.specs.Mask.{bit, put, size, disjoint}
use Rattle.masks.specs.Numbers.{every, some, count, total, least, below}
use Rattle.table.specs.Layout.{words_at, put_words}
use Rattle.table.specs.Node.{node_at}
use Rattle.table.specs.Words.{children_fit, malformed}
use Rattle.text.specs.Read.{digit_at, digits_at, number_at, match_at, ranged_at, tail_at, head_at, close_at, end_at, rest_with, form_at, lines_at}
use Rattle.text.specs.Read.{header_at, read_text, word_at}
use Rattle.terms.specs.Completions.{models_under, status}
use Rattle.terms.specs.Lists.{all, sort}
use Rattle.terms.specs.Order.{weight, key, before}
use Rattle.terms.specs.Prime.{implicant, prime, candidates, primes}
use Rattle.terms.specs.Term.{is_term, agrees}
use Rattle.weighing.specs.Weights.{fitting}
use Rattle.exclusions.specs.Exclusions.{proper, respects}
use Rattle.measurements.specs.Measurement.{measured_term, wrong, check_measurements}
use Rattle.circuits.specs.Check.{parentless, undecomposable, unreduced, check}
use Rattle.circuits.specs.Function.{bottom_up, of_node, function, support}
use Rattle.checks.specs.Arguments.{check_term}
use Rattle.queries.specs.Queries.{model_count}
use Rattle.partial.specs.Partial.{judgement, partial_evaluation}
use Rattle.listing.specs.Listing.{exceeds, list_table}
use Rattle.filtered.specs.Filtered.{shown_primes, filtered_table}
use Rattle.small_circuits.specs.Small.{small_holds, judgements, small}

pub small-holds : T (all small_holds small)
unfolding small judgements model_count partial_evaluation judgement status models_under check_term check_measurements wrong measured_term
    list_table filtered_table shown_primes proper respects exceeds check malformed parentless undecomposable unreduced support
    node_at words_at put_words
    children_fit bottom_up of_node function primes prime candidates implicant agrees is_term weight key before sort
    fitting bit put size disjoint every some count total least below
    read_text header_at lines_at form_at rest_with end_at close_at head_at tail_at word_at ranged_at match_at number_at digits_at digit_at
small-holds = tt
