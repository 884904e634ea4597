-- The laws, each by its lemma.
use Rattle.std.specs.Prelude.{[], ◌∷◌, ◌++◌, slice_set}
use Rattle.board.specs.Laws.{InOrder, OneMore, Pushed, Replaced, NoneBefore, Filtered, CountedAlike, FirstOfMore}
use Rattle.board.proofs.Sorting.{rises_sorted, lookup_sorted, sorted_placed, lookup_push, distinct_push, lookup_set, distinct_set, distinct_take, fresh_before, sorted_filter, distinct_filter, length_sorted, first_placed}

pub in_order : InOrder
in_order os = (rises_sorted os, λ k. lookup_sorted k os)

pub one_more : OneMore
one_more = sorted_placed

pub pushed : Pushed
pushed o os d n = (sorted_placed o os (os ++ o ∷ []) (lookup_push o os n), distinct_push o os n d)

pub replaced : Replaced
replaced o os i d h e = (sorted_placed o os (slice_set os i o) (lookup_set o os i d h e), distinct_set o os i d h e)

pub none_before : NoneBefore
none_before os i o d h = (distinct_take os i d, fresh_before os i o d h)

pub filtered : Filtered
filtered p os d = (sorted_filter p os d, distinct_filter p os d)

pub counted_alike : CountedAlike
counted_alike = length_sorted

pub first_of_more : FirstOfMore
first_of_more = first_placed
