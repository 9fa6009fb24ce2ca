-- The sorted choices for the ordered search (`ranking::rank`): they are all the board's, each once.
use Rattle.leaf_search.proofs.Common.{cells}
use Rattle.leaf_search.proofs.ListLemmas.{sorted-rearranged}
use Rattle.leaf_search.proofs.ranking.rank.Goals as goal

pub returns : goal.returns
returns c =
    sorted-rearranged (cells c.args.weighed.board) c.list.new.ranked.items _ c.sort_unstable_by_key.new.self c.as_mut_slice.ensures.value
    c.sort_unstable_by_key.ensures.permutation c.list.ensures
