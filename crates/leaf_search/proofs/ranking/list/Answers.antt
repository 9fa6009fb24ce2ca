-- The list of keyed choices for the ordered search (`ranking::list`): the next choice of the board is listed with its
-- key, for which there is room.
use Rattle.leaf_search.proofs.Common.{refl, sym, subst, rules, cells}
use Rattle.leaf_search.proofs.ListLemmas.{IsListed, IsListed-next, IsListed-room, IsListed-turn}
use Rattle.leaf_search.proofs.ranking.list.Goals as goal

pub after-requires : goal.after-requires
after-requires c = IsListed-next c.loop-choice.invariant c.in-Some.ensures.cases

pub push-requires : goal.push-requires
push-requires c = let room = IsListed-room c.loop-choice.invariant c.in-Some.ensures.cases (c.choices_are_few.ensures.most (cells c.args.weighed.board)) in search rules

pub loop-choice-preserved : goal.loop-choice-preserved
loop-choice-preserved c =
    subst (λ items. IsListed (cells c.args.weighed.board) items c.pop_first.new.self) (sym c.push.ensures.items)
    (IsListed-turn c.loop-choice.invariant c.in-Some.ensures.cases _ refl c.len-place.ensures.value)
