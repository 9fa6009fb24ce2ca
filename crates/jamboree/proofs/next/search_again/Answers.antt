-- A search's next act (`next::search_again`): the child and the stored words are what the definition says for a choice
-- whose test has failed.
use Rattle.jamboree.proofs.Common.{frame_with}
use Rattle.jamboree.proofs.ActLemmas.{negated-beta, negated-floor, act-by, spawns-by, again-stores}
use Rattle.jamboree.proofs.next.search_again.Goals as goal

pub returns : goal.returns
returns c more all entries same =
    let v = c.args.frame.now in
    act-by _ _ _ _ (again-stores _ _ _ _ c.child-child.ensures.number same)
    (spawns-by (frame_with v entries) 3 c.args.number _ _ _ _ _ c.child-child.ensures.spawned (negated-beta v) (negated-floor c.floor.result _ c.floor.ensures))
