-- A search's next act (`next::test`): the child and the stored words are what the definition says for a choice that is
-- tested.
use Rattle.jamboree.proofs.Common.{◌∙◌, ap, spawns, ◌+ℤ◌, pos, neg_ℤ, rest_at, floor, frame_with}
use Rattle.std.proofs.Common.{ℕ}
use Rattle.jamboree.proofs.ActLemmas.{negated-floor, negated-more, act-by, spawns-by, start-stores}
use Rattle.jamboree.proofs.next.test.Goals as goal

pub returns : goal.returns
returns c all entries at same =
    let f = frame_with c.args.frame.now entries in
    act-by _ _ _ _ (start-stores _ _ _ _ (c.child-child.ensures.number ∙ c.requires.next) (same ∙ ap (rest_at f) c.requires.next))
    (spawns-by f 2 c.args.number _ _ _ _ _ c.child-child.ensures.spawned
    (negated-more c.floor-floor.result _ c.floor-floor.ensures) (negated-floor c.floor-floor.result _ c.floor-floor.ensures)
    ∙ ap (λ (n : ℕ). spawns f 2 n (neg_ℤ (floor f +ℤ pos 1)) (neg_ℤ (floor f))) c.requires.next)
