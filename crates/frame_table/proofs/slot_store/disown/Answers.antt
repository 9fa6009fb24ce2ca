-- A frame of the frame table loses a child (`slot_store::disown`): the count in the parent's slot goes down by one,
-- and where there is no parent nothing changes.
use Rattle.frame_table.proofs.Common.{ap, arith, recounted, refl, slots_in, sym, without_child, ◌-◌, ◌∙◌}
use Rattle.frame_table.proofs.Cutting.{no-parent-key, parent-key}
use Rattle.frame_table.proofs.Forest.{slot_at-found, with_slot-none, with_slot-set}
use Rattle.frame_table.proofs.Keys.{put-keys, put-slots, seen-at}
use Rattle.frame_table.proofs.slot_store.disown.Goals as goal

pub count_less-requires-clause-some : goal.count_less-requires-clause-some
count_less-requires-clause-some g c kept found =
    let p = parent-key _ _ _ _ _ c.in-Some.is c.requires.keys c.requires.above in
    let at = seen-at c.requires.keys p.key_at found in
    omega (arith, rw (p.is, slot_at-found _ _ _ _ c.requires.rise at) at c.requires.counted)

pub returns-in-Some : goal.returns-in-Some
returns-in-Some g c =
    let p = parent-key _ _ _ _ _ c.in-Some.is c.requires.keys c.requires.above in
    let put = c.count_less.ensures.put _ p.found in
    let at = seen-at c.requires.keys p.key_at p.found in
    record {
      keys = put-keys p.found put refl refl c.requires.keys c.count_less.ensures.len;
      slots = put-slots p.found put p.at c.requires.keys p.key_at.within p.key_at.read
          ∙ with_slot-set _ p.at p.name (recounted (λ n. n - 1)) _ c.requires.rise at
          ∙ ap (λ o. without_child o (slots_in c.args.slab.now c.args.order.now.list)) (sym p.is);
      capacity = c.count_less.ensures.capacity;
    }

pub returns-in-None-clause-slots : goal.returns-in-None-clause-slots
returns-in-None-clause-slots g c = rw (no-parent-key c.args.slab.now c.args.order.now.list c.args.parent c.args.above c.in-None.is c.requires.above) (sym (with_slot-none (slots_in c.args.slab.now c.args.order.now.list) (recounted (λ n. n - 1))))
