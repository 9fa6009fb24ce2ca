-- A frame of the frame table gets a child (`slot_store::enroll`): the count in its slot goes up by one, the keys stay
-- right, and the root that is returned is that frame's.
use Rattle.frame_table.proofs.Forest.{count-at, slot_at-found, with_slot-set}
use Rattle.frame_table.proofs.Keys.{knows-key, put-keys, put-like, put-slots, seen-at}
use Rattle.frame_table.proofs.SlotStores.{knows-like}
use Rattle.frame_table.specs.Slots.{recounted}
use Rattle.std.proofs.Common.{Some, refl, ◌+◌, ◌∙◌}
use Rattle.frame_table.proofs.slot_store.enroll.Goals as goal

pub count_more-requires-clause-few : goal.count_more-requires-clause-few
count_more-requires-clause-few g c kept found =
    let at = seen-at c.requires.keys c.requires.named.1 found in
    count-at _ _ _ _ c.requires.few at.within at.read

pub returns : goal.returns
returns g c =
    let k = c.requires.named in
    let put = c.count_more.ensures.put _ c.index.ensures in
    let at = seen-at c.requires.keys k.1 c.index.ensures in
    record {
      keys = put-keys c.index.ensures put refl refl c.requires.keys c.count_more.ensures.len;
      slots = put-slots c.index.ensures put k.0 c.requires.keys k.1.within k.1.read ∙ with_slot-set _ k.0 c.args.name (recounted (λ n. n + 1)) _ c.requires.rise at;
      root = rw (slot_at-found _ _ _ _ c.requires.rise at) refl;
      above = knows-like c.args.slab.now c.count_more.new.slab c.args.order.now.list (Some c.args.name) (Some c.args.key) (put-like c.index.ensures put refl refl) (knows-key c.requires.keys k.1);
      capacity = c.count_more.ensures.capacity;
    }
