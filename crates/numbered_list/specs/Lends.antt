-- Meaning: what a list of things by number ends as, where a `&mut` to one of its things is returned.
use Rattle.std.specs.Borrow.{Lends, Fml, RattleType, MutBor}
use Rattle.std.specs.declared.alloc.Allocator.{Ghosts}
use Rattle.numbered_list.specs.declared.list.NumberedList.{NumberedList}
use Rattle.numbered_list.specs.contracts.list.NumberedList.{the_row}

-- once the loan ends, the list is what the last thing that was written makes of it (`changed`)
abbrev pub lends_thing : (T A : RattleType) → Ghosts A.Denot → MutBor (NumberedList T.Denot A.Denot) → MutBor T.Denot → (T.Denot → NumberedList T.Denot A.Denot) → Fml
lends_thing T A alloc list thing changed = Lends (the_row T A alloc) T list thing changed
