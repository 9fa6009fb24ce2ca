-- Representation: the parts of the core's store, as its contracts see them.
use Rattle.sched_store.specs.declared.store.Store.TheInside.{Inside}
use Rattle.sched_store.specs.Parts.{Parts}

-- the fields of a store but for the allocator
abbrev pub parts_of : {A : Type 0} → Inside A → Parts
parts_of s = record { nodes = s.stack; book = s.book; trees = s.table; job_lists = s.job_lists; places = s.places; newest = s.newest }
