-- The passes by which threads share a desk's history (`passes::note_as`): the table allows that a maker's step is noted
-- at the history's end.
use Rattle.desk.proofs.Keeping.{notes-if}
use Rattle.desk.proofs.passes.note_as.Goals as goal

pub load-requires : goal.load-requires
load-requires g c = (c.requires.table.0, c.requires.table.1, notes-if _ _ _ _ _ c.requires.keeps.0 c.requires.keeps.1)
