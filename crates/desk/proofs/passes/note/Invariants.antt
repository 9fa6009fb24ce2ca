-- The passes by which threads share a desk's history (`passes::note`): the step that its note stands for.
use mathlib.Core.Option.{some}
use Rattle.desk.proofs.passes.note.Given as goal

abbrev pub ghosts-note_as : goal.ghosts-note_as
ghosts-note_as g a = record { step = some a._step.now }
