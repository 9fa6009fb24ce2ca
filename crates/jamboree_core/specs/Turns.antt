-- Meaning: what makes sixteen steps a node suffice for a search: a frame waits only for a child, as each choice that
-- is searched has one.
use Rattle.std.specs.Prelude.{ℕ, ◌==◌, List, if◌then◌else◌}
use Rattle.jamboree_rules.specs.Frames.{phase_new}
use Rattle.jamboree_rules.specs.Places.{frame_of}

-- the steps that a frame's words ask for beside those of its state: two where it hasn't begun, to begin with or to be computed
abbrev pub extra_turns : List ℕ → ℕ
extra_turns words = if (frame_of words).phase == phase_new then 2 else 0
