-- Meaning: the Jamboree search as a procedure of the core: five functions of the words shown and of the values passed.
use Rattle.std.specs.Prelude.{ℕ}
use Rattle.sched_rules.specs.Functions.{Functions}
use Rattle.jamboree_rules.specs.declared.leaf.Leaf.{Leaf}
use Rattle.jamboree_rules.specs.declared.leaf.LeafAnswer.{LeafAnswer}
use Rattle.jamboree_rules.specs.Acts.{next_act, inlet_act}
use Rattle.jamboree_rules.specs.Leaves.{leaf_in, leaf_of_answer, same_leaf, accepts}

-- Jamboree's functions, where frames of at most this depth (the grain) are searched by one worker
abbrev pub jamboree : ℕ → Functions Leaf LeafAnswer
jamboree grain = record { next = next_act grain; inlet = inlet_act; input = leaf_in; asked = leaf_of_answer; accept = accepts; same = same_leaf }
