-- The words of one node of a stack (`Words::len`): their number is that of the node's words.
use Rattle.cactus_stack.proofs.Common.{sym}
use Rattle.cactus_stack.proofs.Content.{length-words_in}
use Rattle.cactus_stack.proofs.words.Words.len.Goals as goal

pub returns-clause-value : goal.returns-clause-value
returns-clause-value c =
    rw (← c.self.view_is) (sym (length-words_in c.self.invariant))
