-- A stack's sizes (`Stack::sizes_are_in_limits`): each open node has 1 to 128 words, as the stack keeps it so.
use Rattle.cactus_stack.proofs.Common.{arith}
use Rattle.cactus_stack.proofs.Steps.{kept-node}
use Rattle.cactus_stack.proofs.stack.Stack.sizes_are_in_limits.Goals as goal

pub returns : goal.returns
returns g c = record {
  some = λ n is_open. (let it = kept-node c.self.invariant.stored c.self.view_is n is_open in omega (arith, it.some, it.len));
  at_most = λ n is_open. (let it = kept-node c.self.invariant.stored c.self.view_is n is_open in omega (arith, it.sound.at_most, it.len));
}
