-- A segment of a stack is filled (`chain::fill`): the words stand at its front, and behind them what was there.
use Rattle.cactus_stack.proofs.Common.{◌≡◌, length, arith, take-length}
use Rattle.cactus_stack.proofs.chain.fill.Goals as goal

pub returns : goal.returns
returns c =
    let all : c.loop-i.i ≡ length c.args.words.now = omega arith in
    let written = rw (all, take-length) at c.loop-i.invariant in
    written
