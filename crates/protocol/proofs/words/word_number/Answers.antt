-- A number in a line's word (`words::word_number`): seven digits and one more stay in 32 bits.
use Rattle.std.proofs.Common.{arith}
use Rattle.protocol.proofs.QuestionLemmas.{seven-digits-fit}
use Rattle.protocol.proofs.words.word_number.Goals as goal

pub overflow_mul-number : goal.overflow_mul-number
overflow_mul-number c =
    let small = seven-digits-fit c.loop-byte.number c.loop-byte.byte-index c.loop-byte.invariant.1 (omega arith) in
    omega (arith, small)

pub overflow_add-number : goal.overflow_add-number
overflow_add-number c =
    let small = seven-digits-fit c.loop-byte.number c.loop-byte.byte-index c.loop-byte.invariant.1 (omega arith) in
    omega (arith, small)
