-- A line is split at its first space (`words::split_at_space`): at each turn, no byte passed so far is a space.
use Rattle.std.proofs.Common.{◌≡◌, take, drop}
use Rattle.protocol.specs.Words.{split_at_space}
use Rattle.protocol.proofs.QuestionLemmas.{behind}
use Rattle.protocol.proofs.words.split_at_space.Given as goal

abbrev pub invariant-loop-i : goal.invariant-loop-i
invariant-loop-i l = behind (take l.i l.line) (split_at_space (drop l.i l.line)) ≡ split_at_space l.line
