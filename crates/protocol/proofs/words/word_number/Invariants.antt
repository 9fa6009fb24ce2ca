-- A number in a line's word (`words::word_number`): at each turn, the number is that of the digits passed so far, and
-- the digits left decide the rest.
use Rattle.std.proofs.Common.{◌≡◌, ◌<◌, ◌≤◌, ◌^◌, drop, length}
use Rattle.std.specs.List.{list_all}
use Rattle.std.specs.Char.{is_ascii_digit}
use Rattle.protocol.specs.Words.{number_after}
use Rattle.protocol.proofs.words.word_number.Given as goal

abbrev pub invariant-loop-byte : goal.invariant-loop-byte
invariant-loop-byte l =
    (length l.word ≤ 8) × (l.number < 10 ^ l.byte-index) × (number_after l.number (drop l.byte-index l.word) ≡ number_after 0 l.word)
    × (list_all is_ascii_digit (drop l.byte-index l.word) ≡ list_all is_ascii_digit l.word)
