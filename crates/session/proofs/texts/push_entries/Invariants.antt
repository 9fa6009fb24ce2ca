-- The text of a TABLE line (`texts::push_entries`): at each turn, the text so far and the entries still to come make
-- the whole line.
use Rattle.session.proofs.Common.{◌≡◌, ◌+◌, ◌*◌, ◌≤◌, ◌++◌, drop, length, entries_text}
use Rattle.session.proofs.texts.push_entries.Given as goal

abbrev pub invariant-loop-bound : goal.invariant-loop-bound
invariant-loop-bound l =
    (l.text.items ++ entries_text (drop l.bound-index l.bounds) ≡ l.initial.text.items ++ entries_text l.bounds) × (length l.text.items ≤ 26 + 17 * l.bound-index)
