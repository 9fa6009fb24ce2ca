-- A site's book looks for a session's grant (`held::place_of`): at each turn, no grant passed so far is the session's.
use Rattle.site_book.proofs.Common.{◌≡◌, ◌+◌, drop, grant_place}
use Rattle.site_book.proofs.held.place_of.Given as goal

-- none of those before is of the session
abbrev pub invariant-loop-place : goal.invariant-loop-place
invariant-loop-place l = l.place + grant_place l.who l.session (drop l.place l.grants) ≡ grant_place l.who l.session l.grants
