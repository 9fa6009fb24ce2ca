-- A site's desk tests whether a session stays (`locked_site::stays_in`): at each turn, no session passed so far has
-- the number and stays, so the rest decides.
use Rattle.site_desk.proofs.Common.{◌≡◌, drop, stays_in}
use Rattle.site_desk.proofs.locked_site.stays_in.Given as goal

-- those so far don't decide, so the rest does
abbrev pub invariant-loop-present : goal.invariant-loop-present
invariant-loop-present l = stays_in l.number (drop l.present-index l.roll) ≡ stays_in l.number l.roll
