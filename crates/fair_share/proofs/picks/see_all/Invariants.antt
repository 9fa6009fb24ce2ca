-- The next pick among tenants who share a hall (`picks::see_all`): at each turn, the tenants passed so far are noted
-- as ready or not.
use Rattle.fair_share.proofs.Common.{◌≡◌, seen_up_to}
use Rattle.fair_share.proofs.picks.see_all.Given as goal

abbrev pub invariant-loop-place : goal.invariant-loop-place
invariant-loop-place g l = l.shares ≡ seen_up_to l.hall.shared l.place l.initial.shares
