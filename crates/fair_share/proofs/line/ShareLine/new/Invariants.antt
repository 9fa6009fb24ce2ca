-- A new line of those who share (`ShareLine::new`): at each turn, the places made so far are free, and there is room
-- for 64.
use Rattle.fair_share.proofs.Common.{◌≡◌, ◌≤◌, replicate, vec_capacity, free_account}
use Rattle.fair_share.proofs.line.ShareLine.new.Given as goal

abbrev pub invariant-loop-place : goal.invariant-loop-place
invariant-loop-place l = record { items : l.accounts.items ≡ replicate l._place free_account; room : 64 ≤ vec_capacity l.accounts; names : l.names.items ≡ replicate l._place 0; name_room : 64 ≤ vec_capacity l.names }
