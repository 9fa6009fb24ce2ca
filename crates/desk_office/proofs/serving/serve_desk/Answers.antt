-- A server's session is served at its desk (`serve_desk`): what holds of it with the history given back holds of it
-- without.
use Rattle.desk_office.proofs.serving.serve_desk.Goals as goal

pub returns-clause-lines : goal.returns-clause-lines
returns-clause-lines g c = let seen = c.serve_desk_seen-result.ensures in record { asks = seen.asks; session = seen.session; dones = seen.dones }

pub returns-clause-seen : goal.returns-clause-seen
returns-clause-seen g c = (_, c.serve_desk_seen-result.ensures)
