-- Rows of a site's lines: PING, a HELLO with a token and a QUOTA, and which of them is answered beside the session.
use Rattle.site_office.proofs.Common.{refl, digits, inl, inr, [], ReserveOf, Hello, Welcome, Made}
use Rattle.site_office.proofs.rows.what_is_beside_a_session.Goals as goal

pub returns-clause-mixed : goal.returns-clause-mixed
unfolding digits
returns-clause-mixed c = let quota : ReserveOf = record { segments = 4; nodes = 8 } in inl (refl, inr ([], Made (Hello quota) (Welcome quota), [], tt, refl, refl, refl, (refl, refl)))
