-- Rows of a site's lines: the answer to INFO, computed byte by byte from its definition.
use Rattle.site_office.proofs.Common.{refl, digits}
use Rattle.site_office.proofs.rows.what_info_says.Goals as goal

pub returns : goal.returns
unfolding digits
returns c = refl
