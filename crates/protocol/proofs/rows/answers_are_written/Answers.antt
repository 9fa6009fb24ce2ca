-- Rows of the texts of answers: a value, a pass, a finished game and a fault, computed byte by byte.
use Rattle.std.proofs.Common.{refl}
use Rattle.std.specs.Fmt.{digits}
use Rattle.protocol.proofs.rows.answers_are_written.Goals as goal

pub returns : goal.returns
unfolding digits
returns c = record { square = refl; last_square = refl; passed = refl; none = refl; counted = refl; fault = refl }
