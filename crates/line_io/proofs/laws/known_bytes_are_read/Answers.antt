-- Of a reader whose bytes are known: its reads up to the end give all of them, so the law `known_bytes_are_read`.
use Rattle.line_io.proofs.Known.{known-read}
use Rattle.line_io.proofs.laws.known_bytes_are_read.Goals as goal

pub returns : goal.returns
returns g c = λ old new blocks bytes e p. known-read (λ s. g.R.Read.remaining s.reader) old blocks new bytes e p
