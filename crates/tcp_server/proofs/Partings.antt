-- What a tenant's seat knew when it left.
use Rattle.std.proofs.Common.{refl, Option, Some, None}
use Rattle.desk.specs.Traces.{Known}
use Rattle.desk.proofs.Prefixes.{prefix-self}
use Rattle.tcp_server.specs.Connections.{KnowsMore}

-- it goes on from itself
pub goes-on-self : {S : Type 0} (left : Option (Known S)) → KnowsMore left left
goes-on-self None = tt
goes-on-self (Some left) = (prefix-self left.seen, refl, refl)
