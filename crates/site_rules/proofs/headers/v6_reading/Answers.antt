-- A proxy's header of an IPv6 connection is read (`headers::v6_reading`): the address is the one that stands in its
-- bytes.
use Rattle.std.proofs.Common.{◌-◌, length, take, drop, sym, arith}
use Rattle.site_rules.proofs.HeaderLemmas.{v6-long, part-all}
use Rattle.site_rules.proofs.headers.v6_reading.Goals as goal

pub returns : goal.returns
returns c =
    sym (v6-long c.args.body.now c.v6_address.result (take (length c.args.body.now - 36) (drop 36 c.args.body.now)) c.number_at.result (omega (arith, c.if-body-lt-V6_BYTES.false)) c.v6_address.ensures c.number_at.ensures (part-all 36 c.args.body.now))
