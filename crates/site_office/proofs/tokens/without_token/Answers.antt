-- A site's session drops the token of a line (`tokens::without_token`): the token and the space before it are no longer
-- than the line, so what is cut off is there.
use Rattle.site_office.proofs.Common.{◌<◌, length, arith}
use Rattle.site_office.proofs.TokenLemmas.{token-short}
use Rattle.site_office.proofs.tokens.without_token.Goals as goal

pub overflow_sub-result : goal.overflow_sub-result
overflow_sub-result c =
    let short : length c.in-Some.token.now < length c.args.line.now = token-short c.args.line.now c.in-Some.token.now c.in-Some.ensures in
    omega arith

pub slice_bounds-result-count : goal.slice_bounds-result-count
slice_bounds-result-count c =
    let short : length c.in-Some.token.now < length c.args.line.now = token-short c.args.line.now c.in-Some.token.now c.in-Some.ensures in
    omega arith
