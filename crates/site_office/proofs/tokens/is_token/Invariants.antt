-- A site's session reads a token (`tokens::is_token`): at each turn, all bytes so far may stand in one, so the rest
-- decides.
use Rattle.std.proofs.Common.{◌≡◌, drop}
use Rattle.std.specs.List.{list_all}
use Rattle.site_office.specs.Tokens.{is_token_byte}
use Rattle.site_office.proofs.tokens.is_token.Given as goal

abbrev pub invariant-loop-byte : goal.invariant-loop-byte
invariant-loop-byte l =
    list_all is_token_byte (drop l.byte-index l.word) ≡ list_all is_token_byte l.word
