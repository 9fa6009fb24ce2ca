-- Representation: the types of the code of a site's sessions as data.
use Rattle.std.specs.Option.{option_copied}
use Rattle.session.specs.Views.{request_seen}
use Rattle.site_office.specs.declared.requests.SiteRequest.{SiteRequest as Asked}
use Rattle.site_office.specs.declared.requests.SiteRequest.TheVariants.{Greets as greets, Raises as raises, Informs as informs, Pings as pings, Plain as plain}
use Rattle.site_office.specs.Lines.{SiteRequest, Greets, Raises, Informs, Pings, Plain}

-- what a line of a site's session asks for, as the contracts see it, from the type of the code
abbrev pub asked_seen : Asked → SiteRequest
asked_seen (greets token quota) = Greets (option_copied token) quota
asked_seen (raises quota) = Raises quota
asked_seen informs = Informs
asked_seen pings = Pings
asked_seen (plain asked) = Plain (request_seen asked)
