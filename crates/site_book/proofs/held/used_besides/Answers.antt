-- The book of a site's customers sums up what others have (`held::used_besides`): the grant at the place is one of the
-- part, or it isn't.
use Rattle.site_book.proofs.Common.{sym, ◌∙◌}
use Rattle.site_book.proofs.BookLemmas.{own-within, own-less, other-same}
use Rattle.site_book.proofs.held.used_besides.Goals as goal

pub less-requires : goal.less-requires
less-requires c =
    own-within c.args.part _ _ _ _ c.requires.there c.index-grants-place.is c.used_in-used.ensures.value _ (sym c.has.ensures ∙ c.if-has.true) c.with_one.ensures.value

pub returns-then-has-clause-value : goal.returns-then-has-clause-value
returns-then-has-clause-value c =
    own-less c.args.part _ _ _ _ c.requires.there c.index-grants-place.is c.used_in-used.ensures.value _ _ (sym c.has.ensures ∙ c.if-has.true) c.with_one.ensures.value c.less.ensures

pub returns-else-has-clause-value : goal.returns-else-has-clause-value
returns-else-has-clause-value c =
    other-same c.args.part _ _ _ _ c.requires.there c.index-grants-place.is c.used_in-used.ensures.value (sym c.has.ensures ∙ c.if-has.false)
