-- The book of a site's customers says why a session isn't raised (`book::why_no_raise`): the first of its tests, in
-- their order, that isn't passed.
use Rattle.site_book.proofs.Common.{◌≡◌, false, refl, ap, sym, ◌∙◌, Grant, Own, Network, Guests, network_of, used, grants_without, is_no_raise, why_beyond}
use Rattle.site_book.proofs.BookLemmas.{raise-is, found-held, removed-list}
use Rattle.site_book.proofs.book.why_no_raise.Goals as goal

pub returns : goal.returns
returns c =
    let gs = c.args.grants.now in
    let held = c.index-grants-place.result in
    let found = found-held gs gs c.args.who c.args.session _ refl c.place_of-place.ensures.place held c.if-place-grants.false c.index-grants-place.is in
    let low : is_no_raise held.ask c.args.ask ≡ false = ap (λ (h : Grant). is_no_raise h.ask c.args.ask) c.index-grants-place.is ∙ (sym c.is_lower.ensures ∙ c.if-is_lower.false) in
    let others = removed-list gs gs c.args.who c.args.session _ refl c.place_of-place.ensures.place c.if-place-grants.false in
    let own = c.used_besides-own.ensures.value ∙ ap (used (Own c.args.who)) others in
    let network : c.used_besides-network.result ≡ used (Network (network_of c.args.who)) (grants_without c.args.who c.args.session gs) = c.used_besides-network.ensures.value ∙ (λ i. used (Network (c.network.ensures i)) (others i)) in
    let guests = c.used_besides-guests.ensures.value ∙ ap (used Guests) others in
    c.why_beyond.ensures ∙ ((λ i. why_beyond c.args.plan.now c.args.who c.args.ask (own i) (network i) (guests i)) ∙ raise-is c.args.plan.now c.args.who c.args.session c.args.ask gs held false found low)
