-- The book of a site's customers refuses nothing exactly where everything that is needed is left.
use Rattle.site_book.proofs.Common.{◌≡◌, ℕ, true, false, List, Some, None, refl, arith, ltb-false, le-ltb, eqb-false, eq-eqb, ne_eqb, or_parts, or_from, and_right, and_parts, and_from, ReserveOf, IsAbove, Grant, Group, Own, Network, Guests, All, Who, same_who, is_guest, network_of, of_one, plus, IsAmountWithin, PlanOf, limit_of, is_in, used, grants_without, is_no_raise, is_beyond_part, why_over, why_no_raise, HasBudgetFor, MayGrow}
use Rattle.site_book.proofs.AmountLemmas.{within-test, test-within}
use Rattle.site_book.proofs.NameLemmas.{same-is, is-same, in-own}

-- the parts that a plan limits by budgets
abbrev pub IsPart : Group → Type 0
IsPart (Own who) = Unit {0}
IsPart (Network who) = Unit {0}
IsPart Guests = Unit {0}
IsPart All = ⊥

-- a guest is one of its wider network
pub in-network : (who : Who) → is_guest who ≡ true → is_in (Network (network_of who)) who ≡ true
in-network who guest = and_from _ _ guest (is-same (network_of who))

-- a session isn't refused exactly where each budget has room for it
module _ (plan : PlanOf) (who : Who) (ask : ReserveOf) (gs : List Grant) where
  within-part : (part : Group) → is_beyond_part plan part who ask (used part gs) ≡ false → is_in part who ≡ true → IsAmountWithin (plus (of_one ask) (used part gs)) (limit_of plan part)
  within-part part nay own = within-test _ _ (grind arith)

  pub allowed : why_over plan who ask gs ≡ None → HasBudgetFor plan who ask gs
  allowed none =
      let own_not : is_beyond_part plan (Own who) who ask (used (Own who) gs) ≡ false = grind arith in
      let network_not : is_beyond_part plan (Network (network_of who)) who ask (used (Network (network_of who)) gs) ≡ false = grind arith in
      let guests_not : is_beyond_part plan Guests who ask (used Guests gs) ≡ false = grind arith in
      record {
        own = within-part (Own who) own_not (in-own who);
        network = λ guest. within-part (Network (network_of who)) network_not (in-network who guest);
        guests = within-part Guests guests_not;
      }

  part-beyond : (part : Group) → (is_in part who ≡ true → IsAmountWithin (plus (of_one ask) (used part gs)) (limit_of plan part)) → is_beyond_part plan part who ask (used part gs) ≡ false
  part-beyond part so = grind (arith, test-within)

  pub allowed-to : HasBudgetFor plan who ask gs → why_over plan who ask gs ≡ None
  allowed-to has =
      let network = part-beyond (Network (network_of who)) (λ own. has.network (and_parts (is_guest who) (same_who (network_of who) (network_of who)) own).0) in
      rw (part-beyond (Own who) (λ _. has.own), network, part-beyond Guests has.guests) refl

  -- so of each part of which the customer is one
  pub passes : HasBudgetFor plan who ask gs → (part : Group) → IsPart part → is_in part who ≡ true → IsAmountWithin (plus (of_one ask) (used part gs)) (limit_of plan part)
  passes has part is own = grind (arith, same-is, and_parts)

-- a raise that asks for more is one, and no other
module _ (now ask : ReserveOf) where
  pub more-from : is_no_raise now ask ≡ false → IsAbove now ask
  more-from nay = grind (arith, or_parts, ltb-false, eq-eqb, eqb-false)

  more-to : IsAbove now ask → is_no_raise now ask ≡ false
  more-to more = grind (arith, or_from, le-ltb, ne_eqb, and_right)

module _ (plan : PlanOf) (who : Who) (session : ℕ) (ask : ReserveOf) (gs : List Grant) (held : Grant) where
  -- what a raise that isn't refused has passed
  pub grow-from : why_no_raise plan who session ask gs (Some held) ≡ None → MayGrow plan who session ask gs held
  grow-from none = grind (arith, more-from, allowed)

  pub grow-to : MayGrow plan who session ask gs held → why_no_raise plan who session ask gs (Some held) ≡ None
  grow-to may = rw (more-to held.ask ask may.more) (allowed-to plan who ask (grants_without who session gs) may.left)
