-- A use of the site's law on refusals (`who_has_no_room`): a refused customer or guest has no room even without those
-- who were told to end.
use Rattle.std.specs.Prelude.{[], ◌∷◌, Some, None, is_some, if◌then◌else◌, ◌≡◌}
use Rattle.std.proofs.Common.{ap, subst, sym}
use Rattle.site_book.specs.Books.{why_over}
use Rattle.site_book.specs.Rolls.{remaining}
use Rattle.site_book.specs.declared.held.Grant.{Grant}
use Rattle.site_book.specs.declared.present.Leaver.TheVariants.{Told as those_told}
use Rattle.site_book.specs.declared.present.Present.{Present}
use Rattle.site_book.specs.declared.present.Told.TheVariants.{ByPlan}
use Rattle.site_book.specs.declared.who.Who.TheVariants.{Named, V4, V6}
use Rattle.promise_uses.proofs.comings.who_has_no_room.Goals as goal

-- the only one who is there goes, where it was told to end
all-gone : (held : Grant) (present : Present) → present.told ≡ Some ByPlan → remaining those_told (held ∷ []) (present ∷ []) ≡ []
all-gone held present told = ap (λ why. if is_some why then [] else held ∷ []) told

pub returns : goal.returns
returns c =
    let law = c.who_is_refused_has_no_room.ensures in
    record {
      now = λ number plan grants roll ask now most refusal refused. law.now plan grants roll (Named number) ask now most refusal refused;
      guest_now = λ network plan grants roll ask now most refusal refused. law.now plan grants roll (V6 network) ask now most refusal refused;
      then = λ number plan grants roll ask now most refusal refused. law.then plan grants roll (Named number) ask now most refusal refused;
      guest_then = λ address plan grants roll ask now most refusal refused. law.then plan grants roll (V4 address) ask now most refusal refused;
      empty = λ number plan held present ask now most refusal refused told none.
          law.then plan (held ∷ []) (present ∷ []) (Named number) ask now most refusal refused
          (subst (λ grants. why_over plan (Named number) ask grants ≡ None) (sym (all-gone held present told)) none);
      idle = λ network plan grants roll ask now most refused. law.idle plan grants roll (V6 network) ask now most refused;
      idle_address = λ address plan grants roll ask now most refused. law.idle plan grants roll (V4 address) ask now most refused;
    }
