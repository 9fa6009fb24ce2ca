-- Meaning: what comes of one who asks a site for a session, and who has to end for another plan.
use Rattle.std.specs.Prelude.{ℕ, List, [], ◌∷◌, ◌++◌, Bool, ◌&&◌, is_none, Option, Some, None, if◌then◌else◌}
use Rattle.tenant_quota.specs.Reserves.{ReserveOf}
use Rattle.site_book.specs.declared.held.Grant.{Grant}
use Rattle.site_book.specs.declared.refusal.BookRefusal.{BookRefusal}
use Rattle.site_book.specs.declared.refusal.BookRefusal.TheVariants.{OverGuests}
use Rattle.site_book.specs.declared.who.Who.{Who}
use Rattle.site_book.specs.Plans.{PlanOf}
use Rattle.site_book.specs.Books.{why_over}
use Rattle.site_book.specs.declared.coming.Comer.{Comer}
use Rattle.site_book.specs.declared.coming.Coming.{Coming}
use Rattle.site_book.specs.declared.coming.Coming.TheVariants.{Enters, Waits, Ends, Refused}
use Rattle.site_book.specs.declared.present.Leaver.TheVariants.{Told as those_told, Idle as those_idle}
use Rattle.site_book.specs.declared.present.Present.{Present}
use Rattle.site_book.specs.declared.present.Told.TheVariants.{ByPlan}
use Rattle.site_book.specs.Rolls.{first_told, remaining, idlest}

-- what comes of one who asks for a session and whom the book refuses: the idlest guest is to end for it; where there
-- is no idle guest, it is refused by this
abbrev pub ends_or : BookRefusal → Option Present → Coming
ends_or refusal None = Refused refusal
ends_or refusal (Some present) = Ends present.session refusal

-- what comes of one whom the book refuses since all guests together have too much: the idlest guest is to end, where
-- there would be room once all idle ones have gone; else it is refused
abbrev pub unless_idle : BookRefusal → Option BookRefusal → Option Present → Coming
unless_idle OverGuests None idle = ends_or OverGuests idle
unless_idle refusal why idle = Refused refusal

-- what comes of one whom the book refuses: it waits, where there would be room once those have gone who were told to
-- end; else it is as `unless_idle` says
abbrev pub if_refused : BookRefusal → Option BookRefusal → Option BookRefusal → Option Present → Coming
if_refused refusal None why idle = Waits refusal
if_refused refusal (Some staying) why idle = unless_idle refusal why idle

-- what comes of one who asks for a session: it enters where the book has no refusal; else it waits for those who
-- leave, an idle guest is to end, or it is refused
abbrev pub by_book : Option BookRefusal → Option BookRefusal → Option BookRefusal → Option Present → Coming
by_book None staying why idle = Enters
by_book (Some refusal) staying why idle = if_refused refusal staying why idle

-- one who asks for a session with this reservation at this time, where a guest may be silent for so many milliseconds
abbrev pub comer_of : Who → ReserveOf → ℕ → ℕ → Comer
comer_of who ask at most = record { who = who; ask = ask; at = at; most = most }

-- what comes of one who asks for a session: it enters where the book allows it; it waits for those who were told to end, where they leave
-- room; where guests have too much and idle ones would leave room, the idlest is to end; or else it is refused
abbrev pub coming : PlanOf → List Grant → List Present → Comer → Coming
coming plan grants roll comer =
    by_book (why_over plan comer.who comer.ask grants) (why_over plan comer.who comer.ask (remaining those_told grants roll))
    (why_over plan comer.who comer.ask (remaining (those_idle comer.at comer.most) grants roll)) (idlest comer.at comer.most roll)

-- whether a session stays under another plan, where these grants before it stay: it wasn't told to end, and the plan
-- allows it beside them
abbrev pub stays : PlanOf → List Grant → Grant → Present → Bool
stays plan before held present = is_none present.told && is_none (why_over plan held.who held.ask before)

-- a session that was told to end for another plan, if it wasn't told before
abbrev pub told_to_end : Present → Present
told_to_end present = record present { told = first_told present.told ByPlan }

-- the grants that stay under another plan, and one more where its session stays too
abbrev pub with_staying : Bool → List Grant → Grant → List Grant
with_staying stays before held = if stays then before ++ held ∷ [] else before

-- the entry of a session, told to end unless it stays under another plan
abbrev pub told_unless : Bool → Present → Present
told_unless stays present = if stays then present else told_to_end present

-- the roll under another plan: those sessions stay, in the order in which they came, that the plan allows beside the
-- ones before them that stay; the others are told to end
abbrev pub told_by : PlanOf → List Grant → List Grant → List Present → List Present
told_by plan before [] roll = roll
told_by plan before (held ∷ grants) [] = []
told_by plan before (held ∷ grants) (present ∷ roll) =
    told_unless (stays plan before held present) present ∷ told_by plan (with_staying (stays plan before held present) before held) grants roll
