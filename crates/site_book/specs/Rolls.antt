-- Meaning: which sessions are at a site's hall, how long each has said nothing, and which is told to end.
use Rattle.std.specs.Prelude.{ℕ, ◌-◌, ◌==◌, Bool, false, not, ◌&&◌, ◌||◌, nat_lt, List, [], ◌∷◌, map, is_some, is_none, Option, Some, None, if◌then◌else◌}
use Rattle.site_book.specs.declared.held.Grant.{Grant}
use Rattle.site_book.specs.declared.who.Who.{Who}
use Rattle.site_book.specs.Names.{same_who, is_guest}
use Rattle.site_book.specs.Grants.{is_in}
use Rattle.site_book.specs.Events.{Name}
use Rattle.site_book.specs.declared.present.Leaver.{Leaver}
use Rattle.site_book.specs.declared.present.Leaver.TheVariants.{Told as those_told, Idle as those_idle}
use Rattle.site_book.specs.declared.present.SessionMark.{SessionMark}
use Rattle.site_book.specs.declared.present.SessionMark.TheVariants.{Spoke, Waits, Told as told_to}
use Rattle.site_book.specs.declared.present.Present.{Present}
use Rattle.site_book.specs.declared.present.Told.{Told}
use Rattle.site_book.specs.declared.present.Whom.{Whom}
use Rattle.site_book.specs.declared.present.Whom.TheVariants.{One, Each}

-- the names of those who are there, in the order in which they came
abbrev pub names_present : List Present → List Name
names_present roll = map (λ present. (present.who, present.session)) roll

-- the entry of a session that has just come
abbrev pub newcomer : Who → ℕ → ℕ → Present
newcomer who session now = record { who = who; session = session; since = now; last = now; waits = false; told = None }

-- whether an entry of the roll is of this session of this customer
abbrev pub is_present_as : Who → ℕ → Present → Bool
is_present_as who session present = same_who who present.who && (session == present.session)

-- the roll without the first of this session
abbrev pub without_present : Who → ℕ → List Present → List Present
without_present who session [] = []
without_present who session (present ∷ roll) = if is_present_as who session present then roll else present ∷ without_present who session roll

-- the reason for which a session was told to end: the first that was noted stays
abbrev pub first_told : Option Told → Told → Option Told
first_told None why = Some why
first_told (Some told) why = Some told

-- a session's entry with this mark: its last line came now; it waits for a job from now on, or doesn't any more; or it
-- is told to end
abbrev pub marked : SessionMark → Present → Present
marked (Spoke now) present = record present { last = now }
marked (Waits waits now) present = record present { waits = waits; last = now }
marked (told_to why) present = record present { told = first_told present.told why }

-- whether a mark means this session: by its number, or as one of a part of the customers
abbrev pub is_meant : Whom → Present → Bool
is_meant (One session) present = session == present.session
is_meant (Each part) present = is_in part present.who

-- a session's entry with this mark, if the mark means it
abbrev pub marked_if : Whom → SessionMark → Present → Present
marked_if whom mark present = if is_meant whom present then marked mark present else present

-- the roll with this mark at the sessions that it means
abbrev pub marked_all : Whom → SessionMark → List Present → List Present
marked_all whom mark roll = map (marked_if whom mark) roll

-- whether an entry is of a guest's session that waits for no job, hasn't been told to end, and has said nothing for
-- longer than `most`
abbrev pub is_idle : ℕ → ℕ → Present → Bool
is_idle now most present = is_guest present.who && is_none present.told && not present.waits && nat_lt most (now - present.last)

-- whether a session goes: it was told to end; or, where idle ones go too, it is idle
abbrev pub goes : Leaver → Present → Bool
goes those_told present = is_some present.told
goes (those_idle now most) present = is_some present.told || is_idle now most present

-- the grants that stay when some sessions leave; the roll names the sessions of the grants in their order
abbrev pub remaining : Leaver → List Grant → List Present → List Grant
remaining leaver [] roll = []
remaining leaver (held ∷ grants) [] = held ∷ grants
remaining leaver (held ∷ grants) (present ∷ roll) = if goes leaver present then remaining leaver grants roll else held ∷ remaining leaver grants roll

-- of two sessions the one that has said nothing for longer; the first where it is the same
abbrev pub idler : Option Present → Option Present → Option Present
idler None next = next
idler (Some present) None = Some present
idler (Some present) (Some next) = if nat_lt next.last present.last then Some next else Some present

-- of the idle sessions the one that has said nothing for longest
abbrev pub idlest : ℕ → ℕ → List Present → Option Present
idlest now most [] = None
idlest now most (present ∷ roll) = if is_idle now most present then idler (Some present) (idlest now most roll) else idlest now most roll
