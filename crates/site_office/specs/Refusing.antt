-- Meaning: how HELLO and RESERVE of a site's session are refused, by why the desk turned away; and how LIVE is
-- answered.
use Rattle.std.specs.Prelude.{ℕ, List, [], ◌∷◌, Result, Ok, Err}
use Rattle.session.specs.declared.standings.Live.{Live}
use Rattle.site_desk.specs.declared.turned.Turned.{Turned}
use Rattle.site_desk.specs.declared.turned.Turned.TheVariants.{ByBook, OldTenant, OutOfMemory}
use Rattle.sched_rules.specs.declared.refusal.Refusal.{Refusal}
use Rattle.sched_rules.specs.declared.refusal.Refusal.TheVariants.{Full, NoTenant, Lower, OldTenant as no_number, OutOfMemory as no_memory}
use Rattle.site_book.specs.declared.refusal.BookRefusal.TheVariants.{OverBudget, OverNetwork, OverGuests, Gone, Lower as lower, Unfit, Beyond}

-- the refusal that answers HELLO, by why the desk turned the customer away: 14 where a budget has no room
abbrev pub comer_refusal : Turned → Refusal
comer_refusal (ByBook refusal) = Full
comer_refusal OldTenant = no_number
comer_refusal OutOfMemory = no_memory

-- the refusal that answers RESERVE, by why the desk turned it away: 1 where the session isn't there, 20 where it is no
-- raise, 14 where a budget has no room, 19 for want of memory
abbrev pub raise_refusal : Turned → Refusal
raise_refusal (ByBook Gone) = NoTenant
raise_refusal (ByBook lower) = Lower
raise_refusal (ByBook OverBudget) = Full
raise_refusal (ByBook OverNetwork) = Full
raise_refusal (ByBook OverGuests) = Full
raise_refusal (ByBook Unfit) = Full
raise_refusal (ByBook Beyond) = Full
raise_refusal OldTenant = no_memory
raise_refusal OutOfMemory = no_memory

-- the refusals of HELLO where no tenant is there
abbrev pub comer_refusals : List Refusal
comer_refusals = Full ∷ no_number ∷ no_memory ∷ []

-- how many frames and words the desk counts, as a session tells it; a refusal stays as it is
abbrev pub live_answer : Result (ℕ × ℕ) Refusal → Result Live Refusal
live_answer (Ok counts) = Ok (record { frames = counts.0; words = counts.1 })
live_answer (Err refusal) = Err refusal
