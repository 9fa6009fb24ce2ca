-- What a call of the office of a site's session is, by what the desk's call has done.
use Rattle.site_office.proofs.Common.{live_answer, [], ◌∷◌, Contains, IfErr, MatchResult, map, Left, Tenant, NoTenant, refusal_number, left, tenant_in, core_at, lone_tenant, IsLook, IsTrueTo, Took, LeaveStep, left_in_core, live_in_core, found_or_no_tenant, live_in, seeing, refused-by, ask_of, asks_of, KeepsAsks, AskQuota, AskLive, Leave, Rest, Alive, Gone, OfficeOf, SiteOfficeOf, IsTurnOf, History, length, sum_by, ◌≡◌, ℕ, true, refl, sym, ap, subst, ◌∙◌, inl, inr, arith, Option, Some, None, Result, Ok, Err, is_some, option_map, ReserveOf, Refusal, HallOutOfMemory, HallOf, SeatOf, Call, Reserve, OfficeReply, Reserved, reply_of, seated_after, with_seat, IsTurnAt, reserve-turn, RaiseTurned, ByBook, NumbersOut, NoMemory, IsRaiseTold, SiteSeatOf, SiteTraceOf, at_site, office_of, IsSiteTurn, IsTracedAt, place_of, raise_refusal}

-- how a raise is answered
abbrev pub raised_answer : Result (Unit {0}) RaiseTurned → Result (Unit {0}) Refusal
raised_answer (Ok done) = Ok done
raised_answer (Err turned) = Err (raise_refusal turned)

-- a seat is at the office's desk
pub placed : (at : ℕ) (seat : Option SiteSeatOf) (here : SiteSeatOf) → seat ≡ Some here → place_of at seat ≡ at → here.at ≡ at
placed at seat here is h = ap (place_of at) (sym is) ∙ h

-- its seat there, as at any desk
pub seat-was : (seat : Option SiteSeatOf) (here : SiteSeatOf) → seat ≡ Some here → option_map (λ (s : SiteSeatOf). s.seat) seat ≡ Some here.seat
seat-was seat here is = ap (option_map (λ (s : SiteSeatOf). s.seat)) is

-- a tenant stays by any reply to a call of this kind
pub stays-of : {X : Type 0} (said : X → OfficeReply) (answer : Result X Refusal) → ((x : X) → seated_after true (said x) ≡ true) → seated_after true (reply_of said answer) ≡ true
stays-of said (Ok x) h = h x
stays-of said (Err refusal) h = refl

same-knew : (at : ℕ) (seat : Option SiteSeatOf) (knew : Option SiteTraceOf) (here : SiteSeatOf) → seat ≡ Some here → IsTracedAt at (is_some seat) knew knew
same-knew at seat knew here is = subst (λ (o : Option SiteSeatOf). IsTracedAt at (is_some o) knew knew) (sym is) (inl refl)

-- a call by which the tenant stays
pub stayed : (begun : ℕ → HallOf) (at : ℕ) (seat : Option SiteSeatOf) (knew : Option SiteTraceOf) (before after : SiteSeatOf) → seat ≡ Some before → (call : Call) (reply : OfficeReply) → seated_after true reply ≡ true →
    IsTurnAt (begun at) (office_of (at_site at seat knew)) call reply (with_seat after.seat (office_of (at_site at seat knew))) → IsSiteTurn begun (at_site at seat knew) call reply (at_site at (Some after) knew)
stayed begun at seat knew before after is call reply stays turn =
    record { place = refl; knew = same-knew at seat knew before is; there = sym stays ∙ ap (λ (o : Option SiteSeatOf). seated_after (is_some o) reply) (sym is); came = inl turn }

-- a call after which what was said is noted
pub heard : (begun : ℕ → HallOf) (at at' : ℕ) (seat seat' : Option SiteSeatOf) (knew knew' : Option SiteTraceOf) (call : Call) (reply : OfficeReply) (to : SiteOfficeOf) → at' ≡ at → seat' ≡ seat → knew' ≡ knew → IsSiteTurn begun (at_site at' seat' knew') call reply to →
    IsSiteTurn begun (at_site at seat knew) call reply to
heard begun at at' seat seat' knew knew' call reply to e f h t = subst (λ (o : SiteOfficeOf). IsSiteTurn begun o call reply to) (λ i. at_site (e i) (f i) (h i)) t

-- the same turn by equal names of its reply and its end
pub noted : (begun : ℕ → HallOf) (from : SiteOfficeOf) (call : Call) (reply reply' : OfficeReply) (at at' : ℕ) (seat seat' : Option SiteSeatOf) (knew knew' : Option SiteTraceOf) → reply' ≡ reply → at' ≡ at → seat' ≡ seat → knew' ≡ knew → IsSiteTurn begun from call reply (at_site at seat knew) →
    IsSiteTurn begun from call reply' (at_site at' seat' knew')
noted begun from call reply reply' at at' seat seat' knew knew' e f h k t = subst (λ (z : OfficeReply × SiteOfficeOf). IsSiteTurn begun from call z.0 z.1) (λ i. (sym e i, at_site (sym f i) (sym h i) (sym k i))) t

-- a raise, where the book has what it had unless it was taken
pub raised : (begun : ℕ → HallOf) (at : ℕ) (seat : Option SiteSeatOf) (knew : Option SiteTraceOf) (before after : SiteSeatOf) → seat ≡ Some before → (quota : ReserveOf) (answer : Result (Unit {0}) RaiseTurned) → IsRaiseTold (begun at) before.seat quota answer after.seat →
    after ≡ record before { seat = after.seat; books = after.books } → (Entered : Unit {0} → Type 0) → MatchResult answer Entered (λ _. after.books ≡ before.books) →
    IsSiteTurn begun (at_site at seat knew) (Reserve quota) (reply_of (λ _. Reserved quota) (raised_answer answer)) (at_site at (Some after) knew)
raised begun at seat knew before after is quota (Ok done) told kept entered books =
    stayed begun at seat knew before after is (Reserve quota) (Reserved quota) refl (reserve-turn (begun at) (office_of (at_site at seat knew)) before.seat after.seat quota (Ok done) (seat-was seat before is) told.0 told.1 tt)
raised begun at seat knew before after is quota (Err (ByBook why)) told kept entered books =
    let same : after ≡ before = kept ∙ (λ i. record before { seat = told i; books = books i }) in
    record {
      place = refl;
      knew = same-knew at seat knew before is;
      there = ap (λ (o : Option SiteSeatOf). is_some o) (sym is);
      came = inr (ap (λ (o : Option SiteSeatOf). at_site at o knew) (ap (λ (s : SiteSeatOf). Some s) same ∙ sym is), (why, refl));
    }
raised begun at seat knew before after is quota (Err NumbersOut) told kept entered books = absurd told
raised begun at seat knew before after is quota (Err NoMemory) told kept entered books =
    let answer : Result (Unit {0}) Refusal = Err HallOutOfMemory in
    stayed begun at seat knew before after is (Reserve quota) (reply_of (λ _. Reserved quota) answer) refl (reserve-turn (begun at) (office_of (at_site at seat knew)) before.seat after.seat quota answer (seat-was seat before is) told.0 told.1 (3, omega arith, refl))

-- a call that looks
looked : (begun : HallOf) (from : OfficeOf) (before after : SeatOf) (call : Call) (reply : OfficeReply) → from.seat ≡ Some before → IsTurnOf begun (Some before) call reply from (with_seat after from) → KeepsAsks (map ask_of before.asked) call reply (map ask_of after.asked) → IsTurnAt begun from call reply (with_seat after from)
looked begun from before after call reply is one keeps = subst (λ (o : Option SeatOf). IsTurnOf begun o call reply from (with_seat after from) × KeepsAsks (asks_of o) call reply (map ask_of after.asked)) (sym is) (one, keeps)

no-tenant : (refusal : Refusal) → refusal ≡ NoTenant → Contains (1 ∷ []) (refusal_number refusal)
no-tenant refusal e = refused-by (NoTenant ∷ []) refusal (0, omega arith, sym e)

quota-keeps : (before after : SeatOf) (answer : Result Left Refusal) → after ≡ seeing after.known before → IfErr answer (λ refusal. refusal ≡ NoTenant) → KeepsAsks (map ask_of before.asked) AskQuota (reply_of Rest answer) (map ask_of after.asked)
quota-keeps before after (Ok rest) same refused = (ap (λ (s : SeatOf). map ask_of s.asked) same, tt, tt, refl)
quota-keeps before after (Err refusal) same refused = (ap (λ (s : SeatOf). map ask_of s.asked) same, tt, no-tenant refusal refused, tt)

pub quota-turn : (begun : HallOf) (from : OfficeOf) (before after : SeatOf) (answer : Result Left Refusal) → from.seat ≡ Some before → IsLook begun before after → answer ≡ found_or_no_tenant (left_in_core (core_at begun after.known.seen) after.tenant) → IfErr answer (λ refusal. refusal ≡ NoTenant) →
    IsTurnAt begun from AskQuota (reply_of Rest answer) (with_seat after from)
quota-turn begun from before after answer is look told refused =
    looked begun from before after AskQuota (reply_of Rest answer) is
    (after, refl, record { look = look; said = ap (reply_of Rest) told ∙ ap (λ (o : Option Tenant). reply_of Rest (found_or_no_tenant (option_map left o))) look.alone }) (quota-keeps before after answer look.kept refused)

-- what is counted of a tenant
abbrev counts_of : Tenant → ℕ × ℕ
counts_of tenant = (length tenant.frames, sum_by (λ frame. length frame.value) tenant.frames)

live-keeps : (before after : SeatOf) (answer : Result (ℕ × ℕ) Refusal) → after ≡ seeing after.known before → IfErr answer (λ refusal. refusal ≡ NoTenant) → KeepsAsks (map ask_of before.asked) AskLive (reply_of Alive (live_answer answer)) (map ask_of after.asked)
live-keeps before after (Ok rest) same refused = (ap (λ (s : SeatOf). map ask_of s.asked) same, tt, tt, refl)
live-keeps before after (Err refusal) same refused = (ap (λ (s : SeatOf). map ask_of s.asked) same, tt, no-tenant refusal refused, tt)

live-of : (begun : HallOf) (history : History) (number : ℕ) (tenant : Option Tenant) → tenant_in (core_at begun history).tenants number ≡ tenant → live_answer (found_or_no_tenant (live_in_core (core_at begun history) number)) ≡ found_or_no_tenant (option_map live_in tenant)
live-of begun history number None e = ap (λ (o : Option Tenant). live_answer (found_or_no_tenant (option_map counts_of o))) e
live-of begun history number (Some its) e = ap (λ (o : Option Tenant). live_answer (found_or_no_tenant (option_map counts_of o))) e

pub live-turn : (begun : HallOf) (from : OfficeOf) (before after : SeatOf) (answer : Result (ℕ × ℕ) Refusal) → from.seat ≡ Some before → IsLook begun before after → answer ≡ found_or_no_tenant (live_in_core (core_at begun after.known.seen) after.tenant) → IfErr answer (λ refusal. refusal ≡ NoTenant) →
    IsTurnAt begun from AskLive (reply_of Alive (live_answer answer)) (with_seat after from)
live-turn begun from before after answer is look told refused =
    looked begun from before after AskLive (reply_of Alive (live_answer answer)) is
    (after, refl, record { look = look; said = ap (λ a. reply_of Alive (live_answer a)) told ∙ ap (reply_of Alive) (live-of begun after.known.seen after.tenant (lone_tenant begun after.known.seen after.tenant) look.alone) }) (live-keeps before after answer look.kept refused)

-- the tenant leaves
pub left-turn : (begun : ℕ → HallOf) (at : ℕ) (seat : Option SiteSeatOf) (knew : Option SiteTraceOf) (here : SiteSeatOf) (trace : SiteTraceOf) → seat ≡ Some here → here.at ≡ at →
    (trace.at ≡ here.at) × Took here.seat.known (LeaveStep here.seat.tenant) trace.known × IsTrueTo (begun here.at) here.seat.tenant trace.known → IsSiteTurn begun (at_site at seat knew) Leave Gone (at_site at None (Some trace))
left-turn begun at seat knew here trace is own told =
    let from = office_of (at_site at seat knew) in
    let to = office_of (at_site at None (Some trace)) in
    record {
      place = refl;
      knew = subst (λ (o : Option SiteSeatOf). IsTracedAt at (is_some o) knew (Some trace)) (sym is) (inr (trace, refl, told.0 ∙ own));
      there = refl;
      came = inl (subst (λ (o : Option SeatOf). IsTurnOf (begun at) o Leave Gone from to × KeepsAsks (asks_of o) Leave Gone []) (sym (seat-was seat here is)) ((trace.known, refl, told.1, subst (λ n. IsTrueTo (begun n) here.seat.tenant trace.known) own told.2, refl), (refl, tt, refl, refl)));
    }
