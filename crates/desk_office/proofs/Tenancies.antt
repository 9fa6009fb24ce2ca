-- A session's tenant from its seat to its Leave: each call is answered at a moment of the desk's history.
use Rattle.desk_office.proofs.Common.{◌≡◌, ℕ, ◌+◌, ◌==◌, List, [], ◌∷◌, ◌++◌, length, map, Bool, true, false, Option, Some, None, Result, Err, refl, sym, ap, subst, ◌∙◌, inl, inr, arith, if◌then◌else◌, append_assoc, append-nil, ◌⊎◌, nat_tests, map-append, IsPrefix, Board, Cell, Side, ReserveOf, Leads, Refusal, refusal_number, Admit, AdmitMore, Submit, Functions, only, CoreState, tenant_in, shared_run, shared_after, shared_refusal, step_result, IsAnswerTo, submits, origins_of, AreSearches, IsSearch, own, Known, Leaf, LeafAnswer, root_words, frame_size, jamboree, HallOf, SeatOf, seeing, core_at, seat_steps, steps_of, lone_tenant, AllOwn, AreTaken, IsSeated, IsTrueTo, Saw, Took, Call, Hello, Reserve, Ask, Get, Wait, Cancel, AskQuota, AskLive, Leave, OfficeReply, Told, Gone, Refused, reply_of, Called, told_answer, History, is_stay, is_taken, reply_to, step_for, Adds, AllStay, AreAnswered, IsBoardIn, IsReplyAt, OfficeOf, asked_after, taken_reply, with_seat, IsLookBy, IsStepRefused, IsRefusedAtOnce, IsLookReply, IsStepBy, IsStepTaken, IsTurnAt, IsTurnOf, prefix-self, prefix-trans}
use Rattle.sched_rules.specs.declared.step.StepOf.TheVariants.{Cancel as CancelStep, Leave as LeaveStep}
use Rattle.desk_office.proofs.Histories.{adds-none, all-mine, all-own, moment, own-more, seat-more, steps-more, AllGo, Goes, IsAtMoment, Step}
use Rattle.desk_office.proofs.Answered.{ask-at-once, ask-refused, ask-taken, cancel-at-once, cancel-refused, cancel-taken, live-at, reserve-refused, reserve-taken, rest-at, root_of, told-at}
use Rattle.hall.proofs.Halls.{searches-push}

-- ---- beginnings

took-more : (before now : Known Step) (step : Step) → Took before step now → IsPrefix before.seen now.seen
took-more before now step t = (t.0 ++ (before.maker, step) ∷ [], sym (append_assoc before.seen t.0 ((before.maker, step) ∷ [])) ∙ sym t.1)

own-one : (m : ℕ) (step : Step) → own m ((m, step) ∷ []) ≡ step ∷ []
own-one m step = let same : (m == m) ≡ true = grind (arith, nat_tests) in ap (λ (b : Bool). if b then step ∷ [] else []) same

-- all steps of a maker that took one are its own
took-whose : (before now : Known Step) (step : Step) → Took before step now → own now.maker now.seen ≡ now.mine
took-whose before now step t =
    ap (λ m. own m now.seen) t.4 ∙ ap (λ (h : History). own before.maker h) t.1 ∙ own-more before.maker (before.seen ++ t.0) ((before.maker, step) ∷ [])
    ∙ ap (λ (l : List Step). l ++ own before.maker ((before.maker, step) ∷ [])) t.2 ∙ ap (λ (l : List Step). before.mine ++ l) (own-one before.maker step) ∙ sym t.3

-- ---- a seat

-- a seat's own steps are its maker's: the Admit, and steps by which its tenant stays, whose searches are what it asked for
record SeatHolds (seat : SeatOf) : Type 0 where
  pub whose : own seat.known.maker seat.known.seen ≡ seat.known.mine
  pub quota : ReserveOf
  pub later : List Step
  pub first : seat.known.mine ≡ Admit seat.tenant quota ∷ later
  pub go : AllGo later
  pub searches : AreSearches later
  pub asked : origins_of later ≡ map root_of seat.asked

go-more : (steps : List Step) (step : Step) → AllGo steps → Goes step → AllGo (steps ++ step ∷ [])
go-more [] step all one = (one, tt)
go-more (s ∷ steps) step all one = (all.0, go-more steps step all.1 one)

origins-more : (steps : List Step) (step : Step) → origins_of (steps ++ step ∷ []) ≡ origins_of steps ++ submits step
origins-more [] step = append-nil (submits step)
origins-more (s ∷ steps) step = ap (λ (l : List (List ℕ)). submits s ++ l) (origins-more steps step) ∙ sym (append_assoc (submits s) (origins_of steps) (submits step))

-- ---- one call

-- the steps that were added at a moment are taken there
abbrev Takes : HallOf → History → History → Type 0
Takes begun history added = (maker : ℕ) (step : Step) → added ≡ (maker, step) ∷ [] → shared_refusal (jamboree begun.grain) (core_at begun history) step ≡ None

-- one call of a seat: at a moment it was answered, and what it added
record Part (begun : HallOf) (next : OfficeOf) (first : SeatOf) (call : Call) (reply : OfficeReply) : Type 0 where
  pub now : SeatOf
  pub seat : next.seat ≡ Some now
  pub tenant : now.tenant ≡ first.tenant
  pub maker : now.known.maker ≡ first.known.maker
  pub between : History
  pub added : History
  pub seen : now.known.seen ≡ (first.known.seen ++ between) ++ added
  pub mine : own first.known.maker (first.known.seen ++ between) ≡ first.known.mine
  pub adds : Adds (is_taken reply) first.known.maker first.tenant call added
  pub right : IsAtMoment begun first.tenant (first.known.seen ++ between) (map root_of first.asked) → Takes begun (first.known.seen ++ between) added → IsReplyAt begun first.tenant (first.known.seen ++ between) call reply
  pub kept : SeatHolds now

-- its step was taken
by-taken : (begun : HallOf) (from next : OfficeOf) (first : SeatOf) (words : Board) (step : Step) (call : Call) (reply : OfficeReply) (now : SeatOf) → SeatHolds first → next ≡ with_seat now from → IsBoardIn words call →
    step_for first.tenant words call ≡ Some step → IsStepTaken first words step call reply now → is_taken (taken_reply (length first.asked) call) ≡ true → Goes step → IsSearch step →
    map root_of (asked_after first.asked words call) ≡ map root_of first.asked ++ submits step →
    ((h : History) → IsAtMoment begun first.tenant h (map root_of first.asked) → shared_refusal (jamboree begun.grain) (core_at begun h) step ≡ None →
    reply_to begun.grain first.tenant (lone_tenant begun h first.tenant) call ≡ taken_reply (length first.asked) call) →
    Part begun next first call reply
by-taken begun from next first words step call reply now is to board asks t takes goes search asked grant =
    let k = t.took in
    let yes : is_taken reply ≡ true = ap is_taken t.said ∙ takes in
    let more : now.known.mine ≡ Admit first.tenant is.quota ∷ (is.later ++ step ∷ []) = k.3 ∙ ap (λ (l : List Step). l ++ step ∷ []) is.first in
    let origins : origins_of (is.later ++ step ∷ []) ≡ map root_of (asked_after first.asked words call) = origins-more is.later step ∙ ap (λ (l : List (List ℕ)). l ++ submits step) is.asked ∙ sym asked in
    let seated : SeatHolds (record { tenant = first.tenant; share = first.share + 1; asked = asked_after first.asked words call; known = now.known }) =
    record { whose = took-whose first.known now.known step k; quota = is.quota; later = is.later ++ step ∷ []; first = more; go = go-more is.later step is.go goes; searches = searches-push is.later step is.searches search; asked = origins } in
    record {
      now = now;
      seat = ap (λ (o : OfficeOf). o.seat) to;
      tenant = ap (λ (s : SeatOf). s.tenant) t.seat;
      maker = k.4;
      between = k.0;
      added = (first.known.maker, step) ∷ [];
      seen = k.1;
      mine = k.2;
      adds = subst (λ (v : Bool). Adds v first.known.maker first.tenant call ((first.known.maker, step) ∷ [])) (sym yes) (words, step, board, asks, refl);
      right = λ m takes. inl (t.said ∙ sym (grant (first.known.seen ++ k.0) m (takes first.known.maker step refl)));
      kept = subst (λ (s : SeatOf). SeatHolds s) (sym t.seat) seated;
    }

-- it has seen the history go on
by-seeing : (begun : HallOf) (from next : OfficeOf) (first now : SeatOf) (call : Call) (reply : OfficeReply) → SeatHolds first → next ≡ with_seat now from → is_taken reply ≡ false → now ≡ seeing now.known first → Saw first.known now.known →
    (IsAtMoment begun first.tenant now.known.seen (map root_of first.asked) → IsReplyAt begun first.tenant now.known.seen call reply) → Part begun next first call reply
by-seeing begun from next first now call reply is to untaken same saw answer =
    let seated : SeatHolds (seeing now.known first) =
    record { whose = saw.1; quota = is.quota; later = is.later; first = saw.2 ∙ is.first; go = is.go; searches = is.searches; asked = is.asked } in
    record {
      now = now;
      seat = ap (λ (o : OfficeOf). o.seat) to;
      tenant = ap (λ (s : SeatOf). s.tenant) same;
      maker = saw.3;
      between = saw.0.0;
      added = [];
      seen = sym saw.0.1 ∙ sym (append-nil (first.known.seen ++ saw.0.0));
      mine = ap (λ (h : History). own first.known.maker h) saw.0.1 ∙ ap (λ m. own m now.known.seen) (sym saw.3) ∙ saw.1 ∙ saw.2;
      adds = subst (λ (v : Bool). Adds v first.known.maker first.tenant call []) (sym untaken) refl;
      right = λ m takes. subst (λ (h : History). IsReplyAt begun first.tenant h call reply) (sym saw.0.1) (answer (subst (λ (h : History). IsAtMoment begun first.tenant h (map root_of first.asked)) saw.0.1 m));
      kept = subst (λ (s : SeatOf). SeatHolds s) (sym same) seated;
    }

-- a call for a step
by-step : (begun : HallOf) (from next : OfficeOf) (first now : SeatOf) (call : Call) (reply : OfficeReply) → SeatHolds first → next ≡ with_seat now from → IsStepBy begun first call reply now →
    is_taken (taken_reply (length first.asked) call) ≡ true → (IsRefusedAtOnce first.asked call reply → is_taken reply ≡ false) →
    ((words : Board) (step : Step) → IsBoardIn words call → step_for first.tenant words call ≡ Some step → Goes step × IsSearch step × (map root_of (asked_after first.asked words call) ≡ map root_of first.asked ++ submits step)) →
    ((words : Board) (step : Step) (h : History) → step_for first.tenant words call ≡ Some step → IsAtMoment begun first.tenant h (map root_of first.asked) → shared_refusal (jamboree begun.grain) (core_at begun h) step ≡ None →
    reply_to begun.grain first.tenant (lone_tenant begun h first.tenant) call ≡ taken_reply (length first.asked) call) →
    ((words : Board) (step : Step) (h : History) (refusal : Refusal) → step_for first.tenant words call ≡ Some step → IsAtMoment begun first.tenant h (map root_of first.asked) →
    IsAnswerTo (jamboree begun.grain) (core_at begun h) step (Err refusal) → IsReplyAt begun first.tenant h call (Refused (refusal_number refusal))) →
    ((h : History) → IsAtMoment begun first.tenant h (map root_of first.asked) → IsRefusedAtOnce first.asked call reply → IsReplyAt begun first.tenant h call reply) →
    Part begun next first call reply
by-step begun from next first now call reply is to b takes at_once of grant refuse refuse_at_once = by b.came
  where
    by : IsStepTaken first b.words b.step call reply now ⊎ (IsStepRefused begun first b.step reply now ⊎ ((now ≡ first) × IsRefusedAtOnce first.asked call reply)) → Part begun next first call reply
    by (inl t) =
        let it = of b.words b.step b.board b.asks in
        by-taken begun from next first b.words b.step call reply now is to b.board b.asks t takes it.0 it.1 it.2 (λ h m none. grant b.words b.step h b.asks m none)
    by (inr (inl r)) =
        by-seeing begun from next first now call reply is to (ap is_taken r.said) r.seat r.saw
        (λ m. subst (λ (x : OfficeReply). IsReplyAt begun first.tenant now.known.seen call x) (sym r.said) (refuse b.words b.step now.known.seen r.refusal b.asks m r.right))
    by (inr (inr r)) =
        by-seeing begun from next first first call reply is (to ∙ ap (λ (s : SeatOf). with_seat s from) r.0) (at_once r.1) refl (prefix-self first.known.seen, is.whose, refl, refl) (λ m. refuse_at_once first.known.seen m r.1)

-- a call that looks
by-look : (begun : HallOf) (from next : OfficeOf) (first now : SeatOf) (call : Call) (reply : OfficeReply) → SeatHolds first → is_taken reply ≡ false → next ≡ with_seat now from → IsLookBy begun first call reply now →
    (IsAtMoment begun first.tenant now.known.seen (map root_of first.asked) → IsLookReply first.asked (lone_tenant begun now.known.seen first.tenant) call reply → IsReplyAt begun first.tenant now.known.seen call reply) →
    Part begun next first call reply
by-look begun from next first now call reply is untaken to l answer =
    by-seeing begun from next first now call reply is to untaken l.look.kept l.look.saw (λ m. answer m (subst (λ (s : SeatOf). IsLookReply s.asked (lone_tenant begun now.known.seen s.tenant) call reply) l.look.kept l.said))

-- what is told is no step
told-is-none : {X : Type 0} (said : X → OfficeReply) (answer : Result X Refusal) → ((x : X) → is_taken (said x) ≡ false) → is_taken (reply_of said answer) ≡ false
told-is-none said answer none = grind arith

abbrev PartOf : HallOf → Call → Type 0
PartOf begun call = (from next : OfficeOf) (first : SeatOf) (reply : OfficeReply) → SeatHolds first → IsTurnOf begun (Some first) call reply from next → Part begun next first call reply

by-reserve : (begun : HallOf) (quota : ReserveOf) → PartOf begun (Reserve quota)
by-reserve begun quota from next first reply is t =
    by-step begun from next first t.0 (Reserve quota) reply is t.1 t.2 refl (λ none. absurd none)
    (λ words step board asks. let same : raise ≡ step = cc asks in subst (λ (s : Step). Goes s × IsSearch s × (map root_of first.asked ≡ map root_of first.asked ++ submits s)) same ((refl, refl), tt, sym (append-nil (map root_of first.asked))))
    (λ words step h asks m none. let same : raise ≡ step = cc asks in reserve-taken begun first.tenant h (map root_of first.asked) quota m (subst (λ (s : Step). shared_refusal (jamboree begun.grain) (core_at begun h) s ≡ None) (sym same) none))
    (λ words step h refusal asks m right. let same : raise ≡ step = cc asks in reserve-refused begun first.tenant h (map root_of first.asked) quota refusal m (subst (λ (s : Step). IsAnswerTo (jamboree begun.grain) (core_at begun h) s (Err refusal)) (sym same) right))
    (λ h m none. absurd none)
  where
    raise : Step
    raise = AdmitMore first.tenant quota

by-cancel : (begun : HallOf) (job : ℕ) → PartOf begun (Cancel job)
by-cancel begun job from next first reply is t =
    by-step begun from next first t.0 (Cancel job) reply is t.1 t.2 refl (λ none. ap is_taken none.1)
    (λ words step board asks. let same : ends ≡ step = cc asks in subst (λ (s : Step). Goes s × IsSearch s × (map root_of first.asked ≡ map root_of first.asked ++ submits s)) same ((refl, refl), tt, sym (append-nil (map root_of first.asked))))
    (λ words step h asks m none. let same : ends ≡ step = cc asks in cancel-taken begun first.tenant h (map root_of first.asked) job m (subst (λ (s : Step). shared_refusal (jamboree begun.grain) (core_at begun h) s ≡ None) (sym same) none))
    (λ words step h refusal asks m right. let same : ends ≡ step = cc asks in cancel-refused begun first.tenant h (map root_of first.asked) job refusal m (subst (λ (s : Step). IsAnswerTo (jamboree begun.grain) (core_at begun h) s (Err refusal)) (sym same) right))
    (λ h m none. cancel-at-once begun first.tenant h first.asked job reply m none)
  where
    ends : Step
    ends = CancelStep first.tenant job

by-ask : (begun : HallOf) (depth : ℕ) (board : List Cell) (side : Side) → PartOf begun (Ask depth board side)
by-ask begun depth board side from next first reply is t =
    by-step begun from next first t.0 (Ask depth board side) reply is t.1 t.2 refl (λ full. ap is_taken full.1)
    (λ words step board asks. let same : search words ≡ step = cc asks in
    subst (λ (s : Step). Goes s × IsSearch s × (map root_of (asked_after first.asked words (Ask depth board_of side)) ≡ map root_of first.asked ++ submits s)) same
    ((refl, refl), (record { own = words.own; opp = words.opp; depth = depth; are = refl; apart = words.disjoint; shallow = board.1 }, refl), map-append root_of first.asked (record { board = words; depth = depth } ∷ [])))
    (λ words step h asks m none. let same : search words ≡ step = cc asks in
    ask-taken begun first.tenant h first.asked depth words.own words.opp board side m (subst (λ (s : Step). shared_refusal (jamboree begun.grain) (core_at begun h) s ≡ None) (sym same) none))
    (λ words step h refusal asks m right. let same : search words ≡ step = cc asks in
    ask-refused begun first.tenant h (map root_of first.asked) depth words.own words.opp board side refusal m (subst (λ (s : Step). IsAnswerTo (jamboree begun.grain) (core_at begun h) s (Err refusal)) (sym same) right))
    (λ h m full. ask-at-once begun first.tenant h first.asked depth board side reply m full)
  where
    board_of : List Cell
    board_of = board

    search : Board → Step
    search words = Submit first.tenant (root_words words.own words.opp depth) frame_size

part : (begun : HallOf) (from next : OfficeOf) (first : SeatOf) (call : Call) (reply : OfficeReply) → from.seat ≡ Some first → is_stay call ≡ true → SeatHolds first → IsTurnOf begun (Some first) call reply from next → Part begun next first call reply
part begun from next first (Hello quota) reply here stays is t = grind (arith, by-seeing, prefix-self)
part begun from next first (Reserve quota) reply here stays is t = by-reserve begun quota from next first reply is t
part begun from next first (Ask depth board side) reply here stays is t = by-ask begun depth board side from next first reply is t
part begun from next first (Cancel job) reply here stays is t = by-cancel begun job from next first reply is t
part begun from next first Leave reply here stays is t = absurd (cc stays)
part begun from next first (Get job) reply here stays is t =
    let said = t.2.said in by-look begun from next first t.0 (Get job) reply is (ap is_taken said.2 ∙ told-is-none (Told job) (told_answer said.0) (λ x. refl)) t.1 t.2 (λ m told. inl (told-at begun first.tenant t.0.known.seen first.asked job reply m told))
part begun from next first (Wait job) reply here stays is t =
    let said = t.2.said in by-look begun from next first t.0 (Wait job) reply is (ap is_taken said.2 ∙ told-is-none (Told job) (told_answer said.0) (λ x. refl)) t.1 t.2 (λ m told. inl (told-at begun first.tenant t.0.known.seen first.asked job reply m told))
part begun from next first AskQuota reply here stays is t = grind (arith, by-look, told-is-none, rest-at)
part begun from next first AskLive reply here stays is t = grind (arith, by-look, told-is-none, live-at)

-- ---- all calls

-- what the seat knows when its tenant has left
record Ending (begun : HallOf) (first : SeatOf) (to : OfficeOf) : Type 0 where
  pub known : Known Step
  pub knew : to.knew ≡ Some known
  pub goes_on : IsPrefix first.known.seen known.seen
  pub true_to : IsTrueTo begun first.tenant known
  pub maker : known.maker ≡ first.known.maker
  pub whose : own known.maker known.seen ≡ known.mine

gone-as : (begun : HallOf) (first : SeatOf) (from next to : OfficeOf) → from.seat ≡ Some first → IsTurnAt begun from Leave Gone next → next ≡ to → (now : Known Step) × (to.knew ≡ Some now) × Took first.known (LeaveStep first.tenant) now × IsTrueTo begun first.tenant now
gone-as begun first from next to here turn end = grind arith

part-on : (begun : HallOf) (next : OfficeOf) (first : SeatOf) (call : Call) (reply : OfficeReply) (p : Part begun next first call reply) → IsPrefix first.known.seen p.now.known.seen
part-on begun next first call reply p = (p.between ++ p.added, sym (append_assoc first.known.seen p.between p.added) ∙ sym p.seen)

part-at : (begun : HallOf) (from next : OfficeOf) (first : SeatOf) (call : Call) (reply : OfficeReply) → from.seat ≡ Some first → is_stay call ≡ true → SeatHolds first → IsTurnAt begun from call reply next → Part begun next first call reply
part-at begun from next first call reply here stays is turn = part begun from next first call reply here stays is (subst (λ (o : Option SeatOf). IsTurnOf begun o call reply from next) here turn.0)

ending : (begun : HallOf) (first : SeatOf) (calls : List (Call × OfficeReply)) (from to : OfficeOf) → SeatHolds first → from.seat ≡ Some first → AllStay calls → Leads (Called (IsTurnAt begun)) from (calls ++ (Leave, Gone) ∷ []) to → Ending begun first to
ending begun first [] from to is here stay h =
    let gone = gone-as begun first from h.0 to here h.1 h.2 in
    record { known = gone.0; knew = gone.1; goes_on = took-more first.known gone.0 (LeaveStep first.tenant) gone.2; true_to = gone.3; maker = gone.2.4; whose = took-whose first.known gone.0 (LeaveStep first.tenant) gone.2 }
ending begun first (made ∷ more) from to is here stay h =
    let p = part-at begun from h.0 first made.0 made.1 here stay.0 is h.1 in
    let e = ending begun p.now more h.0 to p.kept p.seat stay.1 h.2 in
    record {
      known = e.known;
      knew = e.knew;
      goes_on = prefix-trans first.known.seen p.now.known.seen e.known.seen (part-on begun h.0 first made.0 made.1 p) e.goes_on;
      true_to = subst (λ n. IsTrueTo begun n e.known) p.tenant e.true_to;
      maker = e.maker ∙ p.maker;
      whose = e.whose;
    }

-- a whole history: each step was taken, and the tenant's seat steps in it are those of its maker
record Whole (begun : HallOf) (number maker : ℕ) (whole : History) : Type 0 where
  pub new : tenant_in begun.shared.tenants number ≡ None
  pub legal : AreTaken (jamboree begun.grain) begun.shared (steps_of whole)
  pub seats : seat_steps number (steps_of whole) ≡ own maker whole

taken-first : (rules : Functions Leaf LeafAnswer) (shared : CoreState) (xs ys : List Step) → AreTaken rules shared (xs ++ ys) → AreTaken rules shared xs
taken-first rules shared [] ys h = tt
taken-first rules shared (x ∷ xs) ys h = (h.0, taken-first rules (shared_after shared x (step_result rules shared x)) xs ys h.1)

taken-next : (rules : Functions Leaf LeafAnswer) (shared : CoreState) (xs : List Step) (y : Step) (ys : List Step) → AreTaken rules shared (xs ++ y ∷ ys) → shared_refusal rules (shared_run rules shared xs) y ≡ None
taken-next rules shared [] y ys h = h.0
taken-next rules shared (x ∷ xs) y ys h = taken-next rules (shared_after shared x (step_result rules shared x)) xs y ys h.1

-- what holds of a beginning
begins-legal : (begun : HallOf) (number maker : ℕ) (xs ys : History) → Whole begun number maker (xs ++ ys) → AreTaken (jamboree begun.grain) begun.shared (steps_of xs)
begins-legal begun number maker xs ys w = taken-first (jamboree begun.grain) begun.shared (steps_of xs) (steps_of ys) (subst (λ (l : List Step). AreTaken (jamboree begun.grain) begun.shared l) (steps-more xs ys) w.legal)

begins-seats : (begun : HallOf) (number maker : ℕ) (xs ys : History) → Whole begun number maker (xs ++ ys) → seat_steps number (steps_of xs) ≡ own maker xs
begins-seats begun number maker xs ys w = all-mine maker number xs ys (subst (λ (l : List Step). AllOwn number l) w.seats (all-own number (steps_of (xs ++ ys)))) w.seats

-- between two of its own steps the tenant has no seat step
no-others : (begun : HallOf) (first : SeatOf) (between later : History) → SeatHolds first → own first.known.maker (first.known.seen ++ between) ≡ first.known.mine →
    Whole begun first.tenant first.known.maker ((first.known.seen ++ between) ++ later) → seat_steps first.tenant (steps_of between) ≡ []
no-others begun first between later is mine w =
    let n = first.tenant in
    let m = first.known.maker in
    let seen = first.known.seen in
    let at = begins-seats begun n m (seen ++ between) later w in
    let at_first = begins-seats begun n m seen (between ++ later) (subst (λ (l : History). Whole begun n m l) (append_assoc seen between later) w) in
    adds-none (seat_steps n (steps_of seen)) (seat_steps n (steps_of between))
    (sym (seat-more n (steps_of seen) (steps_of between)) ∙ ap (λ (l : List Step). seat_steps n l) (sym (steps-more seen between)) ∙ at ∙ mine ∙ sym is.whose ∙ sym at_first)

-- one call is answered at its moment
part-answered : (begun : HallOf) (next : OfficeOf) (first : SeatOf) (call : Call) (reply : OfficeReply) (p : Part begun next first call reply) (later : History) → SeatHolds first →
    Whole begun first.tenant first.known.maker (((first.known.seen ++ p.between) ++ p.added) ++ later) →
    (seat_steps first.tenant (steps_of p.between) ≡ []) × IsReplyAt begun first.tenant (first.known.seen ++ p.between) call reply
part-answered begun next first call reply p later is w =
    let n = first.tenant in
    let m = first.known.maker in
    let at = first.known.seen ++ p.between in
    let rules = jamboree begun.grain in
    let here = subst (λ (l : History). Whole begun n m l) (append_assoc at p.added later) w in
    let mine = begins-seats begun n m at (p.added ++ later) here ∙ p.mine ∙ is.first in
    let moment_at = moment begun n is.quota is.later at here.new (begins-legal begun n m at (p.added ++ later) here) mine is.go (tt, is.searches) in
    let moment_as = subst (λ (os : List (List ℕ)). IsAtMoment begun n at os) is.asked moment_at in
    let takes : Takes begun at p.added = λ maker step added.
    taken-next rules begun.shared (steps_of at) step (steps_of later)
    (subst (λ (l : List Step). AreTaken rules begun.shared l) (steps-more at ((maker, step) ∷ later)) (subst (λ (l : History). AreTaken rules begun.shared (steps_of (at ++ (l ++ later)))) added here.legal)) in
    (no-others begun first p.between (p.added ++ later) is p.mine here, p.right moment_as takes)

-- what is left of a history after this beginning of it
rest-of : (now was rest last : History) → now ++ rest ≡ last → now ≡ was → last ≡ was ++ rest
rest-of now was rest last is same = sym is ∙ ap (λ (l : History). l ++ rest) same

walk : (begun : HallOf) (first : SeatOf) (calls : List (Call × OfficeReply)) (from to : OfficeOf) (last : Known Step) → to.knew ≡ Some last → SeatHolds first → from.seat ≡ Some first → AllStay calls →
    Leads (Called (IsTurnAt begun)) from (calls ++ (Leave, Gone) ∷ []) to → Whole begun first.tenant first.known.maker last.seen → AreAnswered begun first.tenant first.known.maker first.known.seen calls last.seen
walk begun first [] from to last knew is here stay h w = grind (arith, gone-as, no-others)
walk begun first (made ∷ more) from to last knew is here stay h w =
    let p = part-at begun from h.0 first made.0 made.1 here stay.0 is h.1 in
    let e = ending begun p.now more h.0 to p.kept p.seat stay.1 h.2 in
    let same : e.known ≡ last = cc (sym e.knew ∙ knew) in
    let goes_on : IsPrefix p.now.known.seen last.seen = subst (λ (k : Known Step). IsPrefix p.now.known.seen k.seen) same e.goes_on in
    let whole = rest-of p.now.known.seen ((first.known.seen ++ p.between) ++ p.added) goes_on.0 last.seen goes_on.1 p.seen in
    let a = part-answered begun h.0 first made.0 made.1 p goes_on.0 is (subst (λ (l : History). Whole begun first.tenant first.known.maker l) whole w) in
    let rest = walk begun p.now more h.0 to last knew p.kept p.seat stay.1 h.2 (subst (λ (x : ℕ × ℕ). Whole begun x.0 x.1 last.seen) (λ i. (sym p.tenant i, sym p.maker i)) w) in
    let rest' = subst (λ (x : ℕ × ℕ). AreAnswered begun x.0 x.1 p.now.known.seen more last.seen) (λ i. (p.tenant i, p.maker i)) rest in
    (p.between, p.added, a.0, a.1, p.adds, subst (λ (l : History). AreAnswered begun first.tenant first.known.maker l more last.seen) p.seen rest')

-- a tenant came with this seat, these calls were made for it, and it left
pub record Tenancy (begun : HallOf) (number : ℕ) (quota : ReserveOf) (calls : List (Call × OfficeReply)) (to : OfficeOf) : Type 0 where
  pub known : Known Step
  pub knew : to.knew ≡ Some known
  pub true_to : IsTrueTo begun number known
  pub before : History
  pub unused : only number (steps_of before) ≡ []
  pub answered : AreAnswered begun number known.maker (before ++ (known.maker, Admit number quota) ∷ []) calls known.seen

pub tenancy : (begun : HallOf) (quota : ReserveOf) (seat : SeatOf) (calls : List (Call × OfficeReply)) (from to : OfficeOf) → IsSeated quota seat → tenant_in begun.shared.tenants seat.tenant ≡ None → seat.asked ≡ [] → from.seat ≡ Some seat → AllStay calls →
    Leads (Called (IsTurnAt begun)) from (calls ++ (Leave, Gone) ∷ []) to → Tenancy begun seat.tenant quota calls to
tenancy begun quota seat calls from to a new none here stay h =
    let t = seat.tenant in
    let m = seat.known.maker in
    let admit : Step = Admit t quota in
    let whose = ap (λ (l : History). own m l) a.seen ∙ own-more m a.before ((m, admit) ∷ []) ∙ ap (λ (l : List Step). l ++ own m ((m, admit) ∷ [])) a.unmade ∙ own-one m admit ∙ sym a.mine in
    let is : SeatHolds seat = record { whose = whose; quota = quota; later = []; first = a.mine; go = tt; searches = tt; asked = sym (ap (map root_of) none) } in
    let e = ending begun seat calls from to is here stay h in
    let w : Whole begun t m e.known.seen = record { new = new; legal = e.true_to.0; seats = e.true_to.1 ∙ sym e.whose ∙ ap (λ x. own x e.known.seen) e.maker } in
    let answered = subst (λ (l : History). AreAnswered begun t m l calls e.known.seen) a.seen (walk begun seat calls from to e.known e.knew is here stay h w) in
    record {
      known = e.known;
      knew = e.knew;
      true_to = e.true_to;
      before = a.before;
      unused = a.unused;
      answered = subst (λ x. AreAnswered begun t x (a.before ++ (x, admit) ∷ []) calls e.known.seen) (sym e.maker) answered;
    }
