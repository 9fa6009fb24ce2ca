-- A site's session in the history of its desk.
use Rattle.site_office.proofs.Common.{◌≡◌, ℕ, List, [], ◌∷◌, ◌++◌, Bool, true, false, refl, sym, ap, subst, ◌∙◌, inl, inr, Option, Some, None, Result, Ok, Err, concat, is_some, option_map, LineText, Answers, Leads, WriteFailed, LineFault, TalkEnd, IsAnswered, ReadAnswer, WriteAnswer, Talk, bytes_due, write_result, HallOf, SeatOf, Call, Hello, Get, Leave, OfficeReply, Gone, Request, Fault, Makes, Tabulates, Ends, request, LineTurn, Faulted, Made, Tabulated, Closed, turns, calls_in, leaving, calls_for, seated_after, turn_text, Called, LeavesIf, Turned, session_lines, is_bye, Bye, Write, next_turns, each-done, all-true, IsOneTenancy, IsTenantOf, OfficeOf, vacant, asks_of, is_stay, IsHello, IsTurnAt, IsTurnOf, answered-ends, ends-is_bye, one-tenant, seated-stays, stays-seated, EndsAtBye, kept, Greeted, Info, SiteTurned, site_request, SiteSeatOf, SiteTraceOf, SiteOfficeOf, office_of, IsSiteTurn, IsTracedAt, Stays, AnyText, AreMixed, IsBeside, IsTenantAt, MayBeOwn, SeenSiteSession, tokenless, seated_by, between, answering, site_relations, handler_of}
use Rattle.site_office.proofs.BareLines.{bye-bare}
use Rattle.site_office.proofs.LineLemmas.{leaves-own, line-came, Came, IsOwn}
use Rattle.site_office.proofs.SeatLemmas.{none-of}

-- ---- a call at any desk

-- a HELLO that is refused, and a call without a tenant, are the same at each
hello-any : (one other : HallOf) (call : Call) (reply : OfficeReply) (from to : OfficeOf) → to.seat ≡ None → IsHello one call reply from to → IsHello other call reply from to
hello-any one other (Hello quota) reply from to none (inl new) = absurd (let e = sym (ap (λ (o : OfficeOf). o.seat) new.1) ∙ none in cc e)
hello-any one other (Hello quota) reply from to none (inr refused) = inr refused
hello-any one other call reply from to none h = h

turn-any : (one other : HallOf) (call : Call) (reply : OfficeReply) (from to : OfficeOf) → from.seat ≡ None → to.seat ≡ None → IsTurnAt one from call reply to → IsTurnAt other from call reply to
turn-any one other call reply from to nobody none t =
    (subst (λ (o : Option SeatOf). IsTurnOf other o call reply from to) (sym nobody) (hello-any one other call reply from to none (subst (λ (o : Option SeatOf). IsTurnOf one o call reply from to) nobody t.0)), t.1)

-- what was known of this desk
abbrev IsOf : ℕ → Option SiteTraceOf → Type 0
IsOf n None = Unit {0}
IsOf n (Some trace) = trace.at ≡ n

traced : (n at : ℕ) (there : Bool) (was now : Option SiteTraceOf) → IsTracedAt at there was now → (there ≡ true → at ≡ n) → IsOf n was → IsOf n now
traced n at false was now same e h = subst (IsOf n) (sym same) h
traced n at true was now (inl same) e h = subst (IsOf n) (sym same) h
traced n at true was now (inr new) e h = subst (IsOf n) (sym new.1) (new.2 ∙ e refl)

module _ (begun : ℕ → HallOf) where
  -- a call at the desk of this number
  record IsOwnAt (n : ℕ) (from : SiteOfficeOf) (call : Call) (reply : OfficeReply) (to : SiteOfficeOf) : Type 0 where
    pub turn : IsTurnAt (begun n) (office_of from) call reply (office_of to)
    pub knew : IsOf n from.knew → IsOf n to.knew

  -- a call of the session's own is at the desk where a tenant is before it or after it; without one it is the same at each
  own-here : (n : ℕ) (from to : SiteOfficeOf) (call : Call) (reply : OfficeReply) → from.at ≡ n → IsOwn begun from call reply to → IsOwnAt n from call reply to
  own-here n from to call reply e t = record { turn = subst (λ m. IsTurnAt (begun m) (office_of from) call reply (office_of to)) e t.turn; knew = traced n from.at (is_some from.seat) from.knew to.knew t.knew (λ there. e) }

  own-at : (n : ℕ) (from to : SiteOfficeOf) (call : Call) (reply : OfficeReply) (s s' : Bool) → is_some from.seat ≡ s → s' ≡ seated_after s reply → (s ≡ true → is_stay call ≡ true) → IsOwn begun from call reply to → (s' ≡ true → to.at ≡ n) → IsOwnAt n from call reply to × (s ≡ true → from.at ≡ n)
  own-at n from to call reply s true here e stays t at = let m = sym t.place ∙ at refl in (own-here n from to call reply m t, λ there. m)
  own-at n from to call reply true false here e stays t at = absurd (let still = stays-seated (begun n) call reply (stays refl) t.turn.1.3 in cc (e ∙ still))
  own-at n from to call reply false false here e stays t at =
      let nobody : (office_of from).seat ≡ None = ap (option_map (λ (s : SiteSeatOf). s.seat)) (none-of from.seat here) in
      let none : (office_of to).seat ≡ None = ap (option_map (λ (s : SiteSeatOf). s.seat)) (none-of to.seat (t.there ∙ ap (λ b. seated_after b reply) here ∙ sym e)) in
      (record { turn = turn-any (begun from.at) (begun n) call reply (office_of from) (office_of to) nobody none t.turn; knew = traced n from.at (is_some from.seat) from.knew to.knew t.knew (λ there. absurd (cc (sym here ∙ there))) }, λ there. absurd (cc there))

  -- ---- all lines

  -- of these lines those that are the session's own, with what came of them at the desk of this number, up to this office
  record Lines (n : ℕ) (from : SiteOfficeOf) (seated : Bool) (lines : List LineText) (texts : List (List ℕ)) (to : SiteOfficeOf) (seated' : Bool) : Type 0 where
    pub own : List LineText
    pub replies : List OfficeReply
    pub turned : List LineTurn
    pub are : turns seated own replies ≡ turned
    pub ends : EndsAtBye own
    pub none : lines ≡ [] → own ≡ []
    pub mixed : AreMixed seated lines texts own turned
    pub last : seated' ≡ true → to.at ≡ n
    pub made : (end : SiteOfficeOf) → LeavesIf (IsOwnAt n) seated' to end → Leads (Called (IsTurnAt (begun n))) (office_of from) (calls_in seated turned) (office_of end) × (IsOf n from.knew → IsOf n end.knew)

  no-lines : (n : ℕ) (from : SiteOfficeOf) (seated : Bool) → (seated ≡ true → from.at ≡ n) → Lines n from seated [] [] from seated
  no-lines n from seated at = record { own = []; replies = []; turned = []; are = refl; ends = tt; none = λ e. refl; mixed = (refl, refl); last = at; made = λ end h. left seated end h }
    where
      left : (s : Bool) (end : SiteOfficeOf) → LeavesIf (IsOwnAt n) s from end → Leads (Called (IsTurnAt (begun n))) (office_of from) (leaving s) (office_of end) × (IsOf n from.knew → IsOf n end.knew)
      left true end h = ((office_of end, h.turn, refl), h.knew)
      left false end h = (ap office_of h, λ k. subst (λ (o : SiteOfficeOf). IsOf n o.knew) h k)

  same-office : (from to : SiteOfficeOf) → Stays from to → office_of to ≡ office_of from
  same-office from to s = λ i. record { seat = s.seat i; knew = option_map (λ t. t.known) (s.knew i) }

  -- one more line
  module _ (n : ℕ) (line : LineText) (lines : List LineText) (text : List ℕ) (texts : List (List ℕ)) (seated : Bool) (from to : SiteOfficeOf) (seated'' : Bool) where
    beside : (next : SiteOfficeOf) (seated' : Bool) → IsBeside (site_request seated line) text → Stays from next → seated' ≡ seated → Lines n next seated' lines texts to seated'' → Lines n from seated (line ∷ lines) (text ∷ texts) to seated''
    beside next seated' h s e r = by (subst (λ b. Lines n next b lines texts to seated'') e r)
      where
        by : Lines n next seated lines texts to seated'' → Lines n from seated (line ∷ lines) (text ∷ texts) to seated''
        by r = record {
          own = r.own;
          replies = r.replies;
          turned = r.turned;
          are = r.are;
          ends = r.ends;
          none = λ e. absurd (cc e);
          mixed = inl (h, r.mixed);
          last = r.last;
          made = λ end left. let m = r.made end left in (subst (λ (o : OfficeOf). Leads (Called (IsTurnAt (begun n))) o (calls_in seated r.turned) (office_of end)) (same-office from next s) m.0, λ k. m.1 (subst (IsOf n) (sym s.knew) k));
        }

    -- a line of the session's own
    module _ (met next : SiteOfficeOf) (s : Stays from met) (may : MayBeOwn (site_request seated line)) (last : EndsAtBye (line ∷ lines)) where
      own-line : (turn : LineTurn) → text ≡ turn_text turn → (r : Lines n next (seated_by seated turn) lines texts to seated'') (replies : List OfficeReply) → turns seated (tokenless line ∷ r.own) replies ≡ turn ∷ r.turned
          → ((end : SiteOfficeOf) → Leads (Called (IsTurnAt (begun n))) (office_of next) (calls_in (seated_by seated turn) r.turned) (office_of end) → Leads (Called (IsTurnAt (begun n))) (office_of met) (calls_in seated (turn ∷ r.turned)) (office_of end))
          → (IsOf n met.knew → IsOf n next.knew) → Lines n from seated (line ∷ lines) (text ∷ texts) to seated''
      own-line turn said r replies are leads knew = record {
        own = tokenless line ∷ r.own;
        replies = replies;
        turned = turn ∷ r.turned;
        are = are;
        ends = (λ bye. r.none (last.0 (bye-bare line bye)), r.ends);
        none = λ e. absurd (cc e);
        mixed = inr (r.own, turn, r.turned, may, refl, refl, said, r.mixed);
        last = r.last;
        made = λ end left. let m = r.made end left in (subst (λ (o : OfficeOf). Leads (Called (IsTurnAt (begun n))) o (calls_in seated (turn ∷ r.turned)) (office_of end)) (same-office from met s) (leads end m.0), λ k. m.1 (knew (subst (IsOf n) (sym s.knew) k)));
      }

      in-session : (q : Request) → request seated (tokenless line) ≡ q → (seated' : Bool) → Turned (IsOwnAt n) q (handler_of met seated) text (handler_of next seated') → Lines n next seated' lines texts to seated'' → Lines n from seated (line ∷ lines) (text ∷ texts) to seated''
      in-session (Fault fault) is seated' h r =
          let r' = subst (λ b. Lines n next b lines texts to seated'') h.1 r in
          own-line (Faulted fault) h.2 r' r'.replies (ap (λ x. next_turns x seated r'.own r'.replies) is ∙ ap (λ (l : List LineTurn). Faulted fault ∷ l) r'.are)
          (λ end led. subst (λ (o : SiteOfficeOf). Leads (Called (IsTurnAt (begun n))) (office_of o) (calls_in seated r'.turned) (office_of end)) (sym h.0) led) (λ k. subst (λ (o : SiteOfficeOf). IsOf n o.knew) h.0 k)
      in-session (Makes call) is seated' h r =
          let r' = subst (λ b. Lines n next b lines texts to seated'') h.2 r in
          own-line (Made call h.0) h.3 r' (h.0 ∷ r'.replies) (ap (λ x. next_turns x seated r'.own (h.0 ∷ r'.replies)) is ∙ ap (λ (l : List LineTurn). Made call h.0 ∷ l) r'.are) (λ end led. (office_of next, h.1.turn, led)) h.1.knew
      in-session (Tabulates job) is seated' h r =
          let r' = subst (λ b. Lines n next b lines texts to seated'') h.2 r in
          own-line (Tabulated job h.0) h.3 r' (h.0 ∷ r'.replies) (ap (λ x. next_turns x seated r'.own (h.0 ∷ r'.replies)) is ∙ ap (λ (l : List LineTurn). Tabulated job h.0 ∷ l) r'.are) (λ end led. (office_of next, h.1.turn, led)) h.1.knew
      in-session Ends is seated' h r =
          let r' = subst (λ b. Lines n next b lines texts to seated'') h.1 r in
          own-line Closed h.2 r' r'.replies (ap (λ x. next_turns x seated r'.own r'.replies) is ∙ ap (λ (l : List LineTurn). Closed ∷ l) r'.are) (λ end led. (left seated h.0 (calls_in false r'.turned) (office_of end) led)) (λ k. left-knew seated h.0 k)
        where
          left : (b : Bool) → LeavesIf (IsOwnAt n) b met next → (more : List (Call × OfficeReply)) (end : OfficeOf) → Leads (Called (IsTurnAt (begun n))) (office_of next) more end → Leads (Called (IsTurnAt (begun n))) (office_of met) (leaving b ++ more) end
          left true h more end led = (office_of next, h.turn, led)
          left false h more end led = subst (λ (o : SiteOfficeOf). Leads (Called (IsTurnAt (begun n))) (office_of o) more end) (sym h) led

          left-knew : (b : Bool) → LeavesIf (IsOwnAt n) b met next → IsOf n met.knew → IsOf n next.knew
          left-knew true h k = h.knew k
          left-knew false h k = subst (λ (o : SiteOfficeOf). IsOf n o.knew) h k

  -- the lines that are left, at the desk where a tenant is before them
  abbrev Walk : SiteOfficeOf → Bool → List LineText → List (List ℕ) → SiteOfficeOf → Bool → Type 0
  Walk from seated lines texts to seated' = (n : ℕ) × (seated ≡ true → from.at ≡ n) × Lines n from seated lines texts to seated'

  line-walk : (line : LineText) (lines : List LineText) (text : List ℕ) (texts : List (List ℕ)) (from next to : SiteOfficeOf) (s s' s'' : Bool) → EndsAtBye (line ∷ lines) → is_some from.seat ≡ s → Came begun (site_request s line) (request s (tokenless line)) from s text next s' →
      (is_some next.seat ≡ s' → Walk next s' lines texts to s'') → (lines ≡ [] → (n : ℕ) → s' ≡ false → Lines n next s' lines texts to s'') → Walk from s (line ∷ lines) (text ∷ texts) to s''
  line-walk line lines text texts from next to s s' s'' last here (inl h) again after =
      let w = again (h.1.there ∙ here ∙ sym h.2) in
      (w.0, λ there. sym (h.1.place (here ∙ there)) ∙ w.1 (h.2 ∙ there), beside w.0 line lines text texts s from to s'' next s' h.0 h.1 h.2 w.2)
  line-walk line lines text texts from next to s s' s'' last here (inr came) again after = by s here came.3 (request s (tokenless line)) refl came.2
    where
      met : SiteOfficeOf
      met = came.0

      stays : Stays from met
      stays = came.1

      met-there : (b : Bool) → is_some from.seat ≡ b → is_some met.seat ≡ b
      met-there b e = stays.there ∙ e

      by-call : (b : Bool) → is_some from.seat ≡ b → MayBeOwn (site_request b line) → (q : Request) (call : Call) (reply : OfficeReply) → request b (tokenless line) ≡ q → (b ≡ true → is_stay call ≡ true) → IsOwn begun met call reply next → s' ≡ seated_after b reply →
          ((n : ℕ) → IsOwnAt n met call reply next → Turned (IsOwnAt n) q (handler_of met b) text (handler_of next s')) → Walk from b (line ∷ lines) (text ∷ texts) to s''
      by-call b e may q call reply is stay t new turned =
          let w = again (t.there ∙ ap (λ z. seated_after z reply) (met-there b e) ∙ sym new) in
          let o = own-at w.0 met next call reply b s' (met-there b e) new stay t w.1 in
          (w.0, λ there. sym (stays.place (e ∙ there)) ∙ o.1 there, in-session w.0 line lines text texts b from to s'' met next stays may last q is s' (turned w.0 o.0) w.2)

      by : (b : Bool) → is_some from.seat ≡ b → MayBeOwn (site_request b line) → (q : Request) → request b (tokenless line) ≡ q → Turned (IsOwn begun) q (handler_of met b) text (handler_of next s') → Walk from b (line ∷ lines) (text ∷ texts) to s''
      by b e may (Fault fault) is h =
          let w = again (ap (λ (o : SiteOfficeOf). is_some o.seat) (sym h.0) ∙ met-there b e ∙ sym h.1) in
          (w.0, λ there. sym (stays.place (e ∙ there)) ∙ ap (λ (o : SiteOfficeOf). o.at) h.0 ∙ w.1 (h.1 ∙ there), in-session w.0 line lines text texts b from to s'' met next stays may last (Fault fault) is s' h w.2)
      by b e may (Makes call) is h = by-call b e may (Makes call) call h.0 is (λ there. seated-stays (tokenless line) call (ap (λ z. request z (tokenless line)) (sym there) ∙ is)) h.1 h.2 (λ n t. (h.0, t, h.2, h.3))
      by b e may (Tabulates job) is h = by-call b e may (Tabulates job) (Get job) h.0 is (λ there. refl) h.1 h.2 (λ n t. (h.0, t, h.2, h.3))
      by true e may Ends is h =
          let none = last.0 (bye-bare line (ends-is_bye (tokenless line) is)) in
          (met.at, λ there. sym (stays.place e), in-session met.at line lines text texts true from to s'' met next stays may last Ends is s' (own-here met.at met next Leave Gone refl h.0, h.1, h.2) (after none met.at h.1))
      by false e may Ends is h =
          let w = again (ap (λ (o : SiteOfficeOf). is_some o.seat) (sym h.0) ∙ met-there false e ∙ sym h.1) in
          (w.0, λ there. absurd (cc there), in-session w.0 line lines text texts false from to s'' met next stays may last Ends is s' h w.2)

  tenant-at : (n : ℕ) (calls : List (Call × OfficeReply)) (knew : Option SiteTraceOf) → IsOf n knew → IsTenantOf (begun n) calls (option_map (λ (t : SiteTraceOf). t.known) knew) → IsTenantAt begun calls knew
  tenant-at n calls None is t = t
  tenant-at n calls (Some trace) is t = subst (λ m. IsOneTenancy (begun m) calls trace.known) (sym is) t

  ends-of : (w : Result (Unit {0}) WriteFailed) (answered : List LineText) (bytes : List ℕ) (texts : List (List ℕ)) (rest : List ℕ) → IsAnswered w (session_lines bytes) answered texts rest → EndsAtBye answered
  ends-of (Ok u) answered bytes texts rest h = answered-ends (Ok Bye) answered bytes h.0
  ends-of (Err d) answered bytes texts rest h = answered-ends (Err Write) answered bytes h.0

  module _ {O A : Type 0} (seen : O → SiteOfficeOf) (does : O → Call → OfficeReply → O → Type 0) (greets : O → Option (List ℕ) → Greeted → O → Type 0) (pays : O → Bool → O → Type 0) (informs : O → Info → O → Type 0)
      (called : (from : O) (call : Call) (reply : OfficeReply) (to : O) → does from call reply to → IsSiteTurn begun (seen from) call reply (seen to))
      (met : (from : O) (token : Option (List ℕ)) (greeted : Greeted) (to : O) → greets from token greeted to → Stays (seen from) (seen to))
      (paid : (from : O) (passes : Bool) (to : O) → pays from passes to → Stays (seen from) (seen to))
      (informed : (from : O) (info : Info) (to : O) → informs from info to → Stays (seen from) (seen to))
      (office : A → O) (seated : A → Bool) (answers : A → LineText → List ℕ → A → Type 0)
      (turned : (a : A) (line : LineText) (text : List ℕ) (b : A) → answers a line text b → SiteTurned (site_relations does greets pays informs) (site_request (seated a) line) (handler_of (office a) (seated a)) text (handler_of (office b) (seated b))) where
    abbrev pub at : A → SiteOfficeOf
    at a = seen (office a)

    after-all : (n : ℕ) (a : A) (lines : List LineText) (texts : List (List ℕ)) (b : A) → lines ≡ [] → seated a ≡ false → Answers answers a lines texts b → Lines n (at a) (seated a) lines texts (at b) (seated b)
    after-all n a [] [] b none new h = subst (λ z. Lines n (at a) (seated a) [] [] (at z) (seated z)) h (no-lines n (at a) (seated a) (λ e. absurd (cc (sym new ∙ e))))
    after-all n a [] (t ∷ ts) b none new h = absurd h
    after-all n a (l ∷ ls) ts b none new h = absurd (cc none)

    walk : (a : A) (lines : List LineText) (texts : List (List ℕ)) (b : A) → EndsAtBye lines → is_some (at a).seat ≡ seated a → Answers answers a lines texts b → Walk (at a) (seated a) lines texts (at b) (seated b)
    walk a [] [] b last here h = subst (λ z. Walk (at a) (seated a) [] [] (at z) (seated z)) h ((at a).at, λ there. refl, no-lines (at a).at (at a) (seated a) (λ there. refl))
    walk a (l ∷ ls) (t ∷ ts) b last here h =
        line-walk l ls t ts (at a) (at h.0) (at b) (seated a) (seated h.0) (seated b) last here (line-came begun seen does greets pays informs called met paid informed l (office a) (office h.0) (seated a) t (seated h.0) (turned a l t h.0 h.1))
        (λ e. walk h.0 ls ts b last.1 e h.2) (λ none n new. after-all n h.0 ls ts b none new h.2)
    walk a ls ts b last here h = absurd h

    any-text : (a : A) (lines : List LineText) (texts : List (List ℕ)) (b : A) → Answers answers a lines texts b → Answers AnyText tt lines texts tt
    any-text a [] [] b h = refl
    any-text a (l ∷ ls) (t ∷ ts) b h = (tt, tt, any-text h.0 ls ts b h.2)
    any-text a ls ts b h = absurd h

    -- a talk whose office starts without a tenant, and whose tenant then leaves
    pub seen-site : {S K : Type 0} (gives : S → ReadAnswer → S → Type 0) (takes : K → WriteAnswer → K → Type 0) (s s' : S) (k k' : K) (a b : A) (end : O) (r : Result TalkEnd LineFault) → (at a).seat ≡ None → (at a).knew ≡ None → seated a ≡ false →
        Talk (between gives s s') (between takes k k') (answering answers a b) is_bye r → LeavesIf does (seated b) (office b) end → SeenSiteSession begun (between gives s s') (between takes k k') r (seen end).knew
    seen-site gives takes s s' k k' a b end r no_seat none_left new talk left =
        let y = talk.lines in
        let w = walk a y.answered y.texts b (ends-of (write_result r) y.answered (bytes_due r (concat talk.blocks)) y.texts y.rest y.ends) (ap is_some no_seat ∙ sym new) y.answers_lead in
        let n = w.0 in
        let x = w.2 in
        let left_at = leaves-at n (seated b) (at b) (seen end) (leaves-own begun seen does called (seated b) (office b) end left) x.last in
        let start : office_of (at a) ≡ vacant = λ i. record { seat = option_map (λ (t : SiteSeatOf). t.seat) (no_seat i); knew = option_map (λ (t : SiteTraceOf). t.known) (none_left i) } in
        let m = x.made (seen end) left_at in
        let calls = calls_for x.own x.replies in
        let P : OfficeOf × (Bool × List LineTurn) → Type 0 = λ z. Leads (Called (IsTurnAt (begun n))) z.0 (calls_in z.1.0 z.1.1) (office_of (seen end)) in
        let made : Leads (Called (IsTurnAt (begun n))) vacant calls (office_of (seen end)) = subst P (λ i. (start i, (new i, are-first (seated a) x.own x.replies x.turned new x.are i))) m.0 in
        let asks = kept (begun n) vacant calls (office_of (seen end)) made in
        record {
          talk = record { blocks = talk.blocks; last = talk.last; reads = talk.reads; ending = talk.ending; lines = record { answered = y.answered; texts = y.texts; pieces = y.pieces; rest = y.rest; answers_lead = any-text a y.answered y.texts b y.answers_lead; writes = y.writes; taken = y.taken; ends = y.ends } };
          own = x.own;
          replies = x.replies;
          mixed = subst (λ (z : Bool × List LineTurn). AreMixed z.0 y.answered y.texts x.own z.1) (λ i. (new i, are-first (seated a) x.own x.replies x.turned new x.are i)) x.mixed;
          asks = asks_of (office_of (seen end)).seat;
          made = asks;
          dones = each-done x.own x.replies (all-true [] calls (asks_of (office_of (seen end)).seat) asks);
          tenant = tenant-at n calls (seen end).knew (m.1 (subst (IsOf n) (sym none_left) tt)) (one-tenant (begun n) x.own x.replies vacant (office_of (seen end)) x.ends refl refl made);
        }
      where
        leaves-at : (n : ℕ) (b : Bool) (from to : SiteOfficeOf) → LeavesIf (IsOwn begun) b from to → (b ≡ true → from.at ≡ n) → LeavesIf (IsOwnAt n) b from to
        leaves-at n true from to h e = own-here n from to Leave Gone (e refl) h
        leaves-at n false from to h e = h

        are-first : (b : Bool) (own : List LineText) (replies : List OfficeReply) (turned : List LineTurn) → b ≡ false → turns b own replies ≡ turned → turned ≡ turns false own replies
        are-first b own replies turned e is = sym is ∙ ap (λ z. turns z own replies) e
