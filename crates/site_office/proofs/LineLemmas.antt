-- What comes of one line of a site's session: it is answered beside the session, or is a line of the session's own.
use Rattle.site_office.proofs.Common.{◌≡◌, ◌⊎◌, ℕ, List, Bool, true, false, refl, sym, ap, ◌∙◌, inl, inr, Option, codes, bytes_eq, if◌then◌else◌, LineText, Whole, TooLong, HallOf, ReserveOf, Call, Hello, Reserve, Get, Leave, OfficeReply, Gone, reply_text, Request, Fault, Makes, Tabulates, Ends, request, LeavesIf, Turned, seated_after, IsTurnAt, Greeted, Known, Unknown, Crowded, Info, SiteRequest, Pings, asked_by, info_request, site_request, SiteTurned, token_of, without_token, SiteOfficeOf, office_of, IsSiteTurn, IsTracedAt, IsRefusedByBook, Stays, IsBeside, MayBeOwn, tokenless, is_some, IfPaid, IsWelcomed, site_relations, handler_of}

pub stays-same : (from to : SiteOfficeOf) → from ≡ to → Stays from to
stays-same from to e = record { seat = ap (λ (o : SiteOfficeOf). (office_of o).seat) (sym e); there = ap (λ (o : SiteOfficeOf). is_some o.seat) (sym e); knew = ap (λ (o : SiteOfficeOf). o.knew) (sym e); place = λ h. ap (λ (o : SiteOfficeOf). o.at) (sym e) }

stays-on : (from next to : SiteOfficeOf) → Stays from next → Stays next to → Stays from to
stays-on from next to h k = record { seat = k.seat ∙ h.seat; there = k.there ∙ h.there; knew = k.knew ∙ h.knew; place = λ here. k.place (h.there ∙ here) ∙ h.place here }

module _ (begun : ℕ → HallOf) where
  -- a call of the session's own: one of an office at the desk
  pub record IsOwn (from : SiteOfficeOf) (call : Call) (reply : OfficeReply) (to : SiteOfficeOf) : Type 0 where
    pub place : to.at ≡ from.at
    pub knew : IsTracedAt from.at (is_some from.seat) from.knew to.knew
    pub there : is_some to.seat ≡ seated_after (is_some from.seat) reply
    pub turn : IsTurnAt (begun from.at) (office_of from) call reply (office_of to)

  -- a line is answered beside the session, or, as it asks for this of any session, in it
  abbrev pub Came : SiteRequest → Request → SiteOfficeOf → Bool → List ℕ → SiteOfficeOf → Bool → Type 0
  Came asked q from seated text to seated' =
      (IsBeside asked text × Stays from to × (seated' ≡ seated)) ⊎ ((met : SiteOfficeOf) × Stays from met × Turned IsOwn q (handler_of met seated) text (handler_of to seated') × MayBeOwn asked)

  as-own : (from to : SiteOfficeOf) (call : Call) (reply : OfficeReply) → IsSiteTurn begun from call reply to → (IsRefusedByBook call reply → ⊥) → IsOwn from call reply to
  as-own from to call reply t other = own t.came
    where
      own : IsTurnAt (begun from.at) (office_of from) call reply (office_of to) ⊎ ((to ≡ from) × IsRefusedByBook call reply) → IsOwn from call reply to
      own (inl turn) = record { place = t.place; knew = t.knew; there = t.there; turn = turn }
      own (inr away) = absurd (other away.1)

  pub leaves-own : {O : Type 0} (seen : O → SiteOfficeOf) (does : O → Call → OfficeReply → O → Type 0) → ((from : O) (call : Call) (reply : OfficeReply) (to : O) → does from call reply to → IsSiteTurn begun (seen from) call reply (seen to))
      → (seated : Bool) (from to : O) → LeavesIf does seated from to → LeavesIf IsOwn seated (seen from) (seen to)
  leaves-own seen does called true from to h = as-own (seen from) (seen to) Leave Gone (called from Leave Gone to h) (λ away. away)
  leaves-own seen does called false from to h = ap seen h

  module _ {O : Type 0} (seen : O → SiteOfficeOf) (does : O → Call → OfficeReply → O → Type 0) (greets : O → Option (List ℕ) → Greeted → O → Type 0) (pays : O → Bool → O → Type 0) (informs : O → Info → O → Type 0)
      (called : (from : O) (call : Call) (reply : OfficeReply) (to : O) → does from call reply to → IsSiteTurn begun (seen from) call reply (seen to))
      (met : (from : O) (token : Option (List ℕ)) (greeted : Greeted) (to : O) → greets from token greeted to → Stays (seen from) (seen to))
      (paid : (from : O) (passes : Bool) (to : O) → pays from passes to → Stays (seen from) (seen to))
      (informed : (from : O) (info : Info) (to : O) → informs from info to → Stays (seen from) (seen to)) where
    -- a call that the book may not refuse
    made : (asked : SiteRequest) (call : Call) → MayBeOwn asked → (start from to : O) (seated : Bool) (text : List ℕ) (seated' : Bool) → ((reply : OfficeReply) → IsRefusedByBook call reply → ⊥) → Stays (seen start) (seen from) → Turned does (Makes call) (handler_of from seated) text (handler_of to seated') → Came asked (Makes call) (seen start) seated text (seen to) seated'
    made asked call may start from to seated text seated' other s h = inr (seen from, s, (h.0, as-own (seen from) (seen to) call h.0 (called from call h.0 to h.1) (other h.0), h.2, h.3), may)

    greeted-so : (token : Option (List ℕ)) (quota : ReserveOf) (passes : Bool) (greeted : Greeted) (start from to : O) (seated : Bool) (text : List ℕ) (seated' : Bool) → Stays (seen start) (seen from) → IfPaid passes (IsWelcomed does greeted quota (handler_of from seated) text (handler_of to seated')) (handler_of from seated) text (handler_of to seated')
        → Came (asked_by token (Makes (Hello quota))) (Makes (Hello quota)) (seen start) seated text (seen to) seated'
    greeted-so token quota true Known start from to seated text seated' s h = made (asked_by token (Makes (Hello quota))) (Hello quota) tt start from to seated text seated' (λ reply away. away) s h
    greeted-so token quota true Unknown start from to seated text seated' s h = inl (inr (inl h.2), stays-on (seen start) (seen from) (seen to) s (stays-same (seen from) (seen to) (ap seen h.0)), h.1)
    greeted-so token quota true Crowded start from to seated text seated' s h = inl (inr (inr h.2), stays-on (seen start) (seen from) (seen to) s (stays-same (seen from) (seen to) (ap seen h.0)), h.1)
    greeted-so token quota false greeted start from to seated text seated' s h = inl (inl h.2, stays-on (seen start) (seen from) (seen to) s (stays-same (seen from) (seen to) (ap seen h.0)), h.1)

    raised : (token : Option (List ℕ)) (quota : ReserveOf) (passes : Bool) (start from to : O) (seated : Bool) (text : List ℕ) (seated' : Bool) → Stays (seen start) (seen from) → IfPaid passes (Turned does (Makes (Reserve quota)) (handler_of from seated) text (handler_of to seated')) (handler_of from seated) text (handler_of to seated')
        → Came (asked_by token (Makes (Reserve quota))) (Makes (Reserve quota)) (seen start) seated text (seen to) seated'
    raised token quota false start from to seated text seated' s h = inl (inl h.2, stays-on (seen start) (seen from) (seen to) s (stays-same (seen from) (seen to) (ap seen h.0)), h.1)
    raised token quota true start from to seated text seated' s h = by turn.came
      where
        turn : IsSiteTurn begun (seen from) (Reserve quota) h.0 (seen to)
        turn = called from (Reserve quota) h.0 to h.1

        by : IsTurnAt (begun (seen from).at) (office_of (seen from)) (Reserve quota) h.0 (office_of (seen to)) ⊎ ((seen to ≡ seen from) × IsRefusedByBook (Reserve quota) h.0) → Came (asked_by token (Makes (Reserve quota))) (Makes (Reserve quota)) (seen start) seated text (seen to) seated'
        by (inl own) = inr (seen from, s, (h.0, record { place = turn.place; knew = turn.knew; there = turn.there; turn = own }, h.2, h.3), tt)
        by (inr away) =
            let said = away.1.1 in
            inl (inr (away.1.0, h.3 ∙ ap reply_text said), stays-on (seen start) (seen from) (seen to) s (stays-same (seen from) (seen to) (sym away.0)), h.2 ∙ ap (seated_after seated) said)

    plain : (token : Option (List ℕ)) (q : Request) (from to : O) (seated : Bool) (text : List ℕ) (seated' : Bool) → SiteTurned (site_relations does greets pays informs) (asked_by token q) (handler_of from seated) text (handler_of to seated') → Came (asked_by token q) q (seen from) seated text (seen to) seated'
    plain token (Makes (Hello quota)) from to seated text seated' h =
        greeted-so token quota h.2 h.0 from h.3 to seated text seated' (stays-on (seen from) (seen h.1) (seen h.3) (met from token h.0 h.1 h.4) (paid h.1 h.2 h.3 h.5)) h.6
    plain token (Makes (Reserve quota)) from to seated text seated' h = raised token quota h.0 from h.1 to seated text seated' (paid from h.0 h.1 h.2) h.3
    plain token (Makes call) from to seated text seated' h = made (asked_by token (Makes call)) call tt from from to seated text seated' (λ reply away. away) (stays-same (seen from) (seen from) refl) h
    plain token (Fault fault) from to seated text seated' h = inl (h.2, stays-same (seen from) (seen to) (ap seen h.0), h.1)
    plain token (Tabulates job) from to seated text seated' h =
        inr (seen from, stays-same (seen from) (seen from) refl, (h.0, as-own (seen from) (seen to) (Get job) h.0 (called from (Get job) h.0 to h.1) (λ away. away), h.2, h.3), tt)
    plain token Ends from to seated text seated' h = inr (seen from, stays-same (seen from) (seen from) refl, (leaves-own seen does called seated from to h.0, h.1, h.2), tt)

    by-word : (info ping : Bool) (token : Option (List ℕ)) (q : Request) (from to : O) (seated : Bool) (text : List ℕ) (seated' : Bool) → SiteTurned (site_relations does greets pays informs) (if info then info_request seated else (if ping then Pings else asked_by token q)) (handler_of from seated) text (handler_of to seated')
        → Came (if info then info_request seated else (if ping then Pings else asked_by token q)) q (seen from) seated text (seen to) seated'
    by-word true ping token q from to true text seated' h = inl ((h.0, h.3), informed from h.0 to h.1, h.2)
    by-word true ping token q from to false text seated' h = inl (h.2, stays-same (seen from) (seen to) (ap seen h.0), h.1)
    by-word false true token q from to seated text seated' h = inl (h.2, stays-same (seen from) (seen to) (ap seen h.0), h.1)
    by-word false false token q from to seated text seated' h = plain token q from to seated text seated' h

    pub line-came : (line : LineText) (from to : O) (seated : Bool) (text : List ℕ) (seated' : Bool) → SiteTurned (site_relations does greets pays informs) (site_request seated line) (handler_of from seated) text (handler_of to seated') → Came (site_request seated line) (request seated (tokenless line)) (seen from) seated text (seen to) seated'
    line-came TooLong from to seated text seated' h = inl (h.2, stays-same (seen from) (seen to) (ap seen h.0), h.1)
    line-came (Whole bytes) from to seated text seated' h = by-word (bytes_eq bytes (codes "INFO")) (bytes_eq bytes (codes "PING")) (token_of bytes) (request seated (Whole (without_token bytes))) from to seated text seated' h
