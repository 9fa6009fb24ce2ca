-- Whether a tenant is there, through the lines of a site's session.
use Rattle.site_office.proofs.Common.{◌≡◌, ℕ, List, [], ◌∷◌, Bool, true, false, Option, sym, ap, subst, ◌∙◌, LineText, Answers, Call, Hello, Reserve, Get, Leave, OfficeReply, Gone, Request, Fault, Makes, Tabulates, Ends, LeavesIf, Turned, seated_after, ReserveOf, Greeted, Known, Unknown, Crowded, Info, SiteRequest, Greets, Raises, Informs, Pings, Plain, IsRefused, IsWelcomed, SiteTurned, IfPaid, site_relations, handler_of}

-- what each answer keeps true stays true through a chain of them
pub chain-holds : {A : Type 0} (answers : A → LineText → List ℕ → A → Type 0) (holds : A → Type 0) → ((a : A) (line : LineText) (text : List ℕ) (b : A) → answers a line text b → holds a → holds b)
    → (a : A) (lines : List LineText) (texts : List (List ℕ)) (b : A) → Answers answers a lines texts b → holds a → holds b
chain-holds answers holds step a [] [] b h s = subst holds h s
chain-holds answers holds step a [] (t ∷ ts) b h s = absurd h
chain-holds answers holds step a (l ∷ ls) [] b h s = absurd h
chain-holds answers holds step a (l ∷ ls) (t ∷ ts) b h s = chain-holds answers holds step h.0 ls ts b h.2 (step a l t h.0 h.1 s)

module _ {O : Type 0} (does : O → Call → OfficeReply → O → Type 0) (greets : O → Option (List ℕ) → Greeted → O → Type 0) (pays : O → Bool → O → Type 0) (informs : O → Info → O → Type 0) (here : O → Bool)
    (called : (from : O) (call : Call) (reply : OfficeReply) (to : O) → does from call reply to → here to ≡ seated_after (here from) reply)
    (met : (from : O) (token : Option (List ℕ)) (greeted : Greeted) (to : O) → greets from token greeted to → here to ≡ here from)
    (paid : (from : O) (passes : Bool) (to : O) → pays from passes to → here to ≡ here from)
    (informed : (from : O) (info : Info) (to : O) → informs from info to → here to ≡ here from) where
  pub leaves : (seated : Bool) (from to : O) → LeavesIf does seated from to → here from ≡ seated → here to ≡ false
  leaves true from to h e = called from Leave Gone to h
  leaves false from to h e = ap here (sym h) ∙ e

  turned : (asked : Request) (from : O) (seated : Bool) (text : List ℕ) (to : O) (seated' : Bool) → Turned does asked (handler_of from seated) text (handler_of to seated') → here from ≡ seated → here to ≡ seated'
  turned (Fault fault) from seated text to seated' h e = ap here (sym h.0) ∙ e ∙ sym h.1
  turned (Makes call) from seated text to seated' h e = called from call h.0 to h.1 ∙ ap (λ s. seated_after s h.0) e ∙ sym h.2
  turned (Tabulates job) from seated text to seated' h e = called from (Get job) h.0 to h.1 ∙ ap (λ s. seated_after s h.0) e ∙ sym h.2
  turned Ends from seated text to seated' h e = leaves seated from to h.0 e ∙ sym h.1

  refused : (number : ℕ) (from : O) (seated : Bool) (text : List ℕ) (to : O) (seated' : Bool) → IsRefused number (handler_of from seated) text (handler_of to seated') → here from ≡ seated → here to ≡ seated'
  refused number from seated text to seated' h e = ap here (sym h.0) ∙ e ∙ sym h.1

  welcomed : (greeted : Greeted) (quota : ReserveOf) (from : O) (seated : Bool) (text : List ℕ) (to : O) (seated' : Bool) → IsWelcomed does greeted quota (handler_of from seated) text (handler_of to seated') → here from ≡ seated → here to ≡ seated'
  welcomed Known quota from seated text to seated' h e = turned (Makes (Hello quota)) from seated text to seated' h e
  welcomed Unknown quota from seated text to seated' h e = refused 30 from seated text to seated' h e
  welcomed Crowded quota from seated text to seated' h e = refused 14 from seated text to seated' h e

  greeted-so : (passes : Bool) (greeted : Greeted) (quota : ReserveOf) (from : O) (seated : Bool) (text : List ℕ) (to : O) (seated' : Bool) → IfPaid passes (IsWelcomed does greeted quota (handler_of from seated) text (handler_of to seated')) (handler_of from seated) text (handler_of to seated') → here from ≡ seated → here to ≡ seated'
  greeted-so true greeted quota from seated text to seated' h e = welcomed greeted quota from seated text to seated' h e
  greeted-so false greeted quota from seated text to seated' h e = refused 31 from seated text to seated' h e

  raised : (passes : Bool) (quota : ReserveOf) (from : O) (seated : Bool) (text : List ℕ) (to : O) (seated' : Bool) → IfPaid passes (Turned does (Makes (Reserve quota)) (handler_of from seated) text (handler_of to seated')) (handler_of from seated) text (handler_of to seated') → here from ≡ seated → here to ≡ seated'
  raised true quota from seated text to seated' h e = turned (Makes (Reserve quota)) from seated text to seated' h e
  raised false quota from seated text to seated' h e = refused 31 from seated text to seated' h e

  -- a line keeps it that the handler knows whether a tenant is there
  pub site-turned : (asked : SiteRequest) (from : O) (seated : Bool) (text : List ℕ) (to : O) (seated' : Bool) → SiteTurned (site_relations does greets pays informs) asked (handler_of from seated) text (handler_of to seated') → here from ≡ seated → here to ≡ seated'
  site-turned (Greets token quota) from seated text to seated' h e =
      greeted-so h.2 h.0 quota h.3 seated text to seated' h.6 (paid h.1 h.2 h.3 h.5 ∙ met from token h.0 h.1 h.4 ∙ e)
  site-turned (Raises quota) from seated text to seated' h e = raised h.0 quota h.1 seated text to seated' h.3 (paid from h.0 h.1 h.2 ∙ e)
  site-turned Informs from seated text to seated' h e = informed from h.0 to h.1 ∙ e ∙ sym h.2
  site-turned Pings from seated text to seated' h e = ap here (sym h.0) ∙ e ∙ sym h.1
  site-turned (Plain asked) from seated text to seated' h e = turned asked from seated text to seated' h e
