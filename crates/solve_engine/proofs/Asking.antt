-- The search of a line of `solve`: what was asked of its core stays asked, and what has become of the job answers it.
use Rattle.solve_engine.proofs.Common.{◌≡◌, ℕ, Bool, true, false, ◌&&◌, eqb, List, [], ◌∷◌, ◌++◌, Option, Some, None, Result, Ok, refl, ap, ap₂, sym, ◌∙◌, subst, append-nil, rules, is_ok, if◌then◌else◌, IsSome, ReserveOf, cells, cells_of, Refusal, StepOf, Submit, DidOf, tenant_of, Tenant, CoreState, shared_by_nobody, tenant_in, submits, origins_after, LeafAnswer, root_words, Reply, board_of, IsSearch, TenantSearches, ServesSearches, CoreSearches, origin_at, Done, IsReplyOn, AnswersTo, nobody-searches, core-tenant, core-serves, HasAsked, HasReserved}
use Rattle.jamboree_core.specs.declared.outcomes.Outcome.{Outcome}

-- a core with no tenant was asked nothing
pub nothing-asked : (totals : ReserveOf) (shared : CoreState) → shared ≡ shared_by_nobody totals → HasAsked [] shared
nothing-asked totals shared is =
    let P : CoreState → Type 0 = λ s. HasAsked [] s in
    subst P (sym is) (record { origins = λ number. []; are = refl; searches = nobody-searches totals })

-- nothing is added
none-added : (b : Bool) (xs ys : List (List ℕ)) → ys ≡ [] → (if b then xs ++ ys else xs) ≡ xs
none-added true xs ys none = ap (λ (zs : List (List ℕ)). xs ++ zs) none ∙ append-nil xs
none-added false xs ys none = refl

-- what a step keeps of a core of searches
abbrev pub StepSearches : {I A : Type 0} → CoreState → StepOf A → Result (DidOf I) Refusal → CoreState → Type 0
StepSearches before step answer after =
    (origins : ℕ → List (List ℕ)) → CoreSearches origins before → (is_ok answer ≡ true → IsSearch step) → CoreSearches (origins_after origins step answer) after

-- a step that submits nothing keeps what was asked
pub step-asks : {I : Type 0} (asked : List (List ℕ)) (before after : CoreState) (step : StepOf LeafAnswer) (answer : Result (DidOf I) Refusal) →
    submits step ≡ [] → IsSearch step → StepSearches before step answer after → HasAsked asked before → HasAsked asked after
step-asks asked before after step answer none search searching has =
    record {
      origins = origins_after has.origins step answer;
      are = none-added (is_ok answer && eqb (tenant_of step) 1) (has.origins 1) (submits step) none ∙ has.are;
      searches = searching has.origins has.searches (λ ok. search);
    }

-- a Submit of tenant 1 that is taken adds its words
pub submit-asks : {I : Type 0} (words : List ℕ) (size : ℕ) (before after : CoreState) (did : DidOf I) → IsSearch {A = LeafAnswer} (Submit 1 words size) →
    StepSearches {A = LeafAnswer} before (Submit 1 words size) (Ok did) after → HasAsked [] before → HasAsked (words ∷ []) after
submit-asks words size before after did search searching has =
    record {
      origins = origins_after {A = LeafAnswer} has.origins (Submit 1 words size) (Ok did);
      are = ap (λ (os : List (List ℕ)). os ++ words ∷ []) has.are;
      searches = searching has.origins has.searches (λ ok. search);
    }

-- the tenant is one of searches
pub asked-serves : (asked : List (List ℕ)) (shared : CoreState) → HasAsked asked shared → ServesSearches (tenant_in shared.tenants 1)
asked-serves asked shared has = core-serves has.origins shared 1 has.searches

-- what is said of its job's outcome for the words that were asked
abbrev pub TellsOf : CoreState → Option Outcome → Type 0
TellsOf shared outcome =
    (origins : List (List ℕ)) (owner : Tenant) → tenant_in shared.tenants 1 ≡ Some owner → TenantSearches origins owner → AnswersTo (origin_at origins 1) outcome

pub outcome-to : {words : List ℕ} {quota : ReserveOf} {shared : CoreState} {outcome : Option Outcome} → HasReserved quota shared → HasAsked (words ∷ []) shared →
    TellsOf shared outcome → AnswersTo (Some words) outcome
outcome-to {shared = shared} reserved has tells =
    let to = tells (has.origins 1) reserved.tenant reserved.there (core-tenant has.origins shared 1 reserved.tenant has.searches reserved.there) in rw has.are at to

pub outcome-there : (words : List ℕ) (outcome : Option Outcome) → AnswersTo (Some words) outcome → IsSome outcome
outcome-there words None to = absurd to
outcome-there words (Some outcome) to = search rules

-- where it is done, the reply is to them
pub reply-of : (words : List ℕ) (found : Option Outcome) (outcome : Outcome) (reply : Reply) → AnswersTo (Some words) found → found ≡ Some outcome → outcome ≡ Done reply → IsReplyOn words reply
reply-of words found outcome reply to is done = subst (λ o. AnswersTo (Some words) o) (is ∙ ap (λ (o : Outcome). Some o) done) to

-- the board of a reply to the words of a root
pub reply-cells : (own opp depth : ℕ) (r : Reply) → IsReplyOn (root_words own opp depth) r → cells (board_of r) ≡ cells_of own opp
reply-cells own opp depth r to = ap₂ cells_of to.own to.opp
