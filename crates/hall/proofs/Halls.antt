-- What a hall (the core, with each tenant's journal) keeps true, over an admission, a Leave, and any other step that
-- was taken.
use Rattle.hall.proofs.Common.{all-map, rising-push, is_ok, false≢true, ◌≡◌, ◌≢◌, ℕ, ◌+◌, ◌*◌, ◌^◌, ◌<◌, ◌≤◌, Bool, true, false, ◌||◌, eqb, List, [], ◌∷◌, ◌++◌, length, Option, Some, None, Result, Ok, Err, refl, ap, sym, ◌∙◌, subst, arith, inl, inr, length-append, ◌==◌, nat_le, nat_lt, OnOk, cases_Bool, eqb-true, eqb-false, eq-eqb, true≢false, nat_tests, ReserveOf, IsWithinLimits, Refusal, OldTenant, BadAct, Full, StepOf, Admit, AdmitMore, Leave, DidOf, Functions, Job, Tenant, job_at, step-ended, IsOfSearches, tenant-none-bad, Outcome, unless, refusal_in, lone, lone_step, tenant_of, CoreState, tenant_in, without_tenant, accounts_in, unless_beyond, shared_by_nobody, shared_refusal, newest_after, IsOneStep, AreNumbersGiven, IsAnswerTo, step-taken, shared-after-taken, there, more-there, tenant_in-with_outcome, tenant_in-other-without_tenant, one-step, Leaf, LeafAnswer, jamboree, IsSearch, AreSearches, job_of, origins_of, submits, TenantSearches, ServesSearches, origin_at, IsOutcomeIn, AnswersTo, IsJournalOf, journal-searches, journal-goes-on, journal-begins, others-stay, serial_in, is_long_step, long_steps, AreRising, all-push, all-with, all-without, said-lacks, has-above, inserted, said-with-other, said-without-own, said-without-other, rising-with, rising-without, length-with, length-without, JournalOf, journal_in, places_in, longs_in, owner_of_journal, has_journal, with_step, without_journal, total_length, places_for, longs_for, longs_with, raise_in, raise_count, reserved_in, admitted_journal, is_appended, longer, AreUpTo, AreBegun, HallOf, empty_hall, hall_after, Explains, IsExplained, IsHall, lets_go, KeepsEndedJobs}
use Rattle.jamboree_core.specs.declared.outcomes.Outcome.{Outcome as Outcomes}
use Rattle.hall.proofs.Lists.{raise-more, raised-after, IsAllowed, steps_of, longer-longs, step-own, step-total, step-begun, without-total, push-own, push-other, push-total, push-inserted, push-upto, total-within, IsAt, found-at}
use Rattle.hall.proofs.Using.{IsToldBy, step-used, serial-given, told-by}
use Rattle.hall.proofs.Longs.{journal-longs}

abbrev pub Step : Type 0
Step = StepOf LeafAnswer

-- a hall where nobody was yet
pub empty-kept : (grain : ℕ) (totals : ReserveOf) → AreNumbersGiven (shared_by_nobody totals) → IsHall (empty_hall grain totals) 0 0
empty-kept grain totals known = grind arith

-- a tenant that is there has a journal
pub has-one : (grain : ℕ) (tenant : Tenant) (journals : List JournalOf) (number : ℕ) → IsJournalOf (jamboree grain) (journal_in journals number) tenant →
    has_journal number journals ≡ true
has-one grain tenant journals number is = grind (arith, said-lacks, steps_of)

-- a step more keeps a list one of searches
pub searches-push : (steps : List Step) (step : Step) → AreSearches steps → IsSearch step → AreSearches (steps ++ step ∷ [])
searches-push [] step are is = (is, tt)
searches-push (first ∷ steps) step are is = (are.0, searches-push steps step are.1 is)

-- what holds whatever was answered
pub on-ok : {T E : Type 0} {P : Type 0} (answer : Result T E) → P → OnOk answer P
on-ok answer it = grind arith

-- no count passes 2^84
few-steps : (journals : List JournalOf) (gone latest : ℕ) → AreBegun journals → length journals * 2 ^ 21 + gone ≤ latest * 2 ^ 21 → latest ≤ 2 ^ 62 →
    total_length journals + gone ≤ 2 ^ 84
few-steps journals gone latest begun bounded numbers = grind (arith, total-within)

-- one long step more
longs-more : (steps : List Step) (step : Step) → is_long_step step ≡ true → long_steps (steps ++ step ∷ []) ≡ long_steps steps + 1
longs-more [] step long = rw long refl
longs-more (first ∷ steps) step long = grind (arith, longs-more steps step long)

module _ (grain : ℕ) {journals : List JournalOf} {number : ℕ} (step : Step) {next : Tenant} (at : IsAt number journals) (goes : is_appended step ≡ true)
    (is : IsJournalOf (jamboree grain) (journal_in journals number ++ step ∷ []) next) where
  told : IsToldBy (journal_in journals number ++ step ∷ []) next
  told = told-by (journal_in journals number ++ step ∷ []) next is

  nodes-told : next.reserve.nodes ≡ (reserved_in (at.journal.steps ++ step ∷ [])).nodes
  nodes-told = grind (arith, told)

  -- a journal has a place for each step that its tenant takes, those counted that a raise makes
  has-place : length (journal_in journals number) < places_in (with_step number step journals) number
  has-place = grind (arith, told, length-append, nodes-told, raised-after, raise-more)

  -- and a place for each of them that is long
  has-long-place : is_long_step step ≡ true → AreSearches (journal_in journals number ++ step ∷ []) → long_steps (journal_in journals number) < longs_in (with_step number step journals) number
  has-long-place long searches =
      let few = journal-longs grain is searches in grind (arith, longer-longs, longs-more, nodes-told)

-- a tenant that was there, and what it came to by a step
record WentOn (grain : ℕ) (before after : CoreState) (step : Step) : Type 0 where
  tenant : Tenant
  next : Tenant
  told : DidOf Leaf
  was : tenant_in before.tenants (tenant_of step) ≡ Some tenant
  is : tenant_in after.tenants (tenant_of step) ≡ Some next
  taken : lone_step (jamboree grain) tenant step ≡ Ok (Some next, told)

-- what explains a tenant that is there
module _ (grain : ℕ) {own : Option Tenant} {tenant : Tenant} {journal : List Step} (is : own ≡ Some tenant) where
  explained-some : Explains (jamboree grain) own journal → IsJournalOf (jamboree grain) journal tenant
  explained-some explains = grind arith

-- what a hall's core does at a step
abbrev pub IsStepOf : HallOf → Step → Result (DidOf Leaf) Refusal → CoreState → Type 0
IsStepOf hall step answer after = IsOneStep (jamboree hall.grain) hall.shared step answer after

-- the core would raise what a tenant reserves: the tenant has a journal, which has few raises, and is shorter than it may become
pub record IsReady (hall : HallOf) (number : ℕ) (quota : ReserveOf) : Type 0 where
  pub has : has_journal number hall.journals ≡ true
  pub few : raise_count (journal_in hall.journals number) ≤ 69632
  pub place : length (journal_in hall.journals number) < places_for quota + (raise_count (journal_in hall.journals number) + 1)
  pub long : long_steps (journal_in hall.journals number) < longs_for quota + (raise_count (journal_in hall.journals number) + 1)

-- it was asked of a tenant that is there, and is more than that reserves
asked : {I : Type 0} (beyond : Bool) (functions : Functions I LeafAnswer) (own : Option Tenant) (number : ℕ) (quota : ReserveOf) →
    refusal_in (unless_beyond beyond (lone functions own (AdmitMore number quota))) ≡ None → (tenant : Tenant) × (own ≡ Some tenant) × (tenant.reserve.nodes ≤ quota.nodes)
asked beyond functions None number quota none = grind arith
asked beyond functions (Some tenant) number quota none = (tenant, refl, grind (arith, nat_tests))

module _ {hall : HallOf} (explained : IsExplained hall) {step : Step} where
  went-by : {after : CoreState} (own : Option Tenant) (outcome : Outcome Leaf) → is_appended step ≡ true → tenant_in hall.shared.tenants (tenant_of step) ≡ own →
      lone (jamboree hall.grain) own step ≡ Ok outcome → tenant_in after.tenants (tenant_of step) ≡ outcome.0 → WentOn hall.grain hall.shared after step
  went-by None outcome goes was taken is = grind (arith, true≢false, more-there, there)
  went-by (Some tenant) (None, did) goes was taken is =
      let own = explained-some hall.grain was (explained.tenants (tenant_of step)) in
      absurd (true≢false (sym goes ∙ step-used (jamboree hall.grain) tenant step (None, did) taken (told-by _ tenant own).shape))
  went-by (Some tenant) (Some next, told) goes was taken is = grind (arith, told)

  went-on : {after : CoreState} {did : DidOf Leaf} → IsStepOf hall step (Ok did) after → is_appended step ≡ true → WentOn hall.grain hall.shared after step
  went-on {did} one goes =
      let t = step-taken (jamboree hall.grain) hall.shared step did explained.known one.answered in
      let left = ap (λ (s : CoreState). tenant_in s.tenants (tenant_of step)) (one.left ∙ shared-after-taken (jamboree hall.grain) hall.shared step did t) in
      went-by _ t.outcome goes refl t.own (left ∙ tenant_in-with_outcome (tenant_of step) t.outcome.0 hall.shared.tenants)

  -- the greatest number stays
  newest-after : {after : CoreState} {did : DidOf Leaf} → IsStepOf hall step (Ok did) after → after.newest ≡ newest_after hall.shared.newest step
  newest-after {did} one = grind (arith, step-taken, shared-after-taken)

-- a hall after a taken step: the step's tenant is explained, and each other one's journal is as it was; total:
-- one step more was taken, counting those of tenants that are gone
record IsChanged (hall : HallOf) (latest : ℕ) (step : Step) (after : CoreState) (journals : List JournalOf) (gone : ℕ) : Type 0 where
  own : Explains (jamboree hall.grain) (tenant_in after.tenants (tenant_of step)) (journal_in journals (tenant_of step))
  searches : AreSearches (journal_in journals (tenant_of step))
  others : (m : ℕ) → tenant_of step ≢ m → journal_in journals m ≡ journal_in hall.journals m
  rising : AreRising owner_of_journal journals
  upto : AreUpTo latest journals
  begun : AreBegun journals
  newest : latest ≡ after.newest
  numbers : latest ≤ 2 ^ 62
  total : total_length journals + gone ≡ total_length hall.journals + hall.gone + 1
  bounded : length journals * 2 ^ 21 + gone ≤ latest * 2 ^ 21

-- a step that goes on: its journal has a place for it, and the hall keeps what it keeps
pub record GoesOn (hall : HallOf) (latest count : ℕ) (step : Step) (after : CoreState) : Type 0 where
  pub has : has_journal (tenant_of step) hall.journals ≡ true
  pub place : raise_in step ≡ None → length (journal_in hall.journals (tenant_of step)) < places_in hall.journals (tenant_of step)
  pub long : raise_in step ≡ None → is_long_step step ≡ true → long_steps (journal_in hall.journals (tenant_of step)) < longs_in hall.journals (tenant_of step)
  pub serial : serial_in step < 2 ^ 32
  pub left : hall_after hall step after ≡ record hall { shared = after; journals = with_step (tenant_of step) step hall.journals }
  pub keeps : IsHall (record hall { shared = after; journals = with_step (tenant_of step) step hall.journals }) latest (count + 1)

-- why an admission wasn't refused
no-refusal : {I : Type 0} (old full : Bool) (effect : Outcome I) → refusal_in (unless ((old, OldTenant) ∷ (full, Full) ∷ []) effect) ≡ None → (old ≡ false) × (full ≡ false)
no-refusal old full effect none = grind arith

numbered : (number newest : ℕ) → ((number == 0) || nat_le number newest || nat_lt (2 ^ 62) number) ≡ false → (newest < number) × (number ≤ 2 ^ 62)
numbered number newest is_new = grind arith

length-accounts : (es : List (ℕ × Tenant)) → length (accounts_in es) ≡ length es
length-accounts [] = refl
length-accounts (e ∷ es) = grind (arith, length-accounts es)

-- there are no more journals than tenants
not-more : (n : ℕ) (es : List (ℕ × Tenant)) → length (without_tenant n es) ≤ length es
not-more n [] = omega arith
not-more n (e ∷ es) = grind (arith, not-more n es)

one-fewer : (n : ℕ) (es : List (ℕ × Tenant)) → tenant_in es n ≢ None → length (without_tenant n es) + 1 ≤ length es
one-fewer n [] found = absurd (found refl)
one-fewer n (e ∷ es) found = grind (arith, not-more, one-fewer n es)

few-journals : (js : List JournalOf) (es : List (ℕ × Tenant)) → AreRising owner_of_journal js → AreBegun js → ((n : ℕ) → tenant_in es n ≡ None → journal_in js n ≡ []) → length js ≤ length es
few-journals [] es rising begun lacks = omega arith
few-journals (j ∷ js) es rising begun lacks =
    let rest = few-journals js (without_tenant j.tenant es) rising.1 begun.1 later in
    omega (arith, rest, one-fewer j.tenant es here)
  where
    here : tenant_in es j.tenant ≢ None
    here none =
        let empty : j.steps ≡ [] = grind (arith, eq-eqb) in
        absurd cc

    later : (m : ℕ) → tenant_in (without_tenant j.tenant es) m ≡ None → journal_in js m ≡ []
    later m none = elim (cases_Bool (eqb j.tenant m)) [
      | inl same ↦ grind (arith, eqb-true, said-lacks, has-above)
      | inr other ↦ grind (arith, tenant_in-other-without_tenant, eqb-false)
    ]

module _ {I A : Type 0} (functions : Functions I A) (before : CoreState) (step : StepOf A) where
  -- a step of the core that is refused
  pub refused : (refusal : Refusal) → shared_refusal functions before step ≡ Some refusal → IsOneStep functions before step (Err refusal) before
  refused refusal some = one-step functions before step (Err refusal) (grind arith)

-- after a Leave nobody is there
module _ (hall : HallOf) (after : CoreState) (n : ℕ) where
  gone-by : (own : Option Tenant) (outcome : Outcome Leaf) → tenant_in hall.shared.tenants n ≡ own → lone {A = LeafAnswer} (jamboree hall.grain) own (Leave n) ≡ Ok outcome →
      tenant_in after.tenants n ≡ outcome.0 → ((tenant : Tenant) × (tenant_in hall.shared.tenants n ≡ Some tenant)) × (tenant_in after.tenants n ≡ None)
  gone-by own outcome was taken found = grind (arith, there)

  gone-after : (did : DidOf Leaf) → AreNumbersGiven hall.shared → IsStepOf hall (Leave n) (Ok did) after →
      ((tenant : Tenant) × (tenant_in hall.shared.tenants n ≡ Some tenant)) × (tenant_in after.tenants n ≡ None)
  gone-after did known one =
      let step : Step = Leave n in
      let t = step-taken (jamboree hall.grain) hall.shared step did known one.answered in
      grind (arith, gone-by, tenant_in-with_outcome)

-- a Leave: its tenant has a journal, and the hall keeps what it keeps
pub record LeavesOff (hall : HallOf) (latest count n : ℕ) (after : CoreState) : Type 0 where
  pub has : has_journal n hall.journals ≡ true
  pub keeps : IsHall (record hall { shared = after; journals = without_journal n hall.journals; gone = hall.gone + (length (journal_in hall.journals n) + 1) }) latest (count + 1)

-- what a hall keeps
module _ {hall : HallOf} {latest count : ℕ} (keeps : IsHall hall latest count) where
  pub is-ready : (number : ℕ) (quota : ReserveOf) → shared_refusal {A = LeafAnswer} (jamboree hall.grain) hall.shared (AdmitMore number quota) ≡ None → IsReady hall number quota
  is-ready number quota none =
      let found = asked _ (jamboree hall.grain) (tenant_in hall.shared.tenants number) number quota none in
      let tenant = found.0 in
      let own = explained-some hall.grain found.1 (keeps.explained.tenants number) in
      let has = has-one hall.grain tenant hall.journals number own in
      let at = found-at number hall.journals has keeps.begun in
      let told = told-by (journal_in hall.journals number) tenant own in
      let longs = journal-longs hall.grain own (keeps.explained.searches number) in grind (arith, told)

  -- a hall that changed so keeps what a hall keeps
  changed : {later : ℕ} {step : Step} {did : DidOf Leaf} {after : CoreState} {journals : List JournalOf} {gone : ℕ} → IsStepOf hall step (Ok did) after → AreNumbersGiven after →
      IsChanged hall later step after journals gone → IsHall (record hall { shared = after; journals = journals; gone = gone }) later (count + 1)
  changed {later} {step} {journals} {gone} one known is =
      record {
        explained = record {
          tenants = λ m. grind (arith, others-stay);
          searches = grind (arith, eqb-true, eqb-false);
          known = known;
          numbers = omega (arith, is.newest, is.numbers);
          few = few-steps journals gone later is.begun is.bounded is.numbers;
        };
        rising = is.rising;
        upto = is.upto;
        begun = is.begun;
        newest = is.newest;
        counted = omega (arith, is.total, keeps.counted);
        bounded = is.bounded;
      }

  -- a step that goes on
  pub goes-on : {step : Step} {did : DidOf Leaf} {after : CoreState} → IsStepOf hall step (Ok did) after → is_appended step ≡ true → IsAllowed (raise_in step) → IsSearch step →
      AreNumbersGiven after → GoesOn hall latest count step after
  goes-on {step} {did} {after} one goes allowed search known =
      let explained = keeps.explained in
      let went = went-on explained one goes in
      let n = tenant_of step in
      let own = explained-some hall.grain went.was (explained.tenants n) in
      let has = has-one hall.grain went.tenant hall.journals n own in
      let at = found-at n hall.journals has keeps.begun in
      let told = told-by (journal_in hall.journals n) went.tenant own in
      let on = journal-goes-on (jamboree hall.grain) hall.shared step did after (journal_in hall.journals n) went.tenant went.next explained.known one went.was went.is own in
      let place = has-place hall.grain step at goes on in
      let searches = searches-push (journal_in hall.journals n) step (explained.searches n) search in
      let given = serial-given (jamboree hall.grain) went.tenant step (Some went.next, went.told) went.taken told.shape in
      let nodes = ap (λ (q : ReserveOf). q.nodes) (told.reserve ∙ ap (λ (js : List Step). reserved_in js) at.steps) in
      let more = step-own n step hall.journals has in
      record {
        has = has;
        place = grind arith;
        long = λ none is. (let same = at.long_after step ∙ ap (λ (r : Option ReserveOf). longs_with r at.journal) none ∙ sym at.longs in
            let long_place = has-long-place hall.grain step at goes on is searches in omega (arith, long_place, same));
        serial = omega (arith, given, told.shape.opened, nodes, at.begun.nodes);
        left = grind arith;
        keeps = changed one known (record {
          own = grind arith;
          searches = rw more searches;
          others = grind (arith, said-with-other, longer);
          rising = grind (arith, rising-with, longer);
          upto = grind (arith, all-with, longer);
          begun = grind (arith, step-begun);
          newest = grind (arith, newest-after);
          numbers = omega (arith, keeps.newest, explained.numbers);
          total = omega (arith, step-total n step hall.journals has);
          bounded = grind (arith, length-with, longer);
        });
      }

  -- and so where its answer is seen to be Ok
  pub goes-on-where-ok : {step : Step} (answer : Result (DidOf Leaf) Refusal) {after : CoreState} → is_ok answer ≡ true → IsStepOf hall step answer after → is_appended step ≡ true →
      IsAllowed (raise_in step) → IsSearch step → AreNumbersGiven after → GoesOn hall latest count step after
  goes-on-where-ok (Ok did) ok one goes allowed search known = goes-on one goes allowed search known
  goes-on-where-ok (Err refusal) ok one goes allowed search known = absurd (false≢true ok)

  -- an admission that the core doesn't refuse: there is a place for its journal, behind all others
  lacking : (n : ℕ) → tenant_in hall.shared.tenants n ≡ None → journal_in hall.journals n ≡ []
  lacking n none = grind arith

  pub is-free : (number : ℕ) (quota : ReserveOf) → shared_refusal {A = LeafAnswer} (jamboree hall.grain) hall.shared (Admit number quota) ≡ None → length hall.journals < 64
  is-free number quota none = grind (arith, length-accounts, few-journals, lacking, no-refusal, nat_tests)

  pub is-last : (number : ℕ) (quota : ReserveOf) → shared_refusal {A = LeafAnswer} (jamboree hall.grain) hall.shared (Admit number quota) ≡ None →
      inserted owner_of_journal (admitted_journal number quota) hall.journals ≡ hall.journals ++ admitted_journal number quota ∷ []
  is-last number quota none = grind (arith, numbered, no-refusal, push-inserted)

  -- an admission
  pub admitted : {number : ℕ} {quota : ReserveOf} {did : DidOf Leaf} {after : CoreState} → IsStepOf hall (Admit number quota) (Ok did) after →
      shared_refusal {A = LeafAnswer} (jamboree hall.grain) hall.shared (Admit number quota) ≡ None → IsWithinLimits quota → AreNumbersGiven after →
      IsHall (record hall { shared = after; journals = hall.journals ++ admitted_journal number quota ∷ [] }) number (count + 1)
  admitted {number} {quota} {did} {after} one none limit known =
      let passed = numbered number hall.shared.newest (no-refusal _ _ _ none).0 in
      let above : latest < number = omega (arith, passed.0, keeps.newest) in
      let journal = admitted_journal number quota in
      let begins = journal-begins (jamboree hall.grain) hall.shared number quota did after keeps.explained.known one in
      let own = push-own latest journal above hall.journals keeps.upto in
      changed one known (record {
        own = grind arith;
        searches = rw own (tt, tt);
        others = grind (arith, push-other);
        rising = grind (arith, rising-push, all-map);
        upto = grind (arith, push-upto);
        begun = grind (arith, all-push);
        newest = sym (newest-after keeps.explained one);
        numbers = passed.1;
        total = omega (arith, push-total journal hall.journals);
        bounded = omega (arith, keeps.bounded, length-append hall.journals (journal ∷ []), above);
      })

  -- a Leave
  pub leaves-off : {n : ℕ} {did : DidOf Leaf} {after : CoreState} → IsStepOf hall (Leave n) (Ok did) after → AreNumbersGiven after → LeavesOff hall latest count n after
  leaves-off {n} {did} {after} one known =
      let explained = keeps.explained in
      let gone_is = gone-after hall after n did explained.known one in
      let has = has-one hall.grain gone_is.0.0 hall.journals n (explained-some hall.grain gone_is.0.1 (explained.tenants n)) in
      let at = found-at n hall.journals has keeps.begun in
      let none = said-without-own owner_of_journal steps_of [] n hall.journals keeps.rising in
      let Q : Option Tenant → Type 0 = λ o. Explains (jamboree hall.grain) o (journal_in (without_journal n hall.journals) n) in
      record {
        has = has;
        keeps = changed one known (record {
          own = subst Q (sym gone_is.1) none;
          searches = rw none tt;
          others = grind (arith, said-without-other);
          rising = grind (arith, rising-without);
          upto = grind (arith, all-without);
          begun = grind (arith, all-without);
          newest = grind (arith, newest-after);
          numbers = omega (arith, keeps.newest, explained.numbers);
          total = omega (arith, without-total n hall.journals);
          bounded = grind (arith, length-without);
        });
      }

-- each tenant of a hall has searches alone
pub served : (grain : ℕ) (own : Option Tenant) (journal : List Step) → Explains (jamboree grain) own journal → AreSearches journal → ServesSearches own
served grain None journal explains searches = tt
served grain (Some tenant) journal explains searches = (origins_of journal, journal-searches grain journal tenant explains searches)

-- what is told of a job is told of the Submit of its number
pub answered : (grain : ℕ) (shared : CoreState) (n job : ℕ) (journal : List Step) (result : Option Outcomes) → Explains (jamboree grain) (tenant_in shared.tenants n) journal → AreSearches journal → IsOutcomeIn (job_of shared n job) result →
    ((origins : List (List ℕ)) (owner : Tenant) → tenant_in shared.tenants n ≡ Some owner → TenantSearches origins owner → AnswersTo (origin_at origins job) result) → AnswersTo (origin_at (origins_of journal) job) result
answered grain shared n job journal result explains searches is asked = by (tenant_in shared.tenants n) refl
  where
    by : (own : Option Tenant) → tenant_in shared.tenants n ≡ own → AnswersTo (origin_at (origins_of journal) job) result
    by None own =
        let P : Option Tenant → Type 0 = λ o. Explains (jamboree grain) o journal in
        let empty : journal ≡ [] = subst P own explains in
        let none : result ≡ None = rw own at is in
        rw (empty, none) tt
    by (Some owner) own =
        let P : Option Tenant → Type 0 = λ o. Explains (jamboree grain) o journal in
        asked (origins_of journal) owner own (journal-searches grain journal owner (subst P own explains) searches)

-- an Admit or a Leave of a tenant that has a job that ended: only its Leave
module _ (grain : ℕ) (before : CoreState) (number job : ℕ) (ended : Job) (known : AreNumbersGiven before) (at : job_of before number job ≡ Some ended) where
  stopped : (step : Step) (did : DidOf Leaf) → IsAnswerTo (jamboree grain) before step (Ok did) → is_appended step ≡ false → tenant_of step ≡ number → lets_go number step ≡ false → ⊥
  stopped (Admit n quota) did right stops mine stays =
      let t = step-taken (jamboree grain) before (Admit n quota) did known right in grind arith
  stopped (Leave n) did right stops mine stays = grind (arith, true≢false, eq-eqb)
  stopped _ did right stops mine stays = true≢false stops

module _ {hall : HallOf} (explained : IsExplained hall) {step : Step} where
  -- but for a Leave of its tenant, a job that has ended stays as it is
  pub ended-stays : (answer : Result (DidOf Leaf) Refusal) {after : CoreState} → IsStepOf hall step answer after → KeepsEndedJobs hall.shared step after
  ended-stays (Err refusal) one number job ended stays has at = rw one.left at
  ended-stays (Ok did) {after} one number job ended stays has at = grind (arith, own, eqb-true, others-stay, eqb-false)
    where
      own : tenant_of step ≡ number → job_of after number job ≡ Some ended
      own mine = elim (cases_Bool (is_appended step)) [
        | inl goes ↦ (let went = went-on explained one goes in
            let was : job_at went.tenant.jobs job ≡ Some ended = rw (← mine, went.was) at at in
            rw (← mine, went.is) ((step-ended (jamboree hall.grain) went.tenant step (Some went.next, went.told) went.taken) job ended has was))
        | inr stops ↦ absurd (stopped hall.grain hall.shared number job ended explained.known at step did one.answered stops mine stays)
      ]

  -- a step that submits nothing isn't refused by BadAct: by its journal, the jobs of its tenant are searches
  pub none-bad : {answer : Result (DidOf Leaf) Refusal} {after : CoreState} → submits step ≡ [] → IsStepOf hall step answer after → answer ≢ Err BadAct
  none-bad {answer} none one = tenant-none-bad hall.grain (origins_of journal) hall.shared step answer of-searches none one.answered
    where
      journal : List Step
      journal = journal_in hall.journals (tenant_of step)

      of-searches : IsOfSearches (origins_of journal) hall.shared step
      of-searches tenant at =
          let own = explained-some hall.grain at (explained.tenants (tenant_of step)) in
          ((told-by journal tenant own).shape, (journal-searches hall.grain journal tenant own (explained.searches (tenant_of step))).fits)
