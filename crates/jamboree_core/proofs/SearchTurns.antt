-- A tenant of searches takes at most sixteen steps for each node, whatever their order; and what lasts over its
-- journal (the list of its taken steps).
use Rattle.jamboree_core.proofs.Common.{◌≡◌, ℕ, inl, inr, true, false, List, [], ◌∷◌, Option, Some, Ok, ◌+◌, ◌≤◌, ◌==◌, if◌then◌else◌, arith, cases_Bool, eqb, neg_ℤ, frame_at, padded, Lists, IsRoot, jamboree, floor, Tenant, Leaf, LeafAnswer, StepOf, Outcome, lone_step, IsShaped, F, frame_of, ℤ, pos, ◌+ℤ◌, ◌*◌, ne_eqb, new_words, inlet-stores, turns_in, turns_of, HasSteps, extra_turns, Weight, ReserveOf, ◌++◌, None, Result, Err, refl, Refusal, NoTenant, Submit, Admit, lone, submits, origins_of, IsSearch, AreSearches, IsJournalOf, RootFits, nat_tests, has_one, left}
use Rattle.jamboree_core.proofs.Counts.{AreCounted, TenantCounts, children_for, fitting-above, counts-lawful, runs-else}
use Rattle.jamboree_core.proofs.Moves.{by-moves, by-inlet, by-answer}
use Rattle.jamboree_core.proofs.Weights.{UsesUp, Pays, IsAccount, Leaves, step-left, sum-member}
use Rattle.jamboree_core.proofs.Replying.{search-fits}
use Rattle.jamboree_core.proofs.JournalLemmas.{journal-lasts, FitsOn, fits-on}

-- a frame's weight is the steps that its words ask for: none once the frame has begun
abbrev turns : Weight
turns own above = extra_turns own

extra-few : (words : List ℕ) → extra_turns words ≤ 2
extra-few words = elim (cases_Bool ((frame_of words).phase == 0)) [ inl new ↦ rw new (omega arith) | inr begun ↦ rw begun (omega arith) ]

some-for : (k : ℕ) (children : Lists) → 1 ≤ children_for k children → has_one children ≡ true
some-for k [] some = absurd (omega arith)
some-for k (child ∷ children) some = grind (arith, nat_tests)

search-turns : (grain : ℕ) → UsesUp (jamboree grain) (AreCounted grain) IsRoot 1 16 0 turns
search-turns grain = record {
  next = λ origin own above older younger children fits parent. (
    by-moves grain origin own above older younger children fits.fits (fitting-above grain origin own above older younger parent)
        (λ g after. Pays 1 16 0 (extra_turns own) (if g.phase == 0 then 2 else 0) extra_turns children after) (record {
          at_computed = λ o p phase. rw phase (omega arith);
          at_opened = λ o p phase board deep deeper. rw phase (omega arith);
          at_first = λ phase none. (let f = frame_of own in let few = extra-few (new_words f 1 0 (neg_ℤ f.beta) (neg_ℤ f.alpha)) in omega (arith, few));
          at_again = λ j phase inside failed. (let f = frame_of own in let few = extra-few (new_words f 3 j (neg_ℤ f.beta) (neg_ℤ (floor f))) in omega (arith, few));
          at_test = λ phase inside. (let f = frame_of own in let few = extra-few (new_words f 2 f.spawned (neg_ℤ (floor f +ℤ pos 1)) (neg_ℤ (floor f))) in omega (arith, few));
          at_settled = λ phase. omega arith;
          at_first_wait = λ phase some. (omega arith, inr (some-for 0 children (fits.runs.first phase 0 (omega (arith, some)))));
          at_tests_wait = λ j phase inside not2 not3 far. (omega arith, inr (some-for j children (fits.runs.tests phase j (omega (arith, inside, far)) not2 not3)));
          at_done = λ phase. omega arith;
        }),
    inr (λ child. omega arith),
  );
  inlet = λ own child before behind above fits returned. (
    by-inlet own child before behind fits.fits returned.fits (λ g cuts. (if g.phase == 0 then 2 else 0) ≤ extra_turns own)
        (rw (ne_eqb _ 0 (inlet-stores own child before behind fits.fits returned.fits).known) (omega arith)),
    λ child. omega arith,
  );
  accept = λ own answer above fits. by-answer own answer fits.fits (λ g. (if g.phase == 0 then 2 else 0) ≤ extra_turns own) (omega arith);
}

-- sixteen steps a node
abbrev HasTurns : (steps serials : ℕ) → ReserveOf → ℕ → Type 0
HasTurns steps serials quota sum = steps + sum ≤ 16 * serials

turns-account : IsAccount 1 16 0 turns_in HasTurns
turns-account = grind arith

pub step-turns : {grain : ℕ} {origins : Lists} {tenant : Tenant} (shape : IsShaped tenant) (counts : TenantCounts grain origins tenant) (has : HasSteps extra_turns tenant)
    (step : StepOf LeafAnswer) (outcome : Outcome Leaf) → lone_step (jamboree grain) tenant step ≡ Ok outcome → Leaves turns_in turns HasTurns outcome.0
step-turns {grain} shape counts has step outcome is =
    step-left (search-turns grain) turns-account shape counts has step outcome (λ number words size submit. let few = extra-few (padded words size) in omega (arith, few, has)) is

-- while there is a frame, a step is left
pub step-found : (tenant : Tenant) → IsShaped tenant → HasSteps extra_turns tenant → (s : ℕ) (f : F) → frame_at tenant.frames s ≡ Some f → eqb (left tenant).steps 0 ≡ false
step-found tenant shape has s f at =
    let own = sum-member (turns_of extra_turns) tenant.frames s f at in
    let some : 1 ≤ turns_in f.state = grind arith in
    let opened = shape.opened in
    ne_eqb (left tenant).steps 0 (λ none. absurd (omega (arith, none, own, some, opened, has)))

module _ (grain : ℕ) where
  -- a new root has no places yet, and has done nothing
  counted-root : (step : StepOf LeafAnswer) → IsSearch step → RootFits (AreCounted grain) IsRoot step
  counted-root (Submit number words size) search =
      let fit = search-fits (Submit number words size) search in
      let new : (frame_of (padded words size)).phase ≡ 0 = rw search.0.are refl in (
        record {
          fits = fit.0;
          counted = λ some. absurd (some (rw (search.0.are, search.1) refl));
          runs = runs-else _ [] (λ e. absurd (omega (arith, e, new))) (λ e. absurd (omega (arith, e, new)));
        },
        fit.1,
      )
  counted-root _ search = tt

  -- a tenant of searches: its shape, its frames, and its steps
  abbrev CountsOn : List (List ℕ) → Option Tenant → Type 0
  CountsOn origins tenant = FitsOn (AreCounted grain) origins tenant × Leaves turns_in turns HasTurns tenant

  counts-on : (origins : List (List ℕ)) (before : Option Tenant) (step : StepOf LeafAnswer) (outcome : Outcome Leaf) → IsSearch step → lone (jamboree grain) before step ≡ Ok outcome →
      (before ≡ None → origins ≡ []) → CountsOn origins before → CountsOn (origins ++ submits step) outcome.0
  counts-on origins before step outcome search is none has =
      (fits-on grain (AreCounted grain) (counts-lawful grain) counted-root outcome origins before step search is none has.0, steps before step is has)
    where
      steps : (before : Option Tenant) (step : StepOf LeafAnswer) → lone (jamboree grain) before step ≡ Ok outcome → CountsOn origins before → Leaves turns_in turns HasTurns outcome.0
      steps (Some tenant) step is has = step-turns has.0.0 has.0.1 has.1 step outcome is
      steps None (Admit number quota) is has = grind arith
      steps None _ is has = (let no : ◌≡◌ {A = Result (Outcome Leaf) Refusal} (Err NoTenant) (Ok outcome) = is in absurd cc)

  -- a tenant by its journal
  module _ (journal : List (StepOf LeafAnswer)) (tenant : Tenant) (is : IsJournalOf (jamboree grain) journal tenant) (searches : AreSearches journal) where
    pub journal-counts : IsShaped tenant × TenantCounts grain (origins_of journal) tenant × HasSteps extra_turns tenant
    journal-counts = let lasts = journal-lasts grain CountsOn counts-on ((tt, tt), tt) journal tenant is searches in (lasts.0.0, lasts.0.1, lasts.1)

    pub journal-left : (serial : ℕ) (f : F) → frame_at tenant.frames serial ≡ Some f → eqb (left tenant).steps 0 ≡ false
    journal-left serial f at = step-found tenant journal-counts.0 journal-counts.2 serial f at
