-- A tenant of searches that reserved enough nodes and segments is never refused one, and no job of it is spent (ended
-- as it couldn't go on within the reservation).
use Rattle.jamboree_core.proofs.Common.{◌≡◌, ◌≢◌, ℕ, false, not, ◌&&◌, List, [], Some, None, Ok, refl, ◌≤◌, arith, not-false, frame_at, Tenant, Outcome, is_run_by, act_by_sight, advance_tests, ◌==◌, run-free, IsShaped, F, Leaf, LeafAnswer, jamboree, StepOf, Advance, FrameId, lone_step, TenantSearches, Submit, cells_of, root_words, padded, NoNodes, lone_refusal, frame_size, ltb-false, or_parts, HasNodes, HasNodesToo, StillHasNodes, Cost, IsEnough, enough_nodes, root_cost, still_opens, found-own, inl, inr, cases_Bool, ne_eqb, common_steps, ◌⊎◌, Bool, true, ◌∷◌, ◌++◌, Option, length, ap, ◌∙◌, ◌+◌, tree-rising, replicate, with_frame_words, Neither, new_frame, is_outside, advanced, then_done, counted, holding, stored, grown, is_bad_act, has_child, LeftShaped, LeftFits, TenantFits, step-shaped, step-fits, Lists, Refusal, Act, Continuation, Grow, Spawn, Wait, AreFitting, IsRoot, board, frame_of, next_act, inlet_act, accepts, le-ltb, leb-true, nat_lt, length-padded, length-stored, is_bad_then, charged_for, charge, weight_in, IsStillPaid, charged-with_frame_words, charged-append, charged-one, with_frame_words-twice, AllPass, formed-told, StandsUnder, frame_after, next-goes, inlet-stores, answer-good, answered_frame, Size, IsRoomy, enough_segments, root_weight, HasSegments, Cell, Result, Err, false≢true, eq-eqb, NoTenant, Admit, ReserveOf, parent_of, State, Running, is_returned, has-returned, Spend, NotSpent, IsJournalOf, AreSearches, origins_of, is_spendable, lone, IsSearch, submits, or_from, is_run, applies, act_tests, is_bad_inlet, board_nodes, board_segments, FindsEnough, EachFindsEnough, FindsRoom, EachFindsRoom, HasSegmentsToo, StillHasSegments, is_spawn, is_lower, left, and_parts, segments_for, Frame}
use Rattle.jamboree_core.proofs.Weights.{step-room, node-paid, nearest_words, Pays, UsesUp}
use Rattle.jamboree_core.proofs.Needs.{search-uses}
use Rattle.jamboree_core.proofs.Possible.{frame-none-by, act-good, inlet-good}
use Rattle.jamboree_core.proofs.Counts.{AreCounted, TenantCounts, counts-lawful}
use Rattle.jamboree_core.proofs.Moves.{by-inlet, by-answer}
use Rattle.jamboree_core.proofs.Rooms.{search-charged}
use Rattle.jamboree_core.proofs.Replying.{search-fits, lawful}
use Rattle.jamboree_core.proofs.JournalLemmas.{journal-searches, all-lasts, FitsOn, fits-on}
use Rattle.jamboree_core.proofs.SearchTurns.{journal-left, journal-counts}

-- a raise lowers no number
pub more-nodes : (now quota : ReserveOf) → is_lower now quota ≡ false → now.nodes ≤ quota.nodes
more-nodes now quota enough = ltb-false quota.nodes now.nodes (or_parts _ _ (or_parts _ _ enough).0).1

pub more-segments : (now quota : ReserveOf) → is_lower now quota ≡ false → now.segments ≤ quota.segments
more-segments now quota enough = ltb-false quota.segments now.segments (or_parts _ _ (or_parts _ _ enough).0).0

module _ {grain : ℕ} {cost : Cost} {origins : List (List ℕ)} {tenant : Tenant} (enough : IsEnough grain cost) (shape : IsShaped tenant)
    (searches : TenantSearches origins tenant) (has : HasNodes cost tenant) where
  pub node-there : (worker : ℕ) (f : F) → frame_at tenant.frames f.serial ≡ Some f → not (is_run_by worker f.state) ≡ false →
      (is_spawn (act_by_sight (jamboree grain) tenant f).after && ((left tenant).nodes == 0)) ≡ false
  node-there worker f at runs = elim (cases_Bool (is_spawn (act_by_sight (jamboree grain) tenant f).after)) [
    | inl spawns ↦ (let room = node-paid (search-uses grain cost enough) shape searches.fits more-nodes has f at (run-free worker f.state (not-false (is_run_by worker f.state) runs)) spawns in
        rw spawns (ne_eqb (left tenant).nodes 0 (λ none. absurd (omega (arith, none, room)))))
    | inr other ↦ rw other refl
  ]

  pub never-without-nodes : (worker : ℕ) (name : FrameId) → lone_refusal {A = LeafAnswer} (jamboree grain) (Some tenant) (Advance worker name) ≢ Some NoNodes
  never-without-nodes worker name = frame-none-by NoNodes (λ e. absurd cc) tenant.frames name.serial (λ f. advance_tests tenant worker f (act_by_sight (jamboree grain) tenant f)) _ (λ f at.
      ((λ e. absurd cc), λ runs. ((λ e. absurd cc), λ n. ((λ e. absurd cc), λ n. ((λ e. node-there worker f (found-own tenant.frames name.serial f at) runs), λ n. ((λ e. absurd cc), λ n. tt))))))

-- a tenant without a frame has its nodes
module _ (cost : Cost) (tenant : Tenant) (shape : IsShaped tenant) (idle : tenant.frames ≡ []) where
  pub begins : (number own opp depth : ℕ) → enough_nodes cost depth (cells_of own opp) ≤ (left tenant).nodes →
      HasNodes cost tenant × HasNodesToo {A = LeafAnswer} cost tenant (Submit number (root_words own opp depth) frame_size)
  begins number own opp depth room =
      let opened = shape.opened in
      let same : still_opens cost (padded (root_words own opp depth) frame_size) None ≡ root_cost cost depth false (cells_of own opp) = refl in
      (rw idle (omega (arith, opened)), rw idle (omega (arith, opened, room, same)))

-- The sizes of roots stay: those of frames of the same board and depth.
module _ (size : Size) (own : List ℕ) where
  same-root : (g : Frame) → g.depth ≡ (frame_of own).depth → g.own ≡ (frame_of own).own → g.opp ≡ (frame_of own).opp → enough_segments size g.depth (board g) ≤ root_weight size own None
  same-root g depth own_is opp_is = rw (depth, own_is, opp_is) (omega arith)

  same-weight : (left : List ℕ) (above : Option (List ℕ)) → root_weight size left None ≤ root_weight size own None → root_weight size left above ≤ root_weight size own above
  same-weight left None less = less
  same-weight left (Some parent) less = omega arith

pays-free : (left own : ℕ) (children : Lists) (after : Continuation) → left ≤ own → Pays 0 0 0 own left (λ words. 0) children after
pays-free left own children Wait less = (less, inl refl)
pays-free left own children _ less = omega (arith, less)

module _ (grain : ℕ) (size : Size) where
  next-less : (origin own : List ℕ) (above older younger children : Lists) → AreFitting own children Neither → StandsUnder origin above older younger own →
      let act = next_act grain (own ∷ above) in root_weight size (grown act.after (stored act.stores own)) (nearest_words above) ≤ root_weight size own (nearest_words above)
  next-less origin own [] older younger children fits parent =
      let goes = next-goes grain origin own [] older younger children fits parent in
      let act = next_act grain (own ∷ []) in
      same-root size own (frame_of (grown act.after (stored act.stores own))) goes.2.goal.depth (goes.2.own_is ∙ goes.3.0) (goes.2.opp_is ∙ goes.3.1)
  next-less origin own (q ∷ above) older younger children fits parent = omega arith

  pub roots-use : UsesUp (jamboree grain) AreFitting IsRoot 0 0 0 (root_weight size)
  roots-use = record {
    next = λ origin own above older younger children fits parent. (let act = next_act grain (own ∷ above) in (
      pays-free (root_weight size (grown act.after (stored act.stores own)) (nearest_words above)) (root_weight size own (nearest_words above)) children act.after
          (next-less origin own above older younger children fits parent),
      inr (λ child. omega arith),
    ));
    inlet = λ own child before behind above fits returned. (let s = inlet-stores own child before behind fits returned in (
      same-weight size own (stored (inlet_act own child).stores own) above (by-inlet own child before behind fits returned (λ g cuts. enough_segments size g.depth (board g) ≤ root_weight size own None)
          (same-root size own (frame_after (frame_of own) (frame_of child)) s.goal.depth s.own_is s.opp_is)),
      λ words. omega arith,
    ));
    accept = λ own answer above fits. (let s = answer-good own answer (formed-told own fits.formed) fits.frame.marked in
        same-weight size own (stored (accepts own answer) own) above (by-answer own answer fits (λ g. enough_segments size g.depth (board g) ≤ root_weight size own None)
        (same-root size own (answered_frame (frame_of own) answer) s.goal.depth s.own_is s.opp_is)));
  }

-- what a tenant, if it is there, is charged, is at most n
abbrev ChargedAtMost : ℕ → Option Tenant → Type 0
ChargedAtMost n None = Unit {0}
ChargedAtMost n (Some tenant) = charged_for tenant.frames ≤ n

-- An act that can be done finds its segments: in a reservation with room for it, it leaves a tenant whose charges are within its
-- roots' sizes.
module _ {grain : ℕ} {size : Size} {origins : Lists} {tenant : Tenant} (roomy : IsRoomy grain size) (shape : IsShaped tenant)
    (fits : TenantFits AreFitting IsRoot origins tenant) (counts : TenantCounts grain origins tenant) (has : HasSegments size tenant)
    (f : F) (at : frame_at tenant.frames f.serial ≡ Some f) (worker : ℕ) (runs : is_run_by worker f.state ≡ true) where
  abbrev act : Act
  act = act_by_sight (jamboree grain) tenant f

  abbrev words : List ℕ
  words = stored act.stores f.value

  abbrev asked : ℕ
  asked = segments_for f act.after

  abbrev roots : ℕ
  roots = weight_in (root_weight size) tenant.frames

  -- the tenant with more reserved
  abbrev big : Tenant
  big = record tenant { reserve = record { segments = tenant.reserve.segments + asked; nodes = tenant.reserve.nodes + 1 } }

  abbrev name : FrameId
  name = record { tenant = 0; serial = f.serial }

  big-shaped : IsShaped big
  big-shaped = grind arith

  module _ (good : is_bad_act f.value (has_child tenant.frames f.serial) act ≡ false) where
    all-pass : AllPass (advance_tests big worker f act)
    all-pass = (
      rw runs refl,
      (
        ne_eqb (left big).steps 0 (λ none. absurd (let ticks = shape.ticks in omega (arith, none, ticks))),
        (good, (nodes (is_spawn act.after), (le-ltb (left big).segments asked (let charged = shape.charged in omega (arith, charged)), tt))),
      ),
    )
      where
        nodes : (spawns : Bool) → (spawns && ((left big).nodes == 0)) ≡ false
        nodes true = ne_eqb (left big).nodes 0 (λ none. absurd (let opened = shape.opened in omega (arith, none, opened)))
        nodes false = refl

    taken : lone_step (jamboree grain) big (Advance worker name) ≡ Ok (advanced (jamboree grain) big worker name f act)
    taken = rw (at, all-pass.0, all-pass.1.0, all-pass.1.1.0, all-pass.1.1.1.0, all-pass.1.1.1.1.0) refl

    after-charged : ChargedAtMost roots (advanced (jamboree grain) big worker name f act).0
    after-charged =
        by (advanced (jamboree grain) big worker name f act).0
        (step-shaped (jamboree grain) big (Advance worker name) (advanced (jamboree grain) big worker name f act) taken big-shaped)
        (step-fits (jamboree grain) (AreCounted grain) IsRoot origins big (Advance worker name) (advanced (jamboree grain) big worker name f act) (counts-lawful grain) big-shaped
        (record { frames = counts.frames; jobs = counts.jobs }) tt taken)
        (step-room (roots-use grain size) big-shaped (record { frames = fits.frames; jobs = fits.jobs }) {bound = λ quota. roots} (λ now quota enough. omega arith) (omega arith)
        (Advance worker name) (advanced (jamboree grain) big worker name f act) tt taken)
      where
        by : (o : Option Tenant) → LeftShaped o → LeftFits (AreCounted grain) IsRoot (origins ++ []) o → IsStillPaid 0 (root_weight size) (λ quota. roots) o → ChargedAtMost roots o
        by None shaped counted within = tt
        by (Some t) shaped counted within = let charged = search-charged roomy shaped counted in omega (arith, charged, within)

    -- what a longer frame and a new child are charged
    charged-more : (after : Continuation) → is_bad_then (length f.value) (has_child tenant.frames f.serial) after ≡ false →
        ChargedAtMost roots (then_done (jamboree grain) (counted (holding f.serial words big)) worker name (record f { value = words }) after).0 →
        (segments_for f after ≡ 0) ⊎ (charged_for tenant.frames + segments_for f after ≤ roots)
    charged-more (Grow more) fine most =
        let charged = charged-with_frame_words f.serial (words ++ replicate more 0) tenant.frames f (tree-rising tenant.frames shape.tree) at in
        let long : length (words ++ replicate more 0) ≡ length f.value + more = grind (arith, common_steps, length-stored act.stores f.value) in
        inr (omega (arith, charged, ap charge long, ap charged_for (with_frame_words-twice f.serial words (words ++ replicate more 0) tenant.frames), most))
    charged-more (Spawn given frame_size) fine most =
        let charged = charged-with_frame_words f.serial words tenant.frames f (tree-rising tenant.frames shape.tree) at in
        let new : F = new_frame (with_frame_words f.serial words tenant.frames) (tenant.serials + 1) (Some f.serial) worker (padded given frame_size) in
        let more = charged-append (with_frame_words f.serial words tenant.frames) (new ∷ []) in
        let long = length-padded given frame_size (grind (arith, and_parts, not-false, leb-true)) in
        inr (omega (arith, charged, ap charge (length-stored act.stores f.value), more, charged-one new, ap charge long, most))
    charged-more _ fine most = inl refl

    pub segments-found : nat_lt (left tenant).segments asked ≡ false
    segments-found =
        let fine = (or_parts (is_outside act.stores f.value) (is_bad_then (length f.value) (has_child tenant.frames f.serial) act.after) good).1 in
        elim (charged-more act.after fine after-charged) [
          | inl none ↦ le-ltb (left tenant).segments asked (omega (arith, none))
          | inr most ↦ le-ltb (left tenant).segments asked (omega (arith, most, has))
        ]

-- who runs a frame
runner : (state : State) → is_run state ≡ true → (worker : ℕ) × (is_run_by worker state ≡ true)
runner (Running worker) is = (worker, eq-eqb worker worker refl)
runner _ is = absurd (false≢true is)

-- a tenant without a frame has its segments
pub segments-begin : (size : Size) (tenant : Tenant) → IsShaped tenant → tenant.frames ≡ [] → (number own opp depth : ℕ) → enough_segments size depth (cells_of own opp) ≤ (left tenant).segments →
    HasSegments size tenant × HasSegmentsToo {A = LeafAnswer} size tenant (Submit number (root_words own opp depth) frame_size)
segments-begin size tenant shape idle number own opp depth room =
    let same : root_weight size (padded (root_words own opp depth) frame_size) None ≡ enough_segments size depth (cells_of own opp) = refl in
    let none : charged_for tenant.frames ≡ 0 = rw idle refl in
    (rw idle (omega arith), rw idle (omega (arith, room, same, none)))

module _ (grain : ℕ) {journal : List (StepOf LeafAnswer)} {tenant : Tenant} (is : IsJournalOf (jamboree grain) journal tenant) (searches : AreSearches journal) where
  shape : IsShaped tenant
  shape = (journal-counts grain journal tenant is searches).0

  searching : TenantSearches (origins_of journal) tenant
  searching = journal-searches grain journal tenant is searches

  counts : TenantCounts grain (origins_of journal) tenant
  counts = (journal-counts grain journal tenant is searches).1

  module _ {cost : Cost} {size : Size} (enough : IsEnough grain cost) (roomy : IsRoomy grain size) (nodes : HasNodes cost tenant) (segments : HasSegments size tenant)
      (s : ℕ) (f : F) (at : frame_at tenant.frames s ≡ Some f) where
    -- the act of a frame that runs can be done
    act-found : is_run f.state ≡ true → applies (act_tests tenant f (act_by_sight (jamboree grain) tenant f)) ≡ false
    act-found runs =
        let worker = runner f.state runs in
        let at_own = found-own tenant.frames s f at in
        let good = act-good grain (origins_of journal) tenant shape searching.fits s f at (run-free worker.0 f.state worker.1) in
        let node = node-there enough shape searching nodes worker.0 f at_own (rw worker.1 refl) in
        let found = segments-found roomy shape searching.fits counts segments f at_own worker.0 worker.1 good in
        or_from _ _ good (or_from _ _ node (or_from _ _ found refl))

    -- the inlet of a frame that has returned stores in its parent
    inlet-found : is_returned f.state ≡ true → is_bad_inlet (jamboree grain) tenant f (parent_of f.path) ≡ false
    inlet-found returned = grind (arith, inlet-good grain (origins_of journal) tenant shape searching.fits s, has-returned)

    not-spendable : is_spendable (jamboree grain) tenant f ≡ false
    not-spendable = grind (arith, journal-left grain journal tenant is searches s f at, act-found, inlet-found)

    pub spend-refused : (tenant_number : ℕ) → lone_refusal {A = LeafAnswer} (jamboree grain) (Some tenant) (Spend (record { tenant = tenant_number; serial = s })) ≡ Some NotSpent
    spend-refused tenant_number = rw (at, not-spendable) refl

-- A tenant that has the nodes and the segments for each search that it asks for has them after each step.

module _ (grain : ℕ) {cost : Cost} {size : Size} (enough : IsEnough grain cost) (roomy : IsRoomy grain size) where
  abbrev pub HasOn : List (List ℕ) → Option Tenant → Type 0
  HasOn origins tenant = FitsOn AreFitting origins tenant × (StillHasNodes cost tenant × StillHasSegments size tenant)

  has-begun : (step : StepOf LeafAnswer) (outcome : Outcome Leaf) → lone (jamboree grain) None step ≡ Ok outcome → StillHasNodes cost outcome.0 × StillHasSegments size outcome.0
  has-begun (Admit number quota) outcome is = grind arith
  has-begun _ outcome is = (let no : ◌≡◌ {A = Result (Outcome Leaf) Refusal} (Err NoTenant) (Ok outcome) = is in absurd cc)

  pub has-on : (origins : List (List ℕ)) (before : Option Tenant) (step : StepOf LeafAnswer) (outcome : Outcome Leaf) → IsSearch step → FindsRoom cost size before step →
      lone (jamboree grain) before step ≡ Ok outcome → (before ≡ None → origins ≡ []) → HasOn origins before → HasOn (origins ++ submits step) outcome.0
  has-on origins None step outcome search finds is none has = (fits-on grain AreFitting (lawful grain) search-fits outcome origins None step search is none has.0, has-begun step outcome is)
  has-on origins (Some tenant) step outcome search finds is none has = (
    fits-on grain AreFitting (lawful grain) search-fits outcome origins (Some tenant) step search is none has.0,
    (
      step-room (search-uses grain cost enough) has.0.0 has.0.1 more-nodes has.1.0 step outcome finds.0 is,
      step-room (roots-use grain size) has.0.0 has.0.1 more-segments has.1.1 step outcome finds.1 is,
    ),
  )

  -- of a journal, each Submit of which finds them
  module _ (journal : List (StepOf LeafAnswer)) (tenant : Tenant) (is : IsJournalOf (jamboree grain) journal tenant) (searches : AreSearches journal) (number serial : ℕ) (frame : F)
      (at : frame_at tenant.frames serial ≡ Some frame) where
    pub rooms-refused : EachFindsRoom grain cost size None journal → lone_refusal {A = LeafAnswer} (jamboree grain) (Some tenant) (Spend (record { tenant = number; serial = serial })) ≡ Some NotSpent
    rooms-refused each =
        let has = all-lasts grain (λ origins before steps. AreSearches steps × EachFindsRoom grain cost size before steps) (λ origins before step. IsSearch step × FindsRoom cost size before step)
        (λ origins before step steps both. ((both.0.0, both.1.0), (both.0.1, both.1.1))) HasOn (λ origins before step outcome meets. has-on origins before step outcome meets.0 meets.1)
        ((tt, tt), (tt, tt)) journal tenant is (searches, each) in
        spend-refused grain is searches enough roomy has.1.0 has.1.1 serial frame at number

    module _ (nodes : (depth : ℕ) (b : List Cell) → enough_nodes cost depth b ≤ board_nodes depth grain b)
        (segments : (depth : ℕ) (b : List Cell) → enough_segments size depth b ≤ board_segments depth grain b) where
      -- one that has enough left for it, and no other search, has them
      enough-finds : (before : Option Tenant) (step : StepOf LeafAnswer) → LeftShaped before → IsSearch step → FindsEnough grain before step → FindsRoom cost size before step
      enough-finds None step fit asks finds = tt
      enough-finds (Some owner) (Submit number words frame) fit asks finds =
          let has = rw asks.0.are at finds in
          let of_nodes = nodes asks.0.depth (cells_of asks.0.own asks.0.opp) in
          let of_segments = segments asks.0.depth (cells_of asks.0.own asks.0.opp) in
          rw asks.0.are (
            (begins cost owner fit has.idle number asks.0.own asks.0.opp asks.0.depth (omega (arith, of_nodes, has.nodes))).1,
            (segments-begin size owner fit has.idle number asks.0.own asks.0.opp asks.0.depth (omega (arith, of_segments, has.segments))).1,
          )
      enough-finds (Some owner) _ fit asks finds = (tt, tt)

      pub asks-refused : EachFindsEnough grain None journal → lone_refusal {A = LeafAnswer} (jamboree grain) (Some tenant) (Spend (record { tenant = number; serial = serial })) ≡ Some NotSpent
      asks-refused each =
          let has = all-lasts grain (λ origins before steps. AreSearches steps × EachFindsEnough grain before steps) (λ origins before step. IsSearch step × FindsEnough grain before step)
          (λ origins before step steps both. ((both.0.0, both.1.0), (both.0.1, both.1.1))) HasOn
          (λ origins before step outcome meets came none has. has-on origins before step outcome meets.0 (enough-finds before step has.0.0 meets.0 meets.1) came none has)
          ((tt, tt), (tt, tt)) journal tenant is (searches, each) in
          spend-refused grain is searches enough roomy has.1.0 has.1.1 serial frame at number
