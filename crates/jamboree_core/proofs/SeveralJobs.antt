-- A tenant of searches with several jobs that live: where the sums of what suffices for them are within its reservation,
-- none of its jobs can be spent.
use Rattle.jamboree_core.proofs.Common.{◌≡◌, ℕ, List, [], ◌∷◌, ◌++◌, Option, Some, None, Result, Ok, Err, ◌+◌, ◌≤◌, arith, sum_by-append, sum_by-cons, Refusal, NoTenant, NotSpent, F, frame_at, Tenant, Outcome, lone, lone_refusal, StepOf, Admit, Submit, Spend, submits, origins_of, Leaf, LeafAnswer, Cell, cells_of, jamboree, padded, AreFitting, frame_size, IsSearch, AreRootWords, AreSearches, IsJournalOf, Cost, IsEnough, enough_nodes, still_opens, Size, IsRoomy, enough_segments, root_weight, board_nodes, board_segments, IsStillPaid, IsPaidToo, HasSums, FindsSums, EachFindsSums, FindsRoom, nodes_of_all, asked_nodes, asked_segments}
use Rattle.jamboree_core.proofs.Weights.{step-room}
use Rattle.jamboree_core.proofs.Needs.{search-uses}
use Rattle.jamboree_core.proofs.Replying.{search-fits, lawful}
use Rattle.jamboree_core.proofs.JournalLemmas.{all-lasts, journal-lasts, FitsOn, fits-on}
use Rattle.jamboree_core.proofs.LiveSums.{roots-within}
use Rattle.jamboree_core.proofs.NeverSpent.{HasOn, has-on, spend-refused}

-- more nodes where one more search is asked for
nodes-more : (grain : ℕ) (origins more : List (List ℕ)) → nodes_of_all grain (origins ++ more) ≡ nodes_of_all grain origins + nodes_of_all grain more
nodes-more grain origins more = sum_by-append (asked_nodes grain) origins more

module _ (grain : ℕ) {cost : Cost} {size : Size} (enough : IsEnough grain cost) (roomy : IsRoomy grain size)
    (nodes : (depth : ℕ) (b : List Cell) → enough_nodes cost depth b ≤ board_nodes depth grain b)
    (segments : (depth : ℕ) (b : List Cell) → enough_segments size depth b ≤ board_segments depth grain b) where
  -- what the root of a search that is asked for takes
  module _ (words : List ℕ) (root_size : ℕ) (asks : AreRootWords words × (root_size ≡ frame_size)) where
    root-node : 1 + still_opens cost (padded words root_size) None ≤ asked_nodes grain words
    root-node = rw asks.0.are (let most = nodes asks.0.depth (cells_of asks.0.own asks.0.opp) in omega (arith, most))

    root-segment : root_weight size (padded words root_size) None ≤ asked_segments grain words
    root-segment = rw asks.0.are (let most = segments asks.0.depth (cells_of asks.0.own asks.0.opp) in omega (arith, most))

  -- what a tenant opened, and what its frames may still open, is within the sum for all that it asked for
  abbrev IsCounted : List (List ℕ) → Option Tenant → Type 0
  IsCounted origins tenant = IsStillPaid 1 (still_opens cost) (λ quota. nodes_of_all grain origins) tenant

  -- a new root
  root-counted : (origins : List (List ℕ)) (tenant : Tenant) (step : StepOf LeafAnswer) → IsSearch step → IsCounted origins (Some tenant) →
      IsPaidToo 1 (still_opens cost) (λ quota. nodes_of_all grain (origins ++ submits step)) tenant step
  root-counted origins tenant (Submit number words frame) asks has =
      let more = nodes-more grain origins (words ∷ []) in
      let one = root-node words frame asks in
      let own : nodes_of_all grain (words ∷ []) ≡ asked_nodes grain words + 0 = sum_by-cons (asked_nodes grain) words [] in
      omega (arith, more, one, own, has)
  root-counted origins tenant _ asks has = tt

  counted-on : (origins : List (List ℕ)) (before : Option Tenant) (step : StepOf LeafAnswer) (outcome : Outcome Leaf) → IsSearch step → lone (jamboree grain) before step ≡ Ok outcome →
      FitsOn AreFitting origins before → IsCounted origins before → IsCounted (origins ++ submits step) outcome.0
  counted-on origins None (Admit number quota) outcome search is fits has = grind arith
  counted-on origins None _ outcome search is fits has = (let no : ◌≡◌ {A = Result (Outcome Leaf) Refusal} (Err NoTenant) (Ok outcome) = is in absurd cc)
  counted-on origins (Some tenant) step outcome search is fits has =
      let more = nodes-more grain origins (submits step) in
      step-room (search-uses grain cost enough) fits.0 fits.1 {bound = λ quota. nodes_of_all grain (origins ++ submits step)} (λ now quota raised. omega arith) (omega (arith, more, has)) step outcome
      (root-counted origins tenant step search has) is

  module _ (journal : List (StepOf LeafAnswer)) (tenant : Tenant) (is : IsJournalOf (jamboree grain) journal tenant) (searches : AreSearches journal) (number serial : ℕ) (frame : F)
      (at : frame_at tenant.frames serial ≡ Some frame) where
    -- where the sums are within the reservation now
    pub sums-refused : HasSums grain (origins_of journal) tenant → lone_refusal {A = LeafAnswer} (jamboree grain) (Some tenant) (Spend (record { tenant = number; serial = serial })) ≡ Some NotSpent
    sums-refused sums =
        let has = journal-lasts grain (λ origins owner. FitsOn AreFitting origins owner × IsCounted origins owner)
        (λ origins before step outcome search came none has. (fits-on grain AreFitting (lawful grain) search-fits outcome origins before step search came none has.0, counted-on origins before step outcome search came has.0 has.1))
        ((tt, tt), tt) journal tenant is searches in
        let opened = has.1 in
        let live = roots-within grain size segments has.0.0 has.0.1 in
        let least = sums.nodes in
        let room = sums.segments in
        spend-refused grain is searches enough roomy (omega (arith, opened, least)) (omega (arith, live, room)) serial frame at number

    -- where each Submit finds them so
    abbrev SumsOn : List (List ℕ) → Option Tenant → Type 0
    SumsOn origins owner = HasOn grain enough roomy origins owner × IsCounted origins owner

    sums-find : (origins : List (List ℕ)) (before : Option Tenant) (step : StepOf LeafAnswer) → SumsOn origins before → IsSearch step → FindsSums grain origins before step → FindsRoom cost size before step
    sums-find origins None step has asks finds = tt
    sums-find origins (Some owner) (Submit job words frame_of_root) has asks finds =
        let opened = has.1 in
        let live = roots-within grain size segments has.0.0.0 has.0.0.1 in
        let one = root-node words frame_of_root asks in
        let root = root-segment words frame_of_root asks in
        let least = finds.0 in
        let room = finds.1 in
        (omega (arith, opened, one, least), omega (arith, live, root, room))
    sums-find origins (Some owner) _ has asks finds = (tt, tt)

    pub each-refused : EachFindsSums grain [] None journal → lone_refusal {A = LeafAnswer} (jamboree grain) (Some tenant) (Spend (record { tenant = number; serial = serial })) ≡ Some NotSpent
    each-refused each =
        let has = all-lasts grain (λ origins before steps. AreSearches steps × EachFindsSums grain origins before steps) (λ origins before step. IsSearch step × FindsSums grain origins before step)
        (λ origins before step steps both. ((both.0.0, both.1.0), (both.0.1, both.1.1))) SumsOn
        (λ origins before step outcome meets came none has. (
          has-on grain enough roomy origins before step outcome meets.0 (sums-find origins before step has meets.0 meets.1) came none has.0,
          counted-on origins before step outcome meets.0 came has.0.0 has.1,
        )) (((tt, tt), (tt, tt)), tt) journal tenant is (searches, each) in
        spend-refused grain is searches enough roomy has.0.1.0 has.0.1.1 serial frame at number
