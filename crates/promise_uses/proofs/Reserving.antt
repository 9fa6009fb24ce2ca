-- For the uses of the law on what suffices: lists of steps that ask for searches with enough reserved.
use Rattle.promise_uses.proofs.Common.{◌≡◌, ℕ, List, [], ◌∷◌, ◌++◌, Option, Some, None, ap, ◌∙◌, ◌≤◌, arith, StepOf, Submit, Tenant, left_of, alone_from, AreSearches, jamboree, root_words, sum_by-cons}
use Rattle.othello_board.specs.Words.{cells_of}
use Rattle.sched_rules.specs.Lone.{lone}
use Rattle.sched_rules.specs.Runs.{state_after}
use Rattle.sched_laws.specs.Fitted.{origins_of}
use Rattle.jamboree_rules.specs.declared.leaf.LeafAnswer.{LeafAnswer}
use Rattle.jamboree_core.specs.Replies.{IsSearch}
use Rattle.sched_rules.specs.declared.job.Job.TheVariants.{Live, Done, Spent as SpentJob, Cancelled as CancelledJob}
use Rattle.jamboree_core.specs.Sums.{HasSums, asked_nodes, asked_segments}
use Rattle.jamboree_core.specs.Enough.{spawning_plies, search_nodes, search_segments, board_nodes, board_segments, HasEnough, FindsEnough, EachFindsEnough}

-- a list that asks for nothing
none-asked : (grain : ℕ) (before : Option Tenant) (step : StepOf LeafAnswer) (steps : List (StepOf LeafAnswer)) → origins_of (step ∷ steps) ≡ [] →
    FindsEnough grain before step × IsSearch step × (origins_of steps ≡ [])
none-asked grain before (Submit number words size) steps none = absurd cc
none-asked grain None _ steps none = (tt, tt, none)
none-asked grain (Some tenant) _ steps none = (tt, tt, none)

pub rest-finds : (grain : ℕ) (before : Option Tenant) (steps : List (StepOf LeafAnswer)) → origins_of steps ≡ [] → EachFindsEnough grain before steps × AreSearches steps
rest-finds grain before [] none = (tt, tt)
rest-finds grain before (step ∷ steps) none =
    let one = none-asked grain before step steps none in
    let rest = rest-finds grain (state_after before (lone (jamboree grain) before step)) steps one.2 in
    ((one.0, rest.0), (one.1, rest.1))

-- one list after another
pub finds-after : (grain : ℕ) (before : Option Tenant) (first later : List (StepOf LeafAnswer)) → EachFindsEnough grain before first × AreSearches first →
    EachFindsEnough grain (alone_from (jamboree grain) before first) later × AreSearches later → EachFindsEnough grain before (first ++ later) × AreSearches (first ++ later)
finds-after grain before [] later one rest = rest
finds-after grain before (step ∷ steps) later one rest =
    let more = finds-after grain (state_after before (lone (jamboree grain) before step)) steps later (one.0.1, one.1.1) rest in
    ((one.0.0, more.0), (one.1.0, more.1))

-- two plies above the grain
module _ (depth grain : ℕ) (two : spawning_plies depth grain ≡ 2)
    (any : (b : _) → (board_nodes depth grain b ≤ search_nodes 56 64 (spawning_plies depth grain)) × (board_segments depth grain b ≤ search_segments 56 64 (spawning_plies depth grain)))
    (plies : (search_nodes 56 64 2 ≡ 12545) × (search_segments 56 64 2 ≡ 3478)) where
  pub has-enough : (tenant : Tenant) (own opp : ℕ) → tenant.frames ≡ [] → 3478 ≤ (left_of tenant).segments → 12545 ≤ (left_of tenant).nodes → HasEnough grain tenant depth (cells_of own opp)
  has-enough tenant own opp idle segments nodes =
      let most = any (cells_of own opp) in
      let least = most.0 in
      let room = most.1 in
      let same = ap (λ (p : ℕ). search_nodes 56 64 p) two ∙ plies.0 in
      let alike = ap (λ (p : ℕ). search_segments 56 64 p) two ∙ plies.1 in
      record { idle = idle; segments = omega (arith, room, alike, segments); nodes = omega (arith, least, same, nodes) }

  -- what one of several such searches takes
  pub one-nodes : (own opp : ℕ) → asked_nodes grain (root_words own opp depth) ≤ 12545
  one-nodes own opp = let most = (any (cells_of own opp)).0 in let same = ap (λ (p : ℕ). search_nodes 56 64 p) two ∙ plies.0 in omega (arith, most, same)

  pub one-segments : (own opp : ℕ) → asked_segments grain (root_words own opp depth) ≤ 3478
  one-segments own opp = let most = (any (cells_of own opp)).1 in let same = ap (λ (p : ℕ). search_segments 56 64 p) two ∙ plies.1 in omega (arith, most, same)

  -- five, of which the third and the fifth live
  pub five-sums : (own opp : ℕ → ℕ) (origins : List (List ℕ)) (tenant : Tenant) (words : List ℕ) (third fifth : ℕ) →
      origins ≡ root_words (own 1) (opp 1) depth ∷ root_words (own 2) (opp 2) depth ∷ root_words (own 3) (opp 3) depth ∷ root_words (own 4) (opp 4) depth ∷ root_words (own 5) (opp 5) depth ∷ [] →
      tenant.jobs ≡ Done words ∷ SpentJob ∷ Live third ∷ CancelledJob ∷ Live fifth ∷ [] → 62725 ≤ tenant.reserve.nodes → 6956 ≤ tenant.reserve.segments → HasSums grain origins tenant
  five-sums own opp origins tenant words third fifth asked jobs nodes segments = record {
    nodes = rw asked (simp sum_by-cons (omega (arith, one-nodes (own 1) (opp 1), one-nodes (own 2) (opp 2), one-nodes (own 3) (opp 3), one-nodes (own 4) (opp 4), one-nodes (own 5) (opp 5), nodes)));
    segments = rw (asked, jobs) (omega (arith, one-segments (own 3) (opp 3), one-segments (own 5) (opp 5), segments));
  }

  -- three, of which the first and the third live
  pub three-sums : (own opp : ℕ → ℕ) (origins : List (List ℕ)) (tenant : Tenant) (first third : ℕ) →
      origins ≡ root_words (own 1) (opp 1) depth ∷ root_words (own 2) (opp 2) depth ∷ root_words (own 3) (opp 3) depth ∷ [] →
      tenant.jobs ≡ Live first ∷ SpentJob ∷ Live third ∷ [] → 37635 ≤ tenant.reserve.nodes → 6956 ≤ tenant.reserve.segments → HasSums grain origins tenant
  three-sums own opp origins tenant first third asked jobs nodes segments = record {
    nodes = rw asked (simp sum_by-cons (omega (arith, one-nodes (own 1) (opp 1), one-nodes (own 2) (opp 2), one-nodes (own 3) (opp 3), nodes)));
    segments = rw (asked, jobs) (omega (arith, one-segments (own 1) (opp 1), one-segments (own 3) (opp 3), segments));
  }
