-- For the uses of the law on sums: a tenant that asks for two searches to depth 6 at grain 4, one right after the other.
use Rattle.promise_uses.proofs.Common.{◌≡◌, ℕ, List, [], ◌∷◌, ◌++◌, Option, Some, None, refl, ◌≤◌, arith, StepOf, Admit, Submit, Tenant, Cell, root_words, frame_size, AreSearches, jamboree, sum_by-cons}
use Rattle.std.specs.Prelude.{bit_and}
use Rattle.othello_board.specs.Words.{cells_of}
use Rattle.sched_rules.specs.Lone.{lone}
use Rattle.sched_rules.specs.Runs.{state_after}
use Rattle.sched_laws.specs.Fitted.{origins_of, submits}
use Rattle.jamboree_rules.specs.declared.leaf.LeafAnswer.{LeafAnswer}
use Rattle.jamboree_core.specs.Replies.{IsSearch}
use Rattle.jamboree_core.specs.Needs.{Cost, enough_nodes}
use Rattle.jamboree_core.specs.Sizes.{Size, enough_segments}
use Rattle.jamboree_core.specs.Enough.{board_nodes, board_segments, search_nodes, search_segments, spawning_plies}
use Rattle.jamboree_core.specs.Sums.{EachFindsRoom, EachFindsSums, FindsRoom, FindsSums}
use Rattle.promise_uses.proofs.Reserving.{one-nodes, one-segments}

-- steps that ask for nothing
quiet : (step : StepOf LeafAnswer) (steps : List (StepOf LeafAnswer)) → origins_of (step ∷ steps) ≡ [] → (submits step ≡ []) × (origins_of steps ≡ [])
quiet (Submit number words size) steps none = absurd cc
quiet _ steps none = (refl, none)

no-sums : (grain : ℕ) (origins : List (List ℕ)) (before : Option Tenant) (step : StepOf LeafAnswer) → submits step ≡ [] → FindsSums grain origins before step
no-sums grain origins None step none = tt
no-sums grain origins (Some tenant) (Submit number words size) none = absurd cc
no-sums grain origins (Some tenant) _ none = tt

no-room : (cost : Cost) (size : Size) (before : Option Tenant) (step : StepOf LeafAnswer) → submits step ≡ [] → FindsRoom cost size before step
no-room cost size None step none = tt
no-room cost size (Some tenant) (Submit number words frame) none = absurd cc
no-room cost size (Some tenant) _ none = (tt, tt)

later-searches : (steps : List (StepOf LeafAnswer)) → origins_of steps ≡ [] → AreSearches steps
later-searches [] none = tt
later-searches (Submit number words size ∷ steps) none = absurd cc
later-searches (_ ∷ steps) none = (tt, later-searches steps none)

later-sums : (grain : ℕ) (origins : List (List ℕ)) (before : Option Tenant) (steps : List (StepOf LeafAnswer)) → origins_of steps ≡ [] → EachFindsSums grain origins before steps
later-sums grain origins before [] none = tt
later-sums grain origins before (step ∷ steps) none =
    let both = quiet step steps none in
    (no-sums grain origins before step both.0, later-sums grain (origins ++ submits step) (state_after before (lone (jamboree grain) before step)) steps both.1)

later-rooms : (grain : ℕ) (cost : Cost) (size : Size) (before : Option Tenant) (steps : List (StepOf LeafAnswer)) → origins_of steps ≡ [] → EachFindsRoom grain cost size before steps
later-rooms grain cost size before [] none = tt
later-rooms grain cost size before (step ∷ steps) none =
    let both = quiet step steps none in (no-room cost size before step both.0, later-rooms grain cost size (state_after before (lone (jamboree grain) before step)) steps both.1)

module _ (number own opp own_then opp_then : ℕ) (later : List (StepOf LeafAnswer)) (none : origins_of later ≡ []) where
  abbrev pub two_then : List (StepOf LeafAnswer)
  two_then = Admit number (record { segments = 6956; nodes = 25090 }) ∷ Submit number (root_words own opp 6) frame_size ∷ Submit number (root_words own_then opp_then 6) frame_size ∷ later

  pub two-searches : bit_and own opp ≡ 0 → bit_and own_then opp_then ≡ 0 → AreSearches two_then
  two-searches apart apart_then = (tt, (one own opp apart, (one own_then opp_then apart_then, later-searches later none)))
    where
      one : (own opp : ℕ) → bit_and own opp ≡ 0 → IsSearch {A = LeafAnswer} (Submit number (root_words own opp 6) frame_size)
      one own opp apart = (record { own = own; opp = opp; depth = 6; are = refl; apart = apart; shallow = omega arith }, refl)

  module _ (any : (b : List Cell) → (board_nodes 6 4 b ≤ search_nodes 56 64 (spawning_plies 6 4)) × (board_segments 6 4 b ≤ search_segments 56 64 (spawning_plies 6 4)))
      (plies : (search_nodes 56 64 2 ≡ 12545) × (search_segments 56 64 2 ≡ 3478)) where
    pub two-sums : EachFindsSums 4 [] None two_then
    two-sums =
        let first = one-nodes 6 4 refl any plies own opp in
        let second = one-nodes 6 4 refl any plies own_then opp_then in
        let room = one-segments 6 4 refl any plies own opp in
        let more = one-segments 6 4 refl any plies own_then opp_then in
        (tt, ((omega (arith, first), omega (arith, room)), ((simp sum_by-cons (omega (arith, first, second)), omega (arith, room, more)), later-sums 4 _ _ later none)))

    pub two-rooms : (cost : Cost) (size : Size) → ((b : List Cell) → enough_nodes cost 6 b ≤ board_nodes 6 4 b) → ((b : List Cell) → enough_segments size 6 b ≤ board_segments 6 4 b) →
        EachFindsRoom 4 cost size None two_then
    two-rooms cost size nodes segments =
        let first = one-nodes 6 4 refl any plies own opp in
        let second = one-nodes 6 4 refl any plies own_then opp_then in
        let room = one-segments 6 4 refl any plies own opp in
        let more = one-segments 6 4 refl any plies own_then opp_then in
        let node = nodes (cells_of own opp) in
        let node_then = nodes (cells_of own_then opp_then) in
        let segment = segments (cells_of own opp) in
        let segment_then = segments (cells_of own_then opp_then) in (
          tt,
          (
            (omega (arith, first, node), omega (arith, room, segment)),
            ((simp sum_by-cons (omega (arith, first, second, node, node_then)), simp sum_by-cons (omega (arith, room, more, segment, segment_then))), later-rooms 4 cost size _ later none),
          ),
        )
