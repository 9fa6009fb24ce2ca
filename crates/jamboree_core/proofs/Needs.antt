-- What a search may still open (its later frames) is used up by its steps, whatever their order.
use Rattle.jamboree_core.proofs.Common.{◌≡◌, ◌≢◌, ℕ, inl, inr, Bool, true, false, List, [], ◌∷◌, ◌++◌, Option, Some, length, refl, ap, ◌∙◌, ◌+◌, ◌-◌, ◌<◌, ◌≤◌, ◌==◌, ◌⊎◌, arith, slice_index, slice_set, neg_ℤ, int_le, int_lt, ints, stored, grown, Cell, cells_of, Continuation, Neither, HasReturned, Lists, next_act, inlet_act, seen, AreFitting, IsRoot, jamboree, frame_of, board, floor, zero, suc, ℤ, pos, ◌+ℤ◌, ◌<ℤ◌, ◌≤ℤ◌, int_eq, clamps, ne_eqb, ⊎_elim, choices, after, plies, spawns, choice_at, least, IsFirst, IsTest, IsAgain, IsChildOf, IsSearchingFrame, IsFormed, formed-told, new_child, new_words, child-frame, frames, in-search, with_place, StandsUnder, IsBoardOf, frame_by, frame_after, kin-of, inlet-stores, test-told, other-told, not-le-told, Cost, search_cost, again_cost, later_cost, later_costs, first_costs, choice_costs, IsEnough, is_narrow, new_cost, frame_cost, still_opens, Frame}
use Rattle.jamboree_core.proofs.Weights.{nearest_words, Pays, KeepsChildren, UsesUp}
use Rattle.jamboree_core.proofs.Moves.{by-moves, by-inlet, by-answer}

-- The costs of choices, where a status is set.

-- one of the later choices
later-set : (cost : ℕ → ℕ → ℕ) (k : ℕ) (st : List ℕ) (i n x : ℕ) → n ≡ k + i → i < length st →
    later_costs cost k (slice_set st i x) + cost n (slice_index st i) ≡ later_costs cost k st + cost n x
later-set cost k [] i n x is inside = absurd (omega arith)
later-set cost k (s ∷ st) zero n x is inside = let e : n ≡ k = omega (arith, is) in rw e (omega arith)
later-set cost k (s ∷ st) (suc i) n x is inside =
    let rest = later-set cost (suc k) st i n x (omega (arith, is)) (omega (arith, inside)) in omega (arith, rest)

-- the first choice, as it is spawned, and as it is settled
first-spawned : (cost : Cost) (depth : ℕ) (narrow : Bool) (b : List Cell) (st : List ℕ) → 0 < length st → slice_index st 0 ≡ 0 →
    first_costs cost depth narrow b (slice_set st 0 1) + search_cost cost depth b 0 narrow ≡ first_costs cost depth narrow b st
first-spawned cost depth narrow b [] some unset = absurd (omega arith)
first-spawned cost depth narrow b (s ∷ st) some unset = rw unset (omega arith)

first-settled : (cost : Cost) (depth : ℕ) (narrow : Bool) (b : List Cell) (st : List ℕ) → 0 < length st →
    later_costs (later_cost cost depth narrow b) 0 (slice_set st 0 2) ≤ first_costs cost depth narrow b st
first-settled cost depth narrow b [] some = absurd (omega arith)
first-settled cost depth narrow b (s ∷ st) some = omega arith

module _ (cost : Cost) where
  -- children see the same board
  kept-board : (own changed : List ℕ) (g : Frame) → frame_of changed ≡ g → g.own ≡ (frame_of own).own → g.opp ≡ (frame_of own).opp → KeepsChildren (still_opens cost) own changed
  kept-board own changed g is own_is opp_is child =
      let c : Frame = frame_of child in
      let o : (frame_of changed).own ≡ (frame_of own).own = ap (λ (h : Frame). h.own) is ∙ own_is in
      let p : (frame_of changed).opp ≡ (frame_of own).opp = ap (λ (h : Frame). h.opp) is ∙ opp_is in
      rw (o, p) (omega arith)

  -- what an act that leaves frame g uses up
  abbrev Uses : (own : List ℕ) (above : Option (List ℕ)) (children : Lists) → Frame → Continuation → Type 0
  Uses own above children g after =
      (changed : List ℕ) → frame_of changed ≡ g →
      Pays 0 0 1 (frame_cost cost (frame_of own) above) (frame_cost cost g above) (λ words. still_opens cost words (Some changed)) children after
      × ((children ≡ []) ⊎ KeepsChildren (still_opens cost) own changed)

  -- what a new child costs
  child-cost : (f g : Frame) (changed : List ℕ) (role i : ℕ) (low high : ℤ) → frame_of changed ≡ g → g.own ≡ f.own → g.opp ≡ f.opp → least ≤ℤ low → least ≤ℤ high →
      suc (still_opens cost (new_words f role i low high) (Some changed)) ≡ search_cost cost f.depth (board f) i (int_eq high (low +ℤ pos 1))
  child-cost f g changed role i low high is own_is opp_is bottom top =
      let o : (frame_of changed).own ≡ f.own = ap (λ (h : Frame). h.own) is ∙ own_is in
      let p : (frame_of changed).opp ≡ f.opp = ap (λ (h : Frame). h.opp) is ∙ opp_is in
      let e : frame_cost cost (frame_of (new_words f role i low high)) (Some changed) ≡ frame_cost cost (new_child f role i low high) (Some changed) =
      ap (λ (c : Frame). frame_cost cost c (Some changed)) (child-frame f role i low high bottom top) in
      let n : frame_cost cost (new_child f role i low high) (Some changed) ≡ cost (f.depth - plies (choice_at f i)) (int_eq high (low +ℤ pos 1)) (after (board f) (choice_at f i)) = rw (o, p) refl in
      omega (arith, e, n)

  spawn-uses : (own : List ℕ) (above : Option (List ℕ)) (children : Lists) (role i x spawned : ℕ) (low high : ℤ) → least ≤ℤ low → least ≤ℤ high →
      frame_cost cost (with_place (frame_of own) i x spawned) above + search_cost cost (frame_of own).depth (board (frame_of own)) i (int_eq high (low +ℤ pos 1)) ≤ frame_cost cost (frame_of own) above →
      Uses own above children (with_place (frame_of own) i x spawned) (spawns (frame_of own) role i low high)
  spawn-uses own above children role i x spawned low high bottom top room changed is =
      let g : Frame = with_place (frame_of own) i x spawned in
      let opens = child-cost (frame_of own) g changed role i low high is refl refl bottom top in (omega (arith, opens, room), inr (kept-board own changed g is refl refl))

-- a child with the whole window has one of width one exactly where its parent does; a test always
narrow-first : (alpha beta : ℤ) → int_eq (neg_ℤ alpha) (neg_ℤ beta +ℤ pos 1) ≡ int_eq beta (alpha +ℤ pos 1)
narrow-first alpha beta = grind (arith, ints)

narrow-test : (t : ℤ) → int_eq (neg_ℤ t) (neg_ℤ (t +ℤ pos 1) +ℤ pos 1) ≡ true
narrow-test t = grind (arith, ints)

narrow-told : (alpha beta : ℤ) → int_eq beta (alpha +ℤ pos 1) ≡ true → beta ≡ alpha +ℤ pos 1
narrow-told alpha beta h = grind (arith, ints)

-- no children: a list whose frames are none
pub none-left : (children : Lists) → frames children ≡ [] → children ≡ []
none-left [] none = refl
none-left (child ∷ children) none = absurd (cc)

module _ {grain : ℕ} {cost : Cost} (enough : IsEnough grain cost) where
  any-window : (depth : ℕ) (narrow : Bool) (b : List Cell) → cost depth narrow b ≤ cost depth false b
  any-window depth narrow b = grind (arith, enough.narrow depth b)

  -- the acts
  module _ (origin own : List ℕ) (above older younger children : Lists) (fits : AreFitting own children Neither)
      (parent : StandsUnder origin above older younger own) where
    abbrev this : Frame
    this = frame_of own

    abbrev up : Option (List ℕ)
    up = nearest_words above

    form : IsFormed own
    form = formed-told own fits.formed

    idle : this.phase ≡ 0 → children ≡ []
    idle phase = none-left children (fits.frame.idle (λ e. absurd (omega (arith, phase, e))) (λ e. absurd (omega (arith, phase, e))))

    new-most : (o p : ℕ) (levels : Lists) → IsBoardOf levels this o p → 0 < this.depth → (levels ≢ [] → grain < this.depth) →
        choice_costs cost this.depth (is_narrow this) (cells_of o p) ≤ new_cost cost this (nearest_words levels)
    new-most o p [] both deep deeper = rw (both.0, both.1, ne_eqb this.depth 0 (λ e. absurd (omega (arith, deep, e)))) (omega arith)
    new-most o p (q ∷ levels) is deep deeper = rw (← is) (enough.choices this.depth (is_narrow this) (cells_of o p) (deeper (λ e. absurd cc)))

    abbrev of_status : ℕ → ℕ → ℕ
    of_status = later_cost cost this.depth (is_narrow this) (board this)

    -- windows
    module _ (s : IsSearchingFrame this) where
      low : least ≤ℤ neg_ℤ this.beta
      low = let h = form.frame.leaf.high in omega (arith, ints)

      high : least ≤ℤ neg_ℤ this.alpha
      high = let w = fits.frame.window in let h = form.frame.leaf.high in omega (arith, ints)

      floor-high : least ≤ℤ neg_ℤ (floor this)
      floor-high = let w = fits.frame.window in let below = s.below in let h = form.frame.leaf.high in omega (arith, ints, clamps)

      test-low : least ≤ℤ neg_ℤ (floor this +ℤ pos 1)
      test-low = let w = fits.frame.window in let below = s.below in let h = form.frame.leaf.high in omega (arith, ints, clamps)

    pub next-uses : Uses cost own up children (frame_of (grown (next_act grain (own ∷ above)).after (stored (next_act grain (own ∷ above)).stores own))) (next_act grain (own ∷ above)).after
    next-uses = by-moves grain origin own above older younger children fits parent (Uses cost own up children) (record {
      at_computed = λ o p phase changed is. (omega arith, inl (idle phase));
      at_opened = λ o p phase board_is deep deeper changed is. (let most = new-most o p above board_is deep deeper in (rw phase (omega (arith, most)), inl (idle phase)));
      at_first = λ phase none. (let s = fits.frame.searching (inl phase) in
          let same = ap (λ (narrow : Bool). search_cost cost this.depth (board this) 0 narrow) (narrow-first this.alpha this.beta) in
          let set = first-spawned cost this.depth (is_narrow this) (board this) this.statuses s.some (s.unspawned 0 (omega (arith, none)) s.some) in
          spawn-uses cost own up children 1 0 1 1 (neg_ℤ this.beta) (neg_ℤ this.alpha) (low s) (high s) (rw phase (omega (arith, same, set))));
      at_again = λ j phase inside failed. (let s = fits.frame.searching (inr phase) in
          let most = any-window (this.depth - plies (choice_at this j)) (int_eq (neg_ℤ (floor this)) (neg_ℤ this.beta +ℤ pos 1)) (after (board this) (choice_at this j)) in
          let set = later-set of_status 0 this.statuses j j 4 (omega arith) inside in
          let was : of_status j (slice_index this.statuses j) ≡ search_cost cost this.depth (board this) j false = rw failed refl in
          spawn-uses cost own up children 3 j 4 this.spawned (neg_ℤ this.beta) (neg_ℤ (floor this)) (low s) (floor-high s) (rw phase (omega (arith, most, set, was))));
      at_test = λ phase inside. (let s = fits.frame.searching (inr phase) in
          let j = this.spawned in
          let same = ap (λ (narrow : Bool). search_cost cost this.depth (board this) j narrow) (narrow-test (floor this)) in
          let set = later-set of_status 0 this.statuses j j 1 (omega arith) inside in
          let was : of_status j (slice_index this.statuses j) ≡ search_cost cost this.depth (board this) j true + again_cost cost this.depth (is_narrow this) (board this) j =
          rw (s.unspawned j (omega arith) inside) refl in
          spawn-uses cost own up children 2 j 1 (j + 1) (neg_ℤ (floor this +ℤ pos 1)) (neg_ℤ (floor this)) (test-low s) (floor-high s) (rw phase (omega (arith, same, set, was))));
      at_settled = λ phase changed is. (omega arith, inr (kept-board cost own changed _ is refl refl));
      at_first_wait = λ phase some changed is. ((omega arith, inl refl), inr (kept-board cost own changed this is refl refl));
      at_tests_wait = λ j phase inside not2 not3 far changed is. ((omega arith, inl refl), inr (kept-board cost own changed this is refl refl));
      at_done = λ phase changed is. (omega arith, inr (kept-board cost own changed this is refl refl));
    })

-- The inlet of a child that has returned.
module _ (cost : Cost) (f c : Frame) (above : Option (List ℕ)) (kin : IsChildOf f c) where
  abbrev costs_of : List ℕ → ℕ
  costs_of st = later_costs (later_cost cost f.depth (is_narrow f) (board f)) 0 st

  abbrev by_status : ℕ → ℕ → ℕ
  by_status = later_cost cost f.depth (is_narrow f) (board f)

  settled-less : costs_of (slice_set f.statuses c.number 2) ≤ costs_of f.statuses
  settled-less = let set = later-set by_status 0 f.statuses c.number c.number 2 (omega arith) kin.inside in omega (arith, set)

  failed-less : IsTest f c → seen c <ℤ f.beta → neg_ℤ c.beta <ℤ seen c → costs_of (slice_set f.statuses c.number 3) ≤ costs_of f.statuses
  failed-less test under over =
      let low = test.least in
      let wide : is_narrow f ≡ false = grind (arith, ints, narrow-told f.alpha f.beta) in
      let set = later-set by_status 0 f.statuses c.number c.number 3 (omega arith) kin.inside in
      let was : by_status c.number (slice_index f.statuses c.number) ≡ search_cost cost f.depth (board f) c.number false = rw (test.status, wide) refl in
      omega (arith, set, was)

  -- a search in full that doesn't end the frame
  full : IsSearchingFrame f → false ≡ (c.role == 2) → costs_of (slice_set f.statuses c.number 2) ≤ frame_cost cost f above
  full s et =
      ⊎_elim (λ (r : IsFirst f c). let set = first-settled cost f.depth (is_narrow f) (board f) f.statuses s.some in rw (r.number, r.phase) (omega (arith, set)))
      (λ (r : IsAgain f c). rw r.phase settled-less) (other-told f c et kin.in_role)

  by-cases : (s : IsSearchingFrame f) (cuts test low higher : Bool) → cuts ≡ int_le f.beta (seen c) → test ≡ (c.role == 2) → low ≡ int_le (seen c) (neg_ℤ c.beta) →
      frame_cost cost (frame_by cuts test low higher f c) above ≤ frame_cost cost f above
  by-cases s true test low higher ec et el = omega arith
  by-cases s false true true higher ec et el = rw (test-told f c et kin.in_role).phase settled-less
  by-cases s false true false higher ec et el =
      let r = test-told f c et kin.in_role in rw r.phase (failed-less r (not-le-told f.beta (seen c) ec) (not-le-told (seen c) (neg_ℤ c.beta) el))
  by-cases s false false low true ec et el = full s et
  by-cases s false false low false ec et el = full s et

-- a search uses up what it may open
pub search-uses : (grain : ℕ) (cost : Cost) → IsEnough grain cost → UsesUp (jamboree grain) AreFitting IsRoot 0 0 1 (still_opens cost)
search-uses grain cost enough = record {
  next = λ origin own above older younger children fits parent. next-uses enough origin own above older younger children fits parent (grown (next_act grain (own ∷ above)).after (stored (next_act grain (own ∷ above)).stores own)) refl;
  inlet = λ own child before behind above fits returned. inlet own child before behind above fits returned;
  accept = λ own answer above fits. by-answer own answer fits (λ g. frame_cost cost g above ≤ still_opens cost own above) (omega arith);
}
  where
    inlet : (own child : List ℕ) (before behind : Lists) (above : Option (List ℕ)) → AreFitting own (before ++ child ∷ behind) Neither → AreFitting child [] HasReturned →
        (still_opens cost (stored (inlet_act own child).stores own) above ≤ still_opens cost own above) × KeepsChildren (still_opens cost) own (stored (inlet_act own child).stores own)
    inlet own child before behind above fits returned =
        let f : Frame = frame_of own in
        let c : Frame = frame_of child in
        let kin = kin-of own child before behind fits in
        let s = inlet-stores own child before behind fits returned in
        let less = by-cases cost f c above kin (fits.frame.searching (in-search f c kin.in_role)) (int_le f.beta (seen c)) (c.role == 2) (int_le (seen c) (neg_ℤ c.beta)) (int_lt (floor f) (seen c)) refl refl refl in
        by-inlet own child before behind fits returned (λ g cuts. (changed : List ℕ) → frame_of changed ≡ g → (frame_cost cost g above ≤ still_opens cost own above) × KeepsChildren (still_opens cost) own changed)
        (λ changed is. (less, kept-board cost own changed (frame_after f c) is s.own_is s.opp_is)) (stored (inlet_act own child).stores own) refl
