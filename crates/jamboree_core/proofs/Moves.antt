-- What the next act, an inlet and an answer leave of a right frame of a search, case by case, as frames.
use Rattle.jamboree_core.proofs.Common.{◌≡◌, ◌≢◌, ℕ, Bool, List, [], ◌∷◌, ◌++◌, length, refl, sym, subst, ◌+◌, ◌<◌, ◌≤◌, arith, slice_index, neg_ℤ, stored, grown, cells_of, Continuation, Grow, Wait, Compute, Return, Neither, Computes, HasReturned, Lists, next_act, inlet_act, accepts, seen, int_le, AreFitting, LeafAnswer, Change, OwnBits, OppBits, Phase, Spawned, Status, frame_of, floor, rest_at, pos, ◌+ℤ◌, choices, InletAct, spawns, IsFormed, formed-told, frame-stored, written, AreSafe, changed_by, opened_frame, rest-there, opened-is, with_place, StandsUnder, IsBoardOf, frame_after, inlet-is, inlet-stores, by-acts, answer-good, accepts-is, answered_frame, Frame}

-- P holds of what each next act of frame f, under what is above it, may leave: the frame, and how it goes on
pub record HoldsOfMoves (grain : ℕ) (f : Frame) (above : Lists) (P : Frame → Continuation → Type 0) : Type 0 where
  pub at_computed : (o p : ℕ) → f.phase ≡ 0 → P (record f { own = o; opp = p; phase = 1 }) Compute
  pub at_opened : (o p : ℕ) → f.phase ≡ 0 → IsBoardOf above f o p → 0 < f.depth → (above ≢ [] → grain < f.depth) →
      P (opened_frame f o p (length (choices (cells_of o p)))) (Grow (length (choices (cells_of o p))))
  pub at_first : f.phase ≡ 2 → f.spawned ≡ 0 → P (with_place f 0 1 1) (spawns f 1 0 (neg_ℤ f.beta) (neg_ℤ f.alpha))
  pub at_again : (j : ℕ) → f.phase ≡ 3 → j < length f.statuses → slice_index f.statuses j ≡ 3 → P (with_place f j 4 f.spawned) (spawns f 3 j (neg_ℤ f.beta) (neg_ℤ (floor f)))
  pub at_test : f.phase ≡ 3 → f.spawned < length f.statuses →
      P (with_place f f.spawned 1 (f.spawned + 1)) (spawns f 2 f.spawned (neg_ℤ (floor f +ℤ pos 1)) (neg_ℤ (floor f)))
  pub at_settled : f.phase ≡ 3 → P (record f { phase = 4 }) Return
  pub at_first_wait : f.phase ≡ 2 → f.spawned ≢ 0 → P f Wait
  pub at_tests_wait : (j : ℕ) → f.phase ≡ 3 → j < length f.statuses → slice_index f.statuses j ≢ 2 → slice_index f.statuses j ≢ 3 → length f.statuses ≤ f.spawned → P f Wait
  pub at_done : f.phase ≡ 4 → P f Return

-- so it holds of the frame in the words that the next act leaves
module _ (grain : ℕ) (origin own : List ℕ) (above older younger children : Lists) (fits : AreFitting own children Neither)
    (parent : StandsUnder origin above older younger own) (P : Frame → Continuation → Type 0) (each : HoldsOfMoves grain (frame_of own) above P) where
  abbrev this : Frame
  this = frame_of own

  form : IsFormed own
  form = formed-told own fits.formed

  by-changes : (changes : List Change) (after : Continuation) → AreSafe changes → grown after (written changes own) ≡ written changes own → P (changed_by changes this) after →
      P (frame_of (grown after (written changes own))) after
  by-changes changes after safe same holds = rw (same, frame-stored changes own safe (omega (arith, form.places))) holds

  pub by-moves : P (frame_of (grown (next_act grain (own ∷ above)).after (stored (next_act grain (own ∷ above)).stores own))) (next_act grain (own ∷ above)).after
  by-moves = by-acts grain origin own older younger children fits (λ act. P (frame_of (grown act.after (stored act.stores own))) act.after) above parent (record {
    at_computed = λ o p n phase. by-changes (OwnBits o ∷ OppBits p ∷ Phase 1 ∷ []) Compute (tt, (tt, (tt, tt))) refl (each.at_computed o p phase);
    at_opened = λ o p phase board deep deeper. (let none = (form.frame.early (omega (arith, phase))).1 in
        subst (λ (g : Frame). P g (Grow (length (choices (cells_of o p))))) (sym (opened-is own o p (length (choices (cells_of o p))) (omega (arith, form.places, none))))
        (each.at_opened o p phase board deep deeper));
    at_first = λ phase none. by-changes (Spawned 1 ∷ Status 0 1 (rest_at this 0) ∷ []) _ (tt, ((omega arith, rest-there own 0 form), tt)) refl (each.at_first phase none);
    at_again = λ j phase inside failed. by-changes (Status j 4 (rest_at this j) ∷ []) _ ((omega arith, rest-there own j form), tt) refl (each.at_again j phase inside failed);
    at_test = λ phase inside. by-changes (Spawned (this.spawned + 1) ∷ Status this.spawned 1 (rest_at this this.spawned) ∷ []) _
        (tt, ((omega arith, rest-there own this.spawned form), tt)) refl (each.at_test phase inside);
    at_settled = λ phase. by-changes (Phase 4 ∷ []) Return (tt, tt) refl (each.at_settled phase);
    at_first_wait = each.at_first_wait;
    at_tests_wait = each.at_tests_wait;
    at_done = each.at_done;
  })

-- P holds of the frame that an inlet leaves, and whether it aborts
pub by-inlet : (own child : List ℕ) (before behind : Lists) → AreFitting own (before ++ child ∷ behind) Neither → AreFitting child [] HasReturned → (P : Frame → Bool → Type 0) →
    P (frame_after (frame_of own) (frame_of child)) (int_le (frame_of own).beta (seen (frame_of child))) → P (frame_of (stored (inlet_act own child).stores own)) (inlet_act own child).abort
by-inlet own child before behind fits returned P holds =
    subst (λ (act : InletAct). P (frame_of (stored act.stores own)) act.abort) (inlet-is own child before behind fits returned)
    (subst (λ (g : Frame). P g (int_le (frame_of own).beta (seen (frame_of child)))) (sym (inlet-stores own child before behind fits returned).is) holds)

-- P holds of the frame that an answer leaves
pub by-answer : (own : List ℕ) (answer : LeafAnswer) → AreFitting own [] Computes → (P : Frame → Type 0) → P (answered_frame (frame_of own) answer) →
    P (frame_of (stored (accepts own answer) own))
by-answer own answer fits P holds =
    subst (λ (stores : List (ℕ × ℕ)). P (frame_of (stored stores own))) (accepts-is own answer fits.formed)
    (subst P (sym (answer-good own answer (formed-told own fits.formed) fits.frame.marked).is) holds)
