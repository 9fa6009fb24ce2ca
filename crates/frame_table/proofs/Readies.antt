-- The frame table's ready frames among its slots, and what each change of the slots does to them.
use Rattle.frame_table.proofs.Changes.{leaf-slots}
use Rattle.frame_table.proofs.Common.{AllAbove, AreAbove, AreRising, Frame, IsSeenAt, KeepsTree, List, Option, ReadyFrame, Rises, Slot, State, [], arith, filter, frames_from, last_ready, length, length-inserted, ready_in, recounted, refl, remove, restated, serials_of, set, slice_index, suc, take, with_child, with_slot, zero, ℕ, ◌++◌, ◌+◌, ◌-◌, ◌<◌, ◌∷◌, ◌≡◌, ◌≤◌}
use Rattle.frame_table.proofs.Finds.{few-counts, keeps-rises, keeps-view, kept-length}
use Rattle.frame_table.proofs.Forest.{above-at, seen-next}
use Rattle.frame_table.proofs.Keys.{found-at}
use Rattle.frame_table.proofs.Places.{filter-below-above, filter-not-above, rises-by-filter}
use Rattle.frame_table.specs.Readies.{AreTenantFrames, put_ready, with_ready, without_ready}
use Rattle.frame_table.specs.Windows.{PlacedList}
use Rattle.frame_table.specs.declared.names.State.TheVariants.{Ready}
use Rattle.std.proofs.Common.{lt-ltb, ltb-true, nat_lt, slice_get}

-- the last frame is the newest
pub last_ready-last : (frames : List ReadyFrame) → last_ready frames ≡ slice_get frames (length frames - 1)
last_ready-last [] = refl
last_ready-last (x ∷ []) = refl
last_ready-last (x ∷ y ∷ xs) = grind (arith, last_ready-last (y ∷ xs))

-- ready frames rise without one of them too
pub without_ready-rises : (serial : ℕ) (was : State) (frames : List ReadyFrame) → AreRising (λ frame. frame.serial) frames →
    AreRising (λ frame. frame.serial) (without_ready serial was frames)
without_ready-rises serial was frames r = grind (arith, rises-by-filter)

-- a frame that leaves its state goes, and comes back where its new state is to be ready
module _ (serial : ℕ) where
  leave-here : (was : State) (frames : List ReadyFrame) → AreAbove (λ frame. frame.serial) serial frames →
      without_ready serial was (with_ready serial was frames) ≡ frames
  leave-here was frames h4 = grind (arith, filter-not-above)

  leave-other : (n : ℕ) (state was : State) (frames : List ReadyFrame) → serial < n →
      without_ready n was (with_ready serial state frames) ≡ with_ready serial state (without_ready n was frames)
  leave-other n state was frames lt = grind arith

  put-here : (now : State) (frames : List ReadyFrame) → AreAbove (λ frame. frame.serial) serial frames →
      put_ready serial now frames ≡ with_ready serial now frames
  put-here now [] a = grind arith
  put-here now (f ∷ frames) a = grind (arith, ltb-true)

  put-other : (n : ℕ) (state now : State) (frames : List ReadyFrame) → serial < n →
      put_ready n now (with_ready serial state frames) ≡ with_ready serial state (put_ready n now frames)
  put-other n state now frames lt = grind (arith, lt-ltb)

module _ {T : Type 0} where
  -- no more are ready than there are slots
  pub few-ready_in : (xs : List (Slot T)) → length (ready_in xs) ≤ length xs
  few-ready_in [] = omega arith
  few-ready_in (x ∷ xs) = grind (arith, few-ready_in xs)

  -- a count of children makes no difference
  pub ready_in-recounted : (which : Option ℕ) (change : ℕ → ℕ) (xs : List (Slot T)) → ready_in (with_slot which (recounted change) xs) ≡ ready_in xs
  ready_in-recounted _ _ [] = refl
  ready_in-recounted which change (x ∷ xs) = grind (arith, ready_in-recounted which change xs)

  -- they are above what the slots are above, and rise as those do
  ready_in-above : (n : ℕ) (xs : List (Slot T)) → AllAbove n xs → AreAbove (λ frame. frame.serial) n (ready_in xs)
  ready_in-above n [] a = tt
  ready_in-above n (x ∷ xs) a = grind (arith, ready_in-above n xs)

  ready_in-rises : (xs : List (Slot T)) → Rises xs → AreRising (λ frame. frame.serial) (ready_in xs)
  ready_in-rises [] r = tt
  ready_in-rises (x ∷ xs) r = grind (arith, ready_in-rises xs, ready_in-above)

  -- those of more slots
  pub ready_in-append : (xs ys : List (Slot T)) → ready_in (xs ++ ys) ≡ ready_in xs ++ ready_in ys
  ready_in-append [] _ = refl
  ready_in-append (x ∷ xs) ys = grind (arith, ready_in-append xs ys)

  pub ready_in-state : (xs : List (Slot T)) (i n : ℕ) (slot : Slot T) (state : State) → Rises xs → IsSeenAt xs n i slot →
      put_ready n state (without_ready n slot.state (ready_in xs)) ≡ ready_in (set xs i (restated state slot))
  ready_in-state [] i n slot state rise seen = absurd (omega (arith, seen.within))
  ready_in-state (x ∷ xs) zero n slot state rise seen = grind (arith, ready_in-above, leave-here, put-here)
  ready_in-state (x ∷ xs) (suc i) n slot state rise seen =
      let next = seen-next seen in grind (arith, ready_in-state xs i n slot state rise.1 next, above-at xs x.serial i, leave-other, put-other)

  -- a slot that goes
  pub ready_in-remove : (xs : List (Slot T)) (i n : ℕ) (slot : Slot T) → Rises xs → IsSeenAt xs n i slot →
      without_ready n slot.state (ready_in xs) ≡ ready_in (remove xs i)
  ready_in-remove [] i n slot rise seen = absurd (omega (arith, seen.within))
  ready_in-remove (x ∷ xs) zero n slot rise seen = grind (arith, ready_in-above, leave-here)
  ready_in-remove (x ∷ xs) (suc i) n slot rise seen =
      let next = seen-next seen in grind (arith, ready_in-remove xs i n slot rise.1 next, above-at xs x.serial i, leave-other)

  -- the ready frames below a serial are those of the slots before it
  pub ready_in-take : (xs : List (Slot T)) (i n : ℕ) → Rises xs → i < length xs → slice_index (serials_of xs) i ≡ n →
      filter (λ frame. nat_lt frame.serial n) (ready_in xs) ≡ ready_in (take i xs)
  ready_in-take [] i n rise lt at = absurd (omega arith)
  ready_in-take (x ∷ xs) zero n rise lt at =
      let later = filter-below-above (λ frame. frame.serial) n (ready_in xs) (rw at at (ready_in-above x.serial xs rise.0)) in
      grind (arith, later, ltb-true)
  ready_in-take (x ∷ xs) (suc i) n rise lt at = grind (arith, ready_in-take xs i n, above-at, lt-ltb)

  -- one more slot at the end, ready
  pub added-ready : (xs : List (Slot T)) (parent : Option ℕ) (slot : Slot T) (home : ℕ) (frames : List ReadyFrame) → frames ≡ ready_in xs →
      slot.state ≡ Ready home → frames ++ record { serial = slot.serial; home = home } ∷ [] ≡ ready_in (with_child parent xs ++ slot ∷ [])
  added-ready xs parent slot home frames e state = let same = ready_in-recounted parent (λ n. n + 1) xs in grind (arith, same, ready_in-append)

  -- a tenant, from slots that keep a tree, their serials and the ready frames among them
  module _ {slots : List (Slot T)} {places : ℕ} {serials : PlacedList ℕ} {ready : PlacedList ReadyFrame} where
    pub is-tenant : {news : List (Slot T)} {index : List ℕ} {frames : List ReadyFrame} {tree : List (Frame T)} → AreTenantFrames slots places serials ready →
        KeepsTree news tree → index ≡ serials_of news → frames ≡ ready_in news → length news ≤ places →
        AreTenantFrames news places (record serials { list = index }) (record ready { list = frames })
    is-tenant {news} t k i e within = let sound : KeepsTree news (frames_from [] news) = rw (keeps-view k) k in grind arith

    pub tenant-rises : AreTenantFrames slots places serials ready → AreRising (λ frame. frame.serial) ready.list
    tenant-rises t = rw t.ready_frames (ready_in-rises slots (keeps-rises t.sound))

-- the list of ready frames: that it rises, and its last
pub ruleset ready_laws = (without_ready-rises, last_ready-last, length-inserted)

-- the lists of a tenant: their room, and a leaf among them
pub ruleset tenant_laws = (few-ready_in, few-counts, kept-length, found-at, leaf-slots)
