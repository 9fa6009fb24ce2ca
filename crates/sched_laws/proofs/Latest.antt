-- Which ready frame of a tenant `newest_ready_of` finds.
use Rattle.sched_laws.proofs.Common.{◌≡◌, ℕ, ◌≤◌, true, false, List, [], ◌∷◌, Some, None, arith, FrameId, Frame, frame_at, is_ready, newest_ready_of, AreSerialsRising, Tree, IsNewestReady}
use Rattle.frame_table.proofs.Finds.{newest-above, newest-is_ready}
use Rattle.frame_table.proofs.Tenants.{newest-some}
use Rattle.frame_table.proofs.TreeChanges.{no-child-found}

module _ (tenant : ℕ) where
  -- where none is found, none is ready
  pub newest-none : (frames : Tree) (s : ℕ) (f : Frame (List ℕ)) → newest_ready_of tenant frames ≡ None → frame_at frames s ≡ Some f →
      is_ready f.state ≡ false
  newest-none frames s f is at = no-child-found (λ x. is_ready x.state) frames s f (newest-some tenant frames is) at

  newest-greatest : (frames : Tree) (ready : FrameId × ℕ) (s : ℕ) (f : Frame (List ℕ)) → AreSerialsRising frames →
      newest_ready_of tenant frames ≡ Some ready → frame_at frames s ≡ Some f → is_ready f.state ≡ true → s ≤ ready.0.serial
  newest-greatest [] ready s f rising is at on = absurd cc
  newest-greatest (x ∷ xs) ready s f rising is at on =
      let above = newest-above tenant x.serial xs ready rising.0 in
      let none = newest-none xs s f in
      grind (arith, newest-greatest xs ready s f rising.1, above, none)

  -- of frames that rise the one that is found is the newest ready one
  pub newest-found : (frames : Tree) (name : FrameId) (home : ℕ) → AreSerialsRising frames → newest_ready_of tenant frames ≡ Some (name, home) →
      IsNewestReady tenant frames name home
  newest-found frames name home rising is =
      let found = newest-is_ready tenant frames (name, home) rising is in
      record { own = found.0; ready = found.1; greatest = λ s f at on. newest-greatest frames (name, home) s f rising is at on }
