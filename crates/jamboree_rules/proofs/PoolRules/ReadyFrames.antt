-- Which frames of a tenant are ready after a change of its frames, for the workers of a pool.
use Rattle.jamboree_rules.proofs.PoolRules.Common.{true, ◌≡◌, ℕ, eqb, Bool, false, List, [], ◌∷◌, ◌++◌, Option, Some, None, ◌⊎◌, inl, inr, refl, arith, cases_Bool, eq-eqb, eqb-true, State, Ready, Frame, frame_at, IsReadyAt, IsTree, AllBelow, with_state, is_ready, aborted, frames_without, new_frame, if_kept, frame_at-left, frame_at-right, frame_at-push, frame_at-without, frame_at-other-without, frame_at-aborted, Tree, with_frame_words, without_job, does_wait}

abbrev pub TreeFrame : Type 0
TreeFrame = Frame (List ℕ)

-- the frame of this serial is ready at this home
abbrev pub IsReadyIn : Tree → ℕ → ℕ → Type 0
IsReadyIn xs s home = IsReadyAt (frame_at xs s) home

-- another state in a frame: it is ready where it was, or it is that frame, and the state is Ready
pub ready-with_state : (n : ℕ) (state : State) (xs : Tree) (s home : ℕ) → IsReadyIn (with_state n state xs) s home → IsReadyIn xs s home ⊎ ((n ≡ s) × (state ≡ Ready home))
ready-with_state n state [] s home ready = absurd ready
ready-with_state n state (x ∷ xs) s home ready = grind (arith, ready-with_state n state xs s home, eqb-true)

-- a state that isn't Ready makes none ready
pub ready-with-other : (n : ℕ) (state : State) (xs : Tree) (s home : ℕ) → is_ready state ≡ false → IsReadyIn (with_state n state xs) s home → IsReadyIn xs s home
ready-with-other n state xs s home never ready = grind (arith, ready-with_state)

-- other words make none ready
pub ready-with_frame_words : (n : ℕ) (words : List ℕ) (xs : Tree) (s home : ℕ) → IsReadyIn (with_frame_words n words xs) s home → IsReadyIn xs s home
ready-with_frame_words n words [] s home ready = ready
ready-with_frame_words n words (x ∷ xs) s home ready = grind (arith, ready-with_frame_words n words xs s home)

-- nor does the removal of a frame
pub ready-without : (p : ℕ) (xs : Tree) (s home : ℕ) → IsReadyIn (frames_without p xs) s home → IsReadyIn xs s home
ready-without p xs s home ready = grind (arith, eqb-true, frame_at-without, frame_at-other-without, eq-eqb)

-- what is kept of a ready frame was ready
kept-ready : (keep : TreeFrame → Bool) (found : Option TreeFrame) (home : ℕ) → IsReadyAt (if_kept keep found) home → IsReadyAt found home
kept-ready keep None home ready = ready
kept-ready keep (Some frame) home ready = elim (cases_Bool (keep frame)) [ inl kept ↦ rw kept at ready | inr gone ↦ absurd (rw gone at ready) ]

-- nor does an abort
pub ready-aborted : (p : ℕ) (xs : Tree) (s home : ℕ) → IsTree xs → IsReadyIn (aborted p xs) s home → IsReadyIn xs s home
ready-aborted p xs s home tree ready = grind (arith, kept-ready, frame_at-aborted)

-- nor does the end of a job
pub ready-without_job : (root : ℕ) (xs : Tree) (s home : ℕ) → IsTree xs → IsReadyIn (without_job root xs) s home → IsReadyIn xs s home
ready-without_job root xs s home tree ready = ready-aborted root xs s home tree (ready-without root (aborted root xs) s home ready)

-- one frame more: what is ready was so before, or is that frame
pub ready-push : (xs : Tree) (y : TreeFrame) (s home : ℕ) → IsReadyIn (xs ++ y ∷ []) s home → IsReadyIn xs s home ⊎ ((y.serial ≡ s) × (y.state ≡ Ready home))
ready-push xs y s home ready = grind (arith, frame_at-left, frame_at-right, eqb-true)

-- where all serials are below one, they are so with other words
pub below-with_frame_words : (top n : ℕ) (words : List ℕ) (xs : Tree) → AllBelow top xs → AllBelow top (with_frame_words n words xs)
below-with_frame_words top n words [] below = tt
below-with_frame_words top n words (x ∷ xs) below = grind (arith, below-with_frame_words top n words xs below.1)

-- the frame that is woken is ready, whatever its words became
pub ready-woken : (p home : ℕ) (words : List ℕ) (xs : Tree) → does_wait (frame_at xs p) ≡ true → IsReadyIn (with_state p (Ready home) (with_frame_words p words xs)) p home
ready-woken p home words [] waits = absurd cc
ready-woken p home words (x ∷ xs) waits = elim (cases_Bool (eqb x.serial p)) [
  | inl same ↦ rw (same, same, same) refl
  | inr other ↦ rw (other, other, other) (ready-woken p home words xs (rw other at waits))
]

-- a new frame is ready at its home
pub ready-pushed : (xs : Tree) (serial : ℕ) (parent : Option ℕ) (home : ℕ) (words : List ℕ) → AllBelow serial xs → IsReadyIn (xs ++ new_frame xs serial parent home words ∷ []) serial home
ready-pushed xs serial parent home words below = rw (frame_at-push xs (new_frame xs serial parent home words) below) refl
