-- A frame waits only where it has a child: every step of the core keeps that.
use Rattle.sched_laws.proofs.Common.{◌≡◌, ◌≢◌, if◌then◌else◌, ℕ, ◌+◌, inl, inr, Bool, true, false, not, ◌||◌, ◌&&◌, eqb, ltb, List, [], ◌∷◌, ◌++◌, Option, Some, None, Result, Ok, refl, ap, ◌∙◌, sym, arith, cases_Bool, cases_eq, eqb-true, State, Ready, Running, Computing, FrameId, frame_at, path_in, parent_of, root_of, children_of, IsTree, IsNextFrame, with_state, aborted, frames_without, new_frame, without_job, there-found, found-serial, tree-rising, tree-aborted, tree-without, tree-with_state, filter-found, frame_at-without, frame_at-other-without, frame_at-other-with_state, frame_at-other-push, frame_at-push, new-frame-next, children_of-push, is_that, Act, InletAct, Continuation, Grow, Spawn, Go, Wait, Compute, Return, Live, Done, Spent as SpentJob, Cancelled as CancelledJob, StepOf, Functions, Tree, Tenant, words_in, stored, has_child, has_one, is_root, job_at, kept_words, Outcome, lone_step, counted, holding, opened, ended, in_state, act_by_sight, then_done, taken_in, does_wait, staying, ReserveOf, IsShaped, AreShaped, Refusal, DidOf, CoreState, tenant_in, after_answer, after_answers, shared_by_nobody, with_frame_words, length}
use Rattle.sched_laws.proofs.Holds.{F, Lists, Fact, Holds, kids, found-own, found-same, found-with_state, no-frame, with_frame_words-missing, frame_at-with_frame_words, frame_at-other-with_frame_words, holds-without, holds-aborted, holds-without_job}
use Rattle.sched_laws.proofs.Parts.{path-there, has_child-with_state, has_child-with_frame_words}
use Rattle.sched_laws.proofs.Fits.{has-one, root-top}
use Rattle.frame_table.specs.declared.names.State.TheVariants.{Waiting}

-- the frame of this serial has a child where it waits
abbrev pub WaitsAt : Tree → ℕ → Type 0
WaitsAt tree s = (f : F) → frame_at tree s ≡ Some f → f.state ≡ Waiting → has_child tree s ≡ true

-- another state in a frame: one that doesn't wait, or of a frame with a child
module _ (n : ℕ) (state : State) (tree : Tree) (s : ℕ) (t : IsTree tree) where
  pub waits-with_state : (s ≢ n → WaitsAt tree s) → (s ≡ n → state ≡ Waiting → has_child tree s ≡ true) → WaitsAt (with_state n state tree) s
  waits-with_state other own f at waits = grind (arith, cases_eq, found-with_state, has_child-with_state, frame_at-other-with_state)

-- other words in a frame
pub own-words : (n : ℕ) (words : List ℕ) (tree : Tree) (found : Option F) → frame_at tree n ≡ found → (f : F) → frame_at (with_frame_words n words tree) n ≡ Some f →
    (g : F) × (frame_at tree n ≡ Some g) × (g.state ≡ f.state)
own-words n words tree None none f at = absurd (let there = rw (with_frame_words-missing n words tree (no-frame tree n none)) at at in cc)
own-words n words tree (Some g) is f at =
    (g, is, let here = frame_at-with_frame_words n words tree g is in let e : record g { value = words } ≡ f = cc in ap (λ (x : F). x.state) e)

pub waits-with_frame_words : (n : ℕ) (words : List ℕ) (tree : Tree) (s : ℕ) → IsTree tree → WaitsAt tree s → WaitsAt (with_frame_words n words tree) s
waits-with_frame_words n words tree s t old f at waits = rw (has_child-with_frame_words n words tree s t) (elim (cases_eq n s) [
  | inl same ↦ (let g = own-words n words tree (frame_at tree n) refl f (ap (frame_at (with_frame_words n words tree)) same ∙ at) in
      old g.0 (ap (frame_at tree) (sym same) ∙ g.1) (g.2 ∙ waits))
  | inr other ↦ old f (sym (frame_at-other-with_frame_words n words tree s other) ∙ at) waits
])

-- a frame more
more-children : (xs ys : Tree) → ltb 0 (length xs) ≡ true → ltb 0 (length (xs ++ ys)) ≡ true
more-children [] ys some = absurd cc
more-children (x ∷ xs) ys some = grind arith

pub waits-push : (tree : Tree) (y : F) (s : ℕ) → IsTree tree → IsNextFrame tree y → y.state ≢ Waiting → WaitsAt tree s → WaitsAt (tree ++ y ∷ []) s
waits-push tree y s t next ready old f at waits = elim (cases_eq y.serial s) [
  | inl same ↦ absurd (ready (let here : frame_at (tree ++ y ∷ []) s ≡ Some y = rw (← same) (frame_at-push tree y next.above) in cc))
  | inr other ↦ rw (children_of-push tree y s t next) (more-children (children_of tree s) _ (old f (sym (frame_at-other-push tree y s other) ∙ at) waits))
]

-- the frames but one have a child where they wait, as a fact of each frame
abbrev WaitsBut : Tree → ℕ → Fact
WaitsBut old p s w k m = s ≢ p → (f : F) → frame_at old s ≡ Some f → f.state ≡ Waiting → has_one k ≡ true

module _ (old : Tree) (p : ℕ) where
  holds-waits : ((s : ℕ) → s ≢ p → WaitsAt old s) → Holds (WaitsBut old p) old
  holds-waits all s g at_g other f at waits = rw (has-one old s) (all s other f at waits)

  waits-holds : (new : Tree) → ((s : ℕ) (f : F) → frame_at new s ≡ Some f → frame_at old s ≡ Some f) → Holds (WaitsBut old p) new → (s : ℕ) → s ≢ p → WaitsAt new s
  waits-holds new stays holds s other f at waits = sym (has-one new s) ∙ holds s f at other f (stays s f at) waits

-- fewer frames: those of an abort, a leaf, and a job
module _ (tree : Tree) (p : ℕ) (t : IsTree tree) (all : ((s : ℕ) → s ≢ p → WaitsAt tree s)) where
  pub waits-aborted : (s : ℕ) → s ≢ p → WaitsAt (aborted p tree) s
  waits-aborted =
      waits-holds tree p (aborted p tree) (λ s f at. (filter-found _ tree s f (tree-rising tree t) at).0)
      (holds-aborted p tree t (WaitsBut tree p) (λ s f at. ((λ is other. absurd (other is)), (λ other. holds-waits tree p all s f at))))

  pub waits-without : (n : ℕ) (f : F) → frame_at tree n ≡ Some f → parent_of f.path ≡ Some p → children_of tree n ≡ [] → (s : ℕ) → s ≢ p → WaitsAt (frames_without n tree) s
  waits-without n f at named leaf =
      waits-holds tree p (frames_without n tree) (λ s g at_g. (filter-found _ tree s g (tree-rising tree t) at_g).0)
      (holds-without (WaitsBut tree p) n f tree t at leaf
      (λ s g at_g apart. ((λ child older younger k other. absurd (other (sym (eqb-true p s (sym (ap (is_that s) named) ∙ child))))), (λ none. holds-waits tree p all s g at_g))))

  pub waits-without_job : path_in tree p ≡ p ∷ [] → (s : ℕ) → WaitsAt (without_job p tree) s
  waits-without_job top s = elim (cases_eq s p) [
    | inl same ↦ (λ f at waits. absurd (let gone = frame_at-without p (aborted p tree) in let here = rw same at at in cc))
    | inr other ↦ (let f = there-found tree p (path-there tree p top) in
        waits-holds tree p (without_job p tree)
        (λ s g at_g. (filter-found _ tree s g (tree-rising tree t) (filter-found _ (aborted p tree) s g (tree-rising _ (tree-aborted p tree t)) at_g).0).0)
        (holds-without_job p tree t (WaitsBut tree p) f.0 f.1 (root-top tree p f.0 f.1 top) (λ s g at_g apart. holds-waits tree p all s g at_g)) s other)
  ]
