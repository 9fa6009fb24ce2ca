-- Each kind of step leaves a tenant's frames fitting their procedure: a job that begins or ends, Take, Advance,
-- Answer, Inlet and Finish.
use Rattle.sched_laws.proofs.Common.{Option, inl, inr, Ok, StepOf, Outcome, lone_step, submits, root_of, Spent as SpentJob, Cancelled as CancelledJob, ◌≡◌, ℕ, Bool, true, false, List, [], ◌∷◌, ◌++◌, Some, ap, sym, ◌∙◌, arith, ◌≢◌, ◌+◌, not, None, refl, ◌||◌, ◌&&◌, State, Running, Ready, FrameId, frame_at, children_of, path_in, parent_of, goes_under, aborted, frames_without, IsTree, with_state, new_frame, found-serial, found-there, there-found, found-path, frame_at-left, frame_at-push, tree-rising, placed, top-path, under-there, under-below, named-under, Continuation, InletAct, Functions, Tree, Tenant, with_frame_words, stored, is_outside, has_child, frame_words, words_in, is_root, without_job, kept_words, Fitting, Rooting, Mark, Neither, Computes, mark_of_state, grown, children_after, mark_after, ParentFits, NewChildFits, HasReturned, AllFit, children_left, act_by_sight, counted, holding, in_state, then_done, advanced, opened, ended, staying, is_computed_by, is_returned, advance_tests, inlet_tests, does_wait, taken_in, IsShaped, TenantFits, JobFits, false≢true, eq-eqb, eqb-true, not-false, or_parts, padded, is_that, is_child_of, frame_at-stays, frame_at-other-without, tree-aborted, tree-with_state, tree-without, tree-without_job, tree-push, new-frame-next, parent_of-path_under, AllBelow-alike, path_in-alike, Job, Live, Done, is_run_by}
use Rattle.sched_laws.proofs.Parts.{has_child-with_frame_words, path-there, root-path}
use Rattle.sched_laws.proofs.Holds.{Lists, F, Fact, kids, Holds, fits-holds, with_frame_words-alike, tree-with_frame_words, paths-with_frame_words, children_of-with_frame_words, frame_at-other-with_frame_words, holds-fits, holds-with_frame_words, among-kids, BeforeState, holds-with_state, BeforePush, BeforeWithout, holds-without, BeforeAbort, holds-aborted, holds-push, holds-without_job, frame_at-with_frame_words, found-same, found-own}
use Rattle.sched_laws.proofs.Fits.{IsLawful, IsKeptAbove, KeepsAbove, kept-above, has-origin, with_frame_words-twice, all-fit, has-one, LeftFits, words-found, words-own, words-other, words-with_state, FitsAt, HaveSameRoots, jobs-kept, jobs-append, jobs-ended, root-top, parent-neither, fits-marked, jobs-left, fits-same-mark}
use Rattle.sched_laws.proofs.Consequences.{root-above, live-root}
use Rattle.sched_laws.proofs.Shaped.{AllPass, by-effects, either, run-free, returned-marked, returned-childless, staying-parent, inlet-stored-shaped}

-- what an act leaves, of the frame itself and of a new child
abbrev OwnFits : Fitting → List ℕ → Lists → Continuation → Type 0
OwnFits fits words children after = fits (grown after words) (children_after after children) (mark_after after children) × NewChildFits fits after

-- the marks of states that were tested
pub computes-marked : (worker : ℕ) (state : State) → is_computed_by worker state ≡ true → mark_of_state state ≡ Computes
computes-marked worker state is = grind (arith, false≢true)

pub has-returned : (state : State) → is_returned state ≡ true → mark_of_state state ≡ HasReturned
has-returned state is = grind (arith, false≢true)

-- a root frame has the path of its serial alone
pub root-found : (tree : Tree) (root : ℕ) → path_in tree root ≡ root ∷ [] → (f : F) × (frame_at tree root ≡ Some f) × (f.path ≡ root ∷ [])
root-found tree root is = let f = there-found tree root (path-there tree root is) in (f.0, f.1, sym (found-path tree root f.0 f.1) ∙ is)

-- it stays at an abort, at the removal of another frame, and at both
module _ (p : ℕ) (tree : Tree) (root : ℕ) (t : IsTree tree) where
  root-aborted : path_in tree root ≡ root ∷ [] → frame_at (aborted p tree) root ≡ frame_at tree root
  root-aborted is = grind (arith, root-found, frame_at-stays, tree-rising)

  root-without_job : root ≢ p → path_in tree root ≡ root ∷ [] → frame_at (without_job p tree) root ≡ frame_at tree root
  root-without_job other is = frame_at-other-without p (aborted p tree) root (λ e. other (sym e)) ∙ root-aborted is

-- the frames that stay at an inlet, with other words in the parent
module _ (n p : ℕ) (words : List ℕ) where
  without-words : (tree : Tree) → frames_without n (with_frame_words p words tree) ≡ with_frame_words p words (frames_without n tree)
  without-words [] = refl
  without-words (x ∷ xs) = grind (arith, without-words xs)

  staying-words : (tree : Tree) (abort : Bool) → staying (with_frame_words p words tree) n p abort ≡ with_frame_words p words (staying tree n p abort)
  staying-words tree true = paths-with_frame_words p words (λ path. not (goes_under p path)) tree
  staying-words tree false = without-words tree

staying-root : (n p : ℕ) (tree : Tree) (root : ℕ) (abort : Bool) → IsTree tree → root ≢ n → path_in tree root ≡ root ∷ [] →
    frame_at (staying tree n p abort) root ≡ frame_at tree root
staying-root n p tree root abort h6 h7 h8 = grind (arith, root-aborted, frame_at-other-without)

-- a list of children that fit, in two parts
parts-fit : (fits : Fitting) (older : Lists) (child : List ℕ) (younger : Lists) → AllFit fits (older ++ child ∷ younger) →
    AllFit fits older × AllFit fits younger
parts-fit fits [] child younger all = (tt, all.1)
parts-fit fits (x ∷ older) child younger all = (let rest = parts-fit fits older child younger all.1 in ((all.0, rest.0), rest.1))

-- Inlet: what the parent is left with, however its children stood
abbrev InletFits : Fitting → Tree → ℕ → List ℕ → List ℕ → Bool → Type 0
InletFits fits tree p child words abort =
    (before behind : Lists) → kids tree p ≡ before ++ child ∷ behind → fits words (children_left abort (before ++ behind)) Neither

-- a tenant with its shape that fits: what each kind of change owes, so that it still fits
module _ {fits : Fitting} {rooted : Rooting} {origins : Lists} {tenant : Tenant} (shape : IsShaped tenant)
    (fitting : TenantFits fits rooted origins tenant) where
  -- a law that is kept for whatever stands above a frame of it
  kept-of : (C : Type 0) (n : ℕ) (f : F) (words : List ℕ) → frame_at tenant.frames n ≡ Some f → KeepsAbove C fits rooted tenant.frames f words →
      C × IsKeptAbove fits rooted tenant.frames f words
  kept-of C n f words at law =
      kept-above C fits rooted tenant.frames n f words shape.tree shape.childless fitting.frames at (has-origin fits rooted origins tenant n f shape fitting at) law

  -- other words in a frame, and then another change of the tree: what is left fits, if it does wherever a fact holds that holds of the
  -- frame with these words, and of all others that fit
  fits-changed : {serials steps : ℕ} (Q : Fact) (n : ℕ) (f : F) (words : List ℕ) (new : Tree) → frame_at tenant.frames n ≡ Some f →
      IsKeptAbove fits rooted tenant.frames f words → Q n words (kids tenant.frames n) (mark_of_state f.state) →
      ((s : ℕ) (w : List ℕ) (k : Lists) (m : Mark) → s ≢ n → fits w k m → Q s w k m) → IsTree new →
      (Holds Q (with_frame_words n words tenant.frames) → Holds (FitsAt fits) new) → HaveSameRoots tenant.frames (with_frame_words n words tenant.frames) new →
      TenantFits fits rooted origins (record tenant { serials = serials; steps = steps; frames = new })
  fits-changed Q n f words new at kept own up t change same =
      let tree = tenant.frames in
      record {
        frames = holds-fits fits new t (change (holds-with_frame_words n f tree shape.tree at Q words (λ s h at_s. (
          (λ is. (let e : f ≡ h = found-same tree n s f h (sym is) at at_s in rw (is, ← e) own)),
          (λ other child older younger split. elim (placed tree n f shape.tree at) [
            | inl top ↦ absurd (false≢true (sym (ap (is_that s) top.0) ∙ child))
            | inr u ↦ grind (arith, eqb-true, found-same, kids, parent-neither)
          ]),
          (λ other none. up s h.value (kids tree s) (mark_of_state h.state) other (fits-holds fits tree fitting.frames s h at_s)),
        ))));
        jobs = jobs-kept fits rooted tree new origins tenant.jobs
            (λ root origin is was. rw (same root is) (grind (arith, root-top, words-found, words-own, words-other))) shape.live fitting.jobs;
      }

  -- after the stores of an act in a frame
  module _ (f : F) (words : List ℕ) (at : frame_at tenant.frames f.serial ≡ Some f) (kept : IsKeptAbove fits rooted tenant.frames f words) where
    words-fits : mark_of_state f.state ≡ Neither → fits words (kids tenant.frames f.serial) Neither →
        TenantFits fits rooted origins (counted (holding f.serial words tenant))
    words-fits free own = fits-changed (FitsAt fits) f.serial f words _ at kept (rw free own) (λ s w k m other fit. fit)
        (tree-with_frame_words f.serial words tenant.frames shape.tree) (λ holds. holds) (λ root is. refl)

    -- the frame comes to another state
    state-fits : (state : State) → fits words (kids tenant.frames f.serial) (mark_of_state state) →
        TenantFits fits rooted origins (in_state f.serial state (counted (holding f.serial words tenant)))
    state-fits state own =
        let n = f.serial in
        let tree = with_frame_words n words tenant.frames in
        let t = tree-with_frame_words n words tenant.frames shape.tree in
        fits-changed (BeforeState (FitsAt fits) n state) n f words (with_state n state tree) at kept
        ((λ is. own), (λ other. absurd (other refl))) (λ s w k m other fit. ((λ is. absurd (other is)), (λ ne. fit)))
        (tree-with_state n state tree t) (holds-with_state (FitsAt fits) n state tree t) (λ root is. words-with_state n state tree root)

    -- a child is opened under it
    fits-spawned : (given : List ℕ) (size worker : ℕ) → mark_of_state f.state ≡ Neither →
        fits words (kids tenant.frames f.serial ++ padded given size ∷ []) Neither → fits (padded given size) [] Neither →
        TenantFits fits rooted origins (opened (Some f.serial) given size worker (counted (holding f.serial words tenant)))
    fits-spawned given size worker free own newborn =
        let n = f.serial in
        let serial = tenant.serials + 1 in
        let tree = with_frame_words n words tenant.frames in
        let new : F = new_frame tree serial (Some n) worker (padded given size) in
        let t = tree-with_frame_words n words tenant.frames shape.tree in
        let alike = with_frame_words-alike n words tenant.frames in
        let below = AllBelow-alike tenant.frames tree serial alike shape.given in
        let there = found-there tree n (record f { value = words }) (frame_at-with_frame_words n words tenant.frames f at) in
        let named : parent_of new.path ≡ Some n = parent_of-path_under tree (Some n) serial t there in
        let next = new-frame-next tree serial (Some n) worker (padded given size) t below there in
        fits-changed (BeforePush (FitsAt fits) new) n f words (tree ++ new ∷ []) at kept
        ((λ child. rw free own), (λ none. absurd (false≢true (sym none ∙ ap (is_that n) named ∙ eq-eqb n n refl))))
        (λ s w k m ne fit. ((λ child. absurd (ne (sym (eqb-true n s (sym (ap (is_that s) named) ∙ child))))), (λ none. fit)))
        (tree-push tree new t next) (holds-push (FitsAt fits) tree new t next newborn) (λ root is. ap frame_words (frame_at-left tree (new ∷ []) root (path-there tree root (path_in-alike tenant.frames tree root alike ∙ is))))

  -- what comes after the stores of an act
  then-fits : {I A : Type 0} (functions : Functions I A) (f : F) → frame_at tenant.frames f.serial ≡ Some f → (worker : ℕ) (name : FrameId) (words : List ℕ)
      (after : Continuation) → name.serial ≡ f.serial → mark_of_state f.state ≡ Neither →
      OwnFits fits words (kids tenant.frames f.serial) after → IsKeptAbove fits rooted tenant.frames f (grown after words) →
      LeftFits fits rooted origins (then_done functions (counted (holding f.serial words tenant)) worker name (record f { value = words }) after).0
  then-fits functions f at worker name words after own free fit kept =
      grind (arith, words-fits, with_frame_words-twice, fits-spawned, state-fits, kids, has-one, has_child-with_frame_words)

  -- a job that ends with all its frames, and one that is submitted
  ended-fits : {steps : ℕ} (root : ℕ) (job : Job) → path_in tenant.frames root ≡ root ∷ [] →
      ((origin : List ℕ) → rooted origin (words_in tenant.frames root) → JobFits fits rooted (without_job root tenant.frames) origin job) →
      TenantFits fits rooted origins (record (ended root job tenant) { steps = steps })
  ended-fits root job is end =
      let tree = tenant.frames in
      let f = root-found tree root is in
      record {
        frames = holds-fits fits (without_job root tree) (tree-without_job root tree shape.tree)
            (holds-without_job root tree shape.tree (FitsAt fits) f.0 f.1 (ap parent_of f.2) (λ s g at other. fits-holds fits tree fitting.frames s g at));
        jobs = jobs-ended fits rooted tree (without_job root tree) root job origins tenant.jobs end
            (λ r other there. ap frame_words (root-without_job root tree r shape.tree other there)) shape.live fitting.jobs;
      }

  pub submit-fits : (words : List ℕ) (size : ℕ) → fits (padded words size) [] Neither → rooted words (padded words size) →
      TenantFits fits rooted (origins ++ words ∷ []) (record (opened None words size 0 tenant) { jobs = tenant.jobs ++ Live (tenant.serials + 1) ∷ [] })
  submit-fits words size newborn belongs =
      let tree = tenant.frames in
      let root = tenant.serials + 1 in
      let new : F = new_frame tree root None 0 (padded words size) in
      let next = new-frame-next tree root None 0 (padded words size) shape.tree shape.given refl in
      record {
        frames = holds-fits fits (tree ++ new ∷ []) (tree-push tree new shape.tree next) (holds-push (FitsAt fits) tree new shape.tree next newborn (λ s f at. ((λ child. absurd (false≢true child)), (λ none. fits-holds fits tree fitting.frames s f at))));
        jobs = jobs-append fits rooted (tree ++ new ∷ []) origins words tenant.jobs (Live root)
            (jobs-left shape fitting (tree ++ new ∷ []) (λ r is. ap frame_words (frame_at-left tree (new ∷ []) r (path-there tree r is))))
            (rw (frame_at-push tree new shape.given) belongs);
      }

  -- a frame n that has no child is taken in by its parent p
  module _ (n p : ℕ) (f g : F) (at_n : frame_at tenant.frames n ≡ Some f) (at_p : frame_at tenant.frames p ≡ Some g) (named : parent_of f.path ≡ Some p)
      (leaf : children_of tenant.frames n ≡ []) (free : mark_of_state g.state ≡ Neither) where
    child-of : is_child_of p f.path ≡ true
    child-of = ap (is_that p) named ∙ eq-eqb p p refl

    -- the tenant without the frames that go, with what the inlet stored
    module _ (words : List ℕ) (kept : IsKeptAbove fits rooted tenant.frames g words) where
      abbrev tree : Tree
      tree = with_frame_words p words tenant.frames

      t : IsTree tree
      t = tree-with_frame_words p words tenant.frames shape.tree

      stays : (abort : Bool) → HaveSameRoots tenant.frames tree (staying tree n p abort)
      stays abort root is = ap frame_words (staying-root n p tree root abort t
          (λ e. let none = root-top tenant.frames root f (ap (frame_at tenant.frames) e ∙ at_n) is in
          let both : ◌≡◌ {A = Option ℕ} None (Some p) = sym none ∙ named in absurd cc) (path_in-alike tenant.frames tree root (with_frame_words-alike p words tenant.frames) ∙ is))

      left : (abort : Bool) → InletFits fits tenant.frames p f.value words abort →
          TenantFits fits rooted origins (counted (record tenant { frames = staying tree n p abort }))
      left true own =
          let a = among-kids tenant.frames p n f shape.tree at_n child-of in
          fits-changed (BeforeAbort (FitsAt fits) p) p g words (aborted p tree) at_p kept
          ((λ is. rw free (own a.older a.younger a.all)), (λ other. absurd (other refl))) (λ s w k m other fit. ((λ is. absurd (other is)), (λ ne. fit)))
          (tree-aborted p tree t) (holds-aborted p tree t (FitsAt fits)) (stays true)
      left false own =
          let leaf1 : children_of tree n ≡ [] = children_of-with_frame_words p words tenant.frames n shape.tree ∙ ap (with_frame_words p words) leaf in
          let below = under-below tenant.frames n p f shape.tree at_n named in
          let at1 = frame_at-other-with_frame_words p words tenant.frames n (λ e. omega arith) ∙ at_n in
          fits-changed (BeforeWithout (FitsAt fits) n f) p g words (frames_without n tree) at_p kept
          (λ other. ((λ is older younger split. rw free (own older younger split)), (λ none. absurd (false≢true (sym none ∙ child-of)))))
          (λ s w k m ne fit other. ((λ is older younger split. absurd (ne (sym (eqb-true p s (sym (ap (is_that s) named) ∙ is))))), (λ none. fit)))
          (tree-without n tree t leaf1) (holds-without (FitsAt fits) n f tree t at1 leaf1) (stays false)

      taken-in-fits : (abort : Bool) → InletFits fits tenant.frames p f.value words abort →
          TenantFits fits rooted origins (counted (holding p words (record tenant { frames = staying tenant.frames n p abort })))
      taken-in-fits abort own = rw (← staying-words n p words tenant.frames abort) (left abort own)

    -- what the inlet of a procedure leaves
    inlet-law : {I A : Type 0} (functions : Functions I A) (act : InletAct) → IsLawful functions fits rooted → functions.inlet g.value f.value ≡ act →
        mark_of_state f.state ≡ HasReturned → is_outside act.stores g.value ≡ false →
        InletFits fits tenant.frames p f.value (stored act.stores g.value) act.abort × IsKeptAbove fits rooted tenant.frames g (stored act.stores g.value)
    inlet-law functions act lawful is returned inside = kept-of _ p g (stored act.stores g.value) at_p (λ origin above older younger seen parent. (
      (λ before behind split. (law origin above older younger parent before behind split).0),
      (let a = among-kids tenant.frames p n f shape.tree at_n child-of in (law origin above older younger parent a.older a.younger a.all).1),
    ))
      where
        law : (origin : List ℕ) (above older younger : Lists) → ParentFits fits rooted origin above (older, younger) g.value → (before behind : Lists) →
            kids tenant.frames p ≡ before ++ f.value ∷ behind → fits (stored act.stores g.value) (children_left act.abort (before ++ behind)) Neither
            × ParentFits fits rooted origin above (older, younger) (stored act.stores g.value)
        law origin above older younger parent before behind split =
            let fit = rw split at (fits-marked shape fitting p g at_p free) in
            let whole : fits f.value [] HasReturned = rw leaf at (fits-marked shape fitting n f at_n returned) in
            let all = parts-fit fits before f.value behind (rw split at (all-fit fits tenant.frames p shape.tree fitting.frames)) in
            rw is at (lawful.inlet origin g.value f.value above older younger before behind fit parent all.0 whole all.1 (rw is inside))

  -- a step of a lawful procedure leaves a tenant fitting
  module _ {I A : Type 0} {functions : Functions I A} (lawful : IsLawful functions fits rooted) where
    -- Advance
    advanced-fits : (worker : ℕ) (name : FrameId) (f : F) → frame_at tenant.frames name.serial ≡ Some f →
        AllPass (advance_tests tenant worker f (act_by_sight functions tenant f)) →
        LeftFits fits rooted origins (advanced functions tenant worker name f (act_by_sight functions tenant f)).0
    advanced-fits worker name f at passed =
        let n = f.serial in
        let act = act_by_sight functions tenant f in
        let words = stored act.stores f.value in
        let at_own = found-own tenant.frames name.serial f at in
        let free = run-free worker f.state (not-false (is_run_by worker f.state) passed.0) in
        let fit = fits-marked shape fitting n f at_own free in
        let both = kept-of (OwnFits fits words (kids tenant.frames n) act.after) n f (grown act.after words) at_own
        (λ origin above older younger seen parent.
        let e : act ≡ functions.next (f.value ∷ above) = ap functions.next seen in
        let all = all-fit fits tenant.frames n shape.tree fitting.frames in
        let got = lawful.next origin f.value above older younger _ fit parent all (rw (has-one tenant.frames n, ← e) passed.1.1.0) in
        rw e ((got.0, got.2), got.1)) in
        then-fits functions f at_own worker name words act.after (sym (found-serial tenant.frames name.serial f at)) free both.0 both.1

    -- Inlet
    inlet-fits : (worker : ℕ) (name : FrameId) (f : F) (parent : ℕ) → frame_at tenant.frames name.serial ≡ Some f → parent_of f.path ≡ Some parent →
        AllPass (inlet_tests tenant worker f parent (functions.inlet (words_in tenant.frames parent) f.value)) →
        LeftFits fits rooted origins (taken_in {I = I} tenant worker name parent (functions.inlet (words_in tenant.frames parent) f.value)).0
    inlet-fits worker name f parent at named passed =
        let tree = tenant.frames in
        let n = name.serial in
        let act = functions.inlet (words_in tree parent) f.value in
        let returned = not-false (is_returned f.state) passed.0 in
        let g = there-found tree parent (under-there tree n parent f shape.tree at named) in
        let u = named-under tree n parent f shape.tree at named in
        let leaf = returned-childless tenant n f shape at (returned-marked f.state returned) in
        let above = found-same tree u.0.parent parent u.0.above g.0 u.1 u.0.there g.1 in
        let free = ap (λ (y : F). mark_of_state y.state) (sym above) ∙ parent-neither tree n f shape.tree shape.childless at u.0 in
        let got = inlet-law n parent f g.0 at g.1 named leaf free functions act lawful (rw g.1) (has-returned f.state returned)
        (ap (is_outside act.stores) (sym (words-found tree parent g.0 g.1)) ∙ passed.1.1.0) in
        let frames = staying tree n parent act.abort in
        let at_g : frame_at frames parent ≡ Some g.0 = staying-parent tenant n parent f g.0 act.abort at named g.1 shape in
        let words = stored act.stores (words_in frames parent) in
        let after = counted (holding parent words (record tenant { frames = frames })) in
        let left = taken-in-fits n parent f g.0 at g.1 named leaf free (stored act.stores g.0.value) got.1 act.abort got.0 in
        let fit : TenantFits fits rooted origins after = rw at_g left in
        either (LeftFits fits rooted origins) (does_wait (frame_at frames parent) && (act.abort || act.wake || not (has_child frames parent))) _ _
        (fits-same-mark (inlet-stored-shaped tenant worker n f parent act at named passed shape) fit parent
        (record g.0 { value = words }) (Ready worker) (frame_at-with_frame_words parent words frames g.0 at_g) free) fit

    -- every step but Submit
    pub own-fits : (step : StepOf A) (outcome : Outcome I) → submits step ≡ [] → lone_step functions tenant step ≡ Ok outcome →
        LeftFits fits rooted origins outcome.0
    own-fits step outcome none is = by-effects functions tenant step outcome (LeftFits fits rooted origins) is (record {
      at_raise = λ number quota _ enough. record { frames = fitting.frames; jobs = fitting.jobs };
      at_submit = λ number words size submit passed. absurd (grind arith);
      at_take = λ worker serial f at ready some. fits-same-mark shape fitting f.serial f (Running worker) (found-own tenant.frames serial f at) grind (arith, ready);
      at_advance = advanced-fits;
      at_answer = λ worker s f answer at passed.
          let words = stored (functions.accept f.value answer) f.value in
          let at_own = found-own tenant.frames s f at in
          let marked = computes-marked worker f.state (not-false (is_computed_by worker f.state) passed.0) in
          let leaf = returned-childless tenant f.serial f shape at_own (λ e. let both : Neither ≡ Computes = sym e ∙ marked in absurd cc) in
          let fit : fits f.value [] Computes = rw leaf at (fits-marked shape fitting f.serial f at_own marked) in
          let same = not-false (functions.same (functions.asked answer) (functions.input f.value)) passed.1.0 in
          let both = kept-of (fits words [] Neither) f.serial f words at_own
          (λ origin above older younger seen parent. lawful.accept origin f.value above older younger answer fit parent same passed.1.1.1.0) in
          state-fits f words at_own both.1 (Running worker) (rw leaf both.0);
      at_inlet = inlet-fits;
      at_finish = λ worker s f at passed.
          let tree = tenant.frames in
          let both = or_parts (not (is_returned f.state)) (not (is_root f.path)) passed.0 in
          let returned = not-false (is_returned f.state) both.0 in
          let at_own = found-own tree s f at in
          let leaf = returned-childless tenant f.serial f shape at_own (returned-marked f.state returned) in
          let path = found-path tree f.serial f at_own ∙ top-path tree f.serial f shape.tree at_own (root-path f.path (not-false (is_root f.path) both.1)) in
          let whole : fits f.value [] HasReturned = rw leaf at (fits-marked shape fitting f.serial f at_own (has-returned f.state returned)) in
          ended-fits f.serial (Done (kept_words f.value)) path (λ origin was. (f.value, refl, whole, (rw (words-found tree f.serial f at_own) at was)));
      at_spend = λ serial f at. ended-fits (root_of f.path) SpentJob (root-above tenant serial f shape at) (λ origin was. tt);
      at_cancel = λ number root at. ended-fits root CancelledJob (live-root tenant number root shape at) (λ origin was. tt);
      at_leave = λ number leaves. tt;
    })
