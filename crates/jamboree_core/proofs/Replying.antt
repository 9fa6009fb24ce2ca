-- A job of a search that is done kept a returned root, which holds the answer to what it was asked.
use Rattle.jamboree_core.proofs.Common.{◌≡◌, ℕ, List, [], ◌∷◌, Some, Result, refl, sym, ◌∙◌, subst, arith, ReserveOf, F, Job, Live, Done, Spent as SpentJob, Cancelled as CancelledJob, Refusal, StepOf, Submit, DidOf, Tree, Tenant, kept_words, HasReturned, mark_of_state, EachFits, only, shared_by_nobody, tenant_in, AreAnswersTo, after_answers, taken_steps, JobsFit, TenantFits, submits, RootFits, RootsFit, origins_of, IsLawful, run-fits, nobody-fits, Leaf, LeafAnswer, cells_of, Bound, IsTable, board, frame_of, bounds_of, AreFitting, IsRoot, jamboree, next-keeps, inlet-keeps, fits_sound, accept-keeps, root_fits, root_value, root-whole, root-kept, AreAllRootWords, IsSearch, AreSearches, IsReplyTo, AreReplies, AreAllSound, Frame, negsuc, ap, All-from_recursion, Cell, squares, squares_beside, Square, in_order, weights, minimax, best_choice, IsTrueBound, IsExactIfBest, equal_moves, apart, coded, asked, kept}

-- the new root of a search fits, and belongs to a board and a depth
pub search-parts : {A : Type 0} (step : StepOf A) → IsSearch step → RootFits AreFitting IsRoot step × AreAllRootWords (submits step)
search-parts (Submit number words size) is =
    (rw (is.0.are, is.1) (root_fits is.0.own is.0.opp is.0.depth is.0.apart is.0.shallow), (is.0, tt))
search-parts _ is = (tt, tt)

pub search-fits : (step : StepOf LeafAnswer) → IsSearch step → RootFits AreFitting IsRoot step
search-fits step is = (search-parts step is).0

pub searches-fit : (steps : List (StepOf LeafAnswer)) → AreSearches steps → RootsFit AreFitting IsRoot steps
searches-fit [] are = tt
searches-fit (step ∷ steps) are = (search-fits step are.0, searches-fit steps are.1)

-- Jamboree keeps frames fitting
pub lawful : (grain : ℕ) → IsLawful (jamboree grain) AreFitting IsRoot
lawful grain = record { next = next-keeps (jamboree grain) grain refl; inlet = inlet-keeps (jamboree grain) refl; accept = accept-keeps (jamboree grain) refl refl refl refl }

-- a tenant fits after any list of searches
pub searched : (grain : ℕ) (totals : ReserveOf) (steps : List (StepOf LeafAnswer)) (answers : List (Result (DidOf Leaf) Refusal)) (number : ℕ) (tenant : Tenant) →
    AreAnswersTo (jamboree grain) (shared_by_nobody totals) steps answers → AreSearches (taken_steps steps answers) →
    tenant_in (after_answers (jamboree grain) (shared_by_nobody totals) steps answers).tenants number ≡ Some tenant →
    TenantFits AreFitting IsRoot (origins_of (only number (taken_steps steps answers))) tenant
searched grain totals steps answers number tenant right searches at =
    let core = run-fits (jamboree grain) AreFitting IsRoot (λ n. []) (shared_by_nobody totals) steps answers
    (lawful grain) tt tt
    (nobody-fits AreFitting IsRoot totals) right (searches-fit (taken_steps steps answers) searches) in
    core.tenants number tenant at

same-table : (own opp depth : ℕ) (bounds : List Bound) (f : Frame) → f.own ≡ own → f.opp ≡ opp → f.depth ≡ depth → IsTable f.depth (board f) bounds → IsTable depth (cells_of own opp) bounds
same-table own opp depth bounds f o p d table = grind arith

-- a returned root holds the reply
module _ {origin all : List ℕ} (fits : AreFitting all [] HasReturned) (root : IsRoot origin all) where
  root-replies : IsReplyTo origin all
  root-replies =
      let holds = root_value origin all fits root in
      let table : IsTable (frame_of all).depth (board (frame_of all)) (bounds_of (frame_of all)) = (root-whole origin all fits root).2 in
      let own : (frame_of all).own ≡ (frame_of origin).own = root.own_is in
      let opp : (frame_of all).opp ≡ (frame_of origin).opp = root.opp_is in
      let depth : (frame_of all).depth ≡ (frame_of origin).depth = root.depth_is in
      record {
        own = own;
        opp = opp;
        depth = depth;
        value = holds.0 ∙ (rw (depth, own, opp) refl);
        choice = holds.1 ∙ (rw (depth, own, opp) refl);
        table = same-table (frame_of origin).own (frame_of origin).opp (frame_of origin).depth (bounds_of (frame_of all)) (frame_of all) own opp depth table;
      }

  -- so does a job, which keeps all its words
  reply-held : (words : List ℕ) → kept_words all ≡ words → IsReplyTo origin words
  reply-held words kept = subst (λ (ws : List ℕ). IsReplyTo origin ws) (sym (root-kept origin all fits root) ∙ kept) (root-replies)

pub replies-held : (tree : Tree) (origins : List (List ℕ)) (jobs : List Job) → JobsFit AreFitting IsRoot tree origins jobs → AreReplies origins jobs
replies-held tree [] [] fit = tt
replies-held tree [] (job ∷ jobs) fit = absurd fit
replies-held tree (origin ∷ origins) [] fit = absurd fit
replies-held tree (origin ∷ origins) (Live root ∷ jobs) fit = (tt, replies-held tree origins jobs fit.1)
replies-held tree (origin ∷ origins) (Done words ∷ jobs) fit = (reply-held fit.0.2 fit.0.3 words fit.0.1, replies-held tree origins jobs fit.1)
replies-held tree (origin ∷ origins) (SpentJob ∷ jobs) fit = (tt, replies-held tree origins jobs fit.1)
replies-held tree (origin ∷ origins) (CancelledJob ∷ jobs) fit = (tt, replies-held tree origins jobs fit.1)

pub all-sound : (tree : Tree) (frames : List (F)) → EachFits AreFitting tree frames → AreAllSound tree frames
all-sound tree [] fit = tt
all-sound tree (frame ∷ frames) fit = (fits_sound (frame.value) _ (mark_of_state frame.state) fit.0, all-sound tree frames fit.1)

pub worth : minimax 1 (cells_of 34628173824 68853694464) ≡ negsuc 2
unfolding squares squares_beside in_order weights minimax
worth = refl

pub best : best_choice 1 (cells_of 34628173824 68853694464) ≡ Some (Square 19)
unfolding squares squares_beside in_order weights minimax best_choice
best = refl

-- the table of d3, and of c4, f5 and e6
tabled : IsTable 1 (cells_of 34628173824 68853694464) (bounds_of (frame_of (kept 1 999997 19)))
unfolding squares squares_beside in_order weights minimax best_choice
tabled =
    let board : List Cell = cells_of 34628173824 68853694464 in
    record {
      each = refl;
      holds = All-from_recursion (IsTrueBound 1 board) equal_moves (refl, (record { le = tt }, (record { le = tt }, (record { le = tt }, tt))));
      best = All-from_recursion (IsExactIfBest (best_choice 1 board)) equal_moves (
        λ _. refl,
        (
          λ e. absurd (apart (best_choice 1 board) 19 26 refl (λ n. absurd (omega arith)) e),
          (λ e. absurd (apart (best_choice 1 board) 19 37 refl (λ n. absurd (omega arith)) e), (λ e. absurd (apart (best_choice 1 board) 19 44 refl (λ n. absurd (omega arith)) e), tt)),
        ),
      );
    }

pub answered : IsReplyTo asked (kept 1 999997 19)
answered = record { own = refl; opp = refl; depth = refl; value = sym worth; choice = sym (ap coded best); table = tabled }
