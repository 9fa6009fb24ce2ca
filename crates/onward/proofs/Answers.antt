-- Each leaf of a search has an answer, so that each frame of it that is computed has one that it can take.
use Rattle.onward.proofs.Common.{Bool, IfSome, List, None, Option, Some, [], ap, arith, cond, false, inl, inr, length, refl, suc, zero, true, ℕ, ◌+◌, ◌<◌, ◌∙◌, ◌∷◌, ◌≡◌, cases_Bool, eq-eqb, ints, Contains, find, ℤ, ◌≤ℤ◌, int_eq, slice_index_or, Frame, children_of, frame_at, values_of, FrameId, Computing, CoreState, Computes, EveryFrameFits, mark_of_state, Tenant, is_outside, named, CoreFits, TenantFits, EachHasAnswer, HasAnswer, AreShaped, IsShaped, AreFitting, IsRoot, accepts, leaf_in, leaf_of_answer, same_leaf, jamboree, Leaf, LeafAnswer, sym}
use Rattle.othello_board.specs.declared.cells.Cell.{Cell}
use Rattle.othello_board.specs.Words.{cells}
use Rattle.othello_board.proofs.CellLemmas.{length-cells_of}
use Rattle.othello_moves.specs.Choices.{choices}
use Rattle.othello_eval.specs.Minimax.{best_choice, choice_value, int_equal, minimax}
use Rattle.leaf_search.proofs.EvalLemmas.MinimaxLemmas.{minimax-within}
use Rattle.jamboree_rules.proofs.Rooted.{accept-possible}
use Rattle.sched_laws.proofs.Consequences.{computing-leaf, shaped-in}
use Rattle.sched_laws.proofs.Holds.{fits-holds}
use Rattle.sched_laws.proofs.NotStuck.{named-in}

-- what is found in a list is in it
find-in : {X : Type 0} (p : X → Bool) (xs : List X) → IfSome (find p xs) (Contains xs)
find-in p [] = tt
find-in {X} p (x ∷ xs) = elim (p x) as (λ b. IfSome (cond b (Some x) (find p xs)) (Contains (x ∷ xs))) [
  | true ↦ (0, omega arith, refl)
  | false ↦ later (find p xs) (find-in p xs)
]
  where
    later : (found : Option X) → IfSome found (Contains xs) → IfSome found (Contains (x ∷ xs))
    later None is = tt
    later (Some y) is = (suc is.0, omega (arith, is.1), is.2)

best-in : (depth : ℕ) (board : List Cell) → IfSome (best_choice depth board) (Contains (choices board))
unfolding best_choice
best-in zero board = tt
best-in (suc depth) board = find-in (λ c. int_equal (choice_value (suc depth) board c) (minimax (suc depth) board)) (choices board)

-- the answer to a leaf
pub answer-to : (leaf : Leaf) → (answer : LeafAnswer) × (leaf_of_answer answer ≡ leaf)
answer-to leaf =
    let board = cells leaf.board in
    let within = minimax-within leaf.depth board (length-cells_of leaf.board.own leaf.board.opp) in (
      record {
        leaf = leaf;
        score = minimax leaf.depth board;
        choice = best_choice leaf.depth board;
        bound = record { upper = λ low. omega (arith, ints); lower = λ high. omega (arith, ints); exact = λ low high. refl };
        best = ∣ (λ low high. refl) ∣₁;
        chosen = ∣ best-in leaf.depth board ∣₁;
        low = omega (arith, ints, within);
        high = omega (arith, ints, within);
      },
      refl,
    )

-- a leaf is the same as itself
int-same : (x : ℤ) → int_eq x x ≡ true
int-same x = grind (arith, ints)

same-itself : (leaf : Leaf) → same_leaf leaf leaf ≡ true
same-itself leaf =
    rw (eq-eqb leaf.board.own leaf.board.own refl, eq-eqb leaf.board.opp leaf.board.opp refl, eq-eqb leaf.depth leaf.depth refl, int-same leaf.alpha, int-same leaf.beta) refl

-- a frame that is computed and fits has an answer that it can take
pub has-answer : (grain : ℕ) (own : List ℕ) → AreFitting own [] Computes → HasAnswer (jamboree grain) own
has-answer grain own fits =
    let a = answer-to (leaf_in own) in (a.0, ap (λ (l : Leaf). same_leaf l (leaf_in own)) a.1 ∙ same-itself (leaf_in own), accept-possible own a.0 fits)

-- of a tenant whose frames fit
pub computed-fits : (tenant : Tenant) (s worker : ℕ) (f : Frame (List ℕ)) → IsShaped tenant → EveryFrameFits AreFitting tenant.frames → frame_at tenant.frames s ≡ Some f →
    f.state ≡ Computing worker → AreFitting f.value [] Computes
computed-fits tenant s worker f shape fits at is =
    let own = fits-holds AreFitting tenant.frames fits s f at in
    let leaf = ap values_of (computing-leaf tenant s f shape worker at is) in
    rw (leaf, is) at own

pub frames-answered : (grain : ℕ) (origins : ℕ → List (List ℕ)) (shared : CoreState) → AreShaped shared.tenants → CoreFits AreFitting IsRoot origins shared →
    EachHasAnswer (jamboree grain) shared
frames-answered grain origins shared shaped core name frame worker at is =
    let t = named-in shared name frame at in
    has-answer grain frame.value
    (computed-fits t.0 name.serial worker frame (shaped-in name.tenant shared.tenants t.0 shaped t.1) (core.tenants name.tenant t.0 t.1).frames t.2 is)
