-- Rows of the search: frames whose choices `IsSound` refuses, each for one fault of the best score or the stored
-- choice.
use Rattle.jamboree_rules.proofs.Common.{◌≡◌, ◌⊎◌, ℕ, zero, suc, negsuc, ◌<ℤ◌, slice_index, refl, inl, inr, ap, sym, ◌∙◌, arith, ints, squares, in_order, Frame, code_at, value_at}
use Rattle.othello_board.specs.Rules.{squares_beside}
use Rattle.leaf_search.specs.othello_eval.Values.{weights}
use Rattle.leaf_search.specs.othello_eval.Minimax.{minimax, best_choice}
use Rattle.jamboree_rules.specs.Frames.{phase_first, phase_tests}
use Rattle.jamboree_rules.specs.Sound.{IsFirstBest}
use Rattle.jamboree_rules.specs.Rows.{full_root, d3_settled, two_settled, none_settled}
use Rattle.jamboree_rules.proofs.rows.choices_that_are_not_sound.Goals as goal

-- d3 alone is settled
only-d3 : (place : ℕ) → slice_index d3_settled place ≡ 2 → place ≡ 0
only-d3 zero e = refl
only-d3 (suc zero) e = let none : 0 ≡ 2 = e in absurd (omega (arith, none))
only-d3 (suc (suc zero)) e = let none : 0 ≡ 2 = e in absurd (omega (arith, none))
only-d3 (suc (suc (suc zero))) e = let none : 0 ≡ 2 = e in absurd (omega (arith, none))
only-d3 (suc (suc (suc (suc place)))) e = let none : 0 ≡ 2 = e in absurd (omega (arith, none))

-- d3 and c4 are
d3-or-c4 : (place : ℕ) → slice_index two_settled place ≡ 2 → (place ≡ 0) ⊎ (place ≡ 1)
d3-or-c4 zero e = inl refl
d3-or-c4 (suc zero) e = inr refl
d3-or-c4 (suc (suc zero)) e = let none : 0 ≡ 2 = e in absurd (omega (arith, none))
d3-or-c4 (suc (suc (suc zero))) e = let none : 0 ≡ 2 = e in absurd (omega (arith, none))
d3-or-c4 (suc (suc (suc (suc place)))) e = let none : 0 ≡ 2 = e in absurd (omega (arith, none))

-- none is
never : (place : ℕ) → slice_index none_settled place ≡ 2 → ⊥
never zero e = let none : 0 ≡ 2 = e in omega (arith, none)
never (suc zero) e = let none : 0 ≡ 2 = e in omega (arith, none)
never (suc (suc zero)) e = let none : 0 ≡ 2 = e in omega (arith, none)
never (suc (suc (suc zero))) e = let none : 0 ≡ 2 = e in omega (arith, none)
never (suc (suc (suc (suc place)))) e = let none : 0 ≡ 2 = e in omega (arith, none)

-- a best score that d3, the only settled choice, isn't worth
abbrev better : ℕ → Frame
better phase = full_root phase (negsuc 1) 19 d3_settled

not-worth-it : (phase : ℕ) → IsFirstBest (better phase) → ⊥
unfolding squares squares_beside in_order weights minimax best_choice
not-worth-it phase first = let e : negsuc 2 ≡ negsuc 1 = ap (λ (n : ℕ). value_at (better phase) n) (sym (only-d3 first.place first.settled)) ∙ first.worth in omega (arith, ints, e)

-- another choice than the only settled one is stored
abbrev other : Frame
other = full_root phase_tests (negsuc 2) 26 d3_settled

not-stored : IsFirstBest other → ⊥
unfolding squares squares_beside in_order weights minimax best_choice
not-stored first = let e : 26 ≡ 19 = first.stored ∙ ap (λ (n : ℕ). code_at other n) (only-d3 first.place first.settled) in omega (arith, e)

-- the second choice of two that are worth the same is stored
abbrev second : Frame
second = full_root phase_tests (negsuc 2) 26 two_settled

not-the-first : (first : IsFirstBest second) → (first.place ≡ 0) ⊎ (first.place ≡ 1) → ⊥
unfolding squares squares_beside in_order weights minimax best_choice
not-the-first first (inl at) = let e : 26 ≡ 19 = first.stored ∙ ap (λ (n : ℕ). code_at second n) at in omega (arith, e)
not-the-first first (inr at) = let less : value_at second 0 <ℤ negsuc 2 = first.earlier 0 (omega (arith, at)) in less.lt

pub returns : goal.returns
returns c = record {
  worth = λ s. not-worth-it phase_tests (s.chosen (inr refl) (record { lt = tt }));
  worth_first = λ s. not-worth-it phase_first (s.chosen (inl refl) (record { lt = tt }));
  unsettled = λ s. (let first = s.chosen (inr refl) (record { lt = tt }) in never first.place first.settled);
  another = λ s. not-stored (s.chosen (inr refl) (record { lt = tt }));
  later = λ s. (let first = s.chosen (inr refl) (record { lt = tt }) in not-the-first first (d3-or-c4 first.place first.settled));
}
