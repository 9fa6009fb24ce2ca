-- The page's engine: the choice of a board that has a code, and the words of a board.
use Rattle.std.proofs.Common.{◌≡◌, ℕ, suc, ◌<◌, ◌^◌, true, false, eqb, List, [], ◌∷◌, Option, Some, None, IsSome, Contains, ℤ, bit_and, ⊎_elim, refl, sym, ◌∙◌, arith}
use Rattle.std.proofs.lemmas.Bool.{cond-true, cond-false, cases_Bool}
use Rattle.othello_board.specs.declared.boards.Board.{Board}
use Rattle.othello_board.specs.Rules.{cell_at, is_own_cell, is_opp_cell}
use Rattle.othello_board.specs.Words.{cells, cells_of}
use Rattle.othello_moves.specs.declared.choices.Choice.{Choice}
use Rattle.othello_moves.proofs.LeadLemmas.{word-of-passing, own-bit, opp-bit}
use Rattle.page_engine.specs.leaf_search.othello_eval.Values.{IsWithin}
use Rattle.page_engine.specs.Codes.{choice_code, with_code, own_bits, opp_bits}

-- the choice that has a code is one of those that were looked at
pub coded-contained : (code : ℕ) (cs : List Choice) (c : Choice) → with_code code cs ≡ Some c → Contains cs c
coded-contained code [] c e = cc
coded-contained code (d ∷ ds) c e = ⊎_elim here (later (coded-contained code ds c)) (cases_Bool (eqb (choice_code d) code))
  where
    here : eqb (choice_code d) code ≡ true → Contains (d ∷ ds) c
    here t =
        let first : Some d ≡ Some c = sym (cond-true (eqb (choice_code d) code) (Some d) (with_code code ds) t) ∙ e in
        let same : d ≡ c = cc in
        (0, omega arith, same)

    later : (with_code code ds ≡ Some c → Contains ds c) → eqb (choice_code d) code ≡ false → Contains (d ∷ ds) c
    later more f =
        let h = more (sym (cond-false (eqb (choice_code d) code) (Some d) (with_code code ds) f) ∙ e) in
        (suc h.0, omega (arith, h.1), h.2)

-- the words of a board are those of its cells
pub own_word-cells : (b : Board) → b.own < 2 ^ 64 → b.own ≡ own_bits (cells b)
own_word-cells b fits =
    word-of-passing b.own (λ s. is_own_cell (cell_at (cells b) s)) fits (own-bit b.own b.opp)

pub opp_word-cells : (b : Board) → b.opp < 2 ^ 64 → bit_and b.own b.opp ≡ 0 → b.opp ≡ opp_bits (cells b)
opp_word-cells b fits disjoint =
    word-of-passing b.opp (λ s. is_opp_cell (cell_at (cells b) s)) fits (λ t below. opp-bit b.own b.opp t disjoint below)

-- the cells of a board that was made of two words
pub cells-here : (b : Board) (own opp : ℕ) → (b.own ≡ own) × (b.opp ≡ opp) → cells b ≡ cells_of own opp
cells-here b own opp same = rw (same.0, same.1) refl

-- nothing isn't something
pub nothing-found : (found : Option Choice) (r : ℤ) → None ≡ found → IsSome found → IsWithin 128000 r
nothing-found None r none some = cc
nothing-found (Some x) r none some = cc
