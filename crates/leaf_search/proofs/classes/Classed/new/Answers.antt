-- A list of choices by class (`Classed::new`): it has all choices of the board, and where the class is empty in
-- their order.
use Rattle.leaf_search.proofs.Common.{◌≡◌, sym, ap, ◌∙◌, subst, arith, bit_and, bit_not, w64, filter, squares, is_legal, cells, choices, bits_of, sequence, classed, ne_eqb, IsPermutation}
use Rattle.std.proofs.lemmas.Nat.{and_le_l}
use Rattle.othello_moves.proofs.BitLemmas.{choices-words, choices-pass}
use Rattle.leaf_search.proofs.ClassLemmas.{classed-rearranges, classed-kept}
use Rattle.leaf_search.proofs.classes.Classed.new.Goals as goal
use Rattle.leaf_search.proofs.classes.Classed.new.Goals.{then-is_stuck, else-is_stuck}

pub returns : goal.returns
returns c =
    let board = cells c.args.board in
    let w = c.moves-own.result in
    let corners = bit_and w 9295429630892703873 in
    let others = bit_and w 9151314442816847742 in
    let class = c.args.class in
    let stuck = c.if-is_stuck.result in
    let is : sequence corners others stuck ≡ choices board = elim c.if-is_stuck.branch [
      | then-is_stuck b ↦
          ap (λ p. sequence corners others p) b.result-is
          ∙ sym (choices-pass board w b.moves.result c.moves-own.ensures c.moves-own.type_inv b.if-is_stuck.true
          (b.moves.ensures ∙ ap (λ cs. bits_of (filter (is_legal cs) squares)) b.swap.ensures.cells) b.moves.type_inv)
      | else-is_stuck b ↦
          ap (λ p. sequence corners others p) (b.result-is ∙ ne_eqb w 0 (λ e. absurd (omega arith)))
          ∙ sym (choices-words board w c.moves-own.ensures c.moves-own.type_inv (omega arith))
    ] in
    record {
      all = subst (λ l. IsPermutation l (classed corners (bit_and others class) (bit_and others (bit_not w64 class)) stuck)) is (classed-rearranges corners others class stuck (omega arith));
      rules = λ none. classed-kept corners others class stuck none (omega (arith, and_le_l w 9151314442816847742)) ∙ is;
    }
