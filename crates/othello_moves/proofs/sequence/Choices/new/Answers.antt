-- A board's choices, one after another (`Choices::new`): all of them are left.
use Rattle.othello_moves.proofs.Common.{sym, ap, ◌∙◌, bit_and, arith, filter, squares, is_legal, cells, bits_of, sequence}
use Rattle.std.proofs.Common.{ne_eqb}
use Rattle.othello_moves.proofs.BitLemmas.{choices-words, choices-pass}
use Rattle.othello_moves.proofs.sequence.Choices.new.Goals as goal
use Rattle.othello_moves.proofs.sequence.Choices.new.Goals.{then-is_stuck, else-is_stuck}

pub returns : goal.returns
returns c =
    let board = cells c.args.board in
    let w = c.moves-own.result in
    elim c.if-is_stuck.branch [
      | then-is_stuck b ↦
          ap (λ p. sequence (bit_and w 9295429630892703873) (bit_and w 9151314442816847742) p) b.result-is
          ∙ sym (choices-pass board w b.moves.result c.moves-own.ensures c.moves-own.type_inv b.if-is_stuck.true
          (b.moves.ensures ∙ ap (λ cs. bits_of (filter (is_legal cs) squares)) b.swap.ensures.cells) b.moves.type_inv)
      | else-is_stuck b ↦
          ap (λ p. sequence (bit_and w 9295429630892703873) (bit_and w 9151314442816847742) p) (b.result-is ∙ ne_eqb w 0 (λ e. absurd (omega arith)))
          ∙ sym (choices-words board w c.moves-own.ensures c.moves-own.type_inv (omega arith))
    ]
