-- The key by which the ordered search sorts choices (`ranking::key_of`): its sums fit in 32 bits.
use Rattle.leaf_search.proofs.Common.{◌+ℤ◌, ◌-ℤ◌, ◌*ℤ◌, ℤ, pos, arith, ints, cells, known-within, FitsSigned, IsWithin, to_z, of_z, w32}
use Rattle.leaf_search.proofs.ranking.key_of.Goals as goal

-- the sums in 32 bits, where `moves` is eight times a count less four times another
module _ (discs opponent mover : ℤ) (within : IsWithin 928 discs) (few : IsWithin 64 opponent) (few_too : IsWithin 64 mover) where
  low-fits : FitsSigned w32 (to_z w32 (of_z w32 discs) +ℤ to_z w32 (of_z w32 (pos 4 *ℤ to_z w32 (of_z w32 (to_z w32 (of_z w32 opponent) -ℤ to_z w32 (of_z w32 mover))))))
  low-fits = omega (arith, ints)

  module _ (theirs ours : ℤ) (some : IsWithin 64 theirs) (some_too : IsWithin 64 ours) where
    abbrev moves : ℤ
    moves = to_z w32 (of_z w32 (to_z w32 (of_z w32 (pos 8 *ℤ to_z w32 (of_z w32 theirs))) -ℤ to_z w32 (of_z w32 (pos 4 *ℤ to_z w32 (of_z w32 ours)))))

    abbrev room : ℤ
    room = to_z w32 (of_z w32 (to_z w32 (of_z w32 (pos 3 *ℤ to_z w32 (of_z w32 opponent))) -ℤ to_z w32 (of_z w32 mover)))

    moves-few : IsWithin 768 moves
    moves-few = (omega (arith, ints), omega (arith, ints))

    room-few : IsWithin 256 room
    room-few = (omega (arith, ints), omega (arith, ints))

    both-fit : FitsSigned w32 (moves +ℤ room)
    both-fit = sum-fits moves room moves-few room-few
      where
        sum-fits : (a b : ℤ) → IsWithin 768 a → IsWithin 256 b → FitsSigned w32 (a +ℤ b)
        sum-fits a b h k = omega (arith, ints)

    all-fit : FitsSigned w32 (to_z w32 (of_z w32 discs) +ℤ to_z w32 (of_z w32 (moves +ℤ room)))
    all-fit = sum-fits moves room moves-few room-few
      where
        sum-fits : (a b : ℤ) → IsWithin 768 a → IsWithin 256 b → FitsSigned w32 (to_z w32 (of_z w32 discs) +ℤ to_z w32 (of_z w32 (a +ℤ b)))
        sum-fits a b h k = omega (arith, ints)

pub overflow_add-result : goal.overflow_add-result
overflow_add-result c =
    low-fits c.args.after.discs c.beside-opponent.result c.beside-mover.result (known-within c.args.after.discs (cells c.args.after.board) c.args.after.weighed)
    c.beside-opponent.ensures c.beside-mover.ensures

pub overflow_add-result-2 : goal.overflow_add-result-2
overflow_add-result-2 c =
    both-fit c.args.after.discs c.beside-opponent.result c.beside-mover.result (known-within c.args.after.discs (cells c.args.after.board) c.args.after.weighed)
    c.beside-opponent.ensures c.beside-mover.ensures c.count.result c.count-2.result c.count.ensures c.count-2.ensures

pub overflow_add-result-3 : goal.overflow_add-result-3
overflow_add-result-3 c =
    all-fit c.args.after.discs c.beside-opponent.result c.beside-mover.result (known-within c.args.after.discs (cells c.args.after.board) c.args.after.weighed)
    c.beside-opponent.ensures c.beside-mover.ensures c.count.result c.count-2.result c.count.ensures c.count-2.ensures
