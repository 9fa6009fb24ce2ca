-- The weight of one square (`weighed::weight_of`): what the table says is the square's weight.
use Rattle.othello_eval.proofs.Common.{sym, subst, IsWithin}
use Rattle.othello_eval.proofs.ValueLemmas.{weight-read, weight-within}
use Rattle.othello_eval.proofs.weighed.weight_of.Goals as goal

pub returns : goal.returns
returns c =
    let read = weight-read c.args.square in
    record { value = read; within = subst (IsWithin 100) (sym read) (weight-within c.args.square) }
