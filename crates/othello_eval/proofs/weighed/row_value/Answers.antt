-- The weights of one row of a board (`weighed::row_value`): what the table of rows says is the sum of the row's
-- weights.
use Rattle.othello_eval.proofs.Common.{refl, sym, subst, IsWithin}
use Rattle.othello_eval.proofs.MaskLemmas.{row-read, row-within}
use Rattle.othello_eval.proofs.weighed.row_value.Goals as goal

pub returns : goal.returns
returns c =
    let read = row-read c.args.word c.args.row _ _ c.requires refl c.kind_of.ensures.value in
    record { value = read; within = subst (IsWithin 300) (sym read) (row-within c.args.word c.args.row c.requires) }
