-- The evaluation's discs (`values::weighed`): the weight times a difference of at most 64 discs is within bounds.
use Rattle.othello_eval.proofs.Common.{sym, subst, arith, IsWithin}
use Rattle.othello_eval.proofs.MaskLemmas.{product-within, product-is}
use Rattle.othello_eval.proofs.values.weighed.Goals as goal

pub returns-clause-within : goal.returns-clause-within
returns-clause-within c =
    let within = c.disc_difference.ensures.within in
    subst (IsWithin 6400) (sym (product-is 100 64 c.args.weight c.disc_difference.result c.requires within (omega arith) (omega arith) (omega arith)))
    (product-within 100 64 c.args.weight c.disc_difference.result c.requires within)
