-- A line of those who share gets another account (`ShareLine::put`): the names beside the accounts still agree with
-- them.
use Rattle.fair_share.proofs.Common.{rules, ◌≡◌, ◌∙◌, length-set}
use Rattle.std.proofs.Common.{slice_index_or}
use Rattle.fair_share.proofs.NameLemmas.{names-put, names-stay}
use Rattle.fair_share.proofs.line.ShareLine.put.Goals as goal

pub invariant_of-self : goal.invariant_of-self
invariant_of-self c = (
  length-set c.self.inside.accounts.items c.args.place c.args.account ∙ c.self.invariant.0,
  names-put c.self.inside.accounts.items c.self.inside.names.items c.args.place c.args.account c.self.invariant.1,
)

pub invariant_of-self-else-index-account : goal.invariant_of-self-else-index-account
invariant_of-self-else-index-account c =
    let same : c.args.account.name ≡ slice_index_or c.self.inside.names.items c.args.place c.args.account.name = search rules in (
      length-set c.self.inside.accounts.items c.args.place c.args.account ∙ c.self.invariant.0,
      names-stay c.self.inside.accounts.items c.self.inside.names.items c.args.place c.args.account c.self.invariant.1 same,
    )
