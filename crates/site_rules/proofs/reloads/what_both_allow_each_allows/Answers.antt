-- Of two plans of a site: what both allow is within each, so the law `what_both_allow_each_allows`.
use Rattle.site_rules.proofs.ReloadLemmas.{first-allows, second-allows}
use Rattle.site_rules.proofs.reloads.what_both_allow_each_allows.Goals as goal

pub returns-clause-first : goal.returns-clause-first
returns-clause-first c = first-allows

pub returns-clause-second : goal.returns-clause-second
returns-clause-second c = second-allows
