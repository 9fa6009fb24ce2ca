-- A site's file is checked for rates that let no line pass (`checks::are_fit_terms`): at each turn, the rates of all
-- customers so far let lines pass, so the rest decides.
use Rattle.std.proofs.Common.{◌≡◌, drop}
use Rattle.site_file.specs.Checks.{are_fit_terms}
use Rattle.site_file.proofs.checks.are_fit_terms.Given as goal

-- all are fit where the rest is
abbrev pub invariant-loop-terms : goal.invariant-loop-terms
invariant-loop-terms l = are_fit_terms (drop l.terms-index l.customers) ≡ are_fit_terms l.customers
