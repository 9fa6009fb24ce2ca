-- The head of a search's frame (`Head::view`): its words are scores within range, so the typed view keeps its
-- invariant.
use Rattle.jamboree.proofs.Common.{arith}
use Rattle.jamboree.proofs.ViewLemmas.{ranged, alpha-low, below-beta, beta-high, best-low, best-high}
use Rattle.jamboree.proofs.view.Head.view.Goals as goal

pub score_of_word-requires-3 : goal.score_of_word-requires-3
score_of_word-requires-3 c = let r = ranged c.args.self c.requires.form in omega (arith, r.best)

pub invariant_of-result-2-clause-least : goal.invariant_of-result-2-clause-least
invariant_of-result-2-clause-least c = alpha-low c.args.self _ (ranged c.args.self c.requires.form) c.score_of_word.ensures

pub invariant_of-result-2-clause-window : goal.invariant_of-result-2-clause-window
invariant_of-result-2-clause-window c = below-beta c.args.self _ _ (ranged c.args.self c.requires.form) c.score_of_word.ensures c.score_of_word-2.ensures

pub invariant_of-result-2-clause-greatest : goal.invariant_of-result-2-clause-greatest
invariant_of-result-2-clause-greatest c = beta-high c.args.self _ (ranged c.args.self c.requires.form) c.score_of_word-2.ensures

pub invariant_of-result-2-clause-low : goal.invariant_of-result-2-clause-low
invariant_of-result-2-clause-low c = best-low c.args.self _ (ranged c.args.self c.requires.form) c.score_of_word-3.ensures

pub invariant_of-result-2-clause-high : goal.invariant_of-result-2-clause-high
invariant_of-result-2-clause-high c = best-high c.args.self _ (ranged c.args.self c.requires.form) c.score_of_word-3.ensures

pub score_of_word-requires : goal.score_of_word-requires
score_of_word-requires c = let r = ranged c.args.self c.requires.form in omega (arith, r.alpha_high)

pub score_of_word-requires-2 : goal.score_of_word-requires-2
score_of_word-requires-2 c = let r = ranged c.args.self c.requires.form in omega (arith, r.beta_high)

pub of-requires : goal.of-requires
of-requires c = (ranged c.args.self c.requires.form).role

pub of-requires-2 : goal.of-requires-2
of-requires-2 c = (ranged c.args.self c.requires.form).phase

pub invariant_of-result : goal.invariant_of-result
invariant_of-result c = record { disjoint = (ranged c.args.self c.requires.form).disjoint }
