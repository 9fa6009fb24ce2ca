-- For the promise on lists of searches: one answer for each step, and what a step that is no admission is refused for.
use Rattle.promises.proofs.Common.{◌≡◌, ℕ, List, length, Result, ReserveOf, Refusal, StepOf, DidOf, CoreState, shared_by_nobody, jamboree, AreRefusedForThese}
use Rattle.promises.proofs.Answered.{as-many}
use Rattle.promises.proofs.Refused.{refused-for-these}
use Rattle.jamboree_core.specs.jamboree_rules.declared.leaf.Leaf.{Leaf}
use Rattle.jamboree_core.specs.jamboree_rules.declared.leaf.LeafAnswer.{LeafAnswer}
use Rattle.jamboree_core.specs.NewRuns.{IsHeadlineFromNew}

module _ (grain : ℕ) (totals : ReserveOf) (steps : List (StepOf LeafAnswer)) (answers : List (Result (DidOf Leaf) Refusal)) (after : CoreState) where
  pub as-many-answers : IsHeadlineFromNew grain totals steps answers after → length answers ≡ length steps
  as-many-answers whole = as-many (jamboree grain) (shared_by_nobody totals) steps answers whole.tenants.refused

  pub refused-of-searches : IsHeadlineFromNew grain totals steps answers after → AreRefusedForThese (jamboree grain) steps answers
  refused-of-searches whole = refused-for-these (jamboree grain) totals steps answers after whole.tenants
