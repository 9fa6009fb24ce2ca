-- A use of the law on tables (`tables_of_seven_and_nine`): in two runs in which a tenant's own taken steps are the same
-- its jobs and its tables are.
use Rattle.promise_uses.proofs.Common.{◌≡◌, Option, Some, refl, ap, ◌∙◌}
use Rattle.sched_rules.specs.Cores.{shared_by_nobody}
use Rattle.jamboree_core.specs.jamboree.Replies.{table_of}
use Rattle.jamboree_core.specs.declared.outcomes.Outcome.{Outcome}
use Rattle.jamboree_core.specs.declared.outcomes.Outcome.TheVariants.{Done}
use Rattle.promise_uses.proofs.tables.tables_of_seven_and_nine.Goals as goal

pub returns-clause-job : goal.returns-clause-job
returns-clause-job c grain totals other_totals steps other_steps answers other_answers right other_right own =
    c.a_table_is_of_its_tenants_own_steps.ensures.jobs grain (shared_by_nobody totals) (shared_by_nobody other_totals) steps other_steps answers other_answers 9 5 tt tt refl right other_right own

pub returns-clause-running : goal.returns-clause-running
returns-clause-running c grain before other_before steps other_steps answers other_answers known other_known same right other_right own =
    c.a_table_is_of_its_tenants_own_steps.ensures.jobs grain before other_before steps other_steps answers other_answers 7 3 known other_known same right other_right own

pub returns-clause-seven : goal.returns-clause-seven
returns-clause-seven c grain before other_before steps other_steps answers other_answers first outcome known other_known same right other_right own done is =
    let told = c.a_table_is_of_its_tenants_own_steps.ensures.tables grain before other_before steps other_steps answers other_answers 7 3 first (Some outcome) known other_known same right other_right own done is in
    (told.0, (let is_done : ◌≡◌ {A = Option Outcome} (Some outcome) (Some (Done told.0)) = told.1 in cc), told.2)

pub returns-clause-nine : goal.returns-clause-nine
returns-clause-nine c grain totals other_totals steps other_steps answers other_answers first second right other_right own done is =
    let told = c.a_table_is_of_its_tenants_own_steps.ensures.tables grain (shared_by_nobody totals) (shared_by_nobody other_totals) steps other_steps answers other_answers 9 5 first (Some (Done second)) tt tt refl right other_right own done is in
    let same : second ≡ told.0 = (let is_done : ◌≡◌ {A = Option Outcome} (Some (Done second)) (Some (Done told.0)) = told.1 in cc) in
    ap table_of same ∙ told.2
