-- Of a tenant's tables: in two runs in which its own taken steps are the same it has the same, so the law
-- `a_table_is_of_its_tenants_own_steps`.
use Rattle.jamboree_core.proofs.Serving.{same-jobs, same-tables}
use Rattle.jamboree_core.proofs.laws.a_table_is_of_its_tenants_own_steps.Goals as goal

pub returns-clause-jobs : goal.returns-clause-jobs
returns-clause-jobs c grain before other_before steps other_steps answers other_answers number job known other_known begun right other_right own =
    same-jobs grain before other_before steps other_steps answers other_answers number job known other_known begun right other_right own

pub returns-clause-tables : goal.returns-clause-tables
returns-clause-tables c grain before other_before steps other_steps answers other_answers number job first told known other_known begun right other_right own done is =
    same-tables grain before other_before steps other_steps answers other_answers number job known other_known begun right other_right own first told done is
