-- Representation: what the core's store keeps, and the core that it stands for: each account of the book is a tenant,
-- with its frames of the table, each with the words of its node.
use Rattle.std.specs.Prelude.{ℕ, List, [], ◌∷◌, Option}
use Rattle.cactus_stack.specs.Nodes.{Nodes, node_words}
use Rattle.tenant_quota.specs.declared.account.Account.{Account}
use Rattle.tenant_quota.specs.Reservations.{Reservations}
use Rattle.frame_table.specs.declared.names.FrameId.{FrameId}
use Rattle.frame_table.specs.Frames.{Frame, TenantTree}
use Rattle.frame_table.specs.TreeLaws.{map_values}
use Rattle.frame_table.specs.Tables.{frames_of}
use Rattle.sched_rules.specs.Trees.{Tree, Tenant}
use Rattle.sched_rules.specs.Cores.{CoreState}
use Rattle.sched_store.specs.JobLists.{JobListOf, jobs_of}

-- what a store keeps: the stack's nodes, the book, the table of frames with their nodes, the jobs, for each worker the frame that it held last, and the greatest number of a tenant so far
pub record Parts : Type 0 where
  pub nodes : Nodes
  pub book : Reservations
  pub trees : List (TenantTree ℕ)
  pub job_lists : List JobListOf
  pub places : List (Option FrameId)
  pub newest : ℕ

-- the frames, each with the words of its node as its value in place of the node's number
abbrev pub with_words_of_nodes : Nodes → List (Frame ℕ) → Tree
with_words_of_nodes nodes frames = map_values (node_words nodes) frames

-- the tenant of this number, by its account and the parts of the store
abbrev pub tenant_from : Parts → ℕ → Account → Tenant
tenant_from parts number account = record { reserve = account.reserve; serials = account.opened; steps = account.ticks; jobs = jobs_of parts.job_lists number; frames = with_words_of_nodes parts.nodes (frames_of parts.trees number) }

-- the tenants of these accounts, by the parts of the store
abbrev pub tenants_from : Parts → List (ℕ × Account) → List (ℕ × Tenant)
tenants_from parts [] = []
tenants_from parts (entry ∷ entries) = (entry.0, tenant_from parts entry.0 entry.1) ∷ tenants_from parts entries

-- the core that a store stands for
abbrev pub shared_of : Parts → CoreState
shared_of parts = record { totals = record { segments = parts.book.segments; nodes = parts.book.nodes }; newest = parts.newest; tenants = tenants_from parts parts.book.accounts }
