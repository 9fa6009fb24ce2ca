-- Meaning: one tenant of a core: what it reserved, the serials that it was given, the steps that it took, its jobs,
-- and the tree of its frames. (Cilk 5.4 Reference Manual: cactus stack, abort.)
use Rattle.std.specs.Prelude.{ℕ, ◌+◌, ◌-◌, Bool, false, ◌||◌, ◌==◌, nat_lt, nat_le, List, [], ◌∷◌, Option, Some, None, if◌then◌else◌, map, reverse, length, sum_by, slice_set, take}
use Rattle.cactus_stack.specs.Nodes.{charge}
use Rattle.tenant_quota.specs.Reserves.{ReserveOf}
use Rattle.tenant_quota.specs.Accounts.{left_in}
use Rattle.tenant_quota.specs.declared.account.Account.{Account}
use Rattle.tenant_quota.specs.declared.account.Left.{Left}
use Rattle.frame_table.specs.declared.names.State.{State}
use Rattle.frame_table.specs.declared.names.State.TheVariants.{Ready, Running, Computing, Waiting, Returned}
use Rattle.frame_table.specs.Frames.{Frame, frame_at, aborted, frames_without, children_of}
use Rattle.sched_rules.specs.declared.job.Job.{Job}
use Rattle.sched_rules.specs.declared.job.Job.TheVariants.{Live, Done, Spent, Cancelled}

-- the frames of a tenant by rising serial, each with its path, its state and its words
abbrev pub Tree : Type 0
Tree = List (Frame (List ℕ))

-- a tenant: what it reserved, how many serials it was given, how many steps it took, its jobs from number 1 on, and its frames
pub record Tenant : Type 0 where
  pub reserve : ReserveOf
  pub serials : ℕ
  pub steps : ℕ
  pub jobs : List Job
  pub frames : Tree

-- a tenant as it is admitted, with this reservation: without a job or a frame, and nothing used
abbrev pub admitted_with : ReserveOf → Tenant
admitted_with quota = record { reserve = quota; serials = 0; steps = 0; jobs = []; frames = [] }

-- the words of a frame, and none where there is no frame
abbrev pub frame_words : Option (Frame (List ℕ)) → List ℕ
frame_words None = []
frame_words (Some frame) = frame.value

-- the words of the frame with this serial; none where it isn't there
abbrev pub words_in : Tree → ℕ → List ℕ
words_in frames serial = frame_words (frame_at frames serial)

-- what a frame on this path sees: the lists of words along the path, nearest first
abbrev pub sight : Tree → List ℕ → List (List ℕ)
sight frames path = reverse (map (λ serial. words_in frames serial) path)

-- the segments that all frames together take
abbrev pub charged_for : Tree → ℕ
charged_for frames = sum_by (λ frame. charge (length frame.value)) frames

-- the tenant's account: what it reserved, what its frames are charged, the nodes it opened (one a serial), its steps
abbrev pub account_in : Tenant → Account
account_in tenant = record { reserve = tenant.reserve; charged = charged_for tenant.frames; opened = tenant.serials; ticks = tenant.steps }

-- what the tenant has left of what it reserved: segments, nodes and steps
abbrev pub left : Tenant → Left
left tenant = left_in (account_in tenant)

-- a tenant's frames, once the frame with this serial has these words
abbrev pub with_frame_words : ℕ → List ℕ → Tree → Tree
with_frame_words serial words [] = []
with_frame_words serial words (frame ∷ frames) = (if frame.serial == serial then record frame { value = words } else frame) ∷ with_frame_words serial words frames

-- the words after these stores, each of a word at a place, done in order
abbrev pub stored : List (ℕ × ℕ) → List ℕ → List ℕ
stored [] words = words
stored (store ∷ stores) words = stored stores (slice_set words store.0 store.1)

-- whether one of these stores is at a place beyond the frame's words
abbrev pub is_outside : List (ℕ × ℕ) → List ℕ → Bool
is_outside [] words = false
is_outside (store ∷ stores) words = nat_le (length words) store.0 || is_outside stores words

-- whether the frame with this serial has a child
abbrev pub has_child : Tree → ℕ → Bool
has_child frames serial = nat_lt 0 (length (children_of frames serial))

-- whether this worker runs or computes a frame in this state
abbrev pub is_held_by : ℕ → State → Bool
is_held_by worker (Ready home) = false
is_held_by worker (Running holder) = holder == worker
is_held_by worker (Computing holder) = holder == worker
is_held_by worker Waiting = false
is_held_by worker Returned = false

-- whether this worker runs or computes one of a tenant's frames
abbrev pub is_busy_in : ℕ → Tree → Bool
is_busy_in worker [] = false
is_busy_in worker (frame ∷ frames) = is_held_by worker frame.state || is_busy_in worker frames

-- whether a frame with this path is a root: the path has one serial
abbrev pub is_root : List ℕ → Bool
is_root path = length path == 1

-- the frames without this root and all frames below it
abbrev pub without_job : ℕ → Tree → Tree
without_job root frames = frames_without root (aborted root frames)

-- the job with this number, the first being 1; none where there is no such job
abbrev pub job_at : List Job → ℕ → Option Job
job_at [] number = None
job_at (job ∷ jobs) number = if number == 1 then Some job else job_at jobs (number - 1)

-- whether this job of a tenant lives, with this frame as its root
abbrev pub is_live_at : ℕ → Job → Bool
is_live_at root (Live serial) = serial == root
is_live_at root (Done words) = false
is_live_at root Spent = false
is_live_at root Cancelled = false

-- the number of the job that lives under this root, if the first job has number first; 0 where there is none
abbrev pub number_from : ℕ → ℕ → List Job → ℕ
number_from first root [] = 0
number_from first root (job ∷ jobs) = if is_live_at root job then first else number_from (first + 1) root jobs

-- the number of the job that lives under this root, the first being 1; 0 where there is none
abbrev pub job_under : ℕ → List Job → ℕ
job_under root jobs = number_from 1 root jobs

-- a tenant's jobs, once the one that lives under this root has ended so
abbrev pub with_ended : ℕ → Job → List Job → List Job
with_ended root ended [] = []
with_ended root ended (job ∷ jobs) = (if is_live_at root job then ended else job) ∷ with_ended root ended jobs

-- what a finished job keeps of its root's words: the first 76
abbrev pub kept_words : List ℕ → List ℕ
kept_words words = take 76 words
