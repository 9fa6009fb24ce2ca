-- What is read of a core that keeps its invariant: nothing is cut off, and the newest ready frame has the greatest
-- serial.
use Rattle.sched_core.proofs.Common.{free-whole, ◌≡◌, ℕ, Option, Some, None, refl, IfSome, option_and_then, FrameId, newest_ready_of, tree-rising, Tenant, CoreState, tenant_in, left_in_core, newest_ready_in, IsShaped, shaped-in, left-nodes, left-steps, newest-found, IsKeptCore, IsRestOf, IsNewestReadyOf, Left, NoFrame, frame_in_core, no-frame as lacks, missing, arith}

-- what a tenant has left
pub rest-of : {shared : CoreState} (number : ℕ) → IsKeptCore shared → IfSome (left_in_core shared number) (IsRestOf (tenant_in shared.tenants number))
rest-of {shared} number kept = grind (arith, shaped-in, left-nodes, left-steps)

-- its newest ready frame
newest-in : (number : ℕ) (tenant : Tenant) (ready : Option (FrameId × ℕ)) → IsShaped tenant → newest_ready_of number tenant.frames ≡ ready →
    IfSome ready (λ r. IsNewestReadyOf (Some tenant) number r.0 r.1)
newest-in number tenant ready shape is = grind (arith, newest-found, tree-rising)

pub newest-of : {shared : CoreState} (number : ℕ) → IsKeptCore shared →
    IfSome (newest_ready_in shared number) (λ ready. IsNewestReadyOf (tenant_in shared.tenants number) number ready.0 ready.1)
newest-of {shared} number kept = by (tenant_in shared.tenants number) refl
  where
    by : (own : Option Tenant) → tenant_in shared.tenants number ≡ own →
        IfSome (option_and_then (λ tenant. newest_ready_of number tenant.frames) own) (λ ready. IsNewestReadyOf own number ready.0 ready.1)
    by None at = tt
    by (Some tenant) at = newest-in number tenant (newest_ready_of number tenant.frames) (shaped-in number shared.tenants tenant kept.shaped at) refl

-- what a core shows of its tenants
pub ruleset shown = (rest-of, free-whole)

-- what isn't found in a tenant that is there
pub no-frame : (shared : CoreState) (name : FrameId) (rest : Left) → left_in_core shared name.tenant ≡ Some rest → frame_in_core shared name ≡ None →
    missing shared name ≡ Some NoFrame
no-frame shared name rest there none = grind (arith, lacks)

-- no frame is there
pub ruleset no_frame = (no-frame)
