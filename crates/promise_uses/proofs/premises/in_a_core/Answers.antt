-- Instances of the premises of the laws on searches (`in_a_core`): tenant 9 comes and asks for the opening to depth 1.
use Rattle.std.specs.Prelude.{ℕ, ◌≡◌, List, [], ◌∷◌, None, Some, Result, refl}
use Rattle.std.proofs.Common.{arith, inl, sym}
use Rattle.std.proofs.lemmas.Bool.{false≢true}
use Rattle.std.proofs.Math.Dec.{lit≤}
use Rattle.sched_rules.specs.cactus_stack.Nodes.{padded}
use Rattle.tenant_quota.specs.Reserves.{ReserveOf}
use Rattle.frame_table.specs.declared.names.State.TheVariants.{Ready}
use Rattle.frame_table.specs.Frames.{Frame}
use Rattle.sched_rules.specs.declared.job.Job.TheVariants.{Live}
use Rattle.sched_rules.specs.declared.refusal.Refusal.{Refusal}
use Rattle.sched_rules.specs.declared.step.DidOf.{DidOf}
use Rattle.sched_rules.specs.declared.step.StepOf.{StepOf}
use Rattle.sched_rules.specs.declared.step.StepOf.TheVariants.{Admit, Submit}
use Rattle.sched_rules.specs.Trees.{Tenant}
use Rattle.sched_rules.specs.Lone.{lone}
use Rattle.sched_rules.specs.Runs.{answer_of}
use Rattle.sched_rules.specs.Cores.{CoreState, shared_by_nobody, step_result, tenant_in}
use Rattle.sched_rules.specs.Headline.{after_answer}
use Rattle.jamboree_rules.specs.declared.leaf.Leaf.{Leaf}
use Rattle.jamboree_rules.specs.declared.leaf.LeafAnswer.{LeafAnswer}
use Rattle.jamboree_rules.specs.Procedure.{jamboree}
use Rattle.othello_board.specs.Rules.{squares}
use Rattle.jamboree_core.specs.Replies.{AreSearches}
use Rattle.jamboree_core.specs.Rows.{asked}
use Rattle.promise_uses.proofs.premises.in_a_core.Goals as goal

abbrev quota : ReserveOf
quota = record { segments = 64; nodes = 64 }

abbrev steps : List (StepOf LeafAnswer)
steps = Admit 9 quota ∷ Submit 9 asked 12 ∷ []

abbrev root : Frame (List ℕ)
root = record { serial = 1; path = 1 ∷ []; state = Ready 0; value = padded asked 12 }

abbrev nine : Tenant
nine = record { reserve = quota; serials = 1; steps = 0; jobs = Live 1 ∷ []; frames = root ∷ [] }

abbrev empty : CoreState
empty = shared_by_nobody (record { segments = 4096; nodes = 65536 })

abbrev came : Result (DidOf Leaf) Refusal
came = answer_of (step_result (jamboree 0) empty (Admit 9 quota))

abbrev there : CoreState
there = after_answer (jamboree 0) empty (Admit 9 quota) came

abbrev asks : Result (DidOf Leaf) Refusal
asks = answer_of (lone (jamboree 0) (tenant_in there.tenants 9) (Submit 9 asked 12))

searches : AreSearches steps
searches = (tt, ((record { own = 34628173824; opp = 68853694464; depth = 1; are = refl; apart = refl; shallow = omega arith }, refl), tt))

pub returns : goal.returns
unfolding squares
returns c = record {
  sound = (
    0,
    record { segments = 4096; nodes = 65536 },
    steps,
    came ∷ asks ∷ [],
    9,
    nine,
    (
      (λ is. record { refused = λ refusal some. (let e : None ≡ Some refusal = some in absurd (cc e)); else_taken = λ none. inl refl }, λ is. absurd (false≢true (sym is))),
      ((λ is. absurd (false≢true is), λ is. record { own_state = λ refusal some. (let e : None ≡ Some refusal = some in absurd (cc e)); busy_worker = λ none busy. absurd (false≢true busy); else_taken = λ none free. refl }), tt),
    ),
    searches,
    refl,
  );
  enough = (0, steps, nine, 1, root, record { taken = (tt, (tt, tt)); comes = refl }, searches, (tt, (record { idle = refl; segments = lit≤ tt; nodes = lit≤ tt }, tt)), refl);
}
