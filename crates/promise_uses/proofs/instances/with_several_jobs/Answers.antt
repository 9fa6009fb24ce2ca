-- Instances of the premises of the law on sums (`with_several_jobs`): tenant 9 asks for two searches of no disc to depth 6.
use Rattle.promise_uses.proofs.Common.{◌≡◌, ℕ, List, [], ◌∷◌, Option, Some, None, Result, Err, refl, sym, inl, arith, false≢true, StepOf, Tenant, DidOf, Refusal, Cell, root_words, frame_size, jamboree, ReserveOf, sum_by-cons, ◌≤◌}
use Rattle.sched_rules.specs.cactus_stack.Nodes.{padded}
use Rattle.frame_table.specs.declared.names.State.TheVariants.{Ready}
use Rattle.frame_table.specs.Frames.{Frame}
use Rattle.sched_rules.specs.declared.job.Job.TheVariants.{Live}
use Rattle.sched_rules.specs.declared.refusal.Refusal.TheVariants.{NotSpent}
use Rattle.sched_rules.specs.declared.step.StepOf.TheVariants.{Admit, Submit, Spend}
use Rattle.sched_rules.specs.Lone.{lone}
use Rattle.sched_rules.specs.Runs.{answer_of}
use Rattle.sched_rules.specs.Cores.{CoreState, shared_by_nobody, step_result, tenant_in}
use Rattle.sched_rules.specs.Headline.{AreAnswersTo, IsAnswerTo, after_answer}
use Rattle.jamboree_rules.specs.declared.leaf.Leaf.{Leaf}
use Rattle.jamboree_rules.specs.declared.leaf.LeafAnswer.{LeafAnswer}
use Rattle.jamboree_core.specs.Enough.{board_nodes, board_segments, search_nodes, search_segments, spawning_plies}
use Rattle.jamboree_core.specs.Journals.{IsJournalOf}
use Rattle.jamboree_core.specs.Sums.{HasSums}
use Rattle.promise_uses.proofs.Reserving.{one-nodes, one-segments}
use Rattle.promise_uses.proofs.TwoAtOnce.{two_then, two-searches, two-sums, two-rooms}
use Rattle.promise_uses.proofs.instances.with_several_jobs.Goals as goal

abbrev steps : List (StepOf LeafAnswer)
steps = two_then 9 0 0 0 0 [] refl

abbrev root : ℕ → Frame (List ℕ)
root serial = record { serial = serial; path = serial ∷ []; state = Ready 0; value = padded (root_words 0 0 6) frame_size }

abbrev nine : Tenant
nine = record { reserve = record { segments = 6956; nodes = 25090 }; serials = 2; steps = 0; jobs = Live 1 ∷ Live 2 ∷ []; frames = root 1 ∷ root 2 ∷ [] }

journal : IsJournalOf (jamboree 4) steps nine
journal = record { taken = (tt, (tt, (tt, tt))); comes = refl }

has : ((b : List Cell) → (board_nodes 6 4 b ≤ search_nodes 56 64 (spawning_plies 6 4)) × (board_segments 6 4 b ≤ search_segments 56 64 (spawning_plies 6 4))) →
    (search_nodes 56 64 2 ≡ 12545) × (search_segments 56 64 2 ≡ 3478) → HasSums 4 (root_words 0 0 6 ∷ root_words 0 0 6 ∷ []) nine
has any plies =
    let node = one-nodes 6 4 refl any plies 0 0 in
    let segment = one-segments 6 4 refl any plies 0 0 in record { nodes = simp sum_by-cons (omega (arith, node)); segments = omega (arith, segment) }

abbrev core : CoreState
core = shared_by_nobody (record { segments = 8192; nodes = 65536 })

abbrev came : Result (DidOf Leaf) Refusal
came = answer_of (step_result (jamboree 4) core (Admit 9 (record { segments = 6956; nodes = 25090 })))

abbrev there : CoreState
there = after_answer (jamboree 4) core (Admit 9 (record { segments = 6956; nodes = 25090 })) came

abbrev asked : CoreState → Result (DidOf Leaf) Refusal
asked before = answer_of (lone (jamboree 4) (tenant_in before.tenants 9) (Submit 9 (root_words 0 0 6) frame_size))

abbrev once : CoreState
once = after_answer (jamboree 4) there (Submit 9 (root_words 0 0 6) frame_size) (asked there)

abbrev twice : CoreState
twice = after_answer (jamboree 4) once (Submit 9 (root_words 0 0 6) frame_size) (asked once)

right : AreAnswersTo (jamboree 4) core steps (came ∷ asked there ∷ asked once ∷ [])
right = (
  (λ is. record { refused = λ refusal some. (let e : None ≡ Some refusal = some in absurd (cc e)); else_taken = λ none. inl refl }, λ is. absurd (false≢true (sym is))),
  (
    (λ is. absurd (false≢true is), λ is. record { own_state = λ refusal some. (let e : None ≡ Some refusal = some in absurd (cc e)); busy_worker = λ none busy. absurd (false≢true busy); else_taken = λ none free. refl }),
    ((λ is. absurd (false≢true is), λ is. record { own_state = λ refusal some. (let e : None ≡ Some refusal = some in absurd (cc e)); busy_worker = λ none busy. absurd (false≢true busy); else_taken = λ none free. refl }), tt),
  ),
)

spends : IsAnswerTo (jamboree 4) twice (Spend (record { tenant = 9; serial = 1 })) (Err NotSpent)
spends = (
  λ is. absurd (false≢true is),
  λ is. record {
    own_state = λ refusal some. (let e : Some NotSpent ≡ Some refusal = some in cc);
    busy_worker = λ none busy. (let e : Some NotSpent ≡ None = none in absurd (cc e));
    else_taken = λ none free. (let e : Some NotSpent ≡ None = none in absurd (cc e));
  },
)

pub returns : goal.returns
returns c =
    let one = c.who_asks_with_enough_is_never_spent.ensures in
    let cost = c.positions_suffice.ensures.nodes 4 in
    let size = c.positions_suffice.ensures.segments 4 in
    let searches = two-searches 9 0 0 0 0 [] refl refl refl in
    let sums = has (one.any 6 4) one.two_plies in
    record {
      sums = (4, steps, nine, 1, root 1, journal, searches, sums, refl);
      beside = (4, record { segments = 8192; nodes = 65536 }, steps, came ∷ asked there ∷ asked once ∷ [], 9, 1, nine, root 1, Err NotSpent, right, searches, refl, sums, refl, spends);
      asks = (4, steps, nine, 1, root 1, journal, searches, two-sums 9 0 0 0 0 [] refl (one.any 6 4) one.two_plies, refl);
      rooms = (4, cost.0, size.0, steps, nine, 1, root 1, cost.1, size.1, journal, searches, two-rooms 9 0 0 0 0 [] refl (one.any 6 4) one.two_plies cost.0 size.0 (cost.2 6) (size.2 6), refl);
    }
