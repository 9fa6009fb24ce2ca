-- Instances of the premises of the law on tables (`in_two_runs`): two cores with tenant 9, whose first job is done.
use Rattle.promise_uses.proofs.Common.{◌≡◌, ℕ, List, [], ◌∷◌, Option, Some, None, refl, sym, arith, Tenant, Cell, best_choice, minimax}
use Rattle.std.proofs.lemmas.List.Elements.{All-from_recursion}
use Rattle.othello_board.specs.declared.boards.Board.{Board}
use Rattle.othello_board.specs.Words.{cells}
use Rattle.othello_eval.specs.Tables.{IsTable, IsTrueBound, IsExactIfBest}
use Rattle.othello_eval.specs.othello_moves.declared.choices.Choice.{Choice}
use Rattle.othello_eval.specs.othello_moves.Choices.{choices}
use Rattle.othello_eval.specs.declared.bound.Bound.{Bound}
use Rattle.sched_rules.specs.declared.job.Job.TheVariants.{Done}
use Rattle.sched_rules.specs.Cores.{CoreState, shared_by_nobody}
use Rattle.jamboree_rules.specs.Entries.{bounds_in}
use Rattle.jamboree_core.specs.jamboree.declared.reply.Reply.{Reply}
use Rattle.jamboree_core.specs.jamboree.Knowledge.{bounds_by}
use Rattle.jamboree_core.specs.declared.outcomes.Outcome.TheVariants.{Done as DoneWith}
use Rattle.promise_uses.proofs.instances.in_two_runs.Goals as goal

none-by : (cs : List Choice) → bounds_by cs [] ≡ []
none-by [] = refl
none-by (c ∷ cs) = refl

none-in : (cs : List Choice) → bounds_in cs [] ≡ []
none-in [] = refl
none-in (c ∷ cs) = refl

abbrev board : Board
board = record { own = 0; opp = 0; disjoint = refl }

none-known : IsTable 0 (cells board) []
none-known = record { each = refl; holds = All-from_recursion (IsTrueBound 0 (cells board)) [] tt; best = All-from_recursion (IsExactIfBest (best_choice 0 (cells board))) [] tt }

abbrev reply : Reply
reply = record {
  board = board;
  depth = 0;
  value = minimax 0 (cells board);
  choice = best_choice 0 (cells board);
  count = 0;
  known = [];
  shallow = omega arith;
  is_value = refl;
  is_best = refl;
  counted = refl;
  few = omega arith;
  table = rw none-by none-known;
}

abbrev nine : Tenant
nine = record { reserve = record { segments = 64; nodes = 64 }; serials = 1; steps = 7; jobs = Done (0 ∷ 0 ∷ 0 ∷ []) ∷ []; frames = [] }

abbrev core : CoreState
core = record { totals = record { segments = 64; nodes = 64 }; newest = 9; tenants = (9, nine) ∷ [] }

pub returns-clause-jobs : goal.returns-clause-jobs
returns-clause-jobs c = (0, core, core, [], [], [], [], 9, (omega arith, tt), (omega arith, tt), refl, tt, tt, refl)

pub returns-clause-tables : goal.returns-clause-tables
returns-clause-tables c = (
  0,
  core,
  core,
  [],
  [],
  [],
  [],
  9,
  1,
  reply,
  Some (DoneWith reply),
  (omega arith, tt),
  (omega arith, tt),
  refl,
  tt,
  tt,
  refl,
  (reply, refl, record { on = record { own = refl; opp = refl; depth = refl }; table = rw (none-by, none-in) refl }),
  (reply, refl, record { on = record { own = refl; opp = refl; depth = refl }; table = rw (none-by, none-in) refl }),
)
