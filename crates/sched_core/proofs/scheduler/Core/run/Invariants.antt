-- A core does a list of steps (`Core::run`): at each turn, the core is what the steps so far lead to, and there is
-- room for the answers to come.
use Rattle.sched_core.proofs.Common.{◌≡◌, ◌+◌, ◌≤◌, length, take, vec_len, vec_capacity}
use Rattle.sched_core.proofs.Stepping.{IsRunning}
use Rattle.sched_core.proofs.scheduler.Core.run.Given as goal

abbrev pub invariant-loop-step : goal.invariant-loop-step
invariant-loop-step g l = record {
  procedure : l.self.procedure ≡ l.initial.self.procedure;
  room : vec_len l.answers + length l.steps ≤ vec_capacity l.answers + l.step-index;
  runs : IsRunning (g.P.Procedure.functions l.initial.self.procedure) l.initial.self.shared (take l.step-index l.steps) l.initial.answers.items
      l.answers.items l.self.shared;
}
