-- A worker steals by its thieves in turn (`ends::steal_between`): at each turn, those tried so far have found nothing,
-- and no thief has changed.
use Rattle.steal_pool.proofs.TaskDeques.Common.{◌≡◌, ◌≤◌, vec_len, thief_seats}
use Rattle.steal_pool.proofs.task_deques.ends.steal_between.Given as goal

abbrev pub invariant-loop-place : goal.invariant-loop-place
invariant-loop-place g l = (thief_seats l.thieves.items ≡ thief_seats l.initial.thieves.items) × (l.place-end ≤ vec_len l.thieves)
