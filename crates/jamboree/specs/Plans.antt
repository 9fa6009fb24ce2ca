-- Representation: the act (what a frame of the search does next) that a small typed plan stands for.
use Rattle.std.specs.Prelude.{◌+◌, [], ◌∷◌, true, false}
use Rattle.jamboree_rules.specs.sched_rules.declared.act.Act.{Act}
use Rattle.jamboree_rules.specs.sched_rules.declared.act.Continuation.{Continuation}
use Rattle.jamboree_rules.specs.sched_rules.declared.act.Continuation.TheVariants.{Spawn, Wait, Compute, Return}
use Rattle.jamboree_rules.specs.Acts.{returns, opening}
use Rattle.jamboree_rules.specs.Places.{Phase, Spawned, Status, pairs_of, given_words, frame_size}
use Rattle.jamboree.specs.declared.plan.NewChild.{NewChild}
use Rattle.jamboree.specs.declared.plan.FramePlan.{FramePlan}
use Rattle.jamboree.specs.declared.plan.FramePlan.TheVariants.{Returns, Waits, Computes, Ends, Computed, Counts, Starts, Again}
use Rattle.jamboree.specs.Numbers.{role_number}

-- what an act does after its stores, where it opens this child
abbrev pub spawn_of : NewChild → Continuation
spawn_of c = Spawn (given_words c.goal.depth c.goal.alpha c.goal.beta (role_number c.role) c.number) frame_size

-- the act that a plan stands for (phase 4 is done; status 1 runs, 4 is searched again)
abbrev pub act_for : FramePlan → Act
act_for Returns = returns
act_for Waits = record { stores = []; after = Wait }
act_for Computes = record { stores = []; after = Compute }
act_for Ends = record { stores = pairs_of (Phase 4 ∷ []); after = Return }
act_for (Computed board) = opening true board.own board.opp 0
act_for (Counts board count) = opening false board.own board.opp count
act_for (Starts child rest) = record { stores = pairs_of (Spawned (child.number + 1) ∷ Status child.number 1 rest.word ∷ []); after = spawn_of child }
act_for (Again child rest) = record { stores = pairs_of (Status child.number 4 rest.word ∷ []); after = spawn_of child }
