-- Meaning: what a hall tells of a completed job, by the board and the depth that were asked.
use Rattle.std.specs.Prelude.{◌≡◌, ℕ, ◌≤◌, ℤ, List, Option, Some, slice_get}
use Rattle.othello_board.specs.Words.{cells_of}
use Rattle.othello_eval.specs.othello_moves.declared.choices.Choice.{Choice}
use Rattle.othello_eval.specs.othello_moves.Depths.{greatest_depth}
use Rattle.othello_eval.specs.declared.bound.Bound.{Bound}
use Rattle.othello_eval.specs.Minimax.{minimax, best_choice}
use Rattle.othello_eval.specs.Tables.{entered, IsTrueBound, IsExactIfBest}
use Rattle.jamboree_core.specs.jamboree_rules.Places.{root_words}
use Rattle.jamboree_core.specs.jamboree_rules.declared.leaf.LeafAnswer.{LeafAnswer}
use Rattle.jamboree_core.specs.sched_laws.Fitted.{origins_of}
use Rattle.jamboree_core.specs.Searching.{origin_at}
use Rattle.sched_rules.specs.declared.step.StepOf.{StepOf}

-- a step of a core that searches Othello positions
abbrev pub SearchStep : Type 0
SearchStep = StepOf LeafAnswer

-- among a tenant's steps, the Submit of this number, from 1 on, asked for the search of a board (its two words)
-- to a depth of at most 12
pub record IsAskedBy (steps : List SearchStep) (job own opp depth : ℕ) : Type 0 where
  pub shallow : depth ≤ greatest_depth
  pub words : origin_at (origins_of steps) job ≡ Some (root_words own opp depth)

-- a value and a choice are the minimax value and the best choice of what the Submit of this number asked for
pub record IsValueOfSubmit (steps : List SearchStep) (job : ℕ) (value : ℤ) (choice : Option Choice) : Type 0 where
  pub own : ℕ
  pub opp : ℕ
  pub depth : ℕ
  pub asked : IsAskedBy steps job own opp depth
  pub value_is : value ≡ minimax depth (cells_of own opp)
  pub choice_is : choice ≡ best_choice depth (cells_of own opp)

-- this is entry i of a table of what the Submit of this number asked for: that of choice i, in order, and true of it;
-- the best choice's is exact
pub record IsEntryOfSubmit (steps : List SearchStep) (job i : ℕ) (entry : Bound) : Type 0 where
  pub own : ℕ
  pub opp : ℕ
  pub depth : ℕ
  pub asked : IsAskedBy steps job own opp depth
  pub of : slice_get (entered depth (cells_of own opp)) i ≡ Some entry.choice
  pub holds : IsTrueBound depth (cells_of own opp) entry
  pub best : IsExactIfBest (best_choice depth (cells_of own opp)) entry
