-- A board's choices, one after another (`Choices::pop_first`): the first left is taken, corners before others and a
-- pass alone.
use Rattle.othello_moves.proofs.Common.{sym, ◌∙◌, rules, arith}
use Rattle.othello_moves.proofs.BitLemmas.{sequence-first, sequence-second, sequence-pass, sequence-none, taken-first, taken-none}
use Rattle.othello_moves.proofs.sequence.Choices.pop_first.Goals as goal

pub returns-then-self-ne0 : goal.returns-then-self-ne0
returns-then-self-ne0 c =
    let f = c.self.inside in
    let is = sym c.self.view_is ∙ sequence-first f.corners f.others f.passes (omega arith) (omega arith) in
    let taken = taken-first _ _ _ is in
    record { first = taken.0; rest = taken.1; cases = is }

pub returns-then-self-ne0-2 : goal.returns-then-self-ne0-2
returns-then-self-ne0-2 c =
    let f = c.self.inside in
    let is = sym c.self.view_is ∙ sequence-second f.corners f.others f.passes (omega arith) (omega arith) (omega arith) in
    let taken = taken-first _ _ _ is in
    record { first = taken.0; rest = taken.1; cases = is }

pub returns-then-self : goal.returns-then-self
returns-then-self c =
    let f = c.self.inside in
    let is = sym c.self.view_is ∙ sequence-pass f.corners f.others f.passes (omega arith) (omega arith) (search rules) in
    let taken = taken-first _ _ _ is in
    record { first = taken.0; rest = taken.1; cases = is }

pub returns : goal.returns
returns c =
    let f = c.self.inside in
    let none = sym c.self.view_is ∙ sequence-none f.corners f.others f.passes (omega arith) (omega arith) (search rules) in
    let taken = taken-none _ none in
    record { first = sym taken.0; rest = taken.1; cases = none }
