-- The protocol's lines: a line and a number in it, byte by byte.
use Rattle.std.proofs.Common.{ℕ, ◌^◌, ◌<◌, ◌≤◌, List, ◌++◌, Option, arith, ◌≡◌, ◌≢◌, ◌↔◌, cond, map, length, Some, None, IsSome, Result, Ok, Err, refl, ap, ◌∙◌}
use Rattle.std.specs.Option.{option_map}
use Rattle.std.proofs.Math.Nat.{pow-le-pow_right}
use Rattle.std.proofs.lemmas.Bool.{ne_eqb, eq-eqb}
use Rattle.othello_board.specs.declared.cells.Cell.{Cell}
use Rattle.othello_board.specs.Words.{cells}
use Rattle.othello_board.specs.declared.position_text.positions.Position.{Position}
use Rattle.othello_board.specs.declared.position_text.positions.Side.{Side}
use Rattle.othello_board.specs.declared.position_text.marks.Mark.{Mark}
use Rattle.othello_board.specs.declared.position_text.faults.TextFault.{TextFault}
use Rattle.othello_board.specs.declared.position_text.faults.TextFault.TheVariants.{Length, BadCell, BadSide}
use Rattle.othello_board.specs.position_text.Spelling.{Spells, IsBadCell, IsBadSide, mark_of_cell}
use Rattle.othello_board.specs.position_text.Readings.{marks_of, mover_of}
use Rattle.othello_board.proofs.PositionText.ReadingLemmas.{marks_of-spelled, mover_of-spelled, seen_of-spelled, marks_of-bad_cell, marks_of-bad_side, mover_of-bad_side}
use Rattle.protocol.specs.declared.faults.ProtocolFault.{ProtocolFault}
use Rattle.protocol.specs.declared.faults.ProtocolFault.TheVariants.{PositionLength, PositionSide}
use Rattle.protocol.specs.Faults.{position_fault}
use Rattle.protocol.specs.Questions.{QuestionOf, mover_question, marks_question, position_question}

-- the two sides of the space, where these bytes stand in front
abbrev pub behind : List ℕ → Option (List ℕ × List ℕ) → Option (List ℕ × List ℕ)
behind front found = option_map (λ p. (front ++ p.0, p.1)) found

pub seven-digits-fit : (n i : ℕ) → n < 10 ^ i → i ≤ 7 → n < 10000000
seven-digits-fit n i below few = omega (arith, pow-le-pow_right {n = 10} (omega arith) {i = i} {j = 7} few)

-- What the text of a position asks for, by what reading it gives.

-- what is asked of a board, and a fault
abbrev pub asks : ℕ → List Cell → Side → Result QuestionOf ProtocolFault
asks depth board side = Ok (record { depth = depth; board = board; side = side })

abbrev pub faulty : ProtocolFault → Result QuestionOf ProtocolFault
faulty fault = Err fault

-- 66 bytes
long-enough : (depth : ℕ) (text : List ℕ) → length text ≡ 66 → position_question depth text ≡ marks_question depth (marks_of text) (mover_of text)
long-enough depth text len = ap (λ t. cond t (marks_question depth (marks_of text) (mover_of text)) (faulty PositionLength)) (eq-eqb (length text) 66 len)

-- the position that is spelled
pub spelled-question : (depth : ℕ) (text : List ℕ) (p : Position) → Spells text p → position_question depth text ≡ asks depth (cells p.board) p.side
spelled-question depth text p s =
    long-enough depth text s.len
    ∙ ap (λ m. marks_question depth m (mover_of text)) (marks_of-spelled text p s)
    ∙ ap (mover_question depth (map (mark_of_cell p.side) (cells p.board))) (mover_of-spelled text p s)
    ∙ ap (λ board. asks depth board p.side) (seen_of-spelled p)

-- marks without a mover
no-mover : (depth : ℕ) (marks : Option (List Mark)) → IsSome marks → marks_question depth marks None ≡ faulty PositionSide
no-mover depth None some = cc some
no-mover depth (Some marks) some = refl

-- a fault that was met
abbrev pub Faulted : TextFault → Result Position TextFault
Faulted fault = Err fault

pub fault-question : (depth : ℕ) (text : List ℕ) (fault : TextFault)
    → (Faulted fault ≡ Err Length) ↔ (length text ≢ 66) → ((at : ℕ) → (Faulted fault ≡ Err (BadCell at)) ↔ IsBadCell text at) → (Faulted fault ≡ Err BadSide) ↔ IsBadSide text
    → position_question depth text ≡ faulty (position_fault fault)
fault-question depth text Length len cell side =
    ap (λ t. cond t (marks_question depth (marks_of text) (mover_of text)) (faulty PositionLength)) (ne_eqb (length text) 66 (len.0 refl))
fault-question depth text (BadCell at) len cell side =
    let bad = (cell at).0 refl in
    long-enough depth text bad.len ∙ ap (λ m. marks_question depth m (mover_of text)) (marks_of-bad_cell text at bad)
fault-question depth text BadSide len cell side =
    let bad = side.0 refl in
    long-enough depth text bad.len
    ∙ ap (marks_question depth (marks_of text)) (mover_of-bad_side text bad)
    ∙ no-mover depth (marks_of text) (marks_of-bad_side text bad)
