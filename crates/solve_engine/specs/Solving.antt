-- Meaning: what `solve` answers to a line, and to a whole input.
use Rattle.std.specs.Prelude.{ℕ, ◌≡◌, Bool, true, false, List, [], ◌∷◌, ◌++◌, Option, Some, None, Result, Ok, Err}
use Rattle.othello_board.specs.declared.cells.Cell.{Cell}
use Rattle.othello_eval.specs.Minimax.{minimax, best_choice}
use Rattle.line_io.specs.Lines.{LineText, Whole, TooLong, lines_of}
use Rattle.line_io.specs.declared.faults.LineFault.{LineFault}
use Rattle.line_io.specs.Leads.{Passage, answering}
use Rattle.line_io.specs.Streams.{ReadAnswer, WriteAnswer}
use Rattle.line_io.specs.Writes.{with_newline}
use Rattle.line_io.specs.Runs.{Run, FunctionRun, answers_to}
use Rattle.protocol.specs.declared.faults.ProtocolFault.{ProtocolFault}
use Rattle.protocol.specs.declared.faults.ProtocolFault.TheVariants.{NoCommand, LongLine}
use Rattle.protocol.specs.Faults.{fault_number}
use Rattle.protocol.specs.Questions.{QuestionOf, question}
use Rattle.protocol.specs.Words.{split_at_space}
use Rattle.protocol.specs.Texts.{value_text, visited_text, error_text}

-- what a line asks for, by its two parts before and after the first space, a depth and a position; fault 21 where
-- there is no space
abbrev pub words_question : Option (List ℕ × List ℕ) → Result QuestionOf ProtocolFault
words_question None = Err NoCommand
words_question (Some words) = question words.0 words.1

-- what a line asks for, or its first fault: 22 where it is too long
abbrev pub line_question : LineText → Result QuestionOf ProtocolFault
line_question (Whole bytes) = words_question (split_at_space bytes)
line_question TooLong = Err LongLine

-- the answer to what a line asks for: what `reply` says of the depth and the board, or the number of the line's
-- fault
abbrev pub question_answer : (ℕ → List Cell → List ℕ) → Result QuestionOf ProtocolFault → List ℕ
question_answer reply (Ok asked) = reply asked.depth asked.board
question_answer reply (Err fault) = error_text (fault_number fault)

-- the answer to a line, where `reply` says what is answered to a depth and a board
abbrev pub answer_to : (ℕ → List Cell → List ℕ) → LineText → List ℕ
answer_to reply line = question_answer reply (line_question line)

-- the text of the minimax value of a board to a depth, and of its best choice
abbrev pub solved : ℕ → List Cell → List ℕ
solved depth board = value_text (minimax depth board) (best_choice depth board)

-- the text of the minimax value of a board to a depth, of its best choice, and of this number of positions
abbrev pub solved_with_count : ℕ → ℕ → List Cell → List ℕ
solved_with_count count depth board = visited_text (minimax depth board) (best_choice depth board) count

-- the text of value and best choice, or ERR 19 where memory was refused (true)
abbrev pub solved_unless : Bool → ℕ → List Cell → List ℕ
solved_unless true depth board = error_text 19
solved_unless false depth board = solved depth board

-- what `solve` answers to a line, where no memory is refused
abbrev pub solve_line : LineText → List ℕ
solve_line line = answer_to solved line

-- what `solve` answers to a line, where it is known whether it was refused memory (true). A line with a fault
-- takes no memory, so its answer is the fault's in any case
abbrev pub solve_line_unless : Bool → LineText → List ℕ
solve_line_unless refused line = answer_to (solved_unless refused) line

-- a text is one that `solve` may answer to a line
abbrev pub IsSolvedLine : LineText → List ℕ → Type 0
IsSolvedLine line text = (refused : Bool) × (text ≡ solve_line_unless refused line)

-- what `solve` writes for an input: for each of its lines the answer and LF
abbrev pub solve_out : List ℕ → List ℕ
solve_out bytes = answers_to solve_line (lines_of bytes)

-- the answers, each with LF, to lines of which some were refused memory: true stands for each line that was, in
-- order, and a line after the end of that list was refused none
abbrev pub answers_unless : List Bool → List LineText → List ℕ
answers_unless refused [] = []
answers_unless [] (line ∷ lines) = with_newline (solve_line line) ++ answers_unless [] lines
answers_unless (flag ∷ refused) (line ∷ lines) = with_newline (solve_line_unless flag line) ++ answers_unless refused lines

-- what `solve` writes for an input, some of whose lines were refused memory, as in `answers_unless`
abbrev pub solve_out_unless : List Bool → List ℕ → List ℕ
solve_out_unless refused bytes = answers_unless refused (lines_of bytes)

-- what `solve` does with an input: what is written is the answers to the lines that are due, ERR 19 for those
-- that were refused memory
abbrev pub SolvedRun : {S K : Type 0} → Passage S ReadAnswer → Passage K WriteAnswer → Result (Unit {0}) LineFault → Type 0
SolvedRun reading writing r = (refused : List Bool) × FunctionRun reading writing (solve_out_unless refused) r

-- what `solve --ordered` does with an input: what is written is the answers to the lines that are due. No search takes
-- memory, so no line is refused memory
abbrev pub OrderedRun : {S K : Type 0} → Passage S ReadAnswer → Passage K WriteAnswer → Result (Unit {0}) LineFault → Type 0
OrderedRun reading writing r = FunctionRun reading writing solve_out r

-- a text is an answer of `solve --visited` to a line: value, move and some number of positions, or the line's
-- fault
abbrev pub IsVisitedLine : LineText → List ℕ → Type 0
IsVisitedLine line text = (count : ℕ) × (text ≡ answer_to (solved_with_count count) line)

-- what `solve --visited` does with an input: each line that is due is answered by value, move and a number of
-- positions, or by its fault
abbrev pub VisitedRun : {S K : Type 0} → Passage S ReadAnswer → Passage K WriteAnswer → Result (Unit {0}) LineFault → Type 0
VisitedRun reading writing r = Run reading writing (answering (λ (_ : Unit {0}) line text (_ : Unit {0}). IsVisitedLine line text) tt tt) r
