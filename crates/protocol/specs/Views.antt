-- Representation: a question about a position, as the protocol's code has it, as data.
use Rattle.std.specs.Prelude.{Result, Ok, Err}
use Rattle.othello_board.specs.Words.{cells}
use Rattle.protocol.specs.declared.faults.ProtocolFault.{ProtocolFault}
use Rattle.protocol.specs.declared.questions.Question.{Question}
use Rattle.protocol.specs.Questions.{QuestionOf}

-- a question with its board as a list of cells
abbrev pub question_of : Question → QuestionOf
question_of question = record { depth = question.depth; board = cells question.position.board; side = question.position.side }

-- what was read, with a question's board as a list of cells; a fault stays
abbrev pub read_as : Result Question ProtocolFault → Result QuestionOf ProtocolFault
read_as (Ok question) = Ok (question_of question)
read_as (Err fault) = Err fault
