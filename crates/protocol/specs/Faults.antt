-- Meaning: the faults of the protocol's lines, and their numbers.
use Rattle.std.specs.Prelude.{ℕ}
use Rattle.othello_board.specs.declared.position_text.faults.TextFault.{TextFault}
use Rattle.othello_board.specs.declared.position_text.faults.TextFault.TheVariants.{Length, BadCell, BadSide}
use Rattle.protocol.specs.declared.faults.ProtocolFault.{ProtocolFault}
use Rattle.protocol.specs.declared.faults.ProtocolFault.TheVariants.{NoCommand, LongLine, NoNumber, PositionLength, PositionCell, PositionSide, TooDeep, NoHello, HelloAgain}

-- the number that the answer to a faulty line tells
abbrev pub fault_number : ProtocolFault → ℕ
fault_number NoCommand = 21
fault_number LongLine = 22
fault_number NoNumber = 23
fault_number PositionLength = 24
fault_number PositionCell = 25
fault_number PositionSide = 26
fault_number TooDeep = 27
fault_number NoHello = 28
fault_number HelloAgain = 29

-- the fault of a line whose position's text has this fault
abbrev pub position_fault : TextFault → ProtocolFault
position_fault Length = PositionLength
position_fault (BadCell at) = PositionCell
position_fault BadSide = PositionSide
