-- Meaning: the numbers of the faults by which a session ends.
use Rattle.std.specs.Prelude.{ℕ}
use Rattle.session.specs.declared.faults.SessionFault.{SessionFault}
use Rattle.session.specs.declared.faults.SessionFault.TheVariants.{Read, Write}

-- 1 for a failed read, 2 for a failed write
abbrev pub session_fault_number : SessionFault → ℕ
session_fault_number Read = 1
session_fault_number Write = 2
