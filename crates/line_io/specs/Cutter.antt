-- Representation: what contracts see of a cutter, which cuts an input into lines.
use Rattle.std.specs.Prelude.{◌≡◌, ◌≢◌, ℕ, ◌≤◌, List, [], ◌∷◌, ◌++◌, take, Option, Some, None}
use Rattle.line_io.specs.declared.cutting.Beyond.{Beyond}
use Rattle.line_io.specs.declared.cutting.Beyond.TheVariants.{Nothing, Return, More}
use Rattle.line_io.specs.declared.cutting.LineCutter.TheInside.{Inside}

-- the kept bytes with what came after them: nothing, or one CR (13); None where more came
abbrev pub bytes_and : List ℕ → Beyond → Option (List ℕ)
bytes_and bytes Nothing = Some bytes
bytes_and bytes Return = Some (bytes ++ 13 ∷ [])
bytes_and bytes More = None

-- the bytes since the last LF, as the fields of a cutter hold them; None where they are too many for a line
abbrev pub bytes_held : Inside → Option (List ℕ)
bytes_held c = bytes_and (take c.len c.bytes) c.beyond

-- the invariant of a cutter's fields: at most 128 bytes are kept, and something came beyond them only where 128 are
abbrev pub IsCutter : Inside → Type 0
IsCutter c = (c.len ≤ 128) × (c.beyond ≢ Nothing → c.len ≡ 128)
