-- Meaning: the fields of a proxy's header, one after another: a byte of type, two bytes of length, the high one first,
-- and so many bytes of value.
use Rattle.std.specs.Prelude.{ℕ, zero, suc, ◌+◌, ◌*◌, ◌==◌, List, length, take, drop, nat_lt, slice_index, if◌then◌else◌, Option, Some, None}

-- how many bytes the value of a header's first field has
abbrev pub value_size : List ℕ → ℕ
value_size bytes = slice_index bytes 1 * 256 + slice_index bytes 2

-- the first field, by these bytes and those after its first three: its type, its value, and what follows it; None where it is cut short
abbrev pub field_by : List ℕ → List ℕ → Option (ℕ × List ℕ × List ℕ)
field_by bytes tail =
    if nat_lt (length tail) (value_size bytes) then None
    else Some (slice_index bytes 0, take (value_size bytes) tail, drop (value_size bytes) tail)

-- the first field of a header: its type, its value, and the bytes after it; None where it is cut short
abbrev pub first_field : List ℕ → Option (ℕ × List ℕ × List ℕ)
first_field bytes = if nat_lt (length bytes) 3 then None else field_by bytes (drop 3 bytes)

-- the value of this field where it has this type, else what `more` gives for the bytes after it
abbrev pub value_or : ℕ → Option (ℕ × List ℕ × List ℕ) → (List ℕ → Option (List ℕ)) → Option (List ℕ)
value_or kind None more = None
value_or kind (Some field) more = if field.0 == kind then Some field.1 else more field.2

-- the value of the first field of this type among the first `most` fields; None where there is none, or one before it is cut short
abbrev pub field_within : ℕ → ℕ → List ℕ → Option (List ℕ)
field_within zero kind bytes = None
field_within (suc most) kind bytes = value_or kind (first_field bytes) (λ rest. field_within most kind rest)

-- the value of the first field of this type. There are fewer fields than bytes
abbrev pub field_of : ℕ → List ℕ → Option (List ℕ)
field_of kind bytes = field_within (length bytes) kind bytes
