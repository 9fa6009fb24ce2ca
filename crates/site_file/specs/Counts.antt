-- Meaning: a whole number in a site's file.
use Rattle.std.specs.Prelude.{ℕ, ℤ, pos, negsuc, ◌&&◌, nat_le, Option, Some, None, if◌then◌else◌}

-- the number, where it is from `least` to `most`
abbrev pub count_within : ℤ → ℕ → ℕ → Option ℕ
count_within (pos number) least most = if nat_le least number && nat_le number most then Some number else None
count_within (negsuc number) least most = None
