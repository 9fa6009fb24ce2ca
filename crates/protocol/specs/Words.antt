-- Meaning: the words of a line of the protocol.
use Rattle.std.specs.Prelude.{ℕ, ◌+◌, ◌-◌, ◌*◌, ◌&&◌, List, [], ◌∷◌, length, Option, Some, None, if◌then◌else◌, nat_le, ◌==◌}
use Rattle.std.specs.Option.{option_map}
use Rattle.std.specs.List.{list_all}
use Rattle.std.specs.Char.{is_ascii_digit}

-- what stands before the first space of a line, and what stands after it; None where there is no space
abbrev pub split_at_space : List ℕ → Option (List ℕ × List ℕ)
split_at_space [] = None
split_at_space (b ∷ bs) = if b == 32 then Some ([], bs) else option_map (λ p. (b ∷ p.0, p.1)) (split_at_space bs)

-- the number that digits write where they follow the digits of n
abbrev pub number_after : ℕ → List ℕ → ℕ
number_after n [] = n
number_after n (b ∷ bs) = number_after (10 * n + (b - 48)) bs

-- the number that a word of 1 to 8 digits writes; None for any other word
abbrev pub word_number : List ℕ → Option ℕ
word_number word = if nat_le 1 (length word) && nat_le (length word) 8 && list_all is_ascii_digit word then Some (number_after 0 word) else None
