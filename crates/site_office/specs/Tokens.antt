-- Meaning: the token that a line HELLO may bear as the third word after HELLO, which says whose session it is.
use Rattle.std.specs.Prelude.{ℕ, ◌-◌, ◌==◌, ◌&&◌, Bool, not, nat_le, nat_lt, List, length, take, Option, Some, None, if◌then◌else◌, codes}
use Rattle.std.specs.List.{list_all}
use Rattle.std.specs.Str.{bytes_eq}
use Rattle.protocol.specs.Words.{split_at_space}

-- whether a byte may stand in a token: printable ASCII but the space, or beyond ASCII
abbrev pub is_token_byte : ℕ → Bool
is_token_byte byte = nat_lt 32 byte && not (byte == 127)

-- whether a word is a token: one byte or more, each of which may stand in one
abbrev pub is_token : List ℕ → Bool
is_token word = nat_le 1 (length word) && list_all is_token_byte word

-- this word of a line, where it is a token and no further word follows; else None
abbrev pub last_word : List ℕ → Option (List ℕ × List ℕ) → Option (List ℕ)
last_word word None = if is_token word then Some word else None
last_word word (Some _) = None

-- the word after the first of these, where it is the last
abbrev pub word_after : Option (List ℕ × List ℕ) → Option (List ℕ)
word_after None = None
word_after (Some words) = last_word words.1 (split_at_space words.1)

-- the word after the first two of these, where it is the last
abbrev pub word_after_two : Option (List ℕ × List ℕ) → Option (List ℕ)
word_after_two None = None
word_after_two (Some words) = word_after (split_at_space words.1)

-- the third of these words, where there are just three
abbrev pub token_after : List ℕ → Option (List ℕ)
token_after rest = word_after_two (split_at_space rest)

-- the third word after HELLO, by how the line splits at its first space; None where the first word isn't HELLO
abbrev pub token_by : Option (List ℕ × List ℕ) → Option (List ℕ)
token_by None = None
token_by (Some words) = if bytes_eq words.0 (codes "HELLO") then token_after words.1 else None

-- the token of a line: the third word after HELLO, where there are just three words after it
abbrev pub token_of : List ℕ → Option (List ℕ)
token_of line = token_by (split_at_space line)

-- a line less a token at its end, and the space before that
abbrev pub less_token : List ℕ → Option (List ℕ) → List ℕ
less_token line None = line
less_token line (Some token) = take (length line - length token - 1) line

-- a line less its token and the space before it; a line without a token as it is
abbrev pub without_token : List ℕ → List ℕ
without_token line = less_token line (token_of line)
