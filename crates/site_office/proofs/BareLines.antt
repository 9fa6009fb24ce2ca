-- A line of a site's session less its token ends the session only where the line does.
use Rattle.site_office.proofs.Common.{◌≡◌, ℕ, zero, suc, List, [], ◌∷◌, take, Bool, true, false, refl, Option, Some, None, arith, nat_tests, option_map, if◌then◌else◌, codes, bytes_eq, LineText, Whole, TooLong, is_bye, tokenless, less_token, token_by, token_of}

-- the first byte of a line that bears a token, by how it splits at its first space
first-by : (t : Bool) (b : ℕ) (bs token : List ℕ) (rest : Option (List ℕ × List ℕ)) → token_by (if t then Some ([], bs) else option_map (λ p. (b ∷ p.0, p.1)) rest) ≡ Some token → b ≡ 72
first-by t b bs token rest e = grind (arith, nat_tests)

first-byte : (b : ℕ) (bs token : List ℕ) → token_of (b ∷ bs) ≡ Some token → b ≡ 72
first-byte b bs token e = grind (arith, first-by)

no-bye : (n : ℕ) (bs : List ℕ) → bytes_eq (take n (72 ∷ bs)) (codes "BYE") ≡ false
no-bye zero bs = refl
no-bye (suc n) bs = refl

by-token : (bytes : List ℕ) (token : Option (List ℕ)) → token_of bytes ≡ token → is_bye (Whole (less_token bytes token)) ≡ true → is_bye (Whole bytes) ≡ true
by-token bytes None is e = e
by-token [] (Some token) is e = absurd (cc is)
by-token (b ∷ bs) (Some token) is e = grind (arith, first-byte, no-bye)

pub bye-bare : (line : LineText) → is_bye (tokenless line) ≡ true → is_bye line ≡ true
bye-bare TooLong e = e
bye-bare (Whole bytes) e = by-token bytes (token_of bytes) refl e
