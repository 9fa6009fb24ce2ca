-- The token in a line of a site's session is shorter than the line.
use Rattle.site_office.proofs.Common.{◌≡◌, ℕ, suc, ◌<◌, ◌≤◌, List, [], ◌∷◌, length, eqb, cond, Bool, true, false, sym, subst, arith, Option, Some, None, codes, option_map, bytes_eq, split_at_space, is_token, last_word, word_after, word_after_two, token_after, token_by, token_of}

-- what follows the first space is shorter than this
rest_short : Option (List ℕ × List ℕ) → ℕ → Type 0
rest_short None n = Unit {0}
rest_short (Some p) n = length p.1 < n

abbrev pub word_short : Option (List ℕ) → ℕ → Type 0
word_short None n = Unit {0}
word_short (Some w) n = length w < n

rest-weaker : (o : Option (List ℕ × List ℕ)) (m n : ℕ) → m ≤ n → rest_short o m → rest_short o n
unfolding rest_short
rest-weaker None m n le h = tt
rest-weaker (Some p) m n le h = omega (arith, h)

rest-map : (b : ℕ) (o : Option (List ℕ × List ℕ)) (n : ℕ) → rest_short o n → rest_short (option_map (λ p. (b ∷ p.0, p.1)) o) n
unfolding rest_short
rest-map b None n h = tt
rest-map b (Some p) n h = h

rest-step : (t : Bool) (b : ℕ) (bs : List ℕ) (o : Option (List ℕ × List ℕ)) → rest_short o (length bs) → rest_short (cond t (Some ([], bs)) (option_map (λ p. (b ∷ p.0, p.1)) o)) (suc (length bs))
unfolding rest_short
rest-step true b bs o h = omega arith
rest-step false b bs o h =
    rest-weaker (option_map (λ p. (b ∷ p.0, p.1)) o) (length bs) (suc (length bs)) (omega arith) (rest-map b o (length bs) h)

split-short : (line : List ℕ) → rest_short (split_at_space line) (length line)
unfolding rest_short
split-short [] = tt
split-short (b ∷ bs) = rest-step (eqb b 32) b bs (split_at_space bs) (split-short bs)

by-step : (t : Bool) (w : Option (List ℕ)) (n : ℕ) → word_short w n → word_short (cond t w None) n
by-step true w n h = h
by-step false w n h = tt

last-short : (w : List ℕ) (o : Option (List ℕ × List ℕ)) (n : ℕ) → length w < n → word_short (last_word w o) n
last-short w None n h = by-step (is_token w) (Some w) n h
last-short w (Some p) n h = tt

after-short : (o : Option (List ℕ × List ℕ)) (n : ℕ) → rest_short o n → word_short (word_after o) n
unfolding rest_short
after-short None n h = tt
after-short (Some p) n h = last-short p.1 (split_at_space p.1) n h

two-short : (o : Option (List ℕ × List ℕ)) (n : ℕ) → rest_short o n → word_short (word_after_two o) n
unfolding rest_short
two-short None n h = tt
two-short (Some p) n h =
    after-short (split_at_space p.1) n (rest-weaker (split_at_space p.1) (length p.1) n (omega (arith, h)) (split-short p.1))

by-short : (o : Option (List ℕ × List ℕ)) (n : ℕ) → rest_short o n → word_short (token_by o) n
unfolding rest_short
by-short None n h = tt
by-short (Some p) n h =
    by-step (bytes_eq p.0 (codes "HELLO")) (token_after p.1) n (two-short (split_at_space p.1) n (rest-weaker (split_at_space p.1) (length p.1) n (omega (arith, h)) (split-short p.1)))

pub token-short : (line token : List ℕ) → Some token ≡ token_of line → length token < length line
token-short line token e =
    subst (λ o. word_short o (length line)) (sym e) (by-short (split_at_space line) (length line) (split-short line))
