-- Lines that are cut from an input byte by byte are the lines of all its bytes.
use Rattle.line_io.proofs.Common.{◌≡◌, ℕ, ◌+◌, ◌≤◌, List, [], ◌∷◌, ◌++◌, length, map, cond, eqb, Bool, true, false, refl, sym, ap, ◌∙◌, append_assoc, arith, Option, Some, None, inl, inr, cases_Bool, nat_le, length-append, append-nil, nat_tests, slice_split, onto_first, list_any, option_to_list, lines_of_parts, strip_carriage_return, common_steps, LineText, Whole, TooLong, line_text, lines_of, up_to_last_end, held, with_byte, ended_line, last_line, held_after, ended_within}

-- what is cut off is one byte at most
strip-least : (l : List ℕ) → length l ≤ length (strip_carriage_return l) + 1
strip-least l = grind (arith, common_steps)

strip-most : (l : List ℕ) → length (strip_carriage_return l) ≤ length l
strip-most l = grind (arith, common_steps)

-- a test that fails stays failed
module _ (raw : List ℕ) (b : ℕ) where
  held-none : (t : Bool) → nat_le (length (strip_carriage_return raw)) 128 ≡ t → with_byte (cond t (Some raw) None) b ≡ held (raw ++ b ∷ [])
  held-none true e = refl
  held-none false e =
      let more = strip-least (raw ++ b ∷ []) in
      let less = strip-most raw in
      let len = length-append raw (b ∷ []) in
      grind (arith, nat_tests)

  -- one more byte
  pub with_byte-held : with_byte (held raw) b ≡ held (raw ++ b ∷ [])
  with_byte-held = held-none (nat_le (length (strip_carriage_return raw)) 128) refl

-- the line that an LF ends
pub ended_line-held : (raw : List ℕ) → ended_line (held raw) ≡ line_text (strip_carriage_return raw)
ended_line-held raw = grind arith

last-held : (t : Bool) (b : ℕ) (bs : List ℕ) → nat_le (length (strip_carriage_return (b ∷ bs))) 128 ≡ t → option_to_list (last_line (cond t (Some (b ∷ bs)) None)) ≡ line_text (b ∷ bs) ∷ []
last-held true b bs e = refl
last-held false b bs e =
    let less = strip-most (b ∷ bs) in
    let long : nat_le (length (b ∷ bs)) 128 ≡ false = grind (arith, nat_tests) in
    ap (λ t. cond t (Whole (b ∷ bs)) TooLong ∷ []) (sym long)

not-empty : (b : ℕ) (bs : List ℕ) → eqb (length (b ∷ bs)) 0 ≡ false
not-empty b bs = grind (arith, nat_tests)

-- the line that the end of the input ends
pub last_line-held : (raw : List ℕ) → option_to_list (last_line (held raw)) ≡ map line_text (lines_of_parts (raw ∷ []))
last_line-held raw = grind (arith, last-held, not-empty)

-- the parts between the LFs, and the bytes before the first of them
abbrev parts_of : List ℕ → List (List ℕ)
parts_of bs = slice_split (λ b. eqb b 10) bs

abbrev onto : List ℕ → List (List ℕ) → List (List ℕ)
onto raw [] = raw ∷ []
onto raw (s ∷ ss) = (raw ++ s) ∷ ss

-- the lines of these parts after those bytes
abbrev lines_onto : List ℕ → List (List ℕ) → List LineText
lines_onto raw parts = map line_text (lines_of_parts (onto raw parts))

-- the lines that are cut, the last too, where this is held before them
abbrev pub cut_lines : Option (List ℕ) → List ℕ → List LineText
cut_lines h bs = ended_within h bs ++ option_to_list (last_line (held_after h bs))

-- there is a first part
split-some : (bs : List ℕ) → (s : List ℕ) × (ss : List (List ℕ)) × (parts_of bs ≡ s ∷ ss)
split-some [] = ([], [], refl)
split-some (b ∷ bs) =
    let p = split-some bs in
    elim (eqb b 10) as (λ t. (s : List ℕ) × (ss : List (List ℕ)) × (cond t ([] ∷ parts_of bs) (onto_first b (parts_of bs)) ≡ s ∷ ss)) [
      | true ↦ ([], parts_of bs, refl)
      | false ↦ (b ∷ p.0, p.1, ap (onto_first b) p.2)
    ]

onto-first : (raw : List ℕ) (b : ℕ) (parts : List (List ℕ)) → onto (raw ++ b ∷ []) parts ≡ onto raw (onto_first b parts)
onto-first raw b parts = grind (arith, append_assoc)

module _ (raw bs : List ℕ) (nothing : cut_lines (held []) bs ≡ lines_onto [] (parts_of bs)) where
  -- all lines, with an LF next
  all-lf : (s : List ℕ) (ss : List (List ℕ)) → parts_of bs ≡ s ∷ ss → ended_line (held raw) ∷ cut_lines (Some []) bs ≡ lines_onto raw ([] ∷ parts_of bs)
  all-lf s ss e = grind (arith, ended_line-held, append-nil)

all-onto : (raw bs : List ℕ) → cut_lines (held raw) bs ≡ lines_onto raw (parts_of bs)
all-onto raw [] = last_line-held raw ∙ ap (λ z. map line_text (lines_of_parts (z ∷ []))) (sym (append-nil raw))
all-onto raw (b ∷ bs) = elim (cases_Bool (eqb b 10)) [
  | inl lf ↦ let p = split-some bs in rw lf (all-lf raw bs (all-onto [] bs) p.0 p.1 p.2)
  | inr other ↦ rw (other, with_byte-held raw b, ← onto-first raw b (parts_of bs)) (all-onto (raw ++ b ∷ []) bs)
]

-- with the line that the end of the input ends they are all lines
pub lines_of-all : (bs : List ℕ) → cut_lines (Some []) bs ≡ lines_of bs
lines_of-all bs =
    let p = split-some bs in
    all-onto [] bs ∙ (ap (lines_onto []) p.2 ∙ ap (λ z. map line_text (lines_of_parts z)) (sym p.2))

-- where no byte is an LF, no line ends
none-ended : (h : Option (List ℕ)) (bs : List ℕ) → list_any (λ c. eqb c 10) bs ≡ false → ended_within h bs ≡ []
none-ended h [] e = refl
none-ended h (b ∷ bs) e = grind (arith, none-ended (with_byte h b) bs)

-- no line ends after the last LF, and nothing is held
ended_within-end : (h : Option (List ℕ)) (bs : List ℕ) → ended_within h (up_to_last_end bs) ≡ ended_within h bs
ended_within-end h [] = refl
ended_within-end h (b ∷ bs) = grind (arith, none-ended, ended_within-end (Some []) bs, ended_within-end (with_byte h b) bs)

held_after-end : (h : Option (List ℕ)) (bs : List ℕ) → held_after h (up_to_last_end bs) ≡ cond (list_any (λ c. eqb c 10) bs) (Some []) h
held_after-end h [] = refl
held_after-end h (b ∷ bs) = grind (arith, held_after-end (Some []) bs, held_after-end (with_byte h b) bs)

cond-same : (t : Bool) (h : Option (List ℕ)) → cond t h h ≡ h
cond-same t h = grind arith

-- what is cut byte by byte are the lines of the bytes up to the last LF
pub ended_within-all : (bs : List ℕ) → ended_within (Some []) bs ≡ lines_of (up_to_last_end bs)
ended_within-all bs =
    let ended = ended_within-end (Some []) bs in
    let empty = held_after-end (Some []) bs ∙ cond-same (list_any (λ c. eqb c 10) bs) (Some []) in
    let first = ended_within (Some []) (up_to_last_end bs) in
    sym ended ∙ (sym (append-nil first) ∙ (ap (λ h. first ++ option_to_list (last_line h)) (sym empty) ∙ lines_of-all (up_to_last_end bs)))

-- one block more
pub held_after-append : (h : Option (List ℕ)) (xs ys : List ℕ) → held_after h (xs ++ ys) ≡ held_after (held_after h xs) ys
held_after-append h [] ys = refl
held_after-append h (b ∷ bs) ys = grind (arith, held_after-append (cond (eqb b 10) (Some []) (with_byte h b)) bs ys)

pub ended_within-append : (h : Option (List ℕ)) (xs ys : List ℕ) → ended_within h (xs ++ ys) ≡ ended_within h xs ++ ended_within (held_after h xs) ys
ended_within-append h [] ys = refl
ended_within-append h (b ∷ bs) ys = grind (arith, ended_within-append (Some []) bs ys, ended_within-append (with_byte h b) bs ys)
