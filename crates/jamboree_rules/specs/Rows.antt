-- Representation: words and frames of a search on which acts and definitions are tried: the opening, Black to move,
-- searched to depth 1 with grain 0.
use Rattle.std.specs.Prelude.{ℕ, ◌+◌, ◌*◌, ℤ, pos, List, [], ◌∷◌}
use Rattle.leaf_search.specs.othello_eval.declared.bound.BoundKind.{BoundKind}
use Rattle.jamboree_rules.specs.Frames.{Frame, role_root, status_settled, status_not_spawned, least, greatest}
use Rattle.jamboree_rules.specs.Places.{rest_with}

-- the entry of a choice with this status and this word of a score (1,000,000 more than the score), which by its
-- kind bounds the choice's value: 1 from above, 2 from below, 3 exactly
abbrev pub entry : ℕ → ℕ → ℕ → ℕ
entry status kind score = status + 8 * kind + 32 * score

-- the root once its four choices (d3, c4, f5, e6) are counted, where d3 has this entry
abbrev pub opened_with : ℕ → List ℕ
opened_with d3 = 34628173824 ∷ 68853694464 ∷ 1 ∷ 800000 ∷ 1200000 ∷ 0 ∷ 0 ∷ 2 ∷ 800000 ∷ 65 ∷ 4 ∷ 0 ∷ d3 ∷ 0 ∷ 0 ∷ 0 ∷ []

-- the root once its four choices are counted, with nothing known of d3
abbrev pub opened : List ℕ
opened = opened_with 0

-- the root while its first child is searched, to this depth
abbrev pub first_runs_to : ℕ → List ℕ
first_runs_to depth = 34628173824 ∷ 68853694464 ∷ depth ∷ 800000 ∷ 1200000 ∷ 0 ∷ 0 ∷ 2 ∷ 800000 ∷ 65 ∷ 4 ∷ 1 ∷ 1 ∷ 0 ∷ 0 ∷ 0 ∷ []

-- the root while its first child is searched, to depth 1
abbrev pub first_runs : List ℕ
first_runs = first_runs_to 1

-- the words of the root's new child for d3, with this depth
abbrev pub d3_to : ℕ → List ℕ
d3_to depth = 0 ∷ 0 ∷ depth ∷ 800000 ∷ 1200000 ∷ 1 ∷ 0 ∷ 0 ∷ 0 ∷ 0 ∷ 0 ∷ 0 ∷ []

-- the root once d3 is settled and worth exactly -3, so many choices are spawned, and c4 has this entry
abbrev pub tests_with : ℕ → ℕ → List ℕ
tests_with spawned c4 = 34628173824 ∷ 68853694464 ∷ 1 ∷ 800000 ∷ 1200000 ∷ 0 ∷ 0 ∷ 3 ∷ 999997 ∷ 19 ∷ 4 ∷ spawned ∷ entry 2 3 999997 ∷ c4 ∷ 0 ∷ 0 ∷ []

-- a child of depth 0 that is done, on the board after d3, with this window, role, number of its choice and score
-- (all as words)
abbrev pub returned : ℕ → ℕ → ℕ → ℕ → ℕ → List ℕ
returned alpha beta role number best = 68719476736 ∷ 34762915840 ∷ 0 ∷ alpha ∷ beta ∷ role ∷ number ∷ 4 ∷ best ∷ 65 ∷ 0 ∷ 0 ∷ []

-- the root with this window (alpha and beta), phase, best score and code of a choice, and with these statuses and
-- rests of its entries; each of its choices (d3, c4, f5, e6) is worth -3
abbrev pub root_with : ℤ × ℤ → ℕ → ℤ → ℕ → List ℕ → List ℕ → Frame
root_with window phase best choice statuses rests = record { own = 34628173824; opp = 68853694464; depth = 1; alpha = window.0; beta = window.1; role = role_root; number = 0; phase = phase; best = best; choice = choice; count = 4; spawned = 4; statuses = statuses; rests = rests }

-- the statuses of the opening's four choices where none is settled
abbrev pub none_settled : List ℕ
none_settled = status_not_spawned ∷ status_not_spawned ∷ status_not_spawned ∷ status_not_spawned ∷ []

-- the statuses of the opening's four choices where d3 alone is settled
abbrev pub d3_settled : List ℕ
d3_settled = status_settled ∷ status_not_spawned ∷ status_not_spawned ∷ status_not_spawned ∷ []

-- the statuses of the opening's four choices where d3 and c4 are settled
abbrev pub two_settled : List ℕ
two_settled = status_settled ∷ status_settled ∷ status_not_spawned ∷ status_not_spawned ∷ []

-- the rests of the entries of the opening's four choices, where nothing is known of any
abbrev pub nothing_found : List ℕ
nothing_found = 0 ∷ 0 ∷ 0 ∷ 0 ∷ []

-- the rests of the entries of the opening's four choices, where only c4 has a bound, of this kind and this score
abbrev pub found_of_c4 : BoundKind → ℤ → List ℕ
found_of_c4 kind score = 0 ∷ rest_with kind score ∷ 0 ∷ 0 ∷ []

-- the root with the full window, where nothing is known of any choice
abbrev pub full_root : ℕ → ℤ → ℕ → List ℕ → Frame
full_root phase best choice statuses = root_with (least, greatest) phase best choice statuses nothing_found

-- a child of the root, with the two words of a board, a depth, a window (alpha and beta), its role, the number of
-- its choice and its phase
abbrev pub child_of_root : ℕ × ℕ → ℕ → ℤ × ℤ → ℕ → ℕ → ℕ → Frame
child_of_root words depth window role number phase = record { own = words.0; opp = words.1; depth = depth; alpha = window.0; beta = window.1; role = role; number = number; phase = phase; best = pos 0; choice = 65; count = 0; spawned = 0; statuses = []; rests = [] }

-- the child of the root that searches d3, and is computed on the board after it
abbrev pub after_d3 : ℕ → ℤ × ℤ → ℕ → Frame
after_d3 depth window role = child_of_root (68719476736, 34762915840) depth window role 0 1
