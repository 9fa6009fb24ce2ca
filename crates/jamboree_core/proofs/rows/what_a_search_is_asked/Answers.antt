-- Rows of roots: the words that ask for a search, and words that don't, each for one fault.
use Rattle.jamboree_core.proofs.Common.{◌≡◌, ℕ, List, bit_and, refl, ap, ◌∙◌, arith, root_words, AreRootWords}
use Rattle.std.proofs.Common.{slice_index}
use Rattle.jamboree_core.proofs.rows.what_a_search_is_asked.Goals as goal

-- the word at a place
at : (words : List ℕ) (i : ℕ) (are : AreRootWords words) → slice_index words i ≡ slice_index (root_words are.own are.opp are.depth) i
at words i are = ap (λ (ws : List ℕ). slice_index ws i) are.are

pub returns-clause-opening : goal.returns-clause-opening
returns-clause-opening c = record { own = 34628173824; opp = 68853694464; depth = 1; are = refl; apart = refl; shallow = omega arith }

pub returns-clause-shared : goal.returns-clause-shared
returns-clause-shared c are =
    let two : 2 ≡ 0 = (ap (λ (n : ℕ). bit_and n 2) (at _ 0 are) ∙ ap (λ (n : ℕ). bit_and are.own n) (at _ 1 are) ∙ are.apart) in omega (arith, two)

pub returns-clause-deeper : goal.returns-clause-deeper
returns-clause-deeper c are = let depth : 13 ≡ are.depth = at _ 2 are in omega (arith, depth, are.shallow)

pub returns-clause-narrower : goal.returns-clause-narrower
returns-clause-narrower c are = let alpha : 800001 ≡ 800000 = at _ 3 are in omega (arith, alpha)

pub returns-clause-size : goal.returns-clause-size
returns-clause-size c is = let size : 13 ≡ 12 = is.1 in omega (arith, size)
