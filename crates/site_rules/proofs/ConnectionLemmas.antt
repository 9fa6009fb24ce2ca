-- Where a customer's count stands among all, and what a write and a removal there make of the counts (`src/connections.rt`).
use Rattle.std.proofs.Common.{◌≡◌, ℕ, ◌-◌, ◌<◌, ◌≤◌, ◌++◌, ◌∙◌, Option, ap, subst, sym, List, [], ◌∷◌, Some, None, true, false, arith, get_or, set, length, ltb, refl}
use Rattle.std.proofs.lemmas.Bool.Decides.{nat_tests}
use Rattle.std.specs.List.{remove}
use Rattle.site_book.specs.declared.who.Who.{Who}
use Rattle.site_rules.specs.Connections.{connections_of, home_of, one_more, count_place, with_home, with_one_less, with_one_more}
use Rattle.site_rules.specs.declared.connections.CustomerConnections.{CustomerConnections}

-- what a write and a removal at a place make of the counts
pub record IsPlace (who : Who) (all : List CustomerConnections) (i : ℕ) : Type 0 where
  pub counted : (own : CustomerConnections) → own ≡ get_or all i own → connections_of who all ≡ own.connections
  pub homed : (own : CustomerConnections) → own ≡ get_or all i own → home_of who all ≡ own.home
  pub raised : (own : CustomerConnections) → own ≡ get_or all i own → set all i (record own { connections = one_more own.connections }) ≡ with_one_more who all
  pub lowered : (own : CustomerConnections) → own ≡ get_or all i own → ltb 1 own.connections ≡ true → set all i (record own { connections = own.connections - 1 }) ≡ with_one_less who all
  pub removed : (own : CustomerConnections) → own ≡ get_or all i own → ltb 1 own.connections ≡ false → remove all i ≡ with_one_less who all
  pub put : (own : CustomerConnections) (hall : ℕ) → own ≡ get_or all i own → set all i (record own { home = Some hall }) ≡ with_home who hall all

module _ (who : Who) where
  pub place-is : (all : List CustomerConnections) → count_place who all < length all → IsPlace who all (count_place who all)
  place-is [] less = absurd (omega arith)
  place-is (own ∷ all) less = grind (arith, place-is all, nat_tests)

  -- where a customer has no count
  pub none-counted : (all : List CustomerConnections) → length all ≤ count_place who all → connections_of who all ≡ 0
  none-counted [] past = refl
  none-counted (own ∷ all) past = grind (arith, none-counted all)

  pub none-homed : (all : List CustomerConnections) → length all ≤ count_place who all → home_of who all ≡ None
  none-homed [] past = refl
  none-homed (own ∷ all) past = grind (arith, none-homed all)

  pub none-more : (all : List CustomerConnections) → length all ≤ count_place who all → with_one_more who all ≡ all ++ record { who = who; connections = 1; home = None } ∷ []
  none-more [] past = refl
  none-more (own ∷ all) past = grind (arith, none-more all)

  pub none-less : (all : List CustomerConnections) → length all ≤ count_place who all → with_one_less who all ≡ all
  none-less [] past = refl
  none-less (own ∷ all) past = grind (arith, none-less all)

  pub none-with_home : (hall : ℕ) (all : List CustomerConnections) → length all ≤ count_place who all → with_home who hall all ≡ all
  none-with_home hall [] past = refl
  none-with_home hall (own ∷ all) past = grind (arith, none-with_home hall all)

-- the same of the place that was found
module _ (all read : List CustomerConnections) (who : Who) (i : ℕ) (same : read ≡ all) (is : i ≡ count_place who read) where
  at-place : i < length all → IsPlace who all i
  at-place less = grind (arith, place-is)

  pub counted-list : (own : CustomerConnections) → i < length all → own ≡ get_or all i own → own.connections ≡ connections_of who all
  counted-list own less at = sym ((at-place less).counted own at)

  pub no-count : length all ≤ i → 0 ≡ connections_of who all
  no-count past = grind (arith, none-counted)

  pub homed-list : (own : CustomerConnections) → i < length all → own ≡ get_or all i own → own.home ≡ home_of who all
  homed-list own less at = sym ((at-place less).homed own at)

  pub no-home : (hall : Option ℕ) → hall ≡ None → length all ≤ i → hall ≡ home_of who all
  no-home hall so past = so ∙ sym (none-homed who all (subst (λ place. length all ≤ place) (is ∙ ap (count_place who) same) past))

  pub raised-list : (own : CustomerConnections) → i < length all → own ≡ get_or all i own → set all i (record own { connections = one_more own.connections }) ≡ with_one_more who all
  raised-list own less at = (at-place less).raised own at

  pub lowered-list : (own : CustomerConnections) → i < length all → own ≡ get_or all i own → 1 < own.connections → set all i (record own { connections = own.connections - 1 }) ≡ with_one_less who all
  lowered-list own less at more = (at-place less).lowered own at (grind (arith, nat_tests))

  pub removed-list : (own : CustomerConnections) → i < length all → own ≡ get_or all i own → own.connections ≤ 1 → remove all i ≡ with_one_less who all
  removed-list own less at few = (at-place less).removed own at (grind (arith, nat_tests))

  pub put-list : (own : CustomerConnections) (hall : ℕ) → i < length all → own ≡ get_or all i own → set all i (record own { home = Some hall }) ≡ with_home who hall all
  put-list own hall less at = (at-place less).put own hall at

  pub entered-list : length all ≤ i → all ++ record { who = who; connections = 1; home = None } ∷ [] ≡ with_one_more who all
  entered-list past = grind (arith, none-more)

  pub kept-list : length all ≤ i → all ≡ with_one_less who all
  kept-list past = grind (arith, none-less)

  pub still-list : (hall : ℕ) → length all ≤ i → all ≡ with_home who hall all
  still-list hall past = grind (arith, none-with_home)
