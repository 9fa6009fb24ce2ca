-- For the book of a site's customers: amounts (of sessions, segments and nodes), added and compared.
use Rattle.site_book.proofs.Common.{◌≡◌, true, arith, nat_tests, Amount, nothing, plus, IsAmountWithin, is_amount_within, is_same}

-- what the tests of amounts tell; a sum is no less than its second part
module _ (a b : Amount) where
  pub within-test : is_amount_within a b ≡ true → IsAmountWithin a b
  within-test aye = grind arith

  pub test-within : IsAmountWithin a b → is_amount_within a b ≡ true
  test-within is = grind (arith, nat_tests)

  pub within-more : IsAmountWithin b (plus a b)
  within-more = grind arith

  pub same-is_same : is_same a b ≡ true → a ≡ b
  same-is_same same = grind arith

-- sums of amounts, in another order, and compared
module _ (a b d : Amount) where
  pub plus-swap : plus a (plus b d) ≡ plus b (plus a d)
  plus-swap = grind arith

  pub plus-group : plus a (plus b d) ≡ plus (plus a b) d
  plus-group = grind arith

  pub within-trans : IsAmountWithin a b → IsAmountWithin b d → IsAmountWithin a d
  within-trans p q = grind arith

  -- more of both is no less
  pub within-plus : IsAmountWithin b d → IsAmountWithin (plus a b) (plus a d)
  within-plus p = grind arith

pub within-both : (a b d e : Amount) → IsAmountWithin a b → IsAmountWithin d e → IsAmountWithin (plus a d) (plus b e)
within-both a b d e p q = grind arith

pub within-same : (a : Amount) → IsAmountWithin a a
within-same a = grind arith

pub within-nothing : (a : Amount) → IsAmountWithin nothing a
within-nothing a = grind arith

pub same-self : (a : Amount) → is_same a a ≡ true
same-self a = grind arith
