-- Whose a site's session is: who is the same as whom.
use Rattle.site_book.proofs.Common.{◌≡◌, true, arith, Own, Who, same_who, is_in}

pub same-is : (a b : Who) → same_who a b ≡ true → a ≡ b
same-is a b same = grind arith

pub is-same : (a : Who) → same_who a a ≡ true
is-same a = grind arith

-- a customer is one of its own part
pub in-own : (who : Who) → is_in (Own who) who ≡ true
in-own who = is-same who
