-- Instances of the premises of the laws on whose turn it is (`in_a_line`): of two of group 7 that were served as much, the second has
-- waited for longer; it is picked, and another task of it is done.
use Rattle.std.specs.Prelude.{ℕ, zero, suc, ◌≡◌, ◌≢◌, ◌≤◌, ◌+◌, true, false, List, [], ◌∷◌, refl}
use Rattle.std.proofs.Common.{arith}
use Rattle.std.proofs.lemmas.Bool.{false≢true}
use Rattle.std.proofs.Math.Dec.{lit≤}
use Rattle.fair_share.specs.declared.account.ShareAccount.{ShareAccount}
use Rattle.fair_share.specs.Accounts.{is_active, is_rival, is_before}
use Rattle.fair_share.specs.Lines.{LineOf, account_at}
use Rattle.fair_share.specs.Waits.{Longs, Picks, Serves}
use Rattle.fair_share.specs.Rows.{account}
use Rattle.promise_uses.proofs.premises.in_a_line.Goals as goal

abbrev two : List ShareAccount
two = account 1 7 50 3 ∷ account 2 7 50 2 ∷ []

abbrev line : LineOf
line = record { accounts = two; turn = 4 }

least : (other : ℕ) → is_rival 7 (account_at two other) ≡ true → 50 ≤ (account_at two other).served
least zero is = lit≤ tt
least (suc zero) is = lit≤ tt
least (suc (suc other)) is = absurd (false≢true is)

led : (other : ℕ) → is_rival 7 (account_at two other) ≡ true → 50 ≤ (account_at two other).served + 5
led zero is = lit≤ tt
led (suc zero) is = lit≤ tt
led (suc (suc other)) is = absurd (false≢true is)

none-before : (other : ℕ) → is_rival 7 (account_at two other) ≡ true → is_before (account_at two other) (account_at two 1) ≡ false
none-before zero is = refl
none-before (suc zero) is = refl
none-before (suc (suc other)) is = absurd (false≢true is)

named : (other : ℕ) → is_active (account_at two other) ≡ true → (account_at two other).name ≢ 0
named zero is = λ e. (let no : suc zero ≡ zero = e in absurd (cc no))
named (suc zero) is = λ e. (let no : suc (suc zero) ≡ zero = e in absurd (cc no))
named (suc (suc other)) is = absurd (false≢true is)

none-longer : (other : ℕ) → is_active (account_at two other) ≡ true → (account_at two 1).since ≤ (account_at two other).since
none-longer zero is = lit≤ tt
none-longer (suc zero) is = lit≤ tt
none-longer (suc (suc other)) is = absurd (false≢true is)

pub returns : goal.returns
returns c = record {
  least = (
    7,
    0,
    128,
    line,
    account 1 7 50 3,
    Picks 1 2 ∷ Serves 1 5 ∷ [],
    record { here = refl; active = refl; least = least; since = lit≤ tt; turns = lit≤ tt; served = lit≤ tt },
    (λ e. omega (arith, e), (record { is_one = refl; none_before = none-before }, lit≤ tt), (λ e. omega (arith, e), tt, tt)),
    lit≤ tt,
    (lit≤ tt, tt),
  );
  led = (
    7,
    0,
    5,
    1,
    128,
    line,
    account 1 7 50 3,
    Picks 1 2 ∷ Serves 1 5 ∷ [],
    record { here = refl; active = refl; led = led; named = named; served = lit≤ tt },
    (λ e. omega (arith, e), (record { is_one = refl; none_before = none-before }, lit≤ tt), (λ e. omega (arith, e), tt, tt)),
    refl,
    lit≤ tt,
    (lit≤ tt, tt),
  );
  next = (7, 1, 5, 9, 0, line, record { is_one = refl; none_before = none-before }, lit≤ tt, refl);
  waiting = (
    7,
    0,
    512,
    line,
    account 1 7 50 3,
    Longs 1 2 ∷ Serves 1 5 ∷ [],
    record { here = refl; active = refl; since = lit≤ tt; turns = lit≤ tt },
    (λ e. omega (arith, e), record { is_one = refl; none_longer = none-longer }, (λ e. omega (arith, e), tt, tt)),
    lit≤ tt,
    (lit≤ tt, tt),
  );
}
