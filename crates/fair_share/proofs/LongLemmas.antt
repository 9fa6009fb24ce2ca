-- Of those who share a pool of workers: who has waited longest is picked before anybody who is served or comes later.
use Rattle.fair_share.proofs.Common.{◌≡◌, ◌≢◌, ℕ, ◌+◌, ◌*◌, ◌<◌, ◌≤◌, Bool, true, false, List, set, [], ◌∷◌, length, refl, ap, subst, ◌∙◌, arith, count_by, sum_by, sum_by-cons, ShareAccount, is_active, rested, capped_sum, account_charged, woken_from, LineOf, account_at, charged, floor_of, LineEvent, Comes, Wakes, Rests, Serves, Picks, Longs, line_after, place_in, IsFair, Waits, long_picks_in, tasks_in, IsEachLong, IsWaiting, is_older}
use Rattle.fair_share.proofs.WaitLemmas.{one, line_woken, capped-turn, other-at, sum-set, sum-one}

-- the tasks between two picks of who has waited longest
pub few-between : (many since : ℕ) (events : List LineEvent) → IsEachLong many since events → since < many → tasks_in events + since < many * (long_picks_in events + 1)
few-between many since [] each less = omega arith
few-between many since (Comes place account ∷ events) each less = few-between many since events each less
few-between many since (Wakes place ∷ events) each less = few-between many since events each less
few-between many since (Rests place ∷ events) each less = few-between many since events each less
few-between many since (Serves place amount ∷ events) each less = omega (arith, few-between many (since + 1) events each.1 each.0)
few-between many since (Picks place amount ∷ events) each less = omega (arith, few-between many (since + 1) events each.1 each.0)
few-between many since (Longs place amount ∷ events) each less = omega (arith, few-between many 0 events each (omega arith))

abbrev older_one : ShareAccount → ShareAccount → ℕ
older_one account y = one (is_older account y)

module _ (account y : ShareAccount) where
  rests-out : older_one account (rested y) ≡ 0
  rests-out = grind arith

  rests-younger : older_one account (rested y) ≤ older_one account y
  rests-younger = grind arith

  woken-younger : (floor turn : ℕ) → account.since < turn → older_one account (woken_from floor turn y) ≤ older_one account y
  woken-younger floor turn since = grind arith

  served-younger : (amount turn : ℕ) → account.since < turn → older_one account (account_charged amount turn y) ≤ older_one account y
  served-younger amount turn since = grind arith

  picked-younger : (amount turn : ℕ) → account.since < turn → is_active y ≡ true → y.since ≤ account.since → older_one account (account_charged amount turn y) + 1 ≤ older_one account y
  picked-younger amount turn since active longer = grind arith

itself-older : (account : ShareAccount) → is_active account ≡ true → is_older account account ≡ true
itself-older account active = grind arith

module _ (place : ℕ) (line : LineOf) (account : ShareAccount) (is : IsWaiting place line account) where
  waiting-set : (other : ℕ) (y : ShareAccount) (turn : ℕ) → other ≢ place → line.turn ≤ turn → turn ≤ 18446744073709551615 →
      IsWaiting place (record { accounts = set line.accounts other y; turn = turn }) account
  waiting-set other y turn differs later most = record {
    here = other-at line.accounts place other y differs ∙ is.here;
    active = is.active;
    since = omega (arith, is.since, later);
    turns = most;
  }

  waiting-served : (other amount : ℕ) → other ≢ place → IsWaiting place (charged other amount line) account
  waiting-served other amount differs =
      let later = capped-turn line.turn is.turns in waiting-set other (account_charged amount line.turn (account_at line.accounts other)) (capped_sum line.turn 1) differs later.0 later.1

  -- what happens to others leaves it waiting
  waiting-after : (event : LineEvent) → place_in event ≢ place → IsWaiting place (line_after line event) account
  waiting-after (Comes other y) differs = waiting-set other (rested y) line.turn differs (omega arith) is.turns
  waiting-after (Wakes other) differs =
      let y = account_at line.accounts other in
      let later = capped-turn line.turn is.turns in
      elim (is_active y) as (λ b. IsWaiting place (line_woken line other b) account) [
        | true ↦ is
        | false ↦ waiting-set other _ (capped_sum line.turn 1) differs later.0 later.1
      ]
  waiting-after (Rests other) differs = waiting-set other (rested (account_at line.accounts other)) line.turn differs (omega arith) is.turns
  waiting-after (Serves other amount) differs = waiting-served other amount differs
  waiting-after (Picks other amount) differs = waiting-served other amount differs
  waiting-after (Longs other amount) differs = waiting-served other amount differs

  older-served : (other amount : ℕ) → sum_by (older_one account) (charged other amount line).accounts + 0 ≤ sum_by (older_one account) line.accounts + 0
  older-served other amount =
      let y = account_at line.accounts other in
      sum-set (older_one account) line.accounts other (account_charged amount line.turn y) 0 0 refl (omega (arith, served-younger account y amount line.turn is.since))

  -- so many have waited as long, and a pick of who has waited longest is one less
  older-after : (group : ℕ) (event : LineEvent) → place_in event ≢ place → IsFair group line event →
      sum_by (older_one account) (line_after line event).accounts + long_picks_in (event ∷ []) ≤ sum_by (older_one account) line.accounts + 0
  older-after group (Comes other y) differs fair =
      sum-set (older_one account) line.accounts other (rested y) 0 0 refl (omega (arith, rests-out account y))
  older-after group (Wakes other) differs fair =
      let y = account_at line.accounts other in
      elim (is_active y) as (λ b. sum_by (older_one account) (line_woken line other b).accounts + 0 ≤ sum_by (older_one account) line.accounts + 0) [
        | true ↦ omega arith
        | false ↦ sum-set (older_one account) line.accounts other _ 0 0 refl (omega (arith, woken-younger account y (floor_of y.group line.accounts) line.turn is.since))
      ]
  older-after group (Rests other) differs fair =
      let y = account_at line.accounts other in sum-set (older_one account) line.accounts other (rested y) 0 0 refl (omega (arith, rests-younger account y))
  older-after group (Serves other amount) differs fair = older-served other amount
  older-after group (Picks other amount) differs fair = older-served other amount
  older-after group (Longs other amount) differs fair =
      let y = account_at line.accounts other in
      let longer : y.since ≤ account.since = subst (λ (a : ShareAccount). y.since ≤ a.since) is.here (fair.none_longer place (ap is_active is.here ∙ is.active)) in
      sum-set (older_one account) line.accounts other (account_charged amount line.turn y) 1 0 refl (omega (arith, picked-younger account y amount line.turn is.since fair.is_one longer))

longs-cons : (event : LineEvent) (events : List LineEvent) → long_picks_in (event ∷ events) ≡ long_picks_in (event ∷ []) + long_picks_in events
longs-cons (Comes place account) events = omega arith
longs-cons (Wakes place) events = omega arith
longs-cons (Rests place) events = omega arith
longs-cons (Serves place amount) events = omega arith
longs-cons (Picks place amount) events = omega arith
longs-cons (Longs place amount) events = omega arith

-- so such picks are fewer than those that have waited as long, itself among them
pub few-longs : (group place : ℕ) (line : LineOf) (account : ShareAccount) (events : List LineEvent) → IsWaiting place line account →
    Waits group place line events → long_picks_in events < count_by (is_older account) line.accounts
few-longs group place line account [] is waits =
    omega (arith, sum-one (older_one account) line.accounts place refl, ap (older_one account) is.here, ap one (itself-older account is.active))
few-longs group place line account (event ∷ events) is waits =
    let rest = few-longs group place (line_after line event) account events (waiting-after place line account is event waits.0) waits.2 in
    omega (arith, longs-cons event events, older-after place line account is group event waits.0 waits.1, rest)

-- a count is at most how many there are
pub count-most : (p : ShareAccount → Bool) (xs : List ShareAccount) → count_by p xs ≤ length xs
count-most p [] = omega arith
count-most p (x ∷ xs) = omega (arith, sum_by-cons (λ y. one (p y)) x xs, one-most (p x), count-most p xs) where
  one-most : (b : Bool) → one b ≤ 1
  one-most true = omega arith
  one-most false = omega arith
