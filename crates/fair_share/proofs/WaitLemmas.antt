-- Of those who share a pool of workers: who waits comes next after those ahead of it.
use Rattle.fair_share.proofs.Common.{◌≡◌, ◌≢◌, ℕ, zero, suc, ◌+◌, ◌*◌, ◌<◌, ◌≤◌, Bool, true, false, List, [], ◌∷◌, set, sym, ◌∙◌, refl, ap, subst, arith, Option, Some, None, cond, unwrap_or, sum_by, get_or-set_other, sum_by-cons, ShareAccount, free_account, is_active, is_rival, is_before, capped_sum, account_charged, woken_from, rested, LineOf, account_at, charged, lesser, least_from, floor_of, LineEvent, Comes, Wakes, Rests, Serves, Picks, Longs, line_after, place_in, IsFair, Waits, picks_in, tasks_in, IsEach, is_ahead, IsLeast}

abbrev pub one : Bool → ℕ
one b = cond b 1 0

-- the tasks between two picks
pub few-tasks : (many since : ℕ) (events : List LineEvent) → IsEach many since events → since < many → tasks_in events + since < many * (picks_in events + 1)
few-tasks many since [] each less = omega arith
few-tasks many since (Comes place account ∷ events) each less = few-tasks many since events each less
few-tasks many since (Wakes place ∷ events) each less = few-tasks many since events each less
few-tasks many since (Rests place ∷ events) each less = few-tasks many since events each less
few-tasks many since (Serves place amount ∷ events) each less = omega (arith, few-tasks many (since + 1) events each.1 each.0)
few-tasks many since (Picks place amount ∷ events) each less = omega (arith, few-tasks many 0 events each (omega arith))
few-tasks many since (Longs place amount ∷ events) each less = omega (arith, few-tasks many (since + 1) events each.1 each.0)

-- one more is before
charged-behind : (a b : ShareAccount) (amount turn : ℕ) → 0 < amount → a.served < 18446744073709551615 → a.served ≤ b.served → is_before a (account_charged amount turn b) ≡ true
charged-behind a b amount turn some few least = grind arith

-- one that is served later is before too
charged-later : (a b : ShareAccount) (amount turn : ℕ) → a.since < turn → a.served < 18446744073709551615 → a.served ≤ b.served → is_active b ≡ true → is_before a (account_charged amount turn b) ≡ true
charged-later a b amount turn since few least active = grind arith

charged-rival : (group : ℕ) (y : ShareAccount) (amount turn : ℕ) → is_rival group y ≡ false → is_rival group (account_charged amount turn y) ≡ false
charged-rival group y amount turn rests = grind arith

active-rival : (group : ℕ) (y : ShareAccount) → is_rival group y ≡ true → is_active y ≡ true
active-rival group y is = grind arith

before-out : (group : ℕ) (account y : ShareAccount) → is_before account y ≡ true → is_ahead group account y ≡ false
before-out group account y before = grind arith

charged-out : (group : ℕ) (y account : ShareAccount) → is_rival group y ≡ false → is_ahead group account y ≡ false
charged-out group y account rests = grind arith

-- who isn't before another has been served as much at least
pub not-before : (a b : ShareAccount) → is_before a b ≡ false → b.served ≤ a.served
not-before a b is = grind arith

-- a sum over the accounts after one has changed
pub sum-set : (w : ShareAccount → ℕ) (xs : List ShareAccount) (place : ℕ) (y : ShareAccount) (k e : ℕ) → w free_account ≡ 0 → w y + k ≤ w (account_at xs place) + e → sum_by w (set xs place y) + k ≤ sum_by w xs + e
sum-set w [] place y k e none less =
    let same : sum_by w (set [] place y) ≡ 0 = refl in
    let zero-at : w (account_at [] place) ≡ 0 = none in omega arith
sum-set w (x ∷ xs) zero y k e none less =
    let more : sum_by w (y ∷ xs) + k ≤ sum_by w (x ∷ xs) + e = omega (arith, sum_by-cons w x xs, sum_by-cons w y xs) in more
sum-set w (x ∷ xs) (suc place) y k e none less =
    let rest : sum_by w (set xs place y) + k ≤ sum_by w xs + e = sum-set w xs place y k e none less in
    let more : sum_by w (x ∷ set xs place y) + k ≤ sum_by w (x ∷ xs) + e = omega (arith, sum_by-cons w x xs, sum_by-cons w x (set xs place y)) in more

-- what one account has at its place after another has changed
pub other-at : (xs : List ShareAccount) (place other : ℕ) (y : ShareAccount) → other ≢ place → account_at (set xs other y) place ≡ account_at xs place
other-at xs place other y differs = get_or-set_other xs other place y free_account (λ same. differs (sym same))

-- the account at any place after one has changed is one of before, or the changed one
pub any-at : (P : ShareAccount → Type 0) (xs : List ShareAccount) (place : ℕ) (y : ShareAccount) → ((other : ℕ) → P (account_at xs other)) → P y →
    (other : ℕ) → P (account_at (set xs place y) other)
any-at P [] place y all new other = all other
any-at P (x ∷ xs) zero y all new zero = new
any-at P (x ∷ xs) zero y all new (suc other) = all (suc other)
any-at P (x ∷ xs) (suc place) y all new zero = all zero
any-at P (x ∷ xs) (suc place) y all new (suc other) = any-at P xs place y (λ k. all (suc k)) new other

-- the least of those that all have so much has so much
abbrev HasAtLeast : ℕ → Option ℕ → Type 0
HasAtLeast low None = Unit {0}
HasAtLeast low (Some n) = low ≤ n

lesser-least : (low count : ℕ) (least : Option ℕ) → low ≤ count → HasAtLeast low least → low ≤ lesser count least
lesser-least low count None less has = less
lesser-least low count (Some n) less has = grind arith

module _ (group low : ℕ) where
  least-floor : (xs : List ShareAccount) (least : Option ℕ) → HasAtLeast low least →
      ((other : ℕ) → is_rival group (account_at xs other) ≡ true → low ≤ (account_at xs other).served) → HasAtLeast low (least_from least group xs)
  least-floor [] least has all = has
  least-floor (x ∷ xs) least has all =
      elim (is_rival group x) as (λ b. is_rival group x ≡ b → HasAtLeast low (least_from (cond b (Some (lesser x.served least)) least) group xs)) [
        | true ↦ λ is. least-floor xs (Some (lesser x.served least)) (lesser-least low x.served least (all 0 is) has) (λ other. all (suc other))
        | false ↦ λ is. least-floor xs least has (λ other. all (suc other))
      ] refl

-- where somebody is active there is a least
abbrev IsThere : Option ℕ → Type 0
IsThere None = ⊥
IsThere (Some n) = Unit {0}

module _ (group : ℕ) where
  least-stays : (xs : List ShareAccount) (n : ℕ) → IsThere (least_from (Some n) group xs)
  least-stays [] n = tt
  least-stays (x ∷ xs) n =
      elim (is_rival group x) as (λ b. IsThere (least_from (cond b (Some (lesser x.served (Some n))) (Some n)) group xs)) [
        | true ↦ least-stays xs (lesser x.served (Some n))
        | false ↦ least-stays xs n
      ]

  least-there : (xs : List ShareAccount) (least : Option ℕ) (place : ℕ) → is_rival group (account_at xs place) ≡ true → IsThere (least_from least group xs)
  least-there [] least place is = absurd (never place is) where
    never : (place : ℕ) → is_rival group (account_at [] place) ≡ true → ⊥
    never place h = grind arith
  least-there (x ∷ xs) least zero is = rw is (least-stays xs (lesser x.served least))
  least-there (x ∷ xs) least (suc place) is = least-there xs (cond (is_rival group x) (Some (lesser x.served least)) least) place is

pub floor-least : (group low : ℕ) (xs : List ShareAccount) (place : ℕ) → is_rival group (account_at xs place) ≡ true →
    ((other : ℕ) → is_rival group (account_at xs other) ≡ true → low ≤ (account_at xs other).served) → low ≤ floor_of group xs
floor-least group low xs place is all = of (least_from None group xs) (least-there group xs None place is) (least-floor group low xs None tt all) where
  of : (least : Option ℕ) → IsThere least → HasAtLeast low least → low ≤ unwrap_or least 0
  of None there has = absurd there
  of (Some n) there has = has

-- an account of which this holds where it isn't active stays out
out-of : (group : ℕ) (account : ShareAccount) (y : ShareAccount) → is_active y ≡ false → is_ahead group account y ≡ false
out-of group account y rests = grind arith

-- nothing comes before itself
never-itself : (account : ShareAccount) → is_before account account ≡ false
never-itself account = grind arith

itself-ahead : (group : ℕ) (account : ShareAccount) → is_rival group account ≡ true → is_ahead group account account ≡ true
itself-ahead group account active = grind (arith, never-itself account)

-- who counts is counted
pub sum-one : (w : ShareAccount → ℕ) (xs : List ShareAccount) (place : ℕ) → w free_account ≡ 0 → w (account_at xs place) ≤ sum_by w xs
sum-one w [] place none = let zero-there : w (account_at [] place) ≡ 0 = ap w (never place) ∙ none in omega arith where
  never : (place : ℕ) → account_at [] place ≡ free_account
  never place = grind arith
sum-one w (x ∷ xs) zero none = omega (arith, sum_by-cons w x xs)
sum-one w (x ∷ xs) (suc place) none = omega (arith, sum_by-cons w x xs, sum-one w xs place none)

abbrev ahead_one : ℕ → ShareAccount → ShareAccount → ℕ
ahead_one group account y = one (is_ahead group account y)

none-ahead : (group : ℕ) (account : ShareAccount) → ahead_one group account free_account ≡ 0
none-ahead group account = refl

module _ (group : ℕ) (account y : ShareAccount) where
  -- after a task of somebody served at least as much: it isn't ahead where it wasn't
  task-ahead : (amount turn : ℕ) → account.since < turn → account.served < 18446744073709551615 → (is_rival group y ≡ true → account.served ≤ y.served) → ahead_one group account (account_charged amount turn y) ≤ ahead_one group account y
  task-ahead amount turn since few least = let out = not-ahead (is_rival group y) refl in omega (arith, ap one out) where
    not-ahead : (b : Bool) → is_rival group y ≡ b → is_ahead group account (account_charged amount turn y) ≡ false
    not-ahead true is = let later = charged-later account y amount turn since few (least is) (active-rival group y is) in before-out group account (account_charged amount turn y) later
    not-ahead false is = charged-out group (account_charged amount turn y) account (charged-rival group y amount turn is)

  -- after a pick: it isn't ahead any more
  pick-ahead : (amount turn : ℕ) → account.served < 18446744073709551615 → 0 < amount → is_rival group y ≡ true → account.served ≤ y.served →
      is_before account y ≡ false → ahead_one group account (account_charged amount turn y) + 1 ≤ ahead_one group account y
  pick-ahead amount turn few some active least before = grind (arith, charged-behind account y amount turn some few least)

  -- one that becomes active isn't ahead
  woken-ahead : (floor turn : ℕ) → account.since < turn → (y.group ≡ group → account.served ≤ floor) → is_ahead group account (woken_from floor turn y) ≡ false
  woken-ahead floor turn since least = grind arith

  -- the rests of an account
  rests-no : is_rival group (rested y) ≡ true → account.served ≤ (rested y).served
  rests-no active = grind arith

  more-least : (amount turn : ℕ) → account.served < 18446744073709551615 → (is_rival group y ≡ true → account.served ≤ y.served) →
      is_rival group (account_charged amount turn y) ≡ true → account.served ≤ (account_charged amount turn y).served
  more-least amount turn few least active = grind arith

  woken-least : (floor turn : ℕ) → (y.group ≡ group → account.served ≤ floor) → is_rival group (woken_from floor turn y) ≡ true → account.served ≤ (woken_from floor turn y).served
  woken-least floor turn least active = grind arith

pub capped-turn : (turn : ℕ) → turn ≤ 18446744073709551615 → (turn ≤ capped_sum turn 1) × (capped_sum turn 1 ≤ 18446744073709551615)
capped-turn turn most = grind arith

-- a line after somebody has woken, who was active, or wasn't
abbrev pub line_woken : LineOf → ℕ → Bool → LineOf
line_woken line other active =
    let y = account_at line.accounts other in
    cond active line (record { accounts = set line.accounts other (woken_from (floor_of y.group line.accounts) line.turn y); turn = capped_sum line.turn 1 })

module _ (group place : ℕ) (line : LineOf) (account : ShareAccount) (is : IsLeast group place line account) where
  -- the least stays the least after somebody else's account has changed to one that isn't active in the group or was served as much
  least-set : (other : ℕ) (y : ShareAccount) (turn : ℕ) → other ≢ place → (is_rival group y ≡ true → account.served ≤ y.served) → line.turn ≤ turn →
      turn ≤ 18446744073709551615 → IsLeast group place (record { accounts = set line.accounts other y; turn = turn }) account
  least-set other y turn differs less later most = record {
    here = other-at line.accounts place other y differs ∙ is.here;
    active = is.active;
    least = any-at (λ (a : ShareAccount). is_rival group a ≡ true → account.served ≤ a.served) line.accounts other y is.least less;
    since = omega (arith, is.since, later);
    turns = most;
    served = is.served;
  }

  -- the floor of its own group isn't lower
  own-floor : (y : ShareAccount) → y.group ≡ group → account.served ≤ floor_of y.group line.accounts
  own-floor y same = rw same (floor-least group account.served line.accounts place (ap (is_rival group) is.here ∙ is.active) is.least)

  -- so does a task of somebody else
  least-served : (other amount : ℕ) → other ≢ place → IsLeast group place (charged other amount line) account
  least-served other amount differs =
      let y = account_at line.accounts other in
      let later = capped-turn line.turn is.turns in
      least-set other (account_charged amount line.turn y) (capped_sum line.turn 1) differs (more-least group account y amount line.turn is.served (is.least other)) later.0 later.1

  -- what happens to others leaves the least the least
  least-after : (event : LineEvent) → place_in event ≢ place → IsLeast group place (line_after line event) account
  least-after (Comes other y) differs = least-set other (rested y) line.turn differs (rests-no group account y) (omega arith) is.turns
  least-after (Wakes other) differs =
      let y = account_at line.accounts other in
      let later = capped-turn line.turn is.turns in
      elim (is_active y) as (λ b. IsLeast group place (line_woken line other b) account) [
        | true ↦ is
        | false ↦ least-set other _ (capped_sum line.turn 1) differs (woken-least group account y (floor_of y.group line.accounts) line.turn (own-floor y)) later.0 later.1
      ]
  least-after (Rests other) differs =
      let y = account_at line.accounts other in least-set other (rested y) line.turn differs (rests-no group account y) (omega arith) is.turns
  least-after (Serves other amount) differs = least-served other amount differs
  least-after (Picks other amount) differs = least-served other amount differs
  least-after (Longs other amount) differs = least-served other amount differs

  ahead-served : (other amount : ℕ) → sum_by (ahead_one group account) (charged other amount line).accounts + 0 ≤ sum_by (ahead_one group account) line.accounts + 0
  ahead-served other amount =
      let y = account_at line.accounts other in
      sum-set (ahead_one group account) line.accounts other (account_charged amount line.turn y) 0 0 refl
      (omega (arith, task-ahead group account y amount line.turn is.since is.served (is.least other)))

  -- so many are ahead, and a pick is one less
  ahead-after : (event : LineEvent) → IsFair group line event →
      sum_by (ahead_one group account) (line_after line event).accounts + picks_in (event ∷ []) ≤ sum_by (ahead_one group account) line.accounts + 0
  ahead-after (Comes other y) fair = sum-set (ahead_one group account) line.accounts other (rested y) 0 0 refl (omega (arith, ap one (out-of group account (rested y) refl)))
  ahead-after (Wakes other) fair =
      let y = account_at line.accounts other in
      elim (is_active y) as (λ b. sum_by (ahead_one group account) (line_woken line other b).accounts + 0 ≤ sum_by (ahead_one group account) line.accounts + 0) [
        | true ↦ omega arith
        | false ↦ sum-set (ahead_one group account) line.accounts other _ 0 0 refl (omega (arith, ap one (woken-ahead group account y (floor_of y.group line.accounts) line.turn is.since (own-floor y))))
      ]
  ahead-after (Rests other) fair =
      let y = account_at line.accounts other in sum-set (ahead_one group account) line.accounts other (rested y) 0 0 refl (omega (arith, ap one (out-of group account (rested y) refl)))
  ahead-after (Serves other amount) fair = ahead-served other amount
  ahead-after (Picks other amount) fair =
      let y = account_at line.accounts other in
      let before = subst (λ (a : ShareAccount). is_before a y ≡ false) is.here (fair.0.none_before place (ap (is_rival group) is.here ∙ is.active)) in
      sum-set (ahead_one group account) line.accounts other (account_charged amount line.turn y) 1 0 refl
      (omega (arith, pick-ahead group account y amount line.turn is.served fair.1 fair.0.is_one (is.least other fair.0.is_one) before))
  ahead-after (Longs other amount) fair = ahead-served other amount

pub picks-cons : (event : LineEvent) (events : List LineEvent) → picks_in (event ∷ events) ≡ picks_in (event ∷ []) + picks_in events
picks-cons (Comes place account) events = omega arith
picks-cons (Wakes place) events = omega arith
picks-cons (Rests place) events = omega arith
picks-cons (Serves place amount) events = omega arith
picks-cons (Picks place amount) events = omega arith
picks-cons (Longs place amount) events = omega arith

-- so the picks are fewer than those ahead, itself among them
pub few-picks : (group place : ℕ) (line : LineOf) (account : ShareAccount) (events : List LineEvent) → IsLeast group place line account →
    Waits group place line events → picks_in events < sum_by (ahead_one group account) line.accounts
few-picks group place line account [] is waits =
    omega (arith, sum-one (ahead_one group account) line.accounts place (none-ahead group account), ap (ahead_one group account) is.here, ap one (itself-ahead group account is.active))
few-picks group place line account (event ∷ events) is waits =
    let rest = few-picks group place (line_after line event) account events (least-after group place line account is event waits.0) waits.2 in
    omega (arith, picks-cons event events, ahead-after group place line account is event waits.1, rest)
