-- Meaning: what happens to a line of those who share a pool, one event after another, while somebody waits in it.
use Rattle.std.specs.Prelude.{ℕ, ◌+◌, ◌≡◌, ◌≢◌, ◌==◌, ◌<◌, ◌≤◌, nat_lt, Bool, true, false, ◌&&◌, not, List, [], ◌∷◌, if◌then◌else◌}
use Rattle.fair_share.specs.declared.account.ShareAccount.{ShareAccount}
use Rattle.fair_share.specs.Accounts.{is_active, is_rival, is_before, rested}
use Rattle.fair_share.specs.Lines.{LineOf, IsNextAccount, IsLongest, account_at, woken, rested_at, charged, put_at}

-- what happens to a line: another account comes to a place, which isn't active yet (a free place's where somebody goes); the account at a
-- place becomes active, or isn't any more; somebody's task is done, which costs so much; or the task of one that was picked, as it was
-- served least, or as it had waited longest
pub data LineEvent : Type 0 where
  Comes : ℕ → ShareAccount → LineEvent
  Wakes : ℕ → LineEvent
  Rests : ℕ → LineEvent
  Serves : ℕ → ℕ → LineEvent
  Picks : ℕ → ℕ → LineEvent
  Longs : ℕ → ℕ → LineEvent

-- the line after this event
abbrev pub line_after : LineOf → LineEvent → LineOf
line_after line (Comes place account) = put_at place (rested account) line
line_after line (Wakes place) = woken place line
line_after line (Rests place) = rested_at place line
line_after line (Serves place amount) = charged place amount line
line_after line (Picks place amount) = charged place amount line
line_after line (Longs place amount) = charged place amount line

-- the place of the line that this event happens to
abbrev pub place_in : LineEvent → ℕ
place_in (Comes place account) = place
place_in (Wakes place) = place
place_in (Rests place) = place
place_in (Serves place amount) = place
place_in (Picks place amount) = place
place_in (Longs place amount) = place

-- an event of a line is fair: what becomes active is an account at a place that isn't free; a pick is of the account
-- that comes next in the group, and costs something, or of the one that has waited longest in any group
abbrev pub IsFair : ℕ → LineOf → LineEvent → Type 0
IsFair group line (Comes place account) = Unit {0}
IsFair group line (Wakes place) = (account_at line.accounts place).name ≢ 0
IsFair group line (Rests place) = Unit {0}
IsFair group line (Serves place amount) = Unit {0}
IsFair group line (Picks place amount) = IsNextAccount group line.accounts place × (0 < amount)
IsFair group line (Longs place amount) = IsLongest line.accounts place

-- these events happen one after another while the account at a place waits: none happens to it, so it gets no task and
-- stays active if it is; and each event is fair
abbrev pub Waits : ℕ → ℕ → LineOf → List LineEvent → Type 0
Waits group place line [] = Unit {0}
Waits group place line (event ∷ events) = (place_in event ≢ place) × IsFair group line event × Waits group place (line_after line event) events

-- how many picks of who was served least there are
abbrev pub picks_in : List LineEvent → ℕ
picks_in [] = 0
picks_in (Comes place account ∷ events) = picks_in events
picks_in (Wakes place ∷ events) = picks_in events
picks_in (Rests place ∷ events) = picks_in events
picks_in (Serves place amount ∷ events) = picks_in events
picks_in (Picks place amount ∷ events) = picks_in events + 1
picks_in (Longs place amount ∷ events) = picks_in events

-- how many picks of who has waited longest there are
abbrev pub long_picks_in : List LineEvent → ℕ
long_picks_in [] = 0
long_picks_in (Comes place account ∷ events) = long_picks_in events
long_picks_in (Wakes place ∷ events) = long_picks_in events
long_picks_in (Rests place ∷ events) = long_picks_in events
long_picks_in (Serves place amount ∷ events) = long_picks_in events
long_picks_in (Picks place amount ∷ events) = long_picks_in events
long_picks_in (Longs place amount ∷ events) = long_picks_in events + 1

-- how many tasks there are, picks among them
abbrev pub tasks_in : List LineEvent → ℕ
tasks_in [] = 0
tasks_in (Comes place account ∷ events) = tasks_in events
tasks_in (Wakes place ∷ events) = tasks_in events
tasks_in (Rests place ∷ events) = tasks_in events
tasks_in (Serves place amount ∷ events) = tasks_in events + 1
tasks_in (Picks place amount ∷ events) = tasks_in events + 1
tasks_in (Longs place amount ∷ events) = tasks_in events + 1

-- at least one of any so many tasks in a row is a pick of who was served least; `since` tasks have come since the last
-- such pick already
abbrev pub IsEach : ℕ → ℕ → List LineEvent → Type 0
IsEach many since [] = Unit {0}
IsEach many since (Comes place account ∷ events) = IsEach many since events
IsEach many since (Wakes place ∷ events) = IsEach many since events
IsEach many since (Rests place ∷ events) = IsEach many since events
IsEach many since (Serves place amount ∷ events) = (since + 1 < many) × IsEach many (since + 1) events
IsEach many since (Picks place amount ∷ events) = IsEach many 0 events
IsEach many since (Longs place amount ∷ events) = (since + 1 < many) × IsEach many (since + 1) events

-- at least one of any so many tasks in a row is a pick of who has waited longest; `since` tasks have come since the
-- last such pick already
abbrev pub IsEachLong : ℕ → ℕ → List LineEvent → Type 0
IsEachLong many since [] = Unit {0}
IsEachLong many since (Comes place account ∷ events) = IsEachLong many since events
IsEachLong many since (Wakes place ∷ events) = IsEachLong many since events
IsEachLong many since (Rests place ∷ events) = IsEachLong many since events
IsEachLong many since (Serves place amount ∷ events) = (since + 1 < many) × IsEachLong many (since + 1) events
IsEachLong many since (Picks place amount ∷ events) = (since + 1 < many) × IsEachLong many (since + 1) events
IsEachLong many since (Longs place amount ∷ events) = IsEachLong many 0 events

-- whether the second account is active in the group, and the first doesn't come before it
abbrev pub is_ahead : ℕ → ShareAccount → ShareAccount → Bool
is_ahead group first second = is_rival group second && not (is_before first second)

-- the account at the place is active in the group, was served no more than any account active there, became active
-- before this turn, and may be served more
pub record IsLeast (group place : ℕ) (line : LineOf) (account : ShareAccount) : Type 0 where
  pub here : account_at line.accounts place ≡ account
  pub active : is_rival group account ≡ true
  pub least : (other : ℕ) → is_rival group (account_at line.accounts other) ≡ true → account.served ≤ (account_at line.accounts other).served
  pub since : account.since < line.turn
  pub turns : line.turn ≤ 18446744073709551615
  pub served : account.served < 18446744073709551615

-- whether an account is that of somebody (its place isn't free), in the group
abbrev pub is_member : ℕ → ShareAccount → Bool
is_member group account = (if account.name == 0 then false else true) && (account.group == group)

-- how many accounts come to this group by these events
abbrev pub arrivals_in : ℕ → List LineEvent → ℕ
arrivals_in group [] = 0
arrivals_in group (Comes place account ∷ events) = (if is_member group account then 1 else 0) + arrivals_in group events
arrivals_in group (Wakes place ∷ events) = arrivals_in group events
arrivals_in group (Rests place ∷ events) = arrivals_in group events
arrivals_in group (Serves place amount ∷ events) = arrivals_in group events
arrivals_in group (Picks place amount ∷ events) = arrivals_in group events
arrivals_in group (Longs place amount ∷ events) = arrivals_in group events

-- the account at the place is active in the group, and was served at most so much more than any account active there;
-- no active account is a free place's
pub record IsLed (group place lead : ℕ) (line : LineOf) (account : ShareAccount) : Type 0 where
  pub here : account_at line.accounts place ≡ account
  pub active : is_rival group account ≡ true
  pub led : (other : ℕ) → is_rival group (account_at line.accounts other) ≡ true → account.served ≤ (account_at line.accounts other).served + lead
  pub named : (other : ℕ) → is_active (account_at line.accounts other) ≡ true → (account_at line.accounts other).name ≢ 0
  pub served : account.served < 18446744073709551615

-- whether the second account is active, and waits since the same turn as the first or an earlier one
abbrev pub is_older : ShareAccount → ShareAccount → Bool
is_older first second = is_active second && not (nat_lt first.since second.since)

-- the account at the place is active, and waits since a turn before this one
pub record IsWaiting (place : ℕ) (line : LineOf) (account : ShareAccount) : Type 0 where
  pub here : account_at line.accounts place ≡ account
  pub active : is_active account ≡ true
  pub since : account.since < line.turn
  pub turns : line.turn ≤ 18446744073709551615
