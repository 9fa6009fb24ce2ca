-- Meaning: a line of accounts of those who share a pool, and who comes next in a group of them.
use Rattle.std.specs.Prelude.{ℕ, ◌+◌, ◌≡◌, ◌==◌, ◌<◌, ◌≤◌, nat_lt, Bool, true, false, ◌&&◌, ◌||◌, List, [], ◌∷◌, Option, Some, None, unwrap_or, if◌then◌else◌, map, replicate, slice_index_or, slice_set}
use Rattle.fair_share.specs.declared.account.ShareAccount.{ShareAccount}
use Rattle.fair_share.specs.Accounts.{free_account, is_active, is_rival, is_before, capped_sum, account_charged, woken_from, rested}

-- the accounts by their places, and the turn at which the next one becomes active or is served
pub record LineOf : Type 0 where
  pub accounts : List ShareAccount
  pub turn : ℕ

-- a line of 64 free places, at turn 1
abbrev pub empty_line : LineOf
empty_line = record { accounts = replicate 64 free_account; turn = 1 }

-- the account at a place of a line; that of a free place beyond the line
abbrev pub account_at : List ShareAccount → ℕ → ShareAccount
account_at accounts place = slice_index_or accounts place free_account

-- whether some account of the group is active
abbrev pub has_rival : ℕ → List ShareAccount → Bool
has_rival group [] = false
has_rival group (account ∷ accounts) = is_rival group account || has_rival group accounts

-- the account at this place comes next in the group: it is active there, and no active account of the group comes
-- before it
pub record IsNextAccount (group : ℕ) (accounts : List ShareAccount) (place : ℕ) : Type 0 where
  pub is_one : is_rival group (account_at accounts place) ≡ true
  pub none_before : (other : ℕ) → is_rival group (account_at accounts other) ≡ true → is_before (account_at accounts other) (account_at accounts place) ≡ false

-- the best of the accounts before a place: none of them is active in the group, or this one comes next among them
abbrev pub IsBestBelow : ℕ → List ShareAccount → ℕ → Option (ℕ × ShareAccount) → Type 0
IsBestBelow group accounts limit None = (other : ℕ) → other < limit → is_rival group (account_at accounts other) ≡ false
IsBestBelow group accounts limit (Some best) =
    (best.1 ≡ account_at accounts best.0) × (is_rival group best.1 ≡ true)
    × ((other : ℕ) → other < limit → is_rival group (account_at accounts other) ≡ true → is_before (account_at accounts other) best.1 ≡ false)

-- the account at this place has waited longest: it is active, and no active account, of whatever group, has waited
-- since an earlier turn
pub record IsLongest (accounts : List ShareAccount) (place : ℕ) : Type 0 where
  pub is_one : is_active (account_at accounts place) ≡ true
  pub none_longer : (other : ℕ) → is_active (account_at accounts other) ≡ true → (account_at accounts place).since ≤ (account_at accounts other).since

-- of the accounts before a place: none is active, or this one has waited longest among them
abbrev pub IsLongestBelow : ℕ → List ShareAccount → Option (ℕ × ShareAccount) → Type 0
IsLongestBelow limit accounts None = (other : ℕ) → other < limit → is_active (account_at accounts other) ≡ false
IsLongestBelow limit accounts (Some best) =
    (best.1 ≡ account_at accounts best.0) × (is_active best.1 ≡ true)
    × ((other : ℕ) → other < limit → is_active (account_at accounts other) ≡ true → best.1.since ≤ (account_at accounts other).since)

-- the lesser of a count and another count; the first where there is no other
abbrev pub lesser : ℕ → Option ℕ → ℕ
lesser count None = count
lesser count (Some other) = if nat_lt count other then count else other

-- the least of this count, if there is one, and of what the active accounts of the group were served
abbrev pub least_from : Option ℕ → ℕ → List ShareAccount → Option ℕ
least_from least group [] = least
least_from least group (account ∷ accounts) = least_from (if is_rival group account then Some (lesser account.served least) else least) group accounts

-- the least that an active account of the group was served; None where none is active
abbrev pub least_served : ℕ → List ShareAccount → Option ℕ
least_served group accounts = least_from None group accounts

-- what an account counts as served at least when it becomes active in the group: as much as the least served one active
-- there, or 0 where none is
abbrev pub floor_of : ℕ → List ShareAccount → ℕ
floor_of group accounts = unwrap_or (least_served group accounts) 0

-- the line after the account at a place became active: it starts at the greater of its own count and the floor; one that is active
-- already stays as it is
abbrev pub woken : ℕ → LineOf → LineOf
woken place line =
    let account = account_at line.accounts place in
    if is_active account then line else
    record { accounts = slice_set line.accounts place (woken_from (floor_of account.group line.accounts) line.turn account); turn = capped_sum line.turn 1 }

-- the line after the account at a place has nothing more to be served with
abbrev pub rested_at : ℕ → LineOf → LineOf
rested_at place line = record line { accounts = slice_set line.accounts place (rested (account_at line.accounts place)) }

-- the line after the account at a place was served so much more
abbrev pub charged : ℕ → ℕ → LineOf → LineOf
charged place amount line = record {
  accounts = slice_set line.accounts place (account_charged amount line.turn (account_at line.accounts place));
  turn = capped_sum line.turn 1;
}

-- the line with another account at a place
abbrev pub put_at : ℕ → ShareAccount → LineOf → LineOf
put_at place account line = record line { accounts = slice_set line.accounts place account }

-- the first place, counted from this on, whose account has this name in this group; None where there is none
abbrev pub place_from : ℕ → ℕ → ℕ → List ShareAccount → Option ℕ
place_from first group name [] = None
place_from first group name (account ∷ accounts) =
    if (account.name == name) && (account.group == group) then Some first else place_from (first + 1) group name accounts

-- the first place of a line whose account has this name and is in this group
abbrev pub account_place : ℕ → ℕ → List ShareAccount → Option ℕ
account_place group name accounts = place_from 0 group name accounts

-- whether somebody is in the group: of the places that aren't free one is of it
abbrev pub has_member : ℕ → List ShareAccount → Bool
has_member group [] = false
has_member group (account ∷ accounts) = ((if account.name == 0 then false else true) && (account.group == group)) || has_member group accounts

-- the first place, counted from this on, whose account has this name; None where there is none
abbrev pub named_from : ℕ → ℕ → List ShareAccount → Option ℕ
named_from first name [] = None
named_from first name (account ∷ accounts) = if account.name == name then Some first else named_from (first + 1) name accounts

-- the first place of a line whose account has this name
abbrev pub place_named : ℕ → List ShareAccount → Option ℕ
place_named name accounts = named_from 0 name accounts

-- the names of the accounts, by their places
abbrev pub account_names : List ShareAccount → List ℕ
account_names accounts = map (λ account. account.name) accounts

-- the first place, counted from this on, at which this name stands; None where there is none
abbrev pub place_among_from : ℕ → ℕ → List ℕ → Option ℕ
place_among_from first name [] = None
place_among_from first name (other ∷ names) = if other == name then Some first else place_among_from (first + 1) name names

-- the first place at which this name stands
abbrev pub place_among : ℕ → List ℕ → Option ℕ
place_among name names = place_among_from 0 name names

-- the first of two places, if it is there; else the second
abbrev pub first_place : Option ℕ → Option ℕ → Option ℕ
first_place None second = second
first_place (Some first) second = Some first

-- the place in a line of the account with this name and group, or else the place where it would begin: the first free
-- one; None where none is free
abbrev pub joined_place : ℕ → ℕ → LineOf → Option ℕ
joined_place group name line = first_place (account_place group name line.accounts) (account_place 0 0 line.accounts)

-- the line with an account at a place, where there is one
abbrev pub put_where : Option ℕ → ShareAccount → LineOf → LineOf
put_where None account line = line
put_where (Some place) account line = put_at place account line

-- the line after an account came: nothing changes where it has this place in the line already; else it begins at the
-- first free place, if there is one
abbrev pub joined_by : Option ℕ → ShareAccount → LineOf → LineOf
joined_by (Some place) account line = line
joined_by None account line = put_where (account_place 0 0 line.accounts) account line

-- the line after the account of this name came to this group: it begins with so much served before; nothing changes
-- where it is there already, or where no place is free
abbrev pub joined : ℕ → ℕ → ℕ → LineOf → LineOf
joined group name served line = joined_by (account_place group name line.accounts) (record { name = name; group = group; served = served; since = 0 }) line
