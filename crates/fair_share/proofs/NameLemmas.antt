-- The names of the accounts of those who share a pool, by which somebody is found there.
use Rattle.fair_share.proofs.Common.{◌≡◌, ℕ, ◌+◌, ◌==◌, refl, List, [], ◌∷◌, Some, if◌then◌else◌, ap, sym, ◌∙◌, slice_index_or, slice_set, map-set, map-set_same, get_or-map, ShareAccount, free_account, account_at, account_names, named_from, place_named, place_among_from, place_among}

-- who stands first among the names stands first among the accounts
named-alike : (first name : ℕ) (accounts : List ShareAccount) → place_among_from first name (account_names accounts) ≡ named_from first name accounts
named-alike first name [] = refl
named-alike first name (account ∷ accounts) = ap (λ later. if account.name == name then Some first else later) (named-alike (first + 1) name accounts)

pub place_alike : (name : ℕ) (accounts : List ShareAccount) → place_among name (account_names accounts) ≡ place_named name accounts
place_alike name accounts = named-alike 0 name accounts

-- the name at a place is its account's
pub name_alike : (accounts : List ShareAccount) (place : ℕ) → slice_index_or (account_names accounts) place 0 ≡ (account_at accounts place).name
name_alike accounts place = get_or-map (λ (a : ShareAccount). a.name) accounts place free_account

-- a name is written where an account comes, or is there already
pub names-put : (accounts : List ShareAccount) (names : List ℕ) (place : ℕ) (account : ShareAccount) → names ≡ account_names accounts → slice_set names place account.name ≡ account_names (slice_set accounts place account)
names-put accounts names place account alike = ap (λ (n : List ℕ). slice_set n place account.name) alike ∙ sym (map-set (λ (a : ShareAccount). a.name) accounts place account)

pub names-stay : (accounts : List ShareAccount) (names : List ℕ) (place : ℕ) (account : ShareAccount) → names ≡ account_names accounts → account.name ≡ slice_index_or names place account.name → names ≡ account_names (slice_set accounts place account)
names-stay accounts names place account alike is = alike ∙ sym (map-set_same (λ (a : ShareAccount). a.name) accounts place account account (is ∙ ap (λ (n : List ℕ). slice_index_or n place account.name) alike ∙ get_or-map (λ (a : ShareAccount). a.name) accounts place account))
