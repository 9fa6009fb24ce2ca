-- The book of tenants' reservations: what an entered account leaves, and what the account of a tenant has.
use Rattle.tenant_quota.proofs.Common.{◌≡◌, ℕ, ◌+◌, ◌-◌, ◌≤◌, List, Some, sum_by, Account, owner_of_account, account_of, AllEntries}
use Rattle.numbered_list.proofs.Edits as edits
use Rattle.tenant_quota.proofs.Places.{entry-of}

abbrev Entries : Type 0
Entries = List (ℕ × Account)

module _ (P : ℕ × Account → Type 0) where
  pub AllEntries-map : (Q : ℕ × Account → Type 0) → ((e : ℕ × Account) → P e → Q e) → (es : Entries) → AllEntries P es → AllEntries Q es
  AllEntries-map Q more es all = edits.all-map P Q more es all

  -- what all entries have, the tenant's has
  pub AllEntries-of : (t : ℕ) (a : Account) (es : Entries) → account_of t es ≡ Some a → AllEntries P es → P (t, a)
  AllEntries-of t a es is all = edits.all-of P owner_of_account t (t, a) es (entry-of t a es is) all

-- what one entry has of h beyond g lies within what all together have
pub sum_by-le-with : (g h : ℕ × Account → ℕ) (t : ℕ) (a : Account) (es : Entries) → account_of t es ≡ Some a → AllEntries (λ e. g e ≤ h e) es → sum_by g es + (h (t, a) - g (t, a)) ≤ sum_by h es
sum_by-le-with g h t a es is all = edits.sum_by-le-with g h owner_of_account t (t, a) es (entry-of t a es is) all
