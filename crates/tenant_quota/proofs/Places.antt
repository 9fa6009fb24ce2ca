-- Where a tenant's account stands in the book of reservations, a list that rises.
use Rattle.tenant_quota.proofs.Common.{◌≡◌, ℕ, true, false, cond, eqb, List, [], ◌∷◌, Option, Some, None, refl, ap, sym, ◌∙◌, option_map, find_by_number}
use Rattle.tenant_quota.proofs.Common.{thing-own, Account, owner_of_account, account_of}

-- the account of the entry that the index finds
module _ (t : ℕ) where
  account_of-entry : (es : List (ℕ × Account)) → account_of t es ≡ option_map (λ e. e.1) (find_by_number owner_of_account t es)
  account_of-entry [] = refl
  account_of-entry (e ∷ es) =
      elim (eqb e.0 t) as (λ b. cond b (Some e.1) (account_of t es) ≡ option_map (λ e. e.1) (cond b (Some e) (find_by_number owner_of_account t es))) [ true ↦ refl | false ↦ account_of-entry es ]

  pub entry-found : (es : List (ℕ × Account)) (found : Option (ℕ × Account)) → found ≡ find_by_number owner_of_account t es → option_map (λ e. e.1) found ≡ account_of t es
  entry-found es found is = ap (option_map (λ e. e.1)) is ∙ sym (account_of-entry es)

-- an account's entry is its tenant with it
pub entry-of : (t : ℕ) (a : Account) (es : List (ℕ × Account)) → account_of t es ≡ Some a → find_by_number owner_of_account t es ≡ Some (t, a)
entry-of t a es is = by (find_by_number owner_of_account t es) refl (sym (account_of-entry t es) ∙ is)
  where
    pair : (e : ℕ × Account) → e.0 ≡ t → e.1 ≡ a → e ≡ (t, a)
    pair e p q = λ i. (p i, q i)

    by : (found : Option (ℕ × Account)) → find_by_number owner_of_account t es ≡ found → option_map (λ e. e.1) found ≡ Some a → find_by_number owner_of_account t es ≡ Some (t, a)
    by None found none = absurd cc
    by (Some e) found here = (let same : e.1 ≡ a = cc in found ∙ ap (λ (x : ℕ × Account). Some x) (pair e (thing-own owner_of_account t es e found) same))
