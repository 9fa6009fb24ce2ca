-- The book of reservations tells what a tenant has left (`Book::left`): its account is within its reserve, and what it
-- has left is charged to nobody.
use Rattle.tenant_quota.proofs.Common.{◌≡◌, ℕ, ◌+◌, ◌≤◌, Some, ap, sym, ◌∙◌, arith, option_copied, Account, Left, account_of, left_in, IsWithinReserve}
use Rattle.tenant_quota.proofs.Common.{charged_segments, Reservations, IsSoundBook}
use Rattle.tenant_quota.proofs.Edits.{AllEntries-of, AllEntries-map, sum_by-le-with}
use Rattle.tenant_quota.proofs.book.Book.left.Goals as goal

left-is-there : (b : Reservations) (t : ℕ) (a : Account) (l : Left) → IsSoundBook b → account_of t b.accounts ≡ Some a → l ≡ left_in a → charged_segments b.accounts + l.segments ≤ b.segments
left-is-there b t a l sound account left =
    let each = AllEntries-map (λ e. IsWithinReserve e.1) (λ e. e.1.charged ≤ e.1.reserve.segments) (λ e within. within.charged_within) b.accounts sound.within in
    let all = sum_by-le-with (λ e. e.1.charged) (λ e. e.1.reserve.segments) t a b.accounts account each in
    omega (arith, sound.segments_reserved, ap (λ (x : Left). x.segments) left)

pub left-requires : goal.left-requires
left-requires g c = AllEntries-of (λ e. IsWithinReserve e.1) c.args.tenant _ _ (sym c.account.ensures.account ∙ ap option_copied c.in_ok-account.was) c.account.ensures.sound.within

pub returns-clause-there : goal.returns-clause-there
returns-clause-there g c = left-is-there c.args.self.now c.args.tenant _ _ c.account.ensures.sound (sym c.account.ensures.account ∙ ap option_copied c.in_ok-account.was) c.left.ensures
