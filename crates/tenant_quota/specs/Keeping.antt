-- Representation: what the fields of the book of reservations stand for, and what they keep.
use Rattle.std.specs.Prelude.{◌≡◌}
use Rattle.tenant_quota.specs.Accounts.{reserved_segments, reserved_nodes}
use Rattle.tenant_quota.specs.Reservations.{Reservations, IsSoundBook}
use Rattle.tenant_quota.specs.declared.book.Book.TheInside.{Inside}

-- what contracts see of the fields of a book: the totals and the accounts, but not the kept sums
abbrev pub held_by : {A : Type 0} → Inside A → Reservations
held_by {A} b = record { segments = b.segments; nodes = b.nodes; accounts = b.accounts }

-- the invariant of the fields of a book: the book is sound, and the kept sums are those of the accounts
pub record IsKeptBook {A : Type 0} (b : Inside A) : Type 0 where
  pub sound : IsSoundBook (held_by b)
  pub segments : b.reserved_segments ≡ reserved_segments b.accounts
  pub nodes : b.reserved_nodes ≡ reserved_nodes b.accounts
