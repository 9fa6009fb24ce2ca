-- The names that the proofs of the book of reservations use, imported in one place.
pub use Rattle.std.proofs.Common.{List, None, Option, Some, [], ap, arith, cond, eqb, false, inl, inr, refl, subst, sym, true, ℕ, ◌+◌, ◌-◌, ◌<◌, ◌∙◌, ◌∷◌}
pub use Rattle.std.proofs.Common.{◌≡◌, ◌≢◌, ◌≤◌, ◌⊎◌}
pub use Rattle.std.specs.Prelude.{option_copied, option_map, sum_by}
pub use Rattle.numbered_list.proofs.Edits.{put-same, thing-own}
pub use Rattle.numbered_list.specs.Places.{change_by_number, find_by_number, has_by_number}
pub use Rattle.tenant_quota.specs.Accounts.{AllEntries, IsWithinReserve, account_of, charged_by, charged_segments, credited_by, fresh, left_in}
pub use Rattle.tenant_quota.specs.Accounts.{owner_of_account, raised_to, reserved_nodes, reserved_segments, ticked, with_new}
pub use Rattle.tenant_quota.specs.Keeping.{held_by}
pub use Rattle.tenant_quota.specs.Reserves.{IsAbove, IsNotAbove, IsWithinLimits, ReserveOf}
pub use Rattle.tenant_quota.specs.Reservations.{Admits, CanRaise, ChangesOnly, HasRoom, HasRoomFor, IsBeyond, IsLower, IsSoundBook, IsTooMuch}
pub use Rattle.tenant_quota.specs.Reservations.{KeepsOtherAccounts, Raises, Releases, Reservations, admitted, changed, released, reserve_of, unreserved_of}
pub use Rattle.tenant_quota.specs.declared.account.Account.{Account}
pub use Rattle.tenant_quota.specs.declared.account.Left.{Left}
pub use Rattle.tenant_quota.specs.declared.book.Rest.{Rest}
