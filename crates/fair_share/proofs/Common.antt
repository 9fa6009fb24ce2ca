-- The names that the proofs of fair sharing use, imported in one place.
pub use Rattle.std.proofs.Common.{Bool, IfSome, List, None, Option, Some, [], add-one, ap, arith, cond, drop, false, if◌then◌else◌, length, length-set, map}
pub use Rattle.std.proofs.Common.{refl, replicate, rules, set, subst, suc, sym, true, unwrap_or, vec_len, zero, ℕ, ◌*◌, ◌++◌, ◌+◌, ◌-◌, ◌<◌, ◌==◌, ◌||◌, ◌∙◌}
pub use Rattle.std.proofs.Common.{◌∷◌, ◌≡◌, ◌≢◌, ◌≤◌}
pub use Rattle.std.proofs.Math.ListN.{get_or-map}
pub use Rattle.std.proofs.Math.Nat.{mul-le-mul_left}
pub use Rattle.std.proofs.Math.Seq.{map-set_same}
pub use Rattle.std.proofs.lemmas.Bool.{eqb-false, eqb-true}
pub use Rattle.std.proofs.lemmas.List.{get_or-set_other, get_or-set_same, map-set}
pub use Rattle.std.proofs.lemmas.List.Sums.{sum_by-cons}
pub use Rattle.std.specs.Prelude.{count_by, is_some, nat_eq, nat_lt, slice_index_or, slice_set, sum_by, vec_capacity}
pub use Rattle.std.specs.Vec.Iter.{into_iter_items, into_iter_len}
pub use Rattle.sched_rules.specs.Cores.{CoreState}
pub use Rattle.sched_rules.specs.Views.{newest_ready_in}
pub use Rattle.fair_share.specs.Accounts.{account_charged, capped_sum, free_account, is_active, is_before, is_rival, rested, woken_from}
pub use Rattle.fair_share.specs.Lines.{IsBestBelow, IsLongest, IsLongestBelow, IsNextAccount, LineOf, account_at, account_names, charged, floor_of, has_member, has_rival, least_from}
pub use Rattle.fair_share.specs.Lines.{lesser, named_from, place_among, place_among_from, place_from, place_named, rested_at, woken}
unfoldable pub use Rattle.fair_share.specs.Picks.{seen_up_to}
pub use Rattle.fair_share.specs.Shares.{SharesOf, customer_at, network_at, rested_unless, tenant_in_place, tenant_seen}
pub use Rattle.fair_share.specs.Waits.{Comes, IsEach, IsFair, IsLeast, IsEachLong, IsLed, IsWaiting, LineEvent, Longs, Picks, Rests, Serves, Waits, Wakes, arrivals_in, is_ahead, is_member, is_older}
pub use Rattle.fair_share.specs.Waits.{line_after, long_picks_in, picks_in, place_in, tasks_in}
pub use Rattle.fair_share.specs.declared.account.ShareAccount.{ShareAccount}
