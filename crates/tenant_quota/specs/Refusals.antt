-- Meaning: the numbers of the refusals of the book of reservations; a client is told those of `sched_rules`.
use Rattle.std.specs.Prelude.{ℕ}
use Rattle.tenant_quota.specs.declared.refusal.QuotaRefusal.{QuotaRefusal}
use Rattle.tenant_quota.specs.declared.refusal.QuotaRefusal.TheVariants.{Full, Short, Lower}

-- 1 where the book has no room, 2 where the tenant hasn't as much left, 3 where a further reservation isn't above its own
abbrev pub quota_refusal_number : QuotaRefusal → ℕ
quota_refusal_number Full = 1
quota_refusal_number Short = 2
quota_refusal_number Lower = 3
