-- A use of the law on a site's accepted file (`what_is_accepted`): its guests and its second customer may say lines,
-- and no token and no network stands twice.
use Rattle.std.specs.Prelude.{ℕ, Bool, true, false, ◌≡◌, ◌∷◌, nat_le, Option, Some, None, if◌then◌else◌}
use Rattle.std.proofs.Common.{refl}
use Rattle.std.proofs.lemmas.Bool.{and_parts, leb-true}
use Rattle.site_file.specs.Checks.{or_other}
use Rattle.promise_uses.proofs.directories.what_is_accepted.Goals as goal

-- where there is neither of two, the first isn't there, nor is the second
first-none : (one two : Option ℕ) → or_other one two ≡ None → one ≡ None
first-none None two e = refl
first-none (Some n) two e = e

second-none : (one two : Option ℕ) → or_other one two ≡ None → two ≡ None
second-none None two e = e
second-none (Some n) two e = search (e)

-- where nobody is the first without a key, the second has one
second-key : (one two : Bool) (others : Option ℕ) → (if one then if two then others else Some 1 else Some 0) ≡ None → two ≡ true
second-key true true others e = refl
second-key true false others e = search (e)
second-key false two others e = search (e)

pub returns : goal.returns
returns c =
    let law = c.accepted_directories_are_fit.ensures in
    record {
      guest = λ customers guest keys none. leb-true 1 guest.rate.burst ((and_parts (nat_le 1 guest.rate.period) (nat_le 1 guest.rate.burst) (law.guests customers guest keys none)).1);
      second = λ one two others guest keys none. (and_parts _ _ ((and_parts _ _ (law.named (one ∷ two ∷ others) guest keys none)).1)).0;
      keyed = λ one two others guest keys none. second-key _ _ _ (law.keyed (one ∷ two ∷ others) guest keys none);
      tokens = λ customers guest keys none. first-none _ _ (law.unshared customers guest keys none);
      networks = λ customers guest keys none. second-none _ _ (second-none _ _ (law.unshared customers guest keys none));
    }
