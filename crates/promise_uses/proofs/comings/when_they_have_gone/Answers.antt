-- A use of the site's law on another plan (`when_they_have_gone`): with those gone who were told to end, each customer
-- and all guests have what the new plan allows.
use Rattle.std.proofs.Common.{[]}
use Rattle.site_book.specs.Comings.{told_by}
use Rattle.site_book.specs.Rolls.{remaining}
use Rattle.site_book.specs.declared.held.Group.TheVariants.{Own, Guests}
use Rattle.site_book.specs.declared.present.Leaver.TheVariants.{Told as those_told}
use Rattle.site_book.specs.declared.who.Who.TheVariants.{Named}
use Rattle.promise_uses.proofs.comings.when_they_have_gone.Goals as goal

pub returns : goal.returns
returns c =
    let law = c.a_plan_comes_in_once_they_have_gone.ensures in
    let within = c.a_plan_comes_in.ensures in
    record {
      comes = λ was plan grants roll. law (record { plan = was; grants = grants }) plan roll;
      named = λ number was plan grants roll each same fit.
          (((within (record { plan = was; grants = remaining those_told grants (told_by plan [] grants roll) }) plan).0 (law (record { plan = was; grants = grants }) plan roll each same fit)).2 (Own (Named number))).sessions;
      guests = λ was plan grants roll each same fit.
          (((within (record { plan = was; grants = remaining those_told grants (told_by plan [] grants roll) }) plan).0 (law (record { plan = was; grants = grants }) plan roll each same fit)).2 Guests).nodes;
    }
