-- A use of the site's law on who goes for another (`who_goes_for_another`): where nobody is an idle guest nobody is to
-- end.
use Rattle.std.proofs.Common.{arith, subst, None, ◌≡◌, ◌≢◌, ◌-◌, ◌≤◌, false, true}
use Rattle.std.proofs.lemmas.Bool.{false≢true}
use Rattle.std.proofs.lemmas.List.Elements.{All-contains}
use Rattle.site_book.specs.Names.{is_guest}
use Rattle.promise_uses.proofs.comings.who_goes_for_another.Goals as goal

pub returns : goal.returns
returns c =
    let law = c.only_idle_guests_go_for_another.ensures in
    record {
      named = λ plan grants roll who ask now most session refusal ends all.
          let (present, there, same, guest, untold, still, idle) = law plan grants roll who ask now most session refusal ends in
          false≢true (subst (λ b. b ≡ true) (All-contains (λ present. is_guest present.who ≡ false) roll present all there) guest);
      waiting = λ plan grants roll who ask now most session refusal ends all.
          let (present, there, same, guest, untold, still, idle) = law plan grants roll who ask now most session refusal ends in
          false≢true (subst (λ b. b ≡ true) still (All-contains (λ present. present.waits ≡ true) roll present all there));
      told = λ plan grants roll who ask now most session refusal ends all.
          let (present, there, same, guest, untold, still, idle) = law plan grants roll who ask now most session refusal ends in
          All-contains (λ present. present.told ≢ None) roll present all there untold;
      busy = λ plan grants roll who ask now most session refusal ends all.
          let (present, there, same, guest, untold, still, idle) = law plan grants roll who ask now most session refusal ends in
          let late : now - present.last ≤ most = All-contains (λ present. now - present.last ≤ most) roll present all there in grind (arith, late, idle);
      another = λ plan grants roll who ask now most session refusal ends all.
          let (present, there, same, guest, untold, still, idle) = law plan grants roll who ask now most session refusal ends in
          All-contains (λ present. present.session ≢ session) roll present all there same;
    }
