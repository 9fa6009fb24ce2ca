-- A use of the law on sound frames (`third_frame_of_nine`): what holds of tenant 9's third frame, its fifth choice and
-- its second child.
use Rattle.promise_uses.proofs.Common.{List, ℕ, inr, subst, Low}
use Rattle.frame_table.specs.Frames.{Frame}
use Rattle.jamboree_rules.specs.Frames.{Frame as SearchFrame}
use Rattle.jamboree_rules.specs.Places.{frame_of}
use Rattle.jamboree_rules.specs.Sound.{HaveGoals}
use Rattle.jamboree_core.specs.Replies.{AreAllSound}
use Rattle.promise_uses.proofs.soundness.third_frame_of_nine.Goals as goal

pub returns : goal.returns
returns c grain totals steps answers tenant first second third later one two more answered searches there frames children =
    let all = subst (λ (fs : List (Frame (List ℕ))). AreAllSound tenant.frames fs) frames (c.every_frame_is_sound.ensures grain totals steps answers 9 tenant answered searches there) in
    let sound = all.1.1.0 in
    let goals = subst (λ (cs : List SearchFrame). HaveGoals (frame_of third.value) cs) children sound.children in (
      λ tests settled. sound.settled (inr tests) 4 settled,
      λ tests above. (let first = sound.chosen (inr tests) above in (first.place, first.stored, first.worth)),
      λ done. sound.bound done,
      λ done above below. sound.named done above below,
      λ low. sound.entries 4 Low low,
      goals.1.0.window,
    )
