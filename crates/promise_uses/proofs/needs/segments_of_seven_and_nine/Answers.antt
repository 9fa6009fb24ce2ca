-- A use of the law on reserved segments (`segments_of_seven_and_nine`): the sizes of the roots stay within them.
use Rattle.promise_uses.proofs.Common.{Some, arith, Submit, root_words, frame_size}
use Rattle.sched_rules.specs.declared.step.StepOf.TheVariants.{Take}
use Rattle.promise_uses.proofs.needs.segments_of_seven_and_nine.Goals as goal

pub returns-clause-begins : goal.returns-clause-begins
returns-clause-begins c size tenant own opp shape idle room =
    let both = c.segments_reserved_suffice.ensures.begins size tenant 9 own opp 8 shape idle room in
    let too = both.1 in omega (arith, too)

pub returns-clause-take : goal.returns-clause-take
returns-clause-take c size origins tenant after did shape searches has is =
    let left = c.segments_reserved_suffice.ensures.step 6 size origins tenant (Take 5 (record { tenant = 7; serial = 3 })) (Some after, did) shape searches (omega (arith, has)) tt is in omega (arith, left)

pub returns-clause-submit : goal.returns-clause-submit
returns-clause-submit c size origins tenant after own opp did shape searches has is =
    let left = c.segments_reserved_suffice.ensures.step 6 size origins tenant (Submit 7 (root_words own opp 8) frame_size) (Some after, did) shape searches (omega (arith, has)) (omega (arith, has)) is in
    omega (arith, left)
