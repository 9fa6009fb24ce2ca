-- A use of the law on reserved nodes (`nodes_of_seven_and_nine`): what was opened, and may still be, stays within them.
use Rattle.promise_uses.proofs.Common.{Some, arith, Submit, root_words, frame_size}
use Rattle.sched_rules.specs.declared.step.StepOf.TheVariants.{Take}
use Rattle.promise_uses.proofs.needs.nodes_of_seven_and_nine.Goals as goal

pub returns-clause-begins : goal.returns-clause-begins
returns-clause-begins c cost tenant own opp shape idle room =
    let both = c.nodes_reserved_suffice.ensures.begins cost tenant 9 own opp 8 shape idle room in
    let too = rw idle at both.1 in omega (arith, too)

pub returns-clause-take : goal.returns-clause-take
returns-clause-take c cost origins tenant after did enough shape searches has is =
    let left = c.nodes_reserved_suffice.ensures.step 6 cost origins tenant (Take 5 (record { tenant = 7; serial = 3 })) (Some after, did) enough shape searches (omega (arith, has)) tt is in omega (arith, left)

pub returns-clause-submit : goal.returns-clause-submit
returns-clause-submit c cost origins tenant after own opp did enough shape searches has is =
    let left = c.nodes_reserved_suffice.ensures.step 6 cost origins tenant (Submit 7 (root_words own opp 8) frame_size) (Some after, did) enough shape searches (omega (arith, has)) (omega (arith, has)) is in
    omega (arith, left)

pub returns-clause-advance : goal.returns-clause-advance
returns-clause-advance c cost origins tenant enough shape searches has =
    c.nodes_reserved_suffice.ensures.suffices 6 cost origins tenant 5 (record { tenant = 7; serial = 3 }) enough shape searches (omega (arith, has))
