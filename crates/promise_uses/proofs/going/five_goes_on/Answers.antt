-- Worker 5 goes on with tenant 7's frame 12, by what is said of any frame in its state.
use Rattle.promise_uses.proofs.going.five_goes_on.Goals as goal

pub returns-clause-runs : goal.returns-clause-runs
returns-clause-runs g c procedure shared frame shaped at is =
    let all = c.a_frame_that_does_not_wait_can_go_on.ensures.among procedure shared (record { tenant = 7; serial = 12 }) frame shaped at in rw is at all

pub returns-clause-computes : goal.returns-clause-computes
returns-clause-computes g c procedure shared frame shaped at is answer =
    let all = c.a_frame_that_does_not_wait_can_go_on.ensures.among procedure shared (record { tenant = 7; serial = 12 }) frame shaped at in (rw is at all) answer

pub returns-clause-ready : goal.returns-clause-ready
returns-clause-ready g c procedure shared frame shaped at is free =
    let all = c.a_frame_that_does_not_wait_can_go_on.ensures.among procedure shared (record { tenant = 7; serial = 12 }) frame shaped at in (rw is at all) 5 free

pub returns-clause-returned : goal.returns-clause-returned
returns-clause-returned g c procedure tenant frame shape at is free =
    let all = c.a_frame_that_does_not_wait_can_go_on.ensures.alone procedure tenant (record { tenant = 7; serial = 12 }) frame shape at in (rw is at all) 5 free
