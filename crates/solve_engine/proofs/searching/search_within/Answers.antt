-- A search of `solve` in a core of its own (`searching::search_within`): what the core's job or the serial search
-- gives is the minimax value and the best choice.
use Rattle.solve_engine.proofs.Common.{ℕ, ap, arith, subst, Jamboree, IsNewCore}
use Rattle.solve_engine.proofs.searching.search_within.Goals as goal

pub answer_in-requires : goal.answer_in-requires
answer_in-requires g c =
    let P : ℕ → Type 0 = λ grain. IsNewCore grain c.args.reserve c.admit.new.core in
    let begun = subst P (ap (λ (p : Jamboree). p.grain) c.in_ok-core.ensures.procedure) c.in_ok-admit.ensures in
    let works = c.work-core.ensures _ (c.ask.ensures c.args.grain c.args.reserve c.segments.ensures.limits begun) in
    record { shallow = omega arith; there = (c.args.reserve, works.reserved); asked = works.asked }

pub returns-clause-found : goal.returns-clause-found
returns-clause-found g c =
    let P : ℕ → Type 0 = λ grain. IsNewCore grain c.args.reserve c.admit.new.core in
    let begun = subst P (ap (λ (p : Jamboree). p.grain) c.in_ok-core.ensures.procedure) c.in_ok-admit.ensures in
    let works = c.work-core.ensures _ (c.ask.ensures c.args.grain c.args.reserve c.segments.ensures.limits begun) in
    record { shared = c.work-core.result.shared; run = works.run; reserved = works.reserved; asked = works.asked; found_in = c.answer_in.ensures.found }
