-- A test's sums of all deques (`deques::sums`): all ends came back, so they can be summed up.
use Rattle.std.proofs.Common.{◌≡◌, [], ◌++◌, List, map, sym, subst, ◌∙◌, append-nil, arith}
use Rattle.std.proofs.lemmas.List.{nil_from_length}
use Rattle.std.specs.Vec.Iter.{into_iter_items}
use Rattle.steal_pool.specs.task_deques.Deals.{PostsIn, posts, posts_of, returned, IsWhole}
use Rattle.thread_tests.proofs.tests.deques.sums.Goals as goal

pub sums-requires : goal.sums-requires
sums-requires g c =
    let at = c.loop-ends in
    let back : List (PostsIn g.row.A.Denot) = map posts_of (returned at.back) in
    let total : List (PostsIn g.row.A.Denot) = map posts c.args.all.items in
    let none : into_iter_items at.ends-iterator ≡ [] = nil_from_length (into_iter_items at.ends-iterator) (omega (arith, c.in-None.ensures.steps.0, at.ends-iterator.rest.ok.0)) in
    let all : back ++ [] ≡ total = subst (λ l. back ++ map posts l ≡ total) none at.invariant.0 in
    subst IsWhole (sym all ∙ append-nil back) c.requires.whole
