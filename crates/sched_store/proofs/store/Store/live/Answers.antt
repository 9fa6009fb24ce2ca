-- The core's store counts a tenant's frames and words (`Store::live`): the sums fit in 64 bits, and are those of all
-- its frames.
use Rattle.sched_store.proofs.Lookups.{◌≡◌, ◌≤◌, ℕ, length, sum_by, is_some, true, sym, ◌∙◌, ap, subst, arith, sum_by-cons, FrameId, names_of, frames_of, CoreState, tenant_in, live_of, words_under}
use Rattle.sched_store.proofs.Steps.{words-few, live-found}
use Rattle.sched_store.proofs.store.Store.live.Goals as goal

pub loop-name-init : goal.loop-name-init
loop-name-init g c = omega arith

pub overflow_add-words : goal.overflow_add-words
overflow_add-words g c =
    let f : FrameId → ℕ = λ name. length (words_under c.args.self.now name) in
    let few = words-few c.self.invariant c.args.tenant in
    let same : sum_by f (names_of c.args.tenant (frames_of c.self.inside.table c.args.tenant)) ≤ 65536 = grind arith in
    let initial = ap (sum_by f) (c.into_iter-name-iterator.ensures.into_iter_gives ∙ c.frames-name-items.ensures.names) in
    let step = ap (sum_by f) c.in-Some.ensures.steps ∙ sum_by-cons f c.in-Some.name c.next.new.self in grind arith

pub loop-name-preserved : goal.loop-name-preserved
loop-name-preserved g c =
    let f : FrameId → ℕ = λ name. length (words_under c.args.self.now name) in
    let step = ap (sum_by f) c.in-Some.ensures.steps ∙ sum_by-cons f c.in-Some.name c.next.new.self in
    omega (arith, step, c.loop-name.invariant, c.word_count-words.ensures)

pub returns : goal.returns
returns g c =
    let there : is_some (tenant_in c.args.self.now.tenants c.args.tenant) ≡ true = grind arith in
    let some = subst (λ (s : CoreState). is_some (tenant_in s.tenants c.args.tenant) ≡ true) (sym c.self.view_is) there in
    let f : CoreState → FrameId → ℕ = λ s name. length (words_under s name) in
    let names = names_of c.args.tenant (frames_of c.self.inside.table c.args.tenant) in
    let initial = ap (sum_by (f c.args.self.now)) (c.into_iter-name-iterator.ensures.into_iter_gives ∙ c.frames-name-items.ensures.names) in
    let none : sum_by (f c.args.self.now) c.loop-name.name-iterator ≡ 0 = grind arith in
    let invariant = c.loop-name.invariant in
    let words : c.loop-name.words ≡ sum_by (f c.args.self.now) names = omega (arith, initial, none, invariant) in
    let total = words ∙ sym (ap (λ (s : CoreState). sum_by (f s) names) c.self.view_is) in
    live-found c.self.invariant c.args.tenant c.frame_count.result c.loop-name.words some c.frame_count.ensures total
    ∙ ap (λ (s : CoreState). live_of s c.args.tenant) c.self.view_is
