-- A reply to a search (`Reply::bound`): the entry of this number is a true bound of its choice, and the best choice's
-- is exact.
use Rattle.jamboree.proofs.Common.{cells, best_choice, IsTrueBound, IsExactIfBest, table_of}
use Rattle.jamboree.proofs.ReplyLemmas.{bound-of, bound-holds}
use Rattle.jamboree.proofs.reply.Reply.bound.Goals as goal

pub returns-clause-value : goal.returns-clause-value
returns-clause-value c =
    bound-of c.args.self.now c.args.number c.choice.result _ c.of.result c.of.ensures c.choice.ensures.value c.if-self-number.false

pub returns-clause-holds : goal.returns-clause-holds
returns-clause-holds c =
    let reply = c.args.self.now in
    bound-holds (IsTrueBound reply.depth (cells reply.board)) (table_of reply) c.args.number c.of.result reply.table.holds
    (bound-of reply c.args.number c.choice.result _ c.of.result c.of.ensures c.choice.ensures.value c.if-self-number.false)

pub returns-clause-best : goal.returns-clause-best
returns-clause-best c =
    let reply = c.args.self.now in
    bound-holds (IsExactIfBest (best_choice reply.depth (cells reply.board))) (table_of reply) c.args.number c.of.result reply.table.best
    (bound-of reply c.args.number c.choice.result _ c.of.result c.of.ensures c.choice.ensures.value c.if-self-number.false)
