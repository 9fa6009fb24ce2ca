-- A use of the promise on two lists (`seven_in_both`): tenant 7 is after each list what its own steps of it make of
-- it, with minimax values where it asked for searches.
use Rattle.promise_uses.proofs.Common.{sym, ap, ◌∙◌, CoreState, tenant_in, if-ok}
use Rattle.promise_uses.proofs.Replied.{searches-taken}
use Rattle.promise_uses.proofs.runs.seven_in_both.Goals as goal

pub returns : goal.returns
returns g c = record {
  one = if-ok c.run_two.result (λ runs both. (both.0.undisturbed 7).state) c.run_two.ensures.headline;
  other = if-ok c.run_two.result (λ runs both. (both.1.undisturbed 7).state) c.run_two.ensures.headline;
  told = if-ok c.run_two.result (λ runs both. (both.1.undisturbed 7).replies) c.run_two.ensures.headline;
  replies = λ searches. if-ok c.run_two.result (λ runs both tenant there.
      let taken = searches-taken _ _ searches in
      let is = ap (λ (s : CoreState). tenant_in s.tenants 7) (sym both.0.left) ∙ there in (
        c.every_completed_reply_is_the_minimax_value.ensures c.args.procedure.grain c.args.config _ _ 7 tenant both.0.refused taken is,
        c.every_frame_is_sound.ensures c.args.procedure.grain c.args.config _ _ 7 tenant both.0.refused taken is,
      )) c.run_two.ensures.headline;
}
