-- The pool takes a task from a site's desk (`next_task` of `LockedSite`): the frame that was picked by shares; or,
-- where none was, any ready one.
use Rattle.site_desk.proofs.Common.{rules, IsNextReady}
use Rattle.site_desk.proofs.Tasks.{next_by}
use Rattle.site_desk.proofs.locked_site.LockedSiteUnderLock.next_task.Goals as goal
use Rattle.site_desk.proofs.locked_site.LockedSiteUnderLock.next_task.Goals.{in-Some, in-None}

pub returns : goal.returns
returns g c = elim c.match-pick.branch [
  | in-Some w ↦ search rules
  | in-None w ↦ (let h : IsNextReady c.pick.new.self.booked.hall.shared w.next_ready.result = search rules in
      let k = next_by c.args.self.now c.pick.new.self w.next_ready.result w.in-None.ensures h in search rules)
]
