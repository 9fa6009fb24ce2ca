-- One tenant's list of ready frames (`ready::place_in`): the place of a serial, at each way out of the search for it.
use Rattle.frame_table.proofs.Common.{ReadyFrame, arith, length, ℕ, ◌-◌}
use Rattle.frame_table.proofs.Places.{counts-below, place-before, place-by-count, rises-by-not-falls}
use Rattle.numbered_list.proofs.Places.{count_below-found, count_below-le-length, point-is-count_below}
use Rattle.std.proofs.Common.{nat_lt, rules}
use Rattle.std.proofs.lemmas.List.Sorted.{IsPartitionPoint-from_clause, IsPartitionedBy-ltb}
use Rattle.frame_table.proofs.ready.place_in.Goals as goal

pub returns-then-count-eq0-clause-place : goal.returns-then-count-eq0-clause-place
returns-then-count-eq0-clause-place c =
    place-by-count _ _ _ 0 c.requires (omega (arith, c.if-count-eq0.true, count_below-le-length (λ (frame : ReadyFrame). frame.serial) c.args.serial c.args.frames.now))

pub returns-then-last-serial-clause-place : goal.returns-then-last-serial-clause-place
returns-then-last-serial-clause-place c =
    let frames = c.args.frames.now in
    let serial_of : ReadyFrame → ℕ = λ frame. frame.serial in
    let below = counts-below serial_of frames c.args.serial (length frames - 1) _ c.requires (omega (arith, c.if-count-eq0.false)) c.if-last-serial.true in
    place-by-count serial_of frames c.args.serial (length frames) c.requires (omega (arith, below, count_below-le-length serial_of c.args.serial frames))

pub returns-then-last-serial-2-clause-place : goal.returns-then-last-serial-2-clause-place
returns-then-last-serial-2-clause-place c =
    let frames = c.args.frames.now in
    place-by-count _ frames c.args.serial (length frames - 1) c.requires (count_below-found _ c.args.serial frames _ _ c.requires (omega (arith, c.if-count-eq0.false)) c.if-last-serial-2.true)

pub returns-then-serial-frames-clause-place : goal.returns-then-serial-frames-clause-place
returns-then-serial-frames-clause-place c = place-before _ _ _ _ c.requires c.if-serial-frames.true

pub returns-clause-place : goal.returns-clause-place
returns-clause-place c =
    let serial_of : ReadyFrame → _ = λ frame. frame.serial in
    let parted = IsPartitionedBy-ltb serial_of c.args.frames.now c.args.serial (rises-by-not-falls serial_of c.args.frames.now c.requires) in
    let point = IsPartitionPoint-from_clause (λ frame. nat_lt frame.serial c.args.serial) _ _ c.partition_point.ensures.partitioned parted (λ a r f k. search rules) in
    place-by-count serial_of c.args.frames.now c.args.serial c.partition_point.result c.requires (point-is-count_below serial_of c.args.serial c.args.frames.now c.partition_point.result point c.partition_point.ensures.bound)
