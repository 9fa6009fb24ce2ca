-- The index of a list by number (`index::search`): the point where the numbers stop being smaller is the place.
use Rattle.std.proofs.Common.{ltb, rules}
use Rattle.std.proofs.lemmas.List.Sorted.{IsPartitionPoint-from_clause}
use Rattle.numbered_list.proofs.Places.{partitioned-rising, point-is-count_below}
use Rattle.numbered_list.proofs.index.search.Goals as goal

pub returns : goal.returns
returns g c =
    let number_of = g.T.Numbered.number_of in
    let parted = partitioned-rising number_of c.args.number c.args.things.now c.requires in
    let point = IsPartitionPoint-from_clause (λ thing. ltb (number_of thing) c.args.number) _ _ c.partition_point.ensures.partitioned parted (λ a r f called. search rules) in
    point-is-count_below number_of c.args.number c.args.things.now c.partition_point.result point c.partition_point.ensures.bound
