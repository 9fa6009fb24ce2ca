-- The frame table's binary search for a serial (`serials::search`): the place that it finds holds the serial, and
-- where it finds none no place does.
use Rattle.frame_table.proofs.Places.{absent-between, rises-by-not-falls}
use Rattle.std.proofs.lemmas.List.Sorted.{searched}
use Rattle.frame_table.proofs.serials.search.Goals as goal

pub returns-in-Ok-clause-found : goal.returns-in-Ok-clause-found
returns-in-Ok-clause-found g c =
    let rise = rw (← c.as_slice.ensures.value) at c.requires in
    let place = searched c.as_slice.result.now c.args.serial c.binary_search.result c.binary_search.ensures.position (λ i j le lt. rises-by-not-falls (λ n. n) c.as_slice.result.now rise i j 0 le lt) in
    rw (← c.as_slice.ensures.value) (rw c.in-Ok.is at place)

pub returns-in-Err-clause-none : goal.returns-in-Err-clause-none
returns-in-Err-clause-none g c =
    let rise = rw (← c.as_slice.ensures.value) at c.requires in
    let place = searched c.as_slice.result.now c.args.serial c.binary_search.result c.binary_search.ensures.position (λ i j le lt. rises-by-not-falls (λ n. n) c.as_slice.result.now rise i j 0 le lt) in
    let nowhere = rw c.in-Err.is at place in
    rw (← c.as_slice.ensures.value) (absent-between c.as_slice.result.now c.args.serial c.in-Err.field-0 nowhere.1 nowhere.2)
