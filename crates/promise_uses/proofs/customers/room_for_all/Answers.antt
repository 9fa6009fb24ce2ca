-- A use of the site's law on the hall's room (`room_for_all`): what the book doesn't refuse has room in the hall.
use Rattle.site_book.specs.declared.who.Who.TheVariants.{Named, V4}
use Rattle.promise_uses.proofs.customers.room_for_all.Goals as goal

pub returns : goal.returns
returns c = record {
  opens = λ number plan events ask fits none. (c.the_hall_has_room.ensures.opens plan events fits (Named number) ask none).segments;
  guest = λ address plan events ask fits none. (c.the_hall_has_room.ensures.opens plan events fits (V4 address) ask none).sessions;
  raises = λ number session plan events ask fits none. (c.the_hall_has_room.ensures.raises plan events fits (Named number) session ask none).nodes;
}
