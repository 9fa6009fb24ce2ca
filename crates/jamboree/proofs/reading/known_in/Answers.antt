-- A reply's table is read (`reading::known_in`): each entry's word is one that an entry may have.
use Rattle.jamboree.proofs.ReplyLemmas.{rest-at}
use Rattle.jamboree.proofs.reading.known_in.Goals as goal

pub known-requires : goal.known-requires
known-requires c = rest-at c.args.entries.now c.loop-number.number c.of.result.word c.requires.entries c.loop-number-test.true c.of.ensures
