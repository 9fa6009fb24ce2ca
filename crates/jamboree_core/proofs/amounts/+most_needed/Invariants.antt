-- What suffices for a search (`amounts::most_needed`): it ends, as each call has a ply less.
use Rattle.jamboree_core.proofs.amounts.+most_needed.Given as goal

abbrev pub decreases-most_needed : goal.decreases-most_needed
decreases-most_needed l = l.plies
