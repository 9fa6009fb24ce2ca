-- The search as a procedure (`Jamboree::is_fitting_root`): it says yes exactly to the words of a search's root.
use Rattle.jamboree.proofs.Common.{ℕ, [], sym, subst, padded, Neither, AreFitting, IsRoot}
use Rattle.jamboree.proofs.procedure.JamboreeProcedure.is_fitting_root.Goals as goal

pub returns-then-size-eq-SIZE : goal.returns-then-size-eq-SIZE
returns-then-size-eq-SIZE c told =
    let w = c.args.words.now in
    subst (λ (n : ℕ). AreFitting (padded w n) [] Neither × IsRoot w (padded w n)) (sym c.if-size-eq-SIZE.true)
    (c.are_root_words.ensures.fits told, c.are_root_words.ensures.rooted told)
