-- A list of choices by class (`Classed::is_empty`): it is empty exactly where no square of any class and no pass is
-- left.
use Rattle.leaf_search.proofs.Common.{refl, sym, ◌∙◌, arith, false≢true, not-true}
use Rattle.leaf_search.proofs.ClassLemmas.{nothing-left, all-zero}
use Rattle.leaf_search.proofs.classes.Classed.is_empty.Goals as goal

-- a square is left
pub returns-then-self-ne0 : goal.returns-then-self-ne0
returns-then-self-ne0 c =
    let f = c.self.inside in (
      (λ told. absurd (false≢true told)),
      (λ none. absurd (omega (arith, (nothing-left f.corners f.class f.others f.passes (omega arith) (omega arith) (omega arith) (c.self.view_is ∙ none)).0))),
    )

-- none but perhaps a pass
pub returns : goal.returns
returns c =
    let f = c.self.inside in (
      (λ told. sym c.self.view_is ∙ all-zero f.corners f.class f.others f.passes (omega arith) (not-true f.passes told)),
      (λ none. rw ((nothing-left f.corners f.class f.others f.passes (omega arith) (omega arith) (omega arith) (c.self.view_is ∙ none)).1) refl),
    )
