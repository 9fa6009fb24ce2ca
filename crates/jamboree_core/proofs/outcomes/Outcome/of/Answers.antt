-- What became of a search's job (`Outcome::of`): of one that is done, the reply read from its words.
use Rattle.jamboree_core.proofs.Common.{refl, ◌∙◌, ap, slice_index, frame_of, bounds_of}
use Rattle.std.specs.Prelude.{ℕ, List}
use Rattle.jamboree_core.proofs.outcomes.Outcome.of.Goals as goal

pub returns-in-Done : goal.returns-in-Done
returns-in-Done c =
    let same = c.as_slice.ensures.words in
    let e = c.read.ensures in
    rw c.in-Done.is (
      c.read.result,
      refl,
      record {
        on = record {
          own = e.own ∙ ap (λ (ws : List ℕ). slice_index ws 0) same;
          opp = e.opp ∙ ap (λ (ws : List ℕ). slice_index ws 1) same;
          depth = e.depth ∙ ap (λ (ws : List ℕ). slice_index ws 2) same;
        };
        table = e.table ∙ ap (λ (ws : List ℕ). bounds_of (frame_of ws)) same;
      },
    )
