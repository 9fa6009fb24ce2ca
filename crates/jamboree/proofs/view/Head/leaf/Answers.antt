-- The head of a search's frame (`Head::leaf`): the leaf has the head's board, depth and window, or is the empty board
-- to depth 0.
use Rattle.jamboree.proofs.Common.{sym, ◌∙◌, arith, ints, score_of, leaf-told, leaf-is}
use Rattle.std.proofs.Common.{◌<ℤ◌, refl}
use Rattle.jamboree.proofs.ViewLemmas.{word-high, as-wide}
use Rattle.jamboree.proofs.view.Head.leaf.Goals as goal

pub returns : goal.returns
returns c =
    let own = c.args.self.own in
    let alpha = c.args.self.alpha in
    let beta = c.args.self.beta in
    let l = leaf-told own c.args.self.opp c.args.self.depth (score_of alpha) (score_of beta) (sym c.is_leaf.ensures ∙ c.if-not-is_leaf.false) in
    let window : score_of alpha <ℤ score_of beta = l.window in
    leaf-is _ own c.args.self.opp c.args.self.depth (score_of alpha) (score_of beta)
    (record {
      own_is = refl;
      opp_is = refl;
      depth_is = refl;
      alpha_is = as-wide alpha c.score_of_word.result c.score_of_word.ensures (word-high alpha (omega (arith, ints)));
      beta_is = as-wide beta c.score_of_word-2.result c.score_of_word-2.ensures (word-high beta l.high);
    })
