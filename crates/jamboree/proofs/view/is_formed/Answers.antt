-- The form of a search's frame (`view::is_formed`): it says yes exactly to twelve words in their ranges and as many
-- valid entries as they count.
use Rattle.jamboree.proofs.Common.{sym, ◌∙◌, arith, false≢true, false_from_ne_true, is_formed}
use Rattle.std.proofs.Common.{◌≡◌, ℕ, ◌+◌, ◌-◌, ◌≤◌, length}
use Rattle.jamboree.proofs.ViewLemmas.{formed-parts, formed-rest}
use Rattle.jamboree.proofs.view.is_formed.Goals as goal

whole-count : (l n k : ℕ) → l ≡ n → 12 ≤ l → l - 12 ≡ k → n ≡ 12 + k
whole-count l n k is long rest = omega (arith, is, long, rest)

pub returns-then-not-is_frame : goal.returns-then-not-is_frame
returns-then-not-is_frame c =
    let w = c.args.words.now in
    sym (false_from_ne_true (is_formed w) (λ e.
    let parts = formed-parts w c.read_head-head.result c.read_head-head.ensures e in
    false≢true (sym c.if-not-is_frame.true ∙ (c.is_frame.ensures ∙ parts.1))))

pub returns : goal.returns
returns c =
    let h = c.read_head-head.result in
    let len : length c.args.words.now ≡ 12 + h.count = whole-count _ _ _ c.len-len.ensures.value c.if-len-lt-SIZE.false c.if-len-head.false in
    c.are_entries.ensures ∙ formed-rest c.args.words.now h c.read_head-head.ensures len (sym c.is_frame.ensures ∙ c.if-not-is_frame.false)
