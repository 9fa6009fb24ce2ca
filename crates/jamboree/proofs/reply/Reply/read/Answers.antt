-- A reply to a search (`Reply::read`): the words that a job kept of its root have the form of one, and what is read
-- from them is the true reply.
use Rattle.jamboree.proofs.Common.{take, sym, ◌∙◌, ap, subst, arith, length-drop, choices, minimax, best_choice, entered, IsTable, Frame, board, frame_of, are_entries, bounds_of, decoded, bounds_by, greatest_depth}
use Rattle.std.proofs.Common.{◌≡◌, ◌≤◌, ℕ, List, length}
use Rattle.jamboree.proofs.ActLemmas.{best-wide}
use Rattle.jamboree.proofs.ReplyLemmas.{kept-root, table-read}
use Rattle.jamboree.proofs.reply.Reply.read.Goals as goal

pub kept_view-root-requires : goal.kept_view-root-requires
kept_view-root-requires c = let k = kept-root c.args.words.now c.requires in record { form = k.formed; few = omega (arith, k.few) }

pub kept_entries-entries-requires : goal.kept_entries-entries-requires
kept_entries-entries-requires c = omega (arith, c.kept_view-root.ensures.entries)

pub known_in-requires : goal.known_in-requires
known_in-requires c =
    let k = kept-root c.args.words.now c.requires in
    let same = c.kept_entries-entries.ensures in
    record {
      few = omega (arith, ap (λ (es : List ℕ). length es) same, length-drop 12 c.args.words.now, k.few);
      entries = ap are_entries same ∙ k.entries;
    }

pub invariant_of-result : goal.invariant_of-result
invariant_of-result c =
    let w = c.args.words.now in
    let k = kept-root w c.requires in
    let e = sym c.kept_view-root.ensures.frame in
    let entries = c.kept_entries-entries.result.now in
    let len = ap (λ (es : List ℕ). length es) c.kept_entries-entries.ensures in
    record {
      shallow = subst (λ (f : Frame). f.depth ≤ greatest_depth) e k.shallow;
      is_value = best-wide c.kept_view-root.result ∙ subst (λ (f : Frame). f.best ≡ minimax f.depth (board f)) e k.value;
      is_best = c.decoded.ensures ∙ subst (λ (f : Frame). decoded f.choice ≡ best_choice f.depth (board f)) e k.choice;
      counted = subst (λ (f : Frame). length entries ≡ length (entered f.depth (board f))) e (len ∙ k.counted);
      few = omega (arith, len, length-drop 12 w, k.few);
      table = subst (λ (f : Frame). IsTable f.depth (board f) (bounds_by (choices (board f)) (take (length entries) c.known_in.result))) e
          (subst (IsTable (frame_of w).depth (board (frame_of w)))
          (sym (table-read (choices (board (frame_of w))) entries w _ c.known_in.ensures c.kept_entries-entries.ensures)) k.table);
    }

pub returns : goal.returns
returns c =
    let w = c.args.words.now in
    let entries = c.kept_entries-entries.result.now in
    let same = c.kept_view-root.ensures.frame in
    record {
      own = ap (λ (f : Frame). f.own) same;
      opp = ap (λ (f : Frame). f.opp) same;
      depth = ap (λ (f : Frame). f.depth) same;
      table = subst (λ (f : Frame). bounds_by (choices (board f)) (take (length entries) c.known_in.result) ≡ bounds_of (frame_of w)) (sym same)
          (table-read (choices (board (frame_of w))) entries w _ c.known_in.ensures c.kept_entries-entries.ensures);
    }
