-- Bytes of a socket that have come and weren't given yet, in their block.
use Rattle.std.proofs.Common.{◌≡◌, ℕ, ◌+◌, ◌-◌, ◌≤◌, List, ◌++◌, length, take, drop, slice_range, Some, sym, ap, ap₂, ◌∙◌, arith, length-drop, length-take-le, take-take, take-append-drop}
use Rattle.std.proofs.lemmas.List.{take_at, drop-append-le}
use Rattle.std.proofs.lemmas.List.Folds.{drop_split}
use Rattle.std.proofs.lemmas.Slice.{between_is}
use Rattle.tcp_server.specs.Tapes.{TapeOf, AheadOf, taped}

-- the first bytes between two places of a block, and those after them
pub first-given : (block : List ℕ) (start end n : ℕ) (copied rest : List ℕ) → n ≤ end - start → start ≤ end → copied ≡ slice_range block start (start + n) → length copied ≡ n
    → drop start (take end block) ≡ take n (copied ++ rest) ++ drop (start + n) (take end block)
first-given block start end n copied rest within order is long =
    drop_split (take end block) start (start + n) (omega arith)
    ∙ ap (λ bytes. bytes ++ drop (start + n) (take end block))
    (between_is (take end block) start (start + n) ∙ ap (drop start) (take-take (start + n) end block (omega (arith, within, order)))
    ∙ sym (between_is block start (start + n)) ∙ sym is ∙ sym (take_at copied rest n long))

-- the bytes between two places of a block, and what was put behind them
pub put-behind : (block was : List ℕ) (start end n : ℕ) → start ≤ end → end + n ≤ length block → take end block ≡ take end was
    → drop start (take (end + n) block) ≡ drop start (take end was) ++ slice_range block end (end + n)
put-behind block was start end n order within kept =
    let all = take (end + n) block in
    let first = take-take end (end + n) block (omega arith) in
    sym (ap (drop start) (take-append-drop end all))
    ∙ drop-append-le start (take end all) (drop end all) (omega (arith, order, within, length-take-le end block, ap length first))
    ∙ ap₂ (λ a b. a ++ b) (ap (drop start) (first ∙ kept)) (sym (between_is block end (end + n)))

pub put-length : (block : List ℕ) (end n : ℕ) → end + n ≤ length block → length (slice_range block end (end + n)) ≡ n
put-length block end n within = omega (arith, length-take-le (end + n - end) (drop end block) (omega (arith, within, length-drop end block)))

-- a socket's state, by what is ahead and by its tape
abbrev state : List ℕ → TapeOf → AheadOf
state bytes tape = record { ahead = bytes; tape = tape }

-- a read that puts so many bytes behind those that were ahead
pub reads-behind : (block was : List ℕ) (start end n : ℕ) {tape noted : TapeOf} {old : AheadOf} → start ≤ end → end + n ≤ length block → take end block ≡ take end was
    → state (drop start (take end was)) tape ≡ old → noted ≡ taped (Some (slice_range block end (end + n))) tape
    → state (drop start (take (end + n) block)) noted ≡ state (old.ahead ++ slice_range block end (end + n)) (taped (Some (slice_range block end (end + n))) old.tape)
reads-behind block was start end n {tape} {noted} {old} order within kept is note =
    let came = slice_range block end (end + n) in
    ap₂ state (put-behind block was start end n order within kept ∙ ap (λ (r : AheadOf). r.ahead ++ came) is) (note ∙ ap (λ (r : AheadOf). taped (Some came) r.tape) is)
