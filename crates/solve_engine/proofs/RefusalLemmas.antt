-- Where each line is answered by a text that `solve` may answer to it, what `solve` writes is the answers to the lines
-- for some list of lines that were refused memory.
use Rattle.solve_engine.proofs.Common.{◌≡◌, ℕ, suc, Bool, List, [], ◌∷◌, ◌++◌, length, refl, sym, ap, ◌∙◌, append_assoc, append-nil, arith, length-append, Result, Ok, Err, concat, LineFault, WriteFailed, LineText, lines_of, Answers, ReadAnswer, WriteAnswer, IsAnswered, written_texts, with_newline, Run, IsOutput, answers_to, bytes_due, write_result, Run-written, solve_line, solve_line_unless, IsSolvedLine, answers_unless, OrderedRun, SolvedRun, subst, between, answering}

-- which of these lines were refused memory: a flag for each, and the answers are those texts
pub record AreRefusals (lines : List LineText) (texts : List (List ℕ)) : Type 0 where
  pub refused : List Bool
  pub places : length refused ≡ length lines
  pub are : written_texts texts ≡ answers_unless refused lines

abbrev solving : (A : Type 0) → A → LineText → List ℕ → A → Type 0
solving A from line text to = IsSolvedLine line text

refusals-of : {A : Type 0} (a : A) (lines : List LineText) (texts : List (List ℕ)) (b : A) → Answers (solving A) a lines texts b → AreRefusals lines texts
refusals-of a [] [] b p = record { refused = []; places = refl; are = refl }
refusals-of a (l ∷ ls) (t ∷ ts) b p =
    let more = refusals-of p.0 ls ts b p.2 in
    record {
      refused = p.1.0 ∷ more.refused;
      places = ap suc more.places;
      are = ap (λ text. with_newline text ++ written_texts ts) p.1.1 ∙ ap (λ rest. with_newline (solve_line_unless p.1.0 l) ++ rest) more.are;
    }
refusals-of a ls ts b p = absurd p

-- lines behind the flags were refused no memory
answers-append : (refused : List Bool) (ls ms : List LineText) → length refused ≡ length ls →
    answers_unless refused (ls ++ ms) ≡ answers_unless refused ls ++ answers_unless [] ms
answers-append [] [] ms e = refl
answers-append (f ∷ fs) (l ∷ ls) ms e =
    let places : length fs ≡ length ls = omega (arith, e) in
    ap (λ rest. with_newline (solve_line_unless f l) ++ rest) (answers-append fs ls ms places)
    ∙ sym (append_assoc (with_newline (solve_line_unless f l)) (answers_unless fs ls) (answers_unless [] ms))
answers-append fs ls ms e = absurd cc

-- what is written of the answers, as the writes ended
module _ (pieces : List (List ℕ)) (rest : List ℕ) (texts : List (List ℕ)) (answered lines : List LineText) (refusals : AreRefusals answered texts)
    (t : concat pieces ++ rest ≡ written_texts texts) where
  written : (r : Result (Unit {0}) WriteFailed) → IsAnswered r lines answered texts rest → IsOutput r (concat pieces) (answers_unless refusals.refused lines)
  written (Ok u) h =
      sym (append-nil (concat pieces)) ∙ ap (λ z. concat pieces ++ z) (sym h.1) ∙ t ∙ refusals.are ∙ ap (answers_unless refusals.refused) h.0
  written (Err d) h =
      let more = answers_unless [] h.0.0 in (
        rest ++ more,
        sym (append_assoc (concat pieces) rest more) ∙ ap (λ z. z ++ more) (t ∙ refusals.are)
            ∙ sym (answers-append refusals.refused answered h.0.0 refusals.places) ∙ ap (answers_unless refusals.refused) h.0.1,
        omega (arith, length-append rest more, h.1.left),
      )

-- a run whose answers are such texts
pub solved-run : {S K A : Type 0} (gives : S → ReadAnswer → S → Type 0) (takes : K → WriteAnswer → K → Type 0) {s : S} {k : K} {a : A} {s' : S} {k' : K} {a' : A}
    {r : Result (Unit {0}) LineFault} → Run (between gives s s') (between takes k k') (answering (solving A) a a') r → SolvedRun (between gives s s') (between takes k k') r
solved-run {A = A} gives takes {s} {k} {a} {s'} {k'} {a'} {r} x =
    let y = x.lines in
    let refusals = refusals-of a y.answered y.texts a' y.answers_lead in
    let lines = lines_of (bytes_due r (concat x.blocks)) in
    let all = written y.pieces y.rest y.texts y.answered lines refusals y.taken (write_result r) y.ends in
    (refusals.refused, Run-written gives takes (solving A) (answers_unless refusals.refused) s k a s' k' a' r x all)

-- where no memory was refused, it is what `solve` writes
pub none_refused : (lines : List LineText) → answers_unless [] lines ≡ answers_to solve_line lines
none_refused [] = refl
none_refused (line ∷ lines) = ap (λ rest. with_newline (solve_line line) ++ rest) (none_refused lines)

-- a run that writes what `solve` writes where no memory was refused
pub none-refused-run : {S K : Type 0} (gives : S → ReadAnswer → S → Type 0) (takes : K → WriteAnswer → K → Type 0) {s : S} {k : K} {s' : S} {k' : K}
    {r : Result (Unit {0}) LineFault} → OrderedRun (between gives s s') (between takes k k') r → SolvedRun (between gives s s') (between takes k k') r
none-refused-run gives takes {s} {k} {s'} {k'} {r} x =
    let same = sym (none_refused (lines_of (bytes_due r (concat x.blocks)))) in (
      [],
      record {
        blocks = x.blocks;
        last = x.last;
        pieces = x.pieces;
        reads = x.reads;
        ends = x.ends;
        writes = x.writes;
        written = subst (IsOutput (write_result r) (concat x.pieces)) same x.written;
      },
    )
