-- The command `solve` over readers and writers of std (`solving::solve_bytes`): with known bytes, the writer holds
-- at Ok what it held, and then just their answers.
use Rattle.solve_engine.proofs.Common.{Result, Ok, Err, OnOk, LineFault, ReadAnswer, WriteAnswer, solve_out_unless, SolvedRun, between}
use Rattle.solve_engine.proofs.solving.solve_bytes.Goals as goal

-- what follows from a run that ended well
at-ok : {S K : Type 0} {gives : S → ReadAnswer → S → Type 0} {takes : K → WriteAnswer → K → Type 0} {s : S} {k : K} {s' : S} {k' : K} (P : Type 0) (r : Result (Unit {0}) LineFault) →
    (SolvedRun (between gives s s') (between takes k k') (Ok tt) → P) → SolvedRun (between gives s s') (between takes k k') r → OnOk r P
at-ok P (Ok u) step run = step run
at-ok P (Err fault) step run = tt

pub returns-clause-known : goal.returns-clause-known
returns-clause-known g c =
    at-ok _ c.solve-result.result (λ run bytes held left holds.
    (run.0, c.known_runs_are_exact.ensures (solve_out_unless run.0) _ _ _ _ bytes held left holds run.1)) c.solve-result.ensures
