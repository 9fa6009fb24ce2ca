-- The writes of one text: as many calls as it takes, each of which may take a part of it.
use Rattle.line_io.proofs.Common.{◌≡◌, ℕ, ◌+◌, ◌-◌, ◌<◌, List, [], ◌∷◌, ◌++◌, length, map, take, drop, sym, ap, ◌∙◌, subst, append_assoc, arith, Err, take-append-drop, drop-drop, take_all, length-drop, map-append, concat, WriteFailed, Leads, Took, Refused, IsWritten}
use Rattle.line_io.proofs.Chains.{Writing, Leads-more, concat-more}

-- so many of the bytes were taken, in some pieces
pub record Sent {K : Type 0} (takes : Writing K) (from : K) (bytes : List ℕ) (n : ℕ) (to : K) : Type 0 where
  pub pieces : List (List ℕ)
  pub writes : Leads takes from (map Took pieces) to
  pub taken : concat pieces ++ drop n bytes ≡ bytes

module _ {K : Type 0} {takes : Writing K} {a b c : K} {bytes : List ℕ} {n : ℕ} (s : Sent takes a bytes n b) where
  -- one more write
  pub Sent-more : (m : ℕ) {offered : List ℕ} → offered ≡ drop n bytes → takes b (Took (take m offered)) c → Sent takes a bytes (n + m) c
  Sent-more m e t' =
      let piece = take m (drop n bytes) in
      let t : takes b (Took piece) c = subst (λ o. takes b (Took (take m o)) c) e t' in
      record {
        pieces = s.pieces ++ piece ∷ [];
        writes = subst (λ ws. Leads takes a ws c) (sym (map-append Took s.pieces (piece ∷ []))) (Leads-more takes a _ b (Took piece) c s.writes t);
        taken = ap (λ z. z ++ drop (n + m) bytes) (concat-more s.pieces piece) ∙ (append_assoc (concat s.pieces) piece (drop (n + m) bytes)
            ∙ (ap (λ z. concat s.pieces ++ (piece ++ z)) (sym (drop-drop m n bytes)) ∙ (ap (λ z. concat s.pieces ++ z) (take-append-drop m (drop n bytes)) ∙ s.taken)));
      }

  -- one more write, which fails
  pub Sent-failed : {e : WriteFailed} → n < length bytes → takes b Refused c → IsWritten takes a bytes c (Err e)
  Sent-failed l t = grind (arith, Leads-more, length-drop)

-- what is offered is all that is left
pub offered-all : (n : ℕ) (bytes : List ℕ) → take (length bytes - n) (drop n bytes) ≡ drop n bytes
offered-all n bytes = take_all (length bytes - n) (drop n bytes) (omega (arith, length-drop n bytes))
