-- For the uses of the promises: the job of a number that is done holds the reply to the words of that number; and what
-- was taken of a list of searches is one.
use Rattle.promise_uses.proofs.Common.{◌≡◌, ℕ, ◌==◌, ◌-◌, true, false, List, [], ◌∷◌, Some, Result, Ok, Err, refl, arith, if◌then◌else◌, Refusal, DidOf, StepOf, job_at, taken_steps, AreReplies, AreSearches, IsReplyTo, origin_at}
use Rattle.sched_rules.specs.declared.job.Job.{Job}
use Rattle.sched_rules.specs.declared.job.Job.TheVariants.{Done}

pub record HasReply (origins : List (List ℕ)) (job : ℕ) (words : List ℕ) : Type 0 where
  pub origin : List ℕ
  pub at : origin_at origins job ≡ Some origin
  pub reply : IsReplyTo origin words

pub reply-at : (origins : List (List ℕ)) (jobs : List Job) (job : ℕ) (words : List ℕ) → AreReplies origins jobs → job_at jobs job ≡ Some (Done words) → HasReply origins job words
reply-at [] [] job words replies at = absurd cc
reply-at [] (j ∷ jobs) job words replies at = absurd replies
reply-at (origin ∷ origins) [] job words replies at = absurd replies
reply-at (origin ∷ origins) (j ∷ jobs) job words replies at =
    elim (job == 1) as (λ b. (job == 1) ≡ b → (if b then Some j else job_at jobs (job - 1)) ≡ Some (Done words) → HasReply (origin ∷ origins) job words) [
      | true ↦ grind arith
      | false ↦ λ later is.
          let rest = reply-at origins jobs (job - 1) words replies.1 is in record { origin = rest.origin; at = rw later rest.at; reply = rest.reply }
    ] refl at

pub searches-taken : {I A : Type 0} (steps : List (StepOf A)) (answers : List (Result (DidOf I) Refusal)) → AreSearches steps → AreSearches (taken_steps steps answers)
searches-taken [] answers searches = tt
searches-taken (step ∷ steps) [] searches = tt
searches-taken (step ∷ steps) (Ok did ∷ answers) searches = (searches.0, searches-taken steps answers searches.1)
searches-taken (step ∷ steps) (Err refusal ∷ answers) searches = searches-taken steps answers searches.1
