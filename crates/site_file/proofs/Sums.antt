-- For the rates in a site's file: how much the lines of a customer that pass cost together.
use Rattle.std.proofs.Common.{◌≡◌, ℕ, suc, ◌+◌, ◌*◌, ◌≤◌, inl, inr, true, leb, List, [], ◌∷◌, arith}
use Rattle.std.proofs.lemmas.Bool.{cases_Bool}
use Rattle.site_file.specs.declared.rate.Rate.{Rate}
use Rattle.site_file.specs.Rates.{AreWithin, after_line, may_pass, passed}

below : (a b : ℕ) → leb a b ≡ true → a ≤ b
below a b e = grind arith

-- one line more costs a period more
cost : (k p : ℕ) → suc k * p ≡ p + k * p
cost k p = grind arith

-- once a line has passed: all that pass after it are paid off within the time
pub later : (rate : Rate) (paid base to : ℕ) (from : ℕ) (times : List ℕ) → base ≤ paid → base ≤ to + rate.period * rate.burst → AreWithin from to times → base + passed rate paid times * rate.period ≤ to + rate.period * rate.burst
later rate paid base to from [] low room within = omega (arith, room)
later rate paid base to from (now ∷ times) low room within = elim (cases_Bool (may_pass rate paid now)) [
  | inl aye ↦ (let p = rate.period in
      let all = rate.period * rate.burst in
      let is : after_line rate paid now ≤ now + all = below (after_line rate paid now) (now + all) aye in
      let next : base + p ≤ after_line rate paid now = omega (arith, low) in
      let fits : base + p ≤ to + all = omega (arith, next, is, within.1) in
      let rest = later rate (after_line rate paid now) (base + p) to from times next fits within.2 in
      let sum = cost (passed rate (after_line rate paid now) times) p in
      rw aye (omega (arith, rest, sum)))
  | inr nay ↦ rw nay (later rate paid base to from times low room within.2)
]

-- all that pass
pub all-lines : (rate : Rate) (paid from to : ℕ) (times : List ℕ) → from ≤ to → AreWithin from to times → from + passed rate paid times * rate.period ≤ to + rate.period * rate.burst
all-lines rate paid from to [] order within = omega (arith, order)
all-lines rate paid from to (now ∷ times) order within = elim (cases_Bool (may_pass rate paid now)) [
  | inl aye ↦ (let p = rate.period in
      let all = rate.period * rate.burst in
      let is : after_line rate paid now ≤ now + all = below (after_line rate paid now) (now + all) aye in
      let next : from + p ≤ after_line rate paid now = omega (arith, within.0) in
      let fits : from + p ≤ to + all = omega (arith, next, is, within.1) in
      let rest = later rate (after_line rate paid now) (from + p) to from times next fits within.2 in
      let sum = cost (passed rate (after_line rate paid now) times) p in
      rw aye (omega (arith, rest, sum)))
  | inr nay ↦ rw nay (all-lines rate paid from to times order within.2)
]
