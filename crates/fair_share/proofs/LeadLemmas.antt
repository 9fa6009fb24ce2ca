-- Of those who share a pool of workers: who has a lead is picked after the others have caught up.
use Rattle.fair_share.proofs.Common.{◌≡◌, ◌≢◌, ℕ, zero, suc, ◌+◌, ◌-◌, ◌*◌, ◌<◌, ◌≤◌, Bool, true, false, List, [], ◌∷◌, length, set, sym, ◌∙◌, refl, ap, subst, arith, cond, count_by, sum_by, nat_lt, nat_eq, eqb-false, eqb-true, get_or-set_same, sum_by-cons, ShareAccount, free_account, is_active, is_rival, is_before, capped_sum, account_charged, woken_from, rested, LineOf, IsNextAccount, account_at, floor_of, charged, LineEvent, Comes, Wakes, Rests, Serves, Picks, Longs, line_after, place_in, IsFair, Waits, picks_in, arrivals_in, is_member, IsLed}
use Rattle.fair_share.proofs.WaitLemmas.{one, line_woken, not-before, sum-set, sum-one, other-at, any-at, floor-least, picks-cons}

-- how often another may still be picked before
abbrev weight : ℕ → ℕ → ShareAccount → ShareAccount → ℕ
weight group low account y = cond (is_member group y) ((account.served + 1) - cond (nat_lt y.served low) low y.served) 0

weight-rested : (group low : ℕ) (account y : ShareAccount) → weight group low account (rested y) ≡ weight group low account y
weight-rested group low account y = refl

weight-most : (group lead : ℕ) (account y : ShareAccount) → weight group (account.served - lead) account y ≤ (lead + 1) * one (is_member group y)
weight-most group lead account y = elim (is_member group y) as (λ b. cond b ((account.served + 1) - cond (nat_lt y.served (account.served - lead)) (account.served - lead) y.served) 0 ≤ (lead + 1) * one b) [
  | true ↦ most (nat_lt y.served (account.served - lead)) refl
  | false ↦ omega arith
] where
  most : (b : Bool) → nat_lt y.served (account.served - lead) ≡ b → (account.served + 1) - cond b (account.served - lead) y.served ≤ (lead + 1) * 1
  most true is = omega arith
  most false is = grind arith

weight-more : (group low amount turn : ℕ) (account y : ShareAccount) → account.served < 18446744073709551615 → weight group low account (account_charged amount turn y) ≤ weight group low account y
weight-more group low amount turn account y few = grind arith

weight-woken : (group low floor turn : ℕ) (account y : ShareAccount) → weight group low account (woken_from floor turn y) ≤ weight group low account y
weight-woken group low floor turn account y = grind arith

weight-picked : (group low amount turn : ℕ) (account y : ShareAccount) → account.served < 18446744073709551615 → 0 < amount → is_member group y ≡ true →
    y.served ≤ account.served → low ≤ y.served → weight group low account (account_charged amount turn y) + 1 ≤ weight group low account y
weight-picked group low amount turn account y few some member less least = grind arith

count-cons : (p : ShareAccount → Bool) (x : ShareAccount) (xs : List ShareAccount) → count_by p (x ∷ xs) ≡ one (p x) + count_by p xs
count-cons p x xs = sum_by-cons (λ y. one (p y)) x xs

-- a sum of weights that are each at most so much for a member
sum-most : (w : ShareAccount → ℕ) (p : ShareAccount → Bool) (much : ℕ) (xs : List ShareAccount) → ((y : ShareAccount) → w y ≤ much * one (p y)) → sum_by w xs ≤ much * count_by p xs
sum-most w p much [] most = omega arith
sum-most w p much (x ∷ xs) most =
    omega (arith, sum_by-cons w x xs, ap (λ (n : ℕ). much * n) (count-cons p x xs), most x, sum-most w p much xs most)

sum-most-but : (w : ShareAccount → ℕ) (p : ShareAccount → Bool) (much less : ℕ) (xs : List ShareAccount) (place : ℕ) → ((y : ShareAccount) → w y ≤ much * one (p y)) →
    p free_account ≡ false → w (account_at xs place) + less ≤ much * one (p (account_at xs place)) → sum_by w xs + less ≤ much * count_by p xs
sum-most-but w p much less [] place most none own =
    let is-none : less ≤ much * 0 = omega (arith, own, ap (λ (b : Bool). much * one b) none) in omega (arith, is-none)
sum-most-but w p much less (x ∷ xs) zero most none own =
    omega (arith, sum_by-cons w x xs, ap (λ (n : ℕ). much * n) (count-cons p x xs), own, sum-most w p much xs most)
sum-most-but w p much less (x ∷ xs) (suc place) most none own =
    omega (arith, sum_by-cons w x xs, ap (λ (n : ℕ). much * n) (count-cons p x xs), most x, sum-most-but w p much less xs place most none own)

named-member : (group : ℕ) (y : ShareAccount) → is_rival group y ≡ true → y.name ≢ 0 → is_member group y ≡ true
named-member group y active named = grind arith

rival-active : (group : ℕ) (y : ShareAccount) → is_rival group y ≡ true → is_active y ≡ true
rival-active group y rival = grind arith

charged-active : (amount turn : ℕ) (y : ShareAccount) → is_active (account_charged amount turn y) ≡ true → is_active y ≡ true
charged-active amount turn y active = grind arith

rests-named : (y : ShareAccount) → is_active (rested y) ≡ true → (rested y).name ≢ 0
rests-named y active = grind arith

module _ (group lead : ℕ) (account y : ShareAccount) where
  rests-led : is_rival group (rested y) ≡ true → account.served ≤ (rested y).served + lead
  rests-led active = grind arith

  more-led : (amount turn : ℕ) → account.served < 18446744073709551615 → (is_rival group y ≡ true → account.served ≤ y.served + lead) →
      is_rival group (account_charged amount turn y) ≡ true → account.served ≤ (account_charged amount turn y).served + lead
  more-led amount turn few least active = grind arith

  woken-led : (floor turn : ℕ) → (y.group ≡ group → account.served ≤ floor + lead) → is_rival group (woken_from floor turn y) ≡ true → account.served ≤ (woken_from floor turn y).served + lead
  woken-led floor turn least active = grind arith

module _ (group place lead : ℕ) (line : LineOf) (account : ShareAccount) (is : IsLed group place lead line account) where
  led-set : (other : ℕ) (y : ShareAccount) (turn : ℕ) → other ≢ place → (is_rival group y ≡ true → account.served ≤ y.served + lead) →
      (is_active y ≡ true → y.name ≢ 0) → IsLed group place lead (record { accounts = set line.accounts other y; turn = turn }) account
  led-set other y turn differs less named = record {
    here = other-at line.accounts place other y differs ∙ is.here;
    active = is.active;
    led = any-at (λ (a : ShareAccount). is_rival group a ≡ true → account.served ≤ a.served + lead) line.accounts other y is.led less;
    named = any-at (λ (a : ShareAccount). is_active a ≡ true → a.name ≢ 0) line.accounts other y is.named named;
    served = is.served;
  }

  own-floor : (y : ShareAccount) → y.group ≡ group → account.served ≤ floor_of y.group line.accounts + lead
  own-floor y same =
      let low = account.served - lead in
      let least : low ≤ floor_of group line.accounts = floor-least group low line.accounts place (ap (is_rival group) is.here ∙ is.active) (λ other rival. omega (arith, is.led other rival)) in
      rw same (omega (arith, least))

  -- a task of somebody else leaves the lead
  led-served : (other amount : ℕ) → other ≢ place → IsLed group place lead (charged other amount line) account
  led-served other amount differs =
      let y = account_at line.accounts other in
      led-set other (account_charged amount line.turn y) (capped_sum line.turn 1) differs (more-led group lead account y amount line.turn is.served (is.led other))
      (λ active. is.named other (charged-active amount line.turn y active))

  -- what happens to others leaves the lead
  led-after : (event : LineEvent) → IsFair group line event → place_in event ≢ place → IsLed group place lead (line_after line event) account
  led-after (Comes other y) fair differs = led-set other (rested y) line.turn differs (rests-led group lead account y) (rests-named y)
  led-after (Wakes other) fair differs =
      let y = account_at line.accounts other in
      elim (is_active y) as (λ b. IsLed group place lead (line_woken line other b) account) [
        | true ↦ is
        | false ↦ led-set other _ (capped_sum line.turn 1) differs (woken-led group lead account y (floor_of y.group line.accounts) line.turn (own-floor y)) (λ active. fair)
      ]
  led-after (Rests other) fair differs =
      let y = account_at line.accounts other in led-set other (rested y) line.turn differs (rests-led group lead account y) (rests-named y)
  led-after (Serves other amount) fair differs = led-served other amount differs
  led-after (Picks other amount) fair differs = led-served other amount differs
  led-after (Longs other amount) fair differs = led-served other amount differs

  -- how often each other may still be picked before
  abbrev weighs : ShareAccount → ℕ
  weighs y = weight group (account.served - lead) account y

  weights-served : (other amount : ℕ) →
      sum_by (weight group (account.served - lead) account) (charged other amount line).accounts + 0 ≤ sum_by (weight group (account.served - lead) account) line.accounts + (lead + 1) * 0
  weights-served other amount =
      let y = account_at line.accounts other in
      sum-set weighs line.accounts other (account_charged amount line.turn y) 0 ((lead + 1) * 0) refl
      (omega (arith, weight-more group (account.served - lead) amount line.turn account y is.served))

  -- the weights after an event, with a pick's one and what an arrival adds
  weights-after : (event : LineEvent) → IsFair group line event →
      sum_by (weight group (account.served - lead) account) (line_after line event).accounts + picks_in (event ∷ [])
      ≤ sum_by (weight group (account.served - lead) account) line.accounts + (lead + 1) * arrivals_in group (event ∷ [])
  weights-after (Comes other y) fair =
      sum-set weighs line.accounts other (rested y) 0 ((lead + 1) * (one (is_member group y) + 0)) refl
      (omega (arith, weight-rested group (account.served - lead) account y, weight-most group lead account y))
  weights-after (Wakes other) fair =
      let y = account_at line.accounts other in
      elim (is_active y) as (λ b. sum_by (weight group (account.served - lead) account) (line_woken line other b).accounts + 0 ≤ sum_by (weight group (account.served - lead) account) line.accounts + (lead + 1) * 0) [
        | true ↦ omega arith
        | false ↦ sum-set weighs line.accounts other _ 0 ((lead + 1) * 0) refl
            (omega (arith, weight-woken group (account.served - lead) (floor_of y.group line.accounts) line.turn account y))
      ]
  weights-after (Rests other) fair =
      let y = account_at line.accounts other in
      sum-set weighs line.accounts other (rested y) 0 ((lead + 1) * 0) refl (omega (arith, weight-rested group (account.served - lead) account y))
  weights-after (Serves other amount) fair = weights-served other amount
  weights-after (Picks other amount) fair =
      let y = account_at line.accounts other in
      let low : account.served ≤ y.served + lead = is.led other fair.0.is_one in
      let before = subst (λ (a : ShareAccount). is_before a y ≡ false) is.here (fair.0.none_before place (ap (is_rival group) is.here ∙ is.active)) in
      let member = named-member group y fair.0.is_one (is.named other (rival-active group y fair.0.is_one)) in
      let less = weight-picked group (account.served - lead) amount line.turn account y is.served fair.1 member (not-before account y before) (omega (arith, low)) in
      sum-set weighs line.accounts other (account_charged amount line.turn y) 1 ((lead + 1) * 0) refl (omega (arith, less))
  weights-after (Longs other amount) fair = weights-served other amount

arrivals-cons : (group : ℕ) (event : LineEvent) (events : List LineEvent) → arrivals_in group (event ∷ events) ≡ arrivals_in group (event ∷ []) + arrivals_in group events
arrivals-cons group (Comes place account) events = omega arith
arrivals-cons group (Wakes place) events = omega arith
arrivals-cons group (Rests place) events = omega arith
arrivals-cons group (Serves place amount) events = omega arith
arrivals-cons group (Picks place amount) events = omega arith
arrivals-cons group (Longs place amount) events = omega arith

weight-own : (group lead : ℕ) (account : ShareAccount) → is_member group account ≡ true → weight group (account.served - lead) account account ≡ 1
weight-own group lead account member = grind arith

own-member : (group place lead : ℕ) (line : LineOf) (account : ShareAccount) → IsLed group place lead line account → is_member group account ≡ true
own-member group place lead line account is =
    named-member group account is.active (subst (λ (a : ShareAccount). a.name ≢ 0) is.here (is.named place (ap is_active is.here ∙ rival-active group account is.active)))

weighed-picks : (group place lead : ℕ) (line : LineOf) (account : ShareAccount) (events : List LineEvent) → IsLed group place lead line account → Waits group place line events →
    picks_in events + 1 ≤ sum_by (weight group (account.served - lead) account) line.accounts + (lead + 1) * arrivals_in group events
weighed-picks group place lead line account [] is waits =
    let weighs = weight group (account.served - lead) account in
    omega (arith, sum-one weighs line.accounts place refl, ap weighs is.here, weight-own group lead account (own-member group place lead line account is))
weighed-picks group place lead line account (event ∷ events) is waits =
    let rest = weighed-picks group place lead (line_after line event) account events (led-after group place lead line account is event waits.1 waits.0) waits.2 in
    let arrivals = ap (λ (n : ℕ). (lead + 1) * n) (arrivals-cons group event events) in
    omega (arith, picks-cons event events, arrivals, weights-after group place lead line account is event waits.1, rest)

-- so the picks are at most so many for each other
pub led-picks : (group place lead others : ℕ) (line : LineOf) (account : ShareAccount) (events : List LineEvent) → IsLed group place lead line account →
    Waits group place line events → count_by (is_member group) line.accounts + arrivals_in group events ≡ others + 1 → picks_in events ≤ (lead + 1) * others
led-picks group place lead others line account events is waits count =
    let weighs = weight group (account.served - lead) account in
    let own : weighs (account_at line.accounts place) ≡ 1 = ap weighs is.here ∙ weight-own group lead account (own-member group place lead line account is) in
    let member : is_member group (account_at line.accounts place) ≡ true = ap (is_member group) is.here ∙ own-member group place lead line account is in
    let most = sum-most-but weighs (is_member group) (lead + 1) lead line.accounts place (weight-most group lead account) refl (omega (arith, own, ap (λ (b : Bool). (lead + 1) * one b) member)) in
    omega (arith, most, weighed-picks group place lead line account events is waits, ap (λ (n : ℕ). (lead + 1) * n) count)

within-length : (group : ℕ) (xs : List ShareAccount) (place : ℕ) → is_rival group (account_at xs place) ≡ true → place < length xs
within-length group [] place rival = absurd (never place rival) where
  never : (place : ℕ) → is_rival group (account_at [] place) ≡ true → ⊥
  never place h = grind arith
within-length group (x ∷ xs) zero rival = omega arith
within-length group (x ∷ xs) (suc place) rival = omega (arith, within-length group xs place rival)

more-most : (y : ShareAccount) (amount turn : ℕ) → (account_charged amount turn y).served ≤ y.served + amount
more-most y amount turn = grind arith

-- after a pick the lead is what it cost
pub lead-after : (group place amount most : ℕ) (line : LineOf) → IsNextAccount group line.accounts place → amount ≤ most → (other : ℕ) → is_rival group (account_at line.accounts other) ≡ true →
    (account_at (charged place amount line).accounts place).served ≤ (account_at (charged place amount line).accounts other).served + most
lead-after group place amount most line next few other rival =
    let y : ShareAccount = account_at line.accounts place in
    let after = set line.accounts place (account_charged amount line.turn y) in
    let own : account_at after place ≡ account_charged amount line.turn y = get_or-set_same line.accounts place (account_charged amount line.turn y) free_account (within-length group line.accounts place next.is_one) in
    let cost : (account_charged amount line.turn y).served ≤ y.served + amount = more-most y amount line.turn in
    let least : y.served ≤ (account_at line.accounts other).served = not-before (account_at line.accounts other) y (next.none_before other rival) in
    let here : (account_at after place).served ≤ y.served + amount = omega (arith, ap (λ (a : ShareAccount). a.served) own, cost) in
    elim (nat_eq other place) as (λ b. nat_eq other place ≡ b → (account_at after place).served ≤ (account_at after other).served + most) [
      | true ↦ λ same. (let is : other ≡ place = eqb-true other place same in omega (arith, ap (λ (k : ℕ). (account_at after k).served) is))
      | false ↦ λ differs. (let stays = other-at line.accounts other place (account_charged amount line.turn y) (λ same. eqb-false other place differs (sym same)) in
          omega (arith, here, least, few, ap (λ (a : ShareAccount). a.served) stays))
    ] refl
