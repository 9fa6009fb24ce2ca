-- For the uses of the promises: what a session's calls come to.
use Rattle.promise_uses.proofs.Common.{◌≡◌, ◌⊎◌, ℕ, List, [], ◌∷◌, ◌++◌, length, true, false, Option, Some, None, refl, sym, ap, subst, ◌∙◌, inl, inr, append_assoc, append-nil, option_map, ReserveOf, Left, Board, Cell, cells, Side, JobOf, SpentJob, Refusal, Full, refusal_number, Admit, AdmitMore, Submit, LeaveStep, Tenant, left_of, job_at, lone_refusal, alone, only, CoreState, shared_refusal, shared_run, tenant_in, own_word, opp_word, jamboree, root_words, frame_size, HallOf, Known, seat_steps, steps_of, AreTaken, IsTrueTo, Spent, Call, Hello, Reserve, Ask, Wait, AskQuota, Leave, OfficeReply, Welcome, Reserved, Job, Told, Rest, Gone, Refused, if_there, is_welcome, job_reply, reply_to, unless_refused, AreAnswered, IsOneTenancy, IsReplyAt, IsTenantOf, NobodyCame, seat-more, steps-more, SearchStep}
use Rattle.std.proofs.Common.{◌+◌}

abbrev pub Entries : Type 0
Entries = List (ℕ × SearchStep)

abbrev Made : Type 0
Made = Call × OfficeReply

abbrev leaving : List Made
leaving = (Leave, Gone) ∷ []

abbrev came : ReserveOf → Made
came quota = (Hello quota, Welcome quota)

-- ---- the calls between HELLO and the leaving

nothing-more : {X : Type 0} (xs : List X) (x y : X) → ◌≡◌ {A = List X} (x ∷ []) (y ∷ xs) → xs ≡ []
nothing-more xs x y is = let e : [] ≡ xs = cc is in sym e

not-nothing : {X : Type 0} (xs : List X) (x : X) → xs ++ x ∷ [] ≡ [] → ⊥
not-nothing [] x is = cc is
not-nothing (y ∷ xs) x is = cc is

same-before : {X : Type 0} (xs ys : List X) (x y : X) → xs ++ x ∷ [] ≡ ys ++ y ∷ [] → xs ≡ ys
same-before [] [] x y is = refl
same-before [] (b ∷ ys) x y is = absurd (not-nothing ys y (nothing-more (ys ++ y ∷ []) x b is))
same-before (a ∷ xs) [] x y is = absurd (not-nothing xs x (nothing-more (xs ++ x ∷ []) y a (sym is)))
same-before {X = X} (a ∷ xs) (b ∷ ys) x y is =
    let first : a ≡ b = cc is in
    let rest : xs ++ x ∷ [] ≡ ys ++ y ∷ [] = cc is in
    ap (λ (c : X). c ∷ xs) first ∙ ap (λ (l : List X). b ∷ l) (same-before xs ys x y rest)

-- a tenant after these steps of a hall, and what all of them leave
abbrev own_after : HallOf → ℕ → Entries → Option Tenant
own_after begun number at = alone (jamboree begun.grain) (only number (steps_of at))

abbrev all_after : HallOf → Entries → CoreState
all_after begun at = shared_run (jamboree begun.grain) begun.shared (steps_of at)

-- a tenant that came by the first call, and left by the last
record Held (begun : HallOf) (quota : ReserveOf) (calls : List Made) (known : Known SearchStep) : Type 0 where
  pub number : ℕ
  pub true_to : IsTrueTo begun number known
  pub before : Entries
  pub unused : only number (steps_of before) ≡ []
  pub answered : AreAnswered begun number known.maker (before ++ (known.maker, Admit number quota) ∷ []) calls known.seen

between : (quota other : ReserveOf) (calls early later : List Made) → came quota ∷ (calls ++ leaving) ≡ early ++ came other ∷ (later ++ leaving) → NobodyCame early →
    (quota ≡ other) × (later ≡ calls)
between quota other calls [] later are nobody =
    let first : came quota ≡ came other = cc are in
    let hello : Hello quota ≡ Hello other = ap (λ (m : Made). m.0) first in
    let rest : calls ++ leaving ≡ later ++ leaving = cc are in
    (cc hello, sym (same-before calls later (Leave, Gone) (Leave, Gone) rest))
between quota other calls (made ∷ early) later are nobody =
    let first : came quota ≡ made = cc are in
    let both : true ≡ false = ap (λ (m : Made). is_welcome m.1) first ∙ nobody.0 in absurd (cc both)

rest-left : (tenant : Option Tenant) (left : Left) → Rest left ≡ if_there tenant (λ its. Rest (left_of its)) → Some left ≡ option_map left_of tenant
rest-left None left is = absurd (cc is)
rest-left (Some its) left is = let same : left ≡ left_of its = cc is in ap (λ (l : Left). Some l) same

module _ (begun : HallOf) (quota : ReserveOf) (all : List Made) (knew : Option (Known SearchStep)) (known : Known SearchStep) (is : IsTenantOf begun all knew)
    (knows : knew ≡ Some known) where
  held : (calls : List Made) → all ≡ came quota ∷ (calls ++ leaving) → Held begun quota calls known
  held calls are =
      let here : IsOneTenancy begun all known = subst (λ (k : Option (Known SearchStep)). IsTenantOf begun all k) knows is in
      let two = between quota here.quota calls here.early here.later (sym are ∙ here.are) here.nobody in
      let P : ReserveOf × List Made → Type 0 = λ x. AreAnswered begun here.number known.maker (here.before ++ (known.maker, Admit here.number x.0) ∷ []) x.1 known.seen in
      record {
        number = here.number;
        true_to = here.true_to;
        before = here.before;
        unused = here.unused;
        answered = subst P (λ i. (sym two.0 i, two.1 i)) here.answered;
      }

  -- ---- HELLO and QUOTA

  abbrev IsLeft : Left → Type 0
  IsLeft left =
      (number : ℕ) × (before between later : Entries)
      × (known.seen ≡ ((before ++ (known.maker, Admit number quota) ∷ []) ++ between) ++ later)
      × (only number (steps_of before) ≡ []) × (seat_steps number (steps_of between) ≡ [])
      × (Some left ≡ option_map left_of (own_after begun number ((before ++ (known.maker, Admit number quota) ∷ []) ++ between)))
      × AreTaken (jamboree begun.grain) begun.shared (steps_of known.seen)

  pub quota-left : (left : Left) → all ≡ came quota ∷ (AskQuota, Rest left) ∷ leaving → IsLeft left
  quota-left left are = by h.answered.3
    where
      h : Held begun quota ((AskQuota, Rest left) ∷ []) known
      h = held ((AskQuota, Rest left) ∷ []) are

      at : Entries
      at = (h.before ++ (known.maker, Admit h.number quota) ∷ []) ++ h.answered.0

      by : IsReplyAt begun h.number at AskQuota (Rest left) → IsLeft left
      by (inr room) = absurd room
      by (inl right) =
          let more = h.answered.5 in
          let leave : Entries = (known.maker, LeaveStep h.number) ∷ [] in
          let first = ap (λ (l : Entries). ((at ++ l) ++ more.0) ++ leave) h.answered.4 ∙ ap (λ (l : Entries). (l ++ more.0) ++ leave) (append-nil at) in
          let whole : known.seen ≡ at ++ (more.0 ++ leave) = more.2 ∙ first ∙ append_assoc at more.0 leave in
          (h.number, h.before, h.answered.0, more.0 ++ leave, whole, h.unused, h.answered.2, rest-left _ left right, h.true_to.0)

  -- ---- HELLO and the leaving

  pub admit-and-leave : all ≡ came quota ∷ leaving →
      (number : ℕ) × (before between : Entries)
      × (known.seen ≡ ((before ++ (known.maker, Admit number quota) ∷ []) ++ between) ++ (known.maker, LeaveStep number) ∷ [])
      × (seat_steps number (steps_of between) ≡ [])
      × (seat_steps number (steps_of known.seen) ≡ known.mine)
  admit-and-leave are =
      let h = held [] are in
      (h.number, h.before, h.answered.0, h.answered.2, h.answered.1, h.true_to.1)

-- ---- an ASK, a WAIT and a raise

job-numbered : (refusal : Option Refusal) (job next : ℕ) → Job job ≡ unless_refused refusal (Job next) → job ≡ next
job-numbered None job next is = cc is
job-numbered (Some refusal) job next is = absurd (cc is)

job-spent : (job : Option JobOf) → Told 1 Spent ≡ job_reply 1 job → job ≡ Some SpentJob
job-spent (Some SpentJob) is = refl
job-spent _ is = absurd (cc is)

raise-refused : (refusal : Option Refusal) (more : ReserveOf) → Refused 14 ≡ unless_refused refusal (Reserved more) →
    (why : Refusal) × (refusal ≡ Some why) × (refusal_number why ≡ 14)
raise-refused None more is = absurd (cc is)
raise-refused (Some why) more is = let number : 14 ≡ refusal_number why = cc is in (why, refl, sym number)

-- the search of a board to depth 3, and the entries with it
abbrev searching : ℕ → Board → SearchStep
searching number words = Submit number (root_words words.own words.opp 3) frame_size

abbrev with_search : Entries → ℕ → ℕ → Board → Entries
with_search first maker number words = first ++ (maker, searching number words) ∷ []

ask-numbered : (grain number : ℕ) (its : Tenant) (board : List Cell) (side : Side) (job : ℕ) → Job job ≡ reply_to grain number (Some its) (Ask 3 board side) →
    job ≡ length its.jobs + 1
ask-numbered grain number its board side job is =
    let step = Submit number (root_words (own_word board) (opp_word board) 3) frame_size in
    job-numbered (lone_refusal (jamboree grain) (Some its) step) job (length its.jobs + 1) is

-- why a raise was refused by 14
abbrev IsRaiseRefused : HallOf → ℕ → ReserveOf → Entries → Type 0
IsRaiseRefused begun number more at =
    ((refusal : Refusal) × (lone_refusal (jamboree begun.grain) (own_after begun number at) (AdmitMore number more) ≡ Some refusal) × (refusal_number refusal ≡ 14))
    ⊎ (shared_refusal (jamboree begun.grain) (all_after begun at) (AdmitMore number more) ≡ Some Full)

-- what is said of an ASK to depth 3, a WAIT for job 1 and a raise of a tenant
abbrev pub IsSpentAsk : HallOf → ReserveOf → List Cell → ℕ → Known SearchStep → Type 0
IsSpentAsk begun more board job known =
    (number : ℕ) × (first second third later : Entries) × (words : Board)
    × (board ≡ cells words)
    × (known.seen ≡ ((with_search first known.maker number words ++ second) ++ third) ++ later)
    × (seat_steps number (steps_of (second ++ third)) ≡ [])
    × ((its : Tenant) → own_after begun number first ≡ Some its → job ≡ length its.jobs + 1)
    × ((its : Tenant) → own_after begun number (with_search first known.maker number words ++ second) ≡ Some its → job_at its.jobs 1 ≡ Some SpentJob)
    × IsRaiseRefused begun number more ((with_search first known.maker number words ++ second) ++ third)

-- a raise that was refused by 14
no-memory : Refused 14 ≡ Refused 19 → ⊥
no-memory is = cc is

room : (why alone : Option Refusal) → ((alone ≡ None) × (((why ≡ Some Full) × (Refused 14 ≡ Refused 14)) ⊎ ((why ≡ None) × (Refused 14 ≡ Refused 19)))) → why ≡ Some Full
room why alone (granted, inl full) = full.0
room why alone (granted, inr wanting) = absurd (no-memory wanting.1)

why : (begun : HallOf) (number : ℕ) (at : Entries) (more : ReserveOf) → IsReplyAt begun number at (Reserve more) (Refused 14) → IsRaiseRefused begun number more at
why begun number at more (inl own) = inl (raise-refused (lone_refusal (jamboree begun.grain) (own_after begun number at) (AdmitMore number more)) more own)
why begun number at more (inr full) =
    let shared = all_after begun at in
    let raise : SearchStep = AdmitMore number more in
    inr (room (shared_refusal (jamboree begun.grain) shared raise) (lone_refusal (jamboree begun.grain) (tenant_in shared.tenants number) raise) full)

module _ (begun : HallOf) (more : ReserveOf) (board : List Cell) (side : Side) (job : ℕ) (known : Known SearchStep) where
  spent-of : (number : ℕ) (first second third later : Entries) (words : Board) → board ≡ cells words →
      known.seen ≡ ((with_search first known.maker number words ++ second) ++ third) ++ later → seat_steps number (steps_of (second ++ third)) ≡ [] →
      IsReplyAt begun number first (Ask 3 board side) (Job job) → IsReplyAt begun number (with_search first known.maker number words ++ second) (Wait 1) (Told 1 Spent) →
      IsReplyAt begun number ((with_search first known.maker number words ++ second) ++ third) (Reserve more) (Refused 14) → IsSpentAsk begun more board job known
  spent-of number first second third later words is_board whole none (inr room) two three = absurd room
  spent-of number first second third later words is_board whole none (inl one) (inr room) three = absurd room
  spent-of number first second third later words is_board whole none (inl one) (inl two) three = (
    number,
    first,
    second,
    third,
    later,
    words,
    is_board,
    whole,
    none,
    (λ its is. ask-numbered begun.grain number its board side job (one ∙ ap (λ (t : Option Tenant). reply_to begun.grain number t (Ask 3 board side)) is)),
    (λ its is. job-spent (job_at its.jobs 1) (two ∙ ap (λ (t : Option Tenant). reply_to begun.grain number t (Wait 1)) is)),
    why begun number ((with_search first known.maker number words ++ second) ++ third) more three,
  )

  abbrev calls : List Made
  calls = (Ask 3 board side, Job job) ∷ (Wait 1, Told 1 Spent) ∷ (Reserve more, Refused 14) ∷ []

  pub spent-ask : (quota : ReserveOf) (all : List Made) (knew : Option (Known SearchStep)) → IsTenantOf begun all knew →
      all ≡ came quota ∷ (Ask 3 board side, Job job) ∷ (Wait 1, Told 1 Spent) ∷ (Reserve more, Refused 14) ∷ leaving → knew ≡ Some known → IsSpentAsk begun more board job known
  spent-ask quota all knew is are knows = spent-of h.number first second third later words a.4.2.0 whole none-between a.3 waited raised
    where
      h : Held begun quota calls known
      h = held begun quota all knew known is knows calls are

      a : AreAnswered begun h.number known.maker (h.before ++ (known.maker, Admit h.number quota) ∷ []) calls known.seen
      a = h.answered

      first : Entries
      first = (h.before ++ (known.maker, Admit h.number quota) ∷ []) ++ a.0

      words : Board
      words = a.4.0

      asked : Entries
      asked = with_search first known.maker h.number words

      after-ask : first ++ a.1 ≡ asked
      after-ask =
          let same : searching h.number words ≡ a.4.1 = cc a.4.3 in
          ap (λ (l : Entries). first ++ l) (a.4.4 ∙ ap (λ (s : SearchStep). (known.maker, s) ∷ []) (sym same))

      second : Entries
      second = a.5.0

      waited : IsReplyAt begun h.number (asked ++ second) (Wait 1) (Told 1 Spent)
      waited = subst (λ (l : Entries). IsReplyAt begun h.number (l ++ second) (Wait 1) (Told 1 Spent)) after-ask a.5.3

      after-wait : ((first ++ a.1) ++ second) ++ a.5.1 ≡ asked ++ second
      after-wait =
          let before = (first ++ a.1) ++ second in
          ap (λ (l : Entries). before ++ l) a.5.4 ∙ append-nil before ∙ ap (λ (l : Entries). l ++ second) after-ask

      third : Entries
      third = a.5.5.0

      raised : IsReplyAt begun h.number ((asked ++ second) ++ third) (Reserve more) (Refused 14)
      raised = subst (λ (l : Entries). IsReplyAt begun h.number (l ++ third) (Reserve more) (Refused 14)) after-wait a.5.5.3

      later : Entries
      later = a.5.5.5.0 ++ (known.maker, LeaveStep h.number) ∷ []

      whole : known.seen ≡ ((asked ++ second) ++ third) ++ later
      whole =
          let last = a.5.5.5 in
          let leave : Entries = (known.maker, LeaveStep h.number) ∷ [] in
          let before = (((first ++ a.1) ++ second) ++ a.5.1) ++ third in
          last.2 ∙ ap (λ (l : Entries). ((before ++ l) ++ last.0) ++ leave) a.5.5.4
          ∙ ap (λ (l : Entries). (l ++ last.0) ++ leave) (append-nil before ∙ ap (λ (l : Entries). l ++ third) after-wait)
          ∙ append_assoc ((asked ++ second) ++ third) last.0 leave

      none-between : seat_steps h.number (steps_of (second ++ third)) ≡ []
      none-between =
          ap (λ (l : List SearchStep). seat_steps h.number l) (steps-more second third) ∙ seat-more h.number (steps_of second) (steps_of third)
          ∙ ap (λ (l : List SearchStep). l ++ seat_steps h.number (steps_of third)) a.5.2 ∙ a.5.5.2
