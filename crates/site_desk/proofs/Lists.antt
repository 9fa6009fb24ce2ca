-- At a site's desk: the sessions that are listed are those that have a grant, after each call.
use Rattle.site_desk.proofs.Common.{◌≡◌, ℕ, ◌<◌, ◌≤◌, ◌&&◌, inl, inr, Bool, true, false, cond, eqb, List, [], ◌∷◌, ◌++◌, length, refl, ap, sym, ◌∙◌, arith, length-append, cases_Bool, ReserveOf, Grant, Who, same_who, is_held_as, grants_without, BookOf, Opens, Raises, Closes, taken, Name, names_granted, PlanOf, SessionMark, Spoke, Waits, Told as told_to, Present, Whom, is_meant, is_present_as, marked, marked_all, marked_if, names_present, newcomer, without_present, stays, told_by, told_unless, with_staying, IsListed, names-with-ask}

abbrev name_of : Present → Name
name_of p = (p.who, p.session)

mark-name : (mark : SessionMark) (p : Present) → name_of (marked mark p) ≡ name_of p
mark-name (Spoke now) p = refl
mark-name (Waits waits now) p = refl
mark-name (told_to why) p = refl

marked-name : (whom : Whom) (mark : SessionMark) (p : Present) → name_of (marked_if whom mark p) ≡ name_of p
marked-name whom mark p = elim (cases_Bool (is_meant whom p)) [
  | inl aye ↦ rw aye (mark-name mark p)
  | inr nay ↦ rw nay refl
]

pub names_marked : (whom : Whom) (mark : SessionMark) (roll : List Present) → names_present (marked_all whom mark roll) ≡ names_present roll
names_marked whom mark [] = refl
names_marked whom mark (p ∷ roll) = λ i. marked-name whom mark p i ∷ names_marked whom mark roll i

told-name : (b : Bool) (p : Present) → name_of (told_unless b p) ≡ name_of p
told-name true p = refl
told-name false p = refl

pub names_told : (plan : PlanOf) (before gs : List Grant) (roll : List Present) → length gs ≡ length roll → names_present (told_by plan before gs roll) ≡ names_present roll
names_told plan before [] roll alike = refl
names_told plan before (g ∷ gs) [] alike = refl
names_told plan before (g ∷ gs) (p ∷ roll) alike =
    λ i. told-name (stays plan before g p) p i ∷ names_told plan (with_staying (stays plan before g p) before g) gs roll (omega (arith, alike)) i

pub roll-push : (roll : List Present) (p : Present) → names_present (roll ++ p ∷ []) ≡ names_present roll ++ name_of p ∷ []
roll-push [] p = refl
roll-push (q ∷ roll) p = ap (λ (l : List Name). name_of q ∷ l) (roll-push roll p)

pub book-push : (gs : List Grant) (g : Grant) → names_granted (gs ++ g ∷ []) ≡ names_granted gs ++ (g.who, g.session) ∷ []
book-push [] g = refl
book-push (h ∷ gs) g = ap (λ (l : List Name). (h.who, h.session) ∷ l) (book-push gs g)

abbrev is_named : Who → ℕ → Name → Bool
is_named who n name = same_who who name.0 && (eqb n name.1)

-- the names without the first that is this
abbrev drop_name : Who → ℕ → List Name → List Name
drop_name who n [] = []
drop_name who n (name ∷ names) = cond (is_named who n name) names (name ∷ drop_name who n names)

roll-drop : (who : Who) (n : ℕ) (roll : List Present) → names_present (without_present who n roll) ≡ drop_name who n (names_present roll)
roll-drop who n [] = refl
roll-drop who n (p ∷ roll) = elim (cases_Bool (is_present_as who n p)) [
  | inl aye ↦ rw aye refl
  | inr nay ↦ rw nay (ap (λ (l : List Name). name_of p ∷ l) (roll-drop who n roll))
]

book-drop : (who : Who) (n : ℕ) (gs : List Grant) → names_granted (grants_without who n gs) ≡ drop_name who n (names_granted gs)
book-drop who n [] = refl
book-drop who n (g ∷ gs) = elim (cases_Bool (is_held_as who n g)) [
  | inl aye ↦ rw aye refl
  | inr nay ↦ rw nay (ap (λ (l : List Name). (g.who, g.session) ∷ l) (book-drop who n gs))
]

roll-length : (roll : List Present) → length (names_present roll) ≡ length roll
roll-length [] = refl
roll-length (p ∷ roll) = (let rest = roll-length roll in omega (arith, rest))

book-length : (gs : List Grant) → length (names_granted gs) ≡ length gs
book-length [] = refl
book-length (g ∷ gs) = (let rest = book-length gs in omega (arith, rest))

pub alike : (gs : List Grant) (roll : List Present) → names_present roll ≡ names_granted gs → length gs ≡ length roll
alike gs roll is = sym (book-length gs) ∙ (ap length (sym is) ∙ roll-length roll)

-- after each call

pub listed-open : (book book' : BookOf) (roll : List Present) (who : Who) (n now : ℕ) (q : ReserveOf) → IsListed book roll → book' ≡ taken book (Opens who n q) → IsListed book' (roll ++ newcomer who n now ∷ [])
listed-open book book' roll who n now q is entered =
    roll-push roll (newcomer who n now) ∙ (ap (λ (l : List Name). l ++ (who, n) ∷ []) is ∙ (sym (book-push book.grants (record { who = who; session = n; ask = q })) ∙ ap (λ (b : BookOf). names_granted b.grants) (sym entered)))

pub listed-raise : (book book' : BookOf) (roll : List Present) (who : Who) (n : ℕ) (q : ReserveOf) → IsListed book roll → book' ≡ taken book (Raises who n q) → IsListed book' roll
listed-raise book book' roll who n q is raised =
    is ∙ (sym (names-with-ask who n q book.grants) ∙ ap (λ (b : BookOf). names_granted b.grants) (sym raised))

pub listed-close : (book book' : BookOf) (roll : List Present) (who : Who) (n : ℕ) → IsListed book roll → book' ≡ taken book (Closes who n) → IsListed book' (without_present who n roll)
listed-close book book' roll who n is closed =
    roll-drop who n roll ∙ (ap (drop_name who n) is ∙ (sym (book-drop who n book.grants) ∙ ap (λ (b : BookOf). names_granted b.grants) (sym closed)))

-- where a session was entered in the book there is a place for it in the roll
pub has-place : (book book' : BookOf) (roll : List Present) (who : Who) (n : ℕ) (q : ReserveOf) → IsListed book roll → book' ≡ taken book (Opens who n q) → length book'.grants ≤ 64 → length roll < 64
has-place book book' roll who n q is entered few =
    let more : length book'.grants ≡ length (book.grants ++ record { who = who; session = n; ask = q } ∷ []) = ap (λ (b : BookOf). length b.grants) entered in
    omega (arith, length-append book.grants (record { who = who; session = n; ask = q } ∷ []), more, alike book.grants roll is, few)
