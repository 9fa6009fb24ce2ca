-- At the book of a site's customers: what comes of who asks for a session, and of another plan.
use Rattle.site_book.proofs.Common.{◌≡◌, ℕ, suc, ◌+◌, ◌-◌, ◌<◌, ◌≤◌, ◌⊎◌, inl, inr, Bool, true, false, length-append, List, [], ◌∷◌, ◌++◌, length, Option, Some, None, refl, ap, ◌∙◌, subst, append_assoc, arith, Contains, cases_Bool, and_parts, not-true, ltb-true, is_some, is_none, Grant, BookRefusal, OverGuests, is_guest, PlanOf, IsKept, Enters, Ends, Refused, Told as those_told, Idle as those_idle, Present, ByPlan, first_told, is_idle, idler, idlest, remaining, by_book, unless_idle, stays, told_by, told_unless, with_staying}
use Rattle.site_book.proofs.Keepings.{kept-open}
use Rattle.site_book.specs.declared.present.Told.{Told}

pub record IsEnded (i : Option Present) (n : ℕ) : Type 0 where
  pub present : Present
  pub is : i ≡ Some present
  pub number : present.session ≡ n

-- of one for whom all guests have too much
module _ (r : BookRefusal) (w : Option BookRefusal) (i : Option Present) where
  not-enters : unless_idle r w i ≡ Enters → ⊥
  not-enters e = grind arith

  unless-ends : (n : ℕ) (q : BookRefusal) → unless_idle r w i ≡ Ends n q → IsEnded i n
  unless-ends n q e = grind arith

  unless-refused : (q : BookRefusal) → unless_idle r w i ≡ Refused q → r ≡ q
  unless-refused q e = grind arith

  unless-none : unless_idle r w i ≡ Refused OverGuests → w ≡ None → i ≡ None
  unless-none e none = grind arith

-- who enters, who is to end, and who is refused
module _ (o s w : Option BookRefusal) (i : Option Present) where
  pub only_enters : by_book o s w i ≡ Enters → o ≡ None
  only_enters e = grind (arith, not-enters)

  pub ends-idle : (n : ℕ) (q : BookRefusal) → by_book o s w i ≡ Ends n q → IsEnded i n
  ends-idle n q e = grind (arith, unless-ends)

  pub refused-now : (r : BookRefusal) → by_book o s w i ≡ Refused r → o ≡ Some r
  refused-now r e = grind (arith, unless-refused)

  pub refused-then : (r : BookRefusal) → by_book o s w i ≡ Refused r → s ≡ None → ⊥
  refused-then r e none = grind arith

  pub refused-idle : by_book o s w i ≡ Refused OverGuests → w ≡ None → i ≡ None
  refused-idle e none = grind (arith, unless-none)

-- who is idle

-- the idler of two is one of them
module _ (q : Present) (o : Option Present) where
  idler-one : (p : Present) → idler (Some q) o ≡ Some p → (q ≡ p) ⊎ (o ≡ Some p)
  idler-one p e = grind arith

  idler-some : idler (Some q) o ≡ None → ⊥
  idler-some e = grind arith

there-later : (q p : Present) (roll : List Present) → Contains roll p → Contains (q ∷ roll) p
there-later q p roll (k, less, at) = (suc k, omega (arith, less), at)

none-told : (o : Option Told) → is_none o ≡ true → o ≡ None
none-told o e = grind arith

pub record IsSilent (now most : ℕ) (p : Present) : Type 0 where
  pub guest : is_guest p.who ≡ true
  pub told : p.told ≡ None
  pub waits : p.waits ≡ false
  pub silent : most < now - p.last

-- the idlest of a roll is one of them, and idle
module _ (now most : ℕ) where
  pub idlest-there : (roll : List Present) (p : Present) → idlest now most roll ≡ Some p → Contains roll p × (is_idle now most p ≡ true)
  idlest-there [] p e = absurd cc
  idlest-there (q ∷ roll) p e =
      let later : idlest now most roll ≡ Some p → Contains (q ∷ roll) p × (is_idle now most p ≡ true) = λ rest. (let found = idlest-there roll p rest in (there-later q p roll found.0, found.1)) in
      elim (cases_Bool (is_idle now most q)) [
        | inl aye ↦ (elim (idler-one q (idlest now most roll) p (rw aye at e)) [
          | inl same ↦ ((0, omega arith, same), subst (λ (x : Present). is_idle now most x ≡ true) same aye)
          | inr rest ↦ later rest
        ])
        | inr nay ↦ later (rw nay at e)
      ]

  pub idle-parts : (p : Present) → is_idle now most p ≡ true → IsSilent now most p
  idle-parts p idle = grind (arith, and_parts, none-told, not-true, ltb-true)

  -- where nobody is idle only those go who were told to
  pub nobody-idle : (gs : List Grant) (roll : List Present) → idlest now most roll ≡ None → remaining (those_idle now most) gs roll ≡ remaining those_told gs roll
  nobody-idle (g ∷ gs) (p ∷ roll) e = elim (cases_Bool (is_idle now most p)) [
    | inl aye ↦ absurd (idler-some p (idlest now most roll) (rw aye at e))
    | inr nay ↦ (let rest = nobody-idle gs roll (rw nay at e) in
        elim (cases_Bool (is_some p.told)) [
          | inl told ↦ rw told rest
          | inr keeps ↦ rw (nay, keeps) (ap (λ (l : List Grant). g ∷ l) rest)
        ])
  ]
  nobody-idle gs roll e = grind arith

-- another plan

some-told : (o : Option Told) (why : Told) → is_some (first_told o why) ≡ true
some-told o why = grind arith

none-some : (o : Option Told) → is_none o ≡ true → is_some o ≡ false
none-some o e = grind arith

none-over : (o : Option BookRefusal) → is_none o ≡ true → o ≡ None
none-over o e = grind arith

append-none : (gs : List Grant) → gs ++ [] ≡ gs
append-none [] = refl
append-none (g ∷ gs) = ap (λ (l : List Grant). g ∷ l) (append-none gs)

-- the plan keeps the grants that are left after the told ones have gone
module _ (plan : PlanOf) where
  pub left-kept : (before gs : List Grant) (roll : List Present) → IsKept plan before → length roll ≡ length gs → IsKept plan (before ++ remaining those_told gs (told_by plan before gs roll))
  left-kept before (g ∷ gs) (p ∷ roll) kept alike =
      let rest_alike : length roll ≡ length gs = omega (arith, alike) in
      elim (cases_Bool (stays plan before g p)) [
        | inl aye ↦ (let both = and_parts _ _ aye in
            let more = kept-open plan before g.who g.session g.ask kept (none-over _ both.1) in
            let put = append_assoc before (g ∷ []) (remaining those_told gs (told_by plan (before ++ g ∷ []) gs roll)) in
            rw (aye, none-some p.told both.0) (subst (IsKept plan) put (left-kept (before ++ g ∷ []) gs roll more rest_alike)))
        | inr nay ↦ rw (nay, some-told p.told ByPlan) (left-kept before gs roll kept rest_alike)
      ]
  left-kept before gs roll kept alike = grind (arith, append-none)

  -- a step of the loop over all grants
  pub told-step : (before after gs : List Grant) (g : Grant) (roll : List Present) (p j : Present) (told more whole : List Present) → j ≡ told_unless (stays plan before g p) p →
      after ≡ with_staying (stays plan before g p) before g → more ≡ told ++ j ∷ [] → told ++ told_by plan before (g ∷ gs) (p ∷ roll) ≡ whole → more ++ told_by plan after gs roll ≡ whole
  told-step before after gs g roll p j told more whole judged kept pushed so =
      ap (λ (l : List Present). l ++ told_by plan after gs roll) pushed
      ∙ (append_assoc told (j ∷ []) (told_by plan after gs roll) ∙ ((λ i. told ++ (judged i ∷ told_by plan (kept i) gs roll)) ∙ so))

pub staying-length : (b : Bool) (before after : List Grant) (g : Grant) → after ≡ with_staying b before g → length after ≤ length before + 1
staying-length b before after g is = grind (arith, length-append)
