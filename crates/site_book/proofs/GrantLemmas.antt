-- In the book of a site's customers: what a new grant (a session's entry), a raise and an end leave of what some
-- grants have together.
use Rattle.site_book.proofs.Common.{◌≡◌, ℕ, suc, ◌<◌, ◌≤◌, Bool, true, false, ◌&&◌, ◌||◌, cond, List, [], ◌∷◌, ◌++◌, length, get_or, set, ltb, Some, None, refl, arith, nat_tests, is_some, remove, ReserveOf, Amount, Grant, Group, All, Who, nothing, of_one, plus, IsAmountWithin, is_in, used_by, used, is_held_as, grant_place, grant_of, grants_without, grants_raised}
use Rattle.site_book.proofs.AmountLemmas.{plus-swap, plus-group, within-same, within-plus, within-more}

module _ (test : Who → Bool) where
  -- of one grant more
  pub used-push : (gs : List Grant) (g : Grant) → used_by test (gs ++ g ∷ []) ≡ cond (test g.who) (plus (of_one g.ask) (used_by test gs)) (used_by test gs)
  used-push [] g = refl
  used-push (h ∷ gs) g = grind (arith, used-push gs g, plus-swap)

  -- what all have but the one at a place
  pub used-removed : (gs : List Grant) (i : ℕ) (held : Grant) → i < length gs → held ≡ get_or gs i held →
      used_by test gs ≡ cond (test held.who) (plus (of_one held.ask) (used_by test (remove gs i))) (used_by test (remove gs i))
  used-removed (g ∷ gs) (suc i) held less at = grind (arith, used-removed gs i held, plus-swap)
  used-removed gs i held less at = grind arith

  module _ (who : Who) (session : ℕ) where
    -- one grant fewer leaves no more
    pub used-without-le : (gs : List Grant) → IsAmountWithin (used_by test (grants_without who session gs)) (used_by test gs)
    used-without-le [] = within-same nothing
    used-without-le (g ∷ gs) = grind (arith, used-without-le gs, within-more, within-same, within-plus)

    module _ (ask : ReserveOf) where
      -- the grant's own part, with another amount: that and all others
      pub used-with-ask : (gs : List Grant) (held : Grant) → grant_of who session gs ≡ Some held → test held.who ≡ true →
          used_by test (grants_raised who session ask gs) ≡ plus (of_one ask) (used_by test (grants_without who session gs))
      used-with-ask [] held is own = absurd cc
      used-with-ask (g ∷ gs) held is own = grind (arith, used-with-ask gs held, plus-swap)

      -- another part
      pub used-with-ask-other : (gs : List Grant) (held : Grant) → grant_of who session gs ≡ Some held → test held.who ≡ false → used_by test (grants_raised who session ask gs) ≡ used_by test gs
      used-with-ask-other [] held is other = refl
      used-with-ask-other (g ∷ gs) held is other = grind (arith, used-with-ask-other gs held)

pub within-push : (part : Group) (gs : List Grant) (g : Grant) (limit : Amount) → IsAmountWithin (used part gs) limit → (is_in part g.who ≡ true → IsAmountWithin (plus (of_one g.ask) (used part gs)) limit) →
    IsAmountWithin (used part (gs ++ g ∷ [])) limit
within-push part gs g limit now more = grind (arith, used-push)

-- all sessions are as many as the grants
pub used-all : (gs : List Grant) → (used All gs).sessions ≡ length gs
used-all [] = refl
used-all (g ∷ gs) = grind (arith, used-all gs)

-- what stands at the place of a session, and what a removal and a write there do
pub record IsPlace (who : Who) (session : ℕ) (gs : List Grant) (i : ℕ) : Type 0 where
  pub found : (held : Grant) → held ≡ get_or gs i held → grant_of who session gs ≡ Some held
  pub removed : remove gs i ≡ grants_without who session gs
  pub written : (held : Grant) (ask : ReserveOf) → held ≡ get_or gs i held → set gs i (record held { ask = ask }) ≡ grants_raised who session ask gs

-- a session's grant: how many there are without it, where it stands, and whether there is one
module _ (who : Who) (session : ℕ) where
  pub length-without : (gs : List Grant) → length (grants_without who session gs) ≤ length gs
  length-without [] = omega arith
  length-without (g ∷ gs) = grind (arith, length-without gs)

  -- the grant that is found is of the session
  pub found-own : (gs : List Grant) (held : Grant) → grant_of who session gs ≡ Some held → is_held_as who session held ≡ true
  found-own [] held is = absurd cc
  found-own (g ∷ gs) held is = grind (arith, found-own gs held)

  -- places

  pub place-is : (gs : List Grant) → grant_place who session gs < length gs → IsPlace who session gs (grant_place who session gs)
  place-is [] less = absurd (omega arith)
  place-is (g ∷ gs) less = grind (arith, place-is gs)

  -- there is no such session where its place is behind all grants
  pub place-none : (gs : List Grant) → length gs ≤ grant_place who session gs → grant_of who session gs ≡ None
  place-none [] past = refl
  place-none (g ∷ gs) past = grind (arith, place-none gs)

  pub without-none : (gs : List Grant) → length gs ≤ grant_place who session gs → grants_without who session gs ≡ gs
  without-none [] past = refl
  without-none (g ∷ gs) past = grind (arith, without-none gs)

  -- a session is there exactly where its place is one of a grant
  pub there-is : (gs : List Grant) → ltb (grant_place who session gs) (length gs) ≡ is_some (grant_of who session gs)
  there-is [] = refl
  there-is (g ∷ gs) = grind (arith, there-is gs, nat_tests)

split-step : (s t u : Bool) (one a b d : Amount) → s ≡ (t || u) → (t && u) ≡ false → a ≡ plus b d → cond s (plus one a) a ≡ plus (cond t (plus one b) b) (cond u (plus one d) d)
split-step s t u one a b d both apart rest = grind (arith, plus-group, plus-swap)

-- a split of a test in two
pub used-split : (f g h : Who → Bool) (gs : List Grant) → ((w : Who) → f w ≡ (g w || h w)) → ((w : Who) → (g w && h w) ≡ false) → used_by f gs ≡ plus (used_by g gs) (used_by h gs)
used-split f g h [] both apart = refl
used-split f g h (held ∷ gs) both apart = split-step _ _ _ _ _ _ _ (both held.who) (apart held.who) (used-split f g h gs both apart)

-- tests that agree
pub used-alike : (f g : Who → Bool) (gs : List Grant) → ((w : Who) → f w ≡ g w) → used_by f gs ≡ used_by g gs
used-alike f g [] same = refl
used-alike f g (held ∷ gs) same = λ i. cond (same held.who i) (plus (of_one held.ask) (used-alike f g gs same i)) (used-alike f g gs same i)
