-- What some customers of a site see of the grants in its book.
use Rattle.site_book.proofs.Common.{◌≡◌, ℕ, Bool, true, false, List, [], ◌∷◌, ◌++◌, refl, arith, and_parts, ReserveOf, Grant, Who, used_by, is_held_as, grant_of, grants_without, grants_raised, grants_of}
use Rattle.site_book.proofs.NameLemmas.{same-is}

-- of their grants alone: what they use, and a grant more
module _ (is_one : Who → Bool) where
  pub used-theirs : (test : Who → Bool) (gs : List Grant) → ((w : Who) → test w ≡ true → is_one w ≡ true) → used_by test (grants_of is_one gs) ≡ used_by test gs
  used-theirs test [] among = refl
  used-theirs test (g ∷ gs) among = grind (arith, used-theirs test gs among)

  pub push-theirs : (gs : List Grant) (g : Grant) → is_one g.who ≡ true → grants_of is_one (gs ++ g ∷ []) ≡ grants_of is_one gs ++ g ∷ []
  push-theirs [] g own = grind arith
  push-theirs (h ∷ gs) g own = grind (arith, push-theirs gs g own)

  pub push-others : (gs : List Grant) (g : Grant) → is_one g.who ≡ false → grants_of is_one (gs ++ g ∷ []) ≡ grants_of is_one gs
  push-others [] g other = grind arith
  push-others (h ∷ gs) g other = grind (arith, push-others gs g other)

-- a session's grant among theirs
module _ (is_one : Who → Bool) (who : Who) (session : ℕ) where
  held-is : (b : Bool) (g : Grant) → is_one who ≡ b → is_held_as who session g ≡ true → is_one g.who ≡ b
  held-is b g own aye = grind (arith, same-is, and_parts)

  -- if it is theirs, it is found, removed and raised there as among all
  module _ (own : is_one who ≡ true) where
    pub grant-theirs : (gs : List Grant) → grant_of who session (grants_of is_one gs) ≡ grant_of who session gs
    grant-theirs [] = refl
    grant-theirs (g ∷ gs) = grind (arith, grant-theirs gs, held-is)

    pub without-theirs : (gs : List Grant) → grants_of is_one (grants_without who session gs) ≡ grants_without who session (grants_of is_one gs)
    without-theirs [] = refl
    without-theirs (g ∷ gs) = grind (arith, without-theirs gs, held-is)

    pub with-ask-theirs : (ask : ReserveOf) (gs : List Grant) → grants_of is_one (grants_raised who session ask gs) ≡ grants_raised who session ask (grants_of is_one gs)
    with-ask-theirs ask [] = refl
    with-ask-theirs ask (g ∷ gs) = grind (arith, with-ask-theirs ask gs, held-is)

  -- if it isn't, its removal or raise changes none of theirs
  module _ (other : is_one who ≡ false) where
    pub without-others : (gs : List Grant) → grants_of is_one (grants_without who session gs) ≡ grants_of is_one gs
    without-others [] = refl
    without-others (g ∷ gs) = grind (arith, without-others gs, held-is)

    pub with-ask-others : (ask : ReserveOf) (gs : List Grant) → grants_of is_one (grants_raised who session ask gs) ≡ grants_of is_one gs
    with-ask-others ask [] = refl
    with-ask-others ask (g ∷ gs) = grind (arith, with-ask-others ask gs, held-is)
