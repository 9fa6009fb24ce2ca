-- What each change leaves of a tenant's tree of frames: an abort, a leaf removed, a frame added, other states and
-- values.
use Rattle.frame_table.proofs.Common.{AllAboveSerial, AllBelow, AreSerialsRising, Bool, Each, Frame, IsNextFrame, IsTree, IsTreeAfter, List, None, Some, [], aborted, append_assoc, arith, children_of, eq-eqb, eqb-true, false, filter, frame_at, frames_without, goes_under, if_kept, inl, inr, is_child_of, not, not_from_false, not_from_true, refl, sym, true, true≢false, ℕ, ◌++◌, ◌<◌, ◌∙◌, ◌∷◌, ◌≡◌, ◌≢◌}
use Rattle.frame_table.proofs.Places.{all-filter, rises-by-filter}
use Rattle.frame_table.proofs.TreeLaws.{IsPlaced, IsUnder, above-missing, children-by-paths, each-found, found-each, found-path, found-serial, found-there, frame_at-left, frame_at-right, missing, not-under-itself, placed, tree-rising, under-through}

module _ {T : Type 0} where
  -- frames that rise, each in its place, are a tree
  below-rising : (before : List (Frame T)) (x : Frame T) (xs : List (Frame T)) → AreSerialsRising (before ++ x ∷ xs) → AllBelow x.serial before
  below-rising [] x _ _ = tt
  below-rising (y ∷ before) x xs rising = (first y before x xs rising.0, below-rising before x xs rising.1)
    where
      first : (y : Frame T) (before : List (Frame T)) (x : Frame T) (xs : List (Frame T)) → AllAboveSerial y.serial (before ++ x ∷ xs) →
          y.serial < x.serial
      first y [] x _ above = above.0
      first y (z ∷ before) x xs above = first y before x xs above.1

  rising-right : (before xs : List (Frame T)) → AreSerialsRising (before ++ xs) → AreSerialsRising xs
  rising-right [] _ rising = rising
  rising-right (y ∷ before) xs rising = rising-right before xs rising.1

  -- a parent stands before its child
  module _ (before : List (Frame T)) (x : Frame T) (xs : List (Frame T)) where
    parent-before : (p : ℕ) (f : Frame T) → AreSerialsRising (before ++ x ∷ xs) → p < x.serial → frame_at (before ++ x ∷ xs) p ≡ Some f →
        frame_at before p ≡ Some f
    parent-before p f rising low at = grind (arith, frame_at-left, frame_at-right, rising-right, above-missing, found-there)

    next-from : AreSerialsRising (before ++ x ∷ xs) → IsPlaced (before ++ x ∷ xs) x → IsNextFrame before x
    next-from h4 h5 = grind (arith, below-rising, parent-before, found-there, found-path)

  tree-after : (before xs : List (Frame T)) → AreSerialsRising (before ++ xs) → Each (IsPlaced (before ++ xs)) xs → IsTreeAfter before xs
  tree-after _ [] _ _ = tt
  tree-after before (x ∷ xs) rising each = grind (arith, tree-after (before ++ x ∷ []) xs, append_assoc, next-from)

  -- the frames that pass a test
  module _ (keep : Frame T → Bool) where
    pub rising-filter : (xs : List (Frame T)) → AreSerialsRising xs → AreSerialsRising (filter keep xs)
    rising-filter xs rising = rises-by-filter (λ frame. frame.serial) keep xs rising

    pub AllBelow-filter : (s : ℕ) (xs : List (Frame T)) → AllBelow s xs → AllBelow s (filter keep xs)
    AllBelow-filter s xs below = all-filter (λ x. x.serial < s) keep xs below

    pub frame_at-filter : (xs : List (Frame T)) (s : ℕ) → AreSerialsRising xs → frame_at (filter keep xs) s ≡ if_kept keep (frame_at xs s)
    frame_at-filter [] s _ = refl
    frame_at-filter (x ∷ xs) s rising = grind (arith, frame_at-filter xs s, missing, above-missing, all-filter (λ y. x.serial < y.serial) keep xs)

    -- a frame that stays is found as before, and what is found was there and stays
    pub frame_at-stays : (xs : List (Frame T)) (s : ℕ) (f : Frame T) → AreSerialsRising xs → frame_at xs s ≡ Some f → keep f ≡ true →
        frame_at (filter keep xs) s ≡ Some f
    frame_at-stays xs s f rising at is = grind (arith, frame_at-filter)

    pub filter-found : (xs : List (Frame T)) (s : ℕ) (f : Frame T) → AreSerialsRising xs → frame_at (filter keep xs) s ≡ Some f →
        (frame_at xs s ≡ Some f) × (keep f ≡ true)
    filter-found xs s f rising at = let is = sym (frame_at-filter xs s rising) ∙ at in grind arith

    -- a tree stays one where each frame that stays has a parent that stays
    placed-filter : (xs : List (Frame T)) (f : Frame T) → AreSerialsRising xs → IsPlaced xs f → ((u : IsUnder xs f) → keep u.above ≡ true) →
        IsPlaced (filter keep xs) f
    placed-filter _ f _ (inl top) _ = inl top
    placed-filter xs f rising (inr u) closed =
        inr (record { parent = u.parent; above = u.above; named = u.named; there = frame_at-stays xs u.parent u.above rising u.there (closed u); below = u.below; path = u.path })

  tree-filter : (keep : Frame T → Bool) (xs : List (Frame T)) → IsTree xs →
      ((s : ℕ) (f : Frame T) → frame_at xs s ≡ Some f → keep f ≡ true → (u : IsUnder xs f) → keep u.above ≡ true) → IsTree (filter keep xs)
  tree-filter keep xs t closed = grind (arith, tree-rising, rising-filter, tree-after [] (filter keep xs), found-each, filter-found, placed-filter, placed)

  -- an abort leaves a tree, with the frame itself
  module _ (p : ℕ) (xs : List (Frame T)) where
    pub tree-aborted : IsTree xs → IsTree (aborted p xs)
    tree-aborted t =
        tree-filter (λ x. not (goes_under p x.path)) xs t (λ s f at stays u. let through = under-through xs f p t u in grind (arith, through, stays))

    pub frame_at-aborted : (s : ℕ) → IsTree xs → frame_at (aborted p xs) s ≡ if_kept (λ x. not (goes_under p x.path)) (frame_at xs s)
    frame_at-aborted s t = frame_at-filter (λ x. not (goes_under p x.path)) xs s (tree-rising xs t)

    pub aborted-itself : (f : Frame T) → IsTree xs → frame_at xs p ≡ Some f → frame_at (aborted p xs) p ≡ Some f
    aborted-itself f t at = grind (arith, frame_at-stays, tree-rising, not_from_false, not-under-itself)

  -- a child of a frame is under it, and one of a frame under p is under p
  module _ (xs : List (Frame T)) (p : ℕ) where
    pub child-under-parent : (s : ℕ) (x : Frame T) → IsTree xs → frame_at xs s ≡ Some x → is_child_of p x.path ≡ true → goes_under p x.path ≡ true
    child-under-parent s x t at child =
        elim (placed xs s x t at) [
          | inl top ↦ grind arith
          | inr u ↦ (let through = under-through xs x p t u in grind (arith, through, u.named))
        ]

    pub child-further-under : (q s : ℕ) (f x : Frame T) → IsTree xs → frame_at xs q ≡ Some f → goes_under p f.path ≡ true → frame_at xs s ≡ Some x →
        is_child_of q x.path ≡ true → goes_under p x.path ≡ true
    child-further-under q s f x t at_q goes at child =
        elim (placed xs s x t at) [
          | inl top ↦ grind arith
          | inr u ↦ (let through = under-through xs x p t u in grind (arith, through, u.named, u.there, eqb-true))
        ]

  -- two tests, one after the other
  filter-filter : (p q : Frame T → Bool) (xs : List (Frame T)) → Each (λ x. q x ≡ true → p x ≡ false) xs → filter q (filter p xs) ≡ []
  filter-filter p q [] _ = refl
  filter-filter p q (x ∷ xs) each = grind (arith, filter-filter p q xs)

  -- an abort at a frame leaves it no child
  pub aborted-leaf : (p : ℕ) (xs : List (Frame T)) → IsTree xs → children_of (aborted p xs) p ≡ []
  aborted-leaf p xs t = grind (arith, children-by-paths, tree-aborted, filter-filter, found-each, tree-rising, not_from_true, child-under-parent)

  -- a leaf that is removed leaves a tree
  pub no-child-found : (q : Frame T → Bool) (xs : List (Frame T)) (s : ℕ) (x : Frame T) → filter q xs ≡ [] → frame_at xs s ≡ Some x → q x ≡ false
  no-child-found q xs s x none at = each-found (λ y. q y ≡ false) xs s x (all xs none) at
    where
      all : (ys : List (Frame T)) → filter q ys ≡ [] → Each (λ y. q y ≡ false) ys
      all [] e = tt
      all (y ∷ ys) e = grind (arith, all ys)

  -- a tree without the frame p
  module _ (p : ℕ) where
    pub tree-without : (xs : List (Frame T)) → IsTree xs → children_of xs p ≡ [] → IsTree (frames_without p xs)
    tree-without xs t leaf = grind (arith, children-by-paths, tree-filter, not_from_false, found-serial, eqb-true, eq-eqb, true≢false, no-child-found)

    pub frame_at-without : (xs : List (Frame T)) → frame_at (frames_without p xs) p ≡ None
    frame_at-without [] = refl
    frame_at-without (x ∷ xs) = grind (arith, frame_at-without xs)

    pub frame_at-other-without : (xs : List (Frame T)) (s : ℕ) → p ≢ s → frame_at (frames_without p xs) s ≡ frame_at xs s
    frame_at-other-without [] s _ = refl
    frame_at-other-without (x ∷ xs) s other = grind (arith, frame_at-other-without xs s other)

    -- a root with all that is below it is removed
    pub tree-without_job : (xs : List (Frame T)) → IsTree xs → IsTree (frames_without p (aborted p xs))
    tree-without_job xs t = tree-without (aborted p xs) (tree-aborted p xs t) (aborted-leaf p xs t)

-- what the changes of a tree leave
pub ruleset under_laws = (not-under-itself, child-under-parent, child-further-under)

pub ruleset abort_laws = (tree-aborted, frame_at-aborted, aborted-itself, aborted-leaf)

pub ruleset removal_laws = (tree-without, tree-without_job, frame_at-without, frame_at-other-without)
