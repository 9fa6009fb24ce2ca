-- A tenant's tree of frames, frame by frame: each stands under its parent, and what follows for look-ups, paths and
-- children.
use Rattle.frame_table.proofs.Common.{AllAboveSerial, AllBelow, AreSerialsRising, Bool, Each, Frame, IsNextFrame, IsTree, IsTreeAfter, List, None, Option, Some, [], ap, append-nil, append_assoc, arith, cases_Bool, cases_eq, children_of, eq-eqb, eqb, eqb-true, false, false≢true, filter, frame_at, goes_under, has_frame, has_parent, inl, inr, is_child_of, is_one_more, ne_eqb, or_cases, parent_of, path_in, path_under, refl, rising-push, suc, sym, true, true≢false, zero, ℕ, ◌++◌, ◌<◌, ◌||◌, ◌∙◌, ◌∷◌, ◌≡◌, ◌≢◌, ◌≤◌, ◌⊎◌}
use Rattle.frame_table.proofs.Forest.{EndsIn, EndsIn-append, goes_under-append, has_frame-above}

-- the last serial of a path is one alone
EndsIn-unique : (path : List ℕ) (a b : ℕ) → EndsIn path a → EndsIn path b → a ≡ b
EndsIn-unique [] a b p q = absurd p
EndsIn-unique (x ∷ []) a b p q = sym p ∙ q
EndsIn-unique (x ∷ y ∷ path) a b p q = EndsIn-unique (y ∷ path) a b p q

-- a path with one more is that of one path alone
one_more-same : (path : List ℕ) (serial : ℕ) → is_one_more path (path ++ serial ∷ []) ≡ true
one_more-same [] _ = refl
one_more-same (x ∷ path) serial = rw (eq-eqb x x refl) (one_more-same path serial)

one_more-is : (above path : List ℕ) (serial : ℕ) → is_one_more above (path ++ serial ∷ []) ≡ true → above ≡ path
one_more-is [] [] _ e = refl
one_more-is [] (y ∷ []) _ e = absurd (false≢true e)
one_more-is [] (y ∷ z ∷ _) _ e = absurd (false≢true e)
one_more-is (x ∷ []) [] serial e = grind arith
one_more-is (x ∷ y ∷ above) [] serial e = grind arith
one_more-is (x ∷ above) (y ∷ path) serial e = grind (arith, one_more-is above path serial)

-- a frame in its place among others: a root, whose path is its serial alone, or one step further than its parent, which is there and has a lower serial
pub record IsUnder {T : Type 0} (frames : List (Frame T)) (frame : Frame T) : Type 0 where
  pub parent : ℕ
  pub above : Frame T
  pub named : parent_of frame.path ≡ Some parent
  pub there : frame_at frames parent ≡ Some above
  pub below : parent < frame.serial
  pub path : frame.path ≡ above.path ++ frame.serial ∷ []

module _ {T : Type 0} where
  -- a frame that is found, or is not there
  pub missing : (frames : List (Frame T)) (serial : ℕ) → has_frame frames serial ≡ false → frame_at frames serial ≡ None
  missing [] _ h = refl
  missing (x ∷ xs) serial h = grind (arith, missing xs serial)

  pub found-path : (frames : List (Frame T)) (serial : ℕ) (frame : Frame T) → frame_at frames serial ≡ Some frame → path_in frames serial ≡ frame.path
  found-path [] serial frame at = absurd cc
  found-path (x ∷ xs) serial frame at = grind (arith, found-path xs serial frame)

  pub found-there : (frames : List (Frame T)) (serial : ℕ) (frame : Frame T) → frame_at frames serial ≡ Some frame → has_frame frames serial ≡ true
  found-there [] serial frame at = absurd cc
  found-there (x ∷ xs) serial frame at = grind (arith, found-there xs serial frame)

  pub there-found : (frames : List (Frame T)) (serial : ℕ) → has_frame frames serial ≡ true → (frame : Frame T) × (frame_at frames serial ≡ Some frame)
  there-found [] _ there = absurd (false≢true there)
  there-found (x ∷ xs) serial there =
      elim (cases_Bool (eqb x.serial serial)) [ inl same ↦ (x, rw same refl) | inr other ↦ (let rest = there-found xs serial (rw other at there) in (rest.0, rw other rest.1)) ]

  pub found-serial : (frames : List (Frame T)) (serial : ℕ) (frame : Frame T) → frame_at frames serial ≡ Some frame → frame.serial ≡ serial
  found-serial [] serial frame at = absurd cc
  found-serial (x ∷ xs) serial frame at = grind (arith, found-serial xs serial frame)

  pub found-own : (frames : List (Frame T)) (serial : ℕ) (frame : Frame T) → frame_at frames serial ≡ Some frame → frame_at frames frame.serial ≡ Some frame
  found-own frames serial frame at = grind (arith, found-serial)

  pub frame_at-left : (xs ys : List (Frame T)) (serial : ℕ) → has_frame xs serial ≡ true → frame_at (xs ++ ys) serial ≡ frame_at xs serial
  frame_at-left [] _ _ there = absurd (false≢true there)
  frame_at-left (x ∷ xs) ys serial there = grind (arith, frame_at-left xs ys serial)

  pub frame_at-right : (xs ys : List (Frame T)) (serial : ℕ) → has_frame xs serial ≡ false → frame_at (xs ++ ys) serial ≡ frame_at ys serial
  frame_at-right [] _ _ _ = refl
  frame_at-right (x ∷ xs) ys serial lacks = grind (arith, frame_at-right xs ys serial)

  -- one frame more: another serial is found as before, and its own where it is above all
  pub frame_at-other-push : (xs : List (Frame T)) (y : Frame T) (serial : ℕ) → y.serial ≢ serial → frame_at (xs ++ y ∷ []) serial ≡ frame_at xs serial
  frame_at-other-push [] y serial other = rw (ne_eqb y.serial serial other) refl
  frame_at-other-push (x ∷ xs) y serial other = grind (arith, frame_at-other-push xs y serial other)

  pub frame_at-push : (xs : List (Frame T)) (y : Frame T) → AllBelow y.serial xs → frame_at (xs ++ y ∷ []) y.serial ≡ Some y
  frame_at-push xs y below = grind (arith, frame_at-right, has_frame-above, eq-eqb)

  -- a serial below a bound on all
  pub below-found : (xs : List (Frame T)) (bound serial : ℕ) → AllBelow bound xs → has_frame xs serial ≡ true → serial < bound
  below-found [] _ _ _ there = absurd (false≢true there)
  below-found (x ∷ xs) bound serial below there = grind (arith, below-found xs bound serial)

  -- the frames of a tree rise
  rising-with : (before frames : List (Frame T)) → AreSerialsRising before → IsTreeAfter before frames → AreSerialsRising (before ++ frames)
  rising-with _ [] rise t = rw append-nil rise
  rising-with before (x ∷ xs) rise t = rw append_assoc at (rising-with (before ++ x ∷ []) xs (rising-push (λ f. f.serial) x before t.0.above rise) t.1)

  pub tree-rising : (frames : List (Frame T)) → IsTree frames → AreSerialsRising frames
  tree-rising frames t = rising-with [] frames tt t

  -- what rises above a serial hasn't got it
  pub above-missing : (xs : List (Frame T)) (low serial : ℕ) → serial ≤ low → AllAboveSerial low xs → has_frame xs serial ≡ false
  above-missing [] _ _ _ _ = refl
  above-missing (x ∷ xs) low serial le above = grind (arith, above-missing xs low serial le)

  -- a fact of each frame that is found, and of each frame of the list
  module _ (P : Frame T → Type 0) where
    pub each-found : (frames : List (Frame T)) (serial : ℕ) (frame : Frame T) → Each P frames → frame_at frames serial ≡ Some frame → P frame
    each-found [] serial frame each at = absurd cc
    each-found (x ∷ xs) serial frame each at = grind (arith, each-found xs serial frame)

    pub found-each : (frames : List (Frame T)) → AreSerialsRising frames → ((serial : ℕ) (frame : Frame T) → frame_at frames serial ≡ Some frame → P frame) →
        Each P frames
    found-each [] _ _ = tt
    found-each (x ∷ xs) rising all = (
      all x.serial x (rw (eq-eqb x.serial x.serial refl) refl),
      found-each xs rising.1 (λ serial frame at. all serial frame (let there = found-there xs serial frame at in grind (arith, there, at, eqb-true, above-missing))),
    )

  abbrev pub IsTop : Frame T → Type 0
  IsTop frame = (parent_of frame.path ≡ None) × (frame.path ≡ frame.serial ∷ [])

  abbrev pub IsPlaced : List (Frame T) → Frame T → Type 0
  IsPlaced frames frame = IsTop frame ⊎ IsUnder frames frame

  placed-next : (before frames : List (Frame T)) (x : Frame T) → IsNextFrame before x → IsPlaced (before ++ frames) x
  placed-next before frames x n = by (parent_of x.path) refl
    where
      by : (parent : Option ℕ) → parent_of x.path ≡ parent → IsPlaced (before ++ frames) x
      by None e = inl (e, n.path ∙ ap (λ p. path_under before p x.serial) e)
      by (Some p) e =
          let there : has_frame before p ≡ true = sym (ap (has_parent before) e) ∙ n.parent in
          let f = there-found before p there in
          inr (record {
            parent = p;
            above = f.0;
            named = e;
            there = frame_at-left before frames p there ∙ f.1;
            below = below-found before x.serial p n.above there;
            path = n.path ∙ ap (λ q. path_under before q x.serial) e ∙ ap (λ path. path ++ x.serial ∷ []) (found-path before p f.0 f.1);
          })

  placed-after : (before frames : List (Frame T)) → IsTreeAfter before frames → Each (IsPlaced (before ++ frames)) frames
  placed-after _ [] t = tt
  placed-after before (x ∷ xs) t = grind (arith, placed-after (before ++ x ∷ []) xs, placed-next, append_assoc)

  -- in a tree each frame is in its place
  module _ (frames : List (Frame T)) where
    pub placed : (serial : ℕ) (frame : Frame T) → IsTree frames → frame_at frames serial ≡ Some frame → IsPlaced frames frame
    placed serial frame t at = each-found (IsPlaced frames) frames serial frame (placed-after [] frames t) at

    pub found-ends : (serial : ℕ) (frame : Frame T) → IsTree frames → frame_at frames serial ≡ Some frame → EndsIn frame.path serial
    found-ends serial frame t at =
        let place = placed serial frame t at in let own = found-serial frames serial frame at in grind (arith, place, own, EndsIn-append)

  -- a fact that each frame of a tree has where its parent has it
  module _ (P : Frame T → Type 0) (frames : List (Frame T)) (t : IsTree frames) (top : ((frame : Frame T) → IsTop frame → P frame))
      (under : ((frame : Frame T) → (u : IsUnder frames frame) → P u.above → P frame)) where
    by-parents : (bound serial : ℕ) (frame : Frame T) → serial < bound → frame_at frames serial ≡ Some frame → P frame
    by-parents zero serial frame low at = absurd (omega arith)
    by-parents (suc bound) serial frame low at =
        elim (placed frames serial frame t at) [
          | inl is ↦ top frame is
          | inr u ↦ grind (arith, by-parents bound u.parent u.above, found-serial)
        ]

    pub tree-induction : (serial : ℕ) (frame : Frame T) → frame_at frames serial ≡ Some frame → P frame
    tree-induction serial frame at = by-parents (suc serial) serial frame (omega arith) at

  -- a path goes under a frame through its parent, or where its parent goes
  pub under-through : (frames : List (Frame T)) (frame : Frame T) (p : ℕ) → IsTree frames → (u : IsUnder frames frame) →
      goes_under p frame.path ≡ (eqb u.parent p || goes_under p u.above.path)
  under-through frames frame p t u = grind (arith, goes_under-append, found-ends)

  -- what a path goes through is there, and has a lower serial
  abbrev pub GoesThrough : List (Frame T) → Frame T → Type 0
  GoesThrough frames frame = (p : ℕ) → goes_under p frame.path ≡ true → (p < frame.serial) × (has_frame frames p ≡ true)

  -- a path goes through frames that are there, of lower serials
  module _ (frames : List (Frame T)) (serial : ℕ) (frame : Frame T) (t : IsTree frames) (at : frame_at frames serial ≡ Some frame) where
    pub goes-through : GoesThrough frames frame
    goes-through =
        tree-induction (GoesThrough frames) frames t
        (λ frame top p goes. grind arith)
        (λ frame u above p goes. elim (or_cases (eqb u.parent p) (goes_under p u.above.path) (sym (under-through frames frame p t u) ∙ goes)) [
          | inl same ↦ grind (arith, eqb-true, found-there)
          | inr through ↦ grind (arith, found-serial)
        ])
        serial frame at

    -- no frame is under itself
    pub not-under-itself : goes_under serial frame.path ≡ false
    not-under-itself = let own = found-serial frames serial frame at in let low = goes-through serial in grind (arith, own, low)

  -- the children of a frame are those whose path has its serial as the last but one
  child-top : (above : List ℕ) (s : ℕ) (x : Frame T) → EndsIn above s → IsTop x → is_one_more above x.path ≡ is_child_of s x.path
  child-top [] s x ends _ = absurd ends
  child-top (a ∷ []) s x ends top = grind arith
  child-top (a ∷ b ∷ above) s x ends top = grind arith

  child-under : (frames : List (Frame T)) (s : ℕ) (f x : Frame T) → IsTree frames → frame_at frames s ≡ Some f → (u : IsUnder frames x) →
      is_one_more f.path x.path ≡ is_child_of s x.path
  child-under frames s f x t at u =
      elim (cases_eq u.parent s) [
        | inl same ↦ grind (arith, one_more-same, eq-eqb)
        | inr other ↦ (let is = one_more-is f.path u.above.path x.serial in let ends = found-ends frames s f t at in let own = found-ends frames u.parent u.above t u.there in
            grind (arith, is, ends, own, u.path, u.named, EndsIn-unique, ne_eqb))
      ]

  -- filters by tests that agree on each frame, and by one that none passes
  module _ (p : Frame T → Bool) where
    pub filter-alike : (q : Frame T → Bool) (frames : List (Frame T)) → Each (λ x. p x ≡ q x) frames → filter p frames ≡ filter q frames
    filter-alike q [] _ = refl
    filter-alike q (x ∷ xs) each = grind (arith, filter-alike q xs)

    pub filter-none : (frames : List (Frame T)) → Each (λ x. p x ≡ false) frames → filter p frames ≡ []
    filter-none [] _ = refl
    filter-none (x ∷ xs) each = grind (arith, filter-none xs)

    pub filter-every : (frames : List (Frame T)) → Each (λ x. p x ≡ true) frames → filter p frames ≡ frames
    filter-every [] _ = refl
    filter-every (x ∷ xs) each = grind (arith, filter-every xs)

  -- the children of a frame are those whose paths say so
  module _ (frames : List (Frame T)) (s : ℕ) where
    not-child-missing : (x : Frame T) → has_frame frames s ≡ false → IsPlaced frames x → is_child_of s x.path ≡ false
    not-child-missing x _ (inl top) = rw top.0 refl
    not-child-missing x lacks (inr u) = grind (arith, ne_eqb, true≢false, found-there)

    pub children-by-paths : IsTree frames → children_of frames s ≡ filter (λ x. is_child_of s x.path) frames
    children-by-paths t = grind (arith, cases_Bool, there-found, filter-alike, found-each, tree-rising, placed, child-top, found-ends, child-under, missing, filter-none, not-child-missing)

    -- the same, part by part
    pub top-path : (frame : Frame T) → IsTree frames → frame_at frames s ≡ Some frame → parent_of frame.path ≡ None → frame.path ≡ s ∷ []
    top-path frame t at none = let place = placed frames s frame t at in let own = found-serial frames s frame at in grind (arith, place, own)

  -- a frame whose path names a parent: the parent is there, and of a lower serial
  module _ (frames : List (Frame T)) (s p : ℕ) (frame : Frame T) (t : IsTree frames) (at : frame_at frames s ≡ Some frame)
      (named : parent_of frame.path ≡ Some p) where
    pub named-under : (u : IsUnder frames frame) × (u.parent ≡ p)
    named-under =
        elim (placed frames s frame t at) [
          | inl top ↦ (let e = top.0 in absurd cc)
          | inr u ↦ (u, (let both : Some u.parent ≡ Some p = sym u.named ∙ named in cc))
        ]

    pub under-path : frame.path ≡ path_in frames p ++ s ∷ []
    under-path = grind (arith, named-under, found-path, found-serial)

    pub under-there : has_frame frames p ≡ true
    under-there = grind (arith, named-under, found-there)

    pub under-below : p < s
    under-below = grind (arith, named-under, found-serial)

-- what holds of each frame of a tree
pub ruleset parent_laws = (tree-rising, found-serial, top-path, under-path, under-there, under-below, children-by-paths)
