-- A tenant's tree with one frame more, with another state in a frame, and with other values: what is found, the
-- children, and that it is a tree.
use Rattle.frame_table.proofs.Common.{AllBelow, AreAlike, Bool, Frame, IsNextFrame, IsTree, IsTreeAfter, List, None, Option, Some, State, [], aborted, append-nil, append_assoc, arith, children_of, eqb, filter, filter-append, frame_at, frames_under, frames_without, goes_under, has_frame, has_parent, is_child_of, map, map-append, map-map, map_value, map_values, new_frame, not, option_map, parent_of, path_in, path_under, refl, root_of, sym, true, values_of, with_state, ℕ, ◌++◌, ◌∙◌, ◌∷◌, ◌≡◌, ◌≢◌}
use Rattle.frame_table.proofs.Finds.{filter-map}
use Rattle.frame_table.proofs.Forest.{parent_of-append, root_of-append}
use Rattle.frame_table.proofs.TreeLaws.{children-by-paths, found-ends, found-own, found-path, frame_at-other-push, frame_at-push, there-found, tree-induction}

module _ {T : Type 0} where
  -- one frame more
  tree-push-after : (before xs : List (Frame T)) (y : Frame T) → IsTreeAfter before xs → IsNextFrame (before ++ xs) y →
      IsTreeAfter before (xs ++ y ∷ [])
  tree-push-after _ [] y t next = (rw append-nil at next, tt)
  tree-push-after before (x ∷ xs) y t next = grind (arith, tree-push-after (before ++ x ∷ []) xs y, append_assoc)

  -- a tree with a frame more
  module _ (xs : List (Frame T)) where
    pub tree-push : (y : Frame T) → IsTree xs → IsNextFrame xs y → IsTree (xs ++ y ∷ [])
    tree-push y t next = tree-push-after [] xs y t next

    -- the parent of a new frame
    pub parent_of-path_under : (parent : Option ℕ) (serial : ℕ) → IsTree xs → has_parent xs parent ≡ true → parent_of (path_under xs parent serial) ≡ parent
    parent_of-path_under None _ t _ = refl
    parent_of-path_under (Some p) serial t there =
        let f = there-found xs p there in
        parent_of-append (path_in xs p) p serial (rw (found-path xs p f.0 f.1) (found-ends xs p f.0 t f.1))

  -- a new frame of a higher serial is next in the tree
  module _ (xs : List (Frame T)) (serial : ℕ) (parent : Option ℕ) (home : ℕ) (value : T) (t : IsTree xs) (below : AllBelow serial xs)
      (there : has_parent xs parent ≡ true) where
    pub new-frame-next : IsNextFrame xs (new_frame xs serial parent home value)
    new-frame-next = grind (arith, parent_of-path_under)

    pub tree-new_frame : IsTree (xs ++ new_frame xs serial parent home value ∷ [])
    tree-new_frame = tree-push xs (new_frame xs serial parent home value) t new-frame-next

  -- it is the last child of its parent, and nobody else's
  pub children_of-push : (xs : List (Frame T)) (y : Frame T) (s : ℕ) → IsTree xs → IsNextFrame xs y →
      children_of (xs ++ y ∷ []) s ≡ children_of xs s ++ filter (λ x. is_child_of s x.path) (y ∷ [])
  children_of-push xs y s t next = grind (arith, children-by-paths, tree-push, filter-append)

  -- the root above a frame is there
  pub root-there : (xs : List (Frame T)) (s : ℕ) (f : Frame T) → IsTree xs → frame_at xs s ≡ Some f →
      path_in xs (root_of f.path) ≡ root_of f.path ∷ []
  root-there xs s f t is =
      let P : Frame T → Type 0 = λ x. frame_at xs x.serial ≡ Some x → path_in xs (root_of x.path) ≡ root_of x.path ∷ [] in
      tree-induction P xs t (λ x top own. rw top.1 (found-path xs x.serial x own ∙ top.1))
      (λ x u above own. let top = above (found-own xs u.parent u.above u.there) in rw (u.path, root_of-append u.above.path x.serial u.parent (found-ends xs u.parent u.above t u.there)) top)
      s f is (found-own xs s f is)

-- a frame that is no root is under the root of its path
pub under-root : (path : List ℕ) (p : ℕ) → parent_of path ≡ Some p → goes_under (root_of path) path ≡ true
under-root path p h3 = grind arith

-- frames of the same serials and paths
module _ {T U : Type 0} where
  has_frame-alike : (xs : List (Frame T)) (ys : List (Frame U)) (s : ℕ) → AreAlike xs ys → has_frame ys s ≡ has_frame xs s
  has_frame-alike (x ∷ xs) (y ∷ ys) s alike = grind (arith, has_frame-alike xs ys s)
  has_frame-alike xs ys s alike = grind arith

  pub path_in-alike : (xs : List (Frame T)) (ys : List (Frame U)) (s : ℕ) → AreAlike xs ys → path_in ys s ≡ path_in xs s
  path_in-alike (x ∷ xs) (y ∷ ys) s alike = grind (arith, path_in-alike xs ys s)
  path_in-alike xs ys s alike = grind arith

  pub AllBelow-alike : (xs : List (Frame T)) (ys : List (Frame U)) (bound : ℕ) → AreAlike xs ys → AllBelow bound xs → AllBelow bound ys
  AllBelow-alike (x ∷ xs) (y ∷ ys) bound alike below = grind (arith, AllBelow-alike xs ys bound)
  AllBelow-alike xs ys bound alike below = grind arith

  alike-append : (xs : List (Frame T)) (ys : List (Frame U)) (x : Frame T) (y : Frame U) → AreAlike xs ys → y.serial ≡ x.serial → y.path ≡ x.path →
      AreAlike (xs ++ x ∷ []) (ys ++ y ∷ [])
  alike-append (z ∷ xs) (w ∷ ys) x y alike s p = grind (arith, alike-append xs ys x y)
  alike-append xs ys x y alike s p = grind arith

  path_under-alike : (xs : List (Frame T)) (ys : List (Frame U)) (parent : Option ℕ) (s : ℕ) → AreAlike xs ys → path_under ys parent s ≡ path_under xs parent s
  path_under-alike xs ys parent s h5 = grind (arith, path_in-alike)

  has_parent-alike : (xs : List (Frame T)) (ys : List (Frame U)) (parent : Option ℕ) → AreAlike xs ys → has_parent ys parent ≡ has_parent xs parent
  has_parent-alike xs ys parent h4 = grind (arith, has_frame-alike)

  tree-alike-after : (before xs : List (Frame T)) (others ys : List (Frame U)) → AreAlike before others → AreAlike xs ys → IsTreeAfter before xs →
      IsTreeAfter others ys
  tree-alike-after before [] others ys all alike t = grind arith
  tree-alike-after _ (x ∷ _) _ [] _ alike t = absurd alike
  tree-alike-after before (x ∷ xs) others (y ∷ ys) all alike t = grind (arith, tree-alike-after (before ++ x ∷ []) xs (others ++ y ∷ []) ys, AllBelow-alike, has_parent-alike, path_under-alike, alike-append)

  pub tree-alike : (xs : List (Frame T)) (ys : List (Frame U)) → AreAlike xs ys → IsTree xs → IsTree ys
  tree-alike xs ys alike t = tree-alike-after [] xs [] ys tt alike t

-- another state in a frame
module _ {T : Type 0} (n : ℕ) (state : State) where
  pub with_state-alike : (xs : List (Frame T)) → AreAlike xs (with_state n state xs)
  with_state-alike [] = tt
  with_state-alike (x ∷ xs) = grind (arith, with_state-alike xs)

  pub tree-with_state : (xs : List (Frame T)) → IsTree xs → IsTree (with_state n state xs)
  tree-with_state xs t = tree-alike xs (with_state n state xs) (with_state-alike xs) t

  pub frame_at-with_state : (xs : List (Frame T)) (f : Frame T) → frame_at xs n ≡ Some f →
      frame_at (with_state n state xs) n ≡ Some (record f { state = state })
  frame_at-with_state [] f at = absurd cc
  frame_at-with_state (x ∷ xs) f at = grind (arith, frame_at-with_state xs f)

  pub frame_at-other-with_state : (xs : List (Frame T)) (s : ℕ) → n ≢ s → frame_at (with_state n state xs) s ≡ frame_at xs s
  frame_at-other-with_state [] s _ = refl
  frame_at-other-with_state (x ∷ xs) s other = grind (arith, frame_at-other-with_state xs s other)

  -- the frames that pass a test on paths
  paths-with_state : (p : List ℕ → Bool) (xs : List (Frame T)) → filter (λ x. p x.path) (with_state n state xs) ≡ with_state n state (filter (λ x. p x.path) xs)
  paths-with_state p [] = refl
  paths-with_state p (x ∷ xs) = grind (arith, paths-with_state p xs)

  pub values_of-with_state : (xs : List (Frame T)) → values_of (with_state n state xs) ≡ values_of xs
  values_of-with_state [] = refl
  values_of-with_state (x ∷ xs) = grind (arith, values_of-with_state xs)

  pub children_of-with_state : (xs : List (Frame T)) (s : ℕ) → IsTree xs → children_of (with_state n state xs) s ≡ with_state n state (children_of xs s)
  children_of-with_state xs s t = grind (arith, children-by-paths, tree-with_state, paths-with_state (is_child_of s))

-- other values: everything is as before, with the values changed
module _ {T U : Type 0} (change : T → U) where
  map_values-alike : (xs : List (Frame T)) → AreAlike xs (map_values change xs)
  map_values-alike [] = tt
  map_values-alike (x ∷ xs) = (refl, refl, map_values-alike xs)

  back-alike : (xs : List (Frame T)) → AreAlike (map_values change xs) xs
  back-alike [] = tt
  back-alike (x ∷ xs) = (refl, refl, back-alike xs)

  pub tree-map_values : (xs : List (Frame T)) → IsTree xs → IsTree (map_values change xs)
  tree-map_values xs t = tree-alike xs (map_values change xs) (map_values-alike xs) t

  pub tree-from-map_values : (xs : List (Frame T)) → IsTree (map_values change xs) → IsTree xs
  tree-from-map_values xs t = tree-alike (map_values change xs) xs (back-alike xs) t

  pub path_in-map_values : (xs : List (Frame T)) (s : ℕ) → path_in (map_values change xs) s ≡ path_in xs s
  path_in-map_values xs s = path_in-alike xs (map_values change xs) s (map_values-alike xs)

  pub has_frame-map_values : (xs : List (Frame T)) (s : ℕ) → has_frame (map_values change xs) s ≡ has_frame xs s
  has_frame-map_values xs s = has_frame-alike xs (map_values change xs) s (map_values-alike xs)

  pub frame_at-map_values : (xs : List (Frame T)) (s : ℕ) → frame_at (map_values change xs) s ≡ option_map (map_value change) (frame_at xs s)
  frame_at-map_values [] s = refl
  frame_at-map_values (x ∷ xs) s = grind (arith, frame_at-map_values xs s)

  pub append-map_values : (xs ys : List (Frame T)) → map_values change (xs ++ ys) ≡ map_values change xs ++ map_values change ys
  append-map_values xs ys = map-append (map_value change) xs ys

  -- a change of all values, before or after a change of the tree, comes to the same
  pub aborted-map_values : (s : ℕ) (xs : List (Frame T)) → aborted s (map_values change xs) ≡ map_values change (aborted s xs)
  aborted-map_values s xs = filter-map (λ x. not (goes_under s x.path)) (map_value change) xs

  pub frames_under-map_values : (s : ℕ) (xs : List (Frame T)) → frames_under s (map_values change xs) ≡ map_values change (frames_under s xs)
  frames_under-map_values s xs = filter-map (λ x. goes_under s x.path) (map_value change) xs

  pub frames_without-map_values : (s : ℕ) (xs : List (Frame T)) → frames_without s (map_values change xs) ≡ map_values change (frames_without s xs)
  frames_without-map_values s xs = filter-map (λ x. not (eqb x.serial s)) (map_value change) xs

  pub children_of-map_values : (xs : List (Frame T)) (s : ℕ) → children_of (map_values change xs) s ≡ map_values change (children_of xs s)
  children_of-map_values xs s = let found = frame_at-map_values xs s in grind (arith, found, filter-map)

  pub with_state-map_values : (n : ℕ) (state : State) (xs : List (Frame T)) →
      with_state n state (map_values change xs) ≡ map_values change (with_state n state xs)
  with_state-map_values n _ [] = refl
  with_state-map_values n state (x ∷ xs) = grind (arith, with_state-map_values n state xs)

  pub new_frame-map_values : (xs : List (Frame T)) (serial : ℕ) (parent : Option ℕ) (home : ℕ) (value : T) →
      new_frame (map_values change xs) serial parent home (change value) ≡ map_value change (new_frame xs serial parent home value)
  new_frame-map_values xs serial parent home value = grind (arith, path_under-alike, map_values-alike)

  pub values_of-map_values : (xs : List (Frame T)) → values_of (map_values change xs) ≡ map change (values_of xs)
  values_of-map_values xs = map-map (λ x. x.value) (map_value change) xs ∙ sym (map-map change (λ x. x.value) xs)

-- what a frame more, another state and other values leave
pub ruleset root_laws = (root-there, under-root)

pub ruleset push_laws = (frame_at-push, frame_at-other-push, tree-new_frame, new-frame-next, parent_of-path_under, children_of-push)

pub ruleset state_laws = (tree-with_state, frame_at-with_state, frame_at-other-with_state, children_of-with_state, values_of-with_state)

pub ruleset value_laws = (tree-map_values, tree-from-map_values, frame_at-map_values, has_frame-map_values, path_in-map_values, children_of-map_values, frames_under-map_values, aborted-map_values, frames_without-map_values, with_state-map_values, append-map_values, new_frame-map_values, values_of-map_values)
