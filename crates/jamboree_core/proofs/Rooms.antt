-- What all frames of a tenant's searches are charged is within the sizes of their roots.
use Rattle.jamboree_core.proofs.Common.{◌≡◌, ◌≢◌, ℕ, inl, inr, true, if◌then◌else◌, List, [], ◌∷◌, Option, Some, None, length, refl, ap, sym, ◌∙◌, ◌+◌, ◌-◌, ◌<◌, ◌≤◌, arith, cases_Bool, eq-eqb, filter, frame_at, parent_of, values_of, found-serial, tree-rising, is_that, kids, fits-holds, words-found, IsShaped, Lists, F, Tree, Tenant, board, frame_of, IsRoot, Mark, ParentFits, zero, suc, ◌*◌, sum_by, slice_index_or, ne_eqb, common_steps, sum_by-le-sum_by, Choice, Pass, choices, after, plies, charge, charged_for, is_child_of, children-by-paths, found-each, found-own, choice_at, AreChildren, IsInRole, how_many, IsFormed, formed-told, frames, status-count, kin-of, parent_words, weight_among, weight_in, Size, choice_sizes, IsRoomy, frame_size_of, root_weight, cases_eq, sum_by-cons, mul-le, Frame}
use Rattle.jamboree_core.proofs.Counts.{AreCounted, TenantCounts}
use Rattle.jamboree_core.proofs.Needs.{none-left}
use Rattle.jamboree_core.proofs.Weights.{nearest_words, above-of, sum-less, sum-member, parent-under, sight-parent}

-- the sizes of children under these words, together
abbrev sizes_of : Size → List ℕ → Lists → ℕ
sizes_of size own children = sum_by (λ child. frame_size_of size child (Some own)) children

-- Children for different choices.

-- each choice of a list, from number k on, as often as there are children for it
abbrev counted : (Choice → ℕ) → ℕ → List Choice → List Frame → ℕ
counted h k [] children = 0
counted h k (choice ∷ choices) children = how_many k children * h choice + counted h (suc k) choices children

none-counted : (h : Choice → ℕ) (k : ℕ) (cs : List Choice) → counted h k cs [] ≡ 0
none-counted h k [] = refl
none-counted h k (c ∷ cs) = let rest = none-counted h (suc k) cs in omega (arith, rest)

-- one child more
counted-below : (h : Choice → ℕ) (k : ℕ) (cs : List Choice) (x : Frame) (children : List Frame) → x.number < k → counted h k cs (x ∷ children) ≡ counted h k cs children
counted-below h k [] x children below = refl
counted-below h k (c ∷ cs) x children below = grind (arith, common_steps, counted-below h (suc k) cs x children)

counted-one : (h : Choice → ℕ) (k : ℕ) (cs : List Choice) (x : Frame) (children : List Frame) (j : ℕ) → x.number ≡ k + j → j < length cs →
    counted h k cs (x ∷ children) ≡ counted h k cs children + h (slice_index_or cs j Pass)
counted-one h k [] x children j is inside = absurd (omega arith)
counted-one h k (c ∷ cs) x children zero is inside =
    let rest = counted-below h (suc k) cs x children (omega arith) in
    let more : how_many k (x ∷ children) ≡ how_many k children + 1 = grind (arith, common_steps) in
    rw (rest, more) (omega arith)
counted-one h k (c ∷ cs) x children (suc j) is inside =
    let rest = counted-one h (suc k) cs x children j (omega arith) (omega arith) in
    let same : how_many k (x ∷ children) ≡ how_many k children = grind (arith, common_steps) in
    rw same (omega (arith, rest))

-- at most one for each
counted-once : (h : Choice → ℕ) (k : ℕ) (cs : List Choice) (children : List Frame) → ((i : ℕ) → how_many i children ≤ 1) → counted h k cs children ≤ sum_by h cs
counted-once h k [] children once = omega arith
counted-once h k (c ∷ cs) children once =
    let one = mul-le (how_many k children) (h c) 1 (h c) (once k) (omega arith) in grind (arith, counted-once h (suc k) cs children once, sum_by-cons, one)

-- the sizes of children are those of their choices
module _ (size : Size) (own : List ℕ) where
  abbrev this : Frame
  this = frame_of own

  abbrev of_choice : Choice → ℕ
  of_choice choice = size (this.depth - plies choice) (after (board this) choice)

  sizes-counted : (children : Lists) → length this.statuses ≤ length (choices (board this)) → AreChildren this (frames children) →
      sizes_of size own children ≡ counted of_choice 0 (choices (board this)) (frames children)
  sizes-counted [] few kin = sym (none-counted of_choice 0 (choices (board this)))
  sizes-counted (child ∷ children) few kin =
      let c : Frame = frame_of child in
      let rest = sizes-counted children few kin.1 in
      let inside = kin.0.inside in
      let one = counted-one of_choice 0 (choices (board this)) c (frames children) c.number (omega arith) (omega (arith, few, inside)) in
      let all = sum_by-cons (λ (words : List ℕ). frame_size_of size words (Some own)) child children in
      let own_size : frame_size_of size child (Some own) ≡ of_choice (choice_at this c.number) = ap (λ (d : ℕ). size d (after (board this) (choice_at this c.number))) kin.0.shallower in
      omega (arith, rest, one, all, own_size)

-- the room of a frame
module _ {grain : ℕ} {size : Size} (roomy : IsRoomy grain size) (origin own : List ℕ) (above older younger children : Lists) {mark : Mark}
    (fits : AreCounted grain own children mark) (parent : ParentFits (AreCounted grain) IsRoot origin above (older, younger) own) where
  abbrev f : Frame
  f = frame_of own

  form : IsFormed own
  form = formed-told own fits.fits.formed

  -- one segment at least
  some-size : (levels : Lists) → 1 ≤ frame_size_of size own (nearest_words levels)
  some-size [] = grind arith
  some-size (q ∷ levels) = roomy.some f.depth (after (board (frame_of q)) (choice_at (frame_of q) f.number))

  -- without places there is no child
  room-none : f.count ≡ 0 → charge (length own) + sizes_of size own children ≤ frame_size_of size own (nearest_words above)
  room-none none =
      let empty = none-left children (fits.fits.frame.idle (λ e. absurd (omega (arith, (form.frame.counts (inl e)).1, none))) (λ e. absurd (omega (arith, (form.frame.counts (inr e)).1, none)))) in
      let some = some-size above in
      let one : charge (length own) ≡ 1 = rw (form.places, none) refl in
      rw empty (omega (arith, one, some))

  -- the sizes of all choices
  module _ (some : f.count ≢ 0) where
    room-choices : charge (length own) + sizes_of size own children ≤ choice_sizes size f.depth (board f)
    room-choices =
        let count = (fits.counted some).0 in
        let statuses = status-count own form in
        let sizes = sizes-counted size own children (omega (arith, count, statuses)) fits.fits.frame.kin in
        let most = counted-once (of_choice size own) 0 (choices (board f)) (frames children) fits.fits.frame.once in
        let long : charge (length own) ≡ charge (12 + length (choices (board f))) = ap charge (form.places ∙ ap (λ (n : ℕ). 12 + n) count) in
        omega (arith, sizes, most, long)

    size-above : (levels : Lists) → ParentFits (AreCounted grain) IsRoot origin levels (older, younger) own → choice_sizes size f.depth (board f) ≤ frame_size_of size own (nearest_words levels)
    size-above [] root = rw (ne_eqb f.depth 0 (λ e. absurd (let deep = (fits.counted some).1 in omega (arith, deep, e)))) (omega arith)
    size-above (q ∷ levels) under =
        let kin = kin-of q own older younger under.fits in
        let early = form.frame.early in
        let known = kin.known (λ e. some ((early (omega (arith, e))).1)) in
        let child = role-some f kin.in_role in
        rw (← known) (roomy.choices f.depth (board f) ((fits.counted some).2 child))
      where
        role-some : {p : Frame} (c : Frame) → IsInRole p c → c.role ≢ 0
        role-some c role = grind arith

  room : charge (length own) + sizes_of size own children ≤ frame_size_of size own (nearest_words above)
  room = elim (cases_eq f.count 0) [
    | inl none ↦ room-none none
    | inr some ↦ (let choices = room-choices some in let up = size-above some above parent in omega (arith, choices, up))
  ]

-- Sums over frames.
sum-plus : (a b : F → ℕ) (xs : Tree) → sum_by (λ x. a x + b x) xs ≡ sum_by a xs + sum_by b xs
sum-plus a b [] = omega arith
sum-plus a b (x ∷ xs) = simp sum_by-cons (omega (arith, sum-plus a b xs))

sum-swapped : (h : F → F → ℕ) (xs ys : Tree) → sum_by (λ x. sum_by (λ y. h y x) ys) xs ≤ sum_by (λ y. sum_by (h y) xs) ys
sum-swapped h [] ys = omega arith
sum-swapped h (x ∷ xs) ys = let rest = sum-swapped h xs ys in let plus = sum-plus (λ y. h y x) (λ y. sum_by (h y) xs) ys in simp sum_by-cons (omega (arith, rest, plus))

-- the rooms of all frames together
abbrev inner : ℕ → Option ℕ → ℕ
inner n None = 0
inner n (Some parent) = n

module _ {grain : ℕ} {size : Size} {origins : Lists} {tenant : Tenant} (roomy : IsRoomy grain size) (shape : IsShaped tenant) (counts : TenantCounts grain origins tenant) where
  abbrev tree : Tree
  tree = tenant.frames

  -- the size of a frame of the tree, of one under another, if it is its child, and of one with a parent
  abbrev whole : F → ℕ
  whole x = weight_among (frame_size_of size) tenant.frames x

  abbrev as_child : F → F → ℕ
  as_child f x = if is_child_of f.serial x.path then frame_size_of size x.value (Some f.value) else 0

  abbrev as_inner : F → ℕ
  as_inner x = inner (weight_among (frame_size_of size) tenant.frames x) (parent_of x.path)

  -- each frame with a parent is counted at that
  counted-there : (s : ℕ) (x : F) → frame_at tenant.frames s ≡ Some x → as_inner x ≤ sum_by (λ f. as_child f x) tenant.frames
  counted-there s x at = by (parent_of x.path) refl
    where
      by : (parent : Option ℕ) → parent_of x.path ≡ parent → inner (frame_size_of size x.value (parent_words tenant.frames parent)) parent ≤ sum_by (λ f. as_child f x) tenant.frames
      by None named = omega arith
      by (Some p) named =
          let g = parent-under tree shape.tree s x p at named in
          let member = sum-member (λ (f : F). as_child f x) tree p g.0 g.1 in
          let child : is_child_of g.0.serial x.path ≡ true = ap (is_that g.0.serial) named ∙ eq-eqb p g.0.serial (sym (found-serial tree p g.0 g.1)) in
          let is : as_child g.0 x ≡ frame_size_of size x.value (Some g.0.value) = rw child refl in
          rw (words-found tree p g.0 g.1) (omega (arith, member, is))

  -- the children of a frame, by their sizes under it
  children-sizes : (f : F) (xs : Tree) → sizes_of size f.value (values_of (filter (λ x. is_child_of f.serial x.path) xs)) ≡ sum_by (as_child f) xs
  children-sizes f [] = refl
  children-sizes f (x ∷ xs) =
      let rest = children-sizes f xs in
      let one = sum_by-cons (λ (words : List ℕ). frame_size_of size words (Some f.value)) x.value (values_of (filter (λ y. is_child_of f.serial y.path) xs)) in
      rw (sum_by-cons (as_child f) x xs) (elim (cases_Bool (is_child_of f.serial x.path)) [
        | inl child ↦ rw child (omega (arith, rest, one))
        | inr none ↦ rw none (omega (arith, rest))
      ])

  frame-room : (s : ℕ) (f : F) → frame_at tenant.frames s ≡ Some f → charge (length f.value) + sum_by (as_child f) tenant.frames ≤ whole f
  frame-room s f at =
      let at_own = found-own tree s f at in
      let list = ap (λ (xs : Tree). sizes_of size f.value (values_of xs)) (children-by-paths tree f.serial shape.tree) in
      let sum = children-sizes f tree in
      let all = above-of shape counts (charge (length f.value) + sizes_of size f.value (kids tree f.serial) ≤ whole f) f at_own
      (λ origin above older younger seen parent. rw (← sight-parent tree shape.tree f.serial f above at_own seen)
      (room roomy origin f.value above older younger (kids tree f.serial) (fits-holds (AreCounted grain) tree counts.frames f.serial f at_own) parent)) in
      omega (arith, list, sum, all)

  -- a size is that of a root or of another
  part : (x : F) → whole x ≤ weight_among (root_weight size) tenant.frames x + as_inner x
  part x = grind arith

  pub search-charged : charged_for tenant.frames ≤ weight_in (root_weight size) tenant.frames
  search-charged =
      let rising = tree-rising tree shape.tree in
      let children = λ (f : F). sum_by (as_child f) tree in
      let own = λ (f : F). charge (length f.value) in
      let each = sum-less whole (λ f. own f + children f) tree (found-each _ tree rising frame-room) in
      let plus = sum-plus own children tree in
      let there = sum-less (λ x. sum_by (λ f. as_child f x) tree) as_inner tree (found-each _ tree rising counted-there) in
      let swapped = sum-swapped as_child tree tree in
      let parts = sum_by-le-sum_by whole (λ x. weight_among (root_weight size) tree x + as_inner x) tree part in
      let both = sum-plus (weight_among (root_weight size) tree) as_inner tree in
      omega (arith, each, plus, there, swapped, parts, both)
