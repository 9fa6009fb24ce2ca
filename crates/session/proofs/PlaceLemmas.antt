-- A session's TABLE line: one entry more among the places of the table.
use Rattle.session.proofs.Common.{◌≡◌, ℕ, suc, ◌+◌, ◌-◌, ◌<◌, ◌≤◌, List, [], ◌∷◌, ◌++◌, length, take, replicate, slice_set, arith, sym, ap, ap₂, ◌∙◌, subst, length-append, append_assoc, take-append_seam, set-append_seam, Bound, Inside, no_bound, bounds_held, IsHeld}

-- entries in their places
abbrev in_places : List Bound → ℕ → Inside
in_places places count = record { places = places; count = count }

-- the places with one entry more
abbrev with_one : Inside → Bound → Inside
with_one b x = in_places (slice_set b.places b.count x) (b.count + 1)

-- what a table holds with one entry more, where there is room
module _ (bounds : List Bound) (x : Bound) (room : length bounds < 64) where
  held-with_one : with_one (bounds_held bounds) x ≡ bounds_held (bounds ++ x ∷ [])
  held-with_one =
      let rest = 63 - length bounds in
      let more = length-append bounds (x ∷ []) in
      let one_more : 64 - length bounds ≡ suc rest = omega (arith, room) in
      let one_less : rest ≡ 64 - length (bounds ++ x ∷ []) = omega (arith, more) in
      ap₂ in_places
      (ap (λ k. slice_set (bounds ++ replicate k no_bound) (length bounds) x) one_more
      ∙ set-append_seam bounds no_bound (replicate rest no_bound) x
      ∙ sym (append_assoc bounds (x ∷ []) (replicate rest no_bound))
      ∙ ap (λ k. (bounds ++ x ∷ []) ++ replicate k no_bound) one_less)
      (sym more)

  is_held-with_one : IsHeld (with_one (bounds_held bounds) x)
  is_held-with_one =
      let all = bounds ++ x ∷ [] in
      let more = length-append bounds (x ∷ []) in
      let few : length all ≤ 64 = omega (arith, more, room) in
      subst IsHeld (sym held-with_one) (record { same = ap bounds_held (take-append_seam all (replicate (64 - length all) no_bound)); few = few })

pub one_more-held : (b : Inside) (x : Bound) → IsHeld b → length (take b.count b.places) < 64 → IsHeld (record { places = slice_set b.places b.count x; count = b.count + 1 })
one_more-held b x h room = subst (λ z. IsHeld (with_one z x)) h.same (is_held-with_one (take b.count b.places) x room)
