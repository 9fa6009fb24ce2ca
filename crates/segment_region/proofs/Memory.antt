-- A region's row of places in memory: one place is taken out and put back, or seen through a `&`, and memory becomes a
-- row and a row memory.
use Rattle.segment_region.proofs.Common.{◌≡◌, refl, ℕ, ◌+◌, ◌*◌, ◌<◌, zero-mul, suc-mul, List, [], ◌∷◌, length, get_or, Ura, full_share, ty_array, Val, ent, sep, Fml, Lft, ftrue, fsep, fat, froom, Logic, sem, ‵, some, ◌⊛◌, ◌$◌, ◌∵◌, !, qed, by, move, keep, use1, pick, split, join, frame, fsplit, fjoin, rewrite, done, part_at, part_out, Option, Some, None, type_size, El, R, el_x, elτ, place_owned, row_owned, place_lent, row_lent}
use mathlib.Core.Path.{sym}
use Prim.Native.Nat.{zero, suc}
use native.Mathlib.Omega.{arith}
use lib.ListN.{set, replicate}

-- the bytes of a place
abbrev pub place_size : El → ℕ
place_size E = type_size (R E)

abbrev pub Place : El → Type 0
Place E = Option (el_x E)

pub filled-within : {X : Type 0} (places : List (Option X)) (i : ℕ) (x : X) → get_or places i None ≡ Some x → i < length places
filled-within [] i x is = cc
filled-within (place ∷ places) zero x is = omega arith
filled-within (place ∷ places) (suc i) x is = omega (arith, filled-within places i x is)

-- the byte of a place, counted from the second
later-byte : (i size byte : ℕ) → i * size + (byte + size) ≡ suc i * size + byte
later-byte i size byte = omega (arith, suc-mul i size)

first-byte : (size byte : ℕ) → byte ≡ 0 * size + byte
first-byte size byte = omega (arith, zero-mul size)

module _ (E : El) (block : ℕ) where
  -- all of a row but the i-th place
  pub Others : ℕ → ℕ → List (Place E) → Fml
  Others i byte [] = ftrue
  Others zero byte (place ∷ places) = row_owned (R E) block (byte + place_size E) places
  Others (suc i) byte (place ∷ places) = fsep (place_owned (R E) block byte place) (Others i (byte + place_size E) places)

module _ (E : El) {M : Type 1} {𝓤 : Ura M} (𝓛 : Logic 𝓤) (block : ℕ) where
  open 𝓛 use {H}

  abbrev size : ℕ
  size = place_size E

  abbrev Row : ℕ → List (Place E) → Fml
  Row = row_owned (R E) block

  abbrev At : ℕ → Place E → Fml
  At = place_owned (R E) block

  pub taken-out : (places : List (Place E)) (i byte : ℕ) → i < length places
      → ent 𝓤 (sem 𝓛 (Row byte places)) (sep 𝓤 (sem 𝓛 (At (i * size + byte) (get_or places i None))) (sem 𝓛 (Others E block i byte places)))
  unfolding Others
  taken-out [] i byte within = absurd (omega arith)
  taken-out (place ∷ places) zero byte within = qed 𝓛 (‵ (Row byte (place ∷ places)) ∷ []) ∵
      fsplit ! $ rewrite ! 0 (λ (at : ℕ). ‵ (At at place)) (first-byte size byte) refl $ done !
  taken-out (place ∷ places) (suc i) byte within = qed 𝓛 (‵ (Row byte (place ∷ places)) ∷ []) ∵
      fsplit ! $ move ! (1 ∷ []) $
      use1 𝓛 (‵ (At (i * size + (byte + size)) (get_or places i None)) ⊛ ‵ (Others E block i (byte + size) places)) (taken-out places i (byte + size) (omega arith)) $ split ! $
      rewrite ! 0 (λ (at : ℕ). ‵ (At at (get_or places i None))) (later-byte i size byte) refl $
      move ! (2 ∷ 1 ∷ []) $ fjoin ! $ move ! (1 ∷ []) $ done !

  pub put-back : (places : List (Place E)) (i byte : ℕ) (place : Place E) → i < length places
      → ent 𝓤 (sep 𝓤 (sem 𝓛 (At (i * size + byte) place)) (sem 𝓛 (Others E block i byte places))) (sem 𝓛 (Row byte (set places i place)))
  unfolding Others
  put-back [] i byte place within = absurd (omega arith)
  put-back (old ∷ places) zero byte place within = qed 𝓛 (‵ (At (0 * size + byte) place) ∷ ‵ (Row (byte + size) places) ∷ []) ∵
      rewrite ! 0 (λ (at : ℕ). ‵ (At at place)) (sym (first-byte size byte)) refl $ fjoin ! $ done !
  put-back (old ∷ places) (suc i) byte place within = qed 𝓛 (‵ (At (suc i * size + byte) place) ∷ ‵ (Others E block (suc i) byte (old ∷ places)) ∷ []) ∵
      rewrite ! 0 (λ (at : ℕ). ‵ (At at place)) (sym (later-byte i size byte)) refl $ move ! (1 ∷ []) $ fsplit ! $ move ! (2 ∷ 1 ∷ []) $
      join ! $ use1 𝓛 (‵ (Row (byte + size) (set places i place))) (put-back places i (byte + size) place (omega arith)) $ move ! (1 ∷ 0 ∷ []) $ fjoin ! $ done !

  module _ (κ : Lft) where
    pub seen : (places : List (Place E)) (i byte : ℕ) → i < length places
        → ent 𝓤 (sem 𝓛 (row_lent (R E) block byte places κ)) (sem 𝓛 (place_lent (R E) block (i * size + byte) (get_or places i None) κ))
    seen [] i byte within = absurd (omega arith)
    seen (place ∷ places) zero byte within = qed 𝓛 (‵ (row_lent (R E) block byte (place ∷ places) κ) ∷ []) ∵
        fsplit ! $ keep ! (0 ∷ []) $ rewrite ! 0 (λ (at : ℕ). ‵ (place_lent (R E) block at place κ)) (first-byte size byte) refl $ done !
    seen (place ∷ places) (suc i) byte within = qed 𝓛 (‵ (row_lent (R E) block byte (place ∷ places) κ) ∷ []) ∵
        fsplit ! $ keep ! (1 ∷ []) $
        use1 𝓛 (‵ (place_lent (R E) block (i * size + (byte + size)) (get_or places i None) κ)) (seen places i (byte + size) (omega arith)) $
        rewrite ! 0 (λ (at : ℕ). ‵ (place_lent (R E) block at (get_or places i None) κ)) (later-byte i size byte) refl $ done !

  -- memory for so many values is as many empty places
  pub emptied : (count byte : ℕ) → ent 𝓤 (H.room (ty_array (elτ E) count) block byte) (sem 𝓛 (Row byte (replicate count None)))
  emptied zero byte = qed 𝓛 (‵ (froom (ty_array (elτ E) 0) block byte) ∷ []) ∵ keep ! [] $ done !
  emptied (suc count) byte = qed 𝓛 (‵ (froom (ty_array (elτ E) (suc count)) block byte) ∷ []) ∵
      use1 𝓛 (‵ (froom (elτ E) block byte) ⊛ ‵ (froom (ty_array (elτ E) count) block (byte + size))) (𝓛.laws.room_uncons (elτ E) count block byte) $ split ! $
      use1 𝓛 (‵ (At byte None)) (𝓛.laws.room-raw (elτ E) block byte) $ frame ! $ by ! (emptied count (byte + size))

  -- a place is memory for one value; what lies there is forgotten
  pub forgotten : (place : Place E) (byte : ℕ) → ent 𝓤 (sem 𝓛 (At byte place)) (H.room (elτ E) block byte)
  forgotten None byte = 𝓛.laws.raw-room (elτ E) block byte
  forgotten (Some x) byte = qed 𝓛 (‵ (part_at (R E) full_share x block byte) ∷ []) ∵
      use1 𝓛 (some (λ (v : Val). ‵ (fat full_share (elτ E) block byte v) ⊛ ‵ (E.row.own_val x (v ∷ [])))) (part_out 𝓛 (R E) refl full_share x block byte) $
      pick ! (λ v. split ! $ keep ! (0 ∷ []) $ by ! (𝓛.laws.at_room (elτ E) block byte v))

  pub freed : (places : List (Place E)) (byte : ℕ) → ent 𝓤 (sem 𝓛 (Row byte places)) (H.room (ty_array (elτ E) (length places)) block byte)
  freed [] byte = 𝓛.laws.room_nil (elτ E) block byte
  freed (place ∷ places) byte = qed 𝓛 (‵ (At byte place) ∷ ‵ (Row (byte + size) places) ∷ []) ∵
      use1 𝓛 (‵ (froom (elτ E) block byte)) (forgotten place byte) $ move ! (1 ∷ []) $
      use1 𝓛 (‵ (froom (ty_array (elτ E) (length places)) block (byte + size))) (freed places (byte + size)) $ move ! (1 ∷ []) $ by ! (𝓛.laws.room_cons (elτ E) (length places) block byte)
