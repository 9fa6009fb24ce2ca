-- The owner of a region's memory (`Cells::write`): it goes to a place by its byte, forgets what lies there, and makes
-- it the value's.
use Rattle.segment_region.proofs.Common.{◌≡◌, refl, subst, ℕ, ◌+◌, ◌*◌, ◌<◌, ◌^◌, List, [], ◌∷◌, ◌++◌, length, get_or, length-set, Ura, full_share, Fn, w64, inst_fn, Val, vptr, vint, vunit, SProp, ent, never, id⊢, ftrue, fat, flft, fobs, fbor, froom, Memory, Routine, Calls, Loops, WpFn, Logic, Body as Borrowed, ◌⊑◌, Fun, fact, Item, ⋆, ‵, raw, ◌⊛◌, at_ret, ◌$◌, ◌∵◌, !, qed, by, move, keep, drop, use1, use2, split, join, rewrite, fsplit, fsplit3, fjoin, fjoin3, feq_i, feq_l, flt_i, flt_l, suffices, frame, done, whole, sub, init, stop, fld, bin, size_lit, unit_lit, of_opd, assigns_last, first, blocks, exec, returns, enter, alloc_all, pass_all, free_all, look_at, take_at, give_at, get, get_in, through, sets, env, owns, mem, layout, Ptr, in_a_block, MutBor, plain, types_at, usize, yes, no, nothing, heard, opens, closes, says, Stays, stay_dropped, stay_ref, walk_of, ends_at, Goes-dropped, Goes-ref, part_in, None, Some, proved_at, El, R, args, elτ, times_below, one_below, after, Good, word, word-Good, place_owned, row_owned, places_owned}
use mathlib.Core.Path.{sym, ◌∙◌}
use native.Mathlib.Omega.{arith}
use lib.ListN.{set}
use Rattle.segment_region.proofs.Memory.{place_size, Others, taken-out, forgotten, put-back}
use Rattle.segment_region.proofs.Owners.{BaseRow, CellsRow, Handed, base-had, value-had}
use Rattle.segment_region.specs.contracts.cells.Cells.write as its
use Rattle.segment_region.proofs.cells.Cells.write.Statement.{statement}
use Rattle.segment_region.proofs.cells.Cells.write.Code as code

module _ (E : El) where
  abbrev function : Fn
  function = inst_fn (args E) code.function

  abbrev stayed : Stays (its.ended E.row).signature.params (its.ended E.row).kept
  stayed = (stay_ref (0 ∷ []) tt (plain (λ _. CellsRow E)), (stay_dropped _ _, (stay_dropped _ _, (stay_dropped _ _, tt))))

  abbrev Asked : (CellsRow E).Denot → (BaseRow E).Denot → ℕ → Type 0
  Asked cells start index = (start.ptr ≡ cells.at) × (index < length cells.slots)

module _ (E : El) {M : Type 1} {𝓤 : Ura M} (𝓛 : Logic 𝓤) (at_mem : Memory → SProp 𝓤) (run : Routine → Fun 𝓤) (C : Calls 𝓤 𝓛.H) (Λ : Loops 𝓤 𝓛.H) (y : (walk_of 𝓛 (its.ended E.row) (stayed E) (its.clauses E.row 𝓛 at_mem run)).Ghost) where
  open 𝓛 use {H}

  abbrev handed : Handed E (MutBor (CellsRow E).Denot)
  handed = record { κ = y.0.0.0; self = y.0.3.0; start = y.0.3.1.0; index = y.0.3.1.1.0 }

  open handed use {κ, self, start, index}

  abbrev item : (R E).Denot
  item = y.0.3.1.1.1.0

  abbrev rb : ℕ
  rb = self.ref_ptr.0

  abbrev ro : ℕ
  ro = self.ref_ptr.1

  abbrev new : (CellsRow E).Denot
  new = record { mark = self.now.mark; at = self.now.at; slots = set self.now.slots index (Some item) }

  abbrev loan : List (Item 𝓤)
  loan = ‵ (fbor κ (Borrowed (mem (CellsRow E)) rb ro self.ghost_name)) ∷ ‵ (flft κ y.0.1.0) ∷ (‵ (flft y.0.0.1.0 y.0.1.1.0) ⊛ ‵ ftrue) ∷ []

  abbrev Post : Val → SProp 𝓤
  Post = (walk_of 𝓛 (its.ended E.row) (stayed E) (its.clauses E.row 𝓛 at_mem run)).post y

  exits : y.0.4.0 ≡ vptr rb ro ∷ [] → ent 𝓤 (⋆ 𝓛 (‵ (fobs self.ghost_name ((CellsRow E).coded.code new)) ∷ loan)) (Post vunit)
  exits is_self =
      qed 𝓛 (‵ (fobs self.ghost_name ((CellsRow E).coded.code new)) ∷ loan) ∵
      suffices ! _ (ends_at 𝓛 (its.ended E.row) (stayed E) (its.clauses E.row 𝓛 at_mem run) y vunit tt (new, (tt, (tt, (tt, tt)))) (tt, (tt, (tt, (tt, tt))))) $ says ! (refl, refl) $
      move ! (2 ∷ 3 ∷ []) $ join ! $ frame ! $
      feq_i ! (List Val) y.0.4.0 (vptr rb ro ∷ []) is_self $ fjoin3 ! $ nothing ! $ nothing ! $ fjoin ! $ nothing ! $ fjoin ! $ nothing ! $ fjoin ! $ move ! (1 ∷ 0 ∷ []) $ fjoin ! $ frame ! $
      feq_i ! (List Val) (vunit ∷ []) (vunit ∷ []) refl $ done !

  abbrev Had : Val → List (Item 𝓤)
  Had v = ‵ ((R E).own_val item (v ∷ [])) ∷ ‵ (fobs self.ghost_name ((CellsRow E).coded.code self.now)) ∷ loan

  walk : y.0.4.0 ≡ vptr rb ro ∷ [] → Asked E self.now start index → index < 2 ^ 64 → (v : Val) → Good (elτ E) v
      → ent 𝓤 (⋆ 𝓛 (Had v)) (WpFn 𝓤 H C Λ (function E) (vptr rb ro ∷ word start.ptr ∷ vint w64 index ∷ v ∷ []) Post)
  walk is_self asked fits v good =
      let places = self.now.slots in let size = place_size E in
      qed 𝓛 (Had v) ∵ enter ! C Λ (function E) _ _ $ alloc_all ! (λ l. pass_all ! refl ((tt, tt), (word-Good [] start.ptr, ((tt, record { fits = fits }), (good, tt)))) $
      move ! (1 ∷ 2 ∷ 3 ∷ []) $ opens ! tt (CellsRow E) {h = self.now} rb ro (λ vs. move ! (1 ∷ []) $ fsplit ! $ move ! (1 ∷ []) $
      in_a_block ! self.now.at (λ p. places_owned (R E) p places) (id⊢ 𝓤 (never 𝓤)) (λ b o e. fsplit ! $ flt_l ! (λ small.
      let size_fits : size < 2 ^ 64 = omega (arith, one_below (length places) size (2 ^ 63) (omega arith) small) in
      let byte_fits : index * size < 2 ^ 64 = omega (arith, times_below index (length places) size (2 ^ 63) (omega arith) small) in
      let at = index * size + o in
      -- [the row; what the fields own; the cells' own cell; the open loan, in three entries; the value; the other token; the locals]
      take_at ! 2 $ rewrite ! 0 (λ (p : Ptr). ‵ (fat full_share (layout (BaseRow E)) (l 2) 0 (word p))) (asked.0 ∙ e) refl $ give_at ! 2 $
      first ! $ blocks ! $
      sets ! (bin ! (get ! refl) (size_lit ! (record { fits = size_fits })) (record { fits = byte_fits })) refl (tt, record { fits = byte_fits }) $
      sets ! (bin ! (get_in ! (fld ! refl (stop !)) (sub ! 0 refl (whole !))) (get ! refl) tt) refl (tt, tt) $
      use1 𝓛 (‵ (place_owned (R E) b at (get_or places index None)) ⊛ ‵ (Others E b index o places)) (taken-out E 𝓛 b places index o asked.1) $ split ! $
      use1 𝓛 (‵ (froom (elτ E) b at)) (forgotten E 𝓛 b (get_or places index None) at) $
      sets ! (of_opd ! (get ! refl)) refl good $ assigns_last ! (of_opd ! (get ! refl)) (through ! refl (stop !)) (init ! 0 refl good) $
      exec ! C Λ (env (function E).locals l) (after 1 (function E).body) (at_ret _ Post) $
      sets ! (of_opd ! (unit_lit !)) refl (tt, tt) $
      move ! (0 ∷ 7 ∷ []) $ use2 𝓛 (‵ (place_owned (R E) b at (Some item))) (part_in 𝓛 (R E) refl full_share item b at v) $
      use2 𝓛 (‵ (row_owned (R E) b o new.slots)) (put-back E 𝓛 b places index o (Some item) asked.1) $
      flt_i ! (length new.slots * size) (2 ^ 63) (subst (λ k. k * size < 2 ^ 63) (sym (length-set places index (Some item))) small) $ fjoin ! $
      rewrite ! 0 (λ (p : Ptr). ‵ (places_owned (R E) p new.slots)) (sym e) refl $
      move ! (1 ∷ 0 ∷ []) $ fjoin ! $ move ! (1 ∷ 0 ∷ []) $ closes ! tt (CellsRow E) new vs rb ro $
      returns ! (look_at ! 0 refl) $ free_all ! refl $ keep ! (0 ∷ 1 ∷ 2 ∷ 3 ∷ []) $
      by ! (exits is_self)))))

  entry : ent 𝓤 ((walk_of 𝓛 (its.ended E.row) (stayed E) (its.clauses E.row 𝓛 at_mem run)).pre y)
      (WpFn 𝓤 H C Λ (function E) (y.0.4.0 ++ (y.0.4.1.0 ++ (y.0.4.1.1.0 ++ (y.0.4.1.1.1.0 ++ [])))) Post)
  entry =
      qed 𝓛 (((‵ (flft κ y.0.1.0) ⊛ (‵ (flft y.0.0.1.0 y.0.1.1.0) ⊛ ‵ ftrue)) ⊛ ‵ (owns (types_at (its.ended E.row).signature.params y.0.0) y.0.3 y.0.4))
      ∷ (raw (fact 𝓤 (y.0.0.1.0 ⊑ E.row.lives)) ⊛ raw (fact 𝓤 (Asked E self.now start index))) ∷ []) ∵
      move ! (1 ∷ []) $ split ! $ drop ! $ heard ! _ (λ asked.
      split ! $ split ! $ move ! (2 ∷ []) $ fsplit ! $ fsplit3 ! $ feq_l ! (λ is_self.
      move ! (2 ∷ []) $ fsplit ! $ base-had E ! start y.0.4.1.0 (λ is_start.
      fsplit ! $ fsplit ! $ feq_l ! (λ is_index. flt_l ! (λ fits.
      fsplit ! $ value-had E ! item y.0.4.1.1.1.0 (λ v is_item good.
      keep ! (0 ∷ 2 ∷ 3 ∷ 4 ∷ 5 ∷ []) $
      by ! (subst (λ (ws : List Val × List Val × List Val × List Val). ent 𝓤 (⋆ 𝓛 (Had v)) (WpFn 𝓤 H C Λ (function E) (ws.0 ++ (ws.1 ++ (ws.2 ++ (ws.3 ++ [])))) Post)) (λ j. (sym is_self j, sym is_start j, sym is_index j, sym is_item j)) (walk is_self asked fits v good))))))))

pub write_spec : {M : Type 1} → statement M
write_spec 𝓤 𝓛 𝓜 𝓡 wired T laws =
    let E : El = record { row = T; laws = laws } in
    proved_at 𝓛 (its.ended T) (stayed E) (its.clauses T 𝓛 𝓜.mem 𝓡.returns) 𝓜 𝓡 (
      Goes-ref 𝓛 2 0 tt (plain (λ _. CellsRow E)),
      (
        Goes-dropped 𝓛 2 (plain (λ _. BaseRow E)) no (λ κs x f. refl),
        (Goes-dropped 𝓛 2 (plain (λ _. usize)) yes (λ κs x f. refl), (Goes-dropped 𝓛 2 (plain (λ _. R E)) no (λ κs x f. refl), tt)),
      ),
    )
    (its.Key.name (args E)) (function E) (code.unfolded 𝓤 𝓛.H 𝓜 𝓡 wired (T, tt))
    (λ y are. entry E 𝓛 𝓜.mem 𝓡.returns _ _ y)
