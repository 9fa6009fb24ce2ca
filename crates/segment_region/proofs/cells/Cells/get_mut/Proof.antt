-- The owner of a region's memory (`Cells::get_mut`): it lends one place on, and the cells end with what is left in it.
use Rattle.segment_region.proofs.Common.{◌≡◌, refl, subst, ℕ, ◌+◌, ◌*◌, ◌<◌, ◌^◌, List, [], ◌∷◌, ◌++◌, length, get_or, length-set, Ura, full_share, Fn, named, w64, inst_fn, Val, vptr, vint, SProp, ent, sep, never, id⊢, Fml, GName, ftrue, fsep, fat, flft, fobs, fbor, Memory, Routine, Calls, Loops, WpFn, Logic, sem, Body as Borrowed, ◌⊑◌, Fun, fact, Item, ⋆, ‵, raw, ◌⊛◌, some, later, await, pick, at_ret, ◌$◌, ◌∵◌, !, qed, by, move, keep, drop, use1, use2, split, join, group, rewrite, fsplit, fsplit3, fjoin, fjoin3, fpack, feq_l, flt_i, flt_l, suffices, frame, done, whole, sub, stop, fld, bin, size_lit, of_opd, addr, first, blocks, exec, returns, enter, alloc_all, pass_all, free_all, look_at, take_at, give_at, get, get_in, through, sets, sets_last, env, owns, mem, cell_at, part_of, layout, Ptr, block_ptr, in_a_block, MutBor, MutRef, plain, types_at, usize, yes, no, follows, Part, lends_Part, nothing, heard, opens, says, Stays, stay_dropped, walk_of, ends_at, Goes-dropped, Goes-spent_ref, None, Some, proved_at, El, R, args, el_x, times_below, one_below, after, word, word-Good, place_owned, row_owned, places_owned, with_place}
use mathlib.Core.Path.{sym, ◌∙◌}
use native.Mathlib.Omega.{arith}
use Rattle.segment_region.proofs.Memory.{Place, place_size, Others, filled-within, taken-out, put-back}
use Rattle.segment_region.proofs.Owners.{BaseRow, CellsRow, Handed, IsFilledAt, MarkRow, base-had}
use Rattle.segment_region.specs.contracts.cells.Cells.get_mut as its
use Rattle.segment_region.proofs.cells.Cells.get_mut.Statement.{statement}
use Rattle.segment_region.proofs.cells.Cells.get_mut.Code as code

module _ (E : El) where
  abbrev stayed : Stays (its.ended E.row).signature.params (its.ended E.row).kept
  stayed = (stay_dropped _ _, (stay_dropped _ _, (stay_dropped _ _, tt)))

  abbrev function : Fn
  function = inst_fn (args E) code.function

module _ (E : El) {M : Type 1} {𝓤 : Ura M} (𝓛 : Logic 𝓤) (at_mem : Memory → SProp 𝓤) (run : Routine → Fun 𝓤) (C : Calls 𝓤 𝓛.H) (Λ : Loops 𝓤 𝓛.H) (y : (walk_of 𝓛 (its.ended E.row) (stayed E) (its.clauses E.row 𝓛 at_mem run)).Ghost) where
  open 𝓛 use {H}

  abbrev handed : Handed E (MutBor (CellsRow E).Denot)
  handed = record { κ = y.0.0.0; self = y.0.3.0; start = y.0.3.1.0; index = y.0.3.1.1.0 }

  open handed use {κ, self, start, index}

  abbrev rb : ℕ
  rb = self.ref_ptr.0

  abbrev ro : ℕ
  ro = self.ref_ptr.1

  abbrev other_token : Item 𝓤
  other_token = ‵ (flft y.0.0.1.0 y.0.1.1.0) ⊛ ‵ ftrue

  abbrev Post : Val → SProp 𝓤
  Post = (walk_of 𝓛 (its.ended E.row) (stayed E) (its.clauses E.row 𝓛 at_mem run)).post y

  -- the cells with another value in the place
  abbrev new : el_x E → (CellsRow E).Denot
  new = with_place self.now index

  module _ (vs : List Val) (b o : ℕ) where
    -- all that the cells own but the value
    abbrev Rest : Fml
    Rest = fsep (Others E b index o self.now.slots) (fsep ((MarkRow E).own_val (tt, tt) vs) (cell_at full_share (CellsRow E).mir vs rb ro))

    back : self.now.at ≡ block_ptr b o → index < length self.now.slots → length self.now.slots * place_size E < 2 ^ 63
        → (w : el_x E) → ent 𝓤 (sep 𝓤 (sem 𝓛 ((mem (R E)).own_at w b (index * place_size E + o))) (sem 𝓛 Rest)) (sem 𝓛 ((mem (CellsRow E)).own_at (new w) rb ro))
    unfolding part_of
    back e within small w =
        qed 𝓛 (‵ (place_owned (R E) b (index * place_size E + o) (Some w)) ∷ ‵ Rest ∷ []) ∵ move ! (1 ∷ []) $ fsplit3 ! $ move ! (3 ∷ 0 ∷ []) $
        use2 𝓛 (‵ (row_owned (R E) b o (new w).slots)) (put-back E 𝓛 b self.now.slots index o (Some w) within) $
        flt_i ! (length (new w).slots * place_size E) (2 ^ 63) (subst (λ k. k * place_size E < 2 ^ 63) (sym (length-set self.now.slots index (Some w))) small) $ fjoin ! $
        rewrite ! 0 (λ (p : Ptr). ‵ (places_owned (R E) p (new w).slots)) (sym e) refl $ move ! (1 ∷ 0 ∷ []) $ fjoin ! $ move ! (1 ∷ 0 ∷ []) $ fjoin ! $
        fpack ! (List Val) (λ us. fsep (cell_at full_share (CellsRow E).mir us rb ro) ((CellsRow E).own_val (new w) us)) vs $ done !

  exits : (v : Val) (r : MutBor (el_x E)) → get_or self.now.slots index None ≡ Some r.now
      → ent 𝓤 (⋆ 𝓛 (‵ ((MutRef (named 0) κ (R E)).own_val r (v ∷ [])) ∷ ‵ (flft κ y.0.1.0) ∷ ‵ (follows (CellsRow E) (R E) self.ghost_name r.ghost_name new) ∷ other_token ∷ [])) (Post v)
  exits v r is =
      qed 𝓛 (‵ ((MutRef (named 0) κ (R E)).own_val r (v ∷ [])) ∷ ‵ (flft κ y.0.1.0) ∷ ‵ (follows (CellsRow E) (R E) self.ghost_name r.ghost_name new) ∷ other_token ∷ []) ∵
      suffices ! _ (ends_at 𝓛 (its.ended E.row) (stayed E) (its.clauses E.row 𝓛 at_mem run) y v r (tt, (tt, (tt, tt))) (tt, (tt, (tt, tt)))) $
      nothing ! $ nothing ! $ fjoin ! $ nothing ! $ fjoin ! $ nothing ! $ fjoin ! $ join ! $
      move ! (1 ∷ 3 ∷ []) $ join ! $ join ! $ frame ! $ says ! is $ done !

  abbrev Had : List (Item 𝓤)
  Had = ‵ (fobs self.ghost_name ((CellsRow E).coded.code self.now)) ∷ ‵ (fbor κ (Borrowed (mem (CellsRow E)) rb ro self.ghost_name)) ∷ ‵ (flft κ y.0.1.0) ∷ other_token ∷ []

  walk : IsFilledAt E self.now start index → index < 2 ^ 64 → ent 𝓤 (⋆ 𝓛 Had) (WpFn 𝓤 H C Λ (function E) (vptr rb ro ∷ word start.ptr ∷ vint w64 index ∷ []) Post)
  walk asked fits =
      let places = self.now.slots in let x = asked.1.0 in let within = filled-within places index x asked.1.1 in let size = place_size E in
      let now = (CellsRow E).coded.code self.now in
      qed 𝓛 Had ∵ enter ! C Λ (function E) _ _ $ alloc_all ! (λ l. pass_all ! refl ((tt, tt), (word-Good [] start.ptr, ((tt, record { fits = fits }), tt))) $
      opens ! tt (CellsRow E) {h = self.now} rb ro (λ vs. move ! (1 ∷ []) $ fsplit ! $ move ! (1 ∷ []) $
      in_a_block ! self.now.at (λ p. places_owned (R E) p places) (id⊢ 𝓤 (never 𝓤)) (λ b o e. fsplit ! $ flt_l ! (λ small.
      let size_fits : size < 2 ^ 64 = omega (arith, one_below (length places) size (2 ^ 63) (omega arith) small) in
      let byte_fits : index * size < 2 ^ 64 = omega (arith, times_below index (length places) size (2 ^ 63) (omega arith) small) in
      let at = index * size + o in let way = back vs b o e within small in
      take_at ! 2 $ rewrite ! 0 (λ (p : Ptr). ‵ (fat full_share (layout (BaseRow E)) (l 2) 0 (word p))) (asked.0 ∙ e) refl $ give_at ! 2 $
      first ! $ blocks ! $
      sets ! (bin ! (get ! refl) (size_lit ! (record { fits = size_fits })) (record { fits = byte_fits })) refl (tt, record { fits = byte_fits }) $
      sets ! (bin ! (get_in ! (fld ! refl (stop !)) (sub ! 0 refl (whole !))) (get ! refl) tt) refl (tt, tt) $
      use1 𝓛 (‵ (place_owned (R E) b at (get_or places index None)) ⊛ ‵ (Others E b index o places)) (taken-out E 𝓛 b places index o within) $ split ! $
      rewrite ! 0 (λ (place : Place E). ‵ (place_owned (R E) b at place)) asked.1.1 refl $
      -- [the value; the other places; what the fields own; the cells' own cell; the open loan, in three entries; the tokens; the locals]
      sets_last ! (addr ! (through ! refl (stop !))) refl (tt, tt) $
      exec ! C Λ (env (function E).locals l) (after 1 (function E).body) (at_ret _ Post) $
      sets ! (of_opd ! (get ! refl)) refl (tt, tt) $
      move ! (1 ∷ 2 ∷ 3 ∷ []) $ fjoin3 ! $ move ! (2 ∷ 3 ∷ 4 ∷ 1 ∷ 0 ∷ []) $ group ! 5 $
      use1 𝓛 (later (some (λ (δ : GName). raw (Part 𝓛 (CellsRow E) (R E) new (named 0) κ y.0.1.0 rb ro b at self.ghost_name (sem 𝓛 (Rest vs b o)) way x δ))))
      (lends_Part 𝓛 (CellsRow E) (R E) new (named 0) κ y.0.1.0 rb ro b at self.ghost_name (sem 𝓛 (Rest vs b o)) way now now x) $ await ! tt $ pick ! (λ δ.
      use1 𝓛 (‵ ((MutRef (named 0) κ (R E)).own_val (record { ref_ptr = (b, at); ghost_name = δ; now = x }) (vptr b at ∷ [])) ⊛ (‵ (flft κ y.0.1.0) ⊛ ‵ (follows (CellsRow E) (R E) self.ghost_name δ new))) (id⊢ 𝓤 _) $
      split ! $ move ! (1 ∷ []) $ split ! $ move ! (2 ∷ 0 ∷ 1 ∷ []) $
      returns ! (look_at ! 0 refl) $ free_all ! refl $ keep ! (0 ∷ 1 ∷ 2 ∷ 3 ∷ []) $
      by ! (exits (vptr b at) (record { ref_ptr = (b, at); ghost_name = δ; now = x }) asked.1.1))))))

  entry : ent 𝓤 ((walk_of 𝓛 (its.ended E.row) (stayed E) (its.clauses E.row 𝓛 at_mem run)).pre y)
      (WpFn 𝓤 H C Λ (function E) (y.0.4.0 ++ (y.0.4.1.0 ++ (y.0.4.1.1.0 ++ []))) Post)
  entry =
      qed 𝓛 (((‵ (flft κ y.0.1.0) ⊛ other_token) ⊛ ‵ (owns (types_at (its.ended E.row).signature.params y.0.0) y.0.3 y.0.4))
      ∷ (raw (fact 𝓤 (y.0.0.1.0 ⊑ E.row.lives)) ⊛ raw (fact 𝓤 (IsFilledAt E self.now start index))) ∷ []) ∵
      move ! (1 ∷ []) $ split ! $ drop ! $ heard ! _ (λ asked.
      split ! $ split ! $ move ! (2 ∷ []) $ fsplit ! $ fsplit3 ! $ feq_l ! (λ is_self.
      move ! (2 ∷ []) $ fsplit ! $ base-had E ! start y.0.4.1.0 (λ is_start.
      fsplit ! $ fsplit ! $ feq_l ! (λ is_index. flt_l ! (λ fits.
      keep ! (1 ∷ 2 ∷ 3 ∷ 4 ∷ []) $
      by ! (subst (λ (ws : List Val × List Val × List Val). ent 𝓤 (⋆ 𝓛 Had) (WpFn 𝓤 H C Λ (function E) (ws.0 ++ (ws.1 ++ (ws.2 ++ []))) Post)) (λ j. (sym is_self j, sym is_start j, sym is_index j)) (walk asked fits)))))))

pub get_mut_spec : {M : Type 1} → statement M
get_mut_spec 𝓤 𝓛 𝓜 𝓡 wired T laws =
    let E : El = record { row = T; laws = laws } in
    proved_at 𝓛 (its.ended T) (stayed E) (its.clauses T 𝓛 𝓜.mem 𝓡.returns) 𝓜 𝓡
    (Goes-spent_ref 𝓛 2 (0 ∷ []) tt (plain (λ _. CellsRow E)), (Goes-dropped 𝓛 2 (plain (λ _. BaseRow E)) no (λ κs x f. refl), (Goes-dropped 𝓛 2 (plain (λ _. usize)) yes (λ κs x f. refl), tt)))
    (its.Key.name (args E)) (function E) (code.unfolded 𝓤 𝓛.H 𝓜 𝓡 wired (T, tt))
    (λ y are. entry E 𝓛 𝓜.mem 𝓡.returns _ _ y)
