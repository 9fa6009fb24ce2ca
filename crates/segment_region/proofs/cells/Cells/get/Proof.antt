-- The owner of a region's memory (`Cells::get`): it goes to a place by its byte, and shows what the `&` to the cells
-- lends there.
use Rattle.segment_region.proofs.Common.{◌≡◌, refl, subst, ◌+◌, ◌*◌, ◌<◌, ◌^◌, List, [], ◌∷◌, ◌++◌, length, get_or, Ura, full_share, Fn, named, w64, inst_fn, Val, vptr, vint, SProp, ent, never, id⊢, ftrue, fat, flft, Memory, Routine, Calls, Loops, WpFn, Logic, ◌⊑◌, Fun, fact, Item, ⋆, ‵, raw, ◌⊛◌, at_ret, ◌$◌, ◌∵◌, !, qed, by, move, keep, drop, use1, split, join, rewrite, fsplit, fjoin, feq_i, feq_l, flt_l, suffices, frame, done, whole, sub, stop, fld, bin, size_lit, of_opd, addr, first, blocks, exec, returns, enter, alloc_all, pass_all, free_all, look_at, take_at, give_at, get, get_in, through, sets, sets_last, env, owns, hidden_shr, layout, Ptr, in_a_block, Bor, ShrRef, plain, types_at, RefOf, usize, yes, no, hide, unhide, nothing, heard, says, Stays, stay_dropped, walk_of, ends_at, Goes-dropped, None, Some, proved_at, El, R, args, el_x, times_below, one_below, after, word, word-Good, place_lent, places_lent}
use mathlib.Core.Path.{sym, ◌∙◌}
use native.Mathlib.Omega.{arith}
use Rattle.segment_region.proofs.Memory.{Place, place_size, filled-within, seen}
use Rattle.segment_region.proofs.Owners.{BaseRow, CellsRow, Handed, IsFilledAt, base-had}
use Rattle.segment_region.specs.contracts.cells.Cells.get as its
use Rattle.segment_region.proofs.cells.Cells.get.Statement.{statement}
use Rattle.segment_region.proofs.cells.Cells.get.Code as code

module _ (E : El) where
  abbrev function : Fn
  function = inst_fn (args E) code.function

  abbrev stayed : Stays (its.ended E.row).signature.params (its.ended E.row).kept
  stayed = (stay_dropped _ _, (stay_dropped _ _, (stay_dropped _ _, tt)))

module _ (E : El) {M : Type 1} {𝓤 : Ura M} (𝓛 : Logic 𝓤) (at_mem : Memory → SProp 𝓤) (run : Routine → Fun 𝓤) (C : Calls 𝓤 𝓛.H) (Λ : Loops 𝓤 𝓛.H) (y : (walk_of 𝓛 (its.ended E.row) (stayed E) (its.clauses E.row 𝓛 at_mem run)).Ghost) where
  open 𝓛 use {H}

  abbrev handed : Handed E (Bor (CellsRow E).Denot)
  handed = record { κ = y.0.0.0; self = y.0.3.0; start = y.0.3.1.0; index = y.0.3.1.1.0 }

  open handed use {κ, self, start, index}

  abbrev tokens : List (Item 𝓤)
  tokens = ‵ (flft κ y.0.1.0) ∷ (‵ (flft y.0.0.1.0 y.0.1.1.0) ⊛ ‵ ftrue) ∷ []

  abbrev Post : Val → SProp 𝓤
  Post = (walk_of 𝓛 (its.ended E.row) (stayed E) (its.clauses E.row 𝓛 at_mem run)).post y

  exits : (r : Bor (el_x E)) (v : Val) → get_or self.now.slots index None ≡ Some r.now → ent 𝓤 (⋆ 𝓛 (‵ ((ShrRef (named 0) κ (R E)).own_val r (v ∷ [])) ∷ tokens)) (Post v)
  exits r v is =
      qed 𝓛 (‵ ((ShrRef (named 0) κ (R E)).own_val r (v ∷ [])) ∷ tokens) ∵
      suffices ! _ (ends_at 𝓛 (its.ended E.row) (stayed E) (its.clauses E.row 𝓛 at_mem run) y v r (tt, (tt, (tt, tt))) (tt, (tt, (tt, tt)))) $ says ! is $
      move ! (1 ∷ 2 ∷ []) $ join ! $ frame ! $ nothing ! $ nothing ! $ fjoin ! $ nothing ! $ fjoin ! $ nothing ! $ fjoin ! $ done !

  abbrev Had : List (Item 𝓤)
  Had = ‵ (hidden_shr (CellsRow E) κ self.now self.ref_ptr.0 self.ref_ptr.1) ∷ tokens

  walk : IsFilledAt E self.now start index → index < 2 ^ 64 → ent 𝓤 (⋆ 𝓛 Had) (WpFn 𝓤 H C Λ (function E) (vptr self.ref_ptr.0 self.ref_ptr.1 ∷ word start.ptr ∷ vint w64 index ∷ []) Post)
  walk asked fits =
      let places = self.now.slots in let x = asked.1.0 in let within = filled-within places index x asked.1.1 in let size = place_size E in
      qed 𝓛 Had ∵ enter ! C Λ (function E) _ _ $ alloc_all ! (λ l. pass_all ! refl ((tt, tt), (word-Good [] start.ptr, ((tt, record { fits = fits }), tt))) $
      unhide ! $ fsplit ! $ drop ! $
      in_a_block ! self.now.at (λ p. places_lent (R E) p places κ) (id⊢ 𝓤 (never 𝓤)) (λ b o e. fsplit ! $ flt_l ! (λ small.
      let size_fits : size < 2 ^ 64 = omega (arith, one_below (length places) size (2 ^ 63) (omega arith) small) in
      let byte_fits : index * size < 2 ^ 64 = omega (arith, times_below index (length places) size (2 ^ 63) (omega arith) small) in
      -- [what the row lends; the tokens; the locals]
      take_at ! 2 $ rewrite ! 0 (λ (p : Ptr). ‵ (fat full_share (layout (BaseRow E)) (l 2) 0 (word p))) (asked.0 ∙ e) refl $ give_at ! 2 $
      first ! $ blocks ! $
      sets ! (bin ! (get ! refl) (size_lit ! (record { fits = size_fits })) (record { fits = byte_fits })) refl (tt, record { fits = byte_fits }) $
      sets ! (bin ! (get_in ! (fld ! refl (stop !)) (sub ! 0 refl (whole !))) (get ! refl) tt) refl (tt, tt) $
      use1 𝓛 (‵ (place_lent (R E) b (index * size + o) (get_or places index None) κ)) (seen E 𝓛 b κ places index o within) $
      rewrite ! 0 (λ (place : Place E). ‵ (place_lent (R E) b (index * size + o) place κ)) asked.1.1 refl $ hide ! $
      sets_last ! (addr ! (through ! refl (stop !))) refl (tt, tt) $
      exec ! C Λ (env (function E).locals l) (after 1 (function E).body) (at_ret _ Post) $
      sets ! (of_opd ! (get ! refl)) refl (tt, tt) $
      feq_i ! (List Val) (vptr b (index * size + o) ∷ []) (vptr b (index * size + o) ∷ []) refl $ fjoin ! $
      returns ! (look_at ! 0 refl) $ free_all ! refl $ keep ! (0 ∷ 1 ∷ 2 ∷ []) $
      by ! (exits (record { ref_ptr = (b, index * size + o); now = x }) (vptr b (index * size + o)) asked.1.1))))

  entry : ent 𝓤 ((walk_of 𝓛 (its.ended E.row) (stayed E) (its.clauses E.row 𝓛 at_mem run)).pre y)
      (WpFn 𝓤 H C Λ (function E) (y.0.4.0 ++ (y.0.4.1.0 ++ (y.0.4.1.1.0 ++ []))) Post)
  entry =
      qed 𝓛 (((‵ (flft κ y.0.1.0) ⊛ (‵ (flft y.0.0.1.0 y.0.1.1.0) ⊛ ‵ ftrue)) ⊛ ‵ (owns (types_at (its.ended E.row).signature.params y.0.0) y.0.3 y.0.4))
      ∷ (raw (fact 𝓤 (y.0.0.1.0 ⊑ E.row.lives)) ⊛ raw (fact 𝓤 (IsFilledAt E self.now start index))) ∷ []) ∵
      move ! (1 ∷ []) $ split ! $ drop ! $ heard ! _ (λ asked.
      split ! $ split ! $ move ! (2 ∷ []) $ fsplit ! $ fsplit ! $ feq_l ! (λ is_self.
      move ! (1 ∷ []) $ fsplit ! $ base-had E ! start y.0.4.1.0 (λ is_base.
      fsplit ! $ fsplit ! $ feq_l ! (λ is_index. flt_l ! (λ fits.
      keep ! (1 ∷ 2 ∷ 3 ∷ []) $
      by ! (subst (λ (ws : List Val × List Val × List Val). ent 𝓤 (⋆ 𝓛 Had) (WpFn 𝓤 H C Λ (function E) (ws.0 ++ (ws.1 ++ (ws.2 ++ []))) Post)) (λ j. (sym is_self j, sym is_base j, sym is_index j)) (walk asked fits)))))))

pub get_spec : {M : Type 1} → statement M
get_spec 𝓤 𝓛 𝓜 𝓡 wired T laws =
    let E : El = record { row = T; laws = laws } in
    proved_at 𝓛 (its.ended T) (stayed E) (its.clauses T 𝓛 𝓜.mem 𝓡.returns) 𝓜 𝓡 (
      Goes-dropped 𝓛 2 (RefOf (0 ∷ []) tt (plain (λ _. CellsRow E)) (λ _. tt)) yes (λ κs x f. refl),
      (Goes-dropped 𝓛 2 (plain (λ _. BaseRow E)) no (λ κs x f. refl), (Goes-dropped 𝓛 2 (plain (λ _. usize)) yes (λ κs x f. refl), tt)),
    )
    (its.Key.name (args E)) (function E) (code.unfolded 𝓤 𝓛.H 𝓜 𝓡 wired (T, tt))
    (λ y are. entry E 𝓛 𝓜.mem 𝓡.returns _ _ y)
