-- A region's memory is given back (`cells::deallocate`): the places become memory again, whatever lies in them, and it
-- goes back with the token.
use Rattle.segment_region.proofs.Common.{◌≡◌, refl, subst, ℕ, ◌*◌, ◌<◌, ◌^◌, List, [], ◌∷◌, ◌++◌, T, length, Ura, Fn, w64, ty_unit, ty_array, inst_fn, Val, vptr, vint, vunit, has_ty, WT, SProp, ent, never, id⊢, Incl-trans, Lft, ftrue, froom, flft, capped_fits, Memory, align, capped, Routine, Calls, Loops, WpFn, Logic, ◌⊑◌, Fun, fact, tables, FmC, Item, ⋆, ‵, raw, ◌⊛◌, given, later, await, learn, at_ret, ◌$◌, ◌∵◌, !, qed, by, move, keep, drop, use1, split, join, group, rewrite, fsplit, fjoin, feq_i, feq_l, flt_l, suffices, done, whole, sub, stop, fld, bin, unit_lit, size_word, align_word, of_opd, and_then, no_more, first, blocks, exec, returns, enter, alloc_all, pass_all, free_all, look_at, get, get_in, sets, is, lands_last, env, RattleType, owns, hidden_shr, Ptr, ptr_val, in_a_block, Bor, plain, types_at, RefOf, usize, yes, no, nothing, heard, Triple, calls_at_last, framed, Stays, stay_dropped, walk_of, ends_at, Goes-dropped, proved_at, El, R, elτ, Al, token, gives_key, Gives, at_gives, Gives-goes, Gives-Gives, Goes-blank, uncapped, block_ty, block_size, block_align, P, as_raw, after, word, word-Good, places_owned, title_owned}
use mathlib.Core.Path.{sym, ap, ◌∙◌}
use native.Mathlib.Omega.{arith}
use Rattle.core.proofs.slots.Leases.{args}
use Rattle.segment_region.proofs.Memory.{place_size, freed}
use Rattle.segment_region.proofs.Owners.{BaseRow, CellsRow, mark, mark-had, base-had}
use Rattle.segment_region.specs.contracts.cells.Title as TitleType
use Rattle.segment_region.specs.contracts.cells.deallocate as its
use Rattle.segment_region.proofs.cells.deallocate.Statement.{statement}
use Rattle.segment_region.proofs.cells.deallocate.Code as code

module _ (E : El) (Z : Al) where
  abbrev function : Fn
  function = inst_fn (args E Z) code.function

  abbrev stayed : Stays (its.ended E.row Z.row Z.g Z.d Z.drops).signature.params (its.ended E.row Z.row Z.g Z.d Z.drops).kept
  stayed = (stay_dropped _ _, (stay_dropped _ _, (stay_dropped _ _, (stay_dropped _ _, (stay_dropped _ _, tt)))))

  abbrev TitleRow : RattleType
  TitleRow = TitleType.the_row (R E) (P E Z) Z.g

  abbrev Asked : Z.row.Denot → (BaseRow E).Denot → ℕ → (CellsRow E).Denot → TitleRow.Denot → Type 0
  Asked alloc start len cells title = (cells.at ≡ start.ptr) × (length cells.slots ≡ len) × (title.at ≡ start.ptr) × (title.len ≡ len) × (title.alloc ≡ alloc)

module _ (E : El) (Z : Al) {M : Type 1} {𝓤 : Ura M} (𝓛 : Logic 𝓤) (at_mem : Memory → SProp 𝓤) (run : Routine → Fun 𝓤) (C : Calls 𝓤 𝓛.H) (Λ : Loops 𝓤 𝓛.H) (frames : FmC 𝓤 𝓛.H 𝓛.laws C)
    (gives : Triple 𝓤 (C (gives_key Z)) (Gives Z 𝓛 at_mem run)) (y : (walk_of 𝓛 (its.ended E.row Z.row Z.g Z.d Z.drops) (stayed E Z) (its.clauses E.row Z.row Z.g Z.d Z.drops 𝓛 at_mem run)).Ghost) where
  open 𝓛 use {H}

  abbrev κ : Lft
  κ = y.0.0.0

  abbrev alloc : Bor Z.row.Denot
  alloc = y.0.3.0

  abbrev start : (BaseRow E).Denot
  start = y.0.3.1.0

  abbrev len : ℕ
  len = y.0.3.1.1.0

  abbrev cells : (CellsRow E).Denot
  cells = y.0.3.1.1.1.0

  abbrev title : (TitleRow E Z).Denot
  title = y.0.3.1.1.1.1.0

  abbrev tokens : List (Item 𝓤)
  tokens = ‵ (flft κ y.0.1.0) ∷ (‵ (flft y.0.0.1.0 y.0.1.1.0) ⊛ (‵ (flft y.0.0.1.1.0 y.0.1.1.1.0) ⊛ ‵ ftrue)) ∷ []

  abbrev Post : Val → SProp 𝓤
  Post = (walk_of 𝓛 (its.ended E.row Z.row Z.g Z.d Z.drops) (stayed E Z) (its.clauses E.row Z.row Z.g Z.d Z.drops 𝓛 at_mem run)).post y

  exits : ent 𝓤 (⋆ 𝓛 tokens) (Post vunit)
  exits =
      qed 𝓛 tokens ∵
      suffices ! _ (ends_at 𝓛 (its.ended E.row Z.row Z.g Z.d Z.drops) (stayed E Z) (its.clauses E.row Z.row Z.g Z.d Z.drops 𝓛 at_mem run) y vunit tt (tt, (tt, (tt, (tt, (tt, tt))))) (tt, (tt, (tt, (tt, (tt, tt)))))) $
      join ! $ feq_i ! (List Val) (vunit ∷ []) (vunit ∷ []) refl $ nothing ! $ nothing ! $ fjoin ! $ nothing ! $ fjoin ! $ nothing ! $ fjoin ! $ nothing ! $ fjoin ! $ nothing ! $ fjoin ! $ join ! $
      move ! (1 ∷ 0 ∷ []) $ join ! $ nothing ! $ move ! (1 ∷ 0 ∷ []) $ done !

  abbrev Had : List (Item 𝓤)
  Had = ‵ (places_owned (R E) cells.at cells.slots) ∷ ‵ (title_owned (R E) (token Z title.alloc) title.at title.len) ∷ ‵ (hidden_shr (P E Z) κ alloc.now alloc.ref_ptr.0 alloc.ref_ptr.1) ∷ tokens

  walk : y.0.0.1.1.0 ⊑ Z.row.lives → Asked E Z alloc.now start len cells title → len < 2 ^ 64
      → ent 𝓤 (⋆ 𝓛 Had) (WpFn 𝓤 H C Λ (function E Z) (vptr alloc.ref_ptr.0 alloc.ref_ptr.1 ∷ word start.ptr ∷ vint w64 len ∷ mark ∷ mark ∷ []) Post)
  walk lives asked fits =
      let size = place_size E in let al : ℕ = capped (align (elτ E)) in
      qed 𝓛 Had ∵ enter ! C Λ (function E Z) _ _ $ alloc_all ! (λ l. pass_all ! refl ((tt, tt), (word-Good [] start.ptr, ((tt, record { fits = fits }), ((tt, (tt, tt)), ((tt, (tt, tt)), tt))))) $
      rewrite ! 0 (λ (p : Ptr). ‵ (places_owned (R E) p cells.slots)) asked.0 refl $
      in_a_block ! start.ptr (λ p. places_owned (R E) p cells.slots) (id⊢ 𝓤 (never 𝓤)) (λ b o e. fsplit ! $ flt_l ! (λ small.
      let bytes : len * size < 2 ^ 64 = let below : len * size < 2 ^ 63 = subst (λ k. k * size < 2 ^ 63) asked.1 small in omega arith in
      let call : (Gives Z 𝓛 at_mem run).Ghost = at_gives Z 𝓛 at_mem run κ y.0.1.0 alloc.ref_ptr alloc.now b o (len * size) al (block_ty E len) in
      -- [the row; the allocator's token; the allocator; the lifetimes' tokens; the locals]
      rewrite ! 1 (λ (d : Z.row.Denot × Ptr × ℕ). ‵ (title_owned (R E) (token Z d.0) d.1 d.2)) (λ i. (asked.4 i, (asked.2 ∙ e) i, asked.3 i)) refl $
      use1 𝓛 (‵ (froom (ty_array (elτ E) (length cells.slots)) b o)) (freed E 𝓛 b cells.slots o) $
      rewrite ! 0 (λ (k : ℕ). ‵ (froom (ty_array (elτ E) k) b o)) asked.1 refl $ as_raw ! (ty_array (elτ E) len) b o $
      first ! $ blocks ! $
      sets ! (is ! (of_opd ! (get_in ! (fld ! refl (stop !)) (sub ! 0 refl (whole !)))) (ap ptr_val e)) refl (tt, tt) $
      sets ! (is ! (bin ! (get ! refl) (size_word !) (record { fits = subst (λ (k : ℕ). k < 2 ^ 64) (sym (uncapped len size bytes)) bytes })) (ap (vint w64) (uncapped len size bytes))) refl (tt, record { fits = bytes }) $
      group ! 4 $ use1 𝓛 (raw ((Gives Z 𝓛 at_mem run).pre call)) (Gives-goes Z 𝓛 at_mem run κ y.0.1.0 alloc.ref_ptr alloc.now (Incl-trans y.0.2.0 lives) b o (len * size) al (block_ty E len) (block_size E len bytes) (block_align E len) bytes (capped_fits (align (elτ E)))) $
      calls_at_last ! frames (Gives Z 𝓛 at_mem run) gives call (and_then ! (get ! refl) (and_then ! (get ! refl) (and_then ! (get ! refl) (and_then ! (align_word !) (no_more !))))) (λ v.
      use1 𝓛 (later (given (v ≡ vunit) (‵ (flft κ y.0.1.0)))) (Gives-Gives Z 𝓛 at_mem run κ y.0.1.0 alloc.ref_ptr alloc.now b o (len * size) al (block_ty E len) v) $ await ! tt $ learn ! (λ is_unit.
      lands_last ! refl (subst (λ (z : Val). T (has_ty ty_unit z) × WT z) (sym is_unit) (tt, tt)) $
      exec ! C Λ (env (function E Z).locals l) (after 1 (function E Z).body) (at_ret _ Post) $
      sets ! (of_opd ! (unit_lit !)) refl (tt, tt) $ returns ! (look_at ! 0 refl) $ free_all ! refl $ keep ! (0 ∷ 1 ∷ []) $ by ! exits)))))

  entry : ent 𝓤 ((walk_of 𝓛 (its.ended E.row Z.row Z.g Z.d Z.drops) (stayed E Z) (its.clauses E.row Z.row Z.g Z.d Z.drops 𝓛 at_mem run)).pre y)
      (WpFn 𝓤 H C Λ (function E Z) (y.0.4.0 ++ (y.0.4.1.0 ++ (y.0.4.1.1.0 ++ (y.0.4.1.1.1.0 ++ (y.0.4.1.1.1.1.0 ++ []))))) Post)
  entry =
      qed 𝓛 (((‵ (flft κ y.0.1.0) ⊛ (‵ (flft y.0.0.1.0 y.0.1.1.0) ⊛ (‵ (flft y.0.0.1.1.0 y.0.1.1.1.0) ⊛ ‵ ftrue))) ⊛ ‵ (owns (types_at (its.ended E.row Z.row Z.g Z.d Z.drops).signature.params y.0.0) y.0.3 y.0.4))
      ∷ (raw (fact 𝓤 (y.0.0.1.0 ⊑ E.row.lives)) ⊛ (raw (fact 𝓤 (y.0.0.1.1.0 ⊑ Z.row.lives)) ⊛ raw (fact 𝓤 (Asked E Z alloc.now start len cells title)))) ∷ []) ∵
      move ! (1 ∷ []) $ split ! $ drop ! $ split ! $ heard ! _ (λ lives. heard ! _ (λ asked.
      split ! $ split ! $ move ! (2 ∷ []) $ fsplit ! $ fsplit ! $ feq_l ! (λ is_alloc.
      move ! (1 ∷ []) $ fsplit ! $ base-had E ! start y.0.4.1.0 (λ is_start.
      fsplit ! $ fsplit ! $ feq_l ! (λ is_len. flt_l ! (λ fits.
      fsplit ! $ fsplit ! $ mark-had E ! y.0.4.1.1.1.0 (λ is_cells.
      move ! (1 ∷ []) $ fsplit ! $ fsplit ! $ mark-had E ! y.0.4.1.1.1.1.0 (λ is_title.
      -- [what the title owns; nothing; what the cells own; the allocator; the lifetimes' tokens]
      keep ! (2 ∷ 0 ∷ 3 ∷ 4 ∷ 5 ∷ []) $
      by ! (subst (λ (ws : List Val × List Val × List Val × List Val × List Val). ent 𝓤 (⋆ 𝓛 Had) (WpFn 𝓤 H C Λ (function E Z) (ws.0 ++ (ws.1 ++ (ws.2 ++ (ws.3 ++ (ws.4 ++ []))))) Post))
      (λ j. (sym is_alloc j, sym is_start j, sym is_len j, sym is_cells j, sym is_title j)) (walk lives asked fits))))))))))

pub deallocate_spec : {M : Type 1} → statement M
deallocate_spec 𝓤 𝓛 𝓜 𝓡 wired T A of_T of_A g d drops met dropped =
    let E : El = record { row = T; laws = of_T } in
    let Z : Al = record { row = A; laws = of_A; g = g; d = d; drops = drops } in
    proved_at 𝓛 (its.ended T A g d drops) (stayed E Z) (its.clauses T A g d drops 𝓛 𝓜.mem 𝓡.returns) 𝓜 𝓡 (
      Goes-dropped 𝓛 3 (RefOf (0 ∷ []) tt (plain (λ _. P E Z)) (λ _. tt)) yes (λ κs x f. refl),
      (
        Goes-dropped 𝓛 3 (plain (λ _. BaseRow E)) no (λ κs x f. refl),
        (Goes-dropped 𝓛 3 (plain (λ _. usize)) yes (λ κs x f. refl), (Goes-blank 𝓛 3 (plain (λ _. CellsRow E)) no (λ κs x f. tt), (Goes-blank 𝓛 3 (plain (λ _. TitleRow E Z)) no (λ κs x f. tt), tt))),
      ),
    )
    (its.Key.name (args E Z)) (function E Z) (code.unfolded 𝓤 𝓛.H 𝓜 𝓡 wired (T, (A, tt)) d drops)
    (λ y are. entry E Z 𝓛 𝓜.mem 𝓡.returns _ _ (framed 𝓤 𝓛.H 𝓜 (tables 𝓤 𝓛.H 𝓜 𝓡 𝓡.env)) (met.deallocate drops) y)
