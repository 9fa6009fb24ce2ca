-- A region's memory is taken (`cells::allocate`): what the allocator gives is cut into empty places, and the token to
-- give it back is kept.
use Rattle.segment_region.proofs.Common.{◌≡◌, refl, subst, ℕ, ◌*◌, ◌<◌, ◌^◌, List, [], ◌∷◌, ◌++◌, lit<, length, Ura, Incl-trans, Fn, w64, ty_array, inst_fn, Val, vptr, vint, vstruct, vcons, vnil, SProp, ent, Lft, ftrue, flft, capped_fits, Memory, align, capped, Routine, Env, Calls, Loops, WpFn, Wp, after_seq, at_return, Logic, ◌⊑◌, Fun, fact, tables, FmC, Post as After, Item, ⋆, ‵, raw, ◌⊛◌, any_q, later, await, at_ret, ◌$◌, ◌∵◌, !, qed, by, move, keep, drop, use0, use1, use2, use3, split, join, fsplit, fjoin, feq_l, flt_i, flt_l, suffices, frame, done, live, vrt, in_variant, whole, agg, stop, fld, bin, lit, size_word, align_word, of_opd, and_then, no_more, first, switches_on, exec, returns, enter, alloc_all, pass_all, free_all, look_at, get, get_in, get_tag, sets, sets_last, is, lands_as, env, RattleType, owns, Is, hidden_shr, layout, Ptr, block_ptr, Bor, plain, types_at, RefOf, usize, yes, nothing, heard, owned, Struct, Struct-Makes, Tuple, Triple, calls_at, framed, says, Stays, stay_dropped, walk_of, ends_at, Goes-dropped, None, IfOk, Ok, Err, FitsInBlock, proved_at, El, R, elτ, Al, Answer-typed, takes_key, Takes, at_takes, Answered, Takes-goes, Takes-gives, answers, uncapped, block_ty, block_size, block_align, P, as_written, ok_of, err_of, after, head, arm_body, Good, word, word-Good, first_Good, row_owned}
use mathlib.Core.Path.{sym, ap}
use mathlib.Core.Bool.{true, false}
use native.Mathlib.Omega.{arith}
use lib.ListN.{replicate, length-replicate}
use mir.Syntax.{Body}
use denote.Struct.Declared as Declared
use Rattle.core.specs.contracts.alloc.AllocError as AllocErrorType
use Rattle.core.specs.contracts.result.Result as ResultType
use Rattle.core.proofs.slots.Leases.{args}
use Rattle.segment_region.proofs.Memory.{place_size, emptied}
use Rattle.segment_region.proofs.Owners.{BaseRow, CellsRow, MarkRow, mark, mark-made, base-made, three, three-made}
use Rattle.segment_region.specs.contracts.cells.Title as TitleType
use Rattle.segment_region.specs.contracts.cells.allocate as its
use Rattle.segment_region.proofs.cells.allocate.Statement.{statement}
use Rattle.segment_region.proofs.cells.allocate.Code as code

module _ (E : El) (Z : Al) where
  abbrev function : Fn
  function = inst_fn (args E Z) code.function

  abbrev stayed : Stays (its.ended E.row Z.row Z.g Z.d Z.drops).signature.params (its.ended E.row Z.row Z.g Z.d Z.drops).kept
  stayed = (stay_dropped _ _, (stay_dropped _ _, tt))

  abbrev TitleRow : RattleType
  TitleRow = TitleType.the_row (R E) (P E Z) Z.g

  abbrev Parts : RattleType
  Parts = Tuple (BaseRow E ∷ CellsRow E ∷ TitleRow ∷ [])

  abbrev Answer : RattleType
  Answer = ResultType.the_row Parts AllocErrorType.the_row

module _ (E : El) (Z : Al) {M : Type 1} {𝓤 : Ura M} (𝓛 : Logic 𝓤) (at_mem : Memory → SProp 𝓤) (run : Routine → Fun 𝓤) (C : Calls 𝓤 𝓛.H) (Λ : Loops 𝓤 𝓛.H) (frames : FmC 𝓤 𝓛.H 𝓛.laws C)
    (takes : Triple 𝓤 (C (takes_key Z)) (Takes Z 𝓛 at_mem run)) (y : (walk_of 𝓛 (its.ended E.row Z.row Z.g Z.d Z.drops) (stayed E Z) (its.clauses E.row Z.row Z.g Z.d Z.drops 𝓛 at_mem run)).Ghost) where
  open 𝓛 use {H}

  abbrev len : ℕ
  len = y.0.3.1.0

  abbrev κ : Lft
  κ = y.0.0.0

  abbrev alloc : Bor Z.row.Denot
  alloc = y.0.3.0

  abbrev tokens : List (Item 𝓤)
  tokens = ‵ (flft κ y.0.1.0) ∷ (‵ (flft y.0.0.1.0 y.0.1.1.0) ⊛ (‵ (flft y.0.0.1.1.0 y.0.1.1.1.0) ⊛ ‵ ftrue)) ∷ []

  abbrev Post : Val → SProp 𝓤
  Post = (walk_of 𝓛 (its.ended E.row Z.row Z.g Z.d Z.drops) (stayed E Z) (its.clauses E.row Z.row Z.g Z.d Z.drops 𝓛 at_mem run)).post y

  exits : (r : (Answer E Z).Denot) (v : Val) → IfOk r (λ t. (t.1.at ≡ t.0.ptr) × (t.1.slots ≡ replicate len None) × (t.2.at ≡ t.0.ptr) × (t.2.len ≡ len) × (t.2.alloc ≡ alloc.now))
      → ent 𝓤 (⋆ 𝓛 (‵ ((Answer E Z).own_val r (v ∷ [])) ∷ tokens)) (Post v)
  exits r v holds =
      qed 𝓛 (‵ ((Answer E Z).own_val r (v ∷ [])) ∷ tokens) ∵
      suffices ! _ (ends_at 𝓛 (its.ended E.row Z.row Z.g Z.d Z.drops) (stayed E Z) (its.clauses E.row Z.row Z.g Z.d Z.drops 𝓛 at_mem run) y v r (tt, (tt, tt)) (tt, (tt, tt))) $ says ! holds $
      move ! (1 ∷ 2 ∷ []) $ join ! $ frame ! $ nothing ! $ nothing ! $ fjoin ! $ nothing ! $ fjoin ! $ done !

  abbrev Had : List (Item 𝓤)
  Had = ‵ (hidden_shr (P E Z) κ alloc.now alloc.ref_ptr.0 alloc.ref_ptr.1) ∷ tokens

  walk : y.0.0.1.1.0 ⊑ Z.row.lives → FitsInBlock (R E) len → len < 2 ^ 64 → ent 𝓤 (⋆ 𝓛 Had) (WpFn 𝓤 H C Λ (function E Z) (vptr alloc.ref_ptr.0 alloc.ref_ptr.1 ∷ vint w64 len ∷ []) Post)
  walk lives asked fits =
      let size = place_size E in let bytes : len * size < 2 ^ 64 = omega (arith, asked.0) in let al : ℕ = capped (align (elτ E)) in
      qed 𝓛 Had ∵ enter ! C Λ (function E Z) _ _ $ alloc_all ! (λ l. pass_all ! refl ((tt, tt), ((tt, record { fits = fits }), tt)) $
      let En : Env 𝓤 H = env (function E Z).locals l in
      let arms : Body = head (after 2 (function E Z).body) in
      let Then : After 𝓤 H = any_q (after_seq 𝓤 H (Wp 𝓤 H C Λ En (after 3 (function E Z).body) (at_return 𝓤 H En Post)) (at_return 𝓤 H En Post)) in
      let call : (Takes Z 𝓛 at_mem run).Ghost = at_takes Z 𝓛 at_mem run κ y.0.1.0 alloc.ref_ptr alloc.now (len * size) al (block_ty E len) in
      sets ! (is ! (bin ! (get ! refl) (size_word !) (record { fits = subst (λ (k : ℕ). k < 2 ^ 64) (sym (uncapped len size bytes)) bytes })) (ap (vint w64) (uncapped len size bytes))) refl (tt, record { fits = bytes }) $
      use2 𝓛 (raw ((Takes Z 𝓛 at_mem run).pre call)) (Takes-goes Z 𝓛 at_mem run κ y.0.1.0 alloc.ref_ptr alloc.now (Incl-trans y.0.2.0 lives) (len * size) al (block_ty E len) (block_size E len bytes) (block_align E len) bytes (capped_fits (align (elτ E)))) $
      calls_at ! frames (Takes Z 𝓛 at_mem run) takes call (and_then ! (get ! refl) (and_then ! (get ! refl) (and_then ! (align_word !) (no_more !)))) (λ v.
      use1 𝓛 (later (raw (Answered Z 𝓛 at_mem run alloc.now (block_ty E len) v) ⊛ ‵ (flft κ y.0.1.0))) (Takes-gives Z 𝓛 at_mem run κ y.0.1.0 alloc.ref_ptr alloc.now (len * size) al (block_ty E len) v) $ await ! tt $ split ! $
      answers Z ! at_mem run alloc.now (block_ty E len) v
      -- a block: three owners are made of it
      (λ b o e.
      let p : Ptr = block_ptr b o in
      let start : (BaseRow E).Denot = record { ptr = p } in
      let cells : (CellsRow E).Denot = record { mark = record {}; at = p; slots = replicate len None } in
      let title : (TitleRow E Z).Denot = record { mark = record {}; at = p; len = len; alloc = alloc.now } in
      let made : Val = three (word p) mark mark in
      let typed : Good (layout (Parts E Z)) made = (tt, ((tt, tt), ((tt, tt), ((tt, tt), tt)))) in
      let ok = first_Good (layout (Parts E Z)) made typed in
      lands_as ! e refl (Answer-typed true b o) $ first ! $ switches_on ! (get_tag ! (vrt ! refl (fld ! refl (stop !))) (whole !)) $ exec ! C Λ En (arm_body 0 arms) Then $
      sets ! (of_opd ! (get_in ! (vrt ! refl (fld ! refl (stop !))) (in_variant ! 0 0 refl refl (whole !)))) refl (tt, tt) $ sets ! (of_opd ! (get ! refl)) refl (tt, tt) $
      sets ! (agg ! (and_then ! (get ! refl) (no_more !))) refl (word-Good [] p) $
      sets ! (agg ! (no_more !)) refl (tt, tt) $ sets ! (agg ! (and_then ! (get ! refl) (no_more !))) refl (tt, (tt, tt)) $
      sets ! (agg ! (no_more !)) refl (tt, tt) $ sets ! (agg ! (and_then ! (get ! refl) (no_more !))) refl (tt, (tt, tt)) $
      sets ! (agg ! (and_then ! (get ! refl) (and_then ! (get ! refl) (and_then ! (get ! refl) (no_more !))))) refl typed $
      sets_last ! (agg ! (and_then ! (lit ! tt) (and_then ! (get ! refl) (no_more !)))) refl ok $
      exec ! C Λ En (after 3 (function E Z).body) (at_ret En Post) $ sets ! (of_opd ! (get ! refl)) refl ok $
      -- [the memory; the token; the lifetimes' tokens; the locals]
      move ! (1 ∷ []) $ use0 𝓛 (‵ ((MarkRow E).own_val (tt, tt) (mark ∷ []))) (mark-made E 𝓛) $ fjoin ! $ move ! (1 ∷ []) $
      as_written ! (ty_array (elτ E) len) b o $ use1 𝓛 (‵ (row_owned (R E) b o cells.slots)) (emptied E 𝓛 b len o) $
      flt_i ! (length cells.slots * size) (2 ^ 63) (subst (λ k. k * size < 2 ^ 63) (sym (length-replicate len None)) asked.0) $ fjoin ! $
      use0 𝓛 (‵ ((MarkRow E).own_val (tt, tt) (mark ∷ []))) (mark-made E 𝓛) $ fjoin ! $ base-made E ! start $
      use3 𝓛 (‵ ((Parts E Z).own_val (start, cells, title) (made ∷ []))) (three-made 𝓛 (BaseRow E) (CellsRow E) (TitleRow E Z) start cells title (word p) mark mark) $
      use1 𝓛 (‵ ((Answer E Z).own_val (Ok (start, cells, title)) (live 0 (vcons made vnil) ∷ []))) (ok_of 𝓛 (Parts E Z) AllocErrorType.the_row (start, cells, title) made) $
      returns ! (look_at ! 0 refl) $ free_all ! refl $ keep ! (0 ∷ 1 ∷ 2 ∷ []) $ by ! (exits (Ok (start, cells, title)) (live 0 (vcons made vnil)) (refl, refl, refl, refl, refl)))
      -- none: the refusal goes on
      (λ e.
      let Refusal : RattleType = Struct (Declared.shape AllocErrorType.the_type) in
      let none : Val = live 1 (vcons (vstruct vnil) vnil) in
      lands_as ! e refl (Answer-typed false 0 0) $ first ! $ switches_on ! (get_tag ! (vrt ! refl (fld ! refl (stop !))) (whole !)) $ exec ! C Λ En (arm_body 1 arms) Then $
      sets ! (of_opd ! (get_in ! (vrt ! refl (fld ! refl (stop !))) (in_variant ! 1 0 refl refl (whole !)))) refl (tt, tt) $
      sets_last ! (agg ! (and_then ! (lit ! tt) (and_then ! (get ! refl) (no_more !)))) refl (tt, (record { fits = lit< tt }, (tt, tt))) $
      exec ! C Λ En (after 3 (function E Z).body) (at_ret En Post) $ sets ! (of_opd ! (get ! refl)) refl (tt, (record { fits = lit< tt }, (tt, tt))) $
      owned ! Refusal (Is Refusal) (Struct-Makes 𝓛 (Declared.shape AllocErrorType.the_type) tt) tt (vstruct vnil ∷ []) (tt, (refl, tt)) $
      use1 𝓛 (‵ ((Answer E Z).own_val (Err (record {})) (none ∷ []))) (err_of 𝓛 (Parts E Z) AllocErrorType.the_row (record {}) (vstruct vnil)) $
      returns ! (look_at ! 0 refl) $ free_all ! refl $ keep ! (0 ∷ 1 ∷ 2 ∷ []) $ by ! (exits (Err (record {})) none tt))))

  entry : ent 𝓤 ((walk_of 𝓛 (its.ended E.row Z.row Z.g Z.d Z.drops) (stayed E Z) (its.clauses E.row Z.row Z.g Z.d Z.drops 𝓛 at_mem run)).pre y)
      (WpFn 𝓤 H C Λ (function E Z) (y.0.4.0 ++ (y.0.4.1.0 ++ [])) Post)
  entry =
      qed 𝓛 (((‵ (flft κ y.0.1.0) ⊛ (‵ (flft y.0.0.1.0 y.0.1.1.0) ⊛ (‵ (flft y.0.0.1.1.0 y.0.1.1.1.0) ⊛ ‵ ftrue))) ⊛ ‵ (owns (types_at (its.ended E.row Z.row Z.g Z.d Z.drops).signature.params y.0.0) y.0.3 y.0.4))
      ∷ (raw (fact 𝓤 (y.0.0.1.0 ⊑ E.row.lives)) ⊛ (raw (fact 𝓤 (y.0.0.1.1.0 ⊑ Z.row.lives)) ⊛ raw (fact 𝓤 (FitsInBlock (R E) len)))) ∷ []) ∵
      move ! (1 ∷ []) $ split ! $ drop ! $ split ! $ heard ! _ (λ lives. heard ! _ (λ asked.
      split ! $ split ! $ move ! (2 ∷ []) $ fsplit ! $ fsplit ! $ feq_l ! (λ is_alloc.
      move ! (1 ∷ []) $ fsplit ! $ fsplit ! $ feq_l ! (λ is_len. flt_l ! (λ fits.
      keep ! (1 ∷ 2 ∷ 3 ∷ []) $
      by ! (subst (λ (ws : List Val × List Val). ent 𝓤 (⋆ 𝓛 Had) (WpFn 𝓤 H C Λ (function E Z) (ws.0 ++ (ws.1 ++ [])) Post)) (λ j. (sym is_alloc j, sym is_len j)) (walk lives asked fits)))))))

pub allocate_spec : {M : Type 1} → statement M
allocate_spec 𝓤 𝓛 𝓜 𝓡 wired T A of_T of_A g d drops met dropped =
    let E : El = record { row = T; laws = of_T } in
    let Z : Al = record { row = A; laws = of_A; g = g; d = d; drops = drops } in
    proved_at 𝓛 (its.ended T A g d drops) (stayed E Z) (its.clauses T A g d drops 𝓛 𝓜.mem 𝓡.returns) 𝓜 𝓡
    (Goes-dropped 𝓛 3 (RefOf (0 ∷ []) tt (plain (λ _. P E Z)) (λ _. tt)) yes (λ κs x f. refl), (Goes-dropped 𝓛 3 (plain (λ _. usize)) yes (λ κs x f. refl), tt))
    (its.Key.name (args E Z)) (function E Z) (code.unfolded 𝓤 𝓛.H 𝓜 𝓡 wired (T, (A, tt)) d drops)
    (λ y are. entry E Z 𝓛 𝓜.mem 𝓡.returns _ _ (framed 𝓤 𝓛.H 𝓜 (tables 𝓤 𝓛.H 𝓜 𝓡 𝓡.env)) (met.allocate drops) y)
