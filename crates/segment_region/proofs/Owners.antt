-- The machine values of the owners of a region's memory: a base is one pointer, and the cells and the title take no
-- bytes.
use Rattle.segment_region.proofs.Common.{◌≡◌, refl, subst, ℕ, List, [], ◌∷◌, ◌++◌, Ura, Val, vstruct, vcons, vnil, of_list, ent, emp, sep, Lft, Logic, sem, Item, Goal, Seq, Step, step, ‵, ◌$◌, ◌∵◌, !, qed, move, done, drop as skip, fpick, fpack, fsplit, fjoin, feq_i, feq_l, rewrite, RattleType, Valss, Is, shows, RawPtr, ptr_val, makes_shadow, nothing, peeks, Struct, within, shape, Tuple, tuple_type, El, R, elτ, one, lawful, Good, word, IsFilled}
use denote.Struct.Declared as Declared
use Rattle.segment_region.specs.contracts.cells.Base as BaseType
use Rattle.segment_region.specs.contracts.cells.Cells as CellsType

module _ (E : El) where
  abbrev pub BaseRow : RattleType
  BaseRow = BaseType.the_row (R E)

  abbrev pub CellsRow : RattleType
  CellsRow = CellsType.the_row (R E)

  -- the base is that of the cells, and the place is filled
  abbrev pub IsFilledAt : CellsRow.Denot → BaseRow.Denot → ℕ → Type 0
  IsFilledAt cells start index = (start.ptr ≡ cells.at) × IsFilled cells.slots index

  -- what a call at one place is handed: how long its loan of the cells lives, the loan, the base, and the place
  pub record Handed (Loan : Type 0) : Type 0 where
    pub κ : Lft
    pub self : Loan
    pub start : BaseRow.Denot
    pub index : ℕ

  -- what the fields of the cells, or of a title, own: nothing
  abbrev pub MarkRow : RattleType
  MarkRow = Struct (shape (CellsType.the_type (R E)))

abbrev pub mark : Val
mark = vstruct (vcons (vstruct vnil) vnil)

pub mark-made : (E : El) {M : Type 1} {𝓤 : Ura M} (𝓛 : Logic 𝓤) → ent 𝓤 (emp 𝓤) (sem 𝓛 ((MarkRow E).own_val (tt, tt) (mark ∷ [])))
mark-made E 𝓛 = makes_shadow 𝓛 ((MarkRow E).own_val (tt, tt) (mark ∷ [])) (λ vss. (tt, ((λ uss. (tt, tt)), tt))) ((vstruct vnil ∷ [], tt), (refl, ((tt, (refl, tt)), tt)))

module _ {M : Type 1} {𝓤 : Ura M} {𝓛 : Logic 𝓤} {K : Type 0} {Γ : List (Item 𝓤)} {G : Goal 𝓤 𝓛.H} (E : El) where
  pub base-had : K → (b : (BaseRow E).Denot) (vs : List Val) → (vs ≡ word b.ptr ∷ [] → Seq K 𝓛 Γ G) → Seq K 𝓛 (‵ ((BaseRow E).own_val b vs) ∷ Γ) G
  base-had t b vs k = fpick t (λ vss. fsplit t $ feq_l t (λ is. fsplit t $ feq_l t (λ e. skip t $
      k (subst (λ (ws : List Val). vs ≡ vstruct (of_list (ws ++ [])) ∷ []) e is))))

  pub base-made : K → (b : (BaseRow E).Denot) → Step K 𝓛 (‵ ((BaseRow E).own_val b (word b.ptr ∷ [])) ∷ Γ) G Γ G
  base-made t b = step (λ s.
      nothing t $ feq_i t (List Val) (ptr_val b.ptr ∷ []) (ptr_val b.ptr ∷ []) refl $ fjoin t $
      feq_i t (List Val) (word b.ptr ∷ []) (word b.ptr ∷ []) refl $ fjoin t $
      fpack t (Valss (RawPtr ∷ [])) (within (Declared.shape (BaseType.the_type (R E))) (b.ptr, tt) (word b.ptr ∷ [])) (ptr_val b.ptr ∷ [], tt) $ s)

  pub mark-had : K → (vs : List Val) → (vs ≡ mark ∷ [] → Seq K 𝓛 Γ G) → Seq K 𝓛 (‵ ((MarkRow E).own_val (tt, tt) vs) ∷ Γ) G
  mark-had t vs k = fpick t (λ vss. fsplit t $ feq_l t (λ is. fsplit t $ fpick t (λ uss. fsplit t $ feq_l t (λ e. skip t $ skip t $
      k (subst (λ (ws : List Val). vs ≡ vstruct (of_list (ws ++ [])) ∷ []) e is)))))

module _ (E : El) {M : Type 1} {𝓤 : Ura M} {𝓛 : Logic 𝓤} {K : Type 0} {Γ : List (Item 𝓤)} {G : Goal 𝓤 𝓛.H} where
  -- what is owned of a value is one machine value of its type
  pub value-had : K → (x : (R E).Denot) (vs : List Val) → ((v : Val) → vs ≡ v ∷ [] → Good (elτ E) v → Seq K 𝓛 (‵ ((R E).own_val x (v ∷ [])) ∷ Γ) G) → Seq K 𝓛 (‵ ((R E).own_val x vs) ∷ Γ) G
  value-had t x vs k = peeks t (R E) (Is (R E)) (shows 𝓛 (R E)) x vs (λ is.
      let it = one E vs ((lawful E 𝓛).typed x vs is) in
      rewrite t 0 (λ (us : List Val). ‵ ((R E).own_val x us)) it.1 refl $ k it.0 it.1 it.2)

abbrev pub three : Val → Val → Val → Val
three u v w = vstruct (vcons u (vcons v (vcons w vnil)))

-- a tuple of three is made of its parts
pub three-made : {M : Type 1} {𝓤 : Ura M} (𝓛 : Logic 𝓤) (S T U : RattleType) (x : S.Denot) (y : T.Denot) (z : U.Denot) (u v w : Val)
    → ent 𝓤 (sep 𝓤 (sem 𝓛 (S.own_val x (u ∷ []))) (sep 𝓤 (sem 𝓛 (T.own_val y (v ∷ []))) (sem 𝓛 (U.own_val z (w ∷ []))))) (sem 𝓛 ((Tuple (S ∷ T ∷ U ∷ [])).own_val (x, y, z) (three u v w ∷ [])))
three-made 𝓛 S T U x y z u v w =
    qed 𝓛 (‵ (S.own_val x (u ∷ [])) ∷ ‵ (T.own_val y (v ∷ [])) ∷ ‵ (U.own_val z (w ∷ [])) ∷ []) ∵
    nothing ! $ move ! (3 ∷ 0 ∷ []) $ fjoin ! $ move ! (2 ∷ 0 ∷ []) $ fjoin ! $ move ! (1 ∷ 0 ∷ []) $ fjoin ! $
    feq_i ! (List Val) (three u v w ∷ []) (three u v w ∷ []) refl $ fjoin ! $
    fpack ! (Valss (S ∷ T ∷ U ∷ [])) (within (Declared.shape (tuple_type (S ∷ T ∷ U ∷ []))) (x, (y, (z, tt))) (three u v w ∷ [])) (u ∷ [], (v ∷ [], (w ∷ [], tt))) $ done !
