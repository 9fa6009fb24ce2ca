-- What a frame of the search sees: the words of the frames above it, level by level.
use Rattle.jamboree.proofs.Common.{◌≡◌, ℕ, Bool, true, ◌&&◌, List, [], ◌∷◌, Option, Some, IfSome, slice_get, unwrap_or, if◌then◌else◌, sym, ◌∙◌, ap, arith, Act, InletAct, Frame, may_be_child, frame_of, is_formed, AllFit, AreFitting, returns, act_of, next_act, wakes, changes_by, inlet_of, inlet_act, above_of}

-- the act of what sees these levels depends on the first two
pub first-two : (grain : ℕ) (levels : List (List ℕ)) (own : List ℕ) → Some own ≡ slice_get levels 0 →
    next_act grain (own ∷ above_of (slice_get levels 1)) ≡ next_act grain levels
first-two grain [] own e = absurd (cc)
first-two grain (w ∷ []) own e = ap (λ (o : Option (List ℕ)). next_act grain (unwrap_or o [] ∷ [])) e
first-two grain (w ∷ parent ∷ above) own e = ap (λ (o : Option (List ℕ)). next_act grain (unwrap_or o [] ∷ parent ∷ [])) e

-- what follows a test of a frame, where its words have the form
pub by-form : {X : Type 0} (w : List ℕ) (f : Frame) (p : Frame → Bool) (g : Frame → X) (x other : X) → is_formed w ≡ true → f ≡ frame_of w →
    x ≡ (if p f then g f else other) → x ≡ (if is_formed w && p (frame_of w) then g (frame_of w) else other)
by-form w f p g x other formed is e =
    e ∙ ap (λ (f : Frame). if p f then g f else other) is ∙ ap (λ (b : Bool). if b && p (frame_of w) then g (frame_of w) else other) (sym formed)

-- what follows a test that a call has told
pub by-told : {X : Type 0} (told b t : Bool) (x one other : X) → told ≡ b → told ≡ t → x ≡ (if t then one else other) → x ≡ (if b then one else other)
by-told told b t x one other is e h = rw (← is, e) h

-- an inlet doesn't ask for entries
abbrev with-entries : Frame → (statuses rests : List ℕ) → Frame
with-entries f statuses rests = record f { statuses = statuses; rests = rests }

module _ (f c : Frame) (xs rs ys ss : List ℕ) where
  changes-with : (cuts test low higher : Bool) →
      changes_by cuts test low higher f c ≡ changes_by cuts test low higher (with-entries f xs rs) (with-entries c ys ss)
  changes-with cuts test low higher = grind arith

  pub inlet-with : inlet_of f c ≡ inlet_of (with-entries f xs rs) (with-entries c ys ss)
  inlet-with = grind (arith, changes-with)

-- the inlet of words of the form
pub inlet-under : (own child : List ℕ) (f : Frame) (act : InletAct) → is_formed own ≡ true → f ≡ frame_of own →
    act ≡ (if is_formed child && may_be_child f (frame_of child) then inlet_of f (frame_of child) else wakes) → act ≡ inlet_act own child
inlet-under own child f act = by-form own f (λ g. is_formed child && may_be_child g (frame_of child)) (λ g. inlet_of g (frame_of child)) act wakes

-- the levels of frames that fit have the form
pub first-formed : (levels : List (List ℕ)) (own : List ℕ) → AllFit AreFitting levels → Some own ≡ slice_get levels 0 → is_formed own ≡ true
first-formed [] own fit e = absurd (cc)
first-formed (w ∷ levels) own fit e = ap (λ (o : Option (List ℕ)). is_formed (unwrap_or o [])) e ∙ fit.0.2.formed

pub second-formed : (levels : List (List ℕ)) (parent : Option (List ℕ)) → AllFit AreFitting levels → parent ≡ slice_get levels 1 →
    IfSome parent (λ words. is_formed words ≡ true)
second-formed [] parent fit e = rw e tt
second-formed (w ∷ []) parent fit e = rw e tt
second-formed (w ∷ above ∷ levels) parent fit e = rw e fit.1.0.2.formed

-- the act of a frame, and the inlet of one, where all words have the form
pub act-by-form : (grain : ℕ) (own above : List ℕ) (f q : Frame) (act : Act) → is_formed own ≡ true → is_formed above ≡ true → f ≡ frame_of own →
    q ≡ frame_of above → act ≡ (if may_be_child q f then act_of grain f (Some q) else returns) → act ≡ next_act grain (own ∷ above ∷ [])
act-by-form grain own above f q act formed formed_above is is_above e =
    by-form own f (λ g. is_formed above && may_be_child (frame_of above) g) (λ g. act_of grain g (Some (frame_of above))) act returns formed is
    (by-form above q (λ p. may_be_child p f) (λ p. act_of grain f (Some p)) act returns formed_above is_above e)

pub inlet-by-form : (own child : List ℕ) (f c : Frame) (act : InletAct) → is_formed own ≡ true → is_formed child ≡ true → f ≡ frame_of own →
    c ≡ frame_of child → act ≡ (if may_be_child f c then inlet_of f c else wakes) → act ≡ inlet_act own child
inlet-by-form own child f c act formed formed_child is is_child e =
    inlet-under own child f act formed is (by-form child c (may_be_child f) (inlet_of f) act wakes formed_child is_child e)
