-- Meaning: what every lawful procedure (the five functions that say what frames do) keeps: that its frames fit.
use Rattle.std.specs.Prelude.{◌≡◌, ℕ, Bool, true, false, nat_lt, List, [], ◌∷◌, ◌++◌, if◌then◌else◌, length, replicate}
use Rattle.cactus_stack.specs.Nodes.{padded}
use Rattle.frame_table.specs.declared.names.State.{State}
use Rattle.frame_table.specs.declared.names.State.TheVariants.{Computing, Returned}
use Rattle.frame_table.specs.Frames.{Frame, children_of, values_of}
use Rattle.sched_rules.specs.declared.act.Act.{Act}
use Rattle.sched_rules.specs.declared.act.Continuation.{Continuation}
use Rattle.sched_rules.specs.declared.act.Continuation.TheVariants.{Grow, Spawn, Go, Wait, Compute, Return}
use Rattle.sched_rules.specs.Functions.{Functions}
use Rattle.sched_rules.specs.Trees.{Tree, stored, is_outside}
use Rattle.sched_rules.specs.Lone.{is_bad_act}

-- whether a frame computes, has returned, or neither
pub data Mark : Type 0 where
  Neither : Mark
  Computes : Mark
  HasReturned : Mark

-- the mark of a frame in this state: whether it computes, has returned, or neither
abbrev pub mark_of_state : State → Mark
mark_of_state (Computing worker) = Computes
mark_of_state Returned = HasReturned
mark_of_state _ = Neither

-- a procedure's own invariant of its frames: it relates a frame's words, its children's words and its mark. "Fits" means it holds
abbrev pub Fitting : Type 1
Fitting = List ℕ → List (List ℕ) → Mark → Type 0

-- that a root's words (the second list) belong to the words that its job was submitted with (the first)
abbrev pub Rooting : Type 1
Rooting = List ℕ → List ℕ → Type 0

-- each of these lists is the words of a frame that fits, with some children and some mark
abbrev pub AllFit : Fitting → List (List ℕ) → Type 0
AllFit fits [] = Unit {0}
AllFit fits (child ∷ children) = ((below : List (List ℕ)) × (mark : Mark) × fits child below mark) × AllFit fits children

-- what stands above a frame fits. The levels above it are its parent's words, its parent's parent's and so on, and its words stand
-- among those of its parent's children, between those of its older and of its younger siblings; with no level above it is the root
-- of a job that was submitted with the words origin
abbrev pub ParentFits : Fitting → Rooting → List ℕ → List (List ℕ) → List (List ℕ) × List (List ℕ) → List ℕ → Type 0
ParentFits fits rooted origin [] siblings own = rooted origin own
ParentFits fits rooted origin (parent ∷ above) siblings own = fits parent (siblings.0 ++ own ∷ siblings.1) Neither

-- whether there is a child, by the list of the children's words
abbrev pub has_one : List (List ℕ) → Bool
has_one children = nat_lt 0 (length children)

-- the words of a frame after an act, from its words after the stores: with zeros at the end where it grows
abbrev pub grown : Continuation → List ℕ → List ℕ
grown (Grow more) words = words ++ replicate more 0
grown (Spawn given size) words = words
grown Go words = words
grown Wait words = words
grown Compute words = words
grown Return words = words

-- the words of a frame's children after an act: those of a new child are the last
abbrev pub children_after : Continuation → List (List ℕ) → List (List ℕ)
children_after (Grow more) children = children
children_after (Spawn given size) children = children ++ padded given size ∷ []
children_after Go children = children
children_after Wait children = children
children_after Compute children = children
children_after Return children = children

-- the mark of a frame after an act: one that returns while it has a child waits, so it has neither mark
abbrev pub mark_after : Continuation → List (List ℕ) → Mark
mark_after (Grow more) children = Neither
mark_after (Spawn given size) children = Neither
mark_after Go children = Neither
mark_after Wait children = Neither
mark_after Compute children = Computes
mark_after Return children = if has_one children then Neither else HasReturned

-- if an act of a frame opens a child, that child fits
abbrev pub NewChildFits : Fitting → Continuation → Type 0
NewChildFits fits (Grow more) = Unit {0}
NewChildFits fits (Spawn given size) = fits (padded given size) [] Neither
NewChildFits fits Go = Unit {0}
NewChildFits fits Wait = Unit {0}
NewChildFits fits Compute = Unit {0}
NewChildFits fits Return = Unit {0}

-- Advance needs this: where a running frame, its parent and its children fit, and the next act can be done, the frame and its
-- parent fit after it, and so does a new child
abbrev pub NextKeeps : {I A : Type 0} → Functions I A → Fitting → Rooting → Type 0
NextKeeps functions fits rooted =
    (origin own : List ℕ) (above older younger children : List (List ℕ)) →
    fits own children Neither →
    ParentFits fits rooted origin above (older, younger) own →
    AllFit fits children →
    is_bad_act own (has_one children) (functions.next (own ∷ above)) ≡ false →
    let act : Act = functions.next (own ∷ above) in
    let words : List ℕ = grown act.after (stored act.stores own) in
    fits words (children_after act.after children) (mark_after act.after children)
    × ParentFits fits rooted origin above (older, younger) words
    × NewChildFits fits act.after

-- the words of the children that stay after an inlet, from those of all but the one taken in: none at an abort
abbrev pub children_left : Bool → List (List ℕ) → List (List ℕ)
children_left abort children = if abort then [] else children

-- Inlet needs this: if a frame, its parent and all its children fit, one of the children has returned, and the inlet stores only
-- to words that the frame has, then the frame still fits without that child (at an abort, without children), and so does its parent
abbrev pub InletKeeps : {I A : Type 0} → Functions I A → Fitting → Rooting → Type 0
InletKeeps functions fits rooted =
    (origin own child : List ℕ) (above older younger before behind : List (List ℕ)) →
    fits own (before ++ child ∷ behind) Neither →
    ParentFits fits rooted origin above (older, younger) own →
    AllFit fits before →
    fits child [] HasReturned →
    AllFit fits behind →
    is_outside (functions.inlet own child).stores own ≡ false →
    fits (stored (functions.inlet own child).stores own) (children_left (functions.inlet own child).abort (before ++ behind)) Neither
    × ParentFits fits rooted origin above (older, younger) (stored (functions.inlet own child).stores own)

-- Answer needs this: if a computing frame (which has no child) and its parent fit, the answer was computed from the frame's input,
-- and accept stores only to words that the frame has, then frame and parent still fit after the stores
abbrev pub AcceptKeeps : {I A : Type 0} → Functions I A → Fitting → Rooting → Type 0
AcceptKeeps {A = A} functions fits rooted =
    (origin own : List ℕ) (above older younger : List (List ℕ)) (answer : A) →
    fits own [] Computes →
    ParentFits fits rooted origin above (older, younger) own →
    functions.same (functions.asked answer) (functions.input own) ≡ true →
    is_outside (functions.accept own answer) own ≡ false →
    fits (stored (functions.accept own answer) own) [] Neither
    × ParentFits fits rooted origin above (older, younger) (stored (functions.accept own answer) own)

-- each of these frames of a tree fits, with the words of its children and its mark
abbrev pub EachFits : Fitting → Tree → List (Frame (List ℕ)) → Type 0
EachFits fits tree [] = Unit {0}
EachFits fits tree (frame ∷ frames) = fits frame.value (values_of (children_of tree frame.serial)) (mark_of_state frame.state) × EachFits fits tree frames

-- every frame of a tree is right by the procedure's invariant (fits)
abbrev pub EveryFrameFits : Fitting → Tree → Type 0
EveryFrameFits fits tree = EachFits fits tree tree
