-- What a job of the search keeps of its returned root.
use Rattle.jamboree.proofs.Common.{◌≡◌, ℕ, zero, suc, ◌<◌, ◌≤◌, ◌==◌, Bool, true, false, List, [], ◌∷◌, length, drop, Option, Some, None, find, All, IfSome, cond, if◌then◌else◌, refl, sym, ◌∙◌, ap, subst, arith, lt-ltb, length-map, length-drop, take_all, All-head, All-tail, Cell, Choice, Square, Pass, choices, IsAllowed, choices_allowed, minimax, best_choice, choice_value, int_equal, best_choice-leaf, best_choice-deeper, HasReturned, entered, IsTable, Frame, board, coded, entry_rest, frame_of, are_entries, is_formed, bounds_of, AreFitting, IsRoot, IsKeptRoot, IsFormed, formed-told, entered-few, root_value, root-whole, decoded, nat_le, map, slice_index, slice_index_or, slice_get, and_parts, length-take, Bound, status_of, is_rest, is_entry, bounds_in, KnownBound, known_of, bound_by, bounds_by, cells, rests_in, table_of, Reply, greatest_depth}
use Rattle.std.specs.Prelude.{take}

found-by : {A : Type 0} (P : A → Type 0) (passes : Bool) (c : A) (more : Option A) → P c → IfSome more P → IfSome (cond passes (Some c) more) P
found-by P true c more here rest = here
found-by P false c more here rest = rest

-- a choice that is found is allowed
find-allowed : (b : List Cell) (p : Choice → Bool) (cs : List Choice) → All (IsAllowed b) cs → IfSome (find p cs) (IsAllowed b)
find-allowed b p [] all = tt
find-allowed b p (c ∷ cs) all = found-by (IsAllowed b) (p c) c _ (All-head (IsAllowed b) c cs all) (find-allowed b p cs (All-tail (IsAllowed b) c cs all))

-- the code of an allowed choice, or of none, is read back
decoded-square : (s : ℕ) → s < 64 → decoded s ≡ Some (Square s)
decoded-square s below = ap (λ (b : Bool). if b then Some (Square s) else (if s == 64 then Some Pass else None)) (lt-ltb s 64 below)

decoded-coded : (b : List Cell) (c : Option Choice) → IfSome c (IsAllowed b) → decoded (coded c) ≡ c
decoded-coded b None h = refl
decoded-coded b (Some (Square s)) h = decoded-square s h.0
decoded-coded b (Some Pass) h = refl

best-allowed : (depth : ℕ) (b : List Cell) → IfSome (best_choice depth b) (IsAllowed b)
best-allowed zero b = subst (λ (c : Option Choice). IfSome c (IsAllowed b)) (sym (best_choice-leaf b)) tt
best-allowed (suc depth) b =
    subst (λ (c : Option Choice). IfSome c (IsAllowed b)) (sym (best_choice-deeper (suc depth) b (omega arith)))
    (find-allowed b (λ c. int_equal (choice_value (suc depth) b c) (minimax (suc depth) b)) (choices b) (choices_allowed b))

-- what the kept words hold
pub record AreKept (words : List ℕ) : Type 0 where
  pub formed : is_formed words ≡ true
  pub few : length words ≤ 76
  pub shallow : (frame_of words).depth ≤ greatest_depth
  pub value : (frame_of words).best ≡ minimax (frame_of words).depth (board (frame_of words))
  pub choice : decoded (frame_of words).choice ≡ best_choice (frame_of words).depth (board (frame_of words))
  pub entries : are_entries (drop 12 words) ≡ true
  pub counted : length (drop 12 words) ≡ length (entered (frame_of words).depth (board (frame_of words)))
  pub table : IsTable (frame_of words).depth (board (frame_of words)) (bounds_of (frame_of words))

-- all words of a returned root are kept
whole-held : (origin whole : List ℕ) → AreFitting whole [] HasReturned → IsRoot origin whole → AreKept whole
whole-held origin whole fits root =
    let f : Frame = frame_of whole in
    let form : IsFormed whole = formed-told whole fits.formed in
    let holds = root_value origin whole fits root in
    let table = root-whole origin whole fits root in
    let counted : length (drop 12 whole) ≡ length (entered f.depth (board f)) = sym (length-map (drop 12 whole) entry_rest) ∙ table.0 in
    record {
      formed = fits.formed;
      few = omega (arith, form.places, counted, length-drop 12 whole, entered-few f.depth (board f));
      shallow = form.frame.leaf.shallow;
      value = holds.0;
      choice = ap decoded holds.1 ∙ decoded-coded (board f) (best_choice f.depth (board f)) (best-allowed f.depth (board f));
      entries = form.entries;
      counted = counted;
      table = table.2;
    }

pub kept-root : (words : List ℕ) → IsKeptRoot words → AreKept words
kept-root words k =
    let whole : AreKept k.whole = whole-held k.origin k.whole k.fits k.rooted in
    subst AreKept (sym (take_all 76 k.whole whole.few) ∙ k.kept) whole

-- What is known of choices, from the rests of their entries.

-- each of some entries is one
entry-at : (es : List ℕ) (i : ℕ) → are_entries es ≡ true → i < length es → is_entry (slice_index es i) ≡ true
entry-at (e ∷ es) (suc i) are inside = entry-at es i (and_parts (is_entry e) (are_entries es) are).1 (omega arith)
entry-at es i are inside = grind (arith, and_parts)

-- so its rest is one
pub rest-at : (es : List ℕ) (i rest : ℕ) → are_entries es ≡ true → i < length es → rest ≡ entry_rest (slice_index es i) → is_rest rest ≡ true
rest-at es i rest are inside e =
    ap is_rest e ∙ (and_parts (nat_le (status_of (slice_index es i)) 4) (is_rest (entry_rest (slice_index es i))) (entry-at es i are inside)).1

-- what the first entries say
abbrev pub said_by : List ℕ → List KnownBound
said_by es = map known_of (map entry_rest es)

-- the bounds of choices by what their rests say
pub bounds-said : (cs : List Choice) (rests : List ℕ) → bounds_by cs (map known_of rests) ≡ bounds_in cs rests
bounds-said (c ∷ cs) (rest ∷ rests) = ap (λ (more : List Bound). bound_by c (known_of rest) ∷ more) (bounds-said cs rests)
bounds-said cs rests = grind arith

-- the bound with a number
pub bound-at : (cs : List Choice) (ks : List KnownBound) (n i : ℕ) (c : Choice) (d : KnownBound) → slice_get cs i ≡ Some c → i < n → n ≤ length ks →
    Some (bound_by c (slice_index_or ks i d)) ≡ slice_get (bounds_by cs (take n ks)) i
bound-at (e ∷ cs) (k ∷ ks) (suc n) (suc i) c d got below few = bound-at cs ks n i c d got (omega arith) (omega arith)
bound-at cs ks n i c d got below few = grind arith

-- what holds of each bound holds of the one with a number
pub bound-holds : (P : Bound → Type 0) (bs : List Bound) (i : ℕ) (b : Bound) → All P bs → Some b ≡ slice_get bs i → P b
bound-holds P [] i b all got = absurd cc
bound-holds P (e ∷ bs) zero b all got = subst P (cc) (All-head P e bs all)
bound-holds P (e ∷ bs) (suc i) b all got = bound-holds P bs i b (All-tail P e bs all) got

-- the bounds that are read of a frame's words
pub table-read : (cs : List Choice) (es w : List ℕ) (ks : List KnownBound) → ks ≡ said_by es → es ≡ drop 12 w → bounds_by cs ks ≡ bounds_in cs (rests_in w)
table-read cs es w ks read is = ap (bounds_by cs) read ∙ bounds-said cs (map entry_rest es) ∙ ap (λ (xs : List ℕ). bounds_in cs (map entry_rest xs)) is

-- there are no more bounds than is known of
bounds-few : (cs : List Choice) (ks : List KnownBound) → length (bounds_by cs ks) ≤ length ks
bounds-few (c ∷ cs) (k ∷ ks) = let more : length (bounds_by cs ks) ≤ length ks = bounds-few cs ks in omega (arith, more)
bounds-few cs ks = grind arith

-- where the bounds of a table are read of so many places, these are there
places-held : (depth : ℕ) (b : List Cell) (ks : List KnownBound) (n : ℕ) → IsTable depth b (bounds_by (choices b) (take n ks)) →
    n ≡ length (entered depth b) → n ≤ length ks
places-held depth b ks n table counted = grind (arith, length-map, bounds-few, length-take)

-- the bound with a number of a reply's table
pub bound-of : (reply : Reply) (i : ℕ) (c : Choice) (d : KnownBound) (bound : Bound) → bound ≡ bound_by c (slice_index_or reply.known i d) →
    slice_get (choices (cells reply.board)) i ≡ Some c → i < reply.count → Some bound ≡ slice_get (table_of reply) i
bound-of reply i c d bound is got below =
    let room = places-held reply.depth (cells reply.board) reply.known reply.count reply.table reply.counted in
    ap (λ (b : Bound). Some b) is ∙ bound-at (choices (cells reply.board)) reply.known reply.count i c d got below room
