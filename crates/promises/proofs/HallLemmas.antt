-- For the promises on a hall: what explains a tenant of it, and what its replies are to.
use Rattle.promises.proofs.Common.{◌≡◌, ℕ, ◌≤◌, ℤ, ◌==◌, ◌-◌, true, false, List, [], ◌∷◌, map, Option, Some, None, refl, sym, ap, ◌∙◌, subst, arith, IfSome, if◌then◌else◌, get_or, slice_get, slice_index, slice_get-map, slice_get_within, get_or_from_slice_get, cells_of, Cell, Choice, Bound, minimax, best_choice, IsTable, IsTrueBound, IsExactIfBest, entered, Tenant, alone_from, tenant_in, jamboree, Reply, board_of, depth_of, origins_of, Done, AreRootWords, AreSearches, AreAllRootWords, origin_at, AnswersTo, searches-asked, journal_in, HallOf, Explains, IsExplained, SearchStep, IsAskedBy, IsValueOfSubmit, IsEntryOfSubmit, greatest_depth}

-- a reply is one to what was submitted under this number in the journal
abbrev pub Answered : List SearchStep → ℕ → Reply → Type 0
Answered journal job reply = AnswersTo (origin_at (origins_of journal) job) (Some (Done reply))

abbrev pub cells_in : Reply → List Cell
cells_in reply = cells_of (board_of reply).own (board_of reply).opp

explained : (grain : ℕ) (own : Option Tenant) (journal : List SearchStep) → Explains (jamboree grain) own journal → own ≡ alone_from (jamboree grain) None journal
explained grain None journal is = rw is refl
explained grain (Some tenant) journal is = sym is.comes

pub same-journals : (one other : HallOf) (number : ℕ) → IsExplained one → IsExplained other → one.grain ≡ other.grain →
    journal_in one.journals number ≡ journal_in other.journals number → tenant_in one.shared.tenants number ≡ tenant_in other.shared.tenants number
same-journals one other number this that grain journal =
    explained one.grain (tenant_in one.shared.tenants number) (journal_in one.journals number) (this.tenants number)
    ∙ ap (λ (n : ℕ). alone_from (jamboree n) None (journal_in one.journals number)) grain
    ∙ ap (λ (l : List SearchStep). alone_from (jamboree other.grain) None l) journal
    ∙ sym (explained other.grain (tenant_in other.shared.tenants number) (journal_in other.journals number) (that.tenants number))

-- the words that were submitted under a number are those of a root
root-at : (origins : List (List ℕ)) (job : ℕ) (origin : List ℕ) → AreAllRootWords origins → origin_at origins job ≡ Some origin → AreRootWords origin
root-at [] job origin all at = absurd cc
root-at (first ∷ origins) job origin all at =
    elim (job == 1) as (λ b. (if b then Some first else origin_at origins (job - 1)) ≡ Some origin → AreRootWords origin) [
      | true ↦ λ is. let same : first ≡ origin = cc in subst AreRootWords same all.0
      | false ↦ λ is. root-at origins (job - 1) origin all.1 is
    ] at

-- the words of a root, by what is read at their places
root-places : (origin : List ℕ) (own opp depth : ℕ) (root : AreRootWords origin) → own ≡ slice_index origin 0 → opp ≡ slice_index origin 1 →
    depth ≡ slice_index origin 2 → (root.own ≡ own) × (root.opp ≡ opp) × (root.depth ≡ depth)
root-places origin own opp depth root o p d = grind arith

-- an entry of a table is of its choice
entry-of : (cs : List Choice) (entries : List Bound) (i : ℕ) (entry : Bound) → map (λ b. b.choice) entries ≡ cs → slice_get entries i ≡ Some entry →
    slice_get cs i ≡ Some entry.choice
entry-of cs entries i entry each at = grind (arith, slice_get-map)

module _ (journal : List SearchStep) (job : ℕ) (reply : Reply) (searches : AreSearches journal) (answers : Answered journal job reply) where
  -- a reply is to what was submitted under its number
  asked-by : IsAskedBy journal job (board_of reply).own (board_of reply).opp (depth_of reply)
  asked-by = by (origin_at (origins_of journal) job) refl answers
    where
      by : (found : Option (List ℕ)) → origin_at (origins_of journal) job ≡ found → AnswersTo found (Some (Done reply)) →
          IsAskedBy journal job (board_of reply).own (board_of reply).opp (depth_of reply)
      by None at to = absurd to
      by (Some origin) at to =
          let root = root-at (origins_of journal) job origin (searches-asked journal searches) at in
          let places = root-places origin (board_of reply).own (board_of reply).opp (depth_of reply) root to.own to.opp to.depth in
          record {
            shallow = (let P : ℕ → Type 0 = λ d. d ≤ greatest_depth in subst P places.2 root.shallow);
            words = at ∙ ap (λ (ws : List ℕ). Some ws) (root.are ∙ rw (places.0, places.1, places.2) refl);
          }

  pub value-of : (value : ℤ) (choice : Option Choice) → value ≡ minimax (depth_of reply) (cells_in reply) → choice ≡ best_choice (depth_of reply) (cells_in reply) →
      IsValueOfSubmit journal job value choice
  value-of value choice value_is choice_is = grind (arith, asked-by)

  module _ (entries : List Bound) (i : ℕ) (table : IsTable (depth_of reply) (cells_in reply) entries) where
    entry-of-submit : (entry : Bound) → slice_get entries i ≡ Some entry → IsEntryOfSubmit journal job i entry
    entry-of-submit entry at =
        let depth = depth_of reply in
        let board = cells_in reply in
        let within = slice_get_within entries i entry at in
        let is : get_or entries i entry ≡ entry = get_or_from_slice_get entries i entry entry at in
        record {
          own = (board_of reply).own;
          opp = (board_of reply).opp;
          depth = depth;
          asked = asked-by;
          of = entry-of (entered depth board) entries i entry table.each at;
          holds = subst (λ (b : Bound). IsTrueBound depth board b) is (table.holds i entry within);
          best = subst (λ (b : Bound). IsExactIfBest (best_choice depth board) b) is (table.best i entry within);
        }

    pub entry-in : (found : Option Bound) → found ≡ slice_get entries i → IfSome found (λ entry. IsEntryOfSubmit journal job i entry)
    entry-in None at = tt
    entry-in (Some entry) at = entry-of-submit entry (sym at)
