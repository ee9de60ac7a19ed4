-- Steps that ask and fork are live where what follows is.
use Rattle.std.proofs.Common.{ℕ, Bool, true, false, cond, ◌||◌, List, [], ◌∷◌, Option, Some, None}
use Rattle.vx_ast.specs.declared.Place.{Place}
use Rattle.vx_ast.specs.Syntax.{Declaration, Program}
use Rattle.vx_terms.specs.Sorts.{Sort, BoolSort}
use Rattle.vx_terms.specs.Terms.{Term, same}
use Rattle.vx_terms.specs.Build.{true_term, false_term, negate}
use Rattle.vx_terms.specs.Interpretations.{Each}
use Rattle.vx_smt_meaning.specs.Commands.{Declared}
use Rattle.vx_rules.specs.States as rules
use Rattle.vx_rules.specs.Trees.{Code, Tree, End, Impossible, On, Step, Ask, Probe, Fork, Left, leaves}
use Rattle.vx_rules.specs.Chunks.{Candidate, chosen, candidates, first_argument, surely, sum_at, only_inner}
use Rattle.vx_rules.specs.Rules.{Giving, Going, GivingAll, question, ask, never, probe, fork, first_with, by_sum}
use Rattle.vx_types.specs.Typing.{Scope}
use Rattle.vx_elements.proofs.Lists.{each_append}
use Rattle.vx_elements.proofs.Places.{IsPlace, candidates_places, matching_places}
use Rattle.vx_live.specs.Live.{IsLive, AllLive}
use Rattle.vx_live.proofs.Over.{Sorts, Above, stays, Fine, truth_fine, negate_fine}
use Rattle.vx_live.proofs.Shapes.{AllFine, Shaped, path_terms_formed, path_terms_over, entry_shaped, fact_later}

-- Trees

-- what is said of the sides that an evaluation leaves
abbrev pub Saying : Type 1
Saying = Term → rules.State → Type 0

-- the questions of a tree are live, and its sides are as P says
abbrev pub LiveBy : List Declared → Saying → Tree → Type 0
LiveBy fs P End = Unit {0}
LiveBy fs P (Impossible s) = Unit {0}
LiveBy fs P (On t s) = P t s
LiveBy fs P (Step t) = LiveBy fs P t
LiveBy fs P (Ask q t) = IsLive fs q × LiveBy fs P t
LiveBy fs P (Probe q a b) = IsLive fs q × LiveBy fs P a × LiveBy fs P b
LiveBy fs P (Fork a b) = LiveBy fs P a × LiveBy fs P b

-- where nothing is said of the sides
abbrev pub anything : Saying
anything t s = Unit {0}

pub all_live : (fs : List Declared) (t : Tree) → LiveBy fs anything t → AllLive fs t
all_live fs End h = tt
all_live fs (Impossible s) h = tt
all_live fs (On t s) h = tt
all_live fs (Step t) h = all_live fs t h
all_live fs (Ask q t) h = (h.0, all_live fs t h.1)
all_live fs (Probe q a b) h = (h.0, all_live fs a h.1, all_live fs b h.2)
all_live fs (Fork a b) h = (all_live fs a h.0, all_live fs b h.1)

pub left_live : (fs : List Declared) (P : Saying) (t : Tree) → LiveBy fs P t → Each (λ (l : Left). P l.value l.state) (leaves t)
left_live fs P End h = tt
left_live fs P (Impossible s) h = tt
left_live fs P (On t s) h = (h, tt)
left_live fs P (Step t) h = left_live fs P t h
left_live fs P (Ask q t) h = left_live fs P t h.1
left_live fs P (Probe q a b) h = each_append (λ (l : Left). P l.value l.state) (leaves a) (leaves b) (left_live fs P a h.1) (left_live fs P b h.2)
left_live fs P (Fork a b) h = each_append (λ (l : Left). P l.value l.state) (leaves a) (leaves b) (left_live fs P a h.0) (left_live fs P b h.1)

-- What follows

abbrev pub Follows : {fs : List Declared} → Saying → Program → Sorts fs → ℕ → Scope → Going → Type 0
Follows {fs = fs} P p sorts n scope on = (s : rules.State) (le : Above sorts n s.next) → Shaped p le.sorts scope s → LiveBy fs P (on s)

abbrev pub FollowsWith : {fs : List Declared} → Saying → Program → Sorts fs → ℕ → Scope → Sort → Giving → Type 0
FollowsWith {fs = fs} P p sorts n scope a on = (t : Term) (s : rules.State) (le : Above sorts n s.next) → Shaped p le.sorts scope s → Fine le.sorts s.next t a → LiveBy fs P (on t s)

-- with terms of the sorts of these declarations
abbrev pub FollowsAll : {fs : List Declared} → Saying → Program → Sorts fs → ℕ → Scope → List Declaration → GivingAll → Type 0
FollowsAll {fs = fs} P p sorts n scope ds on = (ts : List Term) (s : rules.State) (le : Above sorts n s.next) → Shaped p le.sorts scope s → AllFine le.sorts s.next ds ts → LiveBy fs P (on ts s)

-- Steps

pub live_case : (fs : List Declared) (P : Saying) (b : Bool) (x y : Tree) → LiveBy fs P x → LiveBy fs P y → LiveBy fs P (cond b x y)
live_case fs P true x y h k = h
live_case fs P false x y h k = k

is_live : {fs : List Declared} {sorts : Sorts fs} {p : Program} {scope : Scope} {s : rules.State} (probe : Bool) (t : Term) (at : Place) (code : Code) → Shaped p sorts scope s → Fine sorts s.next t BoolSort → IsLive fs (question probe t at code s)
is_live {sorts = sorts} {s = s} probe t at code sh f = record {
  next = s.next;
  sorts = sorts.of;
  built_in = sorts.built_in;
  condition = f.formed;
  path = path_terms_formed sorts s.next s.path sh.path;
  condition_over = f.over;
  path_over = path_terms_over sorts s.next s.path sh.path;
}

pub ask_live : {fs : List Declared} (P : Saying) {sorts : Sorts fs} {p : Program} {scope : Scope} {s : rules.State} (t : Term) (at : Place) (code : Code) (on : Going) → Shaped p sorts scope s → Fine sorts s.next t BoolSort → Follows P p sorts s.next scope on → LiveBy fs P (ask t at code s on)
ask_live P {s = s} t at code on sh f h =
    let k = fact_later t sh f in
    live_case _ P (same t true_term || rules.is_quiet s) _ _ (h s stays sh)
    (is_live false t at code sh f, live_case _ P (same t false_term) (Impossible s) (on (rules.with_fact t s)) tt (h (rules.with_fact t s) k.le k.shaped))

pub fork_live : {fs : List Declared} (P : Saying) {sorts : Sorts fs} {p : Program} {scope : Scope} {s : rules.State} (t : Term) (left right : Going) → Shaped p sorts scope s → Fine sorts s.next t BoolSort → Follows P p sorts s.next scope left → Follows P p sorts s.next scope right → LiveBy fs P (fork t s left right)
fork_live P {s = s} t left right sh f h k =
    live_case _ P (rules.is_known t s) _ _ (h s stays sh)
    (live_case _ P (rules.is_known (negate t) s) _ _ (k s stays sh)
    (h (rules.with_branch t s) stays (entry_shaped t true sh f), k (rules.with_branch (negate t) s) stays (entry_shaped (negate t) true sh (negate_fine f))))

pub never_live : {fs : List Declared} (P : Saying) {sorts : Sorts fs} {p : Program} {scope : Scope} {s : rules.State} (at : Place) (code : Code) → Shaped p sorts scope s → LiveBy fs P (never at code s)
never_live P {s = s} at code sh = live_case _ P (rules.is_quiet s) End (Ask (question false false_term at code s) (Impossible s)) tt (is_live false false_term at code sh (truth_fine false), tt)

probe_live : {fs : List Declared} (P : Saying) {sorts : Sorts fs} {p : Program} {scope : Scope} {s : rules.State} (t : Term) (at : Place) (code : Code) (refuted otherwise : Tree) → Shaped p sorts scope s → Fine sorts s.next t BoolSort → LiveBy fs P refuted → LiveBy fs P otherwise →
    LiveBy fs P (probe t at code s refuted otherwise)
probe_live P {s = s} t at code refuted otherwise sh f h k =
    live_case _ P (same t true_term) _ _ h (live_case _ P (rules.is_quiet s) _ _ k (is_live true t at code sh f, live_case _ P (same t false_term) (Impossible s) refuted tt h, k))

-- candidates, by what is known of each
first_of_live : {fs : List Declared} (P : Saying) {sorts : Sorts fs} {p : Program} {scope : Scope} {s : rules.State} (key : rules.Chunk) (wanted : rules.Chunk → Term) (cs : List Candidate) (at : Place) (code : Code) (on : Candidate → Tree) (otherwise : Tree) → Each (IsPlace key s.heap) cs → Shaped p sorts scope s →
    ((d : Candidate) → IsPlace key s.heap d → Fine sorts s.next (wanted d.chunk) BoolSort × LiveBy fs P (on d)) → LiveBy fs P otherwise → LiveBy fs P (first_with wanted cs at code s on otherwise)
first_of_live P key wanted [] at code on otherwise pl sh h k = k
first_of_live P {s = s} key wanted (d ∷ ds) at code on otherwise pl sh h k =
    probe_live P (wanted d.chunk) at code (on d) (first_with wanted ds at code s on otherwise) sh (h d pl.0).0 (h d pl.0).1 (first_of_live P key wanted ds at code on otherwise pl.1 sh h k)

pub first_live : {fs : List Declared} (P : Saying) {sorts : Sorts fs} {p : Program} {scope : Scope} {s : rules.State} (key : rules.Chunk) (wanted : rules.Chunk → Term) (at : Place) (code : Code) (on : Candidate → Tree) (otherwise : Tree) → Shaped p sorts scope s →
    ((d : Candidate) → IsPlace key s.heap d → Fine sorts s.next (wanted d.chunk) BoolSort × LiveBy fs P (on d)) → LiveBy fs P otherwise → LiveBy fs P (first_with wanted (candidates key s.heap) at code s on otherwise)
first_live P {s = s} key wanted at code on otherwise sh h k = first_of_live P key wanted (candidates key s.heap) at code on otherwise (candidates_places key s.heap) sh h k

-- what is surely as wanted is one of them
surely_live : (fs : List Declared) (P : Saying) (key : rules.Chunk) (h : rules.Heap) (wanted : rules.Chunk → Term) (cs : List Candidate) (on : Candidate → Tree) (otherwise : Tree) → Each (IsPlace key h) cs →
    ((d : Candidate) → IsPlace key h d → LiveBy fs P (on d)) → LiveBy fs P otherwise → LiveBy fs P (elim (surely wanted cs) as (λ o. Tree) [ Some c ↦ Step (on c) | None ↦ otherwise ])
surely_live fs P key heap wanted [] on otherwise pl h k = k
surely_live fs P key heap wanted (d ∷ ds) on otherwise pl h k = go (same (wanted d.chunk) true_term) (surely_live fs P key heap wanted ds on otherwise pl.1 h k)
  where
    chosen_tree : Option Candidate → Tree
    chosen_tree None = otherwise
    chosen_tree (Some c) = Step (on c)

    go : (b : Bool) → LiveBy fs P (chosen_tree (surely wanted ds)) → LiveBy fs P (chosen_tree (cond b (Some d) (surely wanted ds)))
    go true rest = h d pl.0
    go false rest = rest

-- an own chunk that is surely as wanted, else what is asked of the sum
pub by_sum_live : {fs : List Declared} (P : Saying) {sorts : Sorts fs} {p : Program} {scope : Scope} {s : rules.State} (key : rules.Chunk) (wanted : rules.Chunk → Term) (asked : Term → Term) (at : Place) (code : Code) (on : Candidate → Tree) (summed : Going) → Shaped p sorts scope s →
    Fine sorts s.next (asked (sum_at (first_argument key.arguments) (candidates key s.heap))) BoolSort → ((d : Candidate) → IsPlace key s.heap d → LiveBy fs P (on d)) → Follows P p sorts s.next scope summed → LiveBy fs P (by_sum wanted asked key at code s on summed)
by_sum_live {fs = fs} P {s = s} key wanted asked at code on summed sh f h k =
    surely_live fs P key s.heap wanted (chosen true key 0 s.heap) on _ (matching_places key s.heap) h (ask_live P (asked (sum_at (first_argument key.arguments) (candidates key s.heap))) at code summed sh f k)

-- those from inside the root
inner_places : (key : rules.Chunk) (h : rules.Heap) (cs : List Candidate) → Each (IsPlace key h) cs → Each (IsPlace key h) (only_inner cs)
inner_places key h [] pl = tt
inner_places key h (c ∷ cs) pl = go c.chunk.inner (inner_places key h cs pl.1)
  where
    go : (b : Bool) → Each (IsPlace key h) (only_inner cs) → Each (IsPlace key h) (cond b (c ∷ only_inner cs) (only_inner cs))
    go true rest = (pl.0, rest)
    go false rest = rest

pub first_inner_live : {fs : List Declared} (P : Saying) {sorts : Sorts fs} {p : Program} {scope : Scope} {s : rules.State} (key : rules.Chunk) (wanted : rules.Chunk → Term) (at : Place) (code : Code) (on : Candidate → Tree) (otherwise : Tree) → Shaped p sorts scope s →
    ((d : Candidate) → IsPlace key s.heap d → Fine sorts s.next (wanted d.chunk) BoolSort × LiveBy fs P (on d)) → LiveBy fs P otherwise → LiveBy fs P (first_with wanted (only_inner (candidates key s.heap)) at code s on otherwise)
first_inner_live P {s = s} key wanted at code on otherwise sh h k =
    first_of_live P key wanted (only_inner (candidates key s.heap)) at code on otherwise (inner_places key s.heap (candidates key s.heap) (candidates_places key s.heap)) sh h k
