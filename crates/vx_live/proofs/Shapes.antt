-- The shape of a state: its terms have the sorts that typing says, over symbols below its next number.
use Rattle.std.proofs.Common.{◌≡◌, ℕ, zero, suc, Bool, true, false, cond, List, [], ◌∷◌, ◌++◌, length, take, Option, Some, None, refl, sym, ap, subst, append_assoc}
use Rattle.std.proofs.lemmas.Option.{same_Some}
use Rattle.vx_ast.specs.declared.Place.{Place}
use Rattle.vx_ast.specs.declared.ValueType.{ValueType}
use Rattle.vx_ast.specs.declared.ValueType.TheVariants as type
use Rattle.vx_ast.specs.Syntax.{Name, same_name, Declaration, Program, Predicate, predicate_named}
use Rattle.vx_terms.specs.Sorts.{Sort, IntSort, BoolSort, RealSort}
use Rattle.vx_terms.specs.Terms.{Term, sort_of}
use Rattle.vx_terms.specs.Build.{equals, variable}
use Rattle.vx_terms.specs.Interpretations.{Each}
use Rattle.vx_terms.specs.Formed.{Formed}
use Rattle.vx_terms.proofs.Values.{sort_of_formed}
use Rattle.vx_smt_meaning.specs.Commands.{Declared}
use Rattle.vx_rules.specs.States as rules
use Rattle.vx_rules.specs.States.{sort_of_type}
use Rattle.vx_rules.specs.Rules.{entered, back}
use Rattle.vx_rules.specs.Members.{names_of, after_names}
use Rattle.vx_types.specs.Typing.{Scope, type_in}
use Rattle.vx_sound.proofs.Stands.{content_sort}
use Rattle.vx_live.specs.Live.{IsBuiltIn}
use Rattle.vx_live.proofs.Over.{Over, Sorts, Above, stays, above, one_above, fresh_fine, Fine, fine_later, built_sort, built_type, equals_fine}
use Rattle.vx_elements.proofs.Lists.{name_is}

-- Stores

abbrev pub StoreShape : {fs : List Declared} → Sorts fs → ℕ → Scope → rules.Store → Type 0
StoreShape sorts n [] [] = Unit {0}
StoreShape sorts n (d ∷ ds) (a ∷ xs) = (a.0 ≡ d.name) × Fine sorts n a.1 (sort_of_type d.of) × StoreShape sorts n ds xs
StoreShape sorts n _ _ = ⊥

-- terms of the sorts of these declarations
abbrev pub AllFine : {fs : List Declared} → Sorts fs → ℕ → List Declaration → List Term → Type 0
AllFine sorts n [] [] = Unit {0}
AllFine sorts n (d ∷ ds) (t ∷ ts) = Fine sorts n t (sort_of_type d.of) × AllFine sorts n ds ts
AllFine sorts n _ _ = ⊥

-- Chunks

abbrev pub parameters_of : Option Predicate → List Declaration
parameters_of None = []
parameters_of (Some d) = d.parameters

-- the arguments of a field's location, which are its receiver, and of a predicate's instance
abbrev pub arguments_of : Program → Bool → Name → List Declaration
arguments_of p true f = record { name = f; of = type.Ref } ∷ []
arguments_of p false i = parameters_of (predicate_named p i)

-- a chunk of this field or predicate
pub record ChunkOf {fs : List Declared} (p : Program) (sorts : Sorts fs) (n : ℕ) (is_field : Bool) (resource : Name) (c : rules.Chunk) : Type 0 where
  pub arguments : AllFine sorts n (arguments_of p is_field resource) c.arguments
  pub amount : Fine sorts n c.amount RealSort
  pub content : Fine sorts n c.value (content_sort p is_field resource)

abbrev pub ChunkShape : {fs : List Declared} → Program → Sorts fs → ℕ → rules.Chunk → Type 0
ChunkShape p sorts n c = ChunkOf p sorts n c.is_field c.resource c

abbrev pub HeapShape : {fs : List Declared} → Program → Sorts fs → ℕ → rules.Heap → Type 0
HeapShape p sorts n h = Each (ChunkShape p sorts n) h

-- The measure that applications of a function's own group are compared with

abbrev pub MeasureFine : {fs : List Declared} → Sorts fs → ℕ → Option Term → Type 0
MeasureFine sorts n None = Unit {0}
MeasureFine sorts n (Some m) = Fine sorts n m IntSort

abbrev pub OwnFine : {fs : List Declared} → Sorts fs → ℕ → Option rules.Own → Type 0
OwnFine sorts n None = Unit {0}
OwnFine sorts n (Some own) = MeasureFine sorts n own.measure

-- States

abbrev pub IsFact : {fs : List Declared} → Sorts fs → ℕ → rules.Entry → Type 0
IsFact sorts n e = Fine sorts n e.term BoolSort

-- The store has the scope's variables, and its terms, the path and the chunks are over symbols below the next number, each v
-- of one sort.
pub record Shaped {fs : List Declared} (p : Program) (sorts : Sorts fs) (scope : Scope) (s : rules.State) : Type 0 where
  pub store : StoreShape sorts s.next scope s.store
  pub path : Each (IsFact sorts s.next) s.path
  pub heap : HeapShape p sorts s.next s.heap
  pub old : HeapShape p sorts s.next s.old
  pub own : OwnFine sorts s.next s.own

-- a later state
pub record Later {fs : List Declared} (p : Program) (sorts : Sorts fs) (scope : Scope) (n : ℕ) (s : rules.State) : Type 0 where
  pub le : Above sorts n s.next
  pub shaped : Shaped p le.sorts scope s

-- With more symbols

pub store_le : {fs : List Declared} {sorts : Sorts fs} {m n : ℕ} (scope : Scope) (xs : rules.Store) (le : Above sorts m n) → StoreShape sorts m scope xs → StoreShape le.sorts n scope xs
store_le [] [] le h = tt
store_le (d ∷ ds) (a ∷ xs) le h = (h.0, fine_later le h.1, store_le ds xs le h.2)
store_le [] (a ∷ xs) le h = absurd h
store_le (d ∷ ds) [] le h = absurd h

pub path_le : {fs : List Declared} {sorts : Sorts fs} {m n : ℕ} (path : List rules.Entry) (le : Above sorts m n) → Each (IsFact sorts m) path → Each (IsFact le.sorts n) path
path_le [] le h = tt
path_le (e ∷ path) le h = (fine_later le h.0, path_le path le h.1)

pub all_fine_later : {fs : List Declared} {sorts : Sorts fs} {m n : ℕ} (ds : List Declaration) (ts : List Term) (le : Above sorts m n) → AllFine sorts m ds ts → AllFine le.sorts n ds ts
all_fine_later [] [] le h = tt
all_fine_later (d ∷ ds) (t ∷ ts) le h = (fine_later le h.0, all_fine_later ds ts le h.1)
all_fine_later [] (t ∷ ts) le h = absurd h
all_fine_later (d ∷ ds) [] le h = absurd h

chunk_le : {fs : List Declared} {sorts : Sorts fs} (p : Program) {m n : ℕ} (c : rules.Chunk) (le : Above sorts m n) → ChunkShape p sorts m c → ChunkShape p le.sorts n c
chunk_le p c le h = record { arguments = all_fine_later (arguments_of p c.is_field c.resource) c.arguments le h.arguments; amount = fine_later le h.amount; content = fine_later le h.content }

pub heap_le : {fs : List Declared} {sorts : Sorts fs} (p : Program) {m n : ℕ} (h : rules.Heap) (le : Above sorts m n) → HeapShape p sorts m h → HeapShape p le.sorts n h
heap_le p [] le h = tt
heap_le p (c ∷ cs) le h = (chunk_le p c le h.0, heap_le p cs le h.1)

pub measure_le : {fs : List Declared} {sorts : Sorts fs} {m n : ℕ} (measure : Option Term) (le : Above sorts m n) → MeasureFine sorts m measure → MeasureFine le.sorts n measure
measure_le None le h = tt
measure_le (Some t) le h = fine_later le h

pub own_le : {fs : List Declared} {sorts : Sorts fs} {m n : ℕ} (own : Option rules.Own) (le : Above sorts m n) → OwnFine sorts m own → OwnFine le.sorts n own
own_le None le h = tt
own_le (Some own) le h = measure_le own.measure le h

-- with the chunks of another state
pub with_chunks : {p : Program} {fs : List Declared} {sorts : Sorts fs} {scope : Scope} {n : ℕ} {s : rules.State} (heap : rules.Heap) (le : Above sorts n s.next) → HeapShape p sorts n heap → Shaped p le.sorts scope s → Shaped p le.sorts scope (rules.with_heap heap s)
with_chunks {p = p} heap le k sh = record { store = sh.store; path = sh.path; heap = heap_le p heap le k; old = sh.old; own = sh.own }

-- What is read in a store, and what is written

pub found_formed : {fs : List Declared} {sorts : Sorts fs} {n : ℕ} (x : Name) (t : ValueType) (scope : Scope) (xs : rules.Store) → StoreShape sorts n scope xs → type_in x scope ≡ Some t → Fine sorts n (rules.found x xs) (sort_of_type t)
found_formed x t [] xs h e = cc
found_formed x t (d ∷ ds) [] h e = absurd h
found_formed {sorts = sorts} {n = n} x t (d ∷ ds) (a ∷ xs) h e =
    subst (λ y. Fine sorts n (cond (same_name x y) a.1 (rules.found x xs)) (sort_of_type t)) (sym h.0) (go (same_name x d.name) e (λ k. found_formed x t ds xs h.2 k))
  where
    go : (q : Bool) → cond q (Some d.of) (type_in x ds) ≡ Some t → (type_in x ds ≡ Some t → Fine sorts n (rules.found x xs) (sort_of_type t)) → Fine sorts n (cond q a.1 (rules.found x xs)) (sort_of_type t)
    go true f k = subst (λ z. Fine sorts n a.1 (sort_of_type z)) (same_Some d.of t f) h.1
    go false f k = k f

pub shape_assign : {fs : List Declared} {sorts : Sorts fs} (n : ℕ) (x : Name) (t : ValueType) (u : Term) (scope : Scope) (xs : rules.Store) → StoreShape sorts n scope xs → type_in x scope ≡ Some t → Fine sorts n u (sort_of_type t) → StoreShape sorts n scope (rules.assign x u xs)
shape_assign n x t u [] xs h e f = cc
shape_assign n x t u (d ∷ ds) [] h e f = absurd h
shape_assign {sorts = sorts} n x t u (d ∷ ds) (a ∷ xs) h e f =
    subst (λ y. StoreShape sorts n (d ∷ ds) (cond (same_name x y) ((x, u) ∷ xs) (a ∷ rules.assign x u xs))) (sym h.0)
    (go (same_name x d.name) refl e (λ k. shape_assign n x t u ds xs h.2 k f))
  where
    go : (q : Bool) → same_name x d.name ≡ q → cond q (Some d.of) (type_in x ds) ≡ Some t → (type_in x ds ≡ Some t → StoreShape sorts n ds (rules.assign x u xs)) →
        StoreShape sorts n (d ∷ ds) (cond q ((x, u) ∷ xs) (a ∷ rules.assign x u xs))
    go true m k r = (name_is x d.name m, subst (λ y. Fine sorts n u (sort_of_type y)) (sym (same_Some d.of t k)) f, h.2)
    go false m k r = (h.0, h.1, r k)

pub shape_append : {fs : List Declared} {sorts : Sorts fs} (n : ℕ) (scope : Scope) (xs : rules.Store) (d : Declaration) (u : Term) → StoreShape sorts n scope xs → Fine sorts n u (sort_of_type d.of) → StoreShape sorts n (scope ++ d ∷ []) (xs ++ (d.name, u) ∷ [])
shape_append n [] [] d u h f = (refl, f, tt)
shape_append n (c ∷ ds) (x ∷ xs) d u h f = (h.0, h.1, shape_append n ds xs d u h.2 f)
shape_append n [] (x ∷ xs) d u h f = absurd h
shape_append n (c ∷ ds) [] d u h f = absurd h

pub shape_take : {fs : List Declared} (sorts : Sorts fs) (n k : ℕ) (scope : Scope) (xs : rules.Store) → StoreShape sorts n scope xs → StoreShape sorts n (take k scope) (take k xs)
shape_take sorts n zero scope xs h = tt
shape_take sorts n (suc k) [] [] h = tt
shape_take sorts n (suc k) (c ∷ ds) (x ∷ xs) h = (h.0, h.1, shape_take sorts n k ds xs h.2)
shape_take sorts n (suc k) [] (x ∷ xs) h = absurd h
shape_take sorts n (suc k) (c ∷ ds) [] h = absurd h

pub shape_length : {fs : List Declared} (sorts : Sorts fs) (n : ℕ) (scope : Scope) (xs : rules.Store) → StoreShape sorts n scope xs → length xs ≡ length scope
shape_length sorts n [] [] h = refl
shape_length sorts n (c ∷ ds) (x ∷ xs) h = ap suc (shape_length sorts n ds xs h.2)
shape_length sorts n [] (x ∷ xs) h = absurd h
shape_length sorts n (c ∷ ds) [] h = absurd h

-- arguments as the store of what is entered
pub bound_shape : {fs : List Declared} (sorts : Sorts fs) (n : ℕ) (ds : List Declaration) (ts : List Term) → AllFine sorts n ds ts → StoreShape sorts n ds (rules.bind ds ts)
bound_shape sorts n [] [] h = tt
bound_shape sorts n (d ∷ ds) (t ∷ ts) h = (refl, h.0, bound_shape sorts n ds ts h.1)
bound_shape sorts n [] (t ∷ ts) h = absurd h
bound_shape sorts n (d ∷ ds) [] h = absurd h

-- Paths

path_append : {fs : List Declared} (sorts : Sorts fs) (n : ℕ) (path : List rules.Entry) (e : rules.Entry) → Each (IsFact sorts n) path → IsFact sorts n e → Each (IsFact sorts n) (path ++ e ∷ [])
path_append sorts n [] e h f = (f, tt)
path_append sorts n (d ∷ path) e h f = (h.0, path_append sorts n path e h.1 f)

pub path_terms_formed : {fs : List Declared} (sorts : Sorts fs) (n : ℕ) (path : List rules.Entry) → Each (IsFact sorts n) path → Each (λ t. Formed n t BoolSort) (rules.path_terms path)
path_terms_formed sorts n [] h = tt
path_terms_formed sorts n (e ∷ path) h = (h.0.formed, path_terms_formed sorts n path h.1)

pub path_terms_over : {fs : List Declared} (sorts : Sorts fs) (n : ℕ) (path : List rules.Entry) → Each (IsFact sorts n) path → Each (Over fs sorts.of) (rules.path_terms path)
path_terms_over sorts n [] h = tt
path_terms_over sorts n (e ∷ path) h = (h.0.over, path_terms_over sorts n path h.1)

pub entry_shaped : {fs : List Declared} {sorts : Sorts fs} {p : Program} {scope : Scope} {s : rules.State} (t : Term) (branch : Bool) → Shaped p sorts scope s → Fine sorts s.next t BoolSort → Shaped p sorts scope (rules.with_entry record { term = t; branch = branch } s)
entry_shaped {sorts = sorts} {s = s} t branch sh f = record { store = sh.store; path = path_append sorts s.next s.path (record { term = t; branch = branch }) sh.path f; heap = sh.heap; old = sh.old; own = sh.own }

pub fact_later : {fs : List Declared} {sorts : Sorts fs} {p : Program} {scope : Scope} {s : rules.State} (t : Term) → Shaped p sorts scope s → Fine sorts s.next t BoolSort → Later p sorts scope s.next (rules.with_fact t s)
fact_later {sorts = sorts} {p = p} {scope = scope} {s = s} t sh f = go (rules.is_known t s)
  where
    go : (b : Bool) → Later p sorts scope s.next (cond b s (rules.with_entry record { term = t; branch = false } s))
    go true = record { le = stays; shaped = sh }
    go false = record { le = stays; shaped = entry_shaped t false sh f }

pub facts_later : {p : Program} {scope : Scope} (ts : List Term) {fs : List Declared} {sorts : Sorts fs} (s : rules.State) → Shaped p sorts scope s → Each (λ t. Fine sorts s.next t BoolSort) ts → Later p sorts scope s.next (rules.with_facts ts s)
facts_later [] s sh h = record { le = stays; shaped = sh }
facts_later {p = p} {scope = scope} (t ∷ ts) s sh h =
    let k = fact_later t sh h.0 in
    let r = facts_later {p = p} {scope = scope} ts (rules.with_fact t s) k.shaped (each_le ts k.le h.1) in
    record { le = above k.le r.le; shaped = r.shaped }
  where
    each_le : {fs : List Declared} {sorts : Sorts fs} {m n : ℕ} (ts : List Term) (le : Above sorts m n) → Each (λ t. Fine sorts m t BoolSort) ts → Each (λ t. Fine le.sorts n t BoolSort) ts
    each_le [] le h = tt
    each_le (t ∷ ts) le h = (fine_later le h.0, each_le ts le h.1)

-- A further symbol

-- a symbol of this sort more
pub record Fresh {fs : List Declared} (p : Program) (sorts : Sorts fs) (scope : Scope) (s : rules.State) (a : Sort) : Type 0 where
  pub le : Above sorts s.next (suc s.next)
  pub shaped : Shaped p le.sorts scope (rules.after_fresh s)
  pub formed : Fine le.sorts (suc s.next) (variable s.next a) a

pub fresh_later : {fs : List Declared} {sorts : Sorts fs} {p : Program} {scope : Scope} {s : rules.State} (a : Sort) → IsBuiltIn a → Shaped p sorts scope s → Fresh p sorts scope s a
fresh_later {sorts = sorts} {p = p} {scope = scope} {s = s} a built sh =
    let le : Above sorts s.next (suc s.next) = one_above s.next a built in
    record {
      le = le;
      shaped = record { store = store_le scope s.store le sh.store; path = path_le s.path le sh.path; heap = heap_le p s.heap le sh.heap; old = heap_le p s.old le sh.old; own = own_le s.own le sh.own };
      formed = fresh_fine sorts s.next a built;
    }

-- a state with a term of this sort
pub record Named {fs : List Declared} (p : Program) (sorts : Sorts fs) (scope : Scope) (n : ℕ) (a : Sort) (u : Term) (s : rules.State) : Type 0 where
  pub le : Above sorts n s.next
  pub shaped : Shaped p le.sorts scope s
  pub formed : Fine le.sorts s.next u a

pub named : {fs : List Declared} {sorts : Sorts fs} {p : Program} {scope : Scope} {s : rules.State} (t : Term) (a : Sort) → Shaped p sorts scope s → Fine sorts s.next t a → Named p sorts scope s.next a (rules.name_of t s) (rules.after_name t s)
named {sorts = sorts} {p = p} {scope = scope} {s = s} t a sh f = go (rules.is_named t s)
  where
    fresh : Fresh p sorts scope s (sort_of t)
    fresh = fresh_later (sort_of t) (built_sort sorts t f.over) sh

    symbol : Fine fresh.le.sorts (suc s.next) (variable s.next (sort_of t)) a
    symbol = subst (λ b. Fine fresh.le.sorts (suc s.next) (variable s.next (sort_of t)) b) (sort_of_formed f.formed) fresh.formed

    after : Later p fresh.le.sorts scope (suc s.next) (rules.with_fact (equals (variable s.next (sort_of t)) t) (rules.after_fresh s))
    after = fact_later (equals (variable s.next (sort_of t)) t) fresh.shaped (equals_fine symbol (fine_later fresh.le f))

    go : (b : Bool) → Named p sorts scope s.next a (cond b t (variable s.next (sort_of t))) (cond b s (rules.with_fact (equals (variable s.next (sort_of t)) t) (rules.after_fresh s)))
    go true = record { le = stays; shaped = sh; formed = f }
    go false = record { le = above fresh.le after.le; shaped = after.shaped; formed = fine_later after.le symbol }

pub record NamedAll {fs : List Declared} (p : Program) (sorts : Sorts fs) (scope : Scope) (n : ℕ) (ds : List Declaration) (us : List Term) (s : rules.State) : Type 0 where
  pub le : Above sorts n s.next
  pub shaped : Shaped p le.sorts scope s
  pub each : AllFine le.sorts s.next ds us

pub named_all : {p : Program} {scope : Scope} (ds : List Declaration) (ts : List Term) {fs : List Declared} {sorts : Sorts fs} {s : rules.State} → Shaped p sorts scope s → AllFine sorts s.next ds ts → NamedAll p sorts scope s.next ds (names_of ts s) (after_names ts s)
named_all [] [] sh h = record { le = stays; shaped = sh; each = tt }
named_all {p = p} {scope = scope} (d ∷ ds) (t ∷ ts) {s = s} sh h =
    let n = named t (sort_of_type d.of) sh h.0 in
    let r = named_all {p = p} {scope = scope} ds ts {s = rules.after_name t s} n.shaped (all_fine_later ds ts n.le h.1) in
    record { le = above n.le r.le; shaped = r.shaped; each = (fine_later r.le n.formed, r.each) }
named_all [] (t ∷ ts) sh h = absurd h
named_all (d ∷ ds) [] sh h = absurd h

pub declared : {fs : List Declared} {sorts : Sorts fs} {p : Program} {scope : Scope} {s : rules.State} (d : Declaration) → Shaped p sorts scope s → Later p sorts (scope ++ d ∷ []) s.next (rules.declare_fresh d.name (sort_of_type d.of) s)
declared {scope = scope} {s = s} d sh =
    let f = fresh_later (sort_of_type d.of) (built_type d.of) sh in
    record {
      le = f.le;
      shaped = record {
        store = shape_append (suc s.next) scope s.store d (variable s.next (sort_of_type d.of)) f.shaped.store f.formed;
        path = f.shaped.path;
        heap = f.shaped.heap;
        old = f.shaped.old;
        own = f.shaped.own;
      };
    }

append_nil : {A : Type 0} (xs : List A) → xs ≡ xs ++ []
append_nil [] = refl
append_nil (x ∷ xs) = ap (λ ys. x ∷ ys) (append_nil xs)

pub declared_all : (p : Program) (ds : List Declaration) (scope : Scope) {fs : List Declared} {sorts : Sorts fs} (s : rules.State) → Shaped p sorts scope s → Later p sorts (scope ++ ds) s.next (rules.declare_all ds s)
declared_all p [] scope {sorts = sorts} s sh = subst (λ z. Later p sorts z s.next s) (append_nil scope) (record { le = stays; shaped = sh })
declared_all p (d ∷ ds) scope {sorts = sorts} s sh =
    let f = declared d sh in
    let r = declared_all p ds (scope ++ d ∷ []) (rules.declare_fresh d.name (sort_of_type d.of) s) f.shaped in
    subst (λ z. Later p sorts z s.next (rules.declare_all (d ∷ ds) s)) (append_assoc scope (d ∷ []) ds) (record { le = above f.le r.le; shaped = r.shaped })

-- Another member's part

pub entered_shape : {p : Program} {fs : List Declared} {sorts : Sorts fs} {scope : Scope} {s : rules.State} (ds : List Declaration) (ts : List Term) (at : Place) → Shaped p sorts scope s → AllFine sorts s.next ds ts → Shaped p sorts ds (entered (rules.bind ds ts) at s)
entered_shape {sorts = sorts} {s = s} ds ts at sh f = record { store = bound_shape sorts s.next ds ts f; path = sh.path; heap = sh.heap; old = sh.old; own = sh.own }

pub back_shape : {p : Program} {fs : List Declared} {sorts : Sorts fs} {scope inside : Scope} {before s : rules.State} (le : Above sorts before.next s.next) → Shaped p sorts scope before → Shaped p le.sorts inside s → Shaped p le.sorts scope (back before s)
back_shape {scope = scope} {before = before} le sh k = record { store = store_le scope before.store le sh.store; path = k.path; heap = k.heap; old = k.old; own = k.own }
