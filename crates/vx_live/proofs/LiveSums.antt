-- Locations that are read, taken and written, and instances that are taken: what is asked is well-sorted, and so are the symbols that
-- stand for values and amounts then.
use Rattle.std.proofs.Common.{◌≡◌, ℕ, zero, suc, Bool, true, false, not, cond, ◌&&◌, inr, slice_set, List, [], ◌∷◌, ◌++◌, refl, sym, subst}
use Rattle.std.proofs.lemmas.Bool.{and_parts}
use Rattle.vx_ast.specs.declared.Place.{Place}
use Rattle.vx_ast.specs.declared.ValueType.TheVariants as type
use Rattle.vx_ast.specs.Syntax.{Name, Program, Declaration}
use Rattle.vx_terms.specs.Sorts.{Sort, BoolSort, RealSort, RefSort}
use Rattle.vx_terms.specs.Terms.{Term, same}
use Rattle.vx_terms.specs.Build.{equals, less, less_equal, subtract, zero_amount, whole_amount}
use Rattle.vx_terms.specs.Interpretations.{Each}
use Rattle.vx_smt_meaning.specs.Commands.{Declared}
use Rattle.vx_rules.specs.States as rules
use Rattle.vx_rules.specs.Trees.{Code, PermissionCode, Tree}
use Rattle.vx_rules.specs.Chunks.{field_key, first_argument, Candidate, candidates, holds_some, holds_amount, value_facts, with_value, without, reduced, with_amount, written, share, shared_out, without_empty, value_where, written_each}
use Rattle.vx_rules.specs.Rules.{Giving, Going, never, by_sum, first_with, field_sort, take_fresh, take_chunk, read_field, write_field}
use Rattle.vx_types.specs.Typing.{Scope}
use Rattle.vx_elements.proofs.Places.{IsPlace, candidates_places}
use Rattle.vx_sound.proofs.Stands.{content_sort}
use Rattle.vx_live.proofs.Over.{Sorts, Above, stays, above, Fine, fine_later, zero_fine, whole_fine, positive_fine, implies_fine, equals_fine, ite_fine, less_equal_fine, subtract_fine}
use Rattle.vx_live.proofs.Shapes.{AllFine, arguments_of, ChunkShape, HeapShape, Shaped, Later, heap_le, all_fine_later, facts_later, fresh_later, Named, named}
use Rattle.vx_live.proofs.LiveSteps.{Saying, LiveBy, Follows, FollowsWith, live_case, ask_live, never_live, first_live, by_sum_live}
use Rattle.vx_live.proofs.LiveChunks.{built_content, place_shape, found_shape, set_shape, as_found, some_fine, amount_fine, receiver_at, sum_fine, only_fine}

-- with another item in a place
each_set : {A : Type 0} (P : A → Type 0) (xs : List A) (n : ℕ) (x : A) → P x → Each P xs → Each P (slice_set xs n x)
each_set P [] n x k h = tt
each_set P (y ∷ ys) zero x k h = (k, h.1)
each_set P (y ∷ ys) (suc n) x k h = (h.0, each_set P ys n x k h.1)

module _ {p : Program} where
  -- a chunk of the state with another amount or another value, which are named
  set_later : {fs : List Declared} {sorts : Sorts fs} {scope : Scope} {s : rules.State} (t : Term) (a : Sort) (d : Candidate) (x : Term → rules.Chunk) → Shaped p sorts scope s → Fine sorts s.next t a →
      ((n : Named p sorts scope s.next a (rules.name_of t s) (rules.after_name t s)) → ChunkShape p n.le.sorts (rules.after_name t s).next (x (rules.name_of t s))) →
      Later p sorts scope s.next (rules.with_heap (slice_set s.heap d.number (x (rules.name_of t s))) (rules.after_name t s))
  set_later {s = s} t a d x sh ft h =
      let n = named t a sh ft in
      record {
        le = n.le;
        shaped = record {
          store = n.shaped.store;
          path = n.shaped.path;
          heap = each_set (ChunkShape p n.le.sorts (rules.after_name t s).next) s.heap d.number (x (rules.name_of t s)) (h n) (heap_le p s.heap n.le sh.heap);
          old = n.shaped.old;
          own = n.shaped.own;
        };
      }

  -- A candidate is one of a heap of before.

  amount_later : {fs : List Declared} {sorts : Sorts fs} {scope : Scope} {s : rules.State} {key : rules.Chunk} {h : rules.Heap} (d : Candidate) (b : Term) → IsPlace key h d → HeapShape p sorts s.next h → Shaped p sorts scope s → Fine sorts s.next b RealSort →
      Later p sorts scope s.next (with_amount d b s)
  amount_later {s = s} {h = h} d b pl hs sh fb =
      set_later b RealSort d (λ u. record d.chunk { amount = u }) sh fb (λ n. let c = (place_shape pl (heap_le p h n.le hs)).0 in record { arguments = c.arguments; amount = n.formed; content = c.content })

  written_later : {fs : List Declared} {sorts : Sorts fs} {scope : Scope} {s : rules.State} {key : rules.Chunk} {h : rules.Heap} (d : Candidate) (t : Term) → IsPlace key h d → HeapShape p sorts s.next h → Shaped p sorts scope s → Fine sorts s.next t (content_sort p key.is_field key.resource) →
      Later p sorts scope s.next (written d t s)
  written_later {s = s} {key = key} {h = h} d t pl hs sh ft =
      set_later t (content_sort p key.is_field key.resource) d (λ u. record d.chunk { value = u }) sh ft (λ n.
      let c = found_shape pl (heap_le p h n.le hs) in as_found pl (record d.chunk { value = rules.name_of t s }) (record { arguments = c.arguments; amount = c.amount; content = n.formed }))

  -- what one candidate gives of an amount, which is named
  share_later : {fs : List Declared} {sorts : Sorts fs} {scope : Scope} {s : rules.State} (key : rules.Chunk) (h : rules.Heap) (r a : Term) (d : Candidate) → key.is_field ≡ true → IsPlace key h d → HeapShape p sorts s.next h → Shaped p sorts scope s →
      Fine sorts s.next r RefSort → Fine sorts s.next a RealSort →
      (let t = share r a d.chunk in let taken = rules.name_of t s in Named p sorts scope s.next RealSort taken (with_amount d (subtract d.chunk.amount taken) (rules.after_name t s)))
  share_later {s = s} key h r a d field pl hs sh fr fa =
      let t = share r a d.chunk in
      let c = found_shape {p = p} pl hs in
      let n = named t RealSort sh (ite_fine (equals_fine (receiver_at d.chunk field c) fr) (ite_fine (less_equal_fine (inr refl) c.amount fa) c.amount fa) zero_fine) in
      let b = amount_later d (subtract d.chunk.amount (rules.name_of t s)) pl (heap_le p h n.le hs) n.shaped (subtract_fine (inr refl) (fine_later n.le c.amount) n.formed) in
      record { le = above n.le b.le; shaped = b.shaped; formed = fine_later b.le n.formed }

module _ (p : Program) (scope : Scope) (key : rules.Chunk) (h : rules.Heap) (field : key.is_field ≡ true) (r : Term) where
  -- an amount that is taken from all candidates
  shared_later : (cs : List Candidate) {fs : List Declared} {sorts : Sorts fs} (a : Term) (s : rules.State) → Each (IsPlace key h) cs → HeapShape p sorts s.next h → Shaped p sorts scope s → Fine sorts s.next r RefSort → Fine sorts s.next a RealSort →
      Later p sorts scope s.next (shared_out r a cs s)
  shared_later [] a s pl hs sh fr fa = record { le = stays; shaped = sh }
  shared_later (d ∷ ds) a s pl hs sh fr fa =
      let t = share r a d.chunk in
      let taken = rules.name_of t s in
      let n = share_later key h r a d field pl.0 hs sh fr fa in
      let l = shared_later ds (subtract a taken) (with_amount d (subtract d.chunk.amount taken) (rules.after_name t s)) pl.1 (heap_le p h n.le hs) n.shaped (fine_later n.le fr) (subtract_fine (inr refl) (fine_later n.le fa) n.formed) in
      record { le = above n.le l.le; shaped = l.shaped }

  -- a value that is written in all
  each_written_later : (cs : List Candidate) {fs : List Declared} {sorts : Sorts fs} (t : Term) (s : rules.State) → Each (IsPlace key h) cs → HeapShape p sorts s.next h → Shaped p sorts scope s → Fine sorts s.next r RefSort →
      Fine sorts s.next t (content_sort p key.is_field key.resource) → Later p sorts scope s.next (written_each r t cs s)
  each_written_later [] t s pl hs sh fr ft = record { le = stays; shaped = sh }
  each_written_later (d ∷ ds) t s pl hs sh fr ft =
      let c = found_shape {p = p} pl.0 hs in
      let w = written_later d (value_where r t d.chunk) pl.0 hs sh (ite_fine (equals_fine (receiver_at d.chunk field c) fr) ft c.content) in
      let l = each_written_later ds t (written d (value_where r t d.chunk) s) pl.1 (heap_le p h w.le hs) w.shaped (fine_later w.le fr) (fine_later w.le ft) in
      record { le = above w.le l.le; shaped = l.shaped }

nonempty_shape : (p : Program) {fs : List Declared} (sorts : Sorts fs) (n : ℕ) (h : rules.Heap) → HeapShape p sorts n h → HeapShape p sorts n (without_empty h)
nonempty_shape p sorts n [] sh = tt
nonempty_shape p sorts n (c ∷ cs) sh = go (same c.amount zero_amount) (nonempty_shape p sorts n cs sh.1)
  where
    go : (b : Bool) → HeapShape p sorts n (without_empty cs) → HeapShape p sorts n (cond b (without_empty cs) (c ∷ without_empty cs))
    go true rest = rest
    go false rest = (sh.0, rest)

module _ (p : Program) (key : rules.Chunk) where
  abbrev content : Sort
  content = content_sort p key.is_field key.resource

  abbrev arguments : List Declaration
  arguments = arguments_of p key.is_field key.resource

  -- the value of a location with these candidates
  values_fine : {fs : List Declared} {sorts : Sorts fs} {n : ℕ} {u : Term} (h : rules.Heap) (r : Term) (cs : List Candidate) → Each (IsPlace key h) cs → HeapShape p sorts n h → AllFine sorts n arguments (r ∷ []) → Fine sorts n u content → Each (λ t. Fine sorts n t BoolSort) (value_facts r u cs)
  values_fine h r [] pl hs fr fu = tt
  values_fine h r (d ∷ ds) pl hs fr fu = let c = found_shape {p = p} pl.0 hs in (implies_fine (some_fine (r ∷ []) d.chunk c fr) (equals_fine fu c.content), values_fine h r ds pl.1 hs fr fu)

  valued : {fs : List Declared} {sorts : Sorts fs} {scope : Scope} {s : rules.State} (h : rules.Heap) (r : Term) (cs : List Candidate) → Each (IsPlace key h) cs → HeapShape p sorts s.next h → Shaped p sorts scope s → AllFine sorts s.next arguments (r ∷ []) →
      Named p sorts scope s.next content (rules.fresh content s) (with_value r (rules.fresh content s) cs s)
  valued {s = s} h r cs pl hs sh fr =
      let u = rules.fresh content s in
      let f = fresh_later content (built_content p key.is_field key.resource) sh in
      let k = facts_later (value_facts r u cs) (rules.after_fresh s) f.shaped (values_fine h r cs pl (heap_le p h f.le hs) (all_fine_later arguments (r ∷ []) f.le fr) f.formed) in
      record { le = above f.le k.le; shaped = k.shaped; formed = fine_later k.le f.formed }

  -- a receiver as the arguments of a location
  receiver_only : {fs : List Declared} (sorts : Sorts fs) (n : ℕ) → key.is_field ≡ true → AllFine sorts n arguments key.arguments → Fine sorts n (first_argument key.arguments) RefSort
  receiver_only sorts n field g = only_fine (record { name = key.resource; of = type.Ref }) key.arguments (subst (λ b. AllFine sorts n (arguments_of p b key.resource) key.arguments) field g)

  as_arguments : {fs : List Declared} {sorts : Sorts fs} {n : ℕ} {r : Term} → key.is_field ≡ true → Fine sorts n r RefSort → AllFine sorts n arguments (r ∷ [])
  as_arguments {sorts = sorts} {n = n} {r = r} field fr = subst (λ b. AllFine sorts n (arguments_of p b key.resource) (r ∷ [])) (sym field) (fr, tt)

-- Taking

module _ {p : Program} where
  reduced_shape : {fs : List Declared} {sorts : Sorts fs} {scope : Scope} {s : rules.State} {key : rules.Chunk} (d : Candidate) (a : Term) → IsPlace key s.heap d → Shaped p sorts scope s → Fine sorts s.next a RealSort → Shaped p sorts scope (rules.with_heap (reduced d a s.heap) s)
  reduced_shape {sorts = sorts} {s = s} d a pl sh ga = record { store = sh.store; path = sh.path; heap = go (same (subtract d.chunk.amount a) zero_amount); old = sh.old; own = sh.own }
    where
      c : ChunkShape p sorts s.next d.chunk × HeapShape p sorts s.next (pl.front ++ pl.back)
      c = place_shape pl sh.heap

      go : (b : Bool) → HeapShape p sorts s.next (cond b (without d.number s.heap) (slice_set s.heap d.number (record d.chunk { amount = subtract d.chunk.amount a })))
      go true = subst (λ h. HeapShape p sorts s.next h) (sym pl.without_is) c.1
      go false = set_shape pl (record d.chunk { amount = subtract d.chunk.amount a }) sh.heap (record { arguments = c.0.arguments; amount = subtract_fine (inr refl) c.0.amount ga; content = c.0.content })

  module _ {fs : List Declared} (P : Saying) {sorts : Sorts fs} {scope : Scope} {s : rules.State} (key : rules.Chunk) (a : Term) (at : Place) (code : Code) (on : rules.Chunk → Going) (sh : Shaped p sorts scope s)
      (g : AllFine sorts s.next (arguments_of p key.is_field key.resource) key.arguments) (ga : Fine sorts s.next a RealSort)
      (h : (c : rules.Chunk) (s1 : rules.State) (le : Above sorts s.next s1.next) → Shaped p le.sorts scope s1 → Fine le.sorts s1.next c.value (content_sort p key.is_field key.resource) → LiveBy fs P (on c s1)) where
    abbrev sort : Sort
    sort = content_sort p key.is_field key.resource

    abbrev taking : Candidate → Tree
    taking d = on d.chunk (rules.with_heap (reduced d a s.heap) s)

    taking_live : (d : Candidate) → IsPlace key s.heap d → LiveBy fs P (taking d)
    taking_live d pl = h d.chunk (rules.with_heap (reduced d a s.heap) s) stays (reduced_shape d a pl sh ga) (found_shape pl sh.heap).content

    -- from the first candidate that has it
    first_taken : LiveBy fs P (first_with (holds_amount a key.arguments) (candidates key s.heap) at code s taking (take_fresh key a sort at code s on))
    first_taken =
        first_live P key (holds_amount a key.arguments) at code taking (take_fresh key a sort at code s on) sh (λ d pl. (amount_fine key.arguments d.chunk (found_shape pl sh.heap) g ga, taking_live d pl))
        (live_case _ P (rules.is_quiet s) _ _ tt
        (ask_live P (equals a zero_amount) at code (λ s1. on (record key { amount = a; value = rules.fresh sort s1 }) (rules.after_fresh s1)) sh (equals_fine ga zero_fine) (λ s1 le sh1.
        let k = fresh_later sort (built_content p key.is_field key.resource) sh1 in h (record key { amount = a; value = rules.fresh sort s1 }) (rules.after_fresh s1) (above le k.le) k.shaped k.formed)))

    abbrev r : Term
    r = first_argument key.arguments

    abbrev from_all : Going
    from_all s1 =
        let cs = candidates key s1.heap in
        let s2 = shared_out r a cs s1 in
        let u = rules.fresh sort s2 in
        on (record key { amount = a; value = u }) (with_value r u cs (rules.with_heap (without_empty s2.heap) s2))

    -- from all of a location
    sum_taken : key.is_field ≡ true → LiveBy fs P (by_sum (holds_amount a key.arguments) (less_equal a) key at code s taking from_all)
    sum_taken field =
        let fr = receiver_only p key sorts s.next field g in
        by_sum_live P key (holds_amount a key.arguments) (less_equal a) at code taking from_all sh
        (less_equal_fine (inr refl) ga (sum_fine p key s.heap field sh.heap (candidates key s.heap) fr (candidates_places key s.heap))) taking_live (λ s1 le sh1.
        let cs = candidates key s1.heap in
        let pl = candidates_places key s1.heap in
        let s2 = shared_out r a cs s1 in
        let b = shared_later p scope key s1.heap field r cs a s1 pl sh1.heap sh1 (fine_later le fr) (fine_later le ga) in
        let left = rules.with_heap (without_empty s2.heap) s2 in
        let v = valued p key {s = left} s1.heap r cs pl (heap_le p s1.heap b.le sh1.heap) (record { store = b.shaped.store; path = b.shaped.path; heap = nonempty_shape p b.le.sorts s2.next s2.heap b.shaped.heap; old = b.shaped.old; own = b.shaped.own })
        (as_arguments p key field (fine_later (above le b.le) fr)) in
        h (record key { amount = a; value = rules.fresh sort s2 }) (with_value r (rules.fresh sort s2) cs left) (above le (above b.le v.le)) v.shaped v.formed)

    pub take_live : LiveBy fs P (take_chunk key a sort at code s on)
    take_live = go (key.is_field && not (rules.is_quiet s)) refl
      where
        go : (b : Bool) → (key.is_field && not (rules.is_quiet s)) ≡ b →
            LiveBy fs P (cond b (by_sum (holds_amount a key.arguments) (less_equal a) key at code s taking from_all) (first_with (holds_amount a key.arguments) (candidates key s.heap) at code s taking (take_fresh key a sort at code s on)))
        go true e = sum_taken (and_parts key.is_field _ e).0
        go false e = first_taken

  -- Reading and writing

  pub read_live : {fs : List Declared} (P : Saying) {sorts : Sorts fs} {scope : Scope} {s : rules.State} (f : Name) (r : Term) (at : Place) (on : Giving) → Shaped p sorts scope s → Fine sorts s.next r RefSort →
      FollowsWith P p sorts s.next scope (field_sort p f) on → LiveBy fs P (read_field f r (field_sort p f) at s on)
  read_live P {s = s} f r at on sh g h =
      let key = field_key f r in
      let summed = λ (s1 : rules.State). on (rules.fresh (field_sort p f) s1) (with_value r (rules.fresh (field_sort p f) s1) (candidates key s1.heap) s1) in
      live_case _ P (rules.is_quiet s) _ _
      (first_live P key (holds_some (r ∷ [])) at PermissionCode (λ d. on d.chunk.value s) (never at PermissionCode s) sh
      (λ d pl. let c = found_shape pl sh.heap in (some_fine (r ∷ []) d.chunk c (g, tt), h d.chunk.value s stays sh c.content))
      (never_live P at PermissionCode sh))
      (by_sum_live P key (holds_some (r ∷ [])) (less zero_amount) at PermissionCode (λ d. on d.chunk.value s) summed sh
      (positive_fine (sum_fine p key s.heap refl sh.heap (candidates key s.heap) g (candidates_places key s.heap))) (λ d pl. h d.chunk.value s stays sh (found_shape pl sh.heap).content) (λ s1 le sh1.
      let v = valued p key s1.heap r (candidates key s1.heap) (candidates_places key s1.heap) sh1.heap sh1 (fine_later le g, tt) in
      h (rules.fresh (field_sort p f) s1) (with_value r (rules.fresh (field_sort p f) s1) (candidates key s1.heap) s1) (above le v.le) v.shaped v.formed))

  pub write_live : {fs : List Declared} (P : Saying) {sorts : Sorts fs} {scope : Scope} {s : rules.State} (f : Name) (r t : Term) (at : Place) (on : Going) → Shaped p sorts scope s → Fine sorts s.next r RefSort → Fine sorts s.next t (field_sort p f) →
      Follows P p sorts s.next scope on → LiveBy fs P (write_field f r t at s on)
  write_live P {scope = scope} {s = s} f r t at on sh g ft h =
      let key = field_key f r in
      by_sum_live P key (holds_amount whole_amount (r ∷ [])) (less_equal whole_amount) at PermissionCode (λ d. on (written d t s)) (λ s1. on (written_each r t (candidates key s1.heap) s1)) sh
      (less_equal_fine (inr refl) whole_fine (sum_fine p key s.heap refl sh.heap (candidates key s.heap) g (candidates_places key s.heap)))
      (λ d pl. let w = written_later d t pl sh.heap sh ft in h (written d t s) w.le w.shaped) (λ s1 le sh1.
      let w = each_written_later p scope key s1.heap refl r (candidates key s1.heap) t s1 (candidates_places key s1.heap) sh1.heap sh1 (fine_later le g) (fine_later le ft) in
      h (written_each r t (candidates key s1.heap) s1) (above le w.le) w.shaped)
