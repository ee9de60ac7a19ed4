-- Heaps of src/ against those of the rules.
use Rattle.std.proofs.Common.{◌≡◌, ◌<◌, ◌≤◌, ℕ, zero, suc, Bool, true, false, List, [], ◌∷◌, ◌++◌, map, take, drop, drop-cons, get_or, Option, Some, None, refl, sym, ap, ap₂, ◌∙◌, subst, arith}
use Rattle.std.specs.Prelude.{◌&&◌, not, if◌then◌else◌, slice_get, slice_set, length, option_map, filter, IfSome}
use Rattle.std.proofs.lemmas.List.{map-append, take-map, drop-map}
use Rattle.std.proofs.lemmas.Option.{slice_get-map, slice_get_read}
use Rattle.vx_terms.specs.Terms.{Term, same, same_bool}
use Rattle.vx_terms.specs.Build.{less_equal, whole_amount, zero_amount, unit}
use Rattle.vx_rules.specs.States.{Chunk, Heap, State, is_quiet, with_facts}
use Rattle.vx_rules.specs.Chunks.{Candidate, at_most_three, sum_at, is_kin, same_arguments, chosen, only_inner, without, without_empty, merged, put, put_over, put_facts, field_facts, instance_facts}
use Rattle.vx_heap.specs.Heaps.{IsFirst, standing, sum_behind, facts_of, over, Puts, emptied_from}
use Rattle.vx_heap.proofs.Behind.{sum_is}

pub without_map : {A : Type 0} (f : A → Chunk) (n : ℕ) (xs : List A) → map f (take n xs ++ drop (suc n) xs) ≡ without n (map f xs)
without_map f n xs = map-append f (take n xs) (drop (suc n) xs) ∙ ap₂ (λ a b. a ++ b) (sym (take-map f n xs)) (sym (drop-map f (suc n) xs))

step : (t : Bool) (c : Candidate) (xs ys : List Candidate) → xs ≡ ys → (if t then c ∷ xs else xs) ≡ (if t then c ∷ ys else ys)
step t c xs ys e = ap (λ l. if t then c ∷ l else l) e

-- a chunk chooses as its key does
pub chosen_by_key : (b : Bool) (k : Chunk) (a v : Term) (r i : Bool) (n : ℕ) (h : Heap) → chosen b (record k { amount = a; value = v; root = r; inner = i }) n h ≡ chosen b k n h
chosen_by_key b k a v r i n [] = refl
chosen_by_key b k a v r i n (c ∷ cs) = step _ _ _ _ (chosen_by_key b k a v r i (suc n) cs)

-- a number's chunk is that of the item there
pub element_at : {A : Type 0} (f : A → Chunk) (xs : List A) (n : ℕ) (x : A) → n < length xs → x ≡ get_or xs n x → slice_get (map f xs) n ≡ Some (f x)
element_at f xs n x lt is = slice_get-map f xs n ∙ ap (option_map f) (slice_get_read xs (length xs) n x refl lt is)

-- the first that a walk meets
pub found_at : {A : Type 0} (f : A → Chunk) (k : Chunk) (n : ℕ) (xs ys : List A) (x : A) → ys ≡ xs → n < length ys → x ≡ get_or ys n x →
    (is_kin k (f x) && same_bool true (same_arguments k.arguments (f x).arguments)) ≡ true →
    chosen true k 0 (map f xs) ≡ chosen true k n (map f (drop n ys)) → IsFirst (Some n) (map f xs) (chosen true k 0 (map f xs))
found_at f k n xs ys x same lt is passes walk =
    let rest = chosen true k (suc n) (map f (drop (suc n) ys)) in
    let first : Candidate = record { number = n; chunk = f x } in
    let e : chosen true k 0 (map f xs) ≡ first ∷ rest =
    walk
    ∙ ap (λ l. chosen true k n (map f l)) (drop-cons ys n x lt)
    ∙ ap (λ y. chosen true k n (f y ∷ map f (drop (suc n) ys))) (sym is)
    ∙ ap (λ b. if b then first ∷ rest else rest) passes in
    let there : slice_get (map f xs) n ≡ Some (f x) = subst (λ l. slice_get (map f l) n ≡ Some (f x)) same (element_at f ys n x lt is) in
    subst (λ cs. IsFirst (Some n) (map f xs) cs) (sym e) (refl, there)

made_by : (n : Option ℕ) (cs : List Candidate) (s b : Bool) (new : Chunk) (h h1 : Heap) (facts : List Term) → IsFirst n h cs → Puts n s b new h h1 facts → (facts ≡ facts_of s b cs new h) × (h1 ≡ put_over cs new h)
made_by None cs s b new h h1 facts e m = (m.0 ∙ ap (λ l. facts_of s b l new h) (sym e), m.1 ∙ ap (λ l. put_over l new h) (sym e))
made_by (Some n) [] s b new h h1 facts e m = absurd e
made_by (Some n) (c ∷ cs) s b new h h1 facts e m =
    let p : (facts ≡ facts_of s b (standing n c.chunk) new h) × (h1 ≡ put_over (standing n c.chunk) new h) =
    subst (λ o. IfSome o (λ d. (facts ≡ facts_of s b (standing n d) new h) × (h1 ≡ put_over (standing n d) new h))) e.1 m in
    (p.0 ∙ ap (λ k. facts_of s b (standing k c.chunk) new h) (sym e.0), p.1 ∙ ap (λ k. slice_set h k (merged new c.chunk)) (sym e.0))

-- the facts of a put are those of the rules
facts_are : (s b : Bool) (new : Chunk) (h : Heap) → facts_of s b (chosen true new 0 h) new h ≡ put_facts s b new h
facts_are s b new h =
    let cs = chosen true new 0 h in
    ap (λ l. if new.is_field then field_facts s b cs new h ++ l else instance_facts cs new) (sum_is (s && b) cs new h refl)

-- the put of a chunk into a state, by the number of the first chunk that its key finds
pub put_by : (n : Option ℕ) (q b : Bool) (new : Chunk) (h h1 : Heap) (facts : List Term) →
    IsFirst n h (chosen true (record new { amount = zero_amount; value = unit; root = false; inner = false }) 0 h) →
    Puts n q b new h h1 facts → same new.amount zero_amount ≡ false → (s : State) → not (is_quiet s) ≡ q → with_facts facts (over b h1 s) ≡ put new (over b h s)
put_by n q b new h h1 facts e m z s level =
    let cs = chosen true new 0 h in
    let first : IsFirst n h cs = subst (λ l. IsFirst n h l) (chosen_by_key true new zero_amount unit false false 0 h) e in
    let p = made_by n cs q b new h h1 facts first m in
    ap (λ l. with_facts l (over b h1 s)) (p.0 ∙ facts_are q b new h)
    ∙ ap₂ (λ x l. with_facts (put_facts x b new h) (over b l s)) (sym level) p.1
    ∙ ap (λ t. if t then over b h s else with_facts (put_facts (not (is_quiet s)) b new h) (over b (put_over cs new h) s)) (sym z)

pub facts_of_field : (s b : Bool) (cs : List Candidate) (new : Chunk) (h : Heap) → new.is_field ≡ true → field_facts s b cs new h ++ sum_behind (s && b) cs new h ≡ facts_of s b cs new h
facts_of_field s b cs new h e = ap (λ t. if t then field_facts s b cs new h ++ sum_behind (s && b) cs new h else instance_facts cs new) (sym e)

pub facts_of_instance : (s b : Bool) (cs : List Candidate) (new : Chunk) (h : Heap) → new.is_field ≡ false → instance_facts cs new ≡ facts_of s b cs new h
facts_of_instance s b cs new h e = ap (λ t. if t then field_facts s b cs new h ++ sum_behind (s && b) cs new h else instance_facts cs new) (sym e)

-- a place without an amount, and one with some
pub emptied_gone : (n : ℕ) (h : Heap) (c : Chunk) → slice_get h n ≡ Some c → same c.amount zero_amount ≡ true → emptied_from n (without n h) ≡ emptied_from n h
emptied_gone zero [] c e z = refl
emptied_gone (suc n) [] c e z = refl
emptied_gone zero (d ∷ ds) c e z =
    ap (λ t. if t then without_empty ds else d ∷ without_empty ds) (sym z ∙ ap (λ (x : Chunk). same x.amount zero_amount) (sym (some_is e)))
  where
    some_is : Some d ≡ Some c → d ≡ c
    some_is e = cc
emptied_gone (suc n) (d ∷ ds) c e z = ap (λ l. d ∷ l) (emptied_gone n ds c e z)

pub emptied_past : (n : ℕ) (h : Heap) (c : Chunk) → slice_get h n ≡ Some c → same c.amount zero_amount ≡ false → emptied_from (suc n) h ≡ emptied_from n h
emptied_past zero [] c e z = refl
emptied_past (suc n) [] c e z = refl
emptied_past zero (d ∷ ds) c e z =
    ap (λ t. if t then without_empty ds else d ∷ without_empty ds) (sym z ∙ ap (λ (x : Chunk). same x.amount zero_amount) (sym (some_is e)))
  where
    some_is : Some d ≡ Some c → d ≡ c
    some_is e = cc
emptied_past (suc n) (d ∷ ds) c e z = ap (λ l. d ∷ l) (emptied_past n ds c e z)

-- three candidates or more
pub three_at_least : {A : Type 0} (f : A → Candidate) (r : Term) (xs : List A) → 3 ≤ length xs → at_most_three r (map f xs) ≡ less_equal (sum_at r (map f xs)) whole_amount ∷ []
three_at_least f r [] le = absurd (omega arith)
three_at_least f r (x ∷ []) le = absurd (omega arith)
three_at_least f r (x ∷ y ∷ []) le = absurd (omega arith)
three_at_least f r (x ∷ y ∷ z ∷ xs) le = refl

kept : {A : Type 0} (f : A → Candidate) (b : Bool) (x : A) (xs : List A) (ys : List Candidate) → map f xs ≡ ys → map f (if b then x ∷ xs else xs) ≡ (if b then f x ∷ ys else ys)
kept f true x xs ys e = ap (λ l. f x ∷ l) e
kept f false x xs ys e = e

-- the inner ones of candidates by a test of what they are made from
pub inner_by : {A : Type 0} (f : A → Candidate) (test : A → Bool) → ((x : A) → (f x).chunk.inner ≡ test x) → (xs : List A) → map f (filter test xs) ≡ only_inner (map f xs)
inner_by f test e [] = refl
inner_by f test e (x ∷ xs) =
    kept f (test x) x (filter test xs) (only_inner (map f xs)) (inner_by f test e xs)
    ∙ ap (λ b. if b then f x ∷ only_inner (map f xs) else only_inner (map f xs)) (sym (e x))
