-- Heaps by the numbers of their chunks.
use Rattle.std.specs.Prelude.{◌≡◌, ℕ, Bool, true, false, List, [], ◌∷◌, ◌++◌, ◌&&◌, Option, Some, None, if◌then◌else◌, length, take, drop, slice_get, IfSome}
use Rattle.vx_terms.specs.Terms.{Term}
use Rattle.vx_rules.specs.States.{Chunk, Heap, State}
use Rattle.vx_rules.specs.Chunks.{Candidate, at_most_three, at_most_whole, bounding, chosen, field_facts, first_argument, instance_facts, merged, one_value, put_over, without_empty}

-- the first of these candidates, if there is one, has this number in the heap
abbrev pub IsFirst : Option ℕ → Heap → List Candidate → Type 0
IsFirst None h cs = cs ≡ []
IsFirst (Some n) h [] = ⊥
IsFirst (Some n) h (c ∷ cs) = (c.number ≡ n) × (slice_get h n ≡ Some c.chunk)

-- a chunk of a number as the one candidate
abbrev pub standing : ℕ → Chunk → List Candidate
standing n c = record { number = n; chunk = c } ∷ []

-- candidates behind the first
abbrev pub rest_of : List Candidate → List Candidate
rest_of [] = []
rest_of (c ∷ cs) = cs

-- the candidates of a chunk that was put, once it stands at a place
abbrev pub behind : ℕ → Chunk → Heap → List Candidate
behind n whole h = record { number = n; chunk = whole } ∷ (rest_of (chosen true whole 0 h) ++ chosen false whole 0 h)

-- what is said of their sum, where anything is
abbrev pub sum_fact : Bool → ℕ → Chunk → Heap → List Term
sum_fact given n whole h = bounding given (at_most_three (first_argument whole.arguments) (behind n whole h))

abbrev pub sum_behind : Bool → List Candidate → Chunk → Heap → List Term
sum_behind given [] new h = sum_fact given (length h) new h
sum_behind given (c ∷ cs) new h = sum_fact given c.number (merged new c.chunk) h

-- the facts on these other chunks, before some more
abbrev pub apart_onto : Bool → Bool → Chunk → List Candidate → List Term → List Term
apart_onto summed bounded whole [] rest = rest
apart_onto summed bounded whole (c ∷ cs) rest = bounding bounded (at_most_whole whole c.chunk ∷ []) ++ (bounding summed (one_value whole c.chunk ∷ []) ++ apart_onto summed bounded whole cs rest)

-- the facts of a put, these candidates having identical arguments
abbrev pub facts_of : Bool → Bool → List Candidate → Chunk → Heap → List Term
facts_of summed bounded cs new h = if new.is_field then field_facts summed bounded cs new h ++ sum_behind (summed && bounded) cs new h else instance_facts cs new

-- a state with this heap, in which amounts are bounded or not
abbrev pub over : Bool → Heap → State → State
over bounded h s = record s { bounded = bounded; heap = h }

-- what a put makes of a heap, and its facts, the first chunk of identical arguments having this number
abbrev pub Puts : Option ℕ → (summed bounded : Bool) → Chunk → Heap → Heap → List Term → Type 0
Puts None summed bounded new old after facts = (facts ≡ facts_of summed bounded [] new old) × (after ≡ put_over [] new old)
Puts (Some n) summed bounded new old after facts =
    IfSome (slice_get old n) (λ c. (facts ≡ facts_of summed bounded (standing n c) new old) × (after ≡ put_over (standing n c) new old))

-- the chunks from a place on without those of no amount
abbrev pub emptied_from : ℕ → Heap → Heap
emptied_from n h = take n h ++ without_empty (drop n h)
