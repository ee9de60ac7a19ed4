-- The rows of members, and what they tell.
use Rattle.std.proofs.Common.{◌≡◌, ◌∙◌, refl, sym, ap, subst, ℕ, zero, suc, ◌<◌, ◌≤◌, Bool, true, false, ◌||◌, nat_eq, List, [], ◌∷◌, length, drop, Option, Some, None, Vec, All, arith, eq-eqb, eqb-true}
use Rattle.std.specs.Prelude.{slice_get}
use Rattle.std.proofs.lemmas.Bool.{false≢true}
use Rattle.std.proofs.lemmas.List.Elements.{All-cons}
use Rattle.std.specs.declared.alloc.Global.{Global}
use Rattle.vx_ast.specs.declared.MemberId.{MemberId}
use Rattle.vx_ast.specs.Syntax.{Name, Program, Member}
use Rattle.vx_graph.specs.Listed.{is_in}
use Rattle.vx_graph.specs.Reach.{Rows, InRange, leads}
use Rattle.vx_resolved.specs.Numbers.{number_named}
use Rattle.vx_settling.specs.Mentioned.{is_number, are_of, names_by_member, Tells, AreMentions}
use Rattle.vx_settling.proofs.Numbers.{number_below}

pub past_all : {X : Type 0} (xs : List X) (i : ℕ) → length xs ≤ i → drop i xs ≡ []
past_all [] zero l = refl
past_all [] (suc i) l = refl
past_all (x ∷ xs) zero l = absurd (omega (arith, l))
past_all (x ∷ xs) (suc i) l = past_all xs i (omega (arith, l))

as_many_rows : (p : Program) (rows : Rows) (ms : List Member) → Tells p rows ms → length rows ≡ length ms
as_many_rows p [] [] h = refl
as_many_rows p [] (m ∷ ms) h = absurd h
as_many_rows p (row ∷ rows) [] h = absurd h
as_many_rows p (row ∷ rows) (m ∷ ms) h = ap suc (as_many_rows p rows ms h.1)

as_mentioned : (p : Program) (rows : Rows) (ms : List Member) → Tells p rows ms → (a b : ℕ) → leads rows a b ≡ are_of p b (names_by_member (slice_get ms a))
as_mentioned p [] [] h a b = refl
as_mentioned p [] (m ∷ ms) h a b = absurd h
as_mentioned p (row ∷ rows) [] h a b = absurd h
as_mentioned p (row ∷ rows) (m ∷ ms) h zero b = h.0 b
as_mentioned p (row ∷ rows) (m ∷ ms) h (suc a) b = as_mentioned p rows ms h.1 a b

-- all rows
pub all_told : (p : Program) (rows : Rows) → Tells p rows p → AreMentions p rows
all_told p rows h = record { members = as_many_rows p rows p h; edges = as_mentioned p rows p h }

-- ---- who is mentioned is a member
pub is_that : (o : Option ℕ) (b : ℕ) → is_number o b ≡ true → o ≡ Some b
is_that None b h = absurd (false≢true h)
is_that (Some n) b h = ap Some (eqb-true n b h)

pub one_of : {P : Type 0} (a b : Bool) → (a ≡ true → P) → (b ≡ true → P) → (a || b) ≡ true → P
one_of true b f g h = f refl
one_of false b f g h = g h

pub or_true : (b : Bool) → (b || true) ≡ true
or_true true = refl
or_true false = refl

are_below : (p : Program) (b : ℕ) (xs : List Name) → are_of p b xs ≡ true → b < length p
are_below p b [] h = absurd (false≢true h)
are_below p b (x ∷ xs) h =
    one_of (is_number (number_named 0 p x) b) (are_of p b xs) (λ k. number_below p x b (is_that (number_named 0 p x) b k)) (λ k. are_below p b xs k) h

no_elements : {X : Type 0} (P : X → Type 0) → All P []
no_elements P = λ k d l. absurd (omega (arith, l))

numbers_below : (n : ℕ) (ms : List MemberId) → ((b : ℕ) → is_in ms b ≡ true → b < n) → All (λ m. m.0 < n) ms
numbers_below n [] h = no_elements _
numbers_below n (m ∷ ms) h =
    All-cons (λ (m : MemberId). m.0 < n) m ms (h m.0 (ap (λ b. b || is_in ms m.0) (eq-eqb m.0 m.0 refl))) (numbers_below n ms (λ b e. h b (ap (λ t. nat_eq m.0 b || t) e ∙ or_true (nat_eq m.0 b))))

rows_below : (n : ℕ) (rows : Rows) → ((a b : ℕ) → leads rows a b ≡ true → b < n) → InRange n rows
rows_below n [] h = no_elements _
rows_below n (row ∷ rows) h =
    All-cons (λ (row : Vec MemberId Global). All (λ (m : MemberId). m.0 < n) row.items) row rows (numbers_below n row.items (h 0)) (rows_below n rows (λ a. h (suc a)))

pub in_range : (p : Program) (rows : Rows) → AreMentions p rows → InRange (length rows) rows
in_range p rows are = rows_below (length rows) rows (λ a b e. subst (λ n. b < n) (sym are.members) (are_below p b (names_by_member (slice_get p a)) (sym (are.edges a b) ∙ e)))
