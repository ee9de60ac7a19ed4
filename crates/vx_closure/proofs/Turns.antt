-- The rows of who mentions each member, one mentioning member after another.
use Rattle.std.proofs.Common.{◌≡◌, ◌≢◌, ◌∙◌, refl, sym, ap, subst, ℕ, suc, ◌+◌, ◌<◌, ◌≤◌, ◌⊎◌, inl, inr, Bool, true, false, ◌||◌, ◌&&◌, nat_eq, List, [], ◌∷◌, ◌++◌, length, Option, Some, None, Vec, All, get_or, arith, append-nil, eq-eqb}
use Rattle.std.specs.Prelude.{slice_get}
use Rattle.std.proofs.lemmas.Bool.{false≢true}
use Rattle.std.proofs.lemmas.Bool.Decides.{eqb_tells}
use Rattle.std.proofs.lemmas.List.Elements.{All-cons}
use Rattle.std.proofs.lemmas.Option.{slice_get_cases, slice_get_within}
use Rattle.std.specs.declared.alloc.Global.{Global}
use Rattle.vx_ast.specs.declared.MemberId.{MemberId}
use Rattle.vx_ast.specs.Syntax.{Name, Program, Member}
use Rattle.vx_graph.specs.Listed.{is_in}
use Rattle.vx_graph.specs.Reach.{Rows, InRange, leads}
use Rattle.vx_types.specs.Closure.{mentioned_by_kind}
use Rattle.vx_closure.specs.Known.{known}
use Rattle.vx_closure.specs.Mentioners.{are_of, names_by_member, mentions, AreMentioners}

-- the rows tell what the first n members mention
pub record Tells (p : Program) (n : ℕ) (rows : Rows) : Type 0 where
  pub members : length rows ≡ length p
  pub before : (b c : ℕ) → c < n → leads rows b c ≡ mentions p c b
  pub behind : (b c : ℕ) → n ≤ c → leads rows b c ≡ false

or_false : (b : Bool) → (b || false) ≡ b
or_false true = refl
or_false false = refl

and_false : (b : Bool) → (b && false) ≡ false
and_false true = refl
and_false false = refl

-- what is known when all names of member n are there
pub added : (p : Program) (old new : Rows) (n : ℕ) (names : List Name) → known p new n [] ≡ known p old n (names ++ []) →
    (b c : ℕ) → leads new b c ≡ (leads old b c || (nat_eq n c && are_of p b names))
unfolding known
added p old new n names e b c =
    sym (ap (λ x. leads new b c || x) (and_false (nat_eq n c)) ∙ or_false (leads new b c))
    ∙ ap (λ (f : ℕ → ℕ → Bool). f b c) e
    ∙ ap (λ xs. leads old b c || (nat_eq n c && are_of p b xs)) (append-nil names)

-- one more member
pub one_more : (p : Program) (old new : Rows) (n : ℕ) (m : Member) → slice_get p n ≡ Some m → length new ≡ length old →
    known p new n [] ≡ known p old n (mentioned_by_kind p (Some m.kind) ++ []) → Tells p n old → Tells p (n + 1) new
one_more p old new n m is count e t = record {
  members = count ∙ t.members;
  before = λ b c l. first b c l (eqb_tells n c);
  behind = λ b c l. added p old new n names e b c ∙ ap (λ x. x || (nat_eq n c && are_of p b names)) (t.behind b c (omega arith)) ∙ no_more b c l (eqb_tells n c);
}
  where
    names : List Name
    names = mentioned_by_kind p (Some m.kind)

    own : (b : ℕ) → are_of p b names ≡ mentions p n b
    own b = ap (λ o. are_of p b (names_by_member p o)) (sym is)

    first : (b c : ℕ) → c < n + 1 → ((nat_eq n c ≡ true) × (n ≡ c)) ⊎ ((nat_eq n c ≡ false) × (n ≢ c)) → leads new b c ≡ mentions p c b
    first b c l (inl (s, same)) =
        added p old new n names e b c ∙ ap (λ x. x || (nat_eq n c && are_of p b names)) (t.behind b c (omega arith))
        ∙ ap (λ x. x && are_of p b names) s ∙ own b ∙ ap (λ k. mentions p k b) same
    first b c l (inr (s, other)) =
        added p old new n names e b c ∙ ap (λ x. leads old b c || (x && are_of p b names)) s ∙ or_false (leads old b c) ∙ t.before b c (omega arith)

    no_more : (b c : ℕ) → n + 1 ≤ c → ((nat_eq n c ≡ true) × (n ≡ c)) ⊎ ((nat_eq n c ≡ false) × (n ≢ c)) → (nat_eq n c && are_of p b names) ≡ false
    no_more b c l (inl (s, same)) = absurd (omega arith)
    no_more b c l (inr (s, other)) = ap (λ x. x && are_of p b names) s

pub none_so_far : (p : Program) (rows : Rows) → length rows ≡ length p → ((b c : ℕ) → leads rows b c ≡ false) → Tells p 0 rows
none_so_far p rows count none = record { members = count; before = λ b c l. absurd (omega arith); behind = λ b c l. none b c }

-- all members
pub all_told : (p : Program) (n : ℕ) (rows : Rows) → n ≡ length p → Tells p n rows → AreMentioners p rows
all_told p n rows all t = record { members = t.members; edges = λ a b. each a b (slice_get_cases p a).1 }
  where
    each : (a b : ℕ) → ((m : Member) × (a < length p) × (slice_get p a ≡ Some m) × (get_or p a m ≡ m)) ⊎ ((length p ≤ a) × (slice_get p a ≡ None)) → leads rows b a ≡ mentions p a b
    each a b (inl here) = t.before b a (let l = here.1 in omega arith)
    each a b (inr (past, none)) = t.behind b a (omega arith) ∙ ap (λ o. are_of p b (names_by_member p o)) (sym none)

-- only members mention
pub mentions_within : (p : Program) (a b : ℕ) → mentions p a b ≡ true → a < length p
mentions_within p a b e = go (slice_get p a) refl
  where
    go : (o : Option Member) → slice_get p a ≡ o → a < length p
    go None is = absurd (false≢true (ap (λ o. are_of p b (names_by_member p o)) (sym is) ∙ e))
    go (Some m) is = slice_get_within p a m is

no_elements : {X : Type 0} (P : X → Type 0) → All P []
no_elements P = λ k d l. absurd (omega (arith, l))

pub numbers_below : (n : ℕ) (ms : List MemberId) → ((c : ℕ) → is_in ms c ≡ true → c < n) → All (λ m. m.0 < n) ms
numbers_below n [] h = no_elements _
numbers_below n (m ∷ ms) h =
    All-cons (λ (m : MemberId). m.0 < n) m ms (h m.0 (ap (λ b. b || is_in ms m.0) (eq-eqb m.0 m.0 refl))) (numbers_below n ms (λ c e. h c (ap (λ b. nat_eq m.0 c || b) e ∙ or_true (nat_eq m.0 c))))
  where
    or_true : (b : Bool) → (b || true) ≡ true
    or_true true = refl
    or_true false = refl

pub rows_below : (n : ℕ) (rows : Rows) → ((b c : ℕ) → leads rows b c ≡ true → c < n) → InRange n rows
rows_below n [] h = no_elements _
rows_below n (row ∷ rows) h =
    All-cons (λ (row : Vec MemberId Global). All (λ (m : MemberId). m.0 < n) row.items) row rows (numbers_below n row.items (h 0)) (rows_below n rows (λ b. h (suc b)))

pub in_range : (p : Program) (rows : Rows) → AreMentioners p rows → InRange (length rows) rows
in_range p rows are = rows_below (length rows) rows (λ b c e. subst (λ n. c < n) (sym are.members) (mentions_within p c b (sym (are.edges c b) ∙ e)))
