-- Lists of members, and of marks.
use Rattle.std.proofs.Common.{◌≡◌, ◌≢◌, ℕ, zero, suc, ◌+◌, ◌<◌, ◌≤◌, ◌⊎◌, Bool, true, false, ◌||◌, nat_eq, List, [], ◌∷◌, ◌++◌, length, get_or, refl, ap, arith, if◌then◌else◌, ◌∙◌, sym, set, inl, inr, subst, eq-eqb}
use Rattle.std.proofs.lemmas.Bool.Decides.{eqb_tells}
use Rattle.std.specs.Prelude.{replicate}
use Rattle.std.proofs.lemmas.List.{get_or-set_same, get_or-set_other}
use Rattle.vx_ast.specs.declared.MemberId.{MemberId}
use Rattle.vx_graph.specs.Listed.{is_in, set_in}

or_assoc : (a b c : Bool) → (a || (b || c)) ≡ ((a || b) || c)
or_assoc true b c = refl
or_assoc false b c = refl

or_false : (a : Bool) → a ≡ (a || false)
or_false true = refl
or_false false = refl

pub push_is_in : (ms : List MemberId) (m : MemberId) (n : ℕ) → is_in (ms ++ m ∷ []) n ≡ (is_in ms n || nat_eq m.0 n)
push_is_in [] m n = sym (or_false (nat_eq m.0 n))
push_is_in (k ∷ ms) m n = ap (λ b. nat_eq k.0 n || b) (push_is_in ms m n) ∙ or_assoc (nat_eq k.0 n) (is_in ms n) (nat_eq m.0 n)

pub one_more : (marks : List Bool) (i : ℕ) → i < length marks → get_or marks i false ≡ false → set_in (set marks i true) ≡ set_in marks + 1
one_more [] i within unmarked = absurd (omega arith)
one_more (b ∷ bs) zero within unmarked = ap (λ c. 1 + set_in bs) unmarked ∙ here (set_in bs) ∙ ap (λ c. (if c then 1 else 0) + set_in bs + 1) (sym unmarked)
  where
    here : (n : ℕ) → 1 + n ≡ 0 + n + 1
    here n = omega arith
one_more (b ∷ bs) (suc i) within unmarked = further (if b then 1 else 0) (set_in (set bs i true)) (set_in bs) (one_more bs i (omega arith) unmarked)
  where
    further : (a n m : ℕ) → n ≡ m + 1 → a + n ≡ a + m + 1
    further a n m e = omega arith

pub at_most_all : (marks : List Bool) → set_in marks ≤ length marks
at_most_all [] = omega arith
at_most_all (true ∷ bs) = let more = at_most_all bs in omega arith
at_most_all (false ∷ bs) = let more = at_most_all bs in omega arith

pub none_set : (n : ℕ) → 0 ≡ set_in (replicate n false)
none_set zero = refl
none_set (suc n) = none_set n ∙ zero_more (set_in (replicate n false))
  where
    zero_more : (k : ℕ) → k ≡ 0 + k
    zero_more k = omega arith

pub none_marked : (n i : ℕ) → i < length (replicate n false) → get_or (replicate n false) i false ≡ false
none_marked zero i within = refl
none_marked (suc n) zero within = refl
none_marked (suc n) (suc i) within = none_marked n i (omega arith)

same : (n : ℕ) → nat_eq n n ≡ true
same n = eq-eqb n n refl

pub pushed : (ms : List MemberId) (m : MemberId) → is_in (ms ++ m ∷ []) m.0 ≡ true
pushed [] m = ap (λ b. b || false) (same m.0)
pushed (k ∷ ms) m = ap (λ b. nat_eq k.0 m.0 || b) (pushed ms m) ∙ or_true (nat_eq k.0 m.0)
  where
    or_true : (b : Bool) → (b || true) ≡ true
    or_true true = refl
    or_true false = refl

-- the marks after one more member
pub marks_more : (marks : List Bool) (ms : List MemberId) (m : MemberId) → ((n : ℕ) → n < length marks → get_or marks n false ≡ is_in ms n) →
    (n : ℕ) → n < length marks → get_or (set marks m.0 true) n false ≡ is_in (ms ++ m ∷ []) n
marks_more marks ms m are n within = go (eqb_tells m.0 n)
  where
    go : ((nat_eq m.0 n ≡ true) × (m.0 ≡ n)) ⊎ ((nat_eq m.0 n ≡ false) × (m.0 ≢ n)) → get_or (set marks m.0 true) n false ≡ is_in (ms ++ m ∷ []) n
    go (inl (e, same)) = subst (λ k. get_or (set marks m.0 true) k false ≡ is_in (ms ++ m ∷ []) k) same (get_or-set_same marks m.0 true false (subst (λ k. k < length marks) (sym same) within) ∙ sym (pushed ms m))
    go (inr (e, other)) = get_or-set_other marks m.0 n true false (λ q. other (sym q)) ∙ are n within ∙ or_false (is_in ms n) ∙ ap (λ b. is_in ms n || b) (sym e) ∙ sym (push_is_in ms m n)
