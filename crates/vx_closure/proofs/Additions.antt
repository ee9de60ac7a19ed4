-- Rows of members that mention others, one mention more.
use Rattle.std.proofs.Common.{◌≡◌, ◌≢◌, ◌∙◌, refl, sym, ap, subst, ℕ, zero, suc, ◌<◌, ◌⊎◌, inl, inr, Bool, true, false, ◌||◌, ◌&&◌, nat_eq, List, [], ◌∷◌, length, get_or, set, Some, None, Vec, arith}
use Rattle.std.specs.Prelude.{slice_get}
use Rattle.std.proofs.lemmas.Bool.Decides.{eqb_tells}
use Rattle.std.specs.declared.alloc.Global.{Global}
use Rattle.vx_ast.specs.declared.MemberId.{MemberId}
use Rattle.vx_ast.specs.Syntax.{Name, Program}
use Rattle.vx_graph.specs.Listed.{is_in}
use Rattle.vx_graph.specs.Reach.{Rows, leads}
use Rattle.vx_resolved.specs.Numbers.{number_named}
use Rattle.vx_closure.specs.Known.{known}
use Rattle.vx_closure.specs.Mentioners.{is_number, are_of}

or_false : (b : Bool) → b ≡ (b || false)
or_false true = refl
or_false false = refl

or_true : (b : Bool) → (b || true) ≡ true
or_true true = refl
or_true false = refl

-- a member that is there already
pub again : (ms : List MemberId) (m : MemberId) → is_in ms m.0 ≡ true → (c : ℕ) → is_in ms c ≡ (is_in ms c || nat_eq m.0 c)
again ms m there c = go (eqb_tells m.0 c)
  where
    go : ((nat_eq m.0 c ≡ true) × (m.0 ≡ c)) ⊎ ((nat_eq m.0 c ≡ false) × (m.0 ≢ c)) → is_in ms c ≡ (is_in ms c || nat_eq m.0 c)
    go (inl (e, same)) = let here = subst (λ n. is_in ms n ≡ true) same there in here ∙ ap (λ b. b || nat_eq m.0 c) (sym here)
    go (inr (e, other)) = or_false (is_in ms c) ∙ ap (λ b. is_in ms c || b) (sym e)

same_some : (a b : MemberId) → Some a ≡ Some b → a ≡ b
same_some a b e = cc

-- a member that is found at a place
pub at_its_place : (ms : List MemberId) (k : ℕ) (m : MemberId) → Some m ≡ slice_get ms k → (n : ℕ) → nat_eq m.0 n ≡ true → is_in ms n ≡ true
at_its_place [] k m e n is = cc
at_its_place (x ∷ ms) zero m e n is = ap (λ (y : MemberId). nat_eq y.0 n || is_in ms n) (sym (same_some m x e)) ∙ ap (λ b. b || is_in ms n) is
at_its_place (x ∷ ms) (suc k) m e n is = ap (λ b. nat_eq x.0 n || b) (at_its_place ms k m e n is) ∙ or_true (nat_eq x.0 n)

-- a row that has one member more
changed : (rows : Rows) (at : ℕ) (old row : Vec MemberId Global) (a : ℕ) → at < length rows → old ≡ get_or rows at old →
    ((c : ℕ) → is_in row.items c ≡ (is_in old.items c || nat_eq a c)) → (c : ℕ) → leads (set rows at row) at c ≡ (leads rows at c || nat_eq a c)
changed [] at old row a within is more c = absurd (omega arith)
changed (r ∷ rows) zero old row a within is more c = more c ∙ ap (λ (v : Vec MemberId Global). is_in v.items c || nat_eq a c) is
changed (r ∷ rows) (suc at) old row a within is more c = changed rows at old row a (omega arith) is more c

kept : (rows : Rows) (at b : ℕ) (row : Vec MemberId Global) → at ≢ b → (c : ℕ) → leads (set rows at row) b c ≡ leads rows b c
kept [] at b row other c = refl
kept (r ∷ rows) zero zero row other c = absurd (other refl)
kept (r ∷ rows) zero (suc b) row other c = refl
kept (r ∷ rows) (suc at) zero row other c = refl
kept (r ∷ rows) (suc at) (suc b) row other c = kept rows at b row (λ e. other (ap suc e)) c

one_more : (rows : Rows) (at : ℕ) (old row : Vec MemberId Global) (a : ℕ) → at < length rows → old ≡ get_or rows at old →
    ((c : ℕ) → is_in row.items c ≡ (is_in old.items c || nat_eq a c)) → (b c : ℕ) → leads (set rows at row) b c ≡ (leads rows b c || (nat_eq at b && nat_eq a c))
one_more rows at old row a within is more b c = go (eqb_tells at b)
  where
    go : ((nat_eq at b ≡ true) × (at ≡ b)) ⊎ ((nat_eq at b ≡ false) × (at ≢ b)) → leads (set rows at row) b c ≡ (leads rows b c || (nat_eq at b && nat_eq a c))
    go (inl (e, same)) =
        subst (λ k. leads (set rows at row) k c ≡ (leads rows k c || nat_eq a c)) same (changed rows at old row a within is more c)
        ∙ ap (λ d. leads rows b c || (d && nat_eq a c)) (sym e)
    go (inr (e, other)) = kept rows at b row other c ∙ or_false (leads rows b c) ∙ ap (λ d. leads rows b c || (d && nat_eq a c)) (sym e)

regroup : (l n a r : Bool) → ((l || (n && a)) || (a && r)) ≡ (l || (a && (n || r)))
regroup true n a r = refl
regroup false true true r = refl
regroup false true false r = refl
regroup false false a r = refl

-- a name of no member
pub known_without : (p : Program) (rows : Rows) (a : ℕ) (x : Name) → number_named 0 p x ≡ None → (rest : List Name) → known p rows a rest ≡ known p rows a (x ∷ rest)
unfolding known
known_without p rows a x none rest = λ i b c. leads rows b c || (nat_eq a c && (is_number (sym none i) b || are_of p b rest))

-- a name of member n
pub known_with : (p : Program) (rows : Rows) (n : ℕ) (old row : Vec MemberId Global) (a : ℕ) (x : Name) → n < length rows → old ≡ get_or rows n old →
    ((c : ℕ) → is_in row.items c ≡ (is_in old.items c || nat_eq a c)) → number_named 0 p x ≡ Some n →
    (rest : List Name) → known p (set rows n row) a rest ≡ known p rows a (x ∷ rest)
unfolding known
known_with p rows n old row a x within is more named rest = λ i b c. each b c i
  where
    each : (b c : ℕ) → (leads (set rows n row) b c || (nat_eq a c && are_of p b rest)) ≡ (leads rows b c || (nat_eq a c && (is_number (number_named 0 p x) b || are_of p b rest)))
    each b c =
        ap (λ l. l || (nat_eq a c && are_of p b rest)) (one_more rows n old row a within is more b c)
        ∙ regroup (leads rows b c) (nat_eq n b) (nat_eq a c) (are_of p b rest)
        ∙ ap (λ o. leads rows b c || (nat_eq a c && (is_number o b || are_of p b rest))) (sym named)
