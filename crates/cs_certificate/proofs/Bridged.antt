-- What the hints refute by number they refute by term.
use Rattle.std.proofs.Common.{◌≡◌, ℕ, zero, suc, Bool, true, false, not, cond, ◌&&◌, ◌||◌, List, [], ◌∷◌, ◌++◌, map, Option, Some, None, slice_get, refl, sym, ◌∙◌, ap, ap₂, subst, ◌⊎◌, inl, inr}
use Rattle.std.specs.Prelude.{nat_eq}
use Rattle.std.proofs.lemmas.Bool.Decides.{Decides-eqb}
use Rattle.std.proofs.lemmas.Option.{same_Some}
use Rattle.std.proofs.lemmas.Bool.{cases_Bool}
use Rattle.vx_terms.specs.Terms.{Term}
use Rattle.vx_terms.specs.Interpretations.{Each}
use Rattle.cs_certificate.specs.Certificate.{Yes, No, negated, At, Contains, LeavesOnly, LeavesNone, Refutes, ends, forces}
use Rattle.cs_certificate.specs.Certificate as certificate
use Rattle.cs_certificate.specs.declared.literal.Literal.{Literal}
use Rattle.cs_certificate.specs.declared.literal.Left.{Left}
use Rattle.cs_certificate.specs.declared.literal.Left.TheVariants.{Nothing, One, Many}
use Rattle.cs_certificate.specs.declared.literal.Clause.{Clause}
use Rattle.vx_terms.specs.Terms.{same_bool}
use Rattle.cs_certificate.specs.Hints.{same_literal, opposite, denied, with, left, after, at_hint, refutes}
use Rattle.cs_certificate.specs.Bridge.{term_at, signed, view, views, state, IsNumbered, AreDistinct, Law, Converse}

and_true : (a b : Bool) → a && b ≡ true → (a ≡ true) × (b ≡ true)
and_true true b e = (refl, e)
and_true false b e = cc

or_either : (a b : Bool) → a || b ≡ true → (a ≡ true) ⊎ (b ≡ true)
or_either true b e = inl refl
or_either false b e = inr e

same_bool-eq : (a b : Bool) → same_bool a b ≡ true → a ≡ b
same_bool-eq true true e = refl
same_bool-eq true false e = cc
same_bool-eq false true e = cc
same_bool-eq false false e = refl

literal_eq : (a b : Literal) → a.positive ≡ b.positive → a.number ≡ b.number → a ≡ b
literal_eq a b e f = ap₂ (λ p n. record { positive = p; number = n }) e f

same_literal-eq : (a b : Literal) → same_literal a b ≡ true → a ≡ b
same_literal-eq a b e =
    let p = and_true (nat_eq a.number b.number) _ e in
    literal_eq a b (same_bool-eq a.positive b.positive p.1) ((Decides-eqb a.number b.number).0 p.0)

-- ---- what is left

never_nothing : (f : Left) (l : Literal) → with f l ≡ Nothing → ⊥
never_nothing Nothing l e = cc
never_nothing (One m) l e = by (same_literal m l) e
  where
    by : (b : Bool) → cond b (One m) Many ≡ Nothing → ⊥
    by true e = cc
    by false e = cc
never_nothing Many l e = cc

nothing_left : (found : Left) (assumed ls : List Literal) → left found assumed ls ≡ Nothing → (found ≡ Nothing) × Each (λ m. denied assumed m ≡ true) ls
nothing_left found assumed [] e = (e, tt)
nothing_left found assumed (l ∷ ls) e = by (denied assumed l) refl (nothing_left (cond (denied assumed l) found (with found l)) assumed ls e)
  where
    by : (b : Bool) → denied assumed l ≡ b → (cond b found (with found l) ≡ Nothing) × Each (λ m. denied assumed m ≡ true) ls → (found ≡ Nothing) × Each (λ m. denied assumed m ≡ true) (l ∷ ls)
    by true d h = (h.0, (d, h.1))
    by false d h = absurd (never_nothing found l h.0)

with_one : (found : Left) (l k : Literal) → with found l ≡ One k → ((found ≡ Nothing) × (l ≡ k)) ⊎ ((found ≡ One k) × (l ≡ k))
with_one Nothing l k e = inl (refl, one_eq e)
  where
    one_eq : {x y : Literal} → One x ≡ One y → x ≡ y
    one_eq e = cc
with_one (One m) l k e = by (same_literal m l) refl e
  where
    by : (b : Bool) → same_literal m l ≡ b → cond b (One m) Many ≡ One k → ((One m ≡ Nothing) × (l ≡ k)) ⊎ ((One m ≡ One k) × (l ≡ k))
    by true s e = inr (e, sym (same_literal-eq m l s) ∙ (let f : m ≡ k = cc in f))
    by false s e = cc
with_one Many l k e = cc

pub one_left : (found : Left) (assumed ls : List Literal) (k : Literal) → left found assumed ls ≡ One k →
    Each (λ m. (denied assumed m ≡ true) ⊎ (m ≡ k)) ls × (((found ≡ Nothing) × Contains ls k × (denied assumed k ≡ false)) ⊎ (found ≡ One k))
one_left found assumed [] k e = (tt, inr e)
one_left found assumed (l ∷ ls) k e = by (denied assumed l) refl (one_left (cond (denied assumed l) found (with found l)) assumed ls k e)
  where
    by : (b : Bool) → denied assumed l ≡ b →
        Each (λ m. (denied assumed m ≡ true) ⊎ (m ≡ k)) ls × (((cond b found (with found l) ≡ Nothing) × Contains ls k × (denied assumed k ≡ false)) ⊎ (cond b found (with found l) ≡ One k)) →
        Each (λ m. (denied assumed m ≡ true) ⊎ (m ≡ k)) (l ∷ ls) × (((found ≡ Nothing) × Contains (l ∷ ls) k × (denied assumed k ≡ false)) ⊎ (found ≡ One k))
    by true d h = ((inl d, h.0), elim h.1 [ inl q ↦ inl (q.0, (suc (q.1).0, (q.1).1), q.2) | inr q ↦ inr q ])
    by false d h = elim h.1 [
      | inl q ↦ absurd (never_nothing found l q.0)
      | inr q ↦ elim (with_one found l k q) [
        | inl w ↦ ((inr w.1, h.0), inl (w.0, (zero, ap Some w.1), ap (denied assumed) (sym w.1) ∙ d))
        | inr w ↦ ((inr w.1, h.0), inr w.0)
      ]
    ]

-- ---- by terms
opposite_view : (terms : List Term) (m l : Literal) → opposite m l ≡ true → view terms m ≡ negated (view terms l)
opposite_view terms m l e =
    let p = and_true (nat_eq m.number l.number) _ e in
    signs m.positive l.positive p.1 (ap (term_at terms) ((Decides-eqb m.number l.number).0 p.0))
  where
    signs : (a b : Bool) {t u : Term} → not (same_bool a b) ≡ true → t ≡ u → signed a t ≡ negated (signed b u)
    signs true true e f = cc
    signs true false e f = ap Yes f
    signs false true e f = ap No f
    signs false false e f = cc

denied_contains : (terms : List Term) (assumed : List Literal) (l : Literal) → denied assumed l ≡ true → Contains (views terms assumed) (negated (view terms l))
denied_contains terms [] l e = cc
denied_contains terms (m ∷ ms) l e = elim (or_either (opposite m l) (denied ms l) e) [
  | inl h ↦ (zero, ap Some (opposite_view terms m l h))
  | inr h ↦ (let r = denied_contains terms ms l h in (suc r.0, r.1))
]

view_opposite : (terms : List Term) (m l : Literal) → AreDistinct terms → IsNumbered terms m → IsNumbered terms l → view terms m ≡ negated (view terms l) → opposite m l ≡ true
view_opposite terms m l d p q e = both (nat_eq m.number l.number) _ ((Decides-eqb m.number l.number).1 (d m.number l.number p q (same_term m.positive l.positive e))) (signs m.positive l.positive (term_at terms m.number) (term_at terms l.number) e)
  where
    both : (a b : Bool) → a ≡ true → b ≡ true → a && b ≡ true
    both true b e f = f
    both false b e f = cc

    same_term : (a b : Bool) {t u : Term} → signed a t ≡ negated (signed b u) → t ≡ u
    same_term true true e = cc
    same_term true false e = cc
    same_term false true e = cc
    same_term false false e = cc

    signs : (a b : Bool) (t u : Term) → signed a t ≡ negated (signed b u) → not (same_bool a b) ≡ true
    signs true true t u e = cc
    signs true false t u e = refl
    signs false true t u e = refl
    signs false false t u e = cc

contains_denied : (terms : List Term) (assumed : List Literal) (l : Literal) → AreDistinct terms → Each (IsNumbered terms) assumed → IsNumbered terms l → (n : ℕ) → At (views terms assumed) n (negated (view terms l)) → denied assumed l ≡ true
contains_denied terms [] l d h p n e = cc
contains_denied terms (m ∷ ms) l d h p zero e = left_true (opposite m l) _ (view_opposite terms m l d h.0 p (same_Some _ _ e))
  where
    left_true : (a b : Bool) → a ≡ true → a || b ≡ true
    left_true true b e = refl
    left_true false b e = cc
contains_denied terms (m ∷ ms) l d h p (suc n) e = right_true (opposite m l) _ (contains_denied terms ms l d h.1 p n e)
  where
    right_true : (a b : Bool) → b ≡ true → a || b ≡ true
    right_true true b e = refl
    right_true false b e = e

each_contains : {A : Type 0} (P : A → Type 0) (xs : List A) (n : ℕ) (x : A) → Each P xs → At xs n x → P x
each_contains P [] n x h e = cc
each_contains P (y ∷ ys) zero x h e = subst P (same_Some _ _ e) h.0
each_contains P (y ∷ ys) (suc n) x h e = each_contains P ys n x h.1 e

each_append : {A : Type 0} (P : A → Type 0) (xs : List A) (x : A) → Each P xs → P x → Each P (xs ++ x ∷ [])
each_append P [] x h p = (p, tt)
each_append P (y ∷ ys) x h p = (h.0, each_append P ys x h.1 p)

map_at : {A B : Type 0} (f : A → B) (xs : List A) (n : ℕ) (x : A) → slice_get xs n ≡ Some x → slice_get (map f xs) n ≡ Some (f x)
map_at f [] n x e = cc
map_at f (y ∷ ys) zero x e = ap (λ z. Some (f z)) (same_Some _ _ e)
map_at f (y ∷ ys) (suc n) x e = map_at f ys n x e

map_append : (terms : List Term) (xs : List Literal) (x : Literal) → views terms (xs ++ x ∷ []) ≡ views terms xs ++ view terms x ∷ []
map_append terms [] x = refl
map_append terms (y ∷ ys) x = ap (λ l. view terms y ∷ l) (map_append terms ys x)

all_none : (terms : List Term) (assumed ls : List Literal) → Each (λ m. denied assumed m ≡ true) ls → LeavesNone (views terms assumed) (views terms ls)
all_none terms assumed [] h = tt
all_none terms assumed (l ∷ ls) h = (denied_contains terms assumed l h.0, all_none terms assumed ls h.1)

all_only : (terms : List Term) (assumed ls : List Literal) (k : Literal) → Each (λ m. (denied assumed m ≡ true) ⊎ (m ≡ k)) ls →
    Each (λ m. (m ≡ view terms k) ⊎ Contains (views terms assumed) (negated m)) (views terms ls)
all_only terms assumed [] k h = tt
all_only terms assumed (l ∷ ls) k h = (elim h.0 [ inl d ↦ inr (denied_contains terms assumed l d) | inr e ↦ inl (ap (view terms) e) ], all_only terms assumed ls k h.1)

-- one hint, where the rest is known
one_hint : (terms : List Term) (clauses : List Clause) (assumed : List Literal) (h : ℕ) (hs : List ℕ) → AreDistinct terms →
    Each (IsNumbered terms) assumed → Each (λ c. Each (IsNumbered terms) c.literals.items) clauses →
    ((k : Literal) → IsNumbered terms k → refutes clauses (assumed ++ k ∷ []) hs ≡ true → Refutes (state terms clauses) (views terms (assumed ++ k ∷ [])) hs) →
    (o : Option Clause) → slice_get clauses h ≡ o → at_hint o assumed (λ l. refutes clauses (assumed ++ l ∷ []) hs) ≡ true → Refutes (state terms clauses) (views terms assumed) (h ∷ hs)
one_hint terms clauses assumed h hs d p q rest None is e = cc
one_hint terms clauses assumed h hs d p q rest (Some c) is e = from (left Nothing assumed c.literals.items) refl e
  where
    clash : (b : Bool) → b ≡ true → b ≡ false → ⊥
    clash true e f = cc
    clash false e f = cc

    one : (k : Literal) → Each (λ m. (denied assumed m ≡ true) ⊎ (m ≡ k)) c.literals.items → Contains c.literals.items k → denied assumed k ≡ false →
        refutes clauses (assumed ++ k ∷ []) hs ≡ true → Refutes (state terms clauses) (views terms assumed) (h ∷ hs)
    one k each within fresh e =
        let n : IsNumbered terms k = each_contains (IsNumbered terms) c.literals.items within.0 k (each_contains (λ (c : Clause). Each (IsNumbered terms) c.literals.items) clauses h c q is) within.1 in
        forces (map_at (λ (c : Clause). views terms c.literals.items) clauses h c is)
        (λ (m, at). clash (denied assumed k) (contains_denied terms assumed k d p n m at) fresh)
        ((within.0, map_at (view terms) c.literals.items within.0 k within.1), all_only terms assumed c.literals.items k each)
        (subst (λ (x : certificate.Clause). Refutes (state terms clauses) x hs) (map_append terms assumed k) (rest k n e))

    from : (l : Left) → left Nothing assumed c.literals.items ≡ l → after l (λ l. refutes clauses (assumed ++ l ∷ []) hs) ≡ true → Refutes (state terms clauses) (views terms assumed) (h ∷ hs)
    from Nothing f e = ends (map_at (λ (c : Clause). views terms c.literals.items) clauses h c is) (all_none terms assumed c.literals.items (nothing_left Nothing assumed c.literals.items f).1)
    from (One k) f e =
        let a = one_left Nothing assumed c.literals.items k f in
        elim a.1 [
          | inl w ↦ one k a.0 w.1 w.2 e
          | inr w ↦ cc
        ]
    from Many f e = cc

pub bridged : Law
bridged terms clauses assumed [] d p q e = cc
bridged terms clauses assumed (h ∷ hs) d p q e =
    one_hint terms clauses assumed h hs d p q
    (λ k n f. bridged terms clauses (assumed ++ k ∷ []) hs d (each_append (IsNumbered terms) assumed k p n) q f)
    (slice_get clauses h) refl e

-- ---- the converse
same_bool_refl : (b : Bool) → same_bool b b ≡ true
same_bool_refl true = refl
same_bool_refl false = refl

same_literal_refl : (l : Literal) → same_literal l l ≡ true
same_literal_refl l = both (nat_eq l.number l.number) _ ((Decides-eqb l.number l.number).1 refl) (same_bool_refl l.positive)
  where
    both : (a b : Bool) → a ≡ true → b ≡ true → a && b ≡ true
    both true b e f = f
    both false b e f = cc

un_map_at : {A B : Type 0} (f : A → B) (xs : List A) (n : ℕ) (y : B) → slice_get (map f xs) n ≡ Some y → (x : A) × (slice_get xs n ≡ Some x) × (f x ≡ y)
un_map_at f [] n y e = cc
un_map_at f (x ∷ xs) zero y e = (x, refl, same_Some _ _ e)
un_map_at f (x ∷ xs) (suc n) y e = un_map_at f xs n y e

view_eq : (terms : List Term) (a b : Literal) → AreDistinct terms → IsNumbered terms a → IsNumbered terms b → view terms a ≡ view terms b → a ≡ b
view_eq terms a b d p q e = literal_eq a b (signs a.positive b.positive (term_at terms a.number) (term_at terms b.number) e) (d a.number b.number p q (same_term a.positive b.positive e))
  where
    same_term : (x y : Bool) {t u : Term} → signed x t ≡ signed y u → t ≡ u
    same_term true true e = cc
    same_term true false e = cc
    same_term false true e = cc
    same_term false false e = cc

    signs : (x y : Bool) (t u : Term) → signed x t ≡ signed y u → x ≡ y
    signs true true t u e = refl
    signs true false t u e = cc
    signs false true t u e = cc
    signs false false t u e = refl

denied_left : (found : Left) (assumed ls : List Literal) → Each (λ m. denied assumed m ≡ true) ls → left found assumed ls ≡ found
denied_left found assumed [] h = refl
denied_left found assumed (l ∷ ls) h = ap (λ b. left (cond b found (with found l)) assumed ls) h.0 ∙ denied_left found assumed ls h.1

module _ (assumed : List Literal) (k : Literal) (fresh : denied assumed k ≡ false) where
  stays : (ls : List Literal) → Each (λ m. (denied assumed m ≡ true) ⊎ (m ≡ k)) ls → left (One k) assumed ls ≡ One k
  stays [] h = refl
  stays (l ∷ ls) h = elim h.0 [
    | inl d ↦ ap (λ b. left (cond b (One k) (with (One k) l)) assumed ls) d ∙ stays ls h.1
    | inr e ↦ ap (λ b. left (cond b (One k) (with (One k) l)) assumed ls) (ap (denied assumed) e ∙ fresh)
        ∙ ap (λ b. left (cond b (One k) Many) assumed ls) (ap (same_literal k) e ∙ same_literal_refl k) ∙ stays ls h.1
  ]

  becomes : (ls : List Literal) (n : ℕ) → slice_get ls n ≡ Some k → Each (λ m. (denied assumed m ≡ true) ⊎ (m ≡ k)) ls → left Nothing assumed ls ≡ One k
  becomes [] n e h = cc
  becomes (l ∷ ls) zero e h =
      ap (λ b. left (cond b Nothing (One l)) assumed ls) (ap (denied assumed) (same_Some _ _ e) ∙ fresh) ∙ ap (λ x. left (One x) assumed ls) (same_Some _ _ e) ∙ stays ls h.1
  becomes (l ∷ ls) (suc n) e h = elim h.0 [
    | inl d ↦ ap (λ b. left (cond b Nothing (One l)) assumed ls) d ∙ becomes ls n e h.1
    | inr q ↦ ap (λ b. left (cond b Nothing (One l)) assumed ls) (ap (denied assumed) q ∙ fresh) ∙ ap (λ x. left (One x) assumed ls) q ∙ stays ls h.1
  ]

none_denied : (terms : List Term) (assumed ls : List Literal) → AreDistinct terms → Each (IsNumbered terms) assumed → Each (IsNumbered terms) ls → LeavesNone (views terms assumed) (views terms ls) → Each (λ m. denied assumed m ≡ true) ls
none_denied terms assumed [] d p q h = tt
none_denied terms assumed (l ∷ ls) d p q h = (contains_denied terms assumed l d p q.0 (h.0).0 (h.0).1, none_denied terms assumed ls d p q.1 h.1)

only_denied : (terms : List Term) (assumed ls : List Literal) (k : Literal) → AreDistinct terms → Each (IsNumbered terms) assumed → Each (IsNumbered terms) ls → IsNumbered terms k →
    Each (λ m. (m ≡ view terms k) ⊎ Contains (views terms assumed) (negated m)) (views terms ls) → Each (λ m. (denied assumed m ≡ true) ⊎ (m ≡ k)) ls
only_denied terms assumed [] k d p q n h = tt
only_denied terms assumed (l ∷ ls) k d p q n h = (elim h.0 [ inl e ↦ inr (view_eq terms l k d q.0 n e) | inr c ↦ inl (contains_denied terms assumed l d p q.0 c.0 c.1) ], only_denied terms assumed ls k d p q.1 n h.1)

clash : (b : Bool) → b ≡ true → b ≡ false → ⊥
clash true e f = cc
clash false e f = cc

-- what a hint forces
forced : (terms : List Term) (assumed ls : List Literal) (l : certificate.Literal) → AreDistinct terms → Each (IsNumbered terms) assumed → Each (IsNumbered terms) ls →
    ¬ (Contains (views terms assumed) (negated l)) → LeavesOnly (views terms assumed) (views terms ls) l →
    (k : Literal) × (view terms k ≡ l) × IsNumbered terms k × (left Nothing assumed ls ≡ One k)
forced terms assumed ls l d p q fresh only =
    let u = un_map_at (view terms) ls (only.0).0 l (only.0).1 in
    let n = each_contains (IsNumbered terms) ls (only.0).0 u.0 q u.1 in
    let each : Each (λ m. (m ≡ view terms u.0) ⊎ Contains (views terms assumed) (negated m)) (views terms ls) =
    subst (λ (x : certificate.Literal). Each (λ m. (m ≡ x) ⊎ Contains (views terms assumed) (negated m)) (views terms ls)) (sym u.2) only.1 in
    let not_denied : denied assumed u.0 ≡ false = elim (cases_Bool (denied assumed u.0)) [
      | inl t ↦ absurd (fresh (subst (λ (x : certificate.Literal). Contains (views terms assumed) (negated x)) u.2 (denied_contains terms assumed u.0 t)))
      | inr f ↦ f
    ] in
    (u.0, u.2, n, becomes assumed u.0 not_denied ls (only.0).0 u.1 (only_denied terms assumed ls u.0 d p q n each))

back : (terms : List Term) (clauses : List Clause) → AreDistinct terms → Each (λ c. Each (IsNumbered terms) c.literals.items) clauses →
    {known : certificate.Clause} {hints : List ℕ} → Refutes (state terms clauses) known hints → (assumed : List Literal) → known ≡ views terms assumed → Each (IsNumbered terms) assumed → refutes clauses assumed hints ≡ true
back terms clauses d q (ends {assumed = known} {h = h} {hs = hs} {c = c} at none) assumed e p =
    let u = un_map_at (λ (c : Clause). views terms c.literals.items) clauses h c at in
    let within = each_contains (λ (c : Clause). Each (IsNumbered terms) c.literals.items) clauses h u.0 q u.1 in
    let all = none_denied terms assumed (u.0).literals.items d p within (subst (λ (x : certificate.Clause). LeavesNone x (views terms (u.0).literals.items)) e (subst (λ (x : certificate.Clause). LeavesNone known x) (sym u.2) none)) in
    ap (λ o. at_hint o assumed (λ l. refutes clauses (assumed ++ l ∷ []) hs)) u.1
    ∙ ap (λ f. after f (λ l. refutes clauses (assumed ++ l ∷ []) hs)) (denied_left Nothing assumed (u.0).literals.items all)
back terms clauses d q (forces {assumed = known} {h = h} {hs = hs} {c = c} {l = l} at fresh only r) assumed e p =
    let u = un_map_at (λ (c : Clause). views terms c.literals.items) clauses h c at in
    let within = each_contains (λ (c : Clause). Each (IsNumbered terms) c.literals.items) clauses h u.0 q u.1 in
    let f = forced terms assumed (u.0).literals.items l d p within
    (subst (λ (x : certificate.Clause). ¬ (Contains x (negated l))) e fresh)
    (subst (λ (x : certificate.Clause). LeavesOnly x (views terms (u.0).literals.items) l) e (subst (λ (x : certificate.Clause). LeavesOnly known x l) (sym u.2) only)) in
    ap (λ o. at_hint o assumed (λ l. refutes clauses (assumed ++ l ∷ []) hs)) u.1
    ∙ ap (λ f. after f (λ l. refutes clauses (assumed ++ l ∷ []) hs)) f.3
    ∙ back terms clauses d q r (assumed ++ f.0 ∷ []) (ap₂ (λ x y. x ++ y ∷ []) e (sym f.1) ∙ sym (map_append terms assumed f.0)) (each_append (IsNumbered terms) assumed f.0 p f.2)

pub converse : Converse
converse terms clauses assumed hints d p q r = back terms clauses d q r assumed refl p
