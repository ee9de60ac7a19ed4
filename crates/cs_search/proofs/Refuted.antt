-- Hints that derive a clause are followed by the checker to a clause that leaves nothing.
use Rattle.std.proofs.Common.{◌≡◌, ℕ, zero, suc, ◌⊎◌, inl, inr, Bool, true, false, not, cond, nat_eq, ◌&&◌, ◌||◌, List, [], ◌∷◌, ◌++◌, map, refl, sym, ◌∙◌, ap, ap₂, arith, eq-eqb}
use Rattle.std.specs.List.{All, Contains}
use Rattle.std.proofs.lemmas.Bool.{eqb-true, and_parts, or_cases}
use Rattle.vx_terms.specs.Terms.{same_bool}
use Rattle.cs_certificate.specs.declared.literal.Literal.{Literal}
use Rattle.cs_certificate.specs.declared.literal.Left.TheVariants.{Nothing, One, Many}
use Rattle.cs_certificate.specs.declared.literal.Clause.{Clause}
use Rattle.cs_certificate.specs.Hints.{opposite, denied, with, left, after, at_hint, refutes}
use Rattle.cs_search.specs.Assignment.{negated}
use Rattle.cs_search.specs.Propagation.{Denied, Refutes, ends, forces, IsDerived}

differs : (b : Bool) → not (same_bool (not b) b) ≡ true
differs true = refl
differs false = refl

same_itself : (b : Bool) → same_bool b b ≡ true
same_itself true = refl
same_itself false = refl

opposite_negated : (m l : Literal) → m ≡ negated l → opposite m l ≡ true
opposite_negated m l e =
    ap (λ (x : Literal). opposite x l) e ∙ ap₂ (λ p q. p && q) (eq-eqb l.number l.number refl) (differs l.positive)

not_same : (a b : Bool) → not (same_bool a b) ≡ true → a ≡ not b
not_same true true e = absurd (let h : false ≡ true = e in cc)
not_same true false e = refl
not_same false true e = refl
not_same false false e = absurd (let h : false ≡ true = e in cc)

negated_opposite : (m l : Literal) → opposite m l ≡ true → m ≡ negated l
negated_opposite m l e =
    let p = and_parts (nat_eq m.number l.number) (not (same_bool m.positive l.positive)) e in
    ap₂ (λ n b. let x : Literal = record { positive = b; number = n } in x) (eqb-true m.number l.number p.0) (not_same m.positive l.positive p.1)

pub denied_by : (assumed : List Literal) (l : Literal) → Denied assumed l → denied assumed l ≡ true
denied_by [] l (k, lt, e) = absurd (omega arith)
denied_by (m ∷ ms) l (zero, lt, e) = ap (λ b. b || denied ms l) (opposite_negated m l e)
denied_by (m ∷ ms) l (suc k, lt, e) = ap (λ b. opposite m l || b) (denied_by ms l (k, omega arith, e)) ∙ go (opposite m l)
  where
    go : (b : Bool) → (b || true) ≡ true
    go true = refl
    go false = refl

pub by_denied : (assumed : List Literal) (l : Literal) → denied assumed l ≡ true → Denied assumed l
by_denied [] l e = absurd (let h : false ≡ true = e in cc)
by_denied (m ∷ ms) l e = elim (or_cases (opposite m l) (denied ms l) e) [
  | inl h ↦ (0, omega arith, negated_opposite m l h)
  | inr h ↦ let r = by_denied ms l h in (suc r.0, omega (arith, r.1), r.2)
]

not_denied : (assumed : List Literal) (l : Literal) → ¬ (Denied assumed l) → denied assumed l ≡ false
not_denied assumed l n = go (denied assumed l) refl
  where
    go : (b : Bool) → denied assumed l ≡ b → b ≡ false
    go true e = absurd (n (by_denied assumed l e))
    go false e = refl

same_one : (u m : Literal) → m ≡ u → with (One u) m ≡ One u
same_one u m e =
    ap (λ (x : Literal). with (One u) x) e ∙ ap (λ b. cond b (One u) Many) (ap₂ (λ p q. p && q) (eq-eqb u.number u.number refl) (same_itself u.positive))

-- one literal was found already
ones : (assumed : List Literal) (u : Literal) (c : List Literal) → denied assumed u ≡ false → All (λ m. (m ≡ u) ⊎ Denied assumed m) c → left (One u) assumed c ≡ One u
ones assumed u [] d all = refl
ones assumed u (m ∷ ms) d all =
    let rest : All (λ m. (m ≡ u) ⊎ Denied assumed m) ms = λ k x lt. all (suc k) x (omega arith) in
    elim (all 0 m (omega arith)) [
      | inl e ↦
          ap (λ b. left (cond b (One u) (with (One u) m)) assumed ms) (ap (denied assumed) e ∙ d)
          ∙ ap (λ f. left f assumed ms) (same_one u m e) ∙ ones assumed u ms d rest
      | inr h ↦ ap (λ b. left (cond b (One u) (with (One u) m)) assumed ms) (denied_by assumed m h) ∙ ones assumed u ms d rest
    ]

-- none is found yet
pub leaves_one : (assumed : List Literal) (u : Literal) (c : List Literal) → denied assumed u ≡ false → All (λ m. (m ≡ u) ⊎ Denied assumed m) c → Contains c u → left Nothing assumed c ≡ One u
leaves_one assumed u [] d all (k, lt, e) = absurd (omega arith)
leaves_one assumed u (m ∷ ms) d all in' =
    let rest : All (λ m. (m ≡ u) ⊎ Denied assumed m) ms = λ k x lt. all (suc k) x (omega arith) in
    elim (all 0 m (omega arith)) [
      | inl e ↦
          ap (λ b. left (cond b Nothing (One m)) assumed ms) (ap (denied assumed) e ∙ d)
          ∙ ap (λ (x : Literal). left (One x) assumed ms) e ∙ ones assumed u ms d rest
      | inr h ↦
          ap (λ b. left (cond b Nothing (One m)) assumed ms) (denied_by assumed m h)
          ∙ leaves_one assumed u ms d rest (further assumed u m ms d (denied_by assumed m h) in')
    ]
  where
    further : (assumed : List Literal) (u m : Literal) (ms : List Literal) → denied assumed u ≡ false → denied assumed m ≡ true → Contains (m ∷ ms) u → Contains ms u
    further assumed u m ms d h (zero, lt, e) = absurd (let g : true ≡ false = sym h ∙ ap (denied assumed) e ∙ d in cc)
    further assumed u m ms d h (suc k, lt, e) = (k, omega arith, e)

pub leaves_none : (assumed : List Literal) (c : List Literal) → All (Denied assumed) c → left Nothing assumed c ≡ Nothing
leaves_none assumed [] all = refl
leaves_none assumed (m ∷ ms) all =
    ap (λ b. left (cond b Nothing (One m)) assumed ms) (denied_by assumed m (all 0 m (omega arith)))
    ∙ leaves_none assumed ms (λ k x lt. all (suc k) x (omega arith))

pub refuted : (clauses : List Clause) (assumed : List Literal) (hints : List ℕ) → Refutes clauses assumed hints → refutes clauses assumed hints ≡ true
refuted clauses assumed hints (ends {hs = hs} c at all) =
    ap (λ o. at_hint o assumed (λ l. refutes clauses (assumed ++ l ∷ []) hs)) at
    ∙ ap (λ f. after f (λ l. refutes clauses (assumed ++ l ∷ []) hs)) (leaves_none assumed c.literals.items all)
refuted clauses assumed hints (forces {hs = hs} c l at in' free all rest) =
    ap (λ o. at_hint o assumed (λ x. refutes clauses (assumed ++ x ∷ []) hs)) at
    ∙ ap (λ f. after f (λ x. refutes clauses (assumed ++ x ∷ []) hs)) (leaves_one assumed l c.literals.items (not_denied assumed l free) all in')
    ∙ refuted clauses (assumed ++ l ∷ []) hs rest

pub derived_refutes : (clauses : List Clause) (literals : List Literal) (hints : List ℕ) → IsDerived clauses literals hints → refutes clauses (map negated literals) hints ≡ true
derived_refutes clauses literals hints d = refuted clauses (map negated literals) hints d
