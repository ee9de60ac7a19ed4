-- The two orders of an equality have one truth.
use Rattle.std.proofs.Common.{◌≡◌, ◌⊎◌, inl, inr, ℕ, ◌<◌, Bool, true, false, not, ◌||◌, List, [], ◌∷◌, ◌++◌, refl, sym, ◌∙◌, ap, subst, arith}
use Rattle.std.proofs.lemmas.Bool.{cases_eq, cases_lt}
use Rattle.vx_terms.specs.Sorts.{BoolSort}
use Rattle.vx_terms.specs.Terms.{Term, Truth, Number, Part, Constant, Apply, Not, Binary, Ite, AllOf, SomeOf}
use Rattle.vx_terms.specs.Interpretations.{Each}
use Rattle.cs_certificate.specs.Terms.{equal, HasSort}
use Rattle.cs_certificate.specs.Certificate.{Yes, No, Clause, Stack, State, Step, Pick, Chain, Congruence, At, no-terms, one-term, Contains, IsEquality, Equates, end, link, Pairs, no-pairs, same, differ, Defines, true-is, equal-0, equal-1, Derives, pick-then, chain, congruence}
use Rattle.cs_certificate.proofs.Find.{one_at}
use Rattle.cs_classes.specs.Elements.{Assignment}
use Rattle.cs_classes.specs.Agreement.{holds, satisfies}
use Rattle.cs_numbers.proofs.Tables.{Ready}
use Rattle.cs_ground.specs.Ground.{Satisfies, IsEquated}
use Rattle.cs_ground.specs.Steps.{choice_of, IsAlias, IsBehind, IsPickOf, IsOfAlias, Begins}
use Rattle.cs_ground.specs.declared.aliases.Alias.{Alias}
use Rattle.cs_ground.proofs.Lists.{each_at, at_within, begins_at, front_at}
use Rattle.cs_ground.proofs.Paired.{equates_turned, equality_bool, equated}

-- ---- a choice differs from its sides
pub not_then : (c x y : Term) → Ite c x y ≡ x → ⊥
not_then c (Ite d u v) y e = let f : Ite d u v ≡ u = cc in not_then d u v f
not_then c (Truth b) y e = cc
not_then c (Number z) y e = cc
not_then c (Part a) y e = cc
not_then c (Constant f a) y e = cc
not_then c (Apply f a ts) y e = cc
not_then c (Not t) y e = cc
not_then c (Binary o t u) y e = cc
not_then c (AllOf ts) y e = cc
not_then c (SomeOf ts) y e = cc

-- ---- satisfied clauses
-- where the others are false, the last literal is true
last_holds : (v : Assignment) (c : Clause) (e : Term) → Each (λ l. holds v l ≡ false) c → satisfies v (c ++ Yes e ∷ []) ≡ true → v.truth e ≡ true
last_holds v [] e h k = go (v.truth e) k
  where
    go : (b : Bool) → b || false ≡ true → b ≡ true
    go true f = refl
    go false f = cc
last_holds v (l ∷ c) e h k = last_holds v c e h.1 (go (holds v l) (satisfies v (c ++ Yes e ∷ [])) h.0 k)
  where
    go : (b d : Bool) → b ≡ false → b || d ≡ true → d ≡ true
    go true d f g = cc
    go false d f g = g

denied : (v : Assignment) (t : Term) → v.truth t ≡ true → holds v (No t) ≡ false
denied v t e = ap not e

second_holds : (p q r : Bool) → p ≡ true → r ≡ true → (not p || (q || (not r || false))) ≡ true → q ≡ true
second_holds true true true e f g = refl
second_holds true false true e f g = cc
second_holds false q r e f g = cc
second_holds true q false e f g = cc

pub both_ways : (p q : Bool) → (p ≡ true → q ≡ true) → (q ≡ true → p ≡ true) → p ≡ q
both_ways true q f g = sym (f refl)
both_ways false true f g = g refl
both_ways false false f g = refl

module _ (stack : Stack) (s : State) (v : Assignment) (table : Ready s.terms) (satisfied : Satisfies v s) (rows : (t : Term) (k : ℕ) (c : Clause) → Contains s.terms t → Defines t k c → Contains s.clauses c) where
  clause_holds : (c : Clause) → Contains s.clauses c → satisfies v c ≡ true
  clause_holds c k = each_at (λ c. satisfies v c ≡ true) s.clauses k.0 c satisfied k.1

  -- what is equal to what is true
  equal_holds : (p q e : Term) → HasSort p BoolSort → HasSort q BoolSort → Contains s.terms e → IsEquality p q e → v.truth e ≡ true → v.truth p ≡ true → v.truth q ≡ true
  equal_holds p q e h k here (inl is) f g =
      let t : v.truth (equal p q) ≡ true = ap v.truth (sym is) ∙ f in
      last_holds v (No (equal p q) ∷ No p ∷ []) q (denied v (equal p q) t, (denied v p g, tt))
      (clause_holds _ (rows (equal p q) 0 _ (subst (Contains s.terms) is here) (equal-0 p q h k)))
  equal_holds p q e h k here (inr is) f g =
      let t : v.truth (equal q p) ≡ true = ap v.truth (sym is) ∙ f in
      second_holds (v.truth (equal q p)) (v.truth q) (v.truth p) t g
      (clause_holds _ (rows (equal q p) 1 _ (subst (Contains s.terms) is here) (equal-1 q p k h)))

  -- ---- from the second order to the first
  module _ (b a : Term) (x : Alias) (h : IsAlias s.terms b a x) (every : (step : Step) (c : Clause) → IsOfAlias x step ⊎ IsPickOf x.choice step → Derives stack s step c → Contains s.clauses c) (other : ¬ (HasSort b BoolSort)) where
    abbrev chosen : Term
    chosen = choice_of b h.other

    truth_holds : v.truth (Truth true) ≡ true
    truth_holds = last_holds v [] (Truth true) tt (clause_holds _ (rows (Truth true) 0 _ (table.closed chosen (Truth true) (x.choice, h.choice) (0, refl)) true-is))

    same_named : IsEquated s chosen b
    same_named = equated s chosen b h.same

    same_holds : v.truth same_named.0 ≡ true
    same_holds =
        last_holds v (No (Truth true) ∷ []) same_named.0 (denied v (Truth true) truth_holds, tt)
        (clause_holds _ (every (Pick x.choice 0) _ (inr (inl refl)) (pick-then h.choice other same_named.1)))

    turned_named : Equates s chosen a (equal chosen a)
    turned_named = record { number = x.equality; here = h.equality; equality = inl refl; first = h.first }

    joined_named : IsEquated s (equal b a) (equal chosen a)
    joined_named = equated s (equal b a) (equal chosen a) h.joined

    apart : b ≡ chosen → ⊥
    apart e = not_then (Truth true) b h.other (sym e)

    joined_holds : v.truth joined_named.0 ≡ true
    joined_holds =
        last_holds v (No same_named.0 ∷ []) joined_named.0 (denied v same_named.0 same_holds, tt)
        (clause_holds _ (every (Congruence x.whole x.equality) _ (inl (inr refl)) (congruence h.whole h.equality refl (differ apart (equates_turned s chosen b same_named.0 same_named.1) (same no-pairs)) joined_named.1)))

    turned_holds : v.truth (equal b a) ≡ true → v.truth (equal chosen a) ≡ true
    turned_holds e =
        equal_holds (equal b a) (equal chosen a) joined_named.0 (equality_bool b a (table.sorts (equal b a) (x.whole, h.whole))) (equality_bool chosen a (table.sorts (equal chosen a) (x.equality, h.equality)))
        ((joined_named.1).number, (joined_named.1).here) (joined_named.1).equality joined_holds e

    pub alias_leads : (g : Term) → Equates s b a g → v.truth (equal b a) ≡ true → v.truth g ≡ true
    alias_leads g q e =
        last_holds v (No same_named.0 ∷ No (equal chosen a) ∷ []) g (denied v same_named.0 same_holds, (denied v (equal chosen a) (turned_holds e), tt))
        (clause_holds _ (every (Chain (x.left ∷ x.choice ∷ x.right ∷ [])) _ (inl (inl refl))
        (chain h.left (one-term h.choice (one-term h.right no-terms)) (link (equates_turned s chosen b same_named.0 same_named.1) (link turned_named (end a))) q)))

  -- ---- from the first to the second
  pub first_leads : (a b e : Term) → ¬ (a ≡ b) → Equates s a b (equal a b) → Contains s.terms (equal b a) → Equates s (equal a b) (equal b a) e →
      ((c : Clause) → Pairs s (a ∷ b ∷ []) (b ∷ a ∷ []) c → Contains s.clauses (c ++ Yes e ∷ [])) → v.truth (equal a b) ≡ true → v.truth (equal b a) ≡ true
  first_leads a b e two q here d every f =
      let c : v.truth e ≡ true =
      last_holds v (No (equal a b) ∷ No (equal a b) ∷ []) e (denied v (equal a b) f, (denied v (equal a b) f, tt))
      (clause_holds _ (every _ (differ two q (differ (λ k. two (sym k)) (equates_turned s a b (equal a b) q) no-pairs)))) in
      equal_holds (equal a b) (equal b a) e (equality_bool a b (table.sorts (equal a b) (q.number, q.here))) (equality_bool b a (table.sorts (equal b a) here)) (d.number, d.here) d.equality c f

-- ---- which is behind
pub is_behind : (terms : List Term) (s : State) (a b : Term) → Begins terms s.terms → ¬ (a ≡ b) → Equates s a b (equal a b) → Contains terms (equal b a) → ¬ (HasSort b BoolSort) → IsBehind terms b a
is_behind terms s a b more two q k other = record {
  before = q.number;
  number = k.0;
  less = less;
  first = front_at terms s.terms q.number (equal a b) more (let long = at_within terms k.0 (equal b a) k.1 in let lt = less in omega arith) q.here;
  here = k.1;
  sorted = other;
}
  where
    later : At s.terms k.0 (equal b a)
    later = begins_at terms s.terms k.0 (equal b a) more k.1

    less : q.number < k.0
    less = elim (cases_lt k.0 q.number) [
      | inl lt ↦ absurd (q.first k.0 (equal b a) lt later (inr refl))
      | inr le ↦ elim (cases_eq q.number k.0) [
        | inl e ↦ absurd (two (let f : equal a b ≡ equal b a = one_at s.terms k.0 (equal a b) (equal b a) (subst (λ n. At s.terms n (equal a b)) e q.here) later in cc))
        | inr n ↦ omega arith
      ]
    ]
