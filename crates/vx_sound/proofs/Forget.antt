-- Fresh values for the variables that a loop assigns.
use Rattle.std.proofs.Common.{◌≡◌, ℕ, suc, ◌≤◌, Bool, true, false, not, cond, ◌&&◌, ◌||◌, ◌⊎◌, inl, inr, List, [], ◌∷◌, Some, None, refl, sym, ◌∙◌, ap, ap₂, subst, le_trans, le_of_lt, lt-suc_self, true≢false}
use Rattle.std.specs.Prelude.{IsTrue}
use Rattle.std.proofs.lemmas.Option.{same_Some}
use Rattle.vx_ast.specs.declared.ValueType.{ValueType}
use Rattle.vx_ast.specs.Syntax.{Name, same_name, Program}
use Rattle.vx_ast.specs.Mentions.{is_among}
use Rattle.vx_meaning.specs.Values.{Value, type_of}
use Rattle.vx_meaning.specs.States as run
use Rattle.vx_meaning.specs.States.{Store, lookup}
use Rattle.vx_meaning.specs.Run.{DiffersAt}
use Rattle.vx_terms.specs.Terms.{Term, sort_of}
use Rattle.vx_terms.specs.Interpretations.{Interpretation, IsOf}
use Rattle.vx_terms.proofs.Values.{sort_of_formed}
use Rattle.vx_rules.specs.States as rules
use Rattle.vx_rules.specs.States.{sort_of_type}
use Rattle.vx_rules.specs.Rules.{Going}
use Rattle.vx_rules.specs.Members.{forget}
use Rattle.vx_types.specs.Typing.{Scope, type_in, AreOnce}
use Rattle.vx_sound.proofs.World.{World}
use Rattle.vx_sound.proofs.Passes.{Cleared}
use Rattle.vx_elements.proofs.Settled.{Meaning, Extends, extends-trans, with_symbol, symbol_extends, fresh_value}
use Rattle.vx_elements.proofs.Built.{Good}
use Rattle.vx_elements.proofs.Elements.{element, element_is}
use Rattle.vx_sound.proofs.Stands.{StoreStands, Stands, stands_with_store, stands_later, found_stands, store_assign}
use Rattle.vx_sound.proofs.Goes.{Goes, here, good_fresh}
use Rattle.vx_sound.proofs.Once.{NamesOnce, names_once}
use Rattle.vx_elements.proofs.Lists.{name_is, name_same}

-- the stores differ at most in the values of these names that aren't done
abbrev pub Toward : List Name → List Name → Store → Store → Type 0
Toward done xs [] [] = Unit {0}
Toward done xs (a ∷ w) (b ∷ y) = (a.0 ≡ b.0) × (type_of a.1 ≡ type_of b.1) × ((IsTrue (is_among a.0 xs) × (is_among a.0 done ≡ false)) ⊎ (a.1 ≡ b.1)) × Toward done xs w y
Toward done xs _ _ = ⊥

pub toward_start : (xs : List Name) (w y : Store) → DiffersAt xs w y → Toward [] xs w y
toward_start xs [] [] h = tt
toward_start xs (a ∷ w) (b ∷ y) h = (h.0, h.1, start h.2, toward_start xs w y h.3)
  where
    start : IsTrue (is_among a.0 xs) ⊎ (a.1 ≡ b.1) → (IsTrue (is_among a.0 xs) × (is_among a.0 [] ≡ false)) ⊎ (a.1 ≡ b.1)
    start (inl k) = inl (k, refl)
    start (inr k) = inr k
toward_start xs [] (b ∷ y) h = absurd h
toward_start xs (a ∷ w) [] h = absurd h

toward_end : (done : List Name) (w y : Store) → Toward done [] w y → w ≡ y
toward_end done [] [] h = refl
toward_end done (a ∷ w) (b ∷ y) h = ap₂ (λ (e : Name × Value) (z : Store). e ∷ z) (ap₂ (λ (x : Name) (v : Value). (x, v)) h.0 (same h.2)) (toward_end done w y h.3)
  where
    same : (IsTrue (is_among a.0 []) × (is_among a.0 done ≡ false)) ⊎ (a.1 ≡ b.1) → a.1 ≡ b.1
    same (inl k) = absurd (true≢false (sym k.0))
    same (inr k) = k
toward_end done [] (b ∷ y) h = absurd h
toward_end done (a ∷ w) [] h = absurd h

or_right : (a b : Bool) → (a || b) ≡ true → a ≡ false → b ≡ true
or_right true b h e = absurd (true≢false e)
or_right false b h e = h

differs_back : (x y : Name) (b : Bool) → same_name y x ≡ b → same_name x y ≡ false → b ≡ false
differs_back x y true e f = absurd (true≢false (sym (subst (λ z. same_name z y ≡ true) (name_is y x e) (name_same y)) ∙ f))
differs_back x y false e f = refl

skip_done : (done xs : List Name) (x : Name) (w y : Store) → is_among x done ≡ true → Toward done (x ∷ xs) w y → Toward done xs w y
skip_done done xs x [] [] d h = tt
skip_done done xs x (a ∷ w) (b ∷ y) d h = (h.0, h.1, entry h.2, skip_done done xs x w y d h.3)
  where
    apart : (q : Bool) → same_name a.0 x ≡ q → is_among a.0 done ≡ false → q ≡ false
    apart true e f = absurd (true≢false (sym (subst (λ z. is_among z done ≡ true) (sym (name_is a.0 x e)) d) ∙ f))
    apart false e f = refl

    entry : (IsTrue (is_among a.0 (x ∷ xs)) × (is_among a.0 done ≡ false)) ⊎ (a.1 ≡ b.1) → (IsTrue (is_among a.0 xs) × (is_among a.0 done ≡ false)) ⊎ (a.1 ≡ b.1)
    entry (inl k) = inl (or_right (same_name a.0 x) (is_among a.0 xs) k.0 (apart (same_name a.0 x) refl k.1), k.1)
    entry (inr k) = inr k
skip_done done xs x [] (b ∷ y) d h = absurd h
skip_done done xs x (a ∷ w) [] d h = absurd h

-- a name that isn't there
record Elsewhere (x : Name) (a : Name × Value) (w : Store) : Type 0 where
  pub here : same_name x a.0 ≡ false
  pub rest : lookup x w ≡ None

elsewhere : (x : Name) (a : Name × Value) (w : Store) → lookup x (a ∷ w) ≡ None → Elsewhere x a w
elsewhere x a w h = go (same_name x a.0) refl h
  where
    go : (q : Bool) → same_name x a.0 ≡ q → cond q (Some a.1) (lookup x w) ≡ None → Elsewhere x a w
    go true e h = cc
    go false e h = record { here = e; rest = h }

done_more : (done xs : List Name) (x : Name) (w y : Store) → lookup x w ≡ None → Toward done (x ∷ xs) w y → Toward (x ∷ done) xs w y
done_more done xs x [] [] d h = tt
done_more done xs x (a ∷ w) (b ∷ y) d h = let e = elsewhere x a w d in (h.0, h.1, entry (differs_back x a.0 (same_name a.0 x) refl e.here) h.2, done_more done xs x w y e.rest h.3)
  where
    entry : same_name a.0 x ≡ false → (IsTrue (is_among a.0 (x ∷ xs)) × (is_among a.0 done ≡ false)) ⊎ (a.1 ≡ b.1) → (IsTrue (is_among a.0 xs) × (is_among a.0 (x ∷ done) ≡ false)) ⊎ (a.1 ≡ b.1)
    entry e (inl k) = inl (or_right (same_name a.0 x) (is_among a.0 xs) k.0 e, ap (λ q. q || is_among a.0 done) e ∙ k.1)
    entry e (inr k) = inr k
done_more done xs x [] (b ∷ y) d h = absurd h
done_more done xs x (a ∷ w) [] d h = absurd h

skip_absent : (done xs : List Name) (x : Name) (w y : Store) → lookup x w ≡ None → Toward done (x ∷ xs) w y → Toward done xs w y
skip_absent done xs x [] [] d h = tt
skip_absent done xs x (a ∷ w) (b ∷ y) d h = let e = elsewhere x a w d in (h.0, h.1, entry (differs_back x a.0 (same_name a.0 x) refl e.here) h.2, skip_absent done xs x w y e.rest h.3)
  where
    entry : same_name a.0 x ≡ false → (IsTrue (is_among a.0 (x ∷ xs)) × (is_among a.0 done ≡ false)) ⊎ (a.1 ≡ b.1) → (IsTrue (is_among a.0 xs) × (is_among a.0 done ≡ false)) ⊎ (a.1 ≡ b.1)
    entry e (inl k) = inl (or_right (same_name a.0 x) (is_among a.0 xs) k.0 e, k.1)
    entry e (inr k) = inr k
skip_absent done xs x [] (b ∷ y) d h = absurd h
skip_absent done xs x (a ∷ w) [] d h = absurd h

-- one variable gets the value that it is to have
assigned : (done xs : List Name) (x : Name) (v : Value) (w y : Store) → NamesOnce w → lookup x y ≡ Some v → Toward done (x ∷ xs) w y → Toward (x ∷ done) xs (run.assign x v w) y
assigned done xs x v [] [] once l h = cc
assigned done xs x v (a ∷ w) (b ∷ y) once l h =
    go (same_name x a.0) refl (subst (λ z. cond (same_name x z) (Some b.1) (lookup x y) ≡ Some v) (sym h.0) l) (λ m. assigned done xs x v w y once.1 m h.3)
  where
    entry : same_name a.0 x ≡ false → (IsTrue (is_among a.0 (x ∷ xs)) × (is_among a.0 done ≡ false)) ⊎ (a.1 ≡ b.1) → (IsTrue (is_among a.0 xs) × (is_among a.0 (x ∷ done) ≡ false)) ⊎ (a.1 ≡ b.1)
    entry e (inl k) = inl (or_right (same_name a.0 x) (is_among a.0 xs) k.0 e, ap (λ q. q || is_among a.0 done) e ∙ k.1)
    entry e (inr k) = inr k

    go : (q : Bool) → same_name x a.0 ≡ q → cond q (Some b.1) (lookup x y) ≡ Some v → (lookup x y ≡ Some v → Toward (x ∷ done) xs (run.assign x v w) y) →
        Toward (x ∷ done) xs (cond q ((x, v) ∷ w) (a ∷ run.assign x v w)) (b ∷ y)
    go true e m next =
        let is : x ≡ a.0 = name_is x a.0 e in
        let same : b.1 ≡ v = same_Some b.1 v m in
        (is ∙ h.0, ap type_of (sym same), inr (sym same), done_more done xs x w y (subst (λ z. lookup z w ≡ None) (sym is) once.0) h.3)
    go false e m next = (h.0, h.1, entry (differs_back x a.0 (same_name a.0 x) refl e) h.2, next m)
assigned done xs x v [] (b ∷ y) once l h = absurd h
assigned done xs x v (a ∷ w) [] once l h = absurd h

module _ (means : Meaning) (world : World) where
  abbrev p : Program
  p = world.program

  module _ (n : ℕ) (i : Interpretation) where
    absent : (x : Name) (scope : Scope) (xs : rules.Store) (w : Store) → StoreStands means world n i scope xs w → rules.is_stored x xs ≡ false → lookup x w ≡ None
    absent x [] [] [] h e = refl
    absent x (d ∷ ds) (a ∷ xs) (b ∷ w) h e =
        subst (λ z. cond (same_name x z) (Some b.1) (lookup x w) ≡ None) (h.0.symbolic_name ∙ sym h.0.name) (go (same_name x a.0) e (absent x ds xs w h.1))
      where
        go : (q : Bool) → (q || rules.is_stored x xs) ≡ false → (rules.is_stored x xs ≡ false → lookup x w ≡ None) → cond q (Some b.1) (lookup x w) ≡ None
        go true e next = absurd (true≢false e)
        go false e next = next e
    absent x [] [] (b ∷ w) h e = absurd h
    absent x [] (a ∷ xs) w h e = absurd h
    absent x (d ∷ ds) [] w h e = absurd h
    absent x (d ∷ ds) (a ∷ xs) [] h e = absurd h

    record Known (x : Name) (scope : Scope) (y : Store) : Type 0 where
      pub of : ValueType
      pub declared : type_in x scope ≡ Some of
      pub target : Value
      pub is : lookup x y ≡ Some target
      pub typed : type_of target ≡ of

    known : (done zs : List Name) (x : Name) (scope : Scope) (xs : rules.Store) (w y : Store) → StoreStands means world n i scope xs w → Toward done zs w y → rules.is_stored x xs ≡ true → Known x scope y
    known done zs x [] [] [] y h t e = cc
    known done zs x (d ∷ ds) (a ∷ xs) (b ∷ w) (c ∷ y) h t e = go (same_name x a.0) refl e (λ m. known done zs x ds xs w y h.1 t.3 m)
      where
        symbolic : (q : Bool) → same_name x a.0 ≡ q → same_name x d.name ≡ q
        symbolic q e = subst (λ z. same_name x z ≡ q) h.0.symbolic_name e

        concrete : (q : Bool) → same_name x a.0 ≡ q → same_name x c.0 ≡ q
        concrete q e = subst (λ z. same_name x z ≡ q) (h.0.symbolic_name ∙ sym h.0.name ∙ t.0) e

        go : (q : Bool) → same_name x a.0 ≡ q → (q || rules.is_stored x xs) ≡ true → (rules.is_stored x xs ≡ true → Known x ds y) → Known x (d ∷ ds) (c ∷ y)
        go true e m next = record {
          of = d.of;
          declared = ap (λ q. cond q (Some d.of) (type_in x ds)) (symbolic true e);
          target = c.1;
          is = ap (λ q. cond q (Some c.1) (lookup x y)) (concrete true e);
          typed = sym t.1 ∙ h.0.typed;
        }
        go false e m next =
            let k = next m in
            record { of = k.of; declared = ap (λ q. cond q (Some d.of) (type_in x ds)) (symbolic false e) ∙ k.declared; target = k.target; is = ap (λ q. cond q (Some c.1) (lookup x y)) (concrete false e) ∙ k.is; typed = k.typed }
    known done zs x (d ∷ ds) (a ∷ xs) (b ∷ w) [] h t e = absurd t
    known done zs x [] [] (b ∷ w) y h t e = absurd h
    known done zs x [] (a ∷ xs) w y h t e = absurd h
    known done zs x (d ∷ ds) [] w y h t e = absurd h
    known done zs x (d ∷ ds) (a ∷ xs) [] y h t e = absurd h

  -- the store that a loop leaves
  pub forget_goes : (done xs : List Name) (y : Store) {scope : Scope} {i : Interpretation} {s : rules.State} {c : run.State} (on : Going) → AreOnce scope → Stands means world scope i s c → Toward done xs c.store y →
      Cleared (on (forget done xs s)) → Goes means world scope i s.next on (run.with_store y c)
  forget_goes done [] y {scope = scope} {i = i} {s = s} {c = c} on once st t h = subst (λ z. Goes means world scope i s.next on (run.with_store z c)) (toward_end done c.store y t) (here means world on st h)
  forget_goes done (x ∷ xs) y {scope = scope} {i = i} {s = s} {c = c} on once st t h =
      go (rules.is_stored x s.store) refl (is_among x done) refl h (λ m. forget_goes done xs y on once st m) (λ j s1 c1 st1 m. forget_goes (x ∷ done) xs y on once st1 m)
    where
      go : (a : Bool) → rules.is_stored x s.store ≡ a → (b : Bool) → is_among x done ≡ b →
          Cleared (on (cond (a && not b) (forget (x ∷ done) xs (rules.with_store (rules.assign x (rules.fresh (sort_of (rules.found x s.store)) s) s.store) (rules.after_fresh s))) (forget done xs s))) →
          (Toward done xs c.store y → Cleared (on (forget done xs s)) → Goes means world scope i s.next on (run.with_store y c)) →
          ((j : Interpretation) (s1 : rules.State) (c1 : run.State) → Stands means world scope j s1 c1 → Toward (x ∷ done) xs c1.store y → Cleared (on (forget (x ∷ done) xs s1)) → Goes means world scope j s1.next on (run.with_store y c1)) →
          Goes means world scope i s.next on (run.with_store y c)
      go false e b f h skip step = skip (skip_absent done xs x c.store y (absent s.next i x scope s.store c.store st.store e) t) h
      go true e true f h skip step = skip (skip_done done xs x c.store y f t) h
      go true e false f h skip step =
          let g = step j (rules.with_store (rules.assign x u s.store) (rules.after_fresh s)) (run.with_store (run.assign x k.target c.store) c) st2 (assigned done xs x k.target c.store y (names_once means world s.next i scope s.store c.store once st.store) k.is t) h in
          record { interp = g.interp; state = g.state; extends = extends-trans means le ext g.extends; later = le_trans le g.later; stands = g.stands; cleared = g.cleared }
        where
          k : Known s.next i x scope y
          k = known s.next i done (x ∷ xs) x scope s.store c.store y st.store t e

          u : Term
          u = rules.fresh (sort_of (rules.found x s.store)) s

          j : Interpretation
          j = with_symbol means i s.next (element k.target)

          ext : Extends means s.next i j
          ext = symbol_extends means i s.next (element k.target)

          le : s.next ≤ suc s.next
          le = le_of_lt (lt-suc_self s.next)

          sort_is : sort_of (rules.found x s.store) ≡ sort_of_type k.of
          sort_is = sort_of_formed (found_stands means world x k.of scope s.store c.store st.store k.declared).good.formed

          st1 : Stands means world scope j (rules.after_fresh s) c
          st1 = stands_later means world (suc s.next) le ext st

          of_sort : IsOf (sort_of (rules.found x s.store)) (element k.target)
          of_sort = subst (λ a. IsOf a (element k.target)) (ap sort_of_type k.typed ∙ sym sort_is) (element_is k.target)

          good : Good means (suc s.next) j (rules.fresh (sort_of (rules.found x s.store)) s) (sort_of_type k.of)
          good = subst (λ a. Good means (suc s.next) j (rules.fresh (sort_of (rules.found x s.store)) s) a) sort_is (good_fresh means world i s.next (element k.target) (sort_of (rules.found x s.store)))

          st2 : Stands means world scope j (rules.with_store (rules.assign x (rules.fresh (sort_of (rules.found x s.store)) s) s.store) (rules.after_fresh s)) (run.with_store (run.assign x k.target c.store) c)
          st2 = stands_with_store means world scope (rules.assign x u s.store) (run.assign x k.target c.store) st1
              (store_assign means world x k.of u k.target scope s.store c.store st1.store k.declared k.typed good (fresh_value means i s.next (element k.target) (sort_of (rules.found x s.store)) of_sort))
