-- Variables that a loop forgets have the values of their fresh symbols.
use Rattle.std.proofs.Common.{◌≡◌, inl, inr, ℕ, ◌≤◌, Bool, true, false, not, cond, ◌&&◌, ◌||◌, List, [], ◌∷◌, Some, refl, sym, ◌∙◌, ap, subst, le_refl, le_trans}
use Rattle.vx_ast.specs.declared.ValueType.{ValueType}
use Rattle.vx_ast.specs.Syntax.{Name, same_name, Program}
use Rattle.vx_ast.specs.Mentions.{is_among}
use Rattle.vx_meaning.specs.Values.{Value, type_of}
use Rattle.vx_meaning.specs.States as run
use Rattle.vx_meaning.specs.Run.{DiffersAt}
use Rattle.vx_terms.specs.Terms.{sort_of}
use Rattle.vx_terms.specs.Build.{variable}
use Rattle.vx_terms.specs.Interpretations.{Interpretation, value}
use Rattle.vx_terms.proofs.Values.{sort_of_formed}
use Rattle.vx_rules.specs.States as rules
use Rattle.vx_rules.specs.States.{sort_of_type}
use Rattle.vx_rules.specs.Members.{forget}
use Rattle.vx_types.specs.Typing.{Scope, type_in}
use Rattle.vx_elements.proofs.Settled.{Meaning}
use Rattle.vx_elements.proofs.Built.{Good}
use Rattle.vx_elements.proofs.Elements.{element}
use Rattle.vx_elements.proofs.Lists.{name_is, name_same}
use Rattle.vx_sound.proofs.Fields.{fields_world}
use Rattle.vx_sound.proofs.Stands.{StoreStands, found_stands, store_assign}
use Rattle.vx_real.proofs.Matched.{HasReferences, Matches}
use Rattle.vx_real.proofs.Symbols.{Symbol, symbol, good_symbol, next_later, matches_fresh, matches_store}

pub differs_not : (xs : List Name) (w : run.Store) → DiffersAt xs w w
differs_not xs [] = tt
differs_not xs (a ∷ w) = (refl, refl, inr refl, differs_not xs w)

among_each : (x : Name) (xs ys : List Name) → is_among x ys ≡ true → (y : Name) → same_name y x ≡ true → is_among y ys ≡ true
among_each x xs ys h y e = subst (λ z. is_among z ys ≡ true) (sym (name_is y x e)) h

-- one of these variables gets a value of its type
differs_assigned : (ys : List Name) (x : Name) (v : Value) (t : ValueType) (scope : Scope) (w z : run.Store) → is_among x ys ≡ true → type_of v ≡ t → ((u : Value) → run.lookup x z ≡ Some u → type_of u ≡ t) → DiffersAt ys w z → DiffersAt ys w (run.assign x v z)
differs_assigned ys x v t scope [] [] h e k d = tt
differs_assigned ys x v t scope (a ∷ w) (b ∷ z) h e k d = go (same_name x b.0) refl k (λ k. differs_assigned ys x v t scope w z h e k d.3)
  where
    go : (q : Bool) → same_name x b.0 ≡ q → ((u : Value) → cond q (Some b.1) (run.lookup x z) ≡ Some u → type_of u ≡ t) → (((u : Value) → run.lookup x z ≡ Some u → type_of u ≡ t) → DiffersAt ys w (run.assign x v z)) →
        DiffersAt ys (a ∷ w) (cond q ((x, v) ∷ z) (b ∷ run.assign x v z))
    go true m k next =
        let is : x ≡ b.0 = name_is x b.0 m in
        (d.0 ∙ sym is, d.1 ∙ k b.1 refl ∙ sym e, inl (subst (λ y. is_among y ys ≡ true) (is ∙ sym d.0) h), d.3)
    go false m k next = (d.0, d.1, d.2, next k)
differs_assigned ys x v t scope [] (b ∷ z) h e k d = absurd d
differs_assigned ys x v t scope (a ∷ w) [] h e k d = absurd d

module _ (means : Meaning) (p : Program) (i : Interpretation) (references : HasReferences i) where
  -- the type of a variable that is stored
  stored_type : (n : ℕ) (x : Name) (scope : Scope) (xs : rules.Store) (ys : run.Store) → StoreStands means (fields_world p) n i scope xs ys → rules.is_stored x xs ≡ true → (t : ValueType) × (type_in x scope ≡ Some t)
  stored_type n x [] [] [] h e = cc
  stored_type n x (d ∷ ds) (a ∷ xs) (b ∷ ys) h e = go (same_name x a.0) refl e (λ e. stored_type n x ds xs ys h.1 e)
    where
      go : (q : Bool) → same_name x a.0 ≡ q → (q || rules.is_stored x xs) ≡ true → (rules.is_stored x xs ≡ true → (t : ValueType) × (type_in x ds ≡ Some t)) → (t : ValueType) × (type_in x (d ∷ ds) ≡ Some t)
      go true m e next = (d.of, ap (λ q. cond q (Some d.of) (type_in x ds)) (subst (λ y. same_name x y ≡ true) h.0.symbolic_name m))
      go false m e next = let r = next e in (r.0, ap (λ q. cond q (Some d.of) (type_in x ds)) (subst (λ y. same_name x y ≡ false) h.0.symbolic_name m) ∙ r.1)
  stored_type n x [] [] (b ∷ ys) h e = absurd h
  stored_type n x [] (a ∷ xs) ys h e = absurd h
  stored_type n x (d ∷ ds) [] ys h e = absurd h
  stored_type n x (d ∷ ds) (a ∷ xs) [] h e = absurd h

  -- a store that differs from another at most in these
  pub record Forgot (scope : Scope) (names : List Name) (before : run.Store) (s t : rules.State) (c : run.State) : Type 0 where
    pub store : run.Store
    pub differs : DiffersAt names before store
    pub later : s.next ≤ t.next
    pub at_is : t.at ≡ s.at
    pub matches : Matches means p i scope t (run.with_store store c)

  pub forgotten : (names done xs : List Name) (before : run.Store) {scope : Scope} (s : rules.State) (c : run.State) → ((x : Name) → is_among x xs ≡ true → is_among x names ≡ true) → DiffersAt names before c.store → Matches means p i scope s c →
      Forgot scope names before s (forget done xs s) c
  forgotten names done [] before s c within d m = record { store = c.store; differs = d; later = le_refl _; at_is = refl; matches = m }
  forgotten names done (x ∷ xs) before {scope = scope} s c within d m =
      go (rules.is_stored x s.store) refl (is_among x done) (forgotten names done xs before {scope = scope} s c inner d m) (λ s1 c1 d1 m1. forgotten names (x ∷ done) xs before {scope = scope} s1 c1 inner d1 m1)
    where
      inner : (y : Name) → is_among y xs ≡ true → is_among y names ≡ true
      inner y e = within y (or_true (same_name y x) e)
        where
          or_true : (b : Bool) → is_among y xs ≡ true → (b || is_among y xs) ≡ true
          or_true true e = refl
          or_true false e = e

      go : (a : Bool) → rules.is_stored x s.store ≡ a → (b : Bool) → Forgot scope names before s (forget done xs s) c →
          ((s1 : rules.State) (c1 : run.State) → DiffersAt names before c1.store → Matches means p i scope s1 c1 → Forgot scope names before s1 (forget (x ∷ done) xs s1) c1) →
          Forgot scope names before s (cond (a && not b) (forget (x ∷ done) xs (rules.with_store (rules.assign x (rules.fresh (sort_of (rules.found x s.store)) s) s.store) (rules.after_fresh s))) (forget done xs s)) c
      go false e b skip step = skip
      go true e true skip step = skip
      go true e false skip step =
          let r = step (rules.with_store (rules.assign x (rules.fresh (sort_of (rules.found x s.store)) s) s.store) (rules.after_fresh s)) (run.with_store (run.assign x v.content c.store) c)
          (differs_assigned names x v.content known.0 scope before c.store (within x first_among) v.typed typed_there d) matches in
          record { store = r.store; differs = r.differs; later = le_trans (next_later means p i references s.next) r.later; at_is = r.at_is; matches = r.matches }
        where
          first_among : is_among x (x ∷ xs) ≡ true
          first_among = ap (λ b. b || is_among x xs) (name_same x)

          known : (t : ValueType) × (type_in x scope ≡ Some t)
          known = stored_type s.next x scope s.store c.store m.stands.store e

          v : Symbol means p i references s.next known.0
          v = symbol means p i references s.next known.0

          typed_there : (u : Value) → run.lookup x c.store ≡ Some u → type_of u ≡ known.0
          typed_there u k = let f = found_stands means (fields_world p) x known.0 scope s.store c.store m.stands.store known.1 in ap type_of (some_is u f.content (sym k ∙ f.is)) ∙ f.typed
            where
              some_is : (a b : Value) → Some a ≡ Some b → a ≡ b
              some_is a b e = cc

          sort_is : sort_of (rules.found x s.store) ≡ sort_of_type known.0
          sort_is = sort_of_formed (found_stands means (fields_world p) x known.0 scope s.store c.store m.stands.store known.1).good.formed

          matches : Matches means p i scope (rules.with_store (rules.assign x (rules.fresh (sort_of (rules.found x s.store)) s) s.store) (rules.after_fresh s)) (run.with_store (run.assign x v.content c.store) c)
          matches =
              let later = matches_fresh means p i references m in
              matches_store means p i references scope _ _ later
              (store_assign means (fields_world p) x known.0 (variable s.next (sort_of (rules.found x s.store))) v.content scope s.store c.store later.stands.store known.1 v.typed
              (subst (λ a. Good means (rules.after_fresh s).next i (variable s.next a) (sort_of_type known.0)) (sym sort_is) (good_symbol means p i references s.next (sort_of_type known.0)))
              (subst (λ a. value i (variable s.next a) ≡ element v.content) (sym sort_is) v.is))

  -- the store that a loop leaves
  pub forgets : (xs : List Name) {scope : Scope} (s : rules.State) (c : run.State) → Matches means p i scope s c → Forgot scope xs c.store s (forget [] xs s) c
  forgets xs s c m = forgotten xs [] xs c.store s c (λ x e. e) (differs_not xs c.store) m
