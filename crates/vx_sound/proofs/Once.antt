-- Names of variables that stand once.
use Rattle.std.proofs.Common.{subst, true≢false, ◌≡◌, ◌≢◌, ℕ, Bool, true, false, cond, [], ◌∷◌, ◌++◌, Some, None, refl, sym, ◌∙◌, ap}
use Rattle.vx_ast.specs.Syntax.{Name, same_name, Declaration}
use Rattle.vx_meaning.specs.Values.{RefValue}
use Rattle.vx_meaning.specs.States.{Store, lookup}
use Rattle.vx_rules.specs.States as rules
use Rattle.vx_terms.specs.Interpretations.{Interpretation}
use Rattle.vx_types.specs.Typing.{Scope, type_in, AreOnce}
use Rattle.vx_elements.proofs.Settled.{Meaning}
use Rattle.vx_sound.proofs.World.{World}
use Rattle.vx_sound.proofs.Stands.{StoreStands}
use Rattle.vx_elements.proofs.Lists.{name_is, name_same}

-- no variable has this reference
abbrev pub NotStored : ℕ → Store → Type 0
NotStored r [] = Unit {0}
NotStored r (e ∷ rest) = (e.1 ≢ RefValue r) × NotStored r rest

-- none of the names stands twice
abbrev pub NamesOnce : Store → Type 0
NamesOnce [] = Unit {0}
NamesOnce (e ∷ rest) = (lookup e.0 rest ≡ None) × NamesOnce rest

pub not_stored : (r : ℕ) (s : Store) → NamesOnce s → ((x : Name) → lookup x s ≢ Some (RefValue r)) → NotStored r s
not_stored r [] u h = tt
not_stored r (a ∷ rest) u h = ((λ e. h a.0 (ap (λ b. cond b (Some a.1) (lookup a.0 rest)) (name_same a.0) ∙ ap Some e)), not_stored r rest u.1 (λ x e. h x (go x (same_name x a.0) refl e)))
  where
    go : (x : Name) (b : Bool) → same_name x a.0 ≡ b → lookup x rest ≡ Some (RefValue r) → cond b (Some a.1) (lookup x rest) ≡ Some (RefValue r)
    go x true m e = absurd (none (sym u.0 ∙ ap (λ y. lookup y rest) (sym (name_is x a.0 m)) ∙ e))
      where
        none : None ≡ Some (RefValue r) → ⊥
        none e = cc
    go x false m e = e

not_found : (means : Meaning) (world : World) (n : ℕ) (i : Interpretation) (x : Name) (scope : Scope) (xs : rules.Store) (ys : Store) → StoreStands means world n i scope xs ys → type_in x scope ≡ None → lookup x ys ≡ None
not_found means world n i x [] [] [] h e = refl
not_found means world n i x (d ∷ ds) (a ∷ xs) (b ∷ ys) h e = subst (λ y. cond (same_name x y) (Some b.1) (lookup x ys) ≡ None) (sym h.0.name) (go (same_name x d.name) e (not_found means world n i x ds xs ys h.1))
  where
    go : (q : Bool) → cond q (Some d.of) (type_in x ds) ≡ None → (type_in x ds ≡ None → lookup x ys ≡ None) → cond q (Some b.1) (lookup x ys) ≡ None
    go true e next = cc
    go false e next = next e
not_found means world n i x [] [] (b ∷ ys) h e = absurd h
not_found means world n i x [] (a ∷ xs) ys h e = absurd h
not_found means world n i x (d ∷ ds) [] ys h e = absurd h
not_found means world n i x (d ∷ ds) (a ∷ xs) [] h e = absurd h

pub names_once : (means : Meaning) (world : World) (n : ℕ) (i : Interpretation) (scope : Scope) (xs : rules.Store) (ys : Store) → AreOnce scope → StoreStands means world n i scope xs ys → NamesOnce ys
names_once means world n i [] [] [] once h = tt
names_once means world n i (d ∷ ds) (a ∷ xs) (b ∷ ys) once h =
    (subst (λ y. lookup y ys ≡ None) (sym h.0.name) (not_found means world n i d.name ds xs ys h.1 once.0), names_once means world n i ds xs ys once.1 h.1)
names_once means world n i [] [] (b ∷ ys) once h = absurd h
names_once means world n i [] (a ∷ xs) ys once h = absurd h
names_once means world n i (d ∷ ds) [] ys once h = absurd h
names_once means world n i (d ∷ ds) (a ∷ xs) [] once h = absurd h

-- a further variable with a name of its own
pub once_more : (scope : Scope) (d : Declaration) → AreOnce scope → type_in d.name scope ≡ None → AreOnce (scope ++ d ∷ [])
once_more [] d once e = (refl, tt)
once_more (c ∷ cs) d once e = go (same_name d.name c.name) refl e (once_more cs d once.1)
  where
    still : (x : Name) (cs : Scope) → type_in x cs ≡ None → same_name x d.name ≡ false → type_in x (cs ++ d ∷ []) ≡ None
    still x [] e f = ap (λ b. cond b (Some d.of) None) f
    still x (b ∷ bs) e f = other (same_name x b.name) e (still x bs)
      where
        other : (q : Bool) → cond q (Some b.of) (type_in x bs) ≡ None → (type_in x bs ≡ None → same_name x d.name ≡ false → type_in x (bs ++ d ∷ []) ≡ None) → cond q (Some b.of) (type_in x (bs ++ d ∷ [])) ≡ None
        other true e next = cc
        other false e next = next e f

    apart : same_name d.name c.name ≡ false → (q : Bool) → same_name c.name d.name ≡ q → q ≡ false
    apart f true k = absurd (true≢false (sym (name_same d.name) ∙ ap (same_name d.name) (sym (name_is c.name d.name k)) ∙ f))
    apart f false k = refl

    go : (q : Bool) → same_name d.name c.name ≡ q → cond q (Some c.of) (type_in d.name cs) ≡ None → (type_in d.name cs ≡ None → AreOnce (cs ++ d ∷ [])) → AreOnce (c ∷ (cs ++ d ∷ []))
    go true f e next = cc
    go false f e next = (still c.name cs once.0 (apart f (same_name c.name d.name) refl), next e)
