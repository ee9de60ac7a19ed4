-- A derivation gains a clause by a step.
use Rattle.std.proofs.Common.{◌≡◌, inl, slice_get, ℕ, zero, suc, Bool, true, false, List, [], ◌∷◌, ◌++◌, length, Option, Some, None, refl, sym, ◌∙◌, ap, ap₂, subst}
use Rattle.std.specs.Prelude.{if◌then◌else◌, Ok, Err}
use Rattle.std.specs.declared.result.Result.{Result}
use Rattle.std.specs.Option.{option_map}
use Rattle.std.proofs.lemmas.List.{length-map}
use Rattle.std.proofs.lemmas.Option.{same_Some}
use Rattle.vx_terms.specs.Terms.{Term, Truth, Not, same}
use Rattle.cs_certificate.specs.Certificate.{Yes, No, Clause, NumberedLiteral, Stack, State, with_clause, At, AllAt, no-terms, one-term, Contains, Step, Input, Define, Propagate, ReadsAll, no-literals, Refutes, ends, forces, Defines, Derives, input, define, propagate}
use Rattle.cs_certificate.specs.Nodes.{Node}
use Rattle.cs_certificate.specs.Steps.{Names, Computes}
use Rattle.cs_certificate.proofs.Definitions.{define_computes}
use Rattle.cs_numbers.specs.Numbering.{place}
use Rattle.cs_numbers.proofs.Itself.{term_same}
use Rattle.cs_numbers.proofs.Tables.{tabulates}
use Rattle.cs_table.specs.Gives.{Fails}
use Rattle.cs_table.specs.declared.steps.Stop.{Stop}
use Rattle.cs_table.specs.declared.steps.Stop.TheVariants as stops
use Rattle.cs_proof.proofs.Literals.{one_clause}
use Rattle.cs_derivation.specs.Reached.{Reached, state_of, IsDerived, Adds, IsNew}
use Rattle.cs_derivation.proofs.Starting.{place_at}
use Rattle.cs_opposites.specs.Made.{IsMade, with_clauses, Has, Gains, HasEmpty}

-- ---- no step so far
pub has_none : (stack : Stack) (r : Reached) → IsNew stack r → Has stack [] r
has_none stack r n = record { stands = n.stands; state = n.state }

-- ---- one step more
module _ (stack : Stack) (cs : List Clause) (r : Reached) (h : Has stack cs r) where
  count : length r.clauses ≡ length cs
  count = sym (length-map r.clauses _) ∙ ap (λ (s : State). length s.clauses) h.state

  module _ (step : Step) (c : Clause) (by : Derives stack (state_of r) step c) (one : (d : Clause) → Derives stack (state_of r) step d → d ≡ c) where
    gained : (q : Reached) (n : ℕ) → IsDerived stack step r q n → Gains stack cs c q n
    gained q n d = record {
      last = d.last ∙ count;
      has = record {
        stands = d.stands;
        state = d.state ∙ ap (λ (s : State). with_clause s d.clause) h.state ∙ ap (λ e. with_clauses stack (cs ++ e ∷ [])) (one d.clause d.derives);
      };
    }

    module _ (E : Type 0) (q : Reached) (o : Option ℕ) (a : Adds {E = E} stack step r q (Ok o)) where
      took : (n : ℕ) → o ≡ Some n → Gains stack cs c q n
      took n e = gained q n (subst (λ x. Adds {E = E} stack step r q (Ok x)) e a)

      never : o ≡ None → ⊥
      never e = (subst (λ x. Adds {E = E} stack step r q (Ok x)) e a).1 c by

  -- ---- the clause of an assertion
  module _ (n : ℕ) (t : Term) (at : At stack.assertions n t) (E : Type 0) (q : Reached) (o : Option ℕ) (a : Adds {E = E} stack (Input n) r q (Ok o)) where
    one_input : (d : Clause) → Derives stack (state_of r) (Input n) d → d ≡ Yes t ∷ []
    one_input d (input {t = u} e) = ap (λ x. Yes x ∷ []) (same_Some _ _ (sym e ∙ at))

    pub took_input : (m : ℕ) → o ≡ Some m → Gains stack cs (Yes t ∷ []) q m
    took_input m e = took (Input n) (Yes t ∷ []) (input at) one_input E q o a m e

    pub never_input : o ≡ None → ⊥
    never_input e = never (Input n) (Yes t ∷ []) (input at) one_input E q o a e

  -- ---- the clause of a row
  one_computed : (nodes : List Node) (s : State) (step : Step) (o : Option (List NumberedLiteral)) (c d : Clause) → Computes nodes s stack step o → Derives stack s step c → Derives stack s step d → c ≡ d
  one_computed nodes s step o c d k p q =
      let x = k.complete c p in
      let y = k.complete d q in
      one_clause s.terms x.1 (subst (λ ns. Names s.terms ns d) (same_Some _ _ (sym y.2 ∙ x.2)) y.1)

  module _ (n : ℕ) (t : Term) (here : place r.terms t ≡ Some n) (c : Clause) (row : Defines t 0 c) (E : Type 0) (q : Reached) (o : Option ℕ) (a : Adds {E = E} stack (Define n 0) r q (Ok o)) where
    by_row : Derives stack (state_of r) (Define n 0) c
    by_row = define (place_at r.terms t n here) row

    one_row : (d : Clause) → Derives stack (state_of r) (Define n 0) d → d ≡ c
    one_row d e =
        let table = tabulates r.terms (h.stands).table in
        one_computed table.0 (state_of r) (Define n 0) _ d c (define_computes table.0 (state_of r) table.2 stack n 0) e by_row

    pub took_row : (m : ℕ) → o ≡ Some m → Gains stack cs c q m
    took_row m e = took (Define n 0) c by_row one_row E q o a m e

    pub never_row : o ≡ None → ⊥
    never_row e = never (Define n 0) c by_row one_row E q o a e

  -- ---- the empty clause
  module _ (ns : List NumberedLiteral) (nothing : ns ≡ []) (hs : List ℕ) (by : Refutes (with_clauses stack cs) [] hs) (E : Type 0) (q : Reached) (o : Option ℕ) (a : Adds {E = E} stack (Propagate ns hs) r q (Ok o)) where
    by_hints : Derives stack (state_of r) (Propagate [] hs) []
    by_hints = propagate no-literals (subst (λ s. Refutes s [] hs) (sym h.state) by)

    none_read : {c : Clause} → ReadsAll (state_of r) [] c → c ≡ []
    none_read no-literals = refl

    one_empty : (d : Clause) → Derives stack (state_of r) (Propagate [] hs) d → d ≡ []
    one_empty d (propagate reads refutes) = none_read reads

    told : Adds {E = E} stack (Propagate [] hs) r q (Ok o)
    told = subst (λ ls. Adds {E = E} stack (Propagate ls hs) r q (Ok o)) nothing a

    pub took_empty : (m : ℕ) → o ≡ Some m → Gains stack cs [] q m
    took_empty m e = took (Propagate [] hs) [] by_hints one_empty E q o told m e

    pub never_empty : o ≡ None → ⊥
    never_empty e = never (Propagate [] hs) [] by_hints one_empty E q o told e

-- ---- the numbers of assertions
all_at : {terms ts : List Term} {ns : List ℕ} (n : ℕ) (t : Term) → AllAt terms ns ts → At ts n t → Contains terms t
all_at {terms = terms} zero t (one-term {n = k} at more) e = (k, subst (At terms k) (same_Some _ _ e) at)
all_at (suc n) t (one-term at more) e = all_at n t more e
all_at n t no-terms e = cc

placed_in : (terms : List Term) (t : Term) → Contains terms t → (n : ℕ) × (place terms t ≡ Some n)
placed_in [] t (n, e) = cc
placed_in (u ∷ us) t h = go (same t u) refl h (placed_in us t)
  where
    go : (b : Bool) → same t u ≡ b → Contains (u ∷ us) t → (Contains us t → (n : ℕ) × (place us t ≡ Some n)) → (n : ℕ) × (place (u ∷ us) t ≡ Some n)
    go true e c f = (0, ap (λ b. if b then Some 0 else option_map suc (place us t)) e)
    go false e (zero, at) f = absurd (let x : true ≡ false = sym (term_same t) ∙ ap (same t) (sym (same_Some _ _ at)) ∙ e in cc)
    go false e (suc n, at) f = let w = f (n, at) in (suc w.0, ap (λ b. if b then Some 0 else option_map suc (place us t)) e ∙ ap (option_map suc) w.1)

-- an assertion's term has one, so none is missed
missed : (e : Stop) (o : Option ℕ) (n : ℕ) → o ≡ Some n → Fails e o → e ≡ stops.Want
missed stops.Want o n is f = refl
missed stops.Miss o n is f = absurd (let x : None ≡ Some n = sym f ∙ is in cc)

pub never_missed : (stack : Stack) (cs : List Clause) (r : Reached) → Has stack cs r → (t : Term) → Contains stack.assertions t → (e : Stop) → Fails e (place r.terms t) → e ≡ stops.Want
never_missed stack cs r h t c e f =
    let w = placed_in r.terms t (all_at c.0 t (h.stands).at_roots c.1) in
    missed e (place r.terms t) w.0 w.1 f

-- ---- hints
-- `false` and its row leave nothing
pub false_refutes : (s : State) → s.clauses ≡ (Yes (Truth false) ∷ []) ∷ (No (Truth false) ∷ []) ∷ [] → Refutes s [] (0 ∷ 1 ∷ [])
false_refutes s e =
    forces {l = Yes (Truth false)} (ap (λ cs. slice_get cs 0) e) (λ w. none w.0 w.1) ((0, refl), (inl refl, tt))
    (ends (ap (λ cs. slice_get cs 1) e) ((0, refl), tt))
  where
    none : {A : Type 0} {x : A} (n : ℕ) → At [] n x → ⊥
    none n e = cc

-- nor do a term, its negation, and the first row of that
pub both_refute : (s : State) (t : Term) → s.clauses ≡ (Yes t ∷ []) ∷ (Yes (Not t) ∷ []) ∷ (No (Not t) ∷ No t ∷ []) ∷ [] → Refutes s [] (0 ∷ 1 ∷ 2 ∷ [])
both_refute s t e =
    forces {l = Yes t} (ap (λ cs. slice_get cs 0) e) (λ w. none w.0 w.1) ((0, refl), (inl refl, tt))
    (forces {l = Yes (Not t)} (ap (λ cs. slice_get cs 1) e) (λ w. other w.0 w.1) ((0, refl), (inl refl, tt))
    (ends (ap (λ cs. slice_get cs 2) e) ((1, refl), ((0, refl), tt))))
  where
    none : {A : Type 0} {x : A} (n : ℕ) → At [] n x → ⊥
    none n e = cc

    other : (n : ℕ) → At (Yes t ∷ []) n (No (Not t)) → ⊥
    other zero e = cc
    other (suc n) e = cc

-- ---- the empty clause is there
pub emptied : (stack : Stack) (cs : List Clause) (r : Reached) → Has stack (cs ++ [] ∷ []) r → HasEmpty stack r
emptied stack cs r h = record {
  stands = h.stands;
  empty = subst (λ (s : State). Contains s.clauses []) (sym h.state) (last cs);
}
  where
    last : (ds : List Clause) → Contains (ds ++ [] ∷ []) []
    last [] = (0, refl)
    last (d ∷ ds) = let w = last ds in (suc w.0, w.1)

-- ---- what is made
pub weaker : {X : Type 0} (P Q : X → Type 0) (r : Result X Stop) → ((x : X) → P x → Q x) → IsMade P r → IsMade Q r
weaker P Q (Ok x) f h = f x h
weaker P Q (Err e) f h = h

-- the hints of the two clauses of `false`
pub false_hints : (stack : Stack) (r q : Reached) (m n : ℕ) → Gains stack [] (Yes (Truth false) ∷ []) r m → Gains stack ((Yes (Truth false) ∷ []) ∷ []) (No (Truth false) ∷ []) q n →
    Refutes (with_clauses stack ((Yes (Truth false) ∷ []) ∷ (No (Truth false) ∷ []) ∷ [])) [] (m ∷ n ∷ [])
false_hints stack r q m n g h =
    let same : 0 ∷ 1 ∷ [] ≡ m ∷ n ∷ [] = ap₂ (λ a b. a ∷ b ∷ []) (sym g.last) (sym h.last) in
    subst (Refutes (with_clauses stack ((Yes (Truth false) ∷ []) ∷ (No (Truth false) ∷ []) ∷ [])) []) same (false_refutes _ refl)

-- those of the three of a term and its negation
pub both_hints : (stack : Stack) (t : Term) (r q p : Reached) (l m n : ℕ) → Gains stack [] (Yes t ∷ []) r l → Gains stack ((Yes t ∷ []) ∷ []) (Yes (Not t) ∷ []) q m →
    Gains stack ((Yes t ∷ []) ∷ (Yes (Not t) ∷ []) ∷ []) (No (Not t) ∷ No t ∷ []) p n →
    Refutes (with_clauses stack ((Yes t ∷ []) ∷ (Yes (Not t) ∷ []) ∷ (No (Not t) ∷ No t ∷ []) ∷ [])) [] (l ∷ m ∷ n ∷ [])
both_hints stack t r q p l m n f g h =
    let same : 0 ∷ 1 ∷ 2 ∷ [] ≡ l ∷ m ∷ n ∷ [] = ap₂ (λ a bs. a ∷ bs) (sym f.last) (ap₂ (λ a b. a ∷ b ∷ []) (sym g.last) (sym h.last)) in
    subst (Refutes (with_clauses stack ((Yes t ∷ []) ∷ (Yes (Not t) ∷ []) ∷ (No (Not t) ∷ No t ∷ []) ∷ [])) []) same (both_refute _ t refl)
