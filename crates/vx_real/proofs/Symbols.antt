-- Fresh symbols that have the values which the interpretation gives them: variables that are declared, forgotten or named.
use Rattle.std.proofs.Common.{◌≡◌, ℕ, suc, ◌≤◌, Bool, true, false, cond, List, [], ◌∷◌, ◌++◌, refl, sym, ◌∙◌, ap, subst, append_assoc, le_refl, le_trans, le_of_lt, lt-suc_self}
use Rattle.vx_ast.specs.declared.ValueType.{ValueType}
use Rattle.vx_ast.specs.declared.ValueType.TheVariants.{Int, Perm}
use Rattle.vx_ast.specs.declared.ValueType.TheVariants as type
use Rattle.vx_ast.specs.Syntax.{Name, Declaration, Program}
use Rattle.vx_meaning.specs.Values.{Value, IntValue, BoolValue, RefValue, PermValue, type_of}
use Rattle.vx_meaning.specs.States as run
use Rattle.vx_meaning.specs.States.{HaveTypes, bind}
use Rattle.vx_terms.specs.Sorts.{Sort, BoolSort, Variable}
use Rattle.vx_terms.specs.Terms.{Term, sort_of}
use Rattle.vx_terms.specs.Build.{equals, variable}
use Rattle.vx_terms.specs.Interpretations.{Interpretation, as_int, as_bool, as_fraction, value, AllTrue}
use Rattle.vx_terms.specs.Formed.{constant}
use Rattle.vx_terms.proofs.Values.{sort_of_formed}
use Rattle.vx_rules.specs.States as rules
use Rattle.vx_rules.specs.States.{sort_of_type}
use Rattle.vx_rules.specs.Members.{names_of, after_names}
use Rattle.vx_types.specs.Typing.{Scope}
use Rattle.vx_elements.proofs.Settled.{Meaning, extends-refl}
use Rattle.vx_elements.proofs.Built.{Good, good_later, good_equals}
use Rattle.vx_elements.proofs.Elements.{element}
use Rattle.vx_elements.proofs.Truth.{equal_is}
use Rattle.vx_grows.proofs.Later.{Later, names_later}
use Rattle.vx_sound.proofs.Fields.{fields_world}
use Rattle.vx_sound.proofs.Stands.{EntryStands, StoreStands, TermsStand, terms_later, term_later, stands_with_store, stands_later, store_append, next_after_fact}
use Rattle.vx_real.proofs.SumReads.{fact_true, at_after_facts}
use Rattle.vx_real.proofs.Questions.{matches_fact}
use Rattle.vx_real.proofs.Matched.{HasReferences, Matches}

module _ (means : Meaning) (p : Program) (i : Interpretation) (references : HasReferences i) where
  -- the value of a symbol
  pub record Symbol (n : ℕ) (t : ValueType) : Type 0 where
    pub content : Value
    pub typed : type_of content ≡ t
    pub is : value i (variable n (sort_of_type t)) ≡ element content

  pub symbol : (n : ℕ) (t : ValueType) → Symbol n t
  symbol n Int = record { content = IntValue (as_int (i.functions (Variable n) (sort_of_type Int) [])); typed = refl; is = refl }
  symbol n type.Bool = record { content = BoolValue (as_bool (i.functions (Variable n) (sort_of_type type.Bool) [])); typed = refl; is = refl }
  symbol n type.Ref = let r = references n in record { content = RefValue r.0; typed = refl; is = r.1 }
  symbol n Perm = record { content = PermValue (as_fraction (i.functions (Variable n) (sort_of_type Perm) [])); typed = refl; is = refl }

  pub good_symbol : (n : ℕ) (a : Sort) → Good means (suc n) i (variable n a) a
  good_symbol n a = record { formed = constant (Variable n) a (lt-suc_self n); settled = lt-suc_self n }

  pub next_later : (n : ℕ) → n ≤ suc n
  next_later n = le_of_lt (lt-suc_self n)

  -- a further symbol, and another store
  pub matches_fresh : {scope : Scope} {s : rules.State} {c : run.State} → Matches means p i scope s c → Matches means p i scope (rules.after_fresh s) c
  matches_fresh {s = s} m = record { stands = stands_later means (fields_world p) (suc s.next) (next_later s.next) (extends-refl means s.next i) m.stands; exact = m.exact; old_exact = m.old_exact }

  pub matches_store : {scope : Scope} {s : rules.State} {c : run.State} (wider : Scope) (xs : rules.Store) (ys : run.Store) → Matches means p i scope s c → StoreStands means (fields_world p) s.next i wider xs ys →
      Matches means p i wider (rules.with_store xs s) (run.with_store ys c)
  matches_store wider xs ys m h = record { stands = stands_with_store means (fields_world p) wider xs ys m.stands h; exact = m.exact; old_exact = m.old_exact }

  -- a further variable
  pub declared : {scope : Scope} {s : rules.State} {c : run.State} (x : Name) (t : ValueType) → Matches means p i scope s c →
      Matches means p i (scope ++ record { name = x; of = t } ∷ []) (rules.declare_fresh x (sort_of_type t) s) (run.declare x (symbol s.next t).content c)
  declared {scope = scope} {s = s} {c = c} x t m =
      let v = symbol s.next t in
      let later = matches_fresh m in
      let entry : EntryStands means (fields_world p) (suc s.next) i (record { name = x; of = t }) (x, variable s.next (sort_of_type t)) (x, v.content) =
      record { symbolic_name = refl; name = refl; typed = v.typed; good = good_symbol s.next (sort_of_type t); value_is = v.is } in
      matches_store (scope ++ record { name = x; of = t } ∷ []) (s.store ++ (x, variable s.next (sort_of_type t)) ∷ []) (c.store ++ (x, v.content) ∷ []) later
      (store_append means (fields_world p) scope s.store c.store _ _ _ later.stands.store entry)

  -- several
  pub record DeclaredAll (scope : Scope) (ds : List Declaration) (s : rules.State) (c : run.State) : Type 0 where
    pub values : List Value
    pub typed : HaveTypes ds values
    pub later : s.next ≤ (rules.declare_all ds s).next
    pub at_is : (rules.declare_all ds s).at ≡ s.at
    pub matches : Matches means p i (scope ++ ds) (rules.declare_all ds s) (run.with_store (c.store ++ bind ds values) c)

  append_nil : {A : Type 0} (xs : List A) → xs ≡ xs ++ []
  append_nil [] = refl
  append_nil (x ∷ xs) = ap (λ ys. x ∷ ys) (append_nil xs)

  pub declared_all : (scope : Scope) (ds : List Declaration) (s : rules.State) (c : run.State) → Matches means p i scope s c → DeclaredAll scope ds s c
  declared_all scope [] s c m = record {
    values = [];
    typed = tt;
    later = le_refl _;
    at_is = refl;
    matches = subst (λ z. Matches means p i z s (run.with_store (c.store ++ []) c)) (append_nil scope) (subst (λ z. Matches means p i scope s (run.with_store z c)) (append_nil c.store) m);
  }
  declared_all scope (d ∷ ds) s c m =
      let v = symbol s.next d.of in
      let r = declared_all (scope ++ d ∷ []) ds (rules.declare_fresh d.name (sort_of_type d.of) s) (run.declare d.name v.content c) (declared d.name d.of m) in
      record {
        values = v.content ∷ r.values;
        typed = (v.typed, r.typed);
        later = le_trans (next_later s.next) r.later;
        at_is = r.at_is;
        matches = subst (λ z. Matches means p i z (rules.declare_all (d ∷ ds) s) (run.with_store (c.store ++ bind (d ∷ ds) (v.content ∷ r.values)) c)) (append_assoc scope (d ∷ []) ds)
            (subst (λ z. Matches means p i ((scope ++ d ∷ []) ++ ds) (rules.declare_all (d ∷ ds) s) (run.with_store z c)) (append_assoc c.store ((d.name, v.content) ∷ []) (bind ds r.values)) r.matches);
      }

  -- a value was named, where the path behind it is true
  pub record Named (scope : Scope) (s : rules.State) (c : run.State) (t : Term) (a : Sort) : Type 0 where
    pub later : s.next ≤ (rules.after_name t s).next
    pub at_is : (rules.after_name t s).at ≡ s.at
    pub matches : Matches means p i scope (rules.after_name t s) c
    pub good : Good means (rules.after_name t s).next i (rules.name_of t s) a
    pub value_is : value i (rules.name_of t s) ≡ value i t
    pub before : AllTrue i (rules.path_terms s.path)

  pub named : {scope : Scope} {s : rules.State} {c : run.State} (t : Term) (a : Sort) → Matches means p i scope s c → Good means s.next i t a → AllTrue i (rules.path_terms (rules.after_name t s).path) → Named scope s c t a
  named {scope = scope} {s = s} {c = c} t a m g h = go (rules.is_named t s) refl h
    where
      u : Term
      u = variable s.next (sort_of t)

      gu : Good means (suc s.next) i (variable s.next (sort_of t)) a
      gu = subst (λ b. Good means (suc s.next) i (variable s.next (sort_of t)) b) (sort_of_formed g.formed) (good_symbol s.next (sort_of t))

      fact : Term
      fact = equals (variable s.next (sort_of t)) t

      gf : Good means (suc s.next) i (equals (variable s.next (sort_of t)) t) BoolSort
      gf = good_equals means gu (good_later means (next_later s.next) (extends-refl means s.next i) g)

      Result : Bool → Type 0
      Result b =
          let s2 : rules.State = cond b s (rules.with_fact (equals (variable s.next (sort_of t)) t) (rules.after_fresh s)) in
          let v : Term = cond b t (variable s.next (sort_of t)) in
          (s.next ≤ s2.next) × (s2.at ≡ s.at) × Matches means p i scope s2 c × Good means s2.next i v a × (value i v ≡ value i t) × AllTrue i (rules.path_terms s.path)

      by : (b : Bool) → AllTrue i (rules.path_terms (let s2 : rules.State = cond b s (rules.with_fact (equals (variable s.next (sort_of t)) t) (rules.after_fresh s)) in s2.path)) → Result b
      by true h = (le_refl _, refl, m, g, refl, h)
      by false h =
          let q = fact_true i fact (rules.after_fresh s) h in
          let e = next_after_fact means (fields_world p) fact (rules.after_fresh s) in (
            subst (λ n. s.next ≤ n) (sym e) (next_later s.next),
            at_after_facts means (fields_world p) (fact ∷ []) (rules.after_fresh s),
            matches_fact means p i fact (matches_fresh m) gf q.0,
            subst (λ n. Good means n i u a) (sym e) gu,
            equal_is i u t q.0,
            q.1,
          )

      go : (b : Bool) → rules.is_named t s ≡ b → AllTrue i (rules.path_terms (rules.after_name t s).path) → Named scope s c t a
      go b e h = let r = by (rules.is_named t s) h in record { later = r.0; at_is = r.1; matches = r.2; good = r.3; value_is = r.4; before = r.5 }

  -- values were named in turn
  pub record NamedAll (scope : Scope) (s : rules.State) (c : run.State) (ds : List Declaration) (ts : List Term) (vs : List Value) : Type 0 where
    pub later : s.next ≤ (after_names ts s).next
    pub at_is : (after_names ts s).at ≡ s.at
    pub matches : Matches means p i scope (after_names ts s) c
    pub each : TermsStand means (fields_world p) (after_names ts s).next i ds (names_of ts s) vs
    pub before : AllTrue i (rules.path_terms s.path)

  front_true : (xs ys : List Term) → AllTrue i (xs ++ ys) → AllTrue i xs
  front_true [] ys h = tt
  front_true (x ∷ xs) ys h = (h.0, front_true xs ys h.1)

  -- a path that is true was so before
  pub before_true : {s t : rules.State} → Later s t → AllTrue i (rules.path_terms t.path) → AllTrue i (rules.path_terms s.path)
  before_true {s = s} l h = front_true (rules.path_terms s.path) l.begins.rest (subst (AllTrue i) l.begins.is h)

  pub named_all : {scope : Scope} {s : rules.State} {c : run.State} (ds : List Declaration) (ts : List Term) (vs : List Value) → TermsStand means (fields_world p) s.next i ds ts vs → Matches means p i scope s c →
      AllTrue i (rules.path_terms (after_names ts s).path) → NamedAll scope s c ds ts vs
  named_all [] [] [] e m h = record { later = le_refl _; at_is = refl; matches = m; each = tt; before = h }
  named_all {s = s} (d ∷ ds) (t ∷ ts) (v ∷ vs) e m h =
      let n = named t (sort_of_type d.of) m e.0.good (before_true (names_later ts (rules.after_name t s)) h) in
      let x = extends-refl means s.next i in
      let r = named_all {s = rules.after_name t s} ds ts vs (terms_later means (fields_world p) n.later x ds ts vs e.1) n.matches h in
      record {
        later = le_trans n.later r.later;
        at_is = r.at_is ∙ n.at_is;
        matches = r.matches;
        each = (term_later means (fields_world p) r.later (extends-refl means (rules.after_name t s).next i) d (rules.name_of t s) v record { typed = e.0.typed; good = n.good; value_is = n.value_is ∙ e.0.value_is }, r.each);
        before = n.before;
      }
  named_all [] [] (v ∷ vs) e m h = absurd e
  named_all [] (t ∷ ts) vs e m h = absurd e
  named_all (d ∷ ds) [] vs e m h = absurd e
  named_all (d ∷ ds) (t ∷ ts) [] e m h = absurd e
