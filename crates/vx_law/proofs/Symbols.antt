-- An interpretation that knows one more application: the symbol of a function has its value there, and all that is settled is kept.
use Rattle.std.proofs.Common.{◌≡◌, ℕ, Bool, true, false, cond, ◌&&◌, nat_eq, List, [], ◌∷◌, refl, sym, ◌∙◌, ap, ap₂, subst, eq-eqb, eqb-true, le_refl}
use Rattle.std.proofs.lemmas.Bool.{and_parts}
use Rattle.vx_ast.specs.Syntax.{Declaration, Function}
use Rattle.vx_meaning.specs.Values.{Value, type_of}
use Rattle.vx_terms.specs.Sorts.{Sort, SnapSort, Symbol, Standard, Function as function, Variable, Named}
use Rattle.vx_terms.specs.Terms.{Term}
use Rattle.vx_terms.specs.Build.{application}
use Rattle.vx_terms.specs.Interpretations.{Element, TreeElement, Tree, IsOf, as_sort, same_element, Interpretation, value, values}
use Rattle.vx_terms.specs.Formed.{applies, FormedAll, no_terms, more_terms}
use Rattle.vx_terms.proofs.Values.{element_same}
use Rattle.vx_rules.specs.States.{sort_of_type}
use Rattle.vx_rules.specs.Rules.{terms}
use Rattle.vx_elements.proofs.Settled.{Meaning, IsSettled, SettlesAll, Extends, as_sort_same, value_kept, values_kept, settles_later, all_settle_later}
use Rattle.vx_elements.proofs.Built.{Good}
use Rattle.vx_elements.proofs.Elements.{element, element_is}
use Rattle.vx_elements.proofs.Truth.{element_equal}
use Rattle.vx_sound.proofs.World.{World}
use Rattle.vx_sound.proofs.Stands.{TermsStand}

-- the elements of values
abbrev pub elements : List Value → List Element
elements [] = []
elements (v ∷ vs) = element v ∷ elements vs

abbrev all_same : List Element → List Element → Bool
all_same [] [] = true
all_same (d ∷ ds) (e ∷ es) = same_element d e && all_same ds es
all_same _ _ = false

all_same_are : (ds es : List Element) → all_same ds es ≡ true → ds ≡ es
all_same_are [] [] h = refl
all_same_are (d ∷ ds) (e ∷ es) h =
    let k = and_parts (same_element d e) (all_same ds es) h in
    ap₂ (λ (x : Element) (xs : List Element). x ∷ xs) (element_equal d e k.0) (all_same_are ds es k.1)
all_same_are [] (e ∷ es) h = cc
all_same_are (d ∷ ds) [] h = cc

all_same_self : (es : List Element) → all_same es es ≡ true
all_same_self [] = refl
all_same_self (e ∷ es) = ap₂ (λ a b. a && b) (element_same e) (all_same_self es)

abbrev pub with_application : Interpretation → ℕ → List Element → Element → Interpretation
with_application i k es e = record i { functions = λ f a xs. entry f xs (i.functions f a xs) } where
  entry : Symbol → List Element → Element → Element
  entry (function m) xs old = cond (nat_eq m k && all_same xs es) e old
  entry (Variable m) xs old = old
  entry (Standard m) xs old = old
  entry (Named x) xs old = old

module _ (means : Meaning) (n : ℕ) (i : Interpretation) (k : ℕ) (es : List Element) (e : Element) where
  -- all that is settled is kept, if this is the one value of the function there
  pub application_extends : ((old : Element) → means k es old → old ≡ e) → Extends means n i (with_application i k es e)
  application_extends single = record { functions = kept; quotients = λ z. refl; remainders = λ z. refl }
    where
      at : (b : Bool) (m : ℕ) (xs : List Element) (old : Element) → (b ≡ true → (m ≡ k) × (xs ≡ es)) → means m xs old → cond b e old ≡ old
      at true m xs old is h = let r = is refl in sym (single old (subst (λ m. means m es old) r.0 (subst (λ xs. means m xs old) r.1 h)))
      at false m xs old is h = refl

      kept : (f : Symbol) (a : Sort) (xs : List Element) → IsSettled means n f xs (i.functions f a xs) → (with_application i k es e).functions f a xs ≡ i.functions f a xs
      kept (function m) a xs h = at (nat_eq m k && all_same xs es) m xs (i.functions (function m) a xs) (λ z. let r = and_parts (nat_eq m k) (all_same xs es) z in (eqb-true m k r.0, all_same_are xs es r.1)) h
      kept (Variable m) a xs h = refl
      kept (Standard m) a xs h = refl
      kept (Named x) a xs h = refl

  pub application_is : (a : Sort) → (with_application i k es e).functions (function k) a es ≡ e
  application_is a = ap (λ b. cond b e (i.functions (function k) a es)) (ap₂ (λ x y. x && y) (eq-eqb k k refl) (all_same_self es))

-- The application of a function at a snapshot and at terms that stand for its arguments

module _ (means : Meaning) (world : World) (n : ℕ) (i : Interpretation) where
  terms_formed : (ds : List Declaration) (ts : List Term) (vs : List Value) → TermsStand means world n i ds ts vs → FormedAll n (terms ts)
  terms_formed [] [] [] h = no_terms
  terms_formed (d ∷ ds) (t ∷ ts) (v ∷ vs) h = more_terms (sort_of_type d.of) h.0.good.formed (terms_formed ds ts vs h.1)
  terms_formed [] [] (v ∷ vs) h = absurd h
  terms_formed [] (t ∷ ts) vs h = absurd h
  terms_formed (d ∷ ds) [] vs h = absurd h
  terms_formed (d ∷ ds) (t ∷ ts) [] h = absurd h

  terms_settle : (ds : List Declaration) (ts : List Term) (vs : List Value) → TermsStand means world n i ds ts vs → SettlesAll means n i (terms ts)
  terms_settle [] [] [] h = tt
  terms_settle (d ∷ ds) (t ∷ ts) (v ∷ vs) h = (h.0.good.settled, terms_settle ds ts vs h.1)
  terms_settle [] [] (v ∷ vs) h = absurd h
  terms_settle [] (t ∷ ts) vs h = absurd h
  terms_settle (d ∷ ds) [] vs h = absurd h
  terms_settle (d ∷ ds) (t ∷ ts) [] h = absurd h

  terms_are : (ds : List Declaration) (ts : List Term) (vs : List Value) → TermsStand means world n i ds ts vs → values i (terms ts) ≡ elements vs
  terms_are [] [] [] h = refl
  terms_are (d ∷ ds) (t ∷ ts) (v ∷ vs) h = ap₂ (λ (x : Element) (xs : List Element). x ∷ xs) h.0.value_is (terms_are ds ts vs h.1)
  terms_are [] [] (v ∷ vs) h = absurd h
  terms_are [] (t ∷ ts) vs h = absurd h
  terms_are (d ∷ ds) [] vs h = absurd h
  terms_are (d ∷ ds) (t ∷ ts) [] h = absurd h

  -- it has the value of the function, in an interpretation that knows it
  pub record Known (g : Function) (k : ℕ) (snapshot : Term) (ts : List Term) (v : Value) : Type 0 where
    pub interp : Interpretation
    pub extends : Extends means n i interp
    pub good : Good means n interp (application k (sort_of_type g.of) snapshot (terms ts)) (sort_of_type g.of)
    pub is : value interp (application k (sort_of_type g.of) snapshot (terms ts)) ≡ element v

  pub known : (g : Function) (k : ℕ) (snapshot : Term) (tree : Tree) (ts : List Term) (vs : List Value) (v : Value) → Good means n i snapshot SnapSort → value i snapshot ≡ TreeElement tree → TermsStand means world n i g.parameters ts vs → type_of v ≡ g.of →
      means k (TreeElement tree ∷ elements vs) (element v) → ((old : Element) → means k (TreeElement tree ∷ elements vs) old → old ≡ element v) → Known g k snapshot ts v
  known g k snapshot tree ts vs v gs is each ty made single = record {
    interp = j;
    extends = x;
    good = record {
      formed = applies (function k) (sort_of_type g.of) tt (more_terms SnapSort gs.formed (terms_formed g.parameters ts vs each));
      settled = (
        (settles_later means snapshot (le_refl n) x gs.settled, all_settle_later means (terms ts) (le_refl n) x (terms_settle g.parameters ts vs each)),
        subst (λ xs. means k xs (j.functions (function k) (sort_of_type g.of) xs)) (sym at) (subst (λ z. means k (TreeElement tree ∷ elements vs) z) (sym (application_is means n i k (TreeElement tree ∷ elements vs) (element v) (sort_of_type g.of))) made),
      );
    };
    is = ap (λ xs. as_sort (sort_of_type g.of) (j.functions (function k) (sort_of_type g.of) xs)) at
        ∙ ap (as_sort (sort_of_type g.of)) (application_is means n i k (TreeElement tree ∷ elements vs) (element v) (sort_of_type g.of))
        ∙ as_sort_same (sort_of_type g.of) (element v) (subst (λ t. IsOf (sort_of_type t) (element v)) ty (element_is v));
  }
    where
      j : Interpretation
      j = with_application i k (TreeElement tree ∷ elements vs) (element v)

      x : Extends means n i (with_application i k (TreeElement tree ∷ elements vs) (element v))
      x = application_extends means n i k (TreeElement tree ∷ elements vs) (element v) single

      at : value (with_application i k (TreeElement tree ∷ elements vs) (element v)) snapshot ∷ values (with_application i k (TreeElement tree ∷ elements vs) (element v)) (terms ts) ≡ TreeElement tree ∷ elements vs
      at = ap₂ (λ (y : Element) (ys : List Element). y ∷ ys) (value_kept means snapshot gs.settled x ∙ is) (values_kept means (terms ts) (terms_settle g.parameters ts vs each) x ∙ terms_are g.parameters ts vs each)
