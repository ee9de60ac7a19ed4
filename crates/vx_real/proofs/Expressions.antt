-- An expression whose evaluation is exposed doesn't fit at the place, or has the value of its term, and what follows is exposed.
use Rattle.std.proofs.Common.{◌≡◌, ◌⊎◌, inl, inr, cond, ◌&&◌, pos, List, [], ◌∷◌, Some, None, refl, sym, ◌∙◌, ap, subst, le_refl, le_trans, true≢false}
use Rattle.std.specs.Prelude.{Ok}
use Rattle.std.proofs.lemmas.Bool.{false_from_ne_true, and_parts}
use Rattle.vx_frac.specs.Fractions.{is_positive, over, lowest}
use Rattle.vx_frac.proofs.Lowest.{lowest-lowest}
use Rattle.vx_ast.specs.declared.Place.{Place}
use Rattle.vx_ast.specs.declared.ValueType.{ValueType}
use Rattle.vx_ast.specs.declared.ValueType.TheVariants as type
use Rattle.vx_ast.specs.Syntax.{Name, Declaration, Program, field_named, Expr, Exprs, Multiply, Connective, Operate, Divide, Connect, Choose, Read, Old}
use Rattle.vx_meaning.specs.Values.{Value, IntValue, BoolValue, RefValue, PermValue, type_of, operated, divided, needs_right}
use Rattle.vx_meaning.specs.States as run
use Rattle.vx_meaning.specs.Fits.{Checked, ◌>>=◌, or_fail, fit_by, fit_all, deeper}
use Rattle.vx_meaning.specs.Fits as fits
use Rattle.vx_terms.specs.Terms.{Term}
use Rattle.vx_terms.specs.Terms as term
use Rattle.vx_terms.specs.Build.{negate, ite, null}
use Rattle.vx_terms.specs.Interpretations.{Interpretation, as_bool, value}
use Rattle.vx_terms.specs.Formed.{number, truth, part as formed_part}
use Rattle.vx_rules.specs.States as rules
use Rattle.vx_rules.specs.States.{sort_of_type}
use Rattle.vx_rules.specs.Trees.{Code, Step, DivisorCode}
use Rattle.vx_rules.specs.Rules as rule
use Rattle.vx_rules.specs.Rules.{Giving, GivingAll, Outer, ask, fork, short, is_total, eval, evals, placed, read_field, field_sort}
use Rattle.vx_types.specs.Typing.{Scope, HasType, HaveTypes, nulls, part, variable, nots, operates, scales, divides, connects, chooses, reads, olds, applies, unfoldings}
use Rattle.vx_types.specs.Typing as typed
use Rattle.vx_types.specs.FieldLanguage.{InFields}
use Rattle.vx_types.specs.CallLanguage.{AreInFields}
use Rattle.vx_elements.proofs.Settled.{Meaning, extends-refl}
use Rattle.vx_elements.proofs.Built.{Good}
use Rattle.vx_elements.proofs.Elements.{element}
use Rattle.vx_elements.proofs.Values.{ref_value_is, value_typed, sort_of_field, field_type_is}
use Rattle.vx_elements.proofs.Truth.{good_null}
use Rattle.vx_elements.proofs.Eventually.{always, eventually, both_eventually}
use Rattle.vx_amounts.proofs.Amounts.{Positive}
use Rattle.vx_grows.proofs.GrowSteps.{FollowsWith, FollowsAll, ask_grows, short_grows, fork_grows, read_grows}
use Rattle.vx_grows.proofs.GrowParts.{OuterGrows}
use Rattle.vx_grows.proofs.GrowAssertions.{eval_grows, evals_grows}
use Rattle.vx_sound.proofs.World.{at_field}
use Rattle.vx_sound.proofs.Stands.{found_stands, term_later, heap_later, owned_old, owned_back}
use Rattle.vx_sound.proofs.Evaluate.{bind_ok}
use Rattle.vx_sound.proofs.Fields.{fields_world}
use Rattle.vx_real.specs.Exposed.{Exposed}
use Rattle.vx_real.proofs.Exactly.{Exact}
use Rattle.vx_real.proofs.SumReads.{exposed_case, ReadReal, read_real}
use Rattle.vx_real.proofs.Matched.{Matches, SomeMisfits, EvaluatesAll, EvalReal, EvalsReal}
use Rattle.vx_real.proofs.Grown.{keeps_giving}
use Rattle.vx_real.proofs.Questions.{asked, forked}
use Rattle.vx_real.proofs.ExpressionSteps.{left_part, bind_err, Misfit, Has, Shown, is_at, part_misfits, second_misfits, zero_test, good_test, nots_real, operates_real, scales_real, divides_real}
use Rattle.vx_real.proofs.ChoiceSteps.{connects_real, short_behind, short_real, chooses_real, picked_real}

pub by_either : {A B R : Type 0} → A ⊎ B → (A → R) → (B → R) → R
by_either (inl a) f g = f a
by_either (inr b) f g = g b

module _ (means : Meaning) (p : Program) (i : Interpretation) where
  -- at the old state
  pub matches_old : {scope : Scope} {s : rules.State} {c : run.State} → Matches means p i scope s c → Matches means p i scope (rules.with_heap s.old s) (run.at_old c)
  matches_old m =
      let st = m.stands in
      record {
        stands = record { store = st.store; path = st.path; heap = st.old; old = st.old; awake = st.awake; bounded = st.bounded; null = st.null; standard = st.standard; owned = owned_old means (fields_world p) _ _ _ _ _ None st.owned; marked = st.marked; holds = st.old_holds; old_holds = st.old_holds };
        exact = m.old_exact;
        old_exact = m.old_exact;
      }

  module _ (at : Place) (code : Code) where
    reads_real : {scope : Scope} {place : Place} {e : Expr} {t : ValueType} (s : rules.State) (c : run.State) (on first : Giving) (f : Name) → field_named p f ≡ Some t → (r : Has means p i at code scope s c first e type.Ref) →
        (k : (m : _) × (r.result ≡ RefValue m)) → ((placed r.state place ≡ at) × (Positive (run.amount c.holdings (run.At (at_field k.0 f))) → ⊥)) ⊎ ReadReal means (fields_world p) scope f k.0 i at code r.state c on → Shown means p i at code scope s c on (Read place e f) t
    reads_real {place = place} s c on first f named r k (inl m) =
        inl (
          (
            place,
            is_at means p i at code s r.state place r.at_is m.0,
            eventually r.fits (λ n h.
                bind_ok (λ r. or_fail place (fits.location_of f r) >>= λ l. or_fail place (fits.readable p c l)) r.result h
                ∙ ap (λ r. or_fail place (fits.location_of f r) >>= λ l. or_fail place (fits.readable p c l)) k.1
                ∙ ap (λ b. or_fail place (cond b (Some (run.value_at p c.heap (at_field k.0 f))) None)) (false_from_ne_true (is_positive (run.amount c.holdings (run.At (at_field k.0 f)))) (λ e. m.1 record { holds = e }))),
          ),
          refl,
        )
    reads_real {place = place} {t = t} s c on first f named r k (inr q) =
        let l = at_field k.0 f in
        let sort_is : field_sort p f ≡ sort_of_type t = sort_of_field p f ∙ ap sort_of_type (field_type_is p f named) in
        inr record {
          state = q.state;
          term = q.term;
          result = run.value_at p c.heap (at_field k.0 f);
          later = le_trans r.later q.later;
          at_is = q.at_is ∙ r.at_is;
          matches = record {
            stands = q.stands;
            exact = subst (λ (x : rules.Heap). Exact i x c.holdings) (sym q.heap_is) r.matches.exact;
            old_exact = subst (λ (x : rules.Heap). Exact i x c.old_holdings) (sym q.old_is) r.matches.old_exact;
          };
          good = subst (λ a. Good means q.state.next i q.term a) sort_is q.good;
          value_is = q.value_is;
          typed = value_typed p c.heap l ∙ field_type_is p f named;
          fits = eventually r.fits (λ n h.
              bind_ok (λ r. or_fail place (fits.location_of f r) >>= λ l. or_fail place (fits.readable p c l)) r.result h
              ∙ ap (λ r. or_fail place (fits.location_of f r) >>= λ l. or_fail place (fits.readable p c l)) k.1
              ∙ ap (λ b. or_fail place (cond b (Some (run.value_at p c.heap (at_field k.0 f))) None)) q.positive.holds);
          exposed = q.exposed;
        }

    olds_real : {scope : Scope} {place : Place} {e : Expr} {t : ValueType} (s : rules.State) (c : run.State) (on : Giving) → Matches means p i scope s c →
        Shown means p i at code scope (rules.with_heap s.old s) (run.at_old c) (λ t s1. Step (on t (rules.with_heap s.heap s1))) e t → Shown means p i at code scope s c on (Old place e) t
    olds_real s c on m (inl z) = inl z
    olds_real s c on m (inr r) =
        let st = m.stands in
        let q = r.matches.stands in
        inr record {
          state = rules.with_heap s.heap r.state;
          term = r.term;
          result = r.result;
          later = r.later;
          at_is = r.at_is;
          matches = record {
            stands = record {
              store = q.store;
              path = q.path;
              heap = heap_later means (fields_world p) r.later (extends-refl means s.next i) s.heap c.heap c.holdings st.heap;
              old = q.old;
              awake = q.awake;
              bounded = q.bounded;
              null = q.null;
              standard = q.standard;
              owned = owned_back means (fields_world p) _ _ _ _ _ _ _ _ None q.owned st.owned;
              marked = q.marked;
              holds = st.holds;
              old_holds = st.old_holds;
            };
            exact = m.exact;
            old_exact = r.matches.old_exact;
          };
          good = r.good;
          value_is = r.value_is;
          typed = r.typed;
          fits = r.fits;
          exposed = r.exposed;
        }

    -- what is there at once
    there : {scope : Scope} {e : Expr} {t : ValueType} (s : rules.State) (c : run.State) (on : Giving) → Matches means p i scope s c → (u : Term) (v : Value) → Good means s.next i u (sort_of_type t) → value i u ≡ element v → type_of v ≡ t →
        ((n : _) → fit_by p n c e ≡ Ok v) → Exposed i at code (on u s) → Shown means p i at code scope s c on e t
    there s c on m u v g is ty fit x = inr record { state = s; term = u; result = v; later = le_refl _; at_is = refl; matches = m; good = g; value_is = is; typed = ty; fits = always fit; exposed = x }

    module _ (o : Outer) (below : OuterGrows o) where
      eval_shown : {scope : Scope} {e : Expr} {t : ValueType} → HasType p scope e t → InFields e → {s : rules.State} {c : run.State} (on : Giving) → Matches means p i scope s c → FollowsWith on → Exposed i at code (eval p o e s on) →
          Shown means p i at code scope s c on e t
      eval_shown (typed.number place n) k {s = s} {c = c} on m h x = there s c on m (term.Number (pos n)) (IntValue (pos n)) record { formed = number (pos n); settled = tt } refl refl (λ d. refl) x
      eval_shown (typed.truth {b = b}) k {s = s} {c = c} on m h x = there s c on m (term.Truth b) (BoolValue b) record { formed = truth b; settled = tt } refl refl (λ d. refl) x
      eval_shown (nulls place) k {s = s} {c = c} on m h x = there s c on m null (RefValue 0) (good_null means) m.stands.null refl (λ d. refl) x
      eval_shown (part place n d l) k {s = s} {c = c} on m h x =
          there s c on m (term.Part (lowest (over n d))) (PermValue (over n d)) record { formed = formed_part (lowest (over n d)) (lowest-lowest (over n d)); settled = tt } refl refl (λ d. refl) x
      eval_shown {scope = scope} {t = t} (variable place y e) k {s = s} {c = c} on m h x =
          let f = found_stands means (fields_world p) y t scope s.store c.store m.stands.store e in
          there s c on m (rules.found y s.store) f.content f.good f.value_is f.typed (λ d. ap (or_fail place) f.is) x
      eval_shown (nots {at = place} {e = a} ta) k {s = s} {c = c} on m h x = nots_real means p i at code s c on (eval_shown ta k (λ t s1. Step (on (negate t) s1)) m (λ t s1. h (negate t) s1) x)
      eval_shown (operates {at = place} {op = op} {a = a} {b = b} w ta tb) k {s = s} {c = c} on m h x =
          let second = λ (t u : Term) (s2 : rules.State). Step (on (rule.operated op t u) s2) in
          let first = λ (t : Term) (s1 : rules.State). Step (eval p o b s1 (second t)) in
          by_either (eval_shown ta k.0 first m (λ t s1. eval_grows p o below b s1 (second t) (λ u s2. h (rule.operated op t u) s2)) x)
          (λ z. inl (part_misfits means p i at code s c a (Operate place op a b) z (left_part (is_total b)) (λ n y f. bind_err (λ v. fit_by p n c b >>= λ w. or_fail place (operated op v w)) f)))
          (λ r. operates_real means p i at code s c on first w r (eval_shown tb k.1 (second r.term) r.matches (λ u s2. h (rule.operated op r.term u) s2) r.exposed))
      eval_shown (scales inner n tb) k {s = s} {c = c} on m h x =
          let first = λ (u : Term) (s2 : rules.State). Step (on (rule.operated Multiply (term.Number (pos n)) u) s2) in
          scales_real means p i at code inner n s c on (eval_shown tb k.1 first m (λ u s2. h (rule.operated Multiply (term.Number (pos n)) u) s2) x)
      eval_shown (divides {at = place} {op = op} {a = a} {b = b} ta tb) k {s = s} {c = c} on m h x =
          let second = λ (t u : Term) (s2 : rules.State). ask (zero_test means p i at code u) (placed s2 place) DivisorCode s2 (on (rule.divided op t u)) in
          let first = λ (t : Term) (s1 : rules.State). Step (eval p o b s1 (second t)) in
          let follows = λ (t u : Term) (s2 : rules.State). ask_grows s2 (zero_test means p i at code u) (placed s2 place) DivisorCode (on (rule.divided op t u)) (h (rule.divided op t u)) in
          by_either (eval_shown ta k.0 first m (λ t s1. eval_grows p o below b s1 (second t) (follows t)) x)
          (λ z. inl (part_misfits means p i at code s c a (Divide place op a b) z (λ e. refl) (λ n y f. bind_err (λ v. fit_by p n c b >>= λ w. or_fail place (divided op v w)) f)))
          (λ r. by_either (eval_shown tb k.1 (second r.term) r.matches (follows r.term) r.exposed)
          (λ z. inl (second_misfits means p i at code s r.state c a b (Divide place op a b) r.result r.at_is r.fits z (λ e. refl) (λ n y e f. bind_ok (λ v. fit_by p n c b >>= λ w. or_fail place (divided op v w)) r.result e ∙ bind_err (λ w. or_fail place (divided op r.result w)) f)))
          (λ q. divides_real means p i at code s c on first (second r.term) r q (asked means p i at code (zero_test means p i at code q.term) (placed q.state place) DivisorCode (on (rule.divided op r.term q.term)) q.matches (good_test means p i at code q.good) (h (rule.divided op r.term q.term)) q.exposed)))
      eval_shown (connects {at = place} {c = d} {a = a} {b = b} ta tb) k {s = s} {c = c} on m h x = exposed_case i at code (is_total b) _ _ x
          (λ e y.
          let second = λ (t u : Term) (s2 : rules.State). Step (on (rule.connected d t u) s2) in
          let first = λ (t : Term) (s1 : rules.State). Step (eval p o b s1 (second t)) in
          by_either (eval_shown ta k.0 first m (λ t s1. eval_grows p o below b s1 (second t) (λ u s2. h (rule.connected d t u) s2)) y)
          (λ z. inl (left_misfits place d a b z))
          (λ r. by_either (eval_shown tb k.1 (second r.term) r.matches (λ u s2. h (rule.connected d r.term u) s2) r.exposed)
          (λ z. absurd (true≢false (sym e ∙ z.1)))
          (λ q. inr (connects_real means p i at code s c on first r q))))
          (λ e y.
          let more = λ (s2 : rules.State). eval p o b s2 on in
          let follows = λ (s2 : rules.State). eval_grows p o below b s2 on h in
          let first = λ (t : Term) (s1 : rules.State). short d t s1 more on in
          by_either (eval_shown ta k.0 first m (λ t s1. short_grows s1 d t more on follows h) y)
          (λ z. inl (left_misfits place d a b z))
          (λ r. short_real means p i at code s c more on first r (needs_right d (as_bool (element r.result))) refl
          (short_behind means p i at code d r.term more on r.matches r.good follows h r.exposed (as_bool (element r.result)) (ap as_bool r.value_is))
          (λ s1 m1 w. eval_shown tb k.1 on m1 h w)))
        where
          left_misfits : (place : Place) (d : Connective) (a b : Expr) → Misfit means p i at code s c a → Misfit means p i at code s c (Connect place d a b)
          left_misfits place d a b z = part_misfits means p i at code s c a (Connect place d a b) z (left_part (is_total b)) (λ n y f. bind_err (λ v. fits.connected place d v (fit_by p n c b)) f)
      eval_shown (chooses {at = place} {c = d} {a = a} {b = b} td ta tb) k {s = s} {c = c} on m h x = exposed_case i at code (is_total a && is_total b) _ _ x
          (λ e y.
          let totals = and_parts (is_total a) (is_total b) e in
          let third = λ (t u v : Term) (s3 : rules.State). Step (on (ite t u v) s3) in
          let second = λ (t u : Term) (s2 : rules.State). Step (eval p o b s2 (third t u)) in
          let first = λ (t : Term) (s1 : rules.State). Step (eval p o a s1 (second t)) in
          let follows = λ (t u v : Term) (s3 : rules.State). h (ite t u v) s3 in
          by_either (eval_shown td k.0 first m (λ t s1. eval_grows p o below a s1 (second t) (λ u s2. eval_grows p o below b s2 (third t u) (follows t u))) y)
          (λ z. inl (test_misfits place d a b z))
          (λ r. by_either (eval_shown ta k.1 (second r.term) r.matches (λ u s2. eval_grows p o below b s2 (third r.term u) (follows r.term u)) r.exposed)
          (λ z. absurd (true≢false (sym totals.0 ∙ z.1)))
          (λ q. by_either (eval_shown tb k.2 (third r.term q.term) q.matches (follows r.term q.term) q.exposed)
          (λ z. absurd (true≢false (sym totals.1 ∙ z.1)))
          (λ w. inr (chooses_real means p i at code s c on first (second r.term) r q w)))))
          (λ e y.
          let left = λ (s2 : rules.State). eval p o a s2 on in
          let right = λ (s2 : rules.State). eval p o b s2 on in
          let hl = λ (s2 : rules.State). eval_grows p o below a s2 on h in
          let hr = λ (s2 : rules.State). eval_grows p o below b s2 on h in
          let first = λ (t : Term) (s1 : rules.State). fork t s1 left right in
          by_either (eval_shown td k.0 first m (λ t s1. fork_grows s1 t left right hl hr) y)
          (λ z. inl (test_misfits place d a b z))
          (λ r. picked_real means p i at code s c left right on first r (as_bool (element r.result)) refl
          (forked means p i at code r.term left right r.matches r.good hl hr r.exposed (as_bool (element r.result)) (ap as_bool r.value_is))
          (λ s1 m1 w. eval_shown ta k.1 on m1 h w) (λ s1 m1 w. eval_shown tb k.2 on m1 h w)))
        where
          test_misfits : (place : Place) (d a b : Expr) → Misfit means p i at code s c d → Misfit means p i at code s c (Choose place d a b)
          test_misfits place d a b z = part_misfits means p i at code s c d (Choose place d a b) z (λ e. left_part (is_total b) (left_part (is_total a) e)) (λ n y f. bind_err (λ v. fits.choose place v (fit_by p n c a) (fit_by p n c b)) f)
      eval_shown (reads {at = place} {e = e} f named te) k {s = s} {c = c} on m h x =
          let first = λ (r : Term) (s1 : rules.State). read_field f r (field_sort p f) (placed s1 place) s1 on in
          by_either (eval_shown te k first m (λ r s1. read_grows s1 f r (field_sort p f) (placed s1 place) on h) x)
          (λ z. inl (part_misfits means p i at code s c e (Read place e f) z (λ _. refl) (λ n y u. bind_err (λ r. or_fail place (fits.location_of f r) >>= λ l. or_fail place (fits.readable p c l)) u)))
          (λ r.
          let n = ref_value_is r.result r.typed in
          reads_real s c on first f named r n (read_real means (fields_world p) f r.term n.0 at code (placed r.state place) on r.matches.stands r.matches.exact r.good (r.value_is ∙ ap element n.1) (keeps_giving i at code on h) r.exposed))
      eval_shown (olds {at = place} {e = e} te) k {s = s} {c = c} on m h x =
          let first = λ (t : Term) (s1 : rules.State). Step (on t (rules.with_heap s.heap s1)) in
          olds_real s c on m (eval_shown te k first (matches_old m) (λ t s1. h t (rules.with_heap s.heap s1)) x)
      eval_shown (applies f g named tes) k on m h x = absurd k
      eval_shown (unfoldings y d named tes tq te) k on m h x = absurd k

      -- as it is stated
      pub eval_real : (e : Expr) → EvalReal means p i at code o e
      eval_real e scope t ty k s c on m h x = by_either (eval_shown ty k on m h x) (λ z. inl z.0) (λ r. inr r)

      -- arguments, in order
      evals_shown : {scope : Scope} {es : Exprs} {ds : List Declaration} → HaveTypes p scope es ds → AreInFields es → {s : rules.State} {c : run.State} (on : GivingAll) → Matches means p i scope s c → FollowsAll on → Exposed i at code (evals p o es s on) →
          SomeMisfits means p i at code s c es ⊎ EvaluatesAll means p i at code scope s c on es ds
      evals_shown typed.no_more k {s = s} on m h x = inr record { state = s; terms = []; results = []; later = le_refl _; at_is = refl; matches = m; each = tt; fits = always (λ n. refl); exposed = x }
      evals_shown (typed.more {e = e} {es = es} {d = d} ty tys) k {s = s} {c = c} on m h x =
          let second = λ (t : Term) (ts : List Term) (s2 : rules.State). Step (on (t ∷ ts) s2) in
          let first = λ (t : Term) (s1 : rules.State). evals p o es s1 (second t) in
          by_either (eval_shown ty k.0 first m (λ t s1. evals_grows p o below es s1 (second t) (λ ts s2. h (t ∷ ts) s2)) x)
          (λ z. inl (z.0.0, z.0.1, eventually z.0.2 (λ n f. bind_err (λ v. fit_all p (deeper p n) c es >>= λ vs. Ok (v ∷ vs)) f)))
          (λ r. by_either (evals_shown tys k.1 (second r.term) r.matches (λ ts s2. h (r.term ∷ ts) s2) r.exposed)
          (λ z. inl (z.0, is_at means p i at code s r.state z.0 r.at_is z.1, both_eventually r.fits z.2 (λ n e f. bind_ok (λ v. fit_all p (deeper p n) c es >>= λ vs. Ok (v ∷ vs)) r.result e ∙ bind_err (λ vs. Ok (r.result ∷ vs)) f)))
          (λ q. inr record {
            state = q.state;
            terms = r.term ∷ q.terms;
            results = r.result ∷ q.results;
            later = le_trans r.later q.later;
            at_is = q.at_is ∙ r.at_is;
            matches = q.matches;
            each = (term_later means (fields_world p) q.later (extends-refl means r.state.next i) d r.term r.result record { typed = r.typed; good = r.good; value_is = r.value_is }, q.each);
            fits = both_eventually r.fits q.fits (λ n e f. bind_ok (λ v. fit_all p (deeper p n) c es >>= λ vs. Ok (v ∷ vs)) r.result e ∙ bind_ok (λ vs. Ok (r.result ∷ vs)) q.results f);
            exposed = q.exposed;
          }))

      pub evals_real : (es : Exprs) → EvalsReal means p i at code o es
      evals_real es scope ds ty k s c on m h x = evals_shown ty k on m h x
