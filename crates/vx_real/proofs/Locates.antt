-- The parts of a permission that is exposed: they fail at the place, or they fit, and the amount is one.
use Rattle.std.proofs.Common.{◌≡◌, ◌⊎◌, inl, inr, ℕ, ◌≤◌, Bool, true, false, refl, sym, ◌∙◌, ap, ap₂, subst, le_refl, le_trans}
use Rattle.std.specs.Prelude.{Ok, Err}
use Rattle.vx_frac.specs.Fractions.{Fraction, none, at_most, product}
use Rattle.vx_ast.specs.declared.Place.{Place}
use Rattle.vx_ast.specs.declared.ValueType.TheVariants.{Perm}
use Rattle.vx_ast.specs.declared.ValueType.TheVariants as type
use Rattle.vx_ast.specs.Syntax.{Name, Program, Expr}
use Rattle.vx_meaning.specs.Values.{Value, RefValue, PermValue}
use Rattle.vx_meaning.specs.States as run
use Rattle.vx_meaning.specs.Fits.{Checked, ◌>>=◌, or_fail, guard, Eventually, fit_by, field_part, deeper}
use Rattle.vx_meaning.specs.Fits as fits
use Rattle.vx_terms.specs.Sorts.{RealSort, RefSort}
use Rattle.vx_terms.specs.Terms.{Term}
use Rattle.vx_terms.specs.Build.{less_equal, multiply, negate, zero_amount}
use Rattle.vx_terms.specs.Interpretations.{Interpretation, as_fraction, value, IsTrueIn}
use Rattle.vx_rules.specs.States as rules
use Rattle.vx_rules.specs.Trees.{Code, AmountCode}
use Rattle.vx_rules.specs.Rules.{Going, Outer, ask, placed, eval}
use Rattle.vx_types.specs.Typing.{Scope, HasType}
use Rattle.vx_types.specs.FieldLanguage.{InFields}
use Rattle.vx_elements.proofs.Settled.{Meaning, extends-refl}
use Rattle.vx_elements.proofs.Built.{Good, good_later}
use Rattle.vx_elements.proofs.Elements.{element}
use Rattle.vx_elements.proofs.Values.{ref_value_is, perm_value_is}
use Rattle.vx_elements.proofs.Truth.{true_le, le_true, good_zero, good_at_most, good_product, multiply_is}
use Rattle.vx_elements.proofs.Eventually.{eventually, both_eventually}
use Rattle.vx_amounts.proofs.Amounts.{Le, Same, same-trans, same-lowest', product_same, le-trans, unscaled}
use Rattle.vx_amounts.proofs.Products.{product_sign, positive_le}
use Rattle.vx_grows.proofs.GrowSteps.{Follows, ask_grows}
use Rattle.vx_grows.proofs.GrowParts.{OuterGrows}
use Rattle.vx_grows.proofs.GrowAssertions.{eval_grows}
use Rattle.vx_sound.proofs.World.{at_field}
use Rattle.vx_sound.proofs.Evaluate.{bind_ok}
use Rattle.vx_sound.proofs.Giving.{ScaleStands, scale_later}
use Rattle.vx_sound.proofs.Fields.{fields_world}
use Rattle.vx_real.specs.Exposed.{Exposed}
use Rattle.vx_real.proofs.SumReads.{not_true}
use Rattle.vx_real.proofs.Matched.{Matches, IsAt, Evaluates}
use Rattle.vx_real.proofs.Questions.{Behind, asked}
use Rattle.vx_real.proofs.ExpressionSteps.{bind_err, is_at}
use Rattle.vx_real.proofs.Expressions.{by_either, eval_real}

module _ (means : Meaning) (p : Program) (i : Interpretation) (at : Place) (code : Code) where
  -- a part of it isn't allowed
  abbrev pub Mislocated : rules.State → run.State → Place → Expr → Name → Expr → Type 0
  Mislocated s c place e f share = (x : Place) × IsAt means p i at code s x × Eventually (λ n. field_part p (deeper p n) c place e f share ≡ Err x)

  pub record Located (scope : Scope) (s : rules.State) (c : run.State) (place : Place) (e : Expr) (f : Name) (share : Expr) (q : Fraction) (on : Term → Term → Going) : Type 0 where
    pub state : rules.State
    pub receiver : Term
    pub amount : Term
    pub reference : ℕ
    pub fraction : Fraction
    pub later : s.next ≤ state.next
    pub at_is : state.at ≡ s.at
    pub matches : Matches means p i scope state c
    pub receiver_good : Good means state.next i receiver RefSort
    pub receiver_is : value i receiver ≡ element (RefValue reference)
    pub amount_good : Good means state.next i amount RealSort
    pub amount_is : Same (as_fraction (value i amount)) (product q fraction)
    pub sign : Le none (as_fraction (value i amount))
    pub part : Eventually (λ n. field_part p (deeper p n) c place e f share ≡ Ok (run.At (at_field reference f), fraction))
    pub exposed : Exposed i at code (on receiver amount state)

  -- the check of the parts, by what they are worth
  module _ (place : Place) (f : Name) where
    abbrev rest : Value → Value → Checked (run.Resource × Fraction)
    rest r v = or_fail place (fits.location_of f r) >>= λ l. or_fail place (fits.amount_of v) >>= λ q. guard place (at_most none q) >>= λ _. Ok (run.At l, q)

    part_by : (n : ℕ) (c : run.State) (e share : Expr) (r v : Value) (k : ℕ) (x : Fraction) (b : Bool) → fit_by p n c e ≡ Ok r → r ≡ RefValue k → fit_by p n c share ≡ Ok v → v ≡ PermValue x → at_most none x ≡ b →
        field_part p (deeper p n) c place e f share ≡ (guard place b >>= λ _. Ok (run.At (at_field k f), x))
    part_by n c e share r v k x b g gk h hx least =
        bind_ok (λ r. fit_by p n c share >>= λ v. rest r v) r g ∙ bind_ok (λ v. rest r v) v h ∙ ap₂ rest gk hx ∙ ap (λ b. guard place b >>= λ _. Ok (run.At (at_field k f), x)) least

  module _ (o : Outer) (below : OuterGrows o) where
    pub located_real : {scope : Scope} (place : Place) (e : Expr) (f : Name) (share : Expr) (scale : Term) (q : Fraction) (s : rules.State) (c : run.State) (on : Term → Term → Going) →
        HasType p scope e type.Ref → InFields e → HasType p scope share Perm → InFields share → ScaleStands means (fields_world p) s.next i scale q → Matches means p i scope s c → ((r a : Term) → Follows (on r a)) →
        Exposed i at code (eval p o e s (λ r s1. eval p o share s1 (λ a s2. ask (less_equal zero_amount (multiply scale a)) (placed s2 place) AmountCode s2 (on r (multiply scale a))))) →
        Mislocated s c place e f share ⊎ Located scope s c place e f share q on
    located_real {scope = scope} place e f share scale q s c on te ke ts ks sc m h x =
        by_either (eval_real means p i at code o below e scope type.Ref te ke s c first m (λ r s1. eval_grows p o below share s1 (after r) (follows r)) x)
        (λ z. inl (z.0, z.1, eventually z.2 (λ n g. bind_err (λ r. fit_by p n c share >>= λ v. rest place f r v) g)))
        (λ r. by_either (eval_real means p i at code o below share scope Perm ts ks r.state c (after r.term) r.matches (follows r.term) r.exposed)
        (λ z. inl (z.0, is_at means p i at code s r.state z.0 r.at_is z.1, both_eventually r.fits z.2 (λ n g k. bind_ok (λ r. fit_by p n c share >>= λ v. rest place f r v) r.result g ∙ bind_err (λ v. rest place f r.result v) k)))
        (λ a. amounts r a))
      where
        after : Term → Term → Going
        after r a s2 = ask (less_equal zero_amount (multiply scale a)) (placed s2 place) AmountCode s2 (on r (multiply scale a))

        follows : (r a : Term) → Follows (after r a)
        follows r a s2 = ask_grows s2 (less_equal zero_amount (multiply scale a)) (placed s2 place) AmountCode (on r (multiply scale a)) (h r (multiply scale a))

        first : Term → Going
        first r s1 = eval p o share s1 (after r)

        amounts : (r : Evaluates means p i at code scope s c first e type.Ref) → (a : Evaluates means p i at code scope r.state c (after r.term) share Perm) → Mislocated s c place e f share ⊎ Located scope s c place e f share q on
        amounts r a = by_either (asked means p i at code (less_equal zero_amount (multiply scale a.term)) (placed a.state place) AmountCode (on r.term (multiply scale a.term)) a.matches (good_at_most means (good_zero means) ga) (h r.term (multiply scale a.term)) a.exposed) refused located
          where
            k : (k : ℕ) × (r.result ≡ RefValue k)
            k = ref_value_is r.result r.typed

            v : (x : Fraction) × (a.result ≡ PermValue x)
            v = perm_value_is a.result a.typed

            sc2 : ScaleStands means (fields_world p) a.state.next i scale q
            sc2 = scale_later means (fields_world p) (le_trans r.later a.later) (extends-refl means s.next i) sc

            ga : Good means a.state.next i (multiply scale a.term) RealSort
            ga = good_product means sc2.good a.good

            is : Same (as_fraction (value i (multiply scale a.term))) (product q v.0)
            is = same-trans (multiply_is means sc2.good a.good) (product_same sc2.is (subst (λ y. Same (as_fraction y) v.0) (sym (a.value_is ∙ ap element v.1)) (same-lowest' v.0)))

            refused : ((placed a.state place ≡ at) × IsTrueIn i (negate (less_equal zero_amount (multiply scale a.term)))) → Mislocated s c place e f share ⊎ Located scope s c place e f share q on
            refused z =
                inl (
                  place,
                  is_at means p i at code s a.state place (a.at_is ∙ r.at_is) z.0,
                  both_eventually r.fits a.fits (λ n g u. part_by place f n c e share r.result a.result k.0 v.0 false g k.1 u v.1 (negative (at_most none v.0) refl)),
                )
              where
                negative : (b : Bool) → at_most none v.0 ≡ b → b ≡ false
                negative false y = refl
                negative true y =
                    let zero : Good means a.state.next i zero_amount RealSort = good_zero means in
                    let least : Le none v.0 = record { holds = y } in
                    absurd (not_true i (good_at_most means zero ga) z.1 (le_true means (multiply scale a.term) zero (le-trans (product_sign (positive_le sc2.positive) least) is.back)))

            located : IsTrueIn i (less_equal zero_amount (multiply scale a.term)) × Behind means p i at code scope a.state c (on r.term (multiply scale a.term)) → Mislocated s c place e f share ⊎ Located scope s c place e f share q on
            located (told, b) =
                let zero : Good means a.state.next i zero_amount RealSort = good_zero means in
                let sign : Le none (as_fraction (value i (multiply scale a.term))) = true_le means (multiply scale a.term) zero told in
                let least : Le none v.0 = unscaled q v.0 sc2.positive (le-trans sign is.there) in
                let le : a.state.next ≤ b.state.next = subst (λ n. a.state.next ≤ n) (sym b.next_is) (le_refl _) in
                inr record {
                  state = b.state;
                  receiver = r.term;
                  amount = multiply scale a.term;
                  reference = k.0;
                  fraction = v.0;
                  later = le_trans r.later (le_trans a.later le);
                  at_is = b.at_is ∙ a.at_is ∙ r.at_is;
                  matches = b.matches;
                  receiver_good = good_later means (le_trans a.later le) (extends-refl means r.state.next i) r.good;
                  receiver_is = r.value_is ∙ ap element k.1;
                  amount_good = good_later means le (extends-refl means a.state.next i) ga;
                  amount_is = is;
                  sign = sign;
                  part = both_eventually r.fits a.fits (λ n g u. part_by place f n c e share r.result a.result k.0 v.0 true g k.1 u v.1 least.holds);
                  exposed = b.exposed;
                }
