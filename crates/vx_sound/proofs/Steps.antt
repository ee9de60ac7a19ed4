-- What a statement needs of the rules for the parts of others: calls, and bodies that are taken and given.
use Rattle.std.proofs.Common.{◌≡◌, ℕ, ◌≤◌, Bool, true, List, Some, ◌∙◌, ap, le_trans}
use Rattle.std.specs.Prelude.{Ok}
use Rattle.vx_frac.specs.Fractions.{Fraction, is_positive}
use Rattle.vx_ast.specs.declared.Place.{Place}
use Rattle.vx_ast.specs.declared.ValueType.TheVariants.{Perm}
use Rattle.vx_ast.specs.Syntax.{Name, Program, Predicate, predicate_named, Expr, Exprs}
use Rattle.vx_meaning.specs.Values.{Value, PermValue}
use Rattle.vx_meaning.specs.States as run
use Rattle.vx_meaning.specs.Fits.{Checked, ◌>>=◌, or_fail, guard, Eventually, fit_by, fit_all, deeper}
use Rattle.vx_meaning.specs.Fits as fits
use Rattle.vx_meaning.specs.Outcomes.{Outcome}
use Rattle.vx_meaning.specs.Run as meaning
use Rattle.vx_terms.specs.Sorts.{RealSort}
use Rattle.vx_terms.specs.Terms.{Term}
use Rattle.vx_terms.specs.Build.{less, zero_amount}
use Rattle.vx_terms.specs.Interpretations.{Interpretation, as_fraction, value}
use Rattle.vx_rules.specs.States as rules
use Rattle.vx_rules.specs.Trees.{AmountCode}
use Rattle.vx_rules.specs.Rules.{Going, Outer, ask, eval, evals, unfolded}
use Rattle.vx_rules.specs.Members.{folded}
use Rattle.vx_types.specs.Typing.{Scope, HasType, HaveTypes}
use Rattle.vx_elements.proofs.Settled.{Meaning, Extends, extends-trans}
use Rattle.vx_elements.proofs.Built.{Good}
use Rattle.vx_elements.proofs.Eventually.{both_eventually}
use Rattle.vx_elements.proofs.Truth.{good_positive}
use Rattle.vx_amounts.proofs.Amounts.{Positive, Same}
use Rattle.vx_sound.proofs.World.{World}
use Rattle.vx_sound.proofs.Speaks.{Speaks, AllSpeak}
use Rattle.vx_sound.proofs.Passes.{Cleared}
use Rattle.vx_sound.proofs.Stands.{Stands}
use Rattle.vx_sound.proofs.Candidates.{InstanceTerms}
use Rattle.vx_sound.proofs.Goes.{asked}
use Rattle.vx_sound.proofs.Evaluate.{PartsGo, bind_ok, eval_goes, evals_goes, amount_known, amount_later}
use Rattle.vx_sound.proofs.Assertions.{Leaves}
use Rattle.vx_sound.proofs.Calls.{CallsGo}

-- what is shown of a fold and of an unfold, once the instance and its amount are evaluated
abbrev pub FoldsGo : Meaning → World → Outer → Type 0
FoldsGo means world o =
    (scope : Scope) (i : Interpretation) (s : rules.State) (c : run.State) (at : Place) (x : Name) (ts : List Term) (vs : List Value) (a : Term) (q : Fraction) (on : Going) →
    InstanceTerms means world s.next i x ts vs → Good means s.next i a RealSort → Same (as_fraction (value i a)) q → Positive q → Stands means world scope i s c →
    Cleared (folded world.program o at x ts a s on) → (outcome : Outcome) → meaning.fold world.program c at (record { predicate = x; arguments = vs }, q) outcome → Leaves means world scope i s.next on outcome

abbrev pub UnfoldGo : Meaning → World → Outer → Type 0
UnfoldGo means world o =
    (scope : Scope) (i : Interpretation) (s : rules.State) (c : run.State) (at : Place) (x : Name) (ts : List Term) (vs : List Value) (a : Term) (q : Fraction) (on : Going) →
    InstanceTerms means world s.next i x ts vs → Good means s.next i a RealSort → Same (as_fraction (value i a)) q → Positive q → Stands means world scope i s c →
    Cleared (unfolded world.program o at x ts a s on) → (outcome : Outcome) → meaning.unfold_it world.program c at (record { predicate = x; arguments = vs }, q) outcome → Leaves means world scope i s.next on outcome

pub record StepsGo (means : Meaning) (world : World) (o : Outer) : Type 0 where
  pub parts : PartsGo means world o
  pub calls : CallsGo means world o
  pub folds : FoldsGo means world o
  pub unfolds : UnfoldGo means world o

-- an instance and its amount fit
instance_fits : (p : Program) (n : ℕ) (c : run.State) (at : Place) (x : Name) (es : Exprs) (share : Expr) (v : Value) (q : Fraction) (vs : List Value) →
    fit_by p n c share ≡ Ok v → v ≡ PermValue q → is_positive q ≡ true → fit_all p (deeper p n) c es ≡ Ok vs → meaning.instance_at p n c at x es share ≡ Ok (record { predicate = x; arguments = vs }, q)
instance_fits p n c at x es share v q vs f is above g = bind_ok amounts v f ∙ ap amounts is ∙ ap (tested q) above ∙ bind_ok (paired q) vs g
  where
    paired : Fraction → List Value → Checked (run.Instance × Fraction)
    paired q vs = Ok (record { predicate = x; arguments = vs }, q)

    tested : Fraction → Bool → Checked (run.Instance × Fraction)
    tested q b = guard at b >>= λ _. fit_all p (deeper p n) c es >>= paired q

    amounts : Value → Checked (run.Instance × Fraction)
    amounts v = or_fail at (fits.amount_of v) >>= λ q. guard at (is_positive q) >>= λ _. fit_all p (deeper p n) c es >>= paired q

module _ (means : Meaning) (world : World) (o : Outer) (parts : PartsGo means world o) where
  abbrev p : Program
  p = world.program

  -- an instance and an amount above none
  pub record InstanceAt (scope : Scope) (i : Interpretation) (n : ℕ) (on : List Term → Term → Going) (c : run.State) (at : Place) (x : Name) (es : Exprs) (share : Expr) : Type 0 where
    pub interp : Interpretation
    pub state : rules.State
    pub terms : List Term
    pub results : List Value
    pub term : Term
    pub fraction : Fraction
    pub extends : Extends means n i interp
    pub later : n ≤ state.next
    pub stands : Stands means world scope interp state c
    pub keys : InstanceTerms means world state.next interp x terms results
    pub good : Good means state.next interp term RealSort
    pub is : Same (as_fraction (value interp term)) fraction
    pub positive : Positive fraction
    pub allowed : Eventually (λ n. meaning.instance_at p n c at x es share ≡ Ok (record { predicate = x; arguments = results }, fraction))
    pub cleared : Cleared (on terms term state)

  pub instance_at : {scope : Scope} {es : Exprs} {share : Expr} {i : Interpretation} {s : rules.State} {c : run.State} (at : Place) (x : Name) (d : Predicate) (on : List Term → Term → Going) →
      world.Held x → predicate_named p x ≡ Some d → HaveTypes p scope es d.parameters → AllSpeak world.Held world.Applied es → HasType p scope share Perm → Speaks world.Held world.Applied share → Stands means world scope i s c →
      Cleared (eval p o share s (λ a s1. ask (less zero_amount a) at AmountCode s1 (λ s2. evals p o es s2 (λ ts s3. on ts a s3)))) → InstanceAt scope i s.next on c at x es share
  instance_at {es = es} {share = share} {c = c} at x d on held named te ke ts ks st h =
      let args = λ (a : Term) (s2 : rules.State). evals p o es s2 (λ us s3. on us a s3) in
      let r = eval_goes means world o parts ts ks (λ a s1. ask (less zero_amount a) at AmountCode s1 (args a)) st h in
      let g = asked means world (less zero_amount r.term) at AmountCode (args r.term) r.stands (good_positive means r.good) r.cleared in
      let q = evals_goes means world o parts te ke (λ us s3. on us r.term s3) g.1.stands g.1.cleared in
      let m = amount_known means world o parts r g.0 g.1 in
      let last = amount_later means world o parts q.later q.extends m.1 in
      record {
        interp = q.interp;
        state = q.state;
        terms = q.terms;
        results = q.results;
        term = r.term;
        fraction = m.0;
        extends = extends-trans means (le_trans r.later g.1.later) (extends-trans means r.later r.extends g.1.extends) q.extends;
        later = le_trans (le_trans r.later g.1.later) q.later;
        stands = q.stands;
        keys = record { held = held; predicate = d; named = named; no_perm = world.proper x d held named; each = q.each };
        good = last.good;
        is = last.is;
        positive = m.1.positive;
        allowed = both_eventually r.fits q.fits (λ n f g. instance_fits p n c at x es share r.result m.0 q.results f m.1.result_is m.1.positive.holds g);
        cleared = q.cleared;
      }
