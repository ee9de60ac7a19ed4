-- Where the main walk applies a function, what it is told of the function is true too.
use Rattle.std.proofs.Common.{◌≡◌, ℕ, zero, suc, true, false, List, Some, refl, sym, ◌∙◌, subst, arith, true≢false}
use Rattle.std.specs.Prelude.{nat_lt}
use Rattle.std.proofs.lemmas.Bool.{lt-ltb}
use Rattle.vx_ast.specs.Syntax.{Name, Program, Function, function_named}
use Rattle.vx_meaning.specs.Values.{Value, type_of}
use Rattle.vx_meaning.specs.States as run
use Rattle.vx_terms.specs.Terms.{Term}
use Rattle.vx_terms.specs.Build.{application}
use Rattle.vx_terms.specs.Interpretations.{Interpretation, Tree, value}
use Rattle.vx_rules.specs.States.{State, sort_of_type}
use Rattle.vx_rules.specs.Groups.{function_number}
use Rattle.vx_rules.specs.Rules.{outer, terms, with_equations}
use Rattle.vx_types.specs.Typing.{Scope}
use Rattle.vx_types.specs.Premises.{IsTypedProgram}
use Rattle.vx_types.specs.Closure.{InClosure}
use Rattle.vx_elements.proofs.Settled.{Extends}
use Rattle.vx_elements.proofs.Built.{Good}
use Rattle.vx_elements.proofs.Elements.{element}
use Rattle.vx_sound.proofs.World.{World}
use Rattle.vx_sound.proofs.Stands.{Stands, TermsStand}
use Rattle.vx_sound_preds.proofs.Holding.{quiet_world}
use Rattle.vx_sound_preds.proofs.Speaking.{good, no_perm}
use Rattle.vx_sound_funcs.specs.Told.{precondition_of}
use Rattle.vx_sound_funcs.specs.Firm.{firm_application, firmly, GoodFunctions}
use Rattle.vx_sound_funcs.specs.Laws.{ApplicationsAgree}
use Rattle.vx_live.specs.Quiet.{Still}
use Rattle.vx_live.proofs.Quiet.{outer_left, equations_still}
use Rattle.vx_law.specs.Means.{Means}
use Rattle.vx_law.proofs.Woken.{woken}
use Rattle.vx_law.proofs.Applied.{Tells, application_told}
use Rattle.vx_law.proofs.Programs.{spoken, knows, closure_told}
use Rattle.vx_law.proofs.Worth.{Worth}

level_none : (l : ℕ) → nat_lt 0 l ≡ false → l ≡ 0
level_none zero e = refl
level_none (suc l) e = absurd (true≢false (sym (lt-ltb 0 (suc l) (omega arith)) ∙ e))

-- a state at level 0 is as it is woken
awake_same : (n : ℕ) (s : State) → s.level ≡ 0 → s.next ≡ n → woken n s ≡ s
awake_same n s a b = λ i. record s { level = (sym a) i; next = (sym b) i }

module _ (p : Program) (x : Name) (typed : IsTypedProgram p) (functions : GoodFunctions p) (agree : ApplicationsAgree p x) where
  abbrev pub world : World
  world = quiet_world p (good p x typed) (InClosure p x) (no_perm p x typed) true

  -- what follows an application: its term has the value, and the state stands with what is told
  pub record Follows (k : ℕ) (scope : Scope) (i : Interpretation) (s : State) (c : run.State) (g : Function) (ts : List Term) (v : Value) (snapshot t : Term) : Type 0 where
    pub interp : Interpretation
    pub extends : Extends (Means p x) s.next i interp
    pub stands : Stands (Means p x) world scope interp (with_equations p (outer p k) g ts snapshot t s) c
    pub next : (with_equations p (outer p k) g ts snapshot t s).next ≡ s.next
    pub good_term : Good (Means p x) s.next interp t (sort_of_type g.of)
    pub is : value interp t ≡ element v
    pub value_type : type_of v ≡ g.of

  pub awake_told : (k m : ℕ) (scope : Scope) (i : Interpretation) (s : State) (c : run.State) (f : Name) (g : Function) (ts : List Term) (vs : List Value) (v : Value) (snapshot : Term) (tree : Tree) → InClosure p x f → function_named p f ≡ Some g → TermsStand (Means p x) world s.next i g.parameters ts vs →
      Stands (Means p x) world scope i s c → firm_application p (firmly p m) f vs c ≡ Some v → Worth (Means p x) p s.next i (run.with_store (run.bind g.parameters vs) c) (precondition_of g) tree snapshot →
      Follows k scope i s c g ts v snapshot (application (function_number p f) (sort_of_type g.of) snapshot (terms ts))
  awake_told k m scope i s c f g ts vs v snapshot tree leads named each st is wo = record {
    interp = tells.interp;
    extends = tells.extends;
    stands = subst (λ z. Stands (Means p x) world scope tells.interp z c) (awake_same s.next after (still.level ∙ level) still.next) tells.here.stands;
    next = still.next;
    good_term = tells.good_term;
    is = tells.is;
    value_type = tells.typed;
  }
    where
      level : s.level ≡ 0
      level = level_none s.level st.awake

      t : Term
      t = application (function_number p f) (sort_of_type g.of) snapshot (terms ts)

      after : State
      after = with_equations p (outer p k) g ts snapshot (application (function_number p f) (sort_of_type g.of) snapshot (terms ts)) s

      tells : Tells (Means p x) p (good p x typed) functions (InClosure p x) (no_perm p x typed) s.next typed.functions (spoken p x typed functions) (knows p x typed functions agree) k (λ l. closure_told p x typed functions agree s.next k l) scope i s c f g ts v snapshot
      tells = application_told (Means p x) p (good p x typed) functions (InClosure p x) (no_perm p x typed) s.next typed.functions (spoken p x typed functions) (knows p x typed functions agree) k (λ l. closure_told p x typed functions agree s.next k l)
          scope i s c f g ts vs v m snapshot tree leads named each (record { stands = subst (λ z. Stands (Means p x) world scope i z c) (sym (awake_same s.next s level refl)) st }) is wo

      still : Still s (with_equations p (outer p k) g ts snapshot (application (function_number p f) (sort_of_type g.of) snapshot (terms ts)) s)
      still = equations_still (λ u y. Unit {0}) p (outer p k) (outer_left (λ u y. Unit {0}) p k) g ts snapshot t s
