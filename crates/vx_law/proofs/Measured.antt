-- What a walk shows of the measures of applications, as the meaning has it: those of the function's group have a lesser measure, in the
-- heap of the start.
use Rattle.std.proofs.Common.{◌≡◌, ℤ, true, List, [], Option, Some, None, refl, sym, ◌∙◌, ap, subst, le_refl}
use Rattle.std.specs.Prelude.{Ok, option_and_then}
use Rattle.vx_ast.specs.declared.Place.{Place}
use Rattle.vx_ast.specs.Syntax as syntax
use Rattle.vx_ast.specs.Syntax.{Name, Program, Predicate, predicate_named, Function, function_named, Expr, Exprs, ByNumber, ByInstance}
use Rattle.vx_meaning.specs.Values.{Value, IntValue}
use Rattle.vx_meaning.specs.States as run
use Rattle.vx_meaning.specs.States.{State, Instance}
use Rattle.vx_meaning.specs.Flatten.{IsInside}
use Rattle.vx_meaning.specs.Evaluate.{applications, value, values}
use Rattle.vx_meaning.specs.Fits.{Fits, Eventually, fit_all, deeper}
use Rattle.vx_meaning.specs.Fails.{Measure, Number, Inside, number_of, HasMeasure, LowersMeasure}
use Rattle.vx_terms.specs.Interpretations.{Interpretation}
use Rattle.vx_rules.specs.States as rules
use Rattle.vx_types.specs.Typing.{HaveNoPerm}
use Rattle.vx_elements.proofs.Settled.{Meaning}
use Rattle.vx_sound.proofs.Marks.{Marks, Unmarked, Rooted, Unsaid, IsInner}
use Rattle.vx_sound.proofs.World.{Walked, World}
use Rattle.vx_sound.proofs.Stripped.{stripped, value_stripped, values_stripped, applies_stripped, fit_worth, all_fit_worth}
use Rattle.vx_sound.proofs.Measures.{Lowers, by_number, by_instance}
use Rattle.vx_sound_preds.specs.Bodies.{GoodBodies}
use Rattle.vx_sound_preds.proofs.Holding.{Applying, functions_world}
use Rattle.vx_sound_preds.proofs.Functions.{IsNamed, IsMeasureOf}

module _ (p : Program) where
  abbrev inside : Name → List Value → Option Measure
  inside i vs = let j : Instance = record { predicate = i; arguments = vs } in Some (Inside j)

  -- a measure is the same in states that differ in what is held alone
  measure_here : (c s : State) (e : syntax.Measure) (m : Measure) → stripped c ≡ stripped s → HasMeasure p c e m → HasMeasure p s e m
  measure_here c s (ByNumber e) m same (n, has) =
      (n, ap (option_and_then number_of) (value_stripped p n (applies_stripped p n) s e ∙ ap (λ (t : State). value p (applications p n) t e) (sym same) ∙ sym (value_stripped p n (applies_stripped p n) c e)) ∙ has)
  measure_here c s (ByInstance at i es) m same (n, has) =
      (n, ap (option_and_then (inside i)) (values_stripped p n (applies_stripped p n) s es ∙ ap (λ (t : State). values p (applications p n) t es) (sym same) ∙ sym (values_stripped p n (applies_stripped p n) c es)) ∙ has)

  number_has : (c s : State) (e : Expr) (y : ℤ) → stripped c ≡ stripped s → Fits p c e (IntValue y) → HasMeasure p s (ByNumber e) (Number y)
  number_has c s e y same (n, fits) = measure_here c s (ByNumber e) (Number y) same (n, ap (option_and_then number_of) (fit_worth p n c e (IntValue y) (fits n (le_refl n))))

  instance_has : (c s : State) (at : Place) (i : Name) (es : Exprs) (vs : List Value) → stripped c ≡ stripped s → Eventually (λ n. fit_all p (deeper p n) c es ≡ Ok vs) → HasMeasure p s (ByInstance at i es) (Inside record { predicate = i; arguments = vs })
  instance_has c s at i es vs same (n, fits) = measure_here c s (ByInstance at i es) (Inside record { predicate = i; arguments = vs }) same (n, ap (option_and_then (inside i)) (all_fit_worth p n c es vs (fits n (le_refl n))))

  -- What is known of a function's measure

  none_of : (s : State) (z : Option ℤ) (marks : Marks) → IsMeasureOf p s None z marks → (z ≡ None) × (marks ≡ Unmarked)
  none_of s None Unmarked h = (refl, refl)
  none_of s None (Rooted root) h = absurd h
  none_of s None Unsaid h = absurd h
  none_of s (Some k) Unmarked h = absurd h
  none_of s (Some k) (Rooted root) h = absurd h
  none_of s (Some k) Unsaid h = absurd h

  number_of_measure : (s : State) (e : Expr) (z : Option ℤ) (marks : Marks) → IsMeasureOf p s (Some (ByNumber e)) z marks → (marks ≡ Unmarked) × ((k : ℤ) → z ≡ Some k → Fits p s e (IntValue k))
  number_of_measure s e (Some j) Unmarked h = (refl, λ k same. subst (λ (k : ℤ). Fits p s e (IntValue k)) (one j k same) h)
    where
      one : (j k : ℤ) → Some j ≡ Some k → j ≡ k
      one j k e = cc
  number_of_measure s e None Unmarked h = absurd h
  number_of_measure s e None (Rooted root) h = absurd h
  number_of_measure s e None Unsaid h = absurd h
  number_of_measure s e (Some k) (Rooted root) h = absurd h
  number_of_measure s e (Some k) Unsaid h = absurd h

  root_of_measure : (s : State) (at : Place) (x : Name) (es : Exprs) (z : Option ℤ) (marks : Marks) → IsMeasureOf p s (Some (ByInstance at x es)) z marks → (root : Instance) × (marks ≡ Rooted root) × (z ≡ None) × IsNamed p s x es root
  root_of_measure s at x es None (Rooted root) h = (root, refl, refl, h)
  root_of_measure s at x es None Unmarked h = absurd h
  root_of_measure s at x es None Unsaid h = absurd h
  root_of_measure s at x es (Some k) Unmarked h = absurd h
  root_of_measure s at x es (Some k) (Rooted root) h = absurd h
  root_of_measure s at x es (Some k) Unsaid h = absurd h

no_number : (z : Option ℤ) (k : ℤ) → z ≡ None → z ≡ Some k → ⊥
no_number z k a b = apart k (sym a ∙ b)
  where
    apart : (k : ℤ) → None ≡ Some k → ⊥
    apart k e = cc

module _ (means : Meaning) (p : Program) (good : GoodBodies p) (Held : Name → Type 0) (no_perm : (x : Name) (d : Predicate) → predicate_named p x ≡ Some d → HaveNoPerm d.parameters) (applying : Applying) (f : Name) (s : State) (z : Option ℤ) where
  abbrev world : World
  world = functions_world p good Held no_perm true applying

  abbrev walked : Walked
  walked = record { function = f; measure = z; heap = s.heap }

  callee_same : (g' : Function) (vs : List Value) (c : State) → c.heap ≡ s.heap → c.old_heap ≡ s.old_heap → stripped (run.with_store (run.bind g'.parameters vs) c) ≡ stripped (run.with_store (run.bind g'.parameters vs) s)
  callee_same g' vs c h o = λ i. record { store = run.bind g'.parameters vs; heap = h i; holdings = []; old_heap = o i; old_holdings = [] }

  -- where its measure is lowered as the walk has it, it is as the meaning has it
  pub lowers_measure : (m : Option syntax.Measure) → IsMeasureOf p s m z applying.marks → (c : State) → c.heap ≡ s.heap → c.old_heap ≡ s.old_heap → (f' : Name) (g' : Function) (vs : List Value) → function_named p f' ≡ Some g' → (i : Interpretation) (heap : rules.Heap) →
      Lowers means world (record { function = f; measure = z; heap = s.heap }) g' vs c i heap → (e : syntax.Measure) × (m ≡ Some e) × LowersMeasure p e s f' vs
  lowers_measure None is c h o f' g' vs named i heap (by_number d y of_callee fits low) = absurd (no_number z low.number (none_of p s z applying.marks is).0 low.is)
  lowers_measure None is c h o f' g' vs named i heap (by_instance at x es ws of_callee fits held) =
      absurd (subst (λ (m : Marks). IsInner p m c.heap record { predicate = x; arguments = ws }) (none_of p s z applying.marks is).1 held.inside)
  lowers_measure (Some (ByNumber e)) is c h o f' g' vs named i heap (by_number d y of_callee fits low) = (
    ByNumber e,
    refl,
    record {
      callee = g';
      is_callee = named;
      of_callee = ByNumber d;
      has_measure = of_callee;
      before = Number low.number;
      after = Number y;
      before_is = number_has p s s e low.number refl ((number_of_measure p s e z applying.marks is).1 low.number low.is);
      after_is = number_has p (run.with_store (run.bind g'.parameters vs) c) (run.with_store (run.bind g'.parameters vs) s) d y (callee_same g' vs c h o) fits;
      lowers = (low.above, low.below);
    },
  )
  lowers_measure (Some (ByNumber e)) is c h o f' g' vs named i heap (by_instance at x es ws of_callee fits held) =
      absurd (subst (λ (m : Marks). IsInner p m c.heap record { predicate = x; arguments = ws }) (number_of_measure p s e z applying.marks is).0 held.inside)
  lowers_measure (Some (ByInstance at x es)) is c h o f' g' vs named i heap (by_number d y of_callee fits low) = absurd (no_number z low.number (root_of_measure p s at x es z applying.marks is).2 low.is)
  lowers_measure (Some (ByInstance at x es)) is c h o f' g' vs named i heap (by_instance at' y ds ws of_callee fits held) =
      let k = root_of_measure p s at x es z applying.marks is in (
        ByInstance at x es,
        refl,
        record {
          callee = g';
          is_callee = named;
          of_callee = ByInstance at' y ds;
          has_measure = of_callee;
          before = Inside k.0;
          after = Inside record { predicate = y; arguments = ws };
          before_is = subst (λ (r : Instance). HasMeasure p s (ByInstance at x es) (Inside r)) (sym k.3.2) (instance_has p s s at x es k.3.0 refl k.3.1);
          after_is = instance_has p (run.with_store (run.bind g'.parameters vs) c) (run.with_store (run.bind g'.parameters vs) s) at' y ds ws (callee_same g' vs c h o) fits;
          lowers = subst (λ (h : run.Heap). IsInside p h record { predicate = y; arguments = ws } k.0) h (subst (λ (m : Marks). IsInner p m c.heap record { predicate = y; arguments = ws }) k.1 held.inside);
        },
      )
