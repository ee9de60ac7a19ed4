-- A function of a typed program whose walk passed: it doesn't fail, where what is shown of the applications that it evaluates is given.
use Rattle.std.proofs.Common.{◌≡◌, inl, inr, ℤ, true, List, [], ◌∷◌, ◌++◌, Option, Some, None, refl, sym, subst}
use Rattle.std.specs.Prelude.{flat_map}
use Rattle.vx_ast.specs.declared.Place.{Place}
use Rattle.vx_ast.specs.declared.ValueType.{ValueType}
use Rattle.vx_ast.specs.Syntax.{Name, result_name, Declaration, Program, Kind, IsFunction, Function, function_named, member_named, Measure, ByNumber, ByInstance, Connect, And, place_of, conjoined, conjoined_with, Expr, Exprs, Assertion, Pure, Points, Instance, Both, Implied, Chosen}
use Rattle.vx_ast.specs.Mentions.{mentioned, mentioned_in, mentioned_by, mentioned_by_function}
use Rattle.vx_ast.specs.Apart.{Stands, IsNoFunction, entered_by, entered_by_measure}
use Rattle.vx_smt_meaning.specs.declared.reply.Reply.{Reply}
use Rattle.vx_meaning.specs.Values.{Value}
use Rattle.vx_meaning.specs.States as run
use Rattle.vx_meaning.specs.Fails.{FunctionStarts, DoesNotLower, Application, FunctionFails}
use Rattle.vx_rules.specs.Members.{depth, rules as member_rules, tree}
use Rattle.vx_types.specs.Typing.{Scope, IsTypedMeasure, IsTyped, HasType, number, truth, nulls, part, variable, nots, operates, scales, divides, connects, chooses, reads, olds, applies, unfoldings, HaveTypes, no_more, more}
use Rattle.vx_types.specs.Premises.{IsTypedProgram}
use Rattle.vx_types.specs.Closure.{mentioned_by_measure, mentioned_by_kind, InClosure, further}
use Rattle.vx_elements.proofs.Settled.{Meaning}
use Rattle.vx_sound.specs.Law.{Passes}
use Rattle.vx_sound.proofs.Marks.{Marks, Unmarked}
use Rattle.vx_sound.proofs.Measures.{MeasureSpeaks}
use Rattle.vx_sound.proofs.Speaks.{Speaks, AllSpeak, SpeaksOf, speaks_anyway, all_speak_anyway}
use Rattle.vx_sound.proofs.Conjoined.{conjoined_typed}
use Rattle.vx_sound.proofs.Passes.{cleared}
use Rattle.vx_sound.proofs.Evaluate.{PartsGo}
use Rattle.vx_elements.proofs.Scopes.{joined_typed}
use Rattle.vx_sound_preds.specs.Asking.{IsAsking}
use Rattle.vx_sound_preds.proofs.Typed.{on_left, on_right}
use Rattle.vx_sound_preds.proofs.Speaking.{AllSeen, lefts, rights, joined_seen, conjoined_seen, good, no_perm, speak}
use Rattle.vx_sound_preds.proofs.Mentioning.{function_member, expression, expressions, assertion}
use Rattle.vx_sound_preds.proofs.Holding.{Applying, functions_world}
use Rattle.vx_sound_preds.proofs.Unfolds.{AppliesBy, parts_go}
use Rattle.vx_sound_preds.proofs.Applied.{precondition_of, AllAsk}
use Rattle.vx_sound_preds.proofs.Functions.{IsMeasureOf, in_body_of, MeasureSays, IsWalkable, asking_of, outside, inside, never_fails}

-- what postconditions that are joined mention
conjoined_with_mentions : (y : Name) (a : Expr) (rest : List Expr) → Stands y (mentioned (conjoined_with a rest)) → Stands y (mentioned a ++ flat_map mentioned rest)
conjoined_with_mentions y a [] s = on_left y (mentioned a) [] s
conjoined_with_mentions y a (b ∷ rest) s = again (mentioned a) (mentioned b) (flat_map mentioned rest) (conjoined_with_mentions y (Connect (place_of a) And a b) rest s)
  where
    again : (xs ys zs : List Name) → Stands y ((xs ++ ys) ++ zs) → Stands y (xs ++ (ys ++ zs))
    again [] ys zs s = s
    again (x ∷ xs) ys zs (inl e) = inl e
    again (x ∷ xs) ys zs (inr t) = inr (again xs ys zs t)

pub conjoined_mentions : (y : Name) (at : Place) (rest : List Expr) → Stands y (mentioned (conjoined at rest)) → Stands y (flat_map mentioned rest)
conjoined_mentions y at [] s = s
conjoined_mentions y at (a ∷ rest) s = conjoined_with_mentions y a rest s

-- what is applied in an expression may be narrowed to what is known of all functions that it mentions
module _ (p : Program) (Held Wide Narrow : Name → Type 0) where
  abbrev Narrows : List Name → Type 0
  Narrows ys = (y : Name) (g : Function) → Stands y ys → function_named p y ≡ Some g → Wide y → Narrow y

  before : (ys zs : List Name) → Narrows (ys ++ zs) → Narrows ys
  before ys zs k y g s = k y g (on_left y ys zs s)

  behind : (ys zs : List Name) → Narrows (ys ++ zs) → Narrows zs
  behind ys zs k y g s = k y g (on_right y ys zs s)

  mutual
    narrowed : {scope : Scope} {e : Expr} {t : ValueType} → HasType p scope e t → Narrows (mentioned e) → Speaks Held Wide e → Speaks Held Narrow e
    narrowed (number at n) s k = tt
    narrowed (truth) s k = tt
    narrowed (nulls at) s k = tt
    narrowed (part at n d l) s k = tt
    narrowed (variable at y e) s k = tt
    narrowed (nots h) s k = narrowed h s k
    narrowed (operates {a = a} {b = b} o ha hb) s k = (narrowed ha (before (mentioned a) (mentioned b) s) k.0, narrowed hb (behind (mentioned a) (mentioned b) s) k.1)
    narrowed (scales place n hb) s k = (tt, narrowed hb s k.1)
    narrowed (divides {a = a} {b = b} ha hb) s k = (narrowed ha (before (mentioned a) (mentioned b) s) k.0, narrowed hb (behind (mentioned a) (mentioned b) s) k.1)
    narrowed (connects {a = a} {b = b} ha hb) s k = (narrowed ha (before (mentioned a) (mentioned b) s) k.0, narrowed hb (behind (mentioned a) (mentioned b) s) k.1)
    narrowed (chooses {c = c} {a = a} {b = b} hc ha hb) s k =
        let first = before (mentioned c ++ mentioned a) (mentioned b) s in (
          narrowed hc (before (mentioned c) (mentioned a) first) k.0,
          narrowed ha (behind (mentioned c) (mentioned a) first) k.1,
          narrowed hb (behind (mentioned c ++ mentioned a) (mentioned b) s) k.2,
        )
    narrowed (reads f e h) s k = narrowed h s k
    narrowed (olds h) s k = narrowed h s k
    narrowed (applies f {es = es} g e hs) s k = (s f g (inl refl) e k.0, all_narrowed hs (behind (f ∷ []) (mentioned_in es) s) k.1)
    narrowed (unfoldings i {es = es} {share = share} {e = e} d is hs hq h) s k =
        let rest = behind (i ∷ []) (mentioned_in es ++ mentioned share ++ mentioned e) s in
        let first = before (mentioned_in es ++ mentioned share) (mentioned e) rest in (
          k.0,
          all_narrowed hs (before (mentioned_in es) (mentioned share) first) k.1,
          narrowed hq (behind (mentioned_in es) (mentioned share) first) k.2,
          narrowed h (behind (mentioned_in es ++ mentioned share) (mentioned e) rest) k.3,
        )

    all_narrowed : {scope : Scope} {es : Exprs} {ds : List Declaration} → HaveTypes p scope es ds → Narrows (mentioned_in es) → AllSpeak Held Wide es → AllSpeak Held Narrow es
    all_narrowed no_more s k = tt
    all_narrowed (more {e = e} {es = es} h hs) s k = (narrowed h (before (mentioned e) (mentioned_in es) s) k.0, all_narrowed hs (behind (mentioned e) (mentioned_in es) s) k.1)

  pub narrowed_of : (scope : Scope) (a : Assertion) → IsTyped p scope a → Narrows (entered_by a) → SpeaksOf Held Wide a → SpeaksOf Held Narrow a
  narrowed_of scope (Pure e) t s k = narrowed t s k
  narrowed_of scope (Points at e f share) t s k = (narrowed t.0 (before (mentioned e) (mentioned share) s) k.0, narrowed t.2 (behind (mentioned e) (mentioned share) s) k.1)
  narrowed_of scope (Instance at i es share) t s k = (k.0, all_narrowed t.0.2 (before (mentioned_in es) (mentioned share) s) k.1, narrowed t.1 (behind (mentioned_in es) (mentioned share) s) k.2)
  narrowed_of scope (Both a b) t s k = (narrowed_of scope a t.0 (before (entered_by a) (entered_by b) s) k.0, narrowed_of scope b t.1 (behind (entered_by a) (entered_by b) s) k.1)
  narrowed_of scope (Implied c a) t s k = (narrowed t.0 (before (mentioned c) (entered_by a) s) k.0, narrowed_of scope a t.1 (behind (mentioned c) (entered_by a) s) k.1)
  narrowed_of scope (Chosen c a b) t s k =
      let first = before (mentioned c ++ entered_by a) (entered_by b) s in (
        narrowed t.0 (before (mentioned c) (entered_by a) first) k.0,
        narrowed_of scope a t.1 (behind (mentioned c) (entered_by a) first) k.1,
        narrowed_of scope b t.2 (behind (mentioned c ++ entered_by a) (entered_by b) s) k.2,
      )

module _ (p : Program) (x : Name) (typed : IsTypedProgram p) (f : Name) (g : Function) (held : InClosure p x f) (named : function_named p f ≡ Some g) (asking : IsAsking p (precondition_of g)) where
  -- what it mentions
  seen : AllSeen p x (mentioned_by_function g ++ mentioned_by_measure g.decreases)
  seen y s = further held (subst (λ (o : Option Kind). Stands y (mentioned_by_kind p o)) (sym (function_member (member_named p f) g named)) s)

  -- where all that x leads to may be applied
  abbrev wide : Applying
  wide = record { marks = Unmarked; Applied = InClosure p x; own = None; Measured = λ h f vs. Unit {0} }

  -- a measure applies nothing
  measure_says : (m : Option Measure) → IsTypedMeasure p g.parameters m → AllSeen p x (mentioned_by_measure m) → ((y : Name) → Stands y (entered_by_measure m) → IsNoFunction p y) → MeasureSays (InClosure p x) m
  measure_says None t s apart = tt
  measure_says (Some (ByNumber e)) t s apart = narrowed p (InClosure p x) (InClosure p x) (λ f. ⊥) t (λ y d at is _. apart y at d is) (expression p x wide (λ f g leads is. leads) t s)
  measure_says (Some (ByInstance at i es)) t s apart = (s i (inl refl), all_narrowed p (InClosure p x) (InClosure p x) (λ f. ⊥) t.2 (λ y d at is _. apart y at d is) (expressions p x wide (λ f g leads is. leads) t.2 (λ y k. s y (inr k))))

  pub own_measure : MeasureSays (InClosure p x) g.decreases
  own_measure = measure_says g.decreases (let t = typed.functions f g named in t.measure) (rights p x (mentioned_by_function g) (mentioned_by_measure g.decreases) seen) (λ y s. typed.apart.measure f g y named s)

  pre_typed : IsTyped p g.parameters (precondition_of g)
  pre_typed = joined_typed p g.parameters g.place g.requires (let t = typed.functions f g named in t.requires)

  -- its precondition, where what x leads to may be applied
  pub own_asks : SpeaksOf (InClosure p x) (InClosure p x) (precondition_of g)
  own_asks =
      let parts = lefts p x (mentioned_by_function g) (mentioned_by_measure g.decreases) seen in
      let first = lefts p x (mentioned g.body ++ flat_map mentioned_by g.requires) (flat_map mentioned g.ensures) parts in
      assertion p x wide (λ f g leads is. leads) g.parameters (precondition_of g) pre_typed (joined_seen p x g.place g.requires (rights p x (mentioned g.body) (flat_map mentioned_by g.requires) first))

  module _ (Before Applied : Name → Type 0) (before : (y : Name) (d : Function) → Stands y (entered_by (precondition_of g)) → function_named p y ≡ Some d → InClosure p x y → Before y)
      (may : (y : Name) (d : Function) → Stands y (mentioned_by_function g) → function_named p y ≡ Some d → InClosure p x y → Applied y) where
    pub walkable : IsWalkable p (InClosure p x) Before Applied g
    walkable =
        let t = typed.functions f g named in
        let parts = lefts p x (mentioned_by_function g) (mentioned_by_measure g.decreases) seen in
        let first = lefts p x (mentioned g.body ++ flat_map mentioned_by g.requires) (flat_map mentioned g.ensures) parts in
        let scope = g.parameters ++ record { name = result_name; of = g.of } ∷ [] in
        let promised = conjoined_typed p scope g.place g.ensures t.ensures in
        record {
          typed = t;
          functions = typed.functions;
          asks = narrowed_of p (InClosure p x) (InClosure p x) Before g.parameters (precondition_of g) pre_typed before own_asks;
          asking = asking;
          measure = own_measure;
          body = narrowed p (InClosure p x) (InClosure p x) Applied t.body (λ y d s. may y d (on_left y (mentioned g.body ++ flat_map mentioned_by g.requires) (flat_map mentioned g.ensures) (on_left y (mentioned g.body) (flat_map mentioned_by g.requires) s)))
              (expression p x wide (λ f g leads is. leads) t.body (lefts p x (mentioned g.body) (flat_map mentioned_by g.requires) first));
          ensures = narrowed p (InClosure p x) (InClosure p x) Applied promised (λ y d s. may y d (on_right y (mentioned g.body ++ flat_map mentioned_by g.requires) (flat_map mentioned g.ensures) (conjoined_mentions y g.place g.ensures s)))
              (expression p x wide (λ f g leads is. leads) promised (conjoined_seen p x g.place g.ensures (rights p x (mentioned g.body ++ flat_map mentioned_by g.requires) (flat_map mentioned g.ensures) parts)));
        }

    module _ (means : Meaning) where
      -- what is shown of applications, where the function's walk is in its body
      module _ (replies : List Reply) (pass : Passes p f (IsFunction g) replies)
          (first : AppliesBy means p (good p x typed) (InClosure p x) (no_perm p x typed) true (asking_of Before) (speak p x typed))
          (Measured : run.State → run.Heap → Name → List Value → Type 0)
          (within : (s : run.State) → FunctionStarts p g s → (z : Option ℤ) (marks : Marks) → IsMeasureOf p s g.decreases z marks → AppliesBy means p (good p x typed) (InClosure p x) (no_perm p x typed) true (in_body_of Applied f z marks s.heap (Measured s)) (speak p x typed)) where
        parts : PartsGo means (outside means p (good p x typed) (InClosure p x) (no_perm p x typed) Before Applied) (member_rules p)
        unfolding member_rules
        parts = parts_go means p (good p x typed) (InClosure p x) (no_perm p x typed) true (asking_of Before) (speak p x typed) first (depth p)

        inner : (s : run.State) → FunctionStarts p g s → (z : Option ℤ) (marks : Marks) → IsMeasureOf p s g.decreases z marks → PartsGo means (inside means p (good p x typed) (InClosure p x) (no_perm p x typed) Before Applied f z marks s.heap (Measured s)) (member_rules p)
        unfolding member_rules
        inner s starts z marks is = parts_go means p (good p x typed) (InClosure p x) (no_perm p x typed) true (in_body_of Applied f z marks s.heap (Measured s)) (speak p x typed) (within s starts z marks is) (depth p)

        -- it doesn't fail, where what is shown refutes applications that don't lower its measure
        pub function_sound_by : ((s : run.State) → FunctionStarts p g s → (a : Application) → Measured s s.heap a.0 a.1 → DoesNotLower p f g.decreases s a → ⊥) → FunctionFails p f g → ⊥
        function_sound_by = never_fails means p (good p x typed) (InClosure p x) (no_perm p x typed) Before Applied (member_rules p) parts f g walkable (cleared (tree p f (IsFunction g)) replies pass.0 pass.1) Measured inner

-- what is asked of the functions that may be applied, where they are among those that x leads to, and what their preconditions apply may be too
module _ (means : Meaning) (p : Program) (x : Name) (typed : IsTypedProgram p) (asking : (f : Name) (g : Function) → InClosure p x f → function_named p f ≡ Some g → IsAsking p (precondition_of g))
    (applying : Applying) (seen : (f : Name) → applying.Applied f → InClosure p x f)
    (closed : (f : Name) (g : Function) (y : Name) (d : Function) → applying.Applied f → function_named p f ≡ Some g → Stands y (entered_by (precondition_of g)) → function_named p y ≡ Some d → applying.Applied y) where
  measure_speaks : (m : Option Measure) → MeasureSays (InClosure p x) m → MeasureSpeaks means (functions_world p (good p x typed) (InClosure p x) (no_perm p x typed) true applying) m
  measure_speaks None k = tt
  measure_speaks (Some (ByNumber e)) k = speaks_anyway (InClosure p x) applying.Applied e k
  measure_speaks (Some (ByInstance at i es)) k = (k.0, all_speak_anyway (InClosure p x) applying.Applied es k.1)

  pub all_ask : AllAsk means p (good p x typed) (InClosure p x) (no_perm p x typed) applying
  all_ask f g allowed named =
      let held = seen f allowed in
      let ask = asking f g held named in
      record {
        typed = typed.functions f g named;
        speaks = narrowed_of p (InClosure p x) (InClosure p x) applying.Applied g.parameters (precondition_of g) (pre_typed p x typed f g held named ask) (λ y d s is _. closed f g y d allowed named s is) (own_asks p x typed f g held named ask);
        asking = ask;
        measure = measure_speaks g.decreases (own_measure p x typed f g held named ask);
      }
