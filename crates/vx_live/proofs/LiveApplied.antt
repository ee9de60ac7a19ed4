-- An application asks well-sorted questions, and what it tells of its function is well-sorted; so do the parts of other members at
-- every depth.
use Rattle.std.proofs.Common.{◌≡◌, ◌∙◌, inl, inr, arith, ℕ, zero, suc, ◌+◌, ◌<◌, ◌≤◌, Bool, true, false, not, cond, pos, List, [], ◌∷◌, ◌++◌, length, drop, Option, Some, None, refl, sym, ap, subst, le_refl}
use Rattle.std.specs.Prelude.{nat_lt}
use Rattle.std.proofs.lemmas.Bool.{lt-ltb}
use Rattle.vx_ast.specs.declared.Place.{Place}
use Rattle.vx_ast.specs.declared.ValueType.{ValueType}
use Rattle.vx_ast.specs.declared.ValueType.TheVariants as type
use Rattle.vx_ast.specs.Syntax.{Name, result_name, Program, Declaration, Function, joined, conjoined, Measure, ByNumber, ByInstance, Expr, Assertion}
use Rattle.vx_terms.specs.Sorts as sort
use Rattle.vx_terms.specs.Sorts.{Sort, BoolSort, IntSort, SnapSort}
use Rattle.vx_terms.specs.Terms.{Term, sort_of}
use Rattle.vx_terms.specs.Build.{true_term, and, equals, application, whole_amount}
use Rattle.vx_terms.specs.Formed.{applies, FormedAll, no_terms, more_terms}
use Rattle.vx_terms.specs.Interpretations.{Each}
use Rattle.vx_terms.proofs.Values.{sort_of_formed}
use Rattle.vx_smt_meaning.specs.Commands.{Declared}
use Rattle.vx_smt_meaning.specs.Symbols.{declaration, Declares, sorts_of}
use Rattle.vx_smt_meaning.specs.Over.{AreOver}
use Rattle.vx_smt_meaning.specs.Standard.{standard_symbols}
use Rattle.vx_rules.specs.States as rules
use Rattle.vx_rules.specs.States.{sort_of_type, Entry, joined_onto, new_entries, name_of, after_name}
use Rattle.vx_rules.specs.Trees.{AssertCode, FunctionCode, MeasureCode, Tree, On, Step, Left, leaves}
use Rattle.vx_rules.specs.Chunks.{instance_key, holds_some}
use Rattle.vx_rules.specs.Groups.{is_in_group, function_number}
use Rattle.vx_rules.specs.Rules.{Giving, Going, Context, Outer, outer, nowhere, never, entered, back, gathered, terms, quietly, sides_of, with_body, with_promise, with_equations, lesser, decreasing, measured}
use Rattle.vx_types.specs.Typing.{Scope, HasType, IsTyped, IsTypedMeasure}
use Rattle.vx_elements.proofs.Lists.{each_both}
use Rattle.vx_elements.proofs.Scopes.{joined_typed, typed_longer}
use Rattle.vx_live.specs.Functions.{sorts_of_types, function_symbol}
use Rattle.vx_live.proofs.Over.{Sorts, Above, stays, above, Fine, fine_later, truth_fine, number_fine, whole_fine, and_fine, implies_fine, equals_fine, less_fine, less_equal_fine}
use Rattle.vx_live.proofs.Shapes.{AllFine, all_fine_later, bound_shape, shape_append, path_le, MeasureFine, measure_le, OwnFine, IsFact, Shaped, Later, facts_later, with_chunks, named, entered_shape, back_shape}
use Rattle.vx_sound.proofs.Conjoined.{conjoined_typed}
use Rattle.vx_live.proofs.Speaks.{Speaks, SpeaksOf, joined_speaks, conjoined_speaks, FunctionSays, Spoken, MeasureSpeaks}
use Rattle.vx_live.proofs.LiveSteps.{Saying, LiveBy, left_live, Follows, live_case, ask_live, never_live, first_inner_live}
use Rattle.vx_live.proofs.LiveChunks.{some_fine, found_shape}
use Rattle.vx_live.proofs.LiveEvaluate.{AppliesLive, PartsLive, eval_live, evals_live}
use Rattle.vx_live.proofs.LiveAssertions.{instance_arguments, produce_live, consume_live}
use Rattle.vx_live.proofs.LiveParts.{OuterLive, unfolded_live}
use Rattle.vx_live.specs.Quiet.{Still}
use Rattle.vx_live.proofs.Quiet.{Quiet, OuterLeft, outer_left, each_left, LeftBy, still_quiet, after}

-- Applications

declared_behind : (ds es : List Declared) (d : Declared) → Declares es d → Declares (ds ++ es) d
declared_behind [] es d k = k
declared_behind (c ∷ ds) es d k = inr (declared_behind ds es d k)

each_drop : {A : Type 0} (P : A → Type 0) (k : ℕ) (xs : List A) → Each P xs → Each P (drop k xs)
each_drop P zero xs h = h
each_drop P (suc k) [] h = tt
each_drop P (suc k) (x ∷ xs) h = each_drop P k xs h.1

module _ {fs : List Declared} (sorts : Sorts fs) (n : ℕ) where
  terms_formed : (ds : List Declaration) (ts : List Term) → AllFine sorts n ds ts → FormedAll n (terms ts)
  terms_formed [] [] h = no_terms
  terms_formed (d ∷ ds) (t ∷ ts) h = more_terms (sort_of_type d.of) h.0.formed (terms_formed ds ts h.1)
  terms_formed [] (t ∷ ts) h = absurd h
  terms_formed (d ∷ ds) [] h = absurd h

  terms_over : (ds : List Declaration) (ts : List Term) → AllFine sorts n ds ts → AreOver (standard_symbols ++ fs) sorts.of (terms ts)
  terms_over [] [] h = tt
  terms_over (d ∷ ds) (t ∷ ts) h = (h.0.over, terms_over ds ts h.1)
  terms_over [] (t ∷ ts) h = absurd h
  terms_over (d ∷ ds) [] h = absurd h

  terms_sorts : (ds : List Declaration) (ts : List Term) → AllFine sorts n ds ts → sorts_of (terms ts) ≡ sorts_of_types ds
  terms_sorts [] [] h = refl
  terms_sorts (d ∷ ds) (t ∷ ts) h = ap (λ a. a ∷ sorts_of (terms ts)) (sort_of_formed h.0.formed) ∙ ap (λ ss. sort_of_type d.of ∷ ss) (terms_sorts ds ts h.1)
  terms_sorts [] (t ∷ ts) h = absurd h
  terms_sorts (d ∷ ds) [] h = absurd h

  application_fine : (k : ℕ) (g : Function) {u : Term} (ts : List Term) → Declares fs (function_symbol k g) → Fine sorts n u SnapSort → AllFine sorts n g.parameters ts → Fine sorts n (application k (sort_of_type g.of) u (terms ts)) (sort_of_type g.of)
  application_fine k g {u = u} ts known f h =
      let takes : sort_of u ∷ sorts_of (terms ts) ≡ SnapSort ∷ sorts_of_types g.parameters = ap (λ a. a ∷ sorts_of (terms ts)) (sort_of_formed f.formed) ∙ ap (λ ss. SnapSort ∷ ss) (terms_sorts g.parameters ts h) in
      record {
        formed = applies (sort.Function k) (sort_of_type g.of) tt (more_terms SnapSort f.formed (terms_formed g.parameters ts h));
        over = (
          subst (λ ss. Declares (standard_symbols ++ fs) (declaration (sort.Function k) ss (sort_of_type g.of))) (sym takes) (declared_behind standard_symbols fs (function_symbol k g) known),
          (f.over, terms_over g.parameters ts h),
        );
      }

  -- Facts that sides leave

  joined_fine : (t : Term) (branches : Bool) (es : List Entry) → Fine sorts n t BoolSort → Each (IsFact sorts n) es → Fine sorts n (joined_onto t branches es) BoolSort
  joined_fine t branches [] f h = f
  joined_fine t branches (e ∷ es) f h = go (cond branches e.branch (not e.branch)) (joined_fine (and t e.term) branches es (and_fine f h.0) h.1) (joined_fine t branches es f h.1)
    where
      go : (b : Bool) → Fine sorts n (joined_onto (and t e.term) branches es) BoolSort → Fine sorts n (joined_onto t branches es) BoolSort → Fine sorts n (cond b (joined_onto (and t e.term) branches es) (joined_onto t branches es)) BoolSort
      go true f h = f
      go false f h = h

  -- a side with a value of this sort, over the symbols that stood at the start
  pub record SideFine (a : Sort) (l : Left) : Type 0 where
    pub path : Each (IsFact sorts n) l.state.path
    pub value : Fine sorts n l.value a

  gathered_fine : (before : rules.State) (a : Sort) (said : Term → Term) (ls : List Left) → ((v : Term) → Fine sorts n v a → Fine sorts n (said v) BoolSort) → Each (SideFine a) ls → Each (λ t. Fine sorts n t BoolSort) (gathered before said ls)
  gathered_fine before a said [] h k = tt
  gathered_fine before a said (l ∷ ls) h k =
      let added = each_drop (IsFact sorts n) (length before.path) l.state.path k.0.path in (
        implies_fine (joined_fine true_term true (new_entries before l.state) (truth_fine true) added) (and_fine (joined_fine true_term false (new_entries before l.state) (truth_fine true) added) (h l.value k.0.value)),
        gathered_fine before a said ls h k.1,
      )

-- what was made above n is back where n stands again
abbrev back_above : {fs : List Declared} {sorts : Sorts fs} {n m : ℕ} (le : Above sorts n m) → m ≡ n → Above le.sorts m n
back_above {sorts = sorts} {n = n} {m = m} le e = record { sorts = sorts; le = subst (λ k. m ≤ k) e (le_refl m); same = λ k below. sym (le.same k (subst (λ b. k < b) e below)) }

-- the sides as an evaluation leaves them
record Leaves {fs : List Declared} (sorts : Sorts fs) (n : ℕ) (a : Sort) (t : Term) (s : rules.State) : Type 0 where
  pub le : Above sorts n s.next
  pub path : Each (IsFact le.sorts s.next) s.path
  pub value : Fine le.sorts s.next t a

module _ {fs : List Declared} (p : Program) (Held : Name → Type 0) (spoken : Spoken Held p fs) (o : Outer) (all : (P : Saying) → OuterLive fs P p Held o) (left : (P : Saying) → OuterLeft P o) where
  -- Under a precondition the sides of an expression are well-sorted, over the symbols that stood at the start.
  sides_fine : (scope : Scope) (a : Assertion) (e : Expr) (t : ValueType) → IsTyped p scope a → SpeaksOf Held a → HasType p scope e t → Speaks Held e → (sorts : Sorts fs) (s : rules.State) (snapshot : Term) → Quiet s → Shaped p sorts scope s →
      Fine sorts s.next snapshot SnapSort → Each (SideFine sorts s.next (sort_of_type t)) (leaves (o.produce a whole_amount (Some snapshot) s (λ s1. o.eval e s1 On)))
  sides_fine scope a e t ta ka te ke sorts s snapshot q sh f =
      each_both (λ (l : Left). Leaves sorts s.next (sort_of_type t) l.value l.state) (λ (l : Left). Still s l.state) (SideFine sorts s.next (sort_of_type t)) joins (leaves walk)
      (left_live fs (Leaves sorts s.next (sort_of_type t)) walk sorted) (each_left (λ v u. Still s u) walk still)
    where
      walk : Tree
      walk = o.produce a whole_amount (Some snapshot) s (λ s1. o.eval e s1 On)

      sorted : LiveBy fs (Leaves sorts s.next (sort_of_type t)) walk
      sorted =
          let live = all (Leaves sorts s.next (sort_of_type t)) in
          live.produce scope a ta ka sorts s whole_amount (Some snapshot) (λ s1. o.eval e s1 On) sh whole_fine f (λ s1 le sh1.
          live.eval scope e t te ke le.sorts s1 On sh1 (λ v s2 le2 sh2 g. record { le = above le le2; path = sh2.path; value = g }))

      still : LeftBy (λ v u. Still s u) walk
      still =
          let quiet = left (λ v u. Still s u) in
          quiet.produce a whole_amount snapshot s (λ s1. o.eval e s1 On) q (λ s1 st. quiet.eval e s1 On (still_quiet st q) (λ v s2 st2. after st st2))

      joins : (l : Left) → Leaves sorts s.next (sort_of_type t) l.value l.state → Still s l.state → SideFine sorts s.next (sort_of_type t) l
      joins l k st = let back = back_above k.le st.next in record { path = path_le l.state.path back k.path; value = fine_later back k.value }

  -- What an application tells of its function

  level_more : (l : ℕ) → nat_lt 0 (l + 1) ≡ true
  level_more l = lt-ltb 0 (l + 1) (omega arith)

  abbrev result_of : Function → Declaration
  result_of g = record { name = result_name; of = g.of }

  module _ (f : Name) (g : Function) (says : FunctionSays Held p fs f g) where
    asked : IsTyped p g.parameters (joined g.place g.requires)
    asked = joined_typed p g.parameters g.place g.requires says.typed.requires

    asked_speaks : SpeaksOf Held (joined g.place g.requires)
    asked_speaks = joined_speaks Held g.place g.requires says.requires

    body_later : {scope : Scope} (ts : List Term) (u t : Term) (sorts : Sorts fs) (s : rules.State) → Shaped p sorts scope s → AllFine sorts s.next g.parameters ts → Fine sorts s.next u SnapSort → Fine sorts s.next t (sort_of_type g.of) →
        Later p sorts scope s.next (with_body p o g ts u t s)
    body_later ts u t sorts s sh es fu ft =
        let start = quietly p o (rules.bind g.parameters ts) s in
        let begun : Shaped p sorts g.parameters start = record { store = bound_shape sorts s.next g.parameters ts es; path = sh.path; heap = tt; old = tt; own = sh.own } in
        let sides = sides_fine g.parameters (joined g.place g.requires) g.body g.of asked asked_speaks says.typed.body says.body sorts start u (level_more s.level) begun fu in
        facts_later (gathered start (λ w. equals t w) (sides_of p o g g.body u start)) s sh
        (gathered_fine sorts s.next start (sort_of_type g.of) (λ w. equals t w) (sides_of p o g g.body u start) (λ v fv. equals_fine ft fv) sides)

    promise_later : {scope : Scope} (ts : List Term) (u t : Term) (sorts : Sorts fs) (s : rules.State) → Shaped p sorts scope s → AllFine sorts s.next g.parameters ts → Fine sorts s.next u SnapSort → Fine sorts s.next t (sort_of_type g.of) →
        Later p sorts scope s.next (with_promise p o g ts u t s)
    promise_later ts u t sorts s sh es fu ft =
        let start = quietly p o (rules.bind g.parameters ts ++ (result_name, t) ∷ []) s in
        let inside = g.parameters ++ result_of g ∷ [] in
        let begun : Shaped p sorts inside start = record { store = shape_append s.next g.parameters (rules.bind g.parameters ts) (result_of g) t (bound_shape sorts s.next g.parameters ts es) ft; path = sh.path; heap = tt; old = tt; own = sh.own } in
        let e = conjoined g.place g.ensures in
        let sides = sides_fine inside (joined g.place g.requires) e type.Bool (typed_longer p g.parameters (result_of g ∷ []) (joined g.place g.requires) asked) asked_speaks
        (conjoined_typed p inside g.place g.ensures says.typed.ensures) (conjoined_speaks Held g.place g.ensures says.ensures) sorts start u (level_more s.level) begun fu in
        facts_later (gathered start (λ w. w) (sides_of p o g e u start)) s sh (gathered_fine sorts s.next start BoolSort (λ w. w) (sides_of p o g e u start) (λ v fv. fv) sides)

    equations_later : {scope : Scope} (ts : List Term) (u t : Term) (sorts : Sorts fs) (s : rules.State) → Shaped p sorts scope s → AllFine sorts s.next g.parameters ts → Fine sorts s.next u SnapSort → Fine sorts s.next t (sort_of_type g.of) →
        Later p sorts scope s.next (with_equations p o g ts u t s)
    equations_later {scope = scope} ts u t sorts s sh es fu ft = go (nat_lt s.level 3)
      where
        go : (b : Bool) → Later p sorts scope s.next (cond b (with_promise p o g ts u t (with_body p o g ts u t s)) s)
        go true =
            let b = body_later ts u t sorts s sh es fu ft in
            let c = promise_later ts u t b.le.sorts (with_body p o g ts u t s) b.shaped (all_fine_later g.parameters ts b.le es) (fine_later b.le fu) (fine_later b.le ft) in
            record { le = above b.le c.le; shaped = c.shaped }
        go false = record { le = stays; shaped = sh }

    -- Its measure, and the application

    lesser_fine : {sorts : Sorts fs} {n : ℕ} (own : Option Term) (m : Term) → MeasureFine sorts n own → Fine sorts n m IntSort → Fine sorts n (lesser p o own m) BoolSort
    lesser_fine None m k fm = truth_fine false
    lesser_fine (Some t) m k fm = and_fine (less_equal_fine (inl refl) (number_fine (pos 0)) k) (less_fine (inl refl) fm k)

    module _ (P : Saying) (outer : OuterLive fs P p Held o) where
      decreasing_live : {scope : Scope} (own : rules.Own) (at : Place) (ts : List Term) (sorts : Sorts fs) (s : rules.State) (on : Going) → Shaped p sorts scope s → AllFine sorts s.next g.parameters ts → MeasureFine sorts s.next own.measure →
          Follows P p sorts s.next scope on → (m : Option Measure) → IsTypedMeasure p g.parameters m → MeasureSpeaks Held m → LiveBy fs P (decreasing p o own m (rules.bind g.parameters ts) at s on)
      decreasing_live own at ts sorts s on sh es k h None t w = never_live P at MeasureCode sh
      decreasing_live own at ts sorts s on sh es k h (Some (ByNumber e)) t w =
          outer.eval g.parameters e type.Int t w sorts (entered (rules.bind g.parameters ts) at s) _ (entered_shape g.parameters ts at sh es) (λ m s1 le sh1 fm.
          ask_live P (lesser p o own.measure m) at MeasureCode on (back_shape {s = s1} le sh sh1) (lesser_fine own.measure m (measure_le own.measure le k) fm) (λ s2 le2 sh2. h s2 (above le le2) sh2))
      decreasing_live own at ts sorts s on sh es k h (Some (ByInstance place i us)) t w =
          outer.evals g.parameters us t.0.parameters t.2 w.1 sorts (entered (rules.bind g.parameters ts) at s) _ (entered_shape g.parameters ts at sh es) (λ vs s1 le sh1 fvs.
          let s2 = back s s1 in
          let b = back_shape {s = s1} le sh sh1 in
          first_inner_live P (instance_key i vs) (holds_some vs) at MeasureCode (λ c. on s2) (never at MeasureCode s2) b
          (λ c pl. (some_fine vs c.chunk (found_shape pl b.heap) (instance_arguments p _ _ i t.0 vs t.1 fvs), h s2 le b)) (never_live P at MeasureCode b))

      measured_live : {scope : Scope} (at : Place) (ts : List Term) (sorts : Sorts fs) (s : rules.State) (on : Going) → Shaped p sorts scope s → AllFine sorts s.next g.parameters ts → Follows P p sorts s.next scope on →
          LiveBy fs P (measured p o f g (rules.bind g.parameters ts) at s on)
      measured_live at ts sorts s on sh es h = go s.own sh.own
        where
          by_own : Option rules.Own → Tree
          by_own None = Step (on s)
          by_own (Some own) = cond (rules.is_quiet s) (Step (on s)) (cond (is_in_group p own.function f) (decreasing p o own g.decreases (rules.bind g.parameters ts) at s on) (Step (on s)))

          go : (own : Option rules.Own) → OwnFine sorts s.next own → LiveBy fs P (by_own own)
          go None k = h s stays sh
          go (Some own) k =
              live_case _ P (rules.is_quiet s) (Step (on s)) _ (h s stays sh)
              (live_case _ P (is_in_group p own.function f) (decreasing p o own g.decreases (rules.bind g.parameters ts) at s on) (Step (on s)) (decreasing_live own at ts sorts s on sh es k h g.decreases says.typed.measure says.measure) (h s stays sh))

  pub applied_live : (P : Saying) → AppliesLive fs P p Held o
  applied_live P f g held is scope at ts sorts s on sh es h = subst (λ d. LiveBy fs P (of_function d)) (sym is) by_function
    where
      says : FunctionSays Held p fs f g
      says = spoken.functions f g held is

      context : Context
      context = record { pure = FunctionCode; permission = FunctionCode; builds = true }

      -- after the measure, and after the precondition
      told : Function → Term → Going
      told d u s3 =
          let t = application (function_number p f) (sort_of_type d.of) u (terms ts) in
          Step (on t (with_equations p o d ts u t s3))

      taken : Function → Giving
      taken d snapshot s1 =
          let s2 = rules.with_heap s.heap (back s s1) in
          measured p o f d (rules.bind d.parameters ts) at (after_name snapshot s2) (told d (name_of snapshot s2))

      of_function : Option Function → Tree
      of_function None = never at FunctionCode s
      of_function (Some d) = Step (o.consume (joined d.place d.requires) context whole_amount s.heap (entered (rules.bind d.parameters ts) at s) (taken d))

      by_function : LiveBy fs P (of_function (Some g))
      by_function =
          let outer = all P in
          outer.consume g.parameters (joined g.place g.requires) (asked f g says) (asked_speaks f g says) sorts (entered (rules.bind g.parameters ts) at s) context whole_amount s.heap (taken g) (entered_shape g.parameters ts at sh es) sh.heap whole_fine (λ snapshot s1 le sh1 fu.
          let s2 = rules.with_heap s.heap (back s s1) in
          let n = named {s = s2} snapshot SnapSort (with_chunks s.heap le sh.heap (back_shape {s = s1} le sh sh1)) fu in
          let past = above le n.le in
          measured_live f g says P outer at ts n.le.sorts (after_name snapshot s2) (told g (name_of snapshot s2)) n.shaped (all_fine_later g.parameters ts past es) (λ s3 le3 sh3.
          let u = name_of snapshot s2 in
          let t = application (function_number p f) (sort_of_type g.of) u (terms ts) in
          let further = above past le3 in
          let es3 = all_fine_later g.parameters ts further es in
          let ft = application_fine le3.sorts s3.next (function_number p f) g ts says.symbol (fine_later le3 n.formed) es3 in
          let r = equations_later f g says ts u t le3.sorts s3 sh3 es3 (fine_later le3 n.formed) ft in
          h t (with_equations p o g ts u t s3) (above further r.le) r.shaped (fine_later r.le ft)))

  pub parts_live : (P : Saying) → PartsLive fs P p Held o
  parts_live P = record { unfolds = unfolded_live P p Held spoken o (all P); applies = applied_live P }

-- At every depth; past it nothing is allowed.
module _ {fs : List Declared} (p : Program) (Held : Name → Type 0) (spoken : Spoken Held p fs) where
  pub outer_live : (n : ℕ) (P : Saying) → OuterLive fs P p Held (outer p n)
  outer_live zero P = record {
    eval = λ scope e t te k sorts s on sh h. never_live P nowhere AssertCode sh;
    evals = λ scope es ds tes k sorts s on sh h. never_live P nowhere AssertCode sh;
    produce = λ scope a ta k sorts s scale snapshot on sh q z h. never_live P nowhere AssertCode sh;
    consume = λ scope a ta k sorts s x scale heap on sh hs q h. never_live P nowhere AssertCode sh;
  }
  outer_live (suc n) P =
      let parts = parts_live p Held spoken (outer p n) (outer_live n) (λ (Q : Saying). outer_left Q p n) P in
      record {
        eval = λ scope e t te k sorts s on sh h. eval_live P p Held (outer p n) parts te k on sh h;
        evals = λ scope es ds tes k sorts s on sh h. evals_live P p Held (outer p n) parts tes k on sh h;
        produce = λ scope a ta k sorts s scale snapshot on sh q z h. produce_live P p Held (outer p n) parts a ta k scale snapshot on sh q z h;
        consume = λ scope a ta k sorts s x scale heap on sh hs q h. consume_live P p Held (outer p n) parts a ta k x scale heap on sh hs q h;
      }

  pub all_parts_live : (n : ℕ) (P : Saying) → PartsLive fs P p Held (outer p n)
  all_parts_live n P = parts_live p Held spoken (outer p n) (outer_live n) (λ (Q : Saying). outer_left Q p n) P
