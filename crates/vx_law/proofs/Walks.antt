-- What the walk of a function gives where it starts, if all applications below the one keep their promises: so all functions keep theirs.
use Rattle.std.proofs.Common.{◌≡◌, ℤ, Bool, true, false, List, Option, Some, None, refl, sym, ◌∙◌, ap, subst, true≢false}
use Rattle.vx_ast.specs.Syntax.{Name, Program, IsFunction, Function, function_named}
use Rattle.vx_ast.specs.Mentions.{mentioned_by_function}
use Rattle.vx_ast.specs.Apart.{Stands, entered_by}
use Rattle.vx_smt_meaning.specs.declared.reply.Reply.{Reply}
use Rattle.vx_meaning.specs.Values.{Value}
use Rattle.vx_meaning.specs.States as run
use Rattle.vx_meaning.specs.States.{State, Heap, bind}
use Rattle.vx_meaning.specs.Fails.{FunctionStarts}
use Rattle.vx_meaning.specs.Group.{Reaches}
use Rattle.vx_terms.specs.Terms.{Term}
use Rattle.vx_terms.specs.Interpretations.{Interpretation}
use Rattle.vx_rules.specs.States as rules
use Rattle.vx_rules.specs.Groups.{is_in_group}
use Rattle.vx_rules.specs.Members.{depth, rules as member_rules, tree}
use Rattle.vx_types.specs.Typing.{Scope}
use Rattle.vx_types.specs.Premises.{IsTypedProgram}
use Rattle.vx_types.specs.Closure.{InClosure}
use Rattle.vx_sound.proofs.Marks.{Marks}
use Rattle.vx_sound.proofs.World.{Walked, World}
use Rattle.vx_sound.proofs.Stands.{OwnStands}
use Rattle.vx_sound.proofs.Candidates.{values_typed}
use Rattle.vx_sound.proofs.Evaluate.{PartsGo}
use Rattle.vx_sound.proofs.Passes.{cleared}
use Rattle.vx_sound_preds.specs.Covered.{PredicatesPass}
use Rattle.vx_sound_preds.proofs.Holding.{Applying, functions_world}
use Rattle.vx_sound_preds.proofs.Speaking.{good, no_perm, speak}
use Rattle.vx_sound_preds.proofs.Unfolds.{AppliesBy, parts_go}
use Rattle.vx_sound_preds.proofs.Lowered.{LowersFrom}
use Rattle.vx_sound_preds.proofs.Functions.{IsMeasureOf, OwnWalk, in_body_of, outside, inside, at_start, at_measure, own_walk}
use Rattle.vx_sound_preds.proofs.FunctionWalks.{walkable}
use Rattle.vx_sound_funcs.specs.Told.{precondition_of}
use Rattle.vx_sound_funcs.specs.Firm.{GoodFunctions}
use Rattle.vx_law.specs.Means.{Means}
use Rattle.vx_law.specs.Walks.{FunctionsPass, FunctionsKeep, KeepsAt}
use Rattle.vx_law.specs.Allowed.{LowerKeep, IsAllowedWhereTaken}
use Rattle.vx_law.proofs.Below.{asked_mentioned}
use Rattle.vx_law.specs.Measures.{IsBelow, lower_group, lesser_measure}
use Rattle.vx_law.proofs.Groups.{groups_agree}
use Rattle.vx_law.proofs.Tells.{IsAllowed, AllowedKeep, AllowedMeasured, applies_go}
use Rattle.vx_law.proofs.Measured.{lowers_measure}
use Rattle.vx_law.proofs.FromBelow.{BelowKeep, Gives, WalksGive, functions_keep}
use Rattle.vx_law.proofs.Lower.{IsLower, leads_on, reaches_one, reaches_on, keep_on, asked_is_lower}
use Rattle.vx_law.proofs.Taken.{asks_parts, taken_is_allowed}

module _ (p : Program) (x : Name) (replies : Name → List Reply) (typed : IsTypedProgram p) (functions : GoodFunctions p) (predicates : PredicatesPass p x replies) (pass : FunctionsPass p x replies)
    (f : Name) (g : Function) (leads : InClosure p x f) (named : function_named p f ≡ Some g) where
  -- what f's body may apply: what it reaches
  abbrev pub Reached : Name → Type 0
  Reached y = InClosure p x y × Reaches p f y

  pub may : (y : Name) (d : Function) → Stands y (mentioned_by_function g) → function_named p y ≡ Some d → InClosure p x y → Reached y
  may y d s is c = (c, reaches_one p x f g named y s)

  -- what it reaches mentions what it reaches
  pub closed : (f' : Name) (g' : Function) (y : Name) (d : Function) → Reached f' → function_named p f' ≡ Some g' → Stands y (entered_by (precondition_of g')) → function_named p y ≡ Some d → Reached y
  closed f' g' y d r named' s is =
      let seen = asked_mentioned p g' y s in
      (leads_on p x f' g' r.0 named' y seen, reaches_on p x f f' y r.1 (reaches_one p x f' g' named' y seen))

  -- it is allowed where its precondition is taken
  taken_reached : LowerKeep p x f → (f' : Name) (g' : Function) → Reached f' → function_named p f' ≡ Some g' → IsAllowedWhereTaken p x f' g'
  taken_reached lower f' g' r named' = taken_is_allowed p x replies typed functions predicates pass f' g' r.0 named' (keep_on p x f f' r.1 lower)

  module _ (s : State) (starts : FunctionStarts p g s) (z : Option ℤ) (marks : Marks) (is : IsMeasureOf p s g.decreases z marks) where
    abbrev pub applying : Applying
    applying = in_body_of (λ y. InClosure p x y × Reaches p f y) f z marks s.heap (LowersFrom p f g s)

    abbrev world : World
    world = functions_world p (good p x typed) (InClosure p x) (no_perm p x typed) true applying

    abbrev walked : Walked
    walked = record { function = f; measure = z; heap = s.heap }

    abbrev Allowed : Scope → Interpretation → rules.State → run.State → Name → Function → List Term → List Value → Term → Type 0
    Allowed = IsAllowed p x replies typed functions predicates (in_body_of (λ y. InClosure p x y × Reaches p f y) f z marks s.heap (LowersFrom p f g s))

    -- its applications are evaluated in the heap of the start
    heaps : (n : _) (i : Interpretation) (h o : Heap) (own : Option rules.Own) → OwnStands (Means p x) world n i h o own (Some walked) → (h ≡ s.heap) × (o ≡ s.heap)
    heaps n i h o (Some own) k = (k.2, k.3)
    heaps n i h o None k = absurd k

    old_is : s.old_heap ≡ s.heap
    old_is = let e = starts.2.3 in ap (λ (s : State). s.old_heap) e ∙ sym (ap (λ (s : State). s.heap) e)

    -- and lower its measure, if they are of its group
    pub measured : AllowedMeasured p x replies typed functions predicates (in_body_of (λ y. InClosure p x y × Reaches p f y) f z marks s.heap (LowersFrom p f g s))
    measured scope i st c f' g' ts vs term a =
        let there = heaps st.next i c.heap c.old_heap st.own a.stands.owned in
        λ same group. lowers_measure (Means p x) p (good p x typed) (InClosure p x) (no_perm p x typed) (in_body_of (λ y. InClosure p x y × Reaches p f y) f z marks s.heap (LowersFrom p f g s)) f s z g.decreases is c there.0 (there.1 ∙ sym old_is) f' g' vs a.is i st.heap
        (a.lowers (record { function = f; measure = z; heap = s.heap }) refl group)

    module _ (lower : LowerKeep p x f) (ws : List Value) (store : s.store ≡ bind g.parameters ws) (below : BelowKeep p x s.heap f ws) where
      -- so they are below it
      keeps : AllowedKeep p x replies typed functions predicates (in_body_of (λ y. InClosure p x y × Reaches p f y) f z marks s.heap (LowersFrom p f g s))
      keeps scope i st c f' g' ts vs term a =
          let there = heaps st.next i c.heap c.old_heap st.own a.stands.owned in
          subst (λ (h : Heap). KeepsAt p f' g' vs h) (sym there.0) (below f' g' vs a.applied.0 a.is (values_typed (Means p x) world st.next i g'.parameters ts vs a.each) (go (is_in_group p f f') refl there.0))
        where
          go : (b : Bool) → is_in_group p f f' ≡ b → c.heap ≡ s.heap → IsBelow p s.heap f ws f' vs
          go true e same =
              let l = measured scope i st c f' g' ts vs term a same e in
              lesser_measure ((groups_agree p f f').0 e) record { caller = g; named = named; start = record { state = s; starts = starts; store = store; heap = refl }; measure = l.0; has_measure = l.1; lowers = l.2 }
          go false e same = lower_group a.applied.1 (λ back. absurd (true≢false (sym ((groups_agree p f f').1 (a.applied.1, back)) ∙ e)))

      pub applies_below : AppliesBy (Means p x) p (good p x typed) (InClosure p x) (no_perm p x typed) true (in_body_of (λ y. InClosure p x y × Reaches p f y) f z marks s.heap (LowersFrom p f g s)) (speak p x typed)
      applies_below = applies_go p x replies typed functions predicates (in_body_of (λ y. InClosure p x y × Reaches p f y) f z marks s.heap (LowersFrom p f g s)) (λ y k. k.0) closed (taken_reached lower) keeps measured

  -- the walk at one start
  module _ (lower : LowerKeep p x f) (ws : List Value) (s : State) (starts : FunctionStarts p g s) (store : s.store ≡ bind g.parameters ws) (below : BelowKeep p x s.heap f ws) where
    parts : PartsGo (Means p x) (outside (Means p x) p (good p x typed) (InClosure p x) (no_perm p x typed) (IsLower p x f) Reached) (member_rules p)
    parts = asks_parts p x replies typed functions predicates f lower (λ f' g' l named'. taken_reached lower f' g' (l.0, l.1) named')

    inner : (z : Option ℤ) (marks : Marks) → IsMeasureOf p s g.decreases z marks → PartsGo (Means p x) (inside (Means p x) p (good p x typed) (InClosure p x) (no_perm p x typed) (IsLower p x f) Reached f z marks s.heap (LowersFrom p f g s)) (member_rules p)
    unfolding member_rules
    inner z marks is = parts_go (Means p x) p (good p x typed) (InClosure p x) (no_perm p x typed) true (in_body_of Reached f z marks s.heap (LowersFrom p f g s)) (speak p x typed) (applies_below s starts z marks is lower ws store below) (depth p)

    walk : OwnWalk p g (LowersFrom p f g s s.heap) s
    walk =
        let own = pass f g leads named in
        let w = cleared (tree p f (IsFunction g)) (replies f) own.0 own.1 in
        let says = walkable p x typed f g leads named (functions.asks f g named) (IsLower p x f) Reached (λ y d s named' leads'. asked_is_lower p x typed f g leads named y s) may in
        let m = at_measure (Means p x) p (good p x typed) (InClosure p x) (no_perm p x typed) (IsLower p x f) Reached (member_rules p) parts f g says w s starts in
        own_walk (Means p x) p (good p x typed) (InClosure p x) (no_perm p x typed) (IsLower p x f) Reached (member_rules p) parts f g says w m.number m.marks s.heap (LowersFrom p f g s) (inner m.number m.marks m.is) s refl
        (at_start (Means p x) p (good p x typed) (InClosure p x) (no_perm p x typed) (IsLower p x f) Reached (member_rules p) parts f g says w s starts).old_is m.entered

    pub gives : Gives p f g s
    gives = record {
      value = walk.result;
      fits = walk.fits;
      promise = walk.kept;
      body_lowers = λ a ev group. walk.in_body a ev refl ((groups_agree p f a.0).1 group);
      promise_lowers = λ a ev group. walk.in_postcondition a ev refl ((groups_agree p f a.0).1 group);
    }

module _ (p : Program) (x : Name) (replies : Name → List Reply) (typed : IsTypedProgram p) (functions : GoodFunctions p) (predicates : PredicatesPass p x replies) (pass : FunctionsPass p x replies) where
  walks_give : WalksGive p x
  walks_give f g leads named lower ws types s starts store below = gives p x replies typed functions predicates pass f g leads named lower ws s starts store below

  -- where the walks of predicates and functions passed, all functions that x leads to keep what they promise
  pub promises_kept : FunctionsKeep p x
  promises_kept = functions_keep p x typed functions (λ f g. (groups_agree p f g).1) (taken_is_allowed p x replies typed functions predicates pass) walks_give
