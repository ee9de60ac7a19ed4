-- What is shown of rules for the parts of others; and instances that are unfolded and folded, and calls, over them.
use Rattle.std.proofs.Common.{◌≡◌, ℕ, true, List, [], ◌∷◌, ◌++◌, length, drop, Option, Some, None, refl, sym, subst}
use Rattle.vx_ast.specs.declared.Place.{Place}
use Rattle.vx_ast.specs.declared.ValueType.{ValueType}
use Rattle.vx_ast.specs.Syntax.{Name, Program, Declaration, Predicate, Method, predicate_named, joined, Expr, Exprs, Assertion}
use Rattle.vx_terms.specs.Sorts.{RealSort, SnapSort}
use Rattle.vx_terms.specs.Terms.{Term}
use Rattle.vx_terms.specs.Build.{whole_amount}
use Rattle.vx_smt_meaning.specs.Commands.{Declared}
use Rattle.vx_rules.specs.States as rules
use Rattle.vx_rules.specs.States.{sort_of_type}
use Rattle.vx_rules.specs.Trees.{UnfoldCode, FoldCode, CallCode, Tree, Step}
use Rattle.vx_rules.specs.Chunks.{instance_key, put}
use Rattle.vx_rules.specs.Rules.{Giving, Going, GivingAll, Context, Outer, never, entered, back, leads_inside}
use Rattle.vx_rules.specs.Members.{codes, called, folded}
use Rattle.vx_types.specs.Typing.{Scope, HasType, HaveTypes, IsTyped, TargetsHaveTypes}
use Rattle.vx_elements.proofs.Scopes.{joined_typed}
use Rattle.vx_live.proofs.Over.{Sorts, Above, above, Fine, fine_later, whole_fine}
use Rattle.vx_live.proofs.Shapes.{StoreShape, AllFine, all_fine_later, HeapShape, Shaped, shape_assign, store_le, heap_le, declared_all, named, entered_shape, back_shape}
use Rattle.vx_live.proofs.Speaks.{Speaks, AllSpeak, SpeaksOf, joined_speaks, HasContract, Spoken}
use Rattle.vx_live.proofs.LiveSteps.{Saying, LiveBy, Follows, FollowsWith, FollowsAll, never_live}
use Rattle.vx_live.proofs.LiveChunks.{put_live}
use Rattle.vx_live.proofs.LiveSums.{take_live}
use Rattle.vx_live.proofs.LiveEvaluate.{UnfoldsLive}
use Rattle.vx_live.proofs.LiveAssertions.{SnapshotFine, instance_arguments}

-- what is typed, and mentions only what may be mentioned
pub record OuterLive (fs : List Declared) (P : Saying) (p : Program) (Held : Name → Type 0) (o : Outer) : Type 0 where
  pub eval : (scope : Scope) (e : Expr) (t : ValueType) → HasType p scope e t → Speaks Held e → (sorts : Sorts fs) (s : rules.State) (on : Giving) → Shaped p sorts scope s →
      FollowsWith P p sorts s.next scope (sort_of_type t) on → LiveBy fs P (o.eval e s on)
  pub evals : (scope : Scope) (es : Exprs) (ds : List Declaration) → HaveTypes p scope es ds → AllSpeak Held es → (sorts : Sorts fs) (s : rules.State) (on : GivingAll) → Shaped p sorts scope s →
      FollowsAll P p sorts s.next scope ds on → LiveBy fs P (o.evals es s on)
  pub produce : (scope : Scope) (a : Assertion) → IsTyped p scope a → SpeaksOf Held a → (sorts : Sorts fs) (s : rules.State) (scale : Term) (snapshot : Option Term) (on : Going) → Shaped p sorts scope s →
      Fine sorts s.next scale RealSort → SnapshotFine sorts s.next snapshot → Follows P p sorts s.next scope on → LiveBy fs P (o.produce a scale snapshot s on)
  pub consume : (scope : Scope) (a : Assertion) → IsTyped p scope a → SpeaksOf Held a → (sorts : Sorts fs) (s : rules.State) (x : Context) (scale : Term) (heap : rules.Heap) (on : Giving) → Shaped p sorts scope s →
      HeapShape p sorts s.next heap → Fine sorts s.next scale RealSort → FollowsWith P p sorts s.next scope SnapSort on → LiveBy fs P (o.consume a x scale heap s on)

-- what is shown of an instance that is folded
abbrev pub FoldsLive : List Declared → Saying → Program → (Name → Type 0) → Outer → Type 0
FoldsLive fs P p Held o =
    (i : Name) (d : Predicate) → Held i → predicate_named p i ≡ Some d → (scope : Scope) (at : Place) (ts : List Term) (a : Term) (sorts : Sorts fs) (s : rules.State) (on : Going) → Shaped p sorts scope s → AllFine sorts s.next d.parameters ts →
    Fine sorts s.next a RealSort → Follows P p sorts s.next scope on → LiveBy fs P (folded p o at i ts a s on)

-- and of a call whose arguments are named
abbrev pub CallsLive : List Declared → Saying → Program → (Name → Type 0) → Outer → Type 0
CallsLive fs P p Held o =
    (m : Method) → HasContract Held p m → (scope : Scope) (at : Place) (xs : List Name) (ts : List Term) (sorts : Sorts fs) (s : rules.State) (on : Going) → TargetsHaveTypes p scope xs m.returns → Shaped p sorts scope s →
    AllFine sorts s.next m.parameters ts → Follows P p sorts s.next scope on → LiveBy fs P (called p o at m ts xs s on)

-- The terms of returns

stored_terms : {fs : List Declared} (sorts : Sorts fs) (n : ℕ) (es : List Declaration) (xs : rules.Store) → StoreShape sorts n es xs → AllFine sorts n es (rules.terms_in xs)
stored_terms sorts n [] [] h = tt
stored_terms sorts n (e ∷ es) (x ∷ xs) h = (h.1, stored_terms sorts n es xs h.2)
stored_terms sorts n [] (x ∷ xs) h = absurd h
stored_terms sorts n (e ∷ es) [] h = absurd h

-- there are as many terms as declarations
abbrev AreAsMany : List Declaration → List Term → Type 0
AreAsMany [] [] = Unit {0}
AreAsMany (d ∷ ds) (t ∷ ts) = AreAsMany ds ts
AreAsMany _ _ = ⊥

as_many : {fs : List Declared} (sorts : Sorts fs) (n : ℕ) (ds : List Declaration) (ts : List Term) → AllFine sorts n ds ts → AreAsMany ds ts
as_many sorts n [] [] h = tt
as_many sorts n (d ∷ ds) (t ∷ ts) h = as_many sorts n ds ts h.1
as_many sorts n [] (t ∷ ts) h = absurd h
as_many sorts n (d ∷ ds) [] h = absurd h

-- behind as many parameters as there are arguments
returned_terms : {fs : List Declared} (sorts : Sorts fs) (n : ℕ) (ds es : List Declaration) (ts : List Term) → AreAsMany ds ts → (xs : rules.Store) → StoreShape sorts n (ds ++ es) xs → AllFine sorts n es (drop (length ts) (rules.terms_in xs))
returned_terms sorts n [] es [] h xs k = stored_terms sorts n es xs k
returned_terms sorts n (d ∷ ds) es (t ∷ ts) h (x ∷ xs) k = returned_terms sorts n ds es ts h xs k.2
returned_terms sorts n (d ∷ ds) es (t ∷ ts) h [] k = absurd k
returned_terms sorts n [] es (t ∷ ts) h xs k = absurd h
returned_terms sorts n (d ∷ ds) es [] h xs k = absurd h

shape_assign_all : {fs : List Declared} (p : Program) (sorts : Sorts fs) (n : ℕ) (scope : Scope) (names : List Name) (es : List Declaration) (us : List Term) → TargetsHaveTypes p scope names es → AllFine sorts n es us → (xs : rules.Store) → StoreShape sorts n scope xs →
    StoreShape sorts n scope (rules.assign_all names us xs)
shape_assign_all p sorts n scope [] [] [] t h xs sh = sh
shape_assign_all p sorts n scope (x ∷ names) (e ∷ es) (u ∷ us) t h xs sh = shape_assign_all p sorts n scope names es us t.1 h.1 (rules.assign x u xs) (shape_assign n x e.of u scope xs sh t.0 h.0)
shape_assign_all p sorts n scope [] [] (u ∷ us) t h xs sh = absurd h
shape_assign_all p sorts n scope [] (e ∷ es) us t h xs sh = absurd t
shape_assign_all p sorts n scope (x ∷ names) [] us t h xs sh = absurd t
shape_assign_all p sorts n scope (x ∷ names) (e ∷ es) [] t h xs sh = absurd h

-- the codes of a body that is folded
abbrev folding : Context
folding = record { pure = FoldCode; permission = FoldCode; builds = true }

module _ {fs : List Declared} (P : Saying) (p : Program) (Held : Name → Type 0) (spoken : Spoken Held p fs) (o : Outer) (outer : OuterLive fs P p Held o) where
  pub unfolded_live : UnfoldsLive fs P p Held o
  unfolded_live i d held is scope at ts a sorts s on sh es fa h =
      take_live P (instance_key i ts) a at UnfoldCode (λ c s1. of_predicate c s1 (predicate_named p i)) sh (instance_arguments p sorts s.next i d ts is es) fa (λ c s1 le sh1 v.
      subst (λ x. LiveBy fs P (of_predicate c s1 x)) (sym is) (by_body c s1 le sh1 v d.body refl))
    where
      of_body : rules.Chunk → rules.State → Predicate → Option Assertion → Tree
      of_body c s1 d None = never at UnfoldCode s1
      of_body c s1 d (Some e) = o.produce e a (Some c.value) (record (entered (rules.bind d.parameters ts) at s1) { inner = leads_inside c }) (λ s2. on (back s s2))

      of_predicate : rules.Chunk → rules.State → Option Predicate → Tree
      of_predicate c s1 None = never at UnfoldCode s1
      of_predicate c s1 (Some d) = of_body c s1 d d.body

      by_body : (c : rules.Chunk) (s1 : rules.State) (le : Above sorts s.next s1.next) → Shaped p le.sorts scope s1 → Fine le.sorts s1.next c.value SnapSort → (b : Option Assertion) → d.body ≡ b → LiveBy fs P (of_body c s1 d b)
      by_body c s1 le sh1 v None e = never_live P at UnfoldCode sh1
      by_body c s1 le sh1 v (Some body) e =
          let inside = entered_shape d.parameters ts at sh1 (all_fine_later d.parameters ts le es) in
          let b = spoken.bodies i d body held is e in
          outer.produce d.parameters body b.0 b.1 le.sorts (record (entered (rules.bind d.parameters ts) at s1) { inner = leads_inside c }) a (Some c.value) (λ s2. on (back s s2))
          (record { store = inside.store; path = inside.path; heap = inside.heap; old = inside.old; own = inside.own }) (fine_later le fa) v (λ s2 le2 sh2.
          h (back s s2) (above le le2) (back_shape (above le le2) sh sh2))

  pub folded_live : FoldsLive fs P p Held o
  folded_live i d held is scope at ts a sorts s on sh es fa h = subst (λ x. LiveBy fs P (of_predicate x)) (sym is) (by_body d.body refl)
    where
      after : Giving
      after snapshot s1 = Step (on (put (record (instance_key i ts) { amount = a; value = rules.name_of snapshot (back s s1) }) (rules.after_name snapshot (back s s1))))

      of_body : Predicate → Option Assertion → Tree
      of_body d None = never at FoldCode s
      of_body d (Some e) = Step (o.consume e folding a s.heap (entered (rules.bind d.parameters ts) at s) after)

      of_predicate : Option Predicate → Tree
      of_predicate None = never at FoldCode s
      of_predicate (Some d) = of_body d d.body

      by_body : (b : Option Assertion) → d.body ≡ b → LiveBy fs P (of_body d b)
      by_body None e = never_live P at FoldCode sh
      by_body (Some body) e =
          let b = spoken.bodies i d body held is e in
          outer.consume d.parameters body b.0 b.1 sorts (entered (rules.bind d.parameters ts) at s) folding a s.heap after (entered_shape d.parameters ts at sh es) sh.heap fa (λ snapshot s1 le sh1 v.
          let n = named snapshot SnapSort (back_shape {s = s1} le sh sh1) v in
          let past = above le n.le in
          let l = put_live (record (instance_key i ts) { amount = a; value = rules.name_of snapshot (back s s1) }) n.shaped
          (record { arguments = instance_arguments p _ _ i d ts is (all_fine_later d.parameters ts past es); amount = fine_later past fa; content = n.formed }) in
          h (put (record (instance_key i ts) { amount = a; value = rules.name_of snapshot (back s s1) }) (rules.after_name snapshot (back s s1))) (above past l.le) l.shaped)

  pub called_live : CallsLive fs P p Held o
  called_live m c scope at xs ts sorts s on t sh f h =
      outer.consume m.parameters (joined m.place m.requires) (joined_typed p m.parameters m.place m.requires c.typed_requires) (joined_speaks Held m.place m.requires c.requires)
      sorts (entered (rules.bind m.parameters ts) at s) (codes CallCode CallCode) whole_amount s.heap _ (entered_shape m.parameters ts at sh f) sh.heap whole_fine (λ u s1 le sh1 fu.
      let r = declared_all p m.returns m.parameters (record s1 { old = s.heap }) (record { store = sh1.store; path = sh1.path; heap = sh1.heap; old = heap_le p s.heap le sh.heap; own = sh1.own }) in
      outer.produce (m.parameters ++ m.returns) (joined m.place m.ensures) (joined_typed p (m.parameters ++ m.returns) m.place m.ensures c.typed_ensures) (joined_speaks Held m.place m.ensures c.ensures) _ _ whole_amount None _ r.shaped whole_fine tt (λ s2 le2 sh2.
      let inside = rules.declare_all m.returns (record s1 { old = s.heap }) in
      let us = drop (length ts) (rules.terms_in inside.store) in
      let le3 = above le (above r.le le2) in
      h (rules.with_store (rules.assign_all xs us s.store) (record (back s s2) { old = s.old })) le3
      (record {
        store = shape_assign_all p _ s2.next scope xs m.returns us t (all_fine_later m.returns us le2 (returned_terms _ inside.next m.parameters m.returns ts (as_many sorts s.next m.parameters ts f) inside.store r.shaped.store)) s.store (store_le scope s.store le3 sh.store);
        path = sh2.path;
        heap = sh2.heap;
        old = heap_le p s.old le3 sh.old;
        own = sh2.own;
      })))
