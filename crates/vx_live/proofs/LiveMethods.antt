-- Methods and predicates ask well-sorted questions.
use Rattle.std.proofs.Common.{◌≡◌, false, List, [], ◌++◌, length, take, Option, Some, None, refl, sym, subst}
use Rattle.std.proofs.Math.Seq.{take-append_seam}
use Rattle.vx_ast.specs.Syntax.{Name, Program, Predicate, Method, Assertion, Block, predicate_named}
use Rattle.vx_terms.specs.Sorts.{IntSort}
use Rattle.vx_terms.specs.Build.{whole_amount}
use Rattle.vx_terms.specs.Interpretations.{Each}
use Rattle.vx_smt_meaning.specs.Commands.{Declared}
use Rattle.vx_rules.specs.States as rules
use Rattle.vx_rules.specs.Trees.{PostCode, Tree, End, Fork}
use Rattle.vx_rules.specs.Rules.{Outer, produce}
use Rattle.vx_rules.specs.Members.{codes, blank, ended, promise_side, body_side, both_sides, sides, method_over, predicate_over}
use Rattle.vx_meaning.specs.Fails.{precondition_of, postcondition_of}
use Rattle.vx_types.specs.Typing.{Scope, IsTyped, IsTypedBlock, IsTypedBody, IsTypedMethod, scope_after_all}
use Rattle.vx_elements.proofs.Scopes.{scope_more, joined_typed, typed_longer, all_typed_longer}
use Rattle.vx_live.proofs.Over.{IsOfFunction, Sorts, whole_fine}
use Rattle.vx_live.proofs.Shapes.{StoreShape, Shaped, Later, shape_take, declared_all}
use Rattle.vx_live.proofs.Speaks.{SpeaksOf, joined_speaks, AllSay, BodySays, MethodSays, Spoken}
use Rattle.vx_live.proofs.LiveSteps.{Saying, LiveBy}
use Rattle.vx_live.proofs.LiveEvaluate.{PartsLive}
use Rattle.vx_live.proofs.LiveAssertions.{produce_live, consume_live}
use Rattle.vx_live.proofs.LiveParts.{FoldsLive, CallsLive}
use Rattle.vx_live.proofs.LiveStatements.{exec_all_live}

-- fresh parameters, of a member that begins
pub begun : {fs : List Declared} (functions : Each IsOfFunction fs) (p : Program) (ds : Scope) → Later p (record { of = λ n. IntSort; built_in = λ n. tt; functions = functions }) ds 0 (rules.declare_all ds blank)
begun functions p ds = declared_all p ds [] blank (record { store = tt; path = tt; heap = tt; old = tt; own = tt })

module _ {fs : List Declared} (functions : Each IsOfFunction fs) (P : Saying) (p : Program) (Held : Name → Type 0) (o : Outer) (parts : PartsLive fs P p Held o) (folds : FoldsLive fs P p Held o) (calls : CallsLive fs P p Held o) (m : Method) (t : IsTypedMethod p m) (k : MethodSays Held p m) where
  abbrev scope : Scope
  scope = m.parameters ++ m.returns

  post_typed : IsTyped p scope (postcondition_of m)
  post_typed = joined_typed p scope m.place m.ensures t.ensures

  post_speaks : SpeaksOf Held (postcondition_of m)
  post_speaks = joined_speaks Held m.place m.ensures k.ensures

  promise_live : {sorts : Sorts fs} (s : rules.State) → Shaped p sorts scope s → LiveBy fs P (promise_side p o m s)
  promise_live {sorts = sorts} s sh =
      let n = length m.parameters in
      let front : Shaped p sorts m.parameters (rules.leave n (rules.with_heap [] s)) = record {
        store = subst (λ z. StoreShape sorts s.next z (take n s.store)) (take-append_seam m.parameters m.returns) (shape_take _ s.next n scope s.store sh.store);
        path = sh.path;
        heap = tt;
        old = sh.old;
        own = sh.own;
      } in
      let r = declared_all p m.returns m.parameters (rules.leave n (rules.with_heap [] s)) front in
      produce_live P p Held o parts (postcondition_of m) post_typed post_speaks whole_amount None ended r.shaped whole_fine tt (λ s le sh. tt)

  body_live : {sorts : Sorts fs} (b : Block) (s : rules.State) → IsTypedBlock p scope b → AllSay Held p b → Shaped p sorts scope s → LiveBy fs P (body_side p o m b s)
  body_live b s tb kb sh =
      exec_all_live P p Held o parts folds calls b kb scope tb s _ sh (λ s1 le sh1.
      let r = scope_more p b scope in
      let wide : IsTyped p (scope_after_all p b scope) (postcondition_of m) = subst (λ z. IsTyped p z (postcondition_of m)) (sym r.1) (typed_longer p scope r.0 (postcondition_of m) post_typed) in
      consume_live P p Held o parts (postcondition_of m) wide post_speaks (codes PostCode PostCode) whole_amount s1.heap _ sh1 sh1.heap whole_fine (λ u s2 le2 sh2 f. tt))

  sides_live : {sorts : Sorts fs} (s : rules.State) → Shaped p sorts scope s → LiveBy fs P (both_sides p o m s)
  sides_live s sh = go m.body t.body k.body
    where
      go : (b : Option Block) → IsTypedBody p scope b → BodySays Held p b → LiveBy fs P (elim b as (λ b. Tree) [ None ↦ promise_side p o m s | Some b ↦ Fork (promise_side p o m s) (body_side p o m b s) ])
      go None tb kb = promise_live s sh
      go (Some b) tb kb = (promise_live s sh, body_live b s tb kb sh)

  pub over_live : LiveBy fs P (method_over p o m)
  over_live =
      let a = begun functions p m.parameters in
      let r = declared_all p m.returns m.parameters (rules.declare_all m.parameters blank) a.shaped in
      produce_live P p Held o parts (precondition_of m) (joined_typed p scope m.place m.requires (all_typed_longer p m.parameters m.returns m.requires t.requires)) (joined_speaks Held m.place m.requires k.requires)
      whole_amount None (sides p o m) r.shaped whole_fine tt (λ s le sh. sides_live (record s { old = s.heap }) (record { store = sh.store; path = sh.path; heap = sh.heap; old = sh.heap; own = sh.own }))

pub predicate_live : {fs : List Declared} (functions : Each IsOfFunction fs) (P : Saying) (p : Program) (Held : Name → Type 0) (o : Outer) → PartsLive fs P p Held o → Spoken Held p fs → (i : Name) (d : Predicate) → Held i → predicate_named p i ≡ Some d → LiveBy fs P (predicate_over p o d)
predicate_live {fs = fs} functions P p Held o parts spoken i d held named = go d.body (spoken.bodies i d)
  where
    go : (b : Option Assertion) → ((e : Assertion) → Held i → predicate_named p i ≡ Some d → b ≡ Some e → IsTyped p d.parameters e × SpeaksOf Held e) →
        LiveBy fs P (elim b as (λ b. Tree) [ None ↦ End | Some body ↦ produce p o body whole_amount None (record (rules.declare_all d.parameters blank) { bounded = false }) ended ])
    go None k = tt
    go (Some e) k =
        let b = k e held named refl in
        let a = begun functions p d.parameters in
        produce_live P p Held o parts e b.0 b.1 whole_amount None ended (record { store = a.shaped.store; path = a.shaped.path; heap = a.shaped.heap; old = a.shaped.old; own = a.shaped.own }) whole_fine tt (λ s le sh. tt)
