-- A function asks well-sorted questions: of its precondition, its measure at entry, its body and its postcondition.
use Rattle.std.proofs.Common.{true, List, [], ◌∷◌, ◌++◌, Option, Some, None}
use Rattle.vx_ast.specs.Syntax.{Name, result_name, Program, Declaration, Function, joined, conjoined, as_assertion, Measure, ByNumber, ByInstance}
use Rattle.vx_terms.specs.Sorts.{SnapSort}
use Rattle.vx_terms.specs.Terms.{Term}
use Rattle.vx_terms.specs.Build.{whole_amount}
use Rattle.vx_terms.specs.Interpretations.{Each}
use Rattle.vx_smt_meaning.specs.Commands.{Declared}
use Rattle.vx_rules.specs.States as rules
use Rattle.vx_rules.specs.Trees.{PostCode, MeasureCode}
use Rattle.vx_rules.specs.Chunks.{instance_key, holds_some}
use Rattle.vx_rules.specs.Rules.{Outer, never}
use Rattle.vx_rules.specs.Members.{codes, blank, rooted, function_body, from_measure, function_over}
use Rattle.vx_types.specs.Typing.{IsTypedMeasure}
use Rattle.vx_elements.proofs.Scopes.{joined_typed}
use Rattle.vx_sound.proofs.Conjoined.{conjoined_typed, assertion_typed}
use Rattle.vx_live.proofs.Over.{IsOfFunction, Sorts, whole_fine}
use Rattle.vx_live.proofs.Shapes.{MeasureFine, Shaped, shape_append, fresh_later}
use Rattle.vx_live.proofs.Speaks.{joined_speaks, conjoined_speaks, assertion_speaks, MeasureSpeaks, FunctionSays}
use Rattle.vx_live.proofs.LiveSteps.{Saying, LiveBy, first_live, never_live}
use Rattle.vx_live.proofs.LiveChunks.{found_shape, some_fine, place_shape, set_shape}
use Rattle.vx_live.proofs.LiveEvaluate.{PartsLive, eval_live, evals_live}
use Rattle.vx_live.proofs.LiveAssertions.{instance_arguments, produce_live, consume_live}
use Rattle.vx_live.proofs.LiveMethods.{begun}

module _ {fs : List Declared} (functions : Each IsOfFunction fs) (P : Saying) (p : Program) (Held : Name → Type 0) (o : Outer) (parts : PartsLive fs P p Held o) (f : Name) (g : Function) (says : FunctionSays Held p fs f g) where
  abbrev result : Declaration
  result = record { name = result_name; of = g.of }

  body_live : {sorts : Sorts fs} (measure : Option Term) (s : rules.State) → Shaped p sorts g.parameters s → MeasureFine sorts s.next measure → LiveBy fs P (function_body p o f g measure s)
  body_live measure s sh k =
      eval_live P p Held o parts says.typed.body says.body {s = record s { own = Some (record { function = f; measure = measure }) }} _
      (record { store = sh.store; path = sh.path; heap = sh.heap; old = sh.old; own = k }) (λ w s1 le sh1 fw.
      let inside = g.parameters ++ result ∷ [] in
      let e = conjoined g.place g.ensures in
      consume_live P p Held o parts (as_assertion e) (assertion_typed p inside e (conjoined_typed p inside g.place g.ensures says.typed.ensures)) (assertion_speaks Held e (conjoined_speaks Held g.place g.ensures says.ensures))
      {s = rules.declare result_name w s1} (codes PostCode PostCode) whole_amount s1.heap _
      (record { store = shape_append s1.next g.parameters s1.store result w sh1.store fw; path = sh1.path; heap = sh1.heap; old = sh1.old; own = sh1.own }) sh1.heap whole_fine (λ t s2 le2 sh2 ft. tt))

  from_live : {sorts : Sorts fs} (s : rules.State) → Shaped p sorts g.parameters s → (m : Option Measure) → IsTypedMeasure p g.parameters m → MeasureSpeaks Held m → LiveBy fs P (from_measure p o f g m s)
  from_live s sh None t k = body_live None s sh tt
  from_live s sh (Some (ByNumber e)) t k = eval_live P p Held o parts t k _ sh (λ m s1 le sh1 fm. body_live (Some m) s1 sh1 fm)
  from_live s sh (Some (ByInstance at i es)) t k =
      evals_live P p Held o parts t.2 k.1 _ sh (λ ts s1 le sh1 fts.
      first_live P (instance_key i ts) (holds_some ts) at MeasureCode (λ c. function_body p o f g None (rooted c s1)) (never at MeasureCode s1) sh1
      (λ c pl.
      let known = (place_shape pl sh1.heap).0 in
      let rooted_chunk = record c.chunk { root = true } in (
        some_fine ts c.chunk (found_shape pl sh1.heap) (instance_arguments p _ _ i t.0 ts t.1 fts),
        body_live None (rooted c s1) (record { store = sh1.store; path = sh1.path; heap = set_shape pl rooted_chunk sh1.heap (record { arguments = known.arguments; amount = known.amount; content = known.content }); old = sh1.old; own = sh1.own }) tt,
      ))
      (never_live P at MeasureCode sh1))

  pub function_live : LiveBy fs P (function_over p o f g)
  function_live =
      let a = begun functions p g.parameters in
      let begin = rules.declare_all g.parameters blank in
      let snapshot = fresh_later SnapSort tt a.shaped in
      produce_live P p Held o parts (joined g.place g.requires) (joined_typed p g.parameters g.place g.requires says.typed.requires) (joined_speaks Held g.place g.requires says.requires) {s = rules.after_fresh begin} whole_amount
      (Some (rules.fresh SnapSort begin)) (from_measure p o f g g.decreases) snapshot.shaped whole_fine snapshot.formed (λ s le sh. from_live s sh g.decreases says.typed.measure says.measure)
