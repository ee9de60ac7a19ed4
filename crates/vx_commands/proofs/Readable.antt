-- What the companion is told can be read back, where the program is that of a text: it takes all but what is too deep.
use Rattle.std.proofs.Common.{◌≡◌, ℕ, ◌<◌, false, List, [], ◌∷◌, Option, Some, None, map, refl, sym, subst}
use Rattle.std.specs.Prelude.{⊤, slice_get}
use Rattle.vx_ast.specs.Syntax.{Program, Member}
use Rattle.vx_ast.specs.Written as written
use Rattle.vx_ast.specs.Resolve as resolve
use Rattle.vx_terms.specs.Terms.{Term}
use Rattle.vx_terms.specs.Build.{negate}
use Rattle.vx_terms.specs.Interpretations.{Each}
use Rattle.vx_smt_meaning.specs.Commands.{Command, SetOption, SetLogic, DeclareSort, DeclareFun, Assert, Push, Pop, CheckSat, GetProof, Exit}
use Rattle.vx_smt_meaning.specs.Dialogues.{Check}
use Rattle.vx_smt_meaning.specs.Standard.{standard_symbols}
use Rattle.vx_smt_text.specs.Shaped.{IsShaped}
use Rattle.vx_ends.specs.declared.piece.Ending.{Ending}
use Rattle.vx_dialogue.specs.Askable.{AreTurns}
use Rattle.vx_dialogue.specs.Preamble.{front}
use Rattle.vx_dialogue.specs.Scripts.{ScopedTurn, Asks, Posts, Leaves, plain}
use Rattle.vx_tokens.specs.Text.{AtEnd, first_place, unmarked}
use Rattle.vx_parser.specs.Spelling.{Spells}
use Rattle.vx_rules.specs.Trees.{Question, Tree, End, Impossible, On, Step, Ask, Probe, Fork}
use Rattle.vx_rules.specs.Members.{tree}
use Rattle.vx_machine.specs.Runs.{tree_of, member_tree}
use Rattle.vx_live.specs.Functions.{function_symbols}
use Rattle.vx_readable.specs.Numerals.{HasSmallNumerals}
use Rattle.vx_readable.specs.Readable.{IsShapedQuestion, AllShaped}
use Rattle.vx_readable.proofs.Shapes.{negate_shaped}
use Rattle.vx_readable.proofs.ShapeMembers.{members_shaped}
use Rattle.vx_readable.proofs.Texts.{spelled_small}
use Rattle.vx_report.specs.declared.run.MemberRun.{MemberRun}
use Rattle.vx_companion.specs.Lawful.{IsTaken}
use Rattle.vx_verifier.specs.Dealt.{runs_in, links_in}
use Rattle.vx_verifier.specs.Headline.{Headline, IsLane, script_of}
use Rattle.vx_verifier.proofs.Said.{Asserts, HoldsOf, declared_all, script_all}
use Rattle.vx_verifier.proofs.Askable.{AllAsk, turns_ask}
use Rattle.vx_commands.specs.Reports.{IsShallow}

-- the numerals of a program that a text spells
pub spelled_numerals : (text : List ℕ) (w : written.Program) → Spells text w → HasSmallNumerals (resolve.program w)
spelled_numerals text w h = spelled_small first_place (unmarked text) h.tokens (AtEnd h.at) w h.scans h.within.spelled

-- ---- questions

-- what is asserted for a question is shaped
abbrev AssertsShaped : List Term → Term → Type 0
AssertsShaped path condition = Each IsShaped path × IsShaped (negate condition)

question_asserts : (q : Question) → IsShapedQuestion q → AssertsShaped q.path q.condition
question_asserts q h = (h.path, (negate_shaped {t = q.condition} (record { is = h.condition })).is)

tree_asserts : (t : Tree) → AllShaped t → AllAsk AssertsShaped t
tree_asserts End h = tt
tree_asserts (Impossible s) h = tt
tree_asserts (On t s) h = tt
tree_asserts (Step t) h = tree_asserts t h
tree_asserts (Ask q t) h = (question_asserts q h.0, tree_asserts t h.1)
tree_asserts (Probe q a b) h = (question_asserts q h.0, tree_asserts a h.1, tree_asserts b h.2)
tree_asserts (Fork a b) h = (tree_asserts a h.0, tree_asserts b h.1)

member_asserts : (p : Program) → HasSmallNumerals p → (n : ℕ) → AllAsk AssertsShaped (member_tree p n)
member_asserts p small n = go (slice_get p n) refl
  where
    go : (o : Option Member) → slice_get p n ≡ o → AllAsk AssertsShaped (tree_of p o)
    go None is = tt
    go (Some m) is = tree_asserts (tree p m.name m.kind) (members_shaped p n m small is)

turns_assert : (turns : List ScopedTurn) → AreTurns AssertsShaped (map plain turns) → Each (Asserts IsShaped) turns
turns_assert [] h = tt
turns_assert (Asks path condition ∷ turns) h = (h.0, turns_assert turns h.1)
turns_assert (Posts path condition ∷ turns) h = (h.0, turns_assert turns (subst (AreTurns AssertsShaped) (sym h.1) tt))
turns_assert (Leaves ∷ turns) h = (tt, turns_assert turns h)

-- ---- commands

abbrev IsShapedCommand : Command → Type 0
IsShapedCommand (Assert t) = IsShaped t
IsShapedCommand c = ⊤

all_shaped : HoldsOf IsShapedCommand IsShaped
all_shaped = record { declares = λ d. tt; asserts = λ t h. h; opens = tt; closes = tt; checks = tt }

first_shaped : Each IsShapedCommand (front false)
first_shaped = (tt, (tt, (tt, (tt, declared_all IsShapedCommand IsShaped all_shaped standard_symbols))))

taken_by : (c : Command) → IsShapedCommand c → IsShallow c → IsTaken c
taken_by (SetOption x b) shaped shallow = tt
taken_by (SetLogic x) shaped shallow = tt
taken_by (DeclareSort x) shaped shallow = tt
taken_by (DeclareFun d) shaped shallow = tt
taken_by (Assert t) shaped shallow = (shaped, shallow)
taken_by (Push n) shaped shallow = tt
taken_by (Pop n) shaped shallow = tt
taken_by CheckSat shaped shallow = tt
taken_by GetProof shaped shallow = tt
taken_by Exit shaped shallow = tt

all_taken : (cs : List Command) → Each IsShapedCommand cs → Each IsShallow cs → Each IsTaken cs
all_taken [] shaped shallow = tt
all_taken (c ∷ cs) shaped shallow = (taken_by c shaped.0 shallow.0, all_taken cs shaped.1 shallow.1)

-- what isn't too deep is taken
lane_taken : (p : Program) → HasSmallNumerals p → (links : List Ending) (f g lane : ℕ) (turns : List ScopedTurn) (checks : List Check) (runs : List MemberRun)
    → IsLane p links f g lane turns checks runs → Each IsShallow (script_of p turns) → Each IsTaken (script_of p turns)
lane_taken p small links f g lane turns checks runs h shallow =
    let asked : AreTurns AssertsShaped (map plain turns) = subst (AreTurns AssertsShaped) (sym h.asked) (turns_ask AssertsShaped p links f g lane (member_asserts p small) false 0 runs checks h.told) in
    all_taken (script_of p turns) (script_all IsShapedCommand IsShaped all_shaped (function_symbols p) turns first_shaped (turns_assert turns asked)) shallow

module _ (p : Program) (small : HasSmallNumerals p) (jobs : ℕ) (before now : List Ending) (f g : ℕ) (runs : List MemberRun) (h : Headline p jobs before now f g runs) where
  -- so it is in each lane
  pub script_taken : ((lane : ℕ) → lane < jobs → Each IsShallow (script_of p (h.turns lane))) → (lane : ℕ) → lane < jobs → Each IsTaken (script_of p (h.turns lane))
  script_taken shallow lane l = lane_taken p small (links_in lane h.since) f g lane (h.turns lane) (h.checks lane) (runs_in lane runs) (h.lanes lane l) (shallow lane l)
