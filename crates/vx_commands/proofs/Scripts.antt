-- What a dialogue says is well-sorted, where its assertions are, and opens one level at a time.
use Rattle.std.proofs.Common.{◌≤◌, ◌<◌, ◌^◌, false, List, [], ◌∷◌, refl, arith}
use Rattle.std.specs.Prelude.{⊤}
use Rattle.vx_terms.specs.Terms.{Term}
use Rattle.vx_terms.specs.Interpretations.{Each}
use Rattle.vx_smt_meaning.specs.Commands.{Command, SetOption, SetLogic, DeclareSort, DeclareFun, Assert, Push, Pop, CheckSat, GetProof, Exit, Declared}
use Rattle.vx_smt_meaning.specs.Standard.{standard_symbols}
use Rattle.vx_segments.specs.Segments.{terms}
use Rattle.vx_dialogue.specs.Preamble.{front}
use Rattle.vx_dialogue.specs.Scripts.{ScopedTurn, Asks, Posts, Leaves, script}
use Rattle.cs_commands.specs.Laws.{IsPlain}
use Rattle.vx_companion.specs.Right.{IsSorted}
use Rattle.vx_companion.specs.Lawful.{Fits}
use Rattle.vx_verifier.specs.Headline.{IsWellSorted}
use Rattle.vx_verifier.proofs.Said.{Asserts, HoldsOf, declared_all, script_all}

-- ---- where nothing is wanted of the assertions

abbrev IsAny : Term → Type 0
IsAny t = ⊤

any_path : (p : List Term) → Each IsAny p
any_path [] = tt
any_path (t ∷ p) = (tt, any_path p)

any_turns : (turns : List ScopedTurn) → Each (Asserts IsAny) turns
any_turns [] = tt
any_turns (Asks path condition ∷ turns) = ((any_path (terms path), tt), any_turns turns)
any_turns (Posts path condition ∷ turns) = ((any_path (terms path), tt), any_turns turns)
any_turns (Leaves ∷ turns) = (tt, any_turns turns)

-- ---- what is no assertion

abbrev IsOther : Command → Type 0
IsOther (Assert t) = ⊤
IsOther (DeclareFun d) = ⊤
IsOther c = IsPlain c

one_small : 1 < 2 ^ 32
one_small = omega arith

others : HoldsOf IsOther IsAny
others = record { declares = λ d. tt; asserts = λ t h. tt; opens = one_small; closes = one_small; checks = tt }

first_other : Each IsOther (front false)
first_other = (tt, (tt, (refl, (refl, declared_all IsOther IsAny others standard_symbols))))

sorted_by : (c : Command) → IsWellSorted c → IsOther c → IsSorted c
sorted_by (SetOption x b) h o = o
sorted_by (SetLogic x) h o = o
sorted_by (DeclareSort x) h o = o
sorted_by (DeclareFun d) h o = tt
sorted_by (Assert t) h o = h
sorted_by (Push n) h o = o
sorted_by (Pop n) h o = o
sorted_by CheckSat h o = tt
sorted_by GetProof h o = tt
sorted_by Exit h o = tt

all_sorted : (cs : List Command) → Each IsWellSorted cs → Each IsOther cs → Each IsSorted cs
all_sorted [] h o = tt
all_sorted (c ∷ cs) h o = (sorted_by c h.0 o.0, all_sorted cs h.1 o.1)

pub script_sorted : (functions : List Declared) (turns : List ScopedTurn) → Each IsWellSorted (script false functions turns) → Each IsSorted (script false functions turns)
script_sorted functions turns h = all_sorted (script false functions turns) h (script_all IsOther IsAny others functions turns first_other (any_turns turns))

-- ---- levels

one_fits : 1 ≤ 256
one_fits = omega arith

all_fit : HoldsOf Fits IsAny
all_fit = record { declares = λ d. tt; asserts = λ t h. tt; opens = one_fits; closes = tt; checks = tt }

first_fits : Each Fits (front false)
first_fits = (tt, (tt, (tt, (tt, declared_all Fits IsAny all_fit standard_symbols))))

-- one level is opened at a time, and no proof is asked for
pub script_fits : (functions : List Declared) (turns : List ScopedTurn) → Each Fits (script false functions turns)
script_fits functions turns = script_all Fits IsAny all_fit functions turns first_fits (any_turns turns)
