-- That names are spelled in what is said to a child, and in each question of a walk.
use Rattle.std.proofs.Common.{◌≡◌, false, ◌++◌, ◌∷◌, [], List, sym, subst}
use Rattle.vx_terms.specs.Terms.{Term}
use Rattle.vx_smt_meaning.specs.Commands.{Declared}
use Rattle.vx_smt_meaning.specs.Names.{AreCommands}
use Rattle.vx_smt_meaning.specs.declared.reply.Reply.{Reply}
use Rattle.vx_smt_meaning.specs.declared.reply.Reply.TheVariants.{Unsat, Sat, Unknown}
use Rattle.vx_segments.specs.Segments.{Entry, terms}
use Rattle.vx_dialogue.specs.Preamble.{declarations, front, preamble}
use Rattle.vx_dialogue.specs.Scripts.{Outside, ScopedTurn, Asks, Posts, Leaves, posted, scope_from, script}
use Rattle.vx_dialogue.proofs.Levels.{script_more, script_asked, script_left}
use Rattle.vx_dialogue.proofs.Steady.{commands_join, preamble_named}
use Rattle.vx_dialogue.proofs.Spelled.{posted_spelled}
use Rattle.vx_rules.specs.Trees.{Question, Tree, End, Impossible, On, Step, Ask, Probe, Fork, Walked, Open, walk, walk_then, passed}
use Rattle.vx_verifier.specs.Steady.{AreSpelled, IsSpelled, AllSpelled}

-- the names in what is said first
pub begun_named : (functions : List Declared) → AreSpelled functions → AreCommands (preamble false functions)
begun_named functions spelled = commands_join (front false) (declarations functions) preamble_named spelled

-- the names in what was said, and a question more
pub said_named : (functions : List Declared) (turns : List ScopedTurn) (path : List Entry) (q : Question) → terms path ≡ q.path → IsSpelled q → AreCommands (script false functions turns)
    → AreCommands (script false functions (turns ++ Posts path q.condition ∷ []))
said_named functions turns path q is spelled named =
    let scope = scope_from Outside turns in
    subst AreCommands (sym (script_more false functions turns (Posts path q.condition)))
    (commands_join (script false functions turns) (posted scope path q.condition) named (posted_spelled scope path q.path q.condition is spelled.declared spelled.path spelled.negated))

-- and its reply is there
pub posted_asked : (functions : List Declared) (turns : List ScopedTurn) (path : List Entry) (condition : Term) → AreCommands (script false functions (turns ++ Posts path condition ∷ []))
    → AreCommands (script false functions (turns ++ Asks path condition ∷ []))
posted_asked functions turns path condition named = subst AreCommands (sym (script_asked false functions turns path condition)) named

-- the member is left
pub left_named : (functions : List Declared) (turns : List ScopedTurn) → AreCommands (script false functions turns) → AreCommands (script false functions (turns ++ Leaves ∷ []))
left_named functions turns named = subst AreCommands (sym (script_left false functions turns)) named

-- ---- the open question of a walk is one of the tree's

abbrev OpensSpelled : (List Reply → Walked) → Type 0
OpensSpelled next = (rs : List Reply) (q : Question) → (next rs).ending ≡ Open q → IsSpelled q

one_open : (q q' : Question) → Open q ≡ Open q' → q ≡ q'
one_open q q' e = cc

ask_opens : (q : Question) (t : Tree) (next : List Reply → Walked) → IsSpelled q → OpensSpelled (walk_then t next) → OpensSpelled (walk_then (Ask q t) next)
ask_opens q t next h e [] q' is = subst IsSpelled (one_open q q' is) h
ask_opens q t next h e (Unsat ∷ rs) q' is = e rs q' is
ask_opens q t next h e (Sat ∷ rs) q' is = cc
ask_opens q t next h e (Unknown ∷ rs) q' is = cc

probe_opens : (q : Question) (a b : Tree) (next : List Reply → Walked) → IsSpelled q → OpensSpelled (walk_then a next) → OpensSpelled (walk_then b next) → OpensSpelled (walk_then (Probe q a b) next)
probe_opens q a b next h e f [] q' is = subst IsSpelled (one_open q q' is) h
probe_opens q a b next h e f (Unsat ∷ rs) q' is = e rs q' is
probe_opens q a b next h e f (Sat ∷ rs) q' is = f rs q' is
probe_opens q a b next h e f (Unknown ∷ rs) q' is = f rs q' is

through : (t : Tree) (next : List Reply → Walked) → AllSpelled t → OpensSpelled next → OpensSpelled (walk_then t next)
through End next all e = e
through (Impossible s) next all e = e
through (On t s) next all e = e
through (Step t) next all e = through t next all e
through (Ask q t) next all e = ask_opens q t next all.0 (through t next all.1 e)
through (Probe q a b) next all e = probe_opens q a b next all.0 (through a next all.1 e) (through b next all.2 e)
through (Fork a b) next all e = through a (walk_then b next) all.0 (through b next all.1 e)

passed_opens : OpensSpelled passed
passed_opens rs q is = cc

pub open_spelled : (t : Tree) (rs : List Reply) (q : Question) → AllSpelled t → (walk t rs).ending ≡ Open q → IsSpelled q
open_spelled t rs q all is = through t passed all passed_opens rs q is
