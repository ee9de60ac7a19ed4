use Rattle.std.proofs.Common.{rules, ◌≡◌, ◌++◌, ◌∷◌, [], map, refl, ap, subst, sym}
use Rattle.vx_smt_meaning.specs.Commands.{CheckSat}
use Rattle.vx_smt_meaning.specs.Dialogues.{ArePlain}
use Rattle.vx_smt_meaning.specs.Views.{command}
use Rattle.vx_dialogue.specs.Scripts.{question}
use Rattle.vx_segments.specs.Views.{entry}
use Rattle.vx_dialogue.specs.Bases.{path_behind}
use Rattle.vx_dialogue.specs.Dialogue.{Waits, shared, scope_of}
use Rattle.vx_dialogue.specs.History.{Breaks}
use Rattle.vx_dialogue.proofs.History.{breaks_at, breaks_longer, breaks_want, gathers_tells, tells_twice}
use Rattle.vx_dialogue.proofs.Moved.{gathers_same}
use Rattle.vx_dialogue.proofs.Lists.{on_ok_map}
use Rattle.vx_dialogue.proofs.Levels.{plain_question}
use Rattle.vx_dialogue.proofs.Explained.{if_err_map}
use Rattle.std.proofs.lemmas.Result.{err_from_is_err_and}
use Rattle.vx_smt_meaning.specs.Names.{AreCommands}
use Rattle.vx_dialogue.proofs.dialogue.Dialogue.post_all.Goals as goal

pub returns-clause-told : goal.returns-clause-told
returns-clause-told g c =
    let path = path_behind c.args.base (scope_of c.args.self.now) (map entry c.args.path.now) in
    let condition = shared c.args.condition.now in
    let from = scope_of c.args.self.now in
    let all : map command c.deref.result.now ≡ question from path condition = search rules in
    let plain : ArePlain (map command c.deref.result.now) = rw all (plain_question from path condition) in
    on_ok_map c.send_check.result _ _ (λ sent. λ commands checks told.
    subst (λ x. Waits g.L.Link.dialogue c.send_check.new.self ((commands ++ x) ++ CheckSat ∷ []) checks) all (sent _ checks (c.in_ok-say_all.ensures.told plain commands checks (gathers_same g.L.Link.dialogue c.args.self.now _ refl refl refl refl commands checks told))))
    c.send_check.ensures.told

pub returns-in_err-say_all-clause-fault : goal.returns-in_err-say_all-clause-fault
returns-in_err-say_all-clause-fault g c =
    let path = path_behind c.args.base (scope_of c.args.self.now) (map entry c.args.path.now) in
    let condition = shared c.args.condition.now in
    let from = scope_of c.args.self.now in
    let all : map command c.deref.result.now ≡ question from path condition = search rules in
    let plain : ArePlain (map command c.deref.result.now) = rw all (plain_question from path condition) in
    let p = err_from_is_err_and c.from_residual-in_err-say_all.result c.from_residual-in_err-say_all.ensures.1 in rw (p.1, p.2) (λ commands checks told named.
    breaks_longer _ (commands ++ question from path condition) (CheckSat ∷ []) (g.L.Link.dialogue c.say_all.new.self.link) checks
    (breaks_at _ (commands ++ map command c.deref.result.now) (commands ++ question from path condition) (g.L.Link.dialogue c.say_all.new.self.link) checks (ap (λ x. commands ++ x) all)
    (c.in_err-say_all.ensures.fault plain commands checks (gathers_same g.L.Link.dialogue c.args.self.now _ refl refl refl refl commands checks told) (subst (λ x. AreCommands (commands ++ x)) (sym all) named))))

pub returns-clause-fault : goal.returns-clause-fault
returns-clause-fault g c =
    let path = path_behind c.args.base (scope_of c.args.self.now) (map entry c.args.path.now) in
    let condition = shared c.args.condition.now in
    let from = scope_of c.args.self.now in
    let all : map command c.deref.result.now ≡ question from path condition = search rules in
    let plain : ArePlain (map command c.deref.result.now) = rw all (plain_question from path condition) in
    if_err_map c.send_check.result _ _ (λ talk broken. λ commands checks told named.
    subst (λ x. Breaks talk ((commands ++ x) ++ CheckSat ∷ []) (g.L.Link.dialogue c.send_check.new.self.link) checks) all
    (broken (commands ++ map command c.deref.result.now) checks (c.in_ok-say_all.ensures.told plain commands checks (gathers_same g.L.Link.dialogue c.args.self.now _ refl refl refl refl commands checks told))
    (subst (λ x. AreCommands (commands ++ x)) (sym all) named))) c.send_check.ensures.fault

pub returns-in_err-say_all-clause-steady : goal.returns-in_err-say_all-clause-steady
returns-in_err-say_all-clause-steady g c = λ steady commands checks told named.
    let path = path_behind c.args.base (scope_of c.args.self.now) (map entry c.args.path.now) in
    let condition = shared c.args.condition.now in
    let from = scope_of c.args.self.now in
    let all : map command c.deref.result.now ≡ question from path condition = search rules in
    let plain : ArePlain (map command c.deref.result.now) = rw all (plain_question from path condition) in
    let names : AreCommands (commands ++ map command c.deref.result.now) = rw all named in
    c.say_all.ensures.steady plain steady commands checks (gathers_same g.L.Link.dialogue c.args.self.now _ refl refl refl refl commands checks told) names

pub returns-clause-steady : goal.returns-clause-steady
returns-clause-steady g c = λ steady commands checks told named.
    let path = path_behind c.args.base (scope_of c.args.self.now) (map entry c.args.path.now) in
    let condition = shared c.args.condition.now in
    let from = scope_of c.args.self.now in
    let all : map command c.deref.result.now ≡ question from path condition = search rules in
    let plain : ArePlain (map command c.deref.result.now) = rw all (plain_question from path condition) in
    let names : AreCommands (commands ++ map command c.deref.result.now) = rw all named in
    c.send_check.ensures.steady (c.say_all.ensures.steady plain steady commands checks (gathers_same g.L.Link.dialogue c.args.self.now _ refl refl refl refl commands checks told) names) (commands ++ map command c.deref.result.now) checks
    (c.in_ok-say_all.ensures.told plain commands checks (gathers_same g.L.Link.dialogue c.args.self.now _ refl refl refl refl commands checks told)) names

pub returns-in_err-commands-clause-fault : goal.returns-in_err-commands-clause-fault
returns-in_err-commands-clause-fault g c =
    let asked = question (scope_of c.args.self.now) (path_behind c.args.base (scope_of c.args.self.now) (map entry c.args.path.now)) (shared c.args.condition.now) in
    let p = err_from_is_err_and c.from_residual.result c.from_residual.ensures.1 in rw p.1 (λ commands checks told named.
    breaks_want p.0 ((commands ++ asked) ++ CheckSat ∷ []) _ checks p.2
    (tells_twice commands asked (CheckSat ∷ []) _ checks (gathers_tells g.L.Link.dialogue c.args.self.now commands checks told)))
