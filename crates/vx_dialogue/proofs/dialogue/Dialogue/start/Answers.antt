use Rattle.std.proofs.Common.{rules, ◌≡◌, false, ◌++◌, map, ap, subst, sym}
use Rattle.vx_smt_meaning.specs.Dialogues.{ArePlain}
use Rattle.vx_smt_meaning.specs.Views.{command, declared_symbol}
use Rattle.vx_dialogue.specs.Preamble.{preamble}
use Rattle.vx_dialogue.specs.Dialogue.{Gathers}
use Rattle.vx_dialogue.specs.History.{Breaks}
use Rattle.vx_dialogue.proofs.History.{breaks_at, breaks_want, gathers_tells, tells_longer}
use Rattle.vx_dialogue.proofs.Lists.{on_ok_map}
use Rattle.vx_dialogue.proofs.Levels.{plain_preamble}
use Rattle.vx_dialogue.proofs.Explained.{if_err_map}
use Rattle.std.proofs.lemmas.Result.{err_from_is_err_and}
use Rattle.vx_smt_meaning.specs.Names.{AreCommands}
use Rattle.vx_dialogue.proofs.dialogue.Dialogue.start.Goals as goal

pub returns-clause-told : goal.returns-clause-told
returns-clause-told g c =
    let functions = map declared_symbol c.args.functions.now in
    let all : map command c.deref.result.now ≡ preamble c.args.certify functions = search rules in
    let plain : ArePlain (map command c.deref.result.now) = rw all (plain_preamble c.args.certify functions) in
    on_ok_map c.flush.result _ _ (λ flushed. λ commands checks told.
    subst (λ x. Gathers g.L.Link.dialogue c.flush.new.self (commands ++ x) checks) all (flushed _ checks (c.in_ok-say_all.ensures.told plain commands checks told)))
    c.flush.ensures.told

pub returns-in_err-say_all-clause-fault : goal.returns-in_err-say_all-clause-fault
returns-in_err-say_all-clause-fault g c =
    let functions = map declared_symbol c.args.functions.now in
    let all : map command c.deref.result.now ≡ preamble c.args.certify functions = search rules in
    let plain : ArePlain (map command c.deref.result.now) = rw all (plain_preamble c.args.certify functions) in
    let p = err_from_is_err_and c.from_residual-in_err-say_all.result c.from_residual-in_err-say_all.ensures.1 in rw (p.1, p.2) (λ commands checks told named.
    breaks_at _ (commands ++ map command c.deref.result.now) (commands ++ preamble c.args.certify functions) (g.L.Link.dialogue c.say_all.new.self.link) checks (ap (λ x. commands ++ x) all)
    (c.in_err-say_all.ensures.fault plain commands checks told (subst (λ x. AreCommands (commands ++ x)) (sym all) named)))

pub returns-clause-fault : goal.returns-clause-fault
returns-clause-fault g c =
    let functions = map declared_symbol c.args.functions.now in
    let all : map command c.deref.result.now ≡ preamble c.args.certify functions = search rules in
    let plain : ArePlain (map command c.deref.result.now) = rw all (plain_preamble c.args.certify functions) in
    if_err_map c.flush.result _ _ (λ talk broken. λ commands checks told named.
    subst (λ x. Breaks talk (commands ++ x) (g.L.Link.dialogue c.flush.new.self.link) checks) all
    (broken (commands ++ map command c.deref.result.now) checks (c.in_ok-say_all.ensures.told plain commands checks told)
    (subst (λ x. AreCommands (commands ++ x)) (sym all) named))) c.flush.ensures.fault

pub returns-in_err-say_all-clause-steady : goal.returns-in_err-say_all-clause-steady
returns-in_err-say_all-clause-steady g c = λ steady commands checks told named.
    let functions = map declared_symbol c.args.functions.now in
    let all : map command c.deref.result.now ≡ preamble c.args.certify functions = search rules in
    let plain : ArePlain (map command c.deref.result.now) = rw all (plain_preamble c.args.certify functions) in
    let names : AreCommands (commands ++ map command c.deref.result.now) = rw all named in
    c.say_all.ensures.steady plain steady commands checks told names

pub returns-clause-steady : goal.returns-clause-steady
returns-clause-steady g c = λ steady commands checks told named.
    let functions = map declared_symbol c.args.functions.now in
    let all : map command c.deref.result.now ≡ preamble c.args.certify functions = search rules in
    let plain : ArePlain (map command c.deref.result.now) = rw all (plain_preamble c.args.certify functions) in
    let names : AreCommands (commands ++ map command c.deref.result.now) = rw all named in
    c.flush.ensures.steady (c.say_all.ensures.steady plain steady commands checks told names) (commands ++ map command c.deref.result.now) checks
    (c.in_ok-say_all.ensures.told plain commands checks told) names

pub returns-in_err-commands-clause-fault : goal.returns-in_err-commands-clause-fault
returns-in_err-commands-clause-fault g c =
    let said = preamble c.args.certify (map declared_symbol c.args.functions.now) in
    let p = err_from_is_err_and c.from_residual.result c.from_residual.ensures.1 in rw p.1 (λ commands checks told named.
    breaks_want p.0 (commands ++ said) _ checks p.2 (tells_longer false commands said _ checks (gathers_tells g.L.Link.dialogue c.args.self.now commands checks told)))

pub returns-in_err-put_declarations-clause-fault : goal.returns-in_err-put_declarations-clause-fault
returns-in_err-put_declarations-clause-fault g c =
    let said = preamble c.args.certify (map declared_symbol c.args.functions.now) in
    let p = err_from_is_err_and c.from_residual-in_err-put_declarations.result c.from_residual-in_err-put_declarations.ensures.1 in rw p.1 (λ commands checks told named.
    breaks_want p.0 (commands ++ said) _ checks p.2 (tells_longer false commands said _ checks (gathers_tells g.L.Link.dialogue c.args.self.now commands checks told)))
