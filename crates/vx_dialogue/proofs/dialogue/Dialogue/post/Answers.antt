use Rattle.std.proofs.Common.{◌++◌, ◌∷◌, [], map, ◌∙◌, sym, subst}
use Rattle.vx_smt_meaning.specs.Commands.{CheckSat}
use Rattle.vx_smt_meaning.specs.Names.{AreCommands}
use Rattle.vx_dialogue.specs.Scripts.{Posts, script, question}
use Rattle.vx_segments.specs.Views.{entry}
use Rattle.vx_dialogue.specs.Bases.{path_behind}
use Rattle.vx_dialogue.specs.Dialogue.{Waits, shared, scope_of}
use Rattle.vx_dialogue.specs.History.{Breaks}
use Rattle.vx_dialogue.proofs.Levels.{script_posted, scope_more}
use Rattle.vx_dialogue.proofs.Steady.{commands_front}
use Rattle.vx_dialogue.proofs.History.{standing_longer, tells_missed}
use Rattle.vx_dialogue.proofs.dialogue.Dialogue.post.Goals as goal

pub returns-in-Ok-clause-asks : goal.returns-in-Ok-clause-asks
returns-in-Ok-clause-asks g c = λ certify functions turns checks stands.
    let path = path_behind c.args.base (scope_of c.args.self.now) (map entry c.args.path.now) in
    let condition = shared c.args.condition.now in
    let is = script_posted certify functions turns path condition (scope_of c.args.self.now) stands.scope in
    record {
      told = subst (λ x. Waits g.L.Link.dialogue c.post_all.new.self x checks) is (c.in-Ok.ensures.told (script certify functions turns) checks stands.told);
      scope = c.in-Ok.ensures.scope ∙ sym (scope_more turns (Posts path condition));
    }

pub returns-in-Err-clause-fault : goal.returns-in-Err-clause-fault
returns-in-Err-clause-fault g c = λ certify functions turns checks stands named.
    let path = path_behind c.args.base (scope_of c.args.self.now) (map entry c.args.path.now) in
    let condition = shared c.args.condition.now in
    let from = scope_of c.args.self.now in
    let commands = script certify functions turns in
    let is = script_posted certify functions turns path condition from stands.scope in
    subst (λ x. Breaks c.in-Err.talk x (g.L.Link.dialogue c.post_all.new.self.link) checks) is
    (c.in-Err.ensures.fault commands checks stands.told (commands_front (commands ++ question from path condition) (CheckSat ∷ []) (subst AreCommands (sym is) named)))

pub returns-in-Ok-clause-steady : goal.returns-in-Ok-clause-steady
returns-in-Ok-clause-steady g c = λ steady certify functions turns checks stands named.
    let path = path_behind c.args.base (scope_of c.args.self.now) (map entry c.args.path.now) in
    let condition = shared c.args.condition.now in
    let from = scope_of c.args.self.now in
    let commands = script certify functions turns in
    let is = script_posted certify functions turns path condition from stands.scope in
    c.post_all.ensures.steady steady commands checks stands.told (commands_front (commands ++ question from path condition) (CheckSat ∷ []) (subst AreCommands (sym is) named))

pub returns-in-Err-clause-steady : goal.returns-in-Err-clause-steady
returns-in-Err-clause-steady g c = λ steady certify functions turns checks stands named.
    let path = path_behind c.args.base (scope_of c.args.self.now) (map entry c.args.path.now) in
    let condition = shared c.args.condition.now in
    let from = scope_of c.args.self.now in
    let commands = script certify functions turns in
    let is = script_posted certify functions turns path condition from stands.scope in
    c.post_all.ensures.steady steady commands checks stands.told (commands_front (commands ++ question from path condition) (CheckSat ∷ []) (subst AreCommands (sym is) named))

pub returns-then-self-clause-fault : goal.returns-then-self-clause-fault
returns-then-self-clause-fault g c = λ certify functions turns checks stands named. record {
  explained = tt;
  told = tells_missed _ _ _ (standing_longer g.L.Link.dialogue certify functions turns (Posts (path_behind c.args.base (scope_of c.args.self.now) (map entry c.args.path.now)) (shared c.args.condition.now)) c.args.self.now checks stands);
}
