use Rattle.std.proofs.Common.{◌++◌, ◌∷◌, [], ap, ◌∙◌, sym, subst}
use Rattle.vx_segments.specs.Segments.{terms}
use Rattle.vx_dialogue.specs.Scripts.{Asks, Posts, script}
use Rattle.vx_dialogue.specs.Places.{scope}
use Rattle.vx_dialogue.specs.Dialogue.{Gathers, base_of, check_of}
use Rattle.vx_dialogue.proofs.Levels.{script_asked, scope_more}
use Rattle.vx_dialogue.proofs.Turns.{check_is}
use Rattle.vx_ends.proofs.Dialogues.{gets_none}
use Rattle.vx_dialogue.proofs.History.{waits_missed}
use Rattle.vx_dialogue.proofs.dialogue.Dialogue.take.Goals as goal

pub returns-in-Ok-clause-reply : goal.returns-in-Ok-clause-reply
returns-in-Ok-clause-reply g c = λ certify functions turns path condition checks awaits.
    let said = script certify functions (turns ++ Posts path condition ∷ []) in
    let told = c.in-Ok.ensures.told c.in-Some.is said checks awaits.told in
    record {
      told = subst (λ x. Gathers g.L.Link.dialogue c.take_all.new.self x (checks ++ check_of (base_of certify functions) (terms path) condition c.in-Ok.reply ∷ [])) (sym (script_asked certify functions turns path condition))
          (subst (λ x. Gathers g.L.Link.dialogue c.take_all.new.self said (checks ++ x ∷ [])) (check_is certify functions turns path condition c.in-Ok.reply) told);
      scope = ap scope c.take_all.ensures.same.0 ∙ awaits.scope ∙ scope_more turns (Posts path condition) ∙ sym (scope_more turns (Asks path condition));
    }

pub returns-in-Err-clause-fault : goal.returns-in-Err-clause-fault
returns-in-Err-clause-fault g c = λ certify functions turns path condition checks awaits named.
    c.in-Err.ensures.fault c.in-Some.is (script certify functions (turns ++ Posts path condition ∷ [])) checks awaits.told named

pub returns-in-Ok-clause-steady : goal.returns-in-Ok-clause-steady
returns-in-Ok-clause-steady g c = λ steady certify functions turns path condition checks awaits named.
    c.take_all.ensures.steady steady c.in-Some.is (script certify functions (turns ++ Posts path condition ∷ [])) checks awaits.told named

pub returns-in-Err-clause-steady : goal.returns-in-Err-clause-steady
returns-in-Err-clause-steady g c = λ steady certify functions turns path condition checks awaits named.
    c.take_all.ensures.steady steady c.in-Some.is (script certify functions (turns ++ Posts path condition ∷ [])) checks awaits.told named

pub returns-in_default-clause-fault : goal.returns-in_default-clause-fault
returns-in_default-clause-fault g c = λ certify functions turns path condition checks awaits named. record {
  explained = tt;
  told = waits_missed g.L.Link.dialogue c.args.self.now (script certify functions (turns ++ Posts path condition ∷ [])) checks _ (gets_none _) awaits.told;
}
