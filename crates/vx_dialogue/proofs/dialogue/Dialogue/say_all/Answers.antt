use Rattle.std.proofs.Common.{◌≡◌, ◌++◌, ◌+◌, ◌∷◌, [], true, map, take, drop, ap, ◌∙◌, sym, subst, arith, append_assoc}
use Rattle.std.proofs.lemmas.Grind.{common_steps}
use Rattle.vx_smt_meaning.specs.Views.{command}
use Rattle.vx_smt_meaning.specs.Dialogues.{is_plain}
use Rattle.vx_dialogue.specs.Dialogue.{Gathers}
use Rattle.vx_dialogue.proofs.Lists.{map_whole, plain_at}
use Rattle.vx_dialogue.proofs.History.{breaks_at, breaks_longer}
use Rattle.std.proofs.lemmas.Result.{err_from_is_err_and}
use Rattle.std.proofs.lemmas.List.{map_more}
use Rattle.vx_dialogue.proofs.Steady.{commands_upto}
use Rattle.vx_dialogue.proofs.dialogue.Dialogue.say_all.Goals as goal

pub loop-c-preserved : goal.loop-c-preserved
loop-c-preserved g c =
    let before = c.loop-c.invariant in
    let all = c.args.all.now in
    let i = c.loop-c.c-index in
    let item = c.c-item.result in
    record {
      told = λ plain commands checks told.
          let this : is_plain (command item) ≡ true = rw c.c-item.is (plain_at command all i item c.loop-c-test.true plain) in
          let next = c.in_ok-say.ensures.told this (commands ++ map command (take i all)) checks (before.told plain commands checks told) in
          let more : map command (take (i + 1) all) ≡ map command (take i all) ++ command item ∷ [] =
          map_more command all i item c.loop-c-test.true ∙ ap (λ x. map command (take i all) ++ command x ∷ []) (sym c.c-item.is) in
          subst (λ x. Gathers g.L.Link.dialogue c.say.new.self x checks)
          (append_assoc commands (map command (take i all)) (command item ∷ []) ∙ ap (λ x. commands ++ x) (sym more)) next;
      levels = c.say.ensures.same.0 ∙ before.levels;
      owed = c.say.ensures.same.1 ∙ before.owed;
      failed = c.say.ensures.same.2 ∙ before.failed;
      grows = λ front begins. c.say.ensures.grows front (before.grows front begins);
      steady = λ plain steady commands checks told named.
          c.say.ensures.steady (before.steady plain steady commands checks told named) (commands ++ map command (take i all)) checks (before.told plain commands checks told)
          (commands_upto command all i commands named);
      later = grind (arith, common_steps);
    }

pub returns-in_err-say-clause-fault : goal.returns-in_err-say-clause-fault
returns-in_err-say-clause-fault g c = let p = err_from_is_err_and c.from_residual.result c.from_residual.ensures.1 in rw (p.1, p.2) (λ plain commands checks told named.
    let all = c.args.all.now in
    let i = c.loop-c.c-index in
    let whole : (commands ++ map command (take i all)) ++ map command (drop i all) ≡ commands ++ map command all =
    append_assoc commands (map command (take i all)) (map command (drop i all)) ∙ ap (λ x. commands ++ x) (map_whole command all i) in
    breaks_at _ _ (commands ++ map command all) (g.L.Link.dialogue c.say.new.self.link) checks whole
    (breaks_longer _ (commands ++ map command (take i all)) (map command (drop i all)) (g.L.Link.dialogue c.say.new.self.link) checks
    (c.in_err-say.ensures.fault (commands ++ map command (take i all)) checks (c.loop-c.invariant.told plain commands checks told)
    (commands_upto command all i commands named))))

pub returns-in_err-say-clause-steady : goal.returns-in_err-say-clause-steady
returns-in_err-say-clause-steady g c = λ plain steady commands checks told named.
    let before = c.loop-c.invariant in
    let all = c.args.all.now in
    let i = c.loop-c.c-index in
    c.say.ensures.steady (before.steady plain steady commands checks told named) (commands ++ map command (take i all)) checks (before.told plain commands checks told)
    (commands_upto command all i commands named)

pub returns-clause-told : goal.returns-clause-told
returns-clause-told g c = grind (arith, common_steps)
