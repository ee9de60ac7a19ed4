use Rattle.std.proofs.Common.{◌≡◌, ◌++◌, ◌∷◌, [], ◌+◌, map, drop, ap, ◌∙◌, sym}
use Rattle.std.proofs.lemmas.List.{drop_more}
use Rattle.vx_smt_meaning.specs.Views.{command}
use Rattle.vx_segments.specs.Views.{entry}
use Rattle.vx_segments.specs.Segments.{terms}
use Rattle.vx_dialogue.specs.Symbols.{with_listed}
use Rattle.vx_dialogue.specs.Segments.{last_of, sent}
use Rattle.vx_dialogue.specs.Standing.{path_of}
use Rattle.vx_dialogue.proofs.Counted.{entry_said, entry_along}
use Rattle.vx_dialogue.proofs.standing.Standing.say_all.Goals as goal

pub loop-e-preserved : goal.loop-e-preserved
loop-e-preserved c =
    let before = c.loop-e.invariant in
    let i = c.loop-e.e-index in
    let e = c.e-item.result in
    let all = c.args.entries.now in
    let here : map entry (drop i all) ≡ entry e ∷ map entry (drop (i + 1) all) =
    ap (map entry) (drop_more all i e c.loop-e-test.true ∙ ap (λ x. x ∷ drop (i + 1) all) (sym c.e-item.is)) in
    record {
      said = entry_said c.loop-e.self c.say.new.self (entry e) (map entry (drop (i + 1) all)) (map command c.loop-e.commands.items) (map command c.say.new.commands.items)
          before.sound c.in_ok-say.ensures.path c.in_ok-say.ensures.said
          ∙ ap (λ x. map command c.loop-e.commands.items ++ sent (last_of 0 (path_of c.loop-e.self)) (with_listed [] (terms (path_of c.loop-e.self))) x) (sym here) ∙ before.said;
      path = entry_along (path_of c.loop-e.self) (path_of c.say.new.self) (entry e) (map entry (drop (i + 1) all)) c.in_ok-say.ensures.path
          ∙ ap (λ x. path_of c.loop-e.self ++ x) (sym here) ∙ before.path;
      sound = c.in_ok-say.ensures.sound;
    }
