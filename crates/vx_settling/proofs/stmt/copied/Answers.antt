use Rattle.std.proofs.Common.{◌≡◌, ◌∙◌, ◌++◌, ◌∷◌, ◌+◌, ap, sym, drop, map, append-nil}
use Rattle.std.proofs.lemmas.List.{drop_all}
use Rattle.std.proofs.lemmas.Result.{IfOk-weaker}
use Rattle.vx_ast.specs.Written.{name_of}
use Rattle.vx_resolved.specs.Resolved.{names_of}
use Rattle.vx_settling.specs.Parts.{bare}
use Rattle.vx_settling.proofs.Loops.{left}
use Rattle.vx_settling.proofs.stmt.copied.Goals as goal

pub loop-name-preserved : goal.loop-name-preserved
loop-name-preserved c =
    let those = c.args.those.now in
    let k = c.loop-name.name-index in
    let behind = bare (map name_of (drop (k + 1) those)) in
    let done = names_of c.loop-name.copies.items in
    c.in_ok-add_name.ensures behind
    ∙ ap (λ x. done ++ x ∷ behind) c.deref.ensures
    ∙ ap (λ ns. done ++ bare (map name_of ns)) (sym (left those k c.name-item.result c.loop-name-test.true c.name-item.is))
    ∙ c.loop-name.invariant

pub returns : goal.returns
returns c =
    let done = names_of c.loop-name.copies.items in
    let all_of : done ≡ bare (map name_of c.args.those.now) =
    sym (append-nil done)
    ∙ ap (λ ns. done ++ bare (map name_of ns)) (sym (drop_all _ c.args.those.now c.loop-name-test.false))
    ∙ c.loop-name.invariant in
    IfOk-weaker c.shared_names.result _ _ (λ xs is. is ∙ all_of) c.shared_names.ensures
