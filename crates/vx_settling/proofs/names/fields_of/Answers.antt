use Rattle.std.proofs.Common.{◌≡◌, ◌∙◌, ◌++◌, ◌+◌, ap, sym, drop, map, append-nil}
use Rattle.std.proofs.lemmas.List.{drop_all}
use Rattle.std.proofs.lemmas.Result.{IfOk-weaker}
use Rattle.vx_ast.specs.Resolve.{fields_of}
use Rattle.vx_ast.specs.Written.{written_member}
use Rattle.vx_resolved.specs.Resolved.{names_of as listed}
use Rattle.vx_settling.proofs.Loops.{left}
use Rattle.vx_settling.proofs.names.fields_of.Goals as goal

pub loop-m-preserved : goal.loop-m-preserved
loop-m-preserved c =
    let all = c.args.all.now in
    let k = c.loop-m.m-index in
    c.in_ok-add_field.ensures (map written_member (drop (k + 1) all))
    ∙ ap (λ ms. listed c.loop-m.names.items ++ fields_of (map written_member ms)) (sym (left all k c.m-item.result c.loop-m-test.true c.m-item.is))
    ∙ c.loop-m.invariant

pub returns : goal.returns
returns c =
    let done = listed c.loop-m.names.items in
    let all_of : done ≡ fields_of (map written_member c.args.all.now) =
    sym (append-nil done)
    ∙ ap (λ ms. done ++ fields_of (map written_member ms)) (sym (drop_all _ c.args.all.now c.loop-m-test.false))
    ∙ c.loop-m.invariant in
    IfOk-weaker c.shared_names.result _ _ (λ xs is. is ∙ all_of) c.shared_names.ensures
