use Rattle.std.proofs.Common.{◌≡◌, ℕ, length, sym, ◌∙◌, ap, arith}
use Rattle.std.specs.Prelude.{string_bytes}
use Rattle.std.proofs.lemmas.List.{length-map}
use Rattle.vx_ast.specs.Syntax.{Name}
use Rattle.vx_meaning.specs.Values.{Value}
use Rattle.vx_resolved.specs.Resolved.{block}
use Rattle.vx_run.specs.Going.{Going}
use Rattle.vx_run.specs.Configs.{Config}
use Rattle.vx_run.specs.ConfigViews.{config_of}
use Rattle.vx_run.specs.Frames.{rest}
use Rattle.vx_run.specs.Views.{value}
use Rattle.vx_run.specs.declared.store.Variable.{Variable}
use Rattle.vx_run.proofs.StatementForms.{branch_true, branch_false}
use Rattle.vx_run.proofs.blocks.put_branch.Goals as goal

abbrev entry : Variable → Name × Value
entry x = (string_bytes x.name.value, value x.value)

pub returns-then-is_true : goal.returns-then-is_true
returns-then-is_true c = λ t l.
    let d = config_of c.args.of.now in
    let kept : c.len-kept.result ≡ length d.state.store = (let a = c.len-kept.ensures in let b = length-map c.args.of.now.state.store.items entry in omega (a, b, arith)) in
    ap (λ (f : Config → Going ℕ Config). f d l) (c.in_ok-put_scope.ensures t)
    ∙ branch_true t c.args.level d (rest t c.args.frames.now.items) (block c.args.x.now) (block c.args.y.now) (value c.args.v) c.len-kept.result l
    (sym c.is_true.ensures ∙ c.if-is_true.true) kept

pub returns : goal.returns
returns c = λ t l.
    let d = config_of c.args.of.now in
    let kept : c.len-kept.result ≡ length d.state.store = (let a = c.len-kept.ensures in let b = length-map c.args.of.now.state.store.items entry in omega (a, b, arith)) in
    ap (λ (f : Config → Going ℕ Config). f d l) (c.in_ok-put_scope-2.ensures t)
    ∙ branch_false t c.args.level d (rest t c.args.frames.now.items) (block c.args.x.now) (block c.args.y.now) (value c.args.v) c.len-kept.result l
    (sym c.is_true.ensures ∙ c.if-is_true.false) kept
