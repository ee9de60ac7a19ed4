use Rattle.std.proofs.Common.{◌≡◌, ℕ, length, sym, ◌∙◌, ap, arith}
use Rattle.std.specs.Prelude.{string_bytes}
use Rattle.std.proofs.lemmas.List.{length-map}
use Rattle.vx_ast.specs.Syntax.{Name}
use Rattle.vx_meaning.specs.Values.{Value}
use Rattle.vx_resolved.specs.Resolved.{expr, block}
use Rattle.vx_run.specs.Going.{Going}
use Rattle.vx_run.specs.Configs.{Config}
use Rattle.vx_run.specs.ConfigViews.{config_of}
use Rattle.vx_run.specs.Frames.{rest, before}
use Rattle.vx_run.specs.Tasks.{body, left}
use Rattle.vx_run.specs.Views.{value}
use Rattle.vx_run.specs.declared.store.Variable.{Variable}
use Rattle.vx_run.proofs.StatementForms.{round_true, round_false}
use Rattle.vx_run.proofs.blocks.put_round.Goals as goal

abbrev entry : Variable → Name × Value
entry x = (string_bytes x.name.value, value x.value)

pub returns-then-is_true : goal.returns-then-is_true
returns-then-is_true c = λ t l.
    let d = config_of c.args.of.now in
    let n = c.args.level in
    let b = block c.args.b.now in
    let kept : c.len.result ≡ length d.state.store = (let a = c.len.ensures in let e = length-map c.args.of.now.state.store.items entry in omega (a, e, arith)) in
    ap (λ (f : Config → Going ℕ Config). f d l)
    (c.in_ok-put_scope.ensures t ∙ ap (λ (g : Config → Going ℕ Config). before (body t n b) (before (left c.len.result) g)) (c.in_ok-put_off.ensures t))
    ∙ round_true t n d (rest t c.args.frames.now.items) c.args.rounds (expr c.args.e.now) b (value c.args.v) c.len.result l (sym c.is_true.ensures ∙ c.if-is_true.true) kept

pub returns : goal.returns
returns c = λ t l.
    round_false t c.args.level (config_of c.args.of.now) (rest t c.args.frames.now.items) c.args.rounds (expr c.args.e.now) (block c.args.b.now) (value c.args.v) l
    (sym c.is_true.ensures ∙ c.if-is_true.false)
