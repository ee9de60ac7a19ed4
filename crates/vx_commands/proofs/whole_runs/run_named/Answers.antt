use Rattle.std.proofs.Common.{rules, ◌≡◌, ◌∙◌, ◌∷◌, [], ap, sym, ℕ, None, Some, codes, string_bytes}
use Rattle.std.proofs.lemmas.Result.{IfOk-weaker}
use Rattle.vx_ast.specs.Syntax.{method_named}
use Rattle.vx_tokens.specs.Text.{first_place}
use Rattle.vx_resolved.specs.Numbers.{number_named}
use Rattle.vx_resolved.specs.Resolved.{method, block, optional_block}
use Rattle.vx_resolved.specs.Settled.{settled as settled_program, optional_method}
use Rattle.vx_commands.specs.Refusals.{line}
use Rattle.vx_commands.proofs.WholeRuns.{has_body, no_method_named, said_of_body, said_of_none}
use Rattle.vx_commands.proofs.whole_runs.run_named.Goals.{in_default-via-in-Some+in_default, in_default-via-in_default}
use Rattle.vx_commands.proofs.whole_runs.run_named.Goals as goal

pub returns-in_default : goal.returns-in_default
returns-in_default c =
    let p = settled_program c.args.program.now in
    let same : string_bytes c.in_ok-name.name.value ≡ c.args.method.now = search rules in
    let told : c.as_str-in_default.result.now ≡ c.args.method.now = search rules in
    let none : method_named p c.args.method.now ≡ None = elim c.in_default.branch [
      | in_default-via-in-Some+in_default w ↦ no_method_named p c.args.method.now (ap (number_named 0 p) (sym same) ∙ (sym c.number_of.ensures ∙ w.in_default.is-1))
      | in_default-via-in_default w ↦ ap (method_named p) (sym same) ∙ (sym c.in_ok-found.ensures ∙ ap optional_method w.in_default.is-0)
    ] in
    said_of_none p c.args.seed c.args.method.now c.line.result none (record {
      told = (c.line.ensures.status, c.line.ensures.bytes ∙ (c.in_ok-line.ensures ∙ ap (λ x. line first_place (codes "E40") (codes "NoMethod") (x ∷ [])) told));
      none = c.line.ensures.none;
    })

pub returns-in-Some : goal.returns-in-Some
returns-in-Some c =
    let p = settled_program c.args.program.now in
    let x = c.args.method.now in
    let m = method c.in-Some-Some.found.value in
    let same : string_bytes c.in_ok-name.name.value ≡ c.args.method.now = search rules in
    let found : method_named p x ≡ Some m = ap (method_named p) (sym same) ∙ (sym c.in_ok-found.ensures ∙ ap optional_method c.in-Some-Some.is-0) in
    let number : number_named 0 p x ≡ Some c.in-Ok.number = ap (number_named 0 p) (sym same) ∙ (sym c.number_of.ensures ∙ (c.in-Some-Some.is-1 ∙ ap (λ (n : ℕ). Some n) (sym c.in-Ok.ensures.1))) in
    let b = block c.in-Some.field-0.value in
    let body : m.body ≡ Some b = ap (λ v. optional_block v.body) (sym c.deref.ensures) ∙ ap optional_block c.in-Some.is in
    IfOk-weaker c.run_member.result _ _ (λ output h. said_of_body p c.args.seed x m b output found body (h m b (has_body p x _ m b number found body))) c.run_member.ensures
