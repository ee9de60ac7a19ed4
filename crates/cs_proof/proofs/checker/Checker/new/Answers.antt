use Rattle.std.proofs.Common.{◌≡◌, ◌↔◌, rules, map, IfOk, ap, ◌∙◌, subst}
use Rattle.vx_smt_meaning.specs.Views.{declared_symbol}
use Rattle.cs_reader.specs.Steps.{certificate as seen_certificate}
use Rattle.cs_proof.specs.Answers.{Answers}
use Rattle.cs_proof.specs.Checking as clean
use Rattle.cs_proof.specs.Plans.{plans_of}
use Rattle.cs_proof.specs.Fits.{seen}
use Rattle.cs_proof.specs.Meant.{meant, all_meant}
use Rattle.cs_proof.specs.Views.{written}
use Rattle.cs_proof.specs.CheckerView.{checker, Begins}
use Rattle.cs_proof.proofs.checker.Checker.new.Goals as goal

pub returns-clause-value : goal.returns-clause-value
returns-clause-value c =
    let symbols : c.new-symbols.result.declared.now ≡ c.args.stack.now.symbols.items = search rules in
    let steps : c.deref.result.now ≡ c.in_ok-steps.steps.items = search rules in
    let e : map written c.deref.result.now ≡ all_meant (seen c.args.stack.now) (seen_certificate c.args.certificate) =
    ap (map written) steps ∙ c.in_ok-steps.ensures ∙ ap (λ ds. map (meant (map declared_symbol ds)) (seen_certificate c.args.certificate)) symbols in
    subst (λ ws. IfOk c.of-2.result (λ c'. Begins (plans_of (seen c.args.stack.now) ws) (checker c'))) e c.of-2.ensures.value

pub returns-clause-answers : goal.returns-clause-answers
returns-clause-answers c =
    let symbols : c.new-symbols.result.declared.now ≡ c.args.stack.now.symbols.items = search rules in
    let steps : c.deref.result.now ≡ c.in_ok-steps.steps.items = search rules in
    let e : map written c.deref.result.now ≡ all_meant (seen c.args.stack.now) (seen_certificate c.args.certificate) =
    ap (map written) steps ∙ c.in_ok-steps.ensures ∙ ap (λ ds. map (meant (map declared_symbol ds)) (seen_certificate c.args.certificate)) symbols in
    λ sorted v. subst (λ ws. IfOk c.of-2.result (λ c'. Answers (seen c.args.stack.now) ws v ↔ (v ≡ clean.verdict (checker c')))) e (c.of-2.ensures.answers sorted v)
