use Rattle.std.proofs.Common.{◌≤◌, ◌∙◌, List, false, length, get_or, subst, ap}
use Rattle.std.proofs.lemmas.List.{take_all}
use Rattle.std.proofs.lemmas.List.Elements.{All-more}
use Rattle.cs_certificate.specs.declared.literal.Literal.{Literal}
use Rattle.cs_search.specs.Assignment.{status_of}
use Rattle.cs_decide.specs.New.{IsUntrue, AreUntrue}
use Rattle.cs_decide.proofs.cases.are_untrue.Goals as goal

pub loop-literal-preserved : goal.loop-literal-preserved
loop-literal-preserved c =
    let values = c.args.made.now.values.items in
    let none : Literal = record { positive = false; number = 0 } in
    let literal = get_or c.args.literals.now c.loop-literal.literal-index none in
    let told = c.status.ensures ∙ ap (λ v. status_of v literal) c.deref.ensures.value in
    All-more (IsUntrue values) c.args.literals.now c.loop-literal.literal-index none c.loop-literal-test.true c.loop-literal.invariant (λ place e. c.in_default.not-True place (told ∙ e))

pub returns : goal.returns
returns c =
    let P : List Literal → Type 0 = AreUntrue c.args.made.now.values.items in
    let n : length c.args.literals.now ≤ c.loop-literal.literal-index = c.loop-literal-test.false in
    λ t. subst P (take_all c.loop-literal.literal-index c.args.literals.now n) c.loop-literal.invariant
