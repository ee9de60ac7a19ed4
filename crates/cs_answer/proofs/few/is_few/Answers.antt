use Rattle.std.proofs.Common.{◌≡◌, false, ◌&&◌, map, sym, ap, ◌∙◌}
use Rattle.std.proofs.lemmas.Bool.Decides.{Decides-at}
use Rattle.std.proofs.lemmas.Result.{IfOk-weaker}
use Rattle.vx_terms.specs.Views.{term}
use Rattle.cs_certificate.specs.Terms.{numbered}
use Rattle.cs_proof.specs.Fits.{seen}
use Rattle.cs_answer.specs.Tests.{are_few, are_formed, is_few}
use Rattle.cs_answer.proofs.Tested.{few_decided}
use Rattle.cs_answer.proofs.few.is_few.Goals as goal

pub returns-then-not-branch : goal.returns-then-not-branch
returns-then-not-branch c =
    let stack = seen c.args.stack.now in
    let told : false ≡ is_few stack = ap (λ b. b && are_formed stack) (sym c.if-not-branch.true ∙ (c.in_ok-have_few.ensures ∙ ap (λ xs. are_few (numbered (map (λ x. term x.value) xs))) c.deref.ensures.value)) in
    Decides-at false (is_few stack) told (few_decided stack)

pub returns : goal.returns
returns c =
    let stack = seen c.args.stack.now in
    let formed : are_formed stack ≡ is_few stack = ap (λ b. b && are_formed stack) (sym c.if-not-branch.false ∙ (c.in_ok-have_few.ensures ∙ ap (λ xs. are_few (numbered (map (λ x. term x.value) xs))) c.deref.ensures.value)) in
    IfOk-weaker c.are_formed.result _ _ (λ b told. Decides-at b (is_few stack) (told ∙ formed) (few_decided stack)) c.are_formed.ensures
