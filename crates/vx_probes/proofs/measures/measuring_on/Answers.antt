use Rattle.std.proofs.Common.{◌∙◌, ap}
use Rattle.vx_rules.specs.Codes.{code}
use Rattle.vx_rules.specs.Chunks.{Candidate}
use Rattle.vx_rules.specs.Rules.{never}
use Rattle.vx_stack.specs.Stack.{finding, giving, told}
use Rattle.vx_probes.proofs.measures.measuring_on.Goals as goal

pub returns : goal.returns
returns c = λ p s.
    let n = c.args.number in
    let x = c.args.search.now.value in
    ap (λ y. finding y n s (λ (i : Candidate). told p c.in_ok-clone-2.field-0.value (giving p c.in_ok-clone-3.field-0.value) s) (never y.place (code y.code) s)) c.in_ok-clone.ensures.cases
    ∙ ap (λ y. finding x n s (λ (i : Candidate). told p y (giving p c.in_ok-clone-3.field-0.value) s) (never x.place (code x.code) s)) c.in_ok-clone-2.ensures.cases
    ∙ ap (λ y. finding x n s (λ (i : Candidate). told p c.args.x.now.value (giving p y) s) (never x.place (code x.code) s)) c.in_ok-clone-3.ensures.cases
