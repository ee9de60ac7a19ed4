use Rattle.std.proofs.Common.{◌≡◌, ℕ, ◌+◌, ◌<◌, List, ◌++◌, [], ◌∷◌, length, get_or, take, map, false, sym, ap, ap₂, ◌∙◌}
use Rattle.std.proofs.lemmas.List.{map-append, take_more, take_all}
use Rattle.std.proofs.lemmas.Result.{IfOk-from_err}
use Rattle.cs_table.specs.declared.steps.Literal.{Literal}
use Rattle.cs_table.specs.Gives.{clause, numbered}
use Rattle.cs_proof.specs.Prepared as clean
use Rattle.cs_proof.proofs.narrow.turned.Goals as goal

abbrev none_yet : Literal
none_yet = record { positive = false; number = 0 }

one_more : (found ls : List Literal) (k : ℕ) (l d : Literal) → k < length ls → clause found ≡ map clean.turned (clause (take k ls)) → numbered l ≡ clean.turned (numbered (get_or ls k d)) →
    clause (found ++ l ∷ []) ≡ map clean.turned (clause (take (k + 1) ls))
one_more found ls k l d lt so_far here =
    map-append numbered found (l ∷ [])
    ∙ ap₂ (λ xs y. xs ++ y ∷ []) so_far here
    ∙ sym (ap (λ xs. map clean.turned (clause xs)) (take_more ls k d lt) ∙ ap (map clean.turned) (map-append numbered (take k ls) (get_or ls k d ∷ [])) ∙ map-append clean.turned (clause (take k ls)) (numbered (get_or ls k d) ∷ []))

pub returns-in_err-push : goal.returns-in_err-push
returns-in_err-push c = IfOk-from_err _ _ c.from_residual.ensures.0

pub loop-literal-preserved : goal.loop-literal-preserved
loop-literal-preserved c =
    ap clause c.in_ok-push.ensures.items ∙ one_more c.loop-literal.found.items c.args.literals.now c.loop-literal.literal-index c.negation.result none_yet c.loop-literal-test.true c.loop-literal.invariant c.negation.ensures

pub returns : goal.returns
returns c = c.loop-literal.invariant ∙ ap (λ xs. map clean.turned (clause xs)) (take_all c.loop-literal.literal-index c.args.literals.now c.loop-literal-test.false)
