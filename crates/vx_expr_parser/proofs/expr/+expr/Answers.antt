use Rattle.std.proofs.Common.{◌≡◌, ◌-◌, sym, subst, List, [], ◌∷◌, ◌++◌, ap, ◌∙◌, rules, arith}
use Rattle.std.proofs.lemmas.List.{map-append}
use Rattle.std.proofs.lemmas.Result.{err_from_is_err_and}
use Rattle.vx_tokens.specs.Tokens.{Token, token_of, tokens_in}
use Rattle.vx_ast.specs.Written.{Exprs, written_expr, written_all}
use Rattle.vx_grammar.specs.Reading.{choice, implication, chain, arguments, access, holding, argument_turn, below}
use Rattle.vx_grammar.specs.Nesting.{is_full}
use Rattle.vx_expr_parser.specs.Gives.{Gives}
use Rattle.vx_expr_parser.specs.Views.{access_of, exprs_of, instance_of}
use Rattle.vx_expr_parser.proofs.Rows.{all_items}
use Rattle.vx_expr_parser.proofs.Turns.{goes_on, is_over, is_done, halts, argument_on, argument_over, argument_end, argument_stops, some_is, empty_tokens}
use Rattle.vx_expr_parser.proofs.Steps.{nested_is, has_operator, operator_full, operator_is, encloses}
use Rattle.vx_expr_parser.proofs.expr.+expr.Goals as goal

pub nested_choice-returns-in-Some : goal.nested_choice-returns-in-Some
nested_choice-returns-in-Some t c = nested_is choice _ c.choice.result c.args.room c.in-Some.less (tokens_in c.args.here.now) (tokens_in c.args.tokens.now) c.in-Some.ensures c.choice.ensures

pub nested_choice-returns-in-None : goal.nested_choice-returns-in-None
nested_choice-returns-in-None t c = is_full c.args.room choice (tokens_in c.args.here.now) (tokens_in c.args.tokens.now) (omega (arith, c.in-None.ensures))

pub nested_implication-returns-in-Some : goal.nested_implication-returns-in-Some
nested_implication-returns-in-Some t c = nested_is implication _ c.implication.result c.args.room c.in-Some.less (tokens_in c.args.here.now) (tokens_in c.args.tokens.now) c.in-Some.ensures c.implication.ensures

pub nested_implication-returns-in-None : goal.nested_implication-returns-in-None
nested_implication-returns-in-None t c = is_full c.args.room implication (tokens_in c.args.here.now) (tokens_in c.args.tokens.now) (omega (arith, c.in-None.ensures))

pub nested_operand-returns-in-Some : goal.nested_operand-returns-in-Some
nested_operand-returns-in-Some t c = nested_is (chain 0) _ c.chain.result c.args.room c.in-Some.less (tokens_in c.args.here.now) (tokens_in c.args.tokens.now) c.in-Some.ensures c.chain.ensures

pub nested_operand-returns-in-None : goal.nested_operand-returns-in-None
nested_operand-returns-in-None t c = is_full c.args.room (chain 0) (tokens_in c.args.here.now) (tokens_in c.args.tokens.now) (omega (arith, c.in-None.ensures))

pub nested_arguments-returns-in-Some : goal.nested_arguments-returns-in-Some
nested_arguments-returns-in-Some t c = nested_is arguments _ c.arguments.result c.args.room c.in-Some.less (tokens_in c.args.here.now) (tokens_in c.args.tokens.now) c.in-Some.ensures c.arguments.ensures

pub nested_arguments-returns-in-None : goal.nested_arguments-returns-in-None
nested_arguments-returns-in-None t c = is_full c.args.room arguments (tokens_in c.args.here.now) (tokens_in c.args.tokens.now) (omega (arith, c.in-None.ensures))

pub nested_access-returns-in-Some : goal.nested_access-returns-in-Some
nested_access-returns-in-Some t c = nested_is access _ c.access_inside.result c.args.room c.in-Some.less (tokens_in c.args.here.now) (tokens_in c.args.tokens.now) c.in-Some.ensures c.access_inside.ensures

pub nested_access-returns-in-None : goal.nested_access-returns-in-None
nested_access-returns-in-None t c = is_full c.args.room access (tokens_in c.args.here.now) (tokens_in c.args.tokens.now) (omega (arith, c.in-None.ensures))

pub nested_holding-returns-in-Some : goal.nested_holding-returns-in-Some
nested_holding-returns-in-Some t c = nested_is holding _ c.holding.result c.args.room c.in-Some.less (tokens_in c.args.here.now) (tokens_in c.args.tokens.now) c.in-Some.ensures c.holding.ensures

pub nested_holding-returns-in-None : goal.nested_holding-returns-in-None
nested_holding-returns-in-None t c = is_full c.args.room holding (tokens_in c.args.here.now) (tokens_in c.args.tokens.now) (omega (arith, c.in-None.ensures))

pub some_arguments-returns : goal.some_arguments-returns
some_arguments-returns t c =
    some_is (λ x. (exprs_of x.0.items, tokens_in x.1.now)) (λ x. (written_all x.0.items, tokens_in x.1.now)) c.more_arguments.result c.args.room (tokens_in c.args.tokens.now) (tokens_in c.in_ok-e.rest.now) (written_expr c.in_ok-e.e) _
    (λ x. ap (λ (l : Exprs). let y : Exprs × List Token = (l, tokens_in x.1.now) in y) (all_items x.0.items)) c.in_ok-one.ensures c.in_ok-e.ensures c.more_arguments.ensures

-- the turns of arguments
pub more_arguments-returns-in_default : goal.more_arguments-returns-in_default
more_arguments-returns-in_default t c =
    is_over (argument_turn (below c.args.room)) c.args.tokens.now c.loop.counter _ (tokens_in c.loop.rest.now) [] _ c.loop-test.true (argument_end c.args.room _ (tokens_in c.loop.rest.now) (empty_tokens c.loop.rest.now c.in_default.ensures.cases)) c.loop.invariant

pub more_arguments-returns-then-not-is_symbol : goal.more_arguments-returns-then-not-is_symbol
more_arguments-returns-then-not-is_symbol t c =
    is_over (argument_turn (below c.args.room)) c.args.tokens.now c.loop.counter _ (tokens_in c.loop.rest.now) _ _ c.loop-test.true (argument_over c.args.room _ (tokens_in c.loop.rest.now) (token_of c.in-Some.first.now) (tokens_in c.in-Some.inner.now) (search rules) (search rules)) c.loop.invariant

pub more_arguments-returns-in_err-next : goal.more_arguments-returns-in_err-next
more_arguments-returns-in_err-next t c =
    let p = err_from_is_err_and c.from_residual.result c.from_residual.ensures.1 in
    rw (p.1, p.2) (halts c.in_err-next.field-0.0 (argument_turn (below c.args.room)) c.args.tokens.now c.loop.counter _ (tokens_in c.loop.rest.now) _ c.loop-test.true
    (argument_stops c.in_err-next.field-0.0 c.args.room _ (tokens_in c.loop.rest.now) (token_of c.in-Some.first.now) (tokens_in c.in-Some.inner.now) (search rules) (search rules) c.in_err-next.ensures) c.loop.invariant)

pub more_arguments-loop-preserved : goal.more_arguments-loop-preserved
more_arguments-loop-preserved t c =
    let items : exprs_of c.push.new.self.items ≡ exprs_of c.loop.arguments.items ++ written_expr c.in_ok-next.next ∷ [] = ap exprs_of c.in_ok-push.ensures.items ∙ map-append (λ e. written_expr e.value) c.loop.arguments.items (c.in_ok-new.field-0 ∷ []) ∙ ap (λ e. exprs_of c.loop.arguments.items ++ written_expr e ∷ []) c.in_ok-new.ensures.ok in
    rw (items, c.same-rest.ensures) (goes_on (argument_turn (below c.args.room)) c.args.tokens.now c.loop.counter _ _ (tokens_in c.loop.rest.now) _ _ c.loop-test.true
    (argument_on c.args.room _ (tokens_in c.loop.rest.now) (token_of c.in-Some.first.now) (tokens_in c.in-Some.inner.now) (written_expr c.in_ok-next.next) (tokens_in c.in_ok-next.after.now) (search rules) (search rules) c.in_ok-next.ensures) c.loop.invariant)

pub more_arguments-returns : goal.more_arguments-returns
more_arguments-returns t c = is_done (argument_turn (below c.args.room)) c.args.tokens.now c.loop.counter _ (tokens_in c.loop.rest.now) _ c.loop-test.false c.loop.invariant

pub rest_of_chain-returns-in-Some-operator_of : goal.rest_of_chain-returns-in-Some-operator_of
rest_of_chain-returns-in-Some-operator_of t c =
    let h = has_operator (below c.args.room) c.args.level c.args.place (written_expr c.args.left) (tokens_in c.args.tokens.now) (token_of c.in-Some.first.now) (tokens_in c.in-Some.inner.now) c.in-Some-operator_of.op
    (record { tokens = search rules; operator = search rules; of_level = search rules; low = c.requires.low }) in
    subst (Gives (λ x. (written_expr x.0, tokens_in x.1.now)) c.operated.result) (sym h) c.operated.ensures

pub operated-returns-in-Some : goal.operated-returns-in-Some
operated-returns-in-Some t c =
    operator_is (λ x. (written_expr x.0, tokens_in x.1.now)) c.further.result c.args.room c.in-Some.less (c.args.level - 1) c.args.place (written_expr c.args.left) (token_of c.args.first.now) (tokens_in c.args.tokens.now) c.args.op c.in-Some.ensures (rw c.in_ok-left.ensures.ok at c.further.ensures)

pub operated-returns-in-None : goal.operated-returns-in-None
operated-returns-in-None t c =
    operator_full c.args.room (c.args.level - 1) c.args.place (written_expr c.args.left) (tokens_in c.args.here.now) (token_of c.args.first.now) (tokens_in c.args.tokens.now) c.args.op c.in-None.ensures c.requires.first

pub grouped-returns : goal.grouped-returns
grouped-returns t c =
    encloses choice written_expr (λ ts. tokens_in ts.now) c.in_ok-e.e c.closed.result (below c.args.room) (tokens_in c.args.tokens.now) _ (tokens_in c.in_ok-inner.inner.now) (tokens_in c.in_ok-e.rest.now) c.in_ok-inner.ensures c.in_ok-e.ensures c.closed.ensures

pub enclosed_arguments-returns : goal.enclosed_arguments-returns
enclosed_arguments-returns t c =
    encloses arguments (λ es. written_all es.items) (λ ts. tokens_in ts.now) c.in_ok-arguments.arguments c.closed.result (below c.args.room) (tokens_in c.args.tokens.now) _ (tokens_in c.in_ok-inner.inner.now) (tokens_in c.in_ok-arguments.rest.now) c.in_ok-inner.ensures c.in_ok-arguments.ensures c.closed.ensures

pub enclosed_access-returns : goal.enclosed_access-returns
enclosed_access-returns t c =
    encloses access access_of (λ ts. tokens_in ts.now) c.in_ok-access.access c.closed.result (below c.args.room) (tokens_in c.args.tokens.now) _ (tokens_in c.in_ok-inner.inner.now) (tokens_in c.in_ok-access.rest.now) c.in_ok-inner.ensures c.in_ok-access.ensures c.closed.ensures

pub enclosed_holding-returns : goal.enclosed_holding-returns
enclosed_holding-returns t c =
    encloses holding instance_of (λ ts. tokens_in ts.now) c.in_ok-instance.instance c.closed.result (below c.args.room) (tokens_in c.args.tokens.now) _ (tokens_in c.in_ok-inner.inner.now) (tokens_in c.in_ok-instance.rest.now) c.in_ok-inner.ensures c.in_ok-instance.ensures c.closed.ensures
