use Rattle.std.proofs.Common.{◌≡◌, ◌++◌, ◌∷◌, [], ap, ◌∙◌, map, rules}
use Rattle.std.proofs.lemmas.Result.{err_from_is_err_and}
use Rattle.std.proofs.lemmas.List.{map-append}
use Rattle.vx_tokens.specs.Tokens.{token_of, tokens_in}
use Rattle.vx_ast.specs.Written.{name_of}
use Rattle.vx_grammar.specs.Reading.{name_turn}
use Rattle.vx_expr_parser.proofs.Turns.{goes_on, is_over, is_done, halts, name_on, name_over, name_end, name_stops, empty_tokens}
use Rattle.vx_expr_parser.proofs.names.more_names.Goals as goal

pub returns-in_default : goal.returns-in_default
returns-in_default c =
    is_over name_turn c.args.tokens.now c.loop.counter _ (tokens_in c.loop.rest.now) [] _ c.loop-test.true (name_end _ (tokens_in c.loop.rest.now) (empty_tokens c.loop.rest.now c.in_default.ensures.cases)) c.loop.invariant

pub returns-then-not-is_symbol : goal.returns-then-not-is_symbol
returns-then-not-is_symbol c =
    is_over name_turn c.args.tokens.now c.loop.counter _ (tokens_in c.loop.rest.now) _ _ c.loop-test.true (name_over _ (tokens_in c.loop.rest.now) (token_of c.in-Some.first.now) (tokens_in c.in-Some.inner.now) (search rules) (search rules)) c.loop.invariant

pub returns-in_err-next : goal.returns-in_err-next
returns-in_err-next c =
    let p = err_from_is_err_and c.from_residual.result c.from_residual.ensures.1 in
    rw (p.1, p.2) (halts c.in_err-next.field-0.0 name_turn c.args.tokens.now c.loop.counter _ (tokens_in c.loop.rest.now) _ c.loop-test.true
    (name_stops c.in_err-next.field-0.0 _ (tokens_in c.loop.rest.now) (token_of c.in-Some.first.now) (tokens_in c.in-Some.inner.now) (search rules) (search rules) c.in_err-next.ensures) c.loop.invariant)

pub loop-preserved : goal.loop-preserved
loop-preserved c =
    let d = c.in_ok-next.next in
    let items : map name_of c.push.new.self.items ≡ map name_of c.loop.names.items ++ name_of d ∷ [] = ap (map name_of) c.in_ok-push.ensures.items ∙ map-append name_of c.loop.names.items (d ∷ []) in
    rw (items, c.same-rest.ensures) (goes_on name_turn c.args.tokens.now c.loop.counter _ _ (tokens_in c.loop.rest.now) _ _ c.loop-test.true
    (name_on _ (tokens_in c.loop.rest.now) (token_of c.in-Some.first.now) (tokens_in c.in-Some.inner.now) (name_of d) (tokens_in c.in_ok-next.after.now) (search rules) (search rules) c.in_ok-next.ensures) c.loop.invariant)

pub returns : goal.returns
returns c = is_done name_turn c.args.tokens.now c.loop.counter _ (tokens_in c.loop.rest.now) _ c.loop-test.false c.loop.invariant
