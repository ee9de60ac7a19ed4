use Rattle.std.proofs.Common.{◌≡◌, ◌∷◌, [], ◌∙◌, ap, rules, arith, ◌++◌, map}
use Rattle.std.proofs.lemmas.Result.{err_from_is_err_and}
use Rattle.std.proofs.lemmas.List.{map-append}
use Rattle.vx_tokens.specs.Tokens.{token_of, tokens_in}
use Rattle.vx_grammar.specs.StmtReading.{stmts_below, stmt_turn}
use Rattle.vx_grammar.specs.Nesting.{stmt_is_full}
use Rattle.vx_stmt_parser.specs.Views.{stmt_of}
use Rattle.vx_expr_parser.proofs.Turns.{goes_on, is_over, is_done, halts, empty_tokens}
use Rattle.vx_stmt_parser.proofs.Turns.{stmt_on, stmt_over, stmt_end, stmt_stops, stmt_nested_is}
use Rattle.vx_stmt_parser.proofs.stmt.+stmt.Goals as goal

pub statements-returns-in_default : goal.statements-returns-in_default
statements-returns-in_default t c =
    is_over (stmt_turn c.args.room (stmts_below c.args.room)) c.args.tokens.now c.loop.counter (map stmt_of c.loop.statements.items) (tokens_in c.loop.rest.now) [] _ c.loop-test.true
    (stmt_end c.args.room (stmts_below c.args.room) (map stmt_of c.loop.statements.items) (tokens_in c.loop.rest.now) (empty_tokens c.loop.rest.now c.in_default.ensures.cases)) c.loop.invariant

pub statements-returns-then-not-begins_statement : goal.statements-returns-then-not-begins_statement
statements-returns-then-not-begins_statement t c =
    is_over (stmt_turn c.args.room (stmts_below c.args.room)) c.args.tokens.now c.loop.counter (map stmt_of c.loop.statements.items) (tokens_in c.loop.rest.now) _ _ c.loop-test.true
    (stmt_over c.args.room (stmts_below c.args.room) (map stmt_of c.loop.statements.items) (tokens_in c.loop.rest.now) (token_of c.in-Some.first.now) (tokens_in c.in-Some.field-0-1.now) (search rules) (search rules)) c.loop.invariant

pub statements-returns : goal.statements-returns
statements-returns t c =
    is_done (stmt_turn c.args.room (stmts_below c.args.room)) c.args.tokens.now c.loop.counter (map stmt_of c.loop.statements.items) (tokens_in c.loop.rest.now) _ c.loop-test.false c.loop.invariant

pub statements-returns-in_err-next : goal.statements-returns-in_err-next
statements-returns-in_err-next t c =
    let p = err_from_is_err_and c.from_residual.result c.from_residual.ensures.1 in
    rw (p.1, p.2) (halts c.in_err-next.field-0.0 (stmt_turn c.args.room (stmts_below c.args.room)) c.args.tokens.now c.loop.counter (map stmt_of c.loop.statements.items) (tokens_in c.loop.rest.now) _ c.loop-test.true
    (stmt_stops c.in_err-next.field-0.0 c.args.room (stmts_below c.args.room) (map stmt_of c.loop.statements.items) (tokens_in c.loop.rest.now) (token_of c.in-Some.first.now) (tokens_in c.in-Some.field-0-1.now) (search rules) (search rules) c.in_err-next.ensures) c.loop.invariant)

pub statements-loop-preserved : goal.statements-loop-preserved
statements-loop-preserved t c =
    let s = c.in_ok-next.next in
    let e : map stmt_of c.push.new.self.items ≡ map stmt_of c.loop.statements.items ++ stmt_of s ∷ [] = ap (map stmt_of) c.in_ok-push.ensures.items ∙ map-append stmt_of c.loop.statements.items (s ∷ []) in
    rw (e, c.skip_semicolon-rest.ensures) (goes_on (stmt_turn c.args.room (stmts_below c.args.room)) c.args.tokens.now c.loop.counter (map stmt_of c.loop.statements.items) _ (tokens_in c.loop.rest.now) _ _ c.loop-test.true
    (stmt_on c.args.room (stmts_below c.args.room) (map stmt_of c.loop.statements.items) (tokens_in c.loop.rest.now) (token_of c.in-Some.first.now) (tokens_in c.in-Some.field-0-1.now) (stmt_of s) (tokens_in c.in_ok-next.after.now) (search rules) (search rules) c.in_ok-next.ensures) c.loop.invariant)

pub nested_statements-returns-in-None : goal.nested_statements-returns-in-None
nested_statements-returns-in-None t c = stmt_is_full c.args.room _ (tokens_in c.args.here.now) (tokens_in c.args.tokens.now) (omega (arith, c.in-None.ensures))

pub nested_statements-returns-in-Some : goal.nested_statements-returns-in-Some
nested_statements-returns-in-Some t c = stmt_nested_is _ c.part.result c.args.room c.in-Some.less _ (tokens_in c.args.here.now) (tokens_in c.args.tokens.now) c.in-Some.ensures c.part.ensures
