use Rattle.std.specs.Global.{Vec}
use Rattle.std.specs.declared.alloc.Global.{Global}
use Rattle.std.specs.declared.rc.Rc.{Rc}
use Rattle.vx_ast.specs.declared.Expr as the_expr
use Rattle.std.proofs.Common.{vec_len, length, ◌≡◌, ◌++◌, ◌∷◌, [], Ok, ap, sym, subst, ◌∙◌, rules}
use Rattle.std.proofs.lemmas.Result.{err_from_is_err_and}
use Rattle.std.proofs.lemmas.List.{map-append, length-map}
use Rattle.vx_tokens.specs.Tokens.{token_of, tokens_in}
use Rattle.vx_ast.specs.Written.{written_expr}
use Rattle.vx_grammar.specs.StmtReading.{invariant_turn, clause_at}
use Rattle.vx_expr_parser.specs.Gives.{Stops}
use Rattle.vx_expr_parser.specs.Views.{exprs_of}
use Rattle.vx_expr_parser.proofs.Turns.{goes_on, is_over, is_done, halts, empty_tokens}
use Rattle.vx_stmt_parser.proofs.Turns.{invariant_on, invariant_over, invariant_end, invariant_stops}
use Rattle.vx_stmt_parser.proofs.clauses.kept.Goals as goal

long : (v : Vec (Rc the_expr.Expr Global)) → vec_len v ≡ length v.items
long v = search rules

pub returns-in_default : goal.returns-in_default
returns-in_default c =
    is_over (invariant_turn c.args.room) c.args.tokens.now c.loop.counter _ (tokens_in c.loop.rest.now) [] _ c.loop-test.true (invariant_end c.args.room _ (tokens_in c.loop.rest.now) (empty_tokens c.loop.rest.now c.in_default.ensures.cases)) c.loop.invariant

pub returns-then-not-begins_invariant : goal.returns-then-not-begins_invariant
returns-then-not-begins_invariant c =
    is_over (invariant_turn c.args.room) c.args.tokens.now c.loop.counter _ (tokens_in c.loop.rest.now) _ _ c.loop-test.true (invariant_over c.args.room _ (tokens_in c.loop.rest.now) (token_of c.in-Some.first.now) (tokens_in c.in-Some.inner.now) (search rules) (search rules)) c.loop.invariant

pub returns-in_err-e : goal.returns-in_err-e
returns-in_err-e c =
    let p = err_from_is_err_and c.from_residual.result c.from_residual.ensures.1 in
    let n = c.len.ensures ∙ long c.loop.invariants ∙ sym (length-map c.loop.invariants.items (λ e. written_expr e.value)) in
    rw (p.1, p.2) (halts c.in_err-e.field-0.0 (invariant_turn c.args.room) c.args.tokens.now c.loop.counter _ (tokens_in c.loop.rest.now) _ c.loop-test.true
    (invariant_stops c.in_err-e.field-0.0 c.args.room _ (tokens_in c.loop.rest.now) (token_of c.in-Some.first.now) (tokens_in c.in-Some.inner.now) (search rules) (search rules) (subst (λ m. Stops c.in_err-e.field-0.0 (clause_at c.args.room m (tokens_in c.loop.rest.now) (tokens_in c.in-Some.inner.now))) n c.in_err-e.ensures)) c.loop.invariant)

pub loop-preserved : goal.loop-preserved
loop-preserved c =
    let n = c.len.ensures ∙ long c.loop.invariants ∙ sym (length-map c.loop.invariants.items (λ e. written_expr e.value)) in
    let e = c.in_ok-e.e in
    let items : exprs_of c.push.new.self.items ≡ exprs_of c.loop.invariants.items ++ written_expr e.value ∷ [] = ap exprs_of c.in_ok-push.ensures.items ∙ map-append (λ e. written_expr e.value) c.loop.invariants.items (e ∷ []) in
    rw (items, c.skip_semicolon-rest.ensures)
    (goes_on (invariant_turn c.args.room) c.args.tokens.now c.loop.counter _ _ (tokens_in c.loop.rest.now) _ _ c.loop-test.true
    (invariant_on c.args.room _ (tokens_in c.loop.rest.now) (token_of c.in-Some.first.now) (tokens_in c.in-Some.inner.now) (written_expr e.value) (tokens_in c.in_ok-e.after.now) (search rules) (search rules) (subst (λ m. clause_at c.args.room m (tokens_in c.loop.rest.now) (tokens_in c.in-Some.inner.now) ≡ Ok (written_expr e.value, tokens_in c.in_ok-e.after.now)) n c.in_ok-e.ensures)) c.loop.invariant)

pub returns : goal.returns
returns c = is_done (invariant_turn c.args.room) c.args.tokens.now c.loop.counter _ (tokens_in c.loop.rest.now) _ c.loop-test.false c.loop.invariant
