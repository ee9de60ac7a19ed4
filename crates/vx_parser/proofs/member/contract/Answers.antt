use Rattle.std.proofs.Common.{◌≡◌, ◌+◌, [], ap, rules, arith}
use Rattle.std.proofs.lemmas.Result.{err_from_is_err_and}
use Rattle.vx_tokens.specs.Tokens.{token_of, tokens_in}
use Rattle.vx_ast.specs.Written.{written_expr}
use Rattle.vx_grammar.specs.MemberReading.{limit, clause_turn}
use Rattle.vx_expr_parser.proofs.Turns.{goes_on, is_over, is_done, halts, empty_tokens}
use Rattle.vx_parser.proofs.Turns.{requires_on, ensures_on, clause_over, clause_end, measure_on, requires_stops, ensures_stops, measure_stops}
use Rattle.vx_parser.proofs.member.contract.Goals as goal
use Rattle.vx_parser.proofs.member.contract.Goals.{then-begins_requires+in_ok-e+in_ok-add_precondition, else-begins_requires+then-begins_ensures+in_ok-e-2+in_ok-add_postcondition, else-begins_requires+else-begins_ensures+then-is_due+in_ok-e-3+in_ok-add_measure}

pub returns-in_default : goal.returns-in_default
returns-in_default c =
    is_over (clause_turn limit c.args.may) c.args.tokens.now c.loop.counter _ (tokens_in c.loop.rest.now) [] _ c.loop-test.true (clause_end c.args.may _ (tokens_in c.loop.rest.now) (empty_tokens c.loop.rest.now c.in_default.ensures.cases)) c.loop.invariant.0

pub returns-else-is_due : goal.returns-else-is_due
returns-else-is_due c =
    is_over (clause_turn limit c.args.may) c.args.tokens.now c.loop.counter _ (tokens_in c.loop.rest.now) _ _ c.loop-test.true (clause_over c.args.may _ (tokens_in c.loop.rest.now) (token_of c.in-Some.first.now) (tokens_in c.in-Some.inner.now) (search rules) (search rules) (search rules) (search rules)) c.loop.invariant.0

pub returns : goal.returns
returns c = is_done (clause_turn limit c.args.may) c.args.tokens.now c.loop.counter _ (tokens_in c.loop.rest.now) _ c.loop-test.false c.loop.invariant.0

pub returns-in_err-e : goal.returns-in_err-e
returns-in_err-e c =
    let p = err_from_is_err_and c.from_residual.result c.from_residual.ensures.1 in
    rw (p.1, p.2) (halts c.in_err-e.field-0.0 (clause_turn limit c.args.may) c.args.tokens.now c.loop.counter _ (tokens_in c.loop.rest.now) _ c.loop-test.true
    (requires_stops c.in_err-e.field-0.0 c.args.may _ (tokens_in c.loop.rest.now) (token_of c.in-Some.first.now) (tokens_in c.in-Some.inner.now) (search rules) (search rules) c.in_err-e.ensures) c.loop.invariant.0)

pub returns-in_err-e-2 : goal.returns-in_err-e-2
returns-in_err-e-2 c =
    let p = err_from_is_err_and c.from_residual-in_err-e-2.result c.from_residual-in_err-e-2.ensures.1 in
    rw (p.1, p.2) (halts c.in_err-e-2.field-0.0 (clause_turn limit c.args.may) c.args.tokens.now c.loop.counter _ (tokens_in c.loop.rest.now) _ c.loop-test.true
    (ensures_stops c.in_err-e-2.field-0.0 c.args.may _ (tokens_in c.loop.rest.now) (token_of c.in-Some.first.now) (tokens_in c.in-Some.inner.now) (search rules) (search rules) (search rules) c.in_err-e-2.ensures) c.loop.invariant.0)

pub returns-in_err-e-3 : goal.returns-in_err-e-3
returns-in_err-e-3 c =
    let p = err_from_is_err_and c.from_residual-in_err-e-3.result c.from_residual-in_err-e-3.ensures.1 in
    rw (p.1, p.2) (halts c.in_err-e-3.field-0.0 (clause_turn limit c.args.may) c.args.tokens.now c.loop.counter _ (tokens_in c.loop.rest.now) _ c.loop-test.true
    (measure_stops c.in_err-e-3.field-0.0 c.args.may _ (tokens_in c.loop.rest.now) (token_of c.in-Some.first.now) (tokens_in c.in-Some.inner.now) (search rules) (search rules) (search rules) (search rules) c.in_err-e-3.ensures) c.loop.invariant.0)

pub loop-preserved : goal.loop-preserved
loop-preserved c = elim c.if-begins_requires.branch [
  | then-begins_requires+in_ok-e+in_ok-add_precondition w ↦
      let added = w.in_ok-add_precondition.ensures in
      let count : w.add_precondition.new.self.preconditions ≡ c.loop.clauses.preconditions + 1 = ap (λ l. l.requires) added in
      let other : w.add_precondition.new.self.postconditions ≡ c.loop.clauses.postconditions = ap (λ l. l.ensures) added in
      rw (w.clauses-is, w.rest-is, added, w.skip_semicolon-rest.ensures, count, other) (
        goes_on (clause_turn limit c.args.may) c.args.tokens.now c.loop.counter _ _ (tokens_in c.loop.rest.now) _ _ c.loop-test.true
            (requires_on c.args.may _ (tokens_in c.loop.rest.now) (token_of c.in-Some.first.now) (tokens_in c.in-Some.inner.now) (written_expr w.in_ok-e.e.value) (tokens_in w.in_ok-e.after.now) (search rules) (search rules) w.in_ok-e.ensures) c.loop.invariant.0,
        omega (arith, c.loop.invariant.1),
        omega (arith, c.loop.invariant.2),
      )
  | else-begins_requires+then-begins_ensures+in_ok-e-2+in_ok-add_postcondition w ↦
      let added = w.in_ok-add_postcondition.ensures in
      let count : w.add_postcondition.new.self.postconditions ≡ c.loop.clauses.postconditions + 1 = ap (λ l. l.ensures) added in
      let other : w.add_postcondition.new.self.preconditions ≡ c.loop.clauses.preconditions = ap (λ l. l.requires) added in
      rw (w.clauses-is, w.rest-is, added, w.skip_semicolon-rest-then-begins_ensures.ensures, count, other) (
        goes_on (clause_turn limit c.args.may) c.args.tokens.now c.loop.counter _ _ (tokens_in c.loop.rest.now) _ _ c.loop-test.true
            (ensures_on c.args.may _ (tokens_in c.loop.rest.now) (token_of c.in-Some.first.now) (tokens_in c.in-Some.inner.now) (written_expr w.in_ok-e-2.e.value) (tokens_in w.in_ok-e-2.after.now) (search rules) (search rules) (search rules) w.in_ok-e-2.ensures) c.loop.invariant.0,
        omega (arith, c.loop.invariant.1),
        omega (arith, c.loop.invariant.2),
      )
  | else-begins_requires+else-begins_ensures+then-is_due+in_ok-e-3+in_ok-add_measure w ↦
      let added = w.in_ok-add_measure.ensures in
      let first : w.add_measure.new.self.preconditions ≡ c.loop.clauses.preconditions = ap (λ l. l.requires) added in
      let second : w.add_measure.new.self.postconditions ≡ c.loop.clauses.postconditions = ap (λ l. l.ensures) added in
      rw (w.clauses-is, w.rest-is, added, w.skip_semicolon-rest-then-is_due.ensures, first, second) (
        goes_on (clause_turn limit c.args.may) c.args.tokens.now c.loop.counter _ _ (tokens_in c.loop.rest.now) _ _ c.loop-test.true
            (measure_on c.args.may _ (tokens_in c.loop.rest.now) (token_of c.in-Some.first.now) (tokens_in c.in-Some.inner.now) (written_expr w.in_ok-e-3.e.value) (tokens_in w.in_ok-e-3.after.now) (search rules) (search rules) (search rules) (search rules) w.in_ok-e-3.ensures) c.loop.invariant.0,
        omega (arith, c.loop.invariant.1),
        omega (arith, c.loop.invariant.2),
      )
]
