use Rattle.std.specs.Global.{Vec}
use Rattle.std.proofs.Common.{◌≡◌, ◌<◌, ◌≤◌, ◌++◌, ◌∷◌, [], vec_len, length, map, sym, ap, ◌∙◌, rules, arith}
use Rattle.std.proofs.lemmas.Result.{err_from_is_err_and}
use Rattle.std.proofs.lemmas.List.{map-append, length-map}
use Rattle.vx_ast.specs.declared.Member as the_member
use Rattle.vx_ast.specs.Written.{written_member}
use Rattle.vx_tokens.specs.Tokens.{token_of, tokens_in}
use Rattle.vx_grammar.specs.MemberReading.{max_members}
use Rattle.vx_expr_parser.proofs.Turns.{empty_tokens}
use Rattle.vx_parser.proofs.Members.{member_on, member_end, member_none, member_many, member_stops, member_left, some_tokens}
use Rattle.vx_parser.proofs.program.members.Goals as goal

count : (v : Vec the_member.Member) → vec_len v ≡ length (map written_member v.items)
count v = let n : vec_len v ≡ length v.items = search rules in n ∙ sym (length-map v.items written_member)

pub returns-in_default : goal.returns-in_default
returns-in_default c = member_end _ _ (tokens_in c.loop.rest.now) _ (empty_tokens c.loop.rest.now c.in_default.ensures.cases) c.loop.invariant

pub returns-then-not-begins_member : goal.returns-then-not-begins_member
returns-then-not-begins_member c =
    member_none c.args.tokens.now c.loop.counter _ (tokens_in c.loop.rest.now) (token_of c.in-Some.first.now) (tokens_in c.in-Some.inner.now) _ c.loop-test.true (search rules) (search rules) c.loop.invariant

pub returns-then-len-ge-MAX_MEMBERS : goal.returns-then-len-ge-MAX_MEMBERS
returns-then-len-ge-MAX_MEMBERS c =
    let many : max_members ≤ length (map written_member c.loop.members.items) = omega (arith, c.if-len-ge-MAX_MEMBERS.true, c.len.ensures, count c.loop.members) in
    member_many c.args.tokens.now c.loop.counter _ (tokens_in c.loop.rest.now) (token_of c.in-Some.first.now) (tokens_in c.in-Some.inner.now) _ c.loop-test.true (search rules) (search rules) many c.loop.invariant

pub returns-in_err-next : goal.returns-in_err-next
returns-in_err-next c =
    let p = err_from_is_err_and c.from_residual.result c.from_residual.ensures.1 in
    let few : length (map written_member c.loop.members.items) < max_members = omega (arith, c.if-len-ge-MAX_MEMBERS.false, c.len.ensures, count c.loop.members) in
    rw (p.1, p.2) (member_stops c.in_err-next.field-0.0 c.args.tokens.now c.loop.counter _ (tokens_in c.loop.rest.now) (token_of c.in-Some.first.now) (tokens_in c.in-Some.inner.now) _ c.loop-test.true (search rules) (search rules) few c.in_err-next.ensures c.loop.invariant)

pub loop-preserved : goal.loop-preserved
loop-preserved c =
    let m = c.in_ok-next.next in
    let few : length (map written_member c.loop.members.items) < max_members = omega (arith, c.if-len-ge-MAX_MEMBERS.false, c.len.ensures, count c.loop.members) in
    let items : map written_member c.push.new.self.items ≡ map written_member c.loop.members.items ++ written_member m ∷ [] = ap (map written_member) c.in_ok-push.ensures.items ∙ map-append written_member c.loop.members.items (m ∷ []) in
    rw (items, c.skip_semicolon-rest.ensures)
    (member_on c.args.tokens.now c.loop.counter _ (tokens_in c.loop.rest.now) (token_of c.in-Some.first.now) (tokens_in c.in-Some.inner.now) (written_member m) (tokens_in c.in_ok-next.after.now) _ c.loop-test.true (search rules) (search rules) few c.in_ok-next.ensures c.loop.invariant)

pub returns-then-is_empty : goal.returns-then-is_empty
returns-then-is_empty c = member_end _ _ (tokens_in c.loop.rest.now) _ (empty_tokens c.loop.rest.now (search rules)) c.loop.invariant

pub returns : goal.returns
returns c = member_left c.args.tokens.now c.loop.counter _ (tokens_in c.loop.rest.now) _ c.loop-test.false (some_tokens c.loop.rest.now (search rules)) c.loop.invariant
