use Rattle.std.proofs.Common.{◌∙◌, ◌<◌, ◌^◌, sym, ap, subst, map, length}
use Rattle.std.proofs.lemmas.List.{length-map}
use Rattle.vx_ast.specs.Written.{written_member}
use Rattle.vx_graph.specs.Reach.{leads}
use Rattle.vx_typing.proofs.Graphs.{as_many_rows, as_mentioned, in_range}
use Rattle.vx_typing.proofs.groups.edges_of.Goals as goal

pub of-requires-clause-few : goal.of-requires-clause-few
of-requires-clause-few c =
    let p = map written_member c.args.all.now in
    let rows = c.in_ok-rows.rows.items in
    subst (λ n. n < 2 ^ 32) (sym (as_many_rows p rows p (c.in_ok-rows.ensures p c.requires.table) ∙ length-map c.args.all.now written_member)) c.requires.few

pub of-requires-clause-within : goal.of-requires-clause-within
of-requires-clause-within c =
    let p = map written_member c.args.all.now in
    in_range p c.in_ok-rows.rows.items (c.in_ok-rows.ensures p c.requires.table)

pub returns-clause-count : goal.returns-clause-count
returns-clause-count c =
    let p = map written_member c.args.all.now in
    ap length c.in_ok-edges.ensures ∙ as_many_rows p c.in_ok-rows.rows.items p (c.in_ok-rows.ensures p c.requires.table) ∙ length-map c.args.all.now written_member

pub returns-clause-edges : goal.returns-clause-edges
returns-clause-edges c = λ a b.
    let p = map written_member c.args.all.now in
    ap (λ rows. leads rows a b) c.in_ok-edges.ensures ∙ as_mentioned p c.in_ok-rows.rows.items p (c.in_ok-rows.ensures p c.requires.table) a b
