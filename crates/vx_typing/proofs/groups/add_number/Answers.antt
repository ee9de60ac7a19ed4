use Rattle.std.proofs.Common.{◌∙◌, ◌||◌, sym, ap, option_map, Option}
use Rattle.vx_ast.specs.declared.MemberId.{MemberId}
use Rattle.vx_graph.specs.Listed.{is_in}
use Rattle.vx_typing.specs.Groups.{is_number}
use Rattle.vx_typing.proofs.Lists.{is_in_more}
use Rattle.vx_typing.proofs.groups.add_number.Goals as goal

pub returns-in_ok-push : goal.returns-in_ok-push
returns-in_ok-push c = λ b.
    ap (λ ms. is_in ms b) c.in_ok-push.ensures.items ∙ is_in_more c.args.row.now.items c.in-Some.m b
    ∙ ap (λ (o : Option MemberId). is_in c.args.row.now.items b || is_number (option_map (λ (m : MemberId). m.0) o) b) (sym c.in-Some.is)
