use Rattle.std.proofs.Common.{◌≡◌, ◌∙◌, ◌<◌, ◌^◌, sym, ap, subst, map, length, [], Ok, rules}
use Rattle.std.proofs.lemmas.List.{length-map}
use Rattle.vx_ast.specs.Written.{written_member, written_program}
use Rattle.vx_expressions.specs.Faults.{◌>>=◌}
use Rattle.vx_typing.specs.MemberFaults.{new_names, members}
use Rattle.vx_typing.specs.Members.{table_of}
use Rattle.vx_typing.specs.Programs as first
use Rattle.vx_expressions.specs.Views.{table}
use Rattle.vx_typing.proofs.program.check.Goals as goal

pub invariant_of-result : goal.invariant_of-result
invariant_of-result c =
    let all = c.args.program.now.members.items in
    let p = written_program c.args.program.now in
    let es = c.in_ok-members.members.entries in
    let new : new_names [] p ≡ Ok tt = subst (λ ms. new_names [] (map written_member ms) ≡ Ok tt) c.deref.ensures.value c.in_ok-members.ensures.first in
    let names : table es ≡ table_of p = subst (λ ms. table es ≡ table_of (map written_member ms)) c.deref.ensures.value c.in_ok-members.ensures.table in
    let each : members (table es) p ≡ Ok tt = subst (λ ms. members (table es) (map written_member ms) ≡ Ok tt) c.deref-2.ensures.value c.in_ok-check_members.ensures in
    let apart : first.groups p ≡ Ok tt = subst (λ ms. first.groups (map written_member ms) ≡ Ok tt) c.deref-3.ensures.value c.in_ok-check_all_groups.ensures in
    let as_many : length es ≡ length all = sym (length-map es _) ∙ ap length names ∙ length-map p _ ∙ length-map all written_member in
    record {
      few = subst (λ n. n < 2 ^ 32) (sym as_many) (search rules);
      typed = ap (λ x. x >>= λ _. members (table_of p) p >>= λ _. first.groups p) new
          ∙ ap (λ x. x >>= λ _. first.groups p) (subst (λ t. members t p ≡ Ok tt) names each)
          ∙ apart;
      names = names;
    }
