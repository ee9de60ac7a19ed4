use Rattle.std.proofs.Common.{◌∙◌, ◌++◌, ◌∷◌, [], ◌+◌, List, ap, sym, map, drop, refl, append_assoc, append-nil, string_bytes}
use Rattle.std.proofs.lemmas.List.{drop_all, map-append}
use Rattle.vx_ast.specs.declared.Member as declared
use Rattle.vx_ast.specs.Written.{Name, written_kind, written_member}
use Rattle.vx_expressions.specs.Settings.{Signature}
use Rattle.vx_expressions.specs.Views.{table, names_in}
use Rattle.vx_expressions.proofs.Fails.{passed}
use Rattle.vx_typing.specs.MemberFaults.{new_names}
use Rattle.vx_typing.specs.Members.{signature_of, table_of}
use Rattle.vx_statements.specs.StatementFaults.{new_name}
use Rattle.vx_statements.proofs.Loops.{goes_on, ends, left}
use Rattle.vx_typing.proofs.members.members_of.Goals as goal

pub loop-m-preserved : goal.loop-m-preserved
loop-m-preserved c =
    let all = c.args.all.now in
    let k = c.loop-m.m-index in
    let m = c.m-item.result in
    let before = table c.loop-m.members.entries in
    let one : Name × Signature = (string_bytes m.name.text, signature_of (written_kind m.kind)) in
    let behind = table_of (map written_member (drop (k + 1) all)) in
    record {
      walk =
          goes_on (λ (b : List Name) (ms : List declared.Member). new_names b (map written_member ms)) (λ b m. new_name b (written_member m).name) (λ b m. b ++ (written_member m).name.name ∷ []) (λ b m ms. refl)
          all k m (names_in before) _ _ _ c.loop-m-test.true c.m-item.is c.in_ok-add_member.ensures.first
          (ap names_in c.in_ok-add_member.ensures.added ∙ map-append (λ e. e.0) before (one ∷ [])) c.loop-m.invariant.walk;
      known =
          c.loop-m.invariant.known
          ∙ ap (λ ms. before ++ table_of (map written_member ms)) (left all k m c.loop-m-test.true c.m-item.is)
          ∙ sym (append_assoc before (one ∷ []) behind)
          ∙ ap (λ es. es ++ behind) (sym c.in_ok-add_member.ensures.added);
    }

pub returns-in_err-add_member-clause-first : goal.returns-in_err-add_member-clause-first
returns-in_err-add_member-clause-first c =
    let f = c.in_err-add_member.field-0.0 in
    passed (λ x. tt {0}) c.from_residual.result f _ c.from_residual.ensures.1
    (ends (λ (b : List Name) (ms : List declared.Member). new_names b (map written_member ms)) (λ b m. new_name b (written_member m).name) (λ b m. b ++ (written_member m).name.name ∷ []) (λ b m ms. refl)
    c.args.all.now c.loop-m.m-index c.m-item.result (names_in (table c.loop-m.members.entries)) _ f c.loop-m-test.true c.m-item.is c.in_err-add_member.ensures.first c.loop-m.invariant.walk)

pub returns-clause-first : goal.returns-clause-first
returns-clause-first c =
    c.loop-m.invariant.walk
    ∙ ap (λ ms. new_names (names_in (table c.loop-m.members.entries)) (map written_member ms)) (drop_all _ c.args.all.now c.loop-m-test.false)

pub returns-clause-table : goal.returns-clause-table
returns-clause-table c =
    let before = table c.loop-m.members.entries in
    sym (c.loop-m.invariant.known ∙ ap (λ ms. before ++ table_of (map written_member ms)) (drop_all _ c.args.all.now c.loop-m-test.false) ∙ append-nil before)
