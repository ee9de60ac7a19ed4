use Rattle.std.proofs.Common.{◌∙◌, sym, arith, eq-eqb, length}
use Rattle.std.proofs.lemmas.Bool.{eqb-true}
use Rattle.cs_cong.proofs.Joining.{merged_are_joined, joined_are_merged}
use Rattle.cs_cong.proofs.Stages.{stage_now}
use Rattle.cs_cong.proofs.classes.Classes.are_equal.Goals as goal

pub returns : goal.returns
returns c =
    let s = c.args.self.now in
    let stage = stage_now s.terms.items s.claims.items s.marks.items s.merges.log.items s.history in (
      λ e. merged_are_joined s.terms.items s.claims.items s.merges.log.items stage.justified (length s.merges.log.items) (omega arith) c.args.a c.args.b (sym c.now.ensures.value ∙ eqb-true _ _ e ∙ c.now-2.ensures.value),
      λ j. eq-eqb _ _ (c.now.ensures.value ∙ joined_are_merged s.terms.items s.claims.items s.merges.log.items stage c.args.a c.args.b j ∙ sym c.now-2.ensures.value),
    )
