use Rattle.std.proofs.Common.{rules, sym, subst, map}
use Rattle.cs_derivation.specs.View.{reached}
use Rattle.cs_proof.specs.Views.{written}
use Rattle.cs_proof.specs.Answers.{Answers}
use Rattle.cs_proof.specs.Checking.{Finished}
use Rattle.cs_writable.specs.Writable.{AreWritable}
use Rattle.cs_ground.specs.Atoms.{literals}
use Rattle.cs_ground.specs.Replayed.{Follows}
use Rattle.cs_ground.proofs.Learned.{empty_stands, nothing_more, learns_over}
use Rattle.cs_ground.proofs.replay.steps_of.Goals as goal

pub returns-in_err-tell_all : goal.returns-in_err-tell_all
returns-in_err-tell_all c = λ stack first f l d.
    let h = c.in_err-tell_all.ensures stack first f (learns_over first _ _ _ _ c.deref.ensures.value c.deref-2.ensures.value l) in
    search rules

pub returns-in_err-tell : goal.returns-in_err-tell
returns-in_err-tell c = λ stack first f l d.
    let g = c.in_ok-tell_all.ensures stack first f (learns_over first _ _ _ _ c.deref.ensures.value c.deref-2.ensures.value l) in
    let k = subst (λ cs. Follows stack c.args.atoms.now (literals cs) (reached c.tell_all.new.derivation)) c.deref.ensures.value g in
    let h = c.in_err-tell.ensures stack c.args.search.now.clauses.items k (nothing_more c.args.atoms.now c.args.search.now.clauses.items c.args.last.now.numbers.items c.requires d) in
    search rules

pub returns : goal.returns
returns c = λ stack first f l d.
    let g = c.in_ok-tell_all.ensures stack first f (learns_over first _ _ _ _ c.deref.ensures.value c.deref-2.ensures.value l) in
    let k = subst (λ cs. Follows stack c.args.atoms.now (literals cs) (reached c.tell_all.new.derivation)) c.deref.ensures.value g in
    let e = c.in_ok-tell.ensures stack c.args.search.now.clauses.items k (nothing_more c.args.atoms.now c.args.search.now.clauses.items c.args.last.now.numbers.items c.requires d) in
    let a = c.empty_clauses_finish.ensures stack (reached c.tell.new.derivation) e.stands (empty_stands stack c.args.atoms.now (literals c.args.search.now.clauses.items) (reached c.tell.new.derivation) e) in
    subst (λ v. Answers stack (map written v.items) Finished × AreWritable (map written v.items)) (sym c.into_steps.ensures) a
