use Rattle.std.proofs.Common.{inl, inr, refl}
use Rattle.std.proofs.lemmas.Result.{IfOk-weaker}
use Rattle.vx_commands.proofs.Untouched.{at_rest, obeyed_alone, untouched, rests_back, for_order}
use Rattle.vx_commands.proofs.top.obey.Goals as goal

pub returns-in-Verify : goal.returns-in-Verify
returns-in-Verify g c = for_order _ _ _ _ _ c.in-Verify.is c.verify_file.ensures

pub returns-in-Check : goal.returns-in-Check
returns-in-Check g c =
    for_order _ _ _ _ _ c.in-Check.is
    (obeyed_alone _ (at_rest _ _) _ _ c.say_file.result c.say_file.ensures.asked (IfOk-weaker c.say_file.result _ _ (λ output h. inl (h, at_rest _ _)) c.say_file.ensures.said))

pub returns-in-Print : goal.returns-in-Print
returns-in-Print g c =
    for_order _ _ _ _ _ c.in-Print.is
    (obeyed_alone _ (at_rest _ _) _ _ c.say_file-in-Print.result c.say_file-in-Print.ensures.asked
    (IfOk-weaker c.say_file-in-Print.result _ _ (λ output h. inl (h, at_rest _ _)) c.say_file-in-Print.ensures.said))

pub returns-in-Gen : goal.returns-in-Gen
returns-in-Gen g c =
    for_order _ _ _ _ _ c.in-Gen.is
    (untouched _ (at_rest _ _) _ _ c.generated.result refl (IfOk-weaker c.generated.result _ _ (λ output h. inl (h, at_rest _ _)) c.generated.ensures))

pub returns-in-Work : goal.returns-in-Work
returns-in-Work g c =
    for_order _ _ _ _ _ c.in-Work.is
    record {
      due = IfOk-weaker c.work.result _ _ (λ output h. inr (h, refl)) c.work.ensures.answered;
      asked = refl;
      starts = (c.work.ensures.starts, refl);
      back = record { companion = c.work.ensures.back; handed = rests_back _ refl };
    }

pub returns-in-Run : goal.returns-in-Run
returns-in-Run g c =
    for_order _ _ _ _ _ c.in-Run.is
    (obeyed_alone _ (at_rest _ _) _ _ c.run_file.result c.run_file.ensures.asked (IfOk-weaker c.run_file.result _ _ (λ output h. inl (h, at_rest _ _)) c.run_file.ensures.said))
