-- Which verdict is right for the method that requires an instance in the worked example.
use Rattle.std.proofs.Common.{◌≡◌, inl, inr, refl, sym, subst}
use Rattle.std.specs.Prelude.{codes}
use Rattle.vx_closure.specs.Leads.{LeadsTo}
use Rattle.vx_report.specs.Reports.{verdict_text}
use Rattle.vx_report.specs.declared.run.Verdict.TheVariants as verdict
use Rattle.vx_resting.specs.Worked.{members, MustRead}
use Rattle.vx_types.specs.Closure.{itself, further}

m_leads_to_P : LeadsTo members 1 0
m_leads_to_P = (_, _, refl, refl, further itself (inl refl))

pub m_rests : MustRead 1 (codes "rests on predicate P")
m_rests verdict.Verified passed (inl (holds, e)) = absurd cc
m_rests verdict.Verified passed (inr (fails, rest)) = absurd (fails (m_leads_to_P, refl))
m_rests (verdict.Rests on) passed (inl (holds, e)) =
    let same : on ≡ record { 0 = 0 } = cc in
    subst (λ o. verdict_text members (verdict.Rests o) ≡ codes "rests on predicate P") (sym same) refl
m_rests (verdict.Rests on) passed (inr (fails, rest)) = absurd (fails (m_leads_to_P, refl))
m_rests (verdict.Failed at c r) passed held = absurd cc
m_rests verdict.Limit passed held = absurd cc
m_rests (verdict.Fault c) passed held = absurd cc
