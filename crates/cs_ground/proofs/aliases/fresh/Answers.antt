use Rattle.std.proofs.Common.{sym, ap, subst}
use Rattle.vx_terms.specs.Terms.{sort_of}
use Rattle.vx_terms.specs.Views.{term}
use Rattle.cs_certificate.specs.Certificate.{Contains}
use Rattle.cs_numbers.specs.Listed.{terms_in}
use Rattle.cs_ground.proofs.Chosen.{fresh_is, known_choice}
use Rattle.cs_ground.proofs.aliases.fresh.Goals as goal

pub loop-init : goal.loop-init
loop-init c = λ here.
    (subst (λ x. Contains (terms_in c.args.terms.now) (term x)) (sym c.in_ok-other.ensures.cases) here, ap (λ x. sort_of (term x)) c.in_ok-other.ensures.cases)

pub returns-then-is_none : goal.returns-then-is_none
returns-then-is_none c = λ here.
    fresh_is (terms_in c.args.terms.now) (term c.args.t.now.value) (term c.loop.other.value) (term c.in_ok-next.next.value) c.in_ok-number_of.field-0 c.in_ok-next.ensures c.in_ok-number_of.ensures c.if-is_none.ensures (c.loop.invariant here)

pub loop-preserved : goal.loop-preserved
loop-preserved c = λ here.
    known_choice (terms_in c.args.terms.now) (term c.args.t.now.value) (term c.loop.other.value) (term c.in_ok-next.next.value) c.in_ok-number_of.field-0 c.in_ok-next.ensures c.in_ok-number_of.ensures c.if-is_none.ensures
