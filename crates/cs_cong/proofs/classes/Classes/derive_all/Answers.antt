use Rattle.std.proofs.Common.{◌≡◌, ℕ, List, [], length, false, true, sym, subst, ◌∙◌}
use Rattle.cs_cong.specs.declared.explain.Derived.{Derived}
use Rattle.cs_cong.specs.Explained.{IsDerivation}
use Rattle.cs_cong.proofs.Explaining.{derive_next, no_derivation}
use Rattle.cs_cong.proofs.Marks.{fewer_left, none_left, marked_within}
use Rattle.cs_cong.proofs.Stages.{stage_now}
use Rattle.cs_cong.proofs.classes.Classes.derive_all.Goals as goal

pub forth-init : goal.forth-init
forth-init c =
    let s = c.args.self.now in
    record {
      fewer = λ k e. e;
      sound = subst (λ (ns : List ℕ). IsDerivation s.terms.items s.claims.items ns c.new-2.result.items) (sym c.new.ensures.items) (subst (λ (ds : List Derived). IsDerivation s.terms.items s.claims.items [] ds) (sym c.new-2.ensures.items) (no_derivation s.terms.items s.claims.items));
      known = λ k marked gone. absurd (let f : false ≡ true = sym gone ∙ marked in cc);
    }

pub forth-preserved : goal.forth-preserved
forth-preserved c =
    let s = c.args.self.now in
    let at = c.in-Some.at in
    let stage = stage_now s.terms.items s.claims.items s.marks.items s.merges.log.items s.history in
    let on = c.forth.invariant.fewer at c.in-Some.ensures.member in
    let r = derive_next s.terms.items s.claims.items s.merges.log.items c.args.found c.forth.left c.pop_first.new.self at c.forth.chain c.derive.new.chain stage.justified
    (marked_within c.args.found (length s.merges.log.items) at c.requires.within on) on c.requires.backed c.in-Some.ensures.least c.in-Some.ensures.updates c.forth.invariant.sound c.forth.invariant.known c.in_ok-derive.ensures in
    record {
      fewer = fewer_left c.args.found c.forth.left c.pop_first.new.self at c.in-Some.ensures.updates c.forth.invariant.fewer;
      sound = r.0;
      known = r.1;
    }

pub returns-clause-known : goal.returns-clause-known
returns-clause-known c k lt marked =
    c.forth.invariant.known k marked (none_left c.forth.left (λ some. absurd (let f : false ≡ true = c.in_default.ensures.variant.1 some in cc)) k)
