use Rattle.std.proofs.Common.{vec_len, ◌∙◌, ap, subst}
use Rattle.vx_terms.specs.Views.{term}
use Rattle.cs_derivation.specs.View.{reached}
use Rattle.cs_ground.specs.Steps.{Collects, IsWanted}
use Rattle.cs_ground.proofs.Lists.{counted}
use Rattle.cs_ground.proofs.Collected.{collects_all}
use Rattle.cs_ground.proofs.made.add_clauses.Goals as goal

pub returns : goal.returns
returns c = λ stack h.
    let r = reached c.args.derivation.now in
    let l = reached c.add_aliases.new.derivation in
    subst (λ n. Collects stack (IsWanted c.args.assertions n c.args.count c.args.aliases.now) r l)
    (c.len-terms.ensures ∙ ap (λ n. vec_len n.terms) c.terms.ensures ∙ counted (λ x. term x.value) c.args.derivation.now.terms.terms)
    (collects_all c.args.assertions c.len-terms.result c.args.count c.args.aliases.now stack r (reached c.add_inputs.new.derivation) (reached c.add_terms.new.derivation) (reached c.add_chains.new.derivation) (reached c.add_congruences.new.derivation) l h
    (c.in_ok-add_inputs.ensures stack) (c.in_ok-add_terms.ensures stack) (c.in_ok-add_chains.ensures stack) (c.in_ok-add_congruences.ensures stack) (c.in_ok-add_aliases.ensures stack))
