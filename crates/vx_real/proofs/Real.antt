-- A failure that is told by a right sat is one of a run.
use Rattle.std.proofs.Common.{◌≡◌, ℕ, suc, ◌+◌, ◌*◌, List, length, ap, subst, arith}
use Rattle.vx_ast.specs.declared.Place.{Place}
use Rattle.vx_ast.specs.Syntax.{Program, Method, IsMethod, method_in}
use Rattle.vx_meaning.specs.Fails.{MethodFails}
use Rattle.vx_terms.specs.Interpretations.{Interpretation}
use Rattle.vx_smt_meaning.specs.declared.reply.Reply.{Reply}
use Rattle.vx_rules.specs.Trees.{Code}
use Rattle.vx_rules.specs.Rules.{outer}
use Rattle.vx_rules.specs.Members.{depth, rules, method_over, method_tree}
use Rattle.vx_types.specs.Typing.{IsTypedMethod}
use Rattle.vx_types.specs.Closure.{itself}
use Rattle.vx_elements.proofs.Settled.{Meaning}
use Rattle.vx_grows.proofs.GrowAssertions.{outer_grows}
use Rattle.vx_sound.proofs.Contracts.{MethodSpeaks, field_method_speaks}
use Rattle.vx_sound.proofs.Callees.{speaks}
use Rattle.vx_real.specs.Exposed.{Exposed}
use Rattle.vx_real.specs.Law.{FailsRightly, RealFieldLaw, RealLaw}
use Rattle.vx_real.proofs.Exposed.{exposed}
use Rattle.vx_real.proofs.RealMethods.{method_real}
use Rattle.vx_real.proofs.FlatMembers.{method_flat}
use Rattle.vx_real.proofs.Chosen.{chosen}

-- no function is applied
nothing_meant : Meaning
nothing_meant f es e = ⊥

module _ (p : Program) (m : Method) (typed : IsTypedMethod p m) (fields : MethodSpeaks p m) (at : Place) (code : Code) where
  -- over rules that are one deep at least
  over_rules : (d : ℕ) (i : Interpretation) → Exposed i at code (method_over p (outer p (suc d)) m) → MethodFails p m at
  over_rules d i x =
      let e = chosen i at code (method_over p (outer p (suc d)) m) (method_flat p (outer p d) m fields) x in
      let j = e.interpretation in
      method_real nothing_meant p j e.references e.null_is e.standard at code (outer p d) (outer_grows p d) (outer_grows p (suc d)) m typed fields e.exposed

  deep : depth p ≡ suc (4 * length p + 3)
  deep = omega arith

  of_tree : (i : Interpretation) → Exposed i at code (method_tree p m) → MethodFails p m at
  unfolding rules
  of_tree i x = over_rules (4 * length p + 3) i (subst (λ n. Exposed i at code (method_over p (outer p n) m)) deep x)

  pub told_fails : (replies : List Reply) → FailsRightly p m replies code at → MethodFails p m at
  told_fails replies f = let x = exposed at code (method_tree p m) replies f.0 f.1 in of_tree x.0 x.1

pub real_fields : RealFieldLaw
real_fields p m replies code at typed fields f = told_fails p m typed (field_method_speaks p m fields) at code replies f

pub real : RealLaw
real p x m replies code at typed named all f = told_fails p m (typed.methods x m (ap method_in named)) (speaks p typed x m named (all x (IsMethod m) itself named) all) at code replies f
