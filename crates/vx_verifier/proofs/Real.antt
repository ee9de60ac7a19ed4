-- A method whose walk failed by a sat that was right fails at that place.
use Rattle.std.proofs.Common.{◌≡◌, ℕ, ◌∷◌, [], List, Some, slice_get, ap, ◌∙◌, subst}
use Rattle.vx_ast.specs.declared.Place.{Place}
use Rattle.vx_ast.specs.Syntax.{Program, Member, Kind, Method, IsMethod, member_named}
use Rattle.vx_terms.specs.Terms.{Term}
use Rattle.vx_terms.specs.Build.{negate}
use Rattle.vx_terms.specs.Interpretations.{Each, IsTrueIn, IsSatisfiable}
use Rattle.vx_meaning.specs.Fails.{MethodFails}
use Rattle.vx_smt_meaning.specs.Dialogues.{Check}
use Rattle.vx_smt_meaning.specs.declared.reply.Reply.{Reply}
use Rattle.vx_smt_meaning.specs.declared.reply.Reply.TheVariants.{Unsat, Sat, Unknown}
use Rattle.vx_report.specs.declared.run.Verdict.TheVariants as verdict
use Rattle.vx_report.specs.declared.run.MemberRun.{MemberRun}
use Rattle.vx_rules.specs.Trees.{Question, Answered, Failed, walk}
use Rattle.vx_rules.specs.declared.code.Code.{Code}
use Rattle.vx_rules.specs.Codes.{code}
use Rattle.vx_rules.specs.Members.{tree, method_tree}
use Rattle.vx_machine.specs.Runs.{tree_of, member_tree}
use Rattle.vx_real.specs.Law.{IsInFieldFragment, RealLaw}
use Rattle.vx_real.specs.Law.{IsPossible as IsPossibleAnswer, LastIsPossible as LastAnswerIsPossible}
use Rattle.vx_verifier.specs.Sequences.{SameSet, AreChecksOf, replies_to, IsPossible, LastIsPossible}
use Rattle.vx_verifier.specs.Headline.{IsWhole, AreReal, sequence_of}
use Rattle.vx_verifier.proofs.Sequences.{each_in, in_each}
use Rattle.vx_verifier.proofs.Closures.{IsWalked}

satisfiable : (xs ys : List Term) → SameSet xs ys → IsSatisfiable xs → IsSatisfiable ys
satisfiable xs ys same model = (model.0, in_each (IsTrueIn model.0) ys (λ t h. each_in (IsTrueIn model.0) xs t model.1 ((same t).1 h)))

possible_answer : (q : Question) (r : Reply) (c : Check) → SameSet c.assertions (negate q.condition ∷ q.path) → c.reply ≡ Some r → IsPossible c → IsPossibleAnswer q r
possible_answer q Sat c set is possible = satisfiable c.assertions (negate q.condition ∷ q.path) set (possible is)
possible_answer q Unsat c set is possible = tt
possible_answer q Unknown c set is possible = tt

-- where the last check is possible, the last answer is
last_answer : (as' : List Answered) (cs : List Check) → AreChecksOf as' cs → LastIsPossible cs → LastAnswerIsPossible as'
last_answer [] cs all possible = tt
last_answer (a ∷ as') [] all possible = absurd all
last_answer (a ∷ []) (c ∷ []) all possible = possible_answer a.question a.reply c all.0.set all.0.reply possible
last_answer (a ∷ []) (c ∷ d ∷ cs) all possible = absurd all.1
last_answer (a ∷ b ∷ as') (c ∷ []) all possible = absurd all.1
last_answer (a ∷ b ∷ as') (c ∷ d ∷ cs) all possible = last_answer (b ∷ as') (d ∷ cs) all.1 possible

module _ (law : RealLaw) (p : Program) (whole : IsWhole p) (all : (lane : ℕ) → List Check) where
  is_real : (r : MemberRun) → IsWalked p all r → (at : Place) (c : Code) (m : Member) (f : Method) → r.verdict ≡ verdict.Failed at c Sat → slice_get p r.member.0 ≡ Some m → m.kind ≡ IsMethod f
      → IsInFieldFragment p m.name → LastIsPossible (sequence_of r all) → MethodFails p f at
  is_real r walked at c m f failed found kind inside possible =
      let own = sequence_of r all in
      let tree_is : member_tree p r.member.0 ≡ method_tree p f = ap (tree_of p) found ∙ ap (tree p m.name) kind in
      let named : member_named p m.name ≡ Some (IsMethod f) = whole.typed.names r.member.0 m found ∙ ap (λ (k : Kind). Some k) kind in
      law p m.name f (replies_to own) (code c) at whole.typed named inside (
        subst (λ t. (walk t (replies_to own)).ending ≡ Failed at (code c) Sat) tree_is (walked.failed at c failed),
        subst (λ t. LastAnswerIsPossible (walk t (replies_to own)).answered) tree_is (last_answer (walk (member_tree p r.member.0) (replies_to own)).answered own walked.checks possible),
      )

  pub real : (runs : List MemberRun) → Each (IsWalked p all) runs → AreReal p runs all
  real runs walked = in_each (λ (r : MemberRun). (at : Place) (c : Code) (m : Member) (f : Method) → r.verdict ≡ verdict.Failed at c Sat → slice_get p r.member.0 ≡ Some m → m.kind ≡ IsMethod f
      → IsInFieldFragment p m.name → LastIsPossible (sequence_of r all) → MethodFails p f at) runs (λ r inside. is_real r (each_in (IsWalked p all) runs r walked inside))
