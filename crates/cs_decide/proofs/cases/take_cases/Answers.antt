use Rattle.std.proofs.Common.{◌≡◌, ◌∙◌, List, [], ◌∷◌, ◌++◌, ap, subst}
use Rattle.std.specs.List.{Contains}
use Rattle.std.proofs.lemmas.List.Elements.{All-contains}
use Rattle.cs_certificate.specs.declared.literal.Literal.{Literal}
use Rattle.cs_certificate.specs.declared.literal.Clause.{Clause}
use Rattle.cs_search.specs.declared.Value.{Value}
use Rattle.cs_search.specs.Search.{AreSatisfied, IsUncovered}
use Rattle.cs_decide.specs.New.{IsUntrue, AreUntrue}
use Rattle.cs_decide.proofs.cases.take_cases.Goals.{in-Some+in_ok-prefer, in_default}
use Rattle.cs_decide.proofs.cases.take_cases.Goals as goal

-- where each clause is satisfied, one of which no literal is true contains none of them
untrue_uncovered : (clauses : List Clause) (values : List Value) (ls : List Literal) → AreSatisfied clauses values → AreUntrue values ls → IsUncovered clauses ls
untrue_uncovered clauses values ls satisfied untrue i c at covered =
    let w = satisfied i c at in
    All-contains (IsUntrue values) ls w.0 untrue (All-contains (Contains ls) c.literals.items w.0 covered w.2) w.1 w.3

pub returns-clause-new : goal.returns-clause-new
returns-clause-new c =
    let old = c.args.search.now.clauses.items in
    let clause : Clause = record { literals = c.in_ok-literals.literals } in
    let same : c.match-first.search.clauses.items ≡ old =
    elim c.match-first.branch [ in-Some+in_ok-prefer w ↦ ap (λ s. s.clauses.items) w.search-is | in_default w ↦ ap (λ s. s.clauses.items) w.search-is ] in
    let untrue = subst (AreUntrue c.args.search.now.made.values.items) c.deref.ensures.value (c.are_untrue.ensures c.if-not-are_untrue.false) in (
      clause,
      c.in_ok-add.ensures.clauses ∙ ap (λ xs. xs ++ clause ∷ []) same,
      untrue_uncovered old c.args.search.now.made.values.items c.in_ok-literals.literals.items c.requires.satisfied untrue,
    )
