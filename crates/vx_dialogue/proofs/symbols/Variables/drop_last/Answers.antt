use Rattle.std.proofs.Common.{◌≡◌, ◌∷◌, [], ◌++◌, map, nat_cmp, ap, ◌∙◌, subst}
use Rattle.std.proofs.lemmas.List.{map-append}
use Rattle.std.specs.BTreeSet.{contains}
use Rattle.vx_terms.specs.Views.{symbol}
use Rattle.vx_smt_meaning.specs.Views.{declared_symbol}
use Rattle.vx_dialogue.specs.Symbols.{declares, AreOnce}
use Rattle.vx_dialogue.proofs.Declares.{once_fewer, declares_off, declares_as, no_variable}
use Rattle.vx_dialogue.proofs.symbols.Variables.drop_last.Goals as goal

pub invariant_of-self : goal.invariant_of-self
invariant_of-self c =
    let ds = map declared_symbol c.pop.new.self.items in
    let d = declared_symbol c.in-Some.last in
    let all : map declared_symbol c.self.inside.symbols.items ≡ ds ++ d ∷ [] =
    ap (map declared_symbol) c.in-Some.ensures.items ∙ map-append declared_symbol c.pop.new.self.items (c.in-Some.last ∷ []) in
    let once : AreOnce (ds ++ d ∷ []) = subst AreOnce all c.self.invariant.0 in (
      once_fewer ds d once,
      declares_off (contains nat_cmp c.self.inside.numbers) (contains nat_cmp c.remove.new.self) ds d c.in-Variable.number (ap symbol c.in-Variable.is) once
          (λ n. c.self.invariant.1 n ∙ ap (λ x. declares x n) all) c.remove.ensures.updates.0,
    )

pub invariant_of-self-in-Some : goal.invariant_of-self-in-Some
invariant_of-self-in-Some c =
    let ds = map declared_symbol c.pop.new.self.items in
    let d = declared_symbol c.in-Some.last in
    let all : map declared_symbol c.self.inside.symbols.items ≡ ds ++ d ∷ [] =
    ap (map declared_symbol) c.in-Some.ensures.items ∙ map-append declared_symbol c.pop.new.self.items (c.in-Some.last ∷ []) in (
      once_fewer ds d (subst AreOnce all c.self.invariant.0),
      declares_as (contains nat_cmp c.self.inside.numbers) ds d (no_variable c.in-Some.last.symbol c.in_default-symbol.not-Variable) (λ n. c.self.invariant.1 n ∙ ap (λ x. declares x n) all),
    )
