use Rattle.std.proofs.Common.{rules, ◌≡◌, ◌∷◌, [], ◌++◌, map, nat_cmp, false, sym, ◌∙◌, arith}
use Rattle.std.proofs.lemmas.Grind.{common_steps}
use Rattle.std.specs.BTreeSet.{contains}
use Rattle.vx_terms.specs.Views.{sort}
use Rattle.vx_smt_meaning.specs.Views.{declared_symbol}
use Rattle.vx_dialogue.specs.Symbols.{variable, declares}
use Rattle.vx_dialogue.proofs.Declares.{declares_on, once_more, was_absent}
use Rattle.vx_dialogue.proofs.symbols.Variables.add.Goals as goal

pub invariant_of-self-then-branch : goal.invariant_of-self-then-branch
invariant_of-self-then-branch c =
    let ds = map declared_symbol c.self.inside.symbols.items in
    let a = sort c.in_ok-gives.gives in
    let none : declares ds c.args.number ≡ false = sym (c.self.invariant.1 c.args.number) ∙ was_absent (contains nat_cmp c.self.inside.numbers c.args.number) c.in_ok-insert.field-0 c.in_ok-insert.ensures.added c.if-branch.true in
    let items : c.push.new.self.items ≡ c.self.inside.symbols.items ++ c.variable_of.result ∷ [] = search rules in
    let more : map declared_symbol c.push.new.self.items ≡ map declared_symbol c.self.inside.symbols.items ++ variable c.args.number a ∷ [] = grind (arith, common_steps) in
    rw more (once_more ds c.args.number a none c.self.invariant.0, declares_on (contains nat_cmp c.self.inside.numbers) (contains nat_cmp c.insert.new.self) ds c.args.number a c.self.invariant.1 c.in_ok-insert.ensures.updates.0)
