use Rattle.std.proofs.Common.{◌≡◌, ◌-◌, true, length, map, reverse, drop, sym, ap, subst, ◌∙◌}
use Rattle.std.proofs.Math.Logic.{∥∥₁_map}
use Rattle.std.proofs.lemmas.List.{take-map}
use Rattle.std.specs.Prelude.{List, string_bytes}
use Rattle.vx_terms.specs.Views.{term}
use Rattle.vx_terms.specs.Interpretations.{Each}
use Rattle.vx_smt_meaning.specs.Commands.{Declared}
use Rattle.vx_smt_meaning.specs.Views.{declared_symbol}
use Rattle.cs_numbers.specs.Laws.{IsSorted}
use Rattle.cs_session.specs.Apart.{are_apart}
use Rattle.cs_session.specs.Views.{all_of}
use Rattle.cs_session.proofs.Apart.{apart_without}
use Rattle.cs_session.proofs.Lists.{each_take, fewer}
use Rattle.cs_session.proofs.Spread.{closes, one_less}
use Rattle.cs_session.proofs.levels.Levels.close_one.Goals as goal

pub invariant_of-self-2 : goal.invariant_of-self-2
invariant_of-self-2 c =
    let s = c.args.self.now in
    let n = c.in-Some.newest in
    let xs = s.stack.assertions.items in
    let symbols : reverse (map declared_symbol c.cut_symbols.new.symbols.items) ≡ drop n.symbols (all_of s).symbols =
    ap (λ x. reverse (map declared_symbol x)) c.cut_symbols.ensures.symbols ∙ fewer declared_symbol n.symbols s.stack.symbols.items in
    record {
      apart = subst (λ (x : List Declared). are_apart x ≡ true) (sym symbols) (apart_without n.symbols (all_of s).symbols s.apart);
      indexed = c.cut_symbols.ensures.indexed;
      sorted = ∥∥₁_map s.sorted (λ h. subst (Each IsSorted) (take-map (λ x. term x.value) (length xs - n.assertions) xs ∙ ap (map (λ x. term x.value)) (sym c.cut-2.ensures)) (each_take IsSorted (length xs - n.assertions) (map (λ x. term x.value) xs) h));
    }

pub returns-clause-levels : goal.returns-clause-levels
returns-clause-levels c =
    let s = c.args.self.now in
    let n = c.in-Some.newest in
    let sorts : reverse (map string_bytes c.cut.new.items.items) ≡ drop n.sorts (all_of s).sorts =
    ap (λ x. reverse (map string_bytes x)) c.cut.ensures ∙ fewer string_bytes n.sorts s.sorts.items in
    let symbols : reverse (map declared_symbol c.cut_symbols.new.symbols.items) ≡ drop n.symbols (all_of s).symbols =
    ap (λ x. reverse (map declared_symbol x)) c.cut_symbols.ensures.symbols ∙ fewer declared_symbol n.symbols s.stack.symbols.items in
    let assertions : reverse (map (λ x. term x.value) c.cut-2.new.items.items) ≡ drop n.assertions (all_of s).assertions =
    ap (λ x. reverse (map (λ y. term y.value) x)) c.cut-2.ensures ∙ fewer (λ x. term x.value) n.assertions s.stack.assertions.items in
    closes s.counts.items c.pop.new.self.items n (all_of s) _ c.in-Some.ensures.items (λ i. record { sorts = sorts i; symbols = symbols i; assertions = assertions i })

pub returns-clause-depth : goal.returns-clause-depth
returns-clause-depth c = one_less c.args.self.now.counts.items c.pop.new.self.items c.in-Some.newest (all_of c.args.self.now) _ c.in-Some.ensures.items
