use Rattle.std.proofs.Common.{◌≡◌, ◌∷◌, true, false, map, reverse, sym, ap, subst, ◌∙◌}
use Rattle.std.specs.Prelude.{List}
use Rattle.vx_terms.specs.Views.{symbol}
use Rattle.vx_smt_meaning.specs.Commands.{Declared}
use Rattle.vx_smt_meaning.specs.Views.{declared_symbol}
use Rattle.vx_smt_meaning.specs.WellFormed.{names}
use Rattle.cs_session.specs.Apart.{are_apart}
use Rattle.cs_session.specs.Views.{all_of}
use Rattle.cs_session.proofs.Apart.{apart_with}
use Rattle.cs_session.proofs.Lists.{newer}
use Rattle.cs_session.proofs.Spread.{symbols_on, with_symbol}
use Rattle.cs_session.proofs.levels.Levels.declare.Goals as goal

pub invariant_of-self-2 : goal.invariant_of-self-2
invariant_of-self-2 c =
    let s = c.args.self.now in
    let d = c.args.declared in
    let symbols : reverse (map declared_symbol c.push_symbol.new.symbols.items) ≡ declared_symbol d ∷ (all_of s).symbols =
    ap (λ x. reverse (map declared_symbol x)) c.in_ok-push_symbol.ensures.added ∙ newer declared_symbol s.stack.symbols.items d in
    let fresh : names (all_of s).symbols (symbol d.symbol) ≡ false =
    subst (λ (ds : List Declared). names ds (symbol d.symbol) ≡ false) (symbols_on (reverse s.counts.items) (all_of s)) c.requires in
    record {
      apart = subst (λ (x : List Declared). are_apart x ≡ true) (sym symbols) (apart_with (all_of s).symbols (declared_symbol d) fresh s.apart);
      indexed = c.push_symbol.ensures.indexed;
      sorted = s.sorted;
    }

pub returns : goal.returns
returns c =
    let s = c.args.self.now in
    let d = c.args.declared in
    let symbols : reverse (map declared_symbol c.push_symbol.new.symbols.items) ≡ declared_symbol d ∷ (all_of s).symbols =
    ap (λ x. reverse (map declared_symbol x)) c.in_ok-push_symbol.ensures.added ∙ newer declared_symbol s.stack.symbols.items d in
    with_symbol (reverse s.counts.items) _ (all_of s) _ (declared_symbol d) c.in_ok-count_one.ensures (λ i. record { sorts = (all_of s).sorts; symbols = symbols i; assertions = (all_of s).assertions })
