use Rattle.std.proofs.Common.{◌≡◌, ◌+◌, [], ◌∷◌, ◌++◌, length, map, take, sym, ◌∙◌, ap, subst}
use Rattle.std.proofs.lemmas.List.{map-append, length-map}
use Rattle.vx_smt_meaning.specs.Views.{declared_symbol}
use Rattle.cs_reader.specs.Indexing.{IsIndexOf}
use Rattle.cs_reader.proofs.Fronts.{front_more, front_long}
use Rattle.cs_reader.proofs.index.SymbolIndex.of.Goals as goal

pub loop-at-preserved : goal.loop-at-preserved
loop-at-preserved c =
    let one = c.index-declared-at.result in
    let front = take c.loop-at.at c.args.declared.now in
    let whole : map declared_symbol (take (c.loop-at.at + 1) c.args.declared.now) ≡ map declared_symbol front ++ declared_symbol one ∷ [] =
    ap (map declared_symbol) (front_more c.args.declared.now c.loop-at.at one c.loop-at-test.true c.index-declared-at.is) ∙ map-append declared_symbol front (one ∷ []) in
    let number : c.loop-at.at ≡ length (map declared_symbol front) = sym (length-map front declared_symbol ∙ front_long c.args.declared.now c.loop-at.at c.loop-at-test.true) in
    subst (λ ds. IsIndexOf ds c.add.new.self) (sym whole) (c.in_ok-add.ensures.added (map declared_symbol front) number c.loop-at.invariant)
