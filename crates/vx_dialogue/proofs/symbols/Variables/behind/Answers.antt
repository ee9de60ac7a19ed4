use Rattle.std.proofs.Common.{map, drop, ap, ◌∙◌, sym}
use Rattle.std.proofs.lemmas.List.{drop-map}
use Rattle.vx_smt_meaning.specs.Views.{declared_symbol}
use Rattle.vx_dialogue.proofs.Lists.{whole_rest}
use Rattle.vx_dialogue.proofs.symbols.Variables.behind.Goals as goal

pub returns : goal.returns
returns c =
    let xs = c.deref.result.now in
    let n = c.args.count in
    ap (map declared_symbol) (whole_rest n xs) ∙ sym (drop-map declared_symbol n xs) ∙ ap (drop n) (ap (map declared_symbol) c.deref.ensures.value ∙ c.self.view_is)
