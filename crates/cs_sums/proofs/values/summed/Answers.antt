use Rattle.std.proofs.Common.{◌≡◌, List, Some, slice_get, length, refl, subst}
use Rattle.std.proofs.lemmas.Option.{slice_get_read}
use Rattle.std.proofs.lemmas.Result.{IfOk-weaker}
use Rattle.cs_linear.specs.declared.rows.Entry.{Entry}
use Rattle.cs_sums.specs.declared.columns.Named.{Named}
use Rattle.cs_sums.specs.Parts.{AreParts, IsSumOf}
use Rattle.cs_sums.proofs.values.summed.Goals as goal

pub returns-in-Some : goal.returns-in-Some
returns-in-Some c =
    let columns = c.args.columns.now in
    let sums : List Named = c.deref.result.now in
    let named : Named = c.in-Some.named.now in
    let l = c.in-Some.ensures.lookup in
    let found : slice_get sums c.args.at ≡ Some named = slice_get_read sums (length sums) c.args.at named refl (l.3).0 l.1 in
    IfOk-weaker c.parts_of.result (λ parts. AreParts columns.columns.items c.deref-in-Some.result.now parts.items)
    (λ parts. IsSumOf columns.columns.items columns.sums.items c.args.column parts.items)
    (λ parts are. record {
      place = c.args.at;
      named = named;
      found = subst (λ (all : List Named). slice_get all c.args.at ≡ Some named) c.deref.ensures.value found;
      column = c.if-named-column.true;
      terms = subst (λ (all : List Entry). AreParts columns.columns.items all parts.items) c.deref-in-Some.ensures.value are;
    })
    c.parts_of.ensures
