use Rattle.std.proofs.Common.{◌∙◌, ap, map}
use Rattle.vx_ast.specs.Resolve as resolve
use Rattle.vx_ast.specs.Syntax.{Name}
use Rattle.std.specs.Prelude.{Bool, List}
use Rattle.vx_ast.specs.Written.{written_member}
use Rattle.vx_settling.specs.Names.{has_name}
use Rattle.vx_settling.proofs.Sets.{agree}
use Rattle.vx_settling.proofs.names.all_names.Goals as goal

abbrev names : (Name → Bool) → (Name → Bool) → List Name → resolve.Names
names p m fields = record { is_predicate = p; is_method = m; fields = fields }

pub returns : goal.returns
returns c =
    let ms = map written_member c.args.all.now in
    let p = has_name c.in_ok-predicates.predicates in
    let m = has_name c.in_ok-methods.methods in
    ap (λ f. names p m f) c.in_ok-fields.ensures
    ∙ ap (λ f. names p f (resolve.fields_of ms)) (agree m (resolve.has_member resolve.is_method ms) c.in_ok-methods.ensures)
    ∙ ap (λ f. names f (resolve.has_member resolve.is_method ms) (resolve.fields_of ms)) (agree p (resolve.has_member resolve.is_predicate ms) c.in_ok-predicates.ensures)
