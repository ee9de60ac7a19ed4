-- The members by their names.
use Rattle.std.proofs.Common.{◌≡◌, ◌∙◌, refl, ap, sym, Bool, true, false, ◌||◌, List, [], ◌∷◌, Option, Some, None, map, option_map}
use Rattle.std.proofs.lemmas.Bool.{false≢true}
use Rattle.std.specs.Prelude.{is_some, if◌then◌else◌}
use Rattle.std.specs.declared.alloc.Global.{Global}
use Rattle.std.specs.declared.rc.Rc.{Rc}
use Rattle.vx_ast.specs.declared.Declaration.{Declaration}
use Rattle.vx_ast.specs.declared.Expr as expr
use Rattle.vx_ast.specs.Mentions.{is_among}
use Rattle.vx_ast.specs.Syntax.{same_name}
use Rattle.vx_ast.specs.Written.{Name, written_declaration, optional_expr}
use Rattle.vx_typing.specs.Members.{types_in}
use Rattle.vx_expressions.specs.Scopes.{named}
use Rattle.vx_expressions.specs.Views.{types_of}

pub types : (ds : List Declaration) → types_of ds ≡ types_in (map written_declaration ds)
types [] = refl
types (d ∷ ds) = ap (λ ts. d.value_type ∷ ts) (types ds)

pub has_body : (e : Option (Rc expr.Expr Global)) → is_some e ≡ is_some (optional_expr e)
has_body None = refl
has_body (Some e) = refl

either : {X : Type 0} (b : Bool) (x : X) (o : Option X) → is_some (if b then Some x else o) ≡ (b || is_some o)
either true x o = refl
either false x o = refl

-- a name stands for something exactly where it is one of the names
pub stands : {X : Type 0} (x : Name) (es : List (Name × X)) → is_some (named es x) ≡ is_among x (map (λ e. e.0) es)
stands x [] = refl
stands x (e ∷ es) = either (same_name x e.0) e.1 (named es x) ∙ ap (λ b. same_name x e.0 || b) (stands x es)

pub seen_some : {X Y : Type 0} (f : X → Y) (o : Option X) → is_some (option_map f o) ≡ is_some o
seen_some f None = refl
seen_some f (Some x) = refl

pub nothing : {X : Type 0} (o : Option X) → is_some o ≡ false → o ≡ None
nothing None h = refl
nothing (Some x) h = absurd (false≢true (sym h))
