-- The settled syntax in code, without its pointers.
use Rattle.std.specs.Prelude.{List, Option, Some, None, option_map, string_bytes, map}
use Rattle.std.specs.declared.alloc.Global.{Global}
use Rattle.std.specs.declared.rc.Rc.{Rc}
use Rattle.std.specs.declared.string.String.{String}
use Rattle.vx_resolved.specs.declared.Operator.{Operator as Operator'}
use Rattle.vx_resolved.specs.declared.Operator.TheVariants as operator'
use Rattle.vx_resolved.specs.declared.Division.{Division as Division'}
use Rattle.vx_resolved.specs.declared.Division.TheVariants as division'
use Rattle.vx_resolved.specs.declared.Connective.{Connective as Connective'}
use Rattle.vx_resolved.specs.declared.Connective.TheVariants as connective'
use Rattle.vx_resolved.specs.declared.Expr as expr'
use Rattle.vx_resolved.specs.declared.Exprs as exprs'
use Rattle.vx_resolved.specs.declared.Assertion as assertion'
use Rattle.vx_resolved.specs.declared.Declaration as declaration'
use Rattle.vx_resolved.specs.declared.Stmt as stmt'
use Rattle.vx_resolved.specs.declared.Block as block'
use Rattle.vx_resolved.specs.declared.Predicate as predicate'
use Rattle.vx_resolved.specs.declared.Measure.{Measure as Measure'}
use Rattle.vx_resolved.specs.declared.Measure.TheVariants as measure'
use Rattle.vx_resolved.specs.declared.Function as function'
use Rattle.vx_resolved.specs.declared.Method as method'
use Rattle.vx_resolved.specs.declared.Kind.TheVariants as kind'
use Rattle.vx_resolved.specs.declared.Member as member'
use Rattle.vx_resolved.specs.declared.Program as program'
use Rattle.vx_ast.specs.Syntax.{Operator, Equal, Less, LessEqual, Greater, GreaterEqual, Add, Subtract, Multiply, Division, Quotient, Remainder, Connective, And, Or, Implies, Expr, Number, Truth, Null, Part, Variable, Not, Operate, Divide, Connect, Choose, Read, Old, Apply, Unfolding, Exprs, NoMore, More, Assertion, Pure, Points, Instance, Both, Implied, Chosen, Declaration, Stmt, Declare, Assign, Write, New, Call, Inhale, Exhale, Assert, Assume, Fold, Unfold, If, While, Block, Done, Then, Measure, ByNumber, ByInstance, Predicate, Function, Method, Kind, IsField, IsPredicate, IsFunction, IsMethod, Member, Name, Program}

abbrev pub operator : Operator' → Operator
operator operator'.Equal = Equal
operator operator'.Less = Less
operator operator'.LessEqual = LessEqual
operator operator'.Greater = Greater
operator operator'.GreaterEqual = GreaterEqual
operator operator'.Add = Add
operator operator'.Subtract = Subtract
operator operator'.Multiply = Multiply

abbrev pub division : Division' → Division
division division'.Quotient = Quotient
division division'.Remainder = Remainder

abbrev pub connective : Connective' → Connective
connective connective'.And = And
connective connective'.Or = Or
connective connective'.Implies = Implies

abbrev mutual
  pub expr : expr'.Expr → Expr
  expr (expr'.Number at n) = Number at n
  expr (expr'.Truth at b) = Truth at b
  expr (expr'.Null at) = Null at
  expr (expr'.Part at n d) = Part at n d
  expr (expr'.Variable at x) = Variable at (string_bytes x.value)
  expr (expr'.Not' at p e) = Not at (expr e)
  expr (expr'.Operate' at op p a q b) = Operate at (operator op) (expr a) (expr b)
  expr (expr'.Divide' at op p a q b) = Divide at (division op) (expr a) (expr b)
  expr (expr'.Connect' at c p a q b) = Connect at (connective c) (expr a) (expr b)
  expr (expr'.Choose' at p c q a r b) = Choose at (expr c) (expr a) (expr b)
  expr (expr'.Read' at p e x) = Read at (expr e) (string_bytes x.value)
  expr (expr'.Old' at p e) = Old at (expr e)
  expr (expr'.Apply' at f p es) = Apply at (string_bytes f.value) (exprs es)
  expr (expr'.Unfolding' at i p es q share r e) = Unfolding at (string_bytes i.value) (exprs es) (expr share) (expr e)

  pub exprs : exprs'.Exprs → Exprs
  exprs exprs'.NoMore = NoMore
  exprs (exprs'.More' p e q es) = More (expr e) (exprs es)

abbrev pub names_of : List (Rc (String Global) Global) → List Name
names_of xs = map (λ x. string_bytes x.value) xs

abbrev pub assertion : assertion'.Assertion → Assertion
assertion (assertion'.Pure e) = Pure (expr e.value)
assertion (assertion'.Points at e x share) = Points at (expr e.value) (string_bytes x.value) (expr share.value)
assertion (assertion'.Instance at i es share) = Instance at (string_bytes i.value) (exprs es.value) (expr share.value)
assertion (assertion'.Both' p a q b) = Both (assertion a) (assertion b)
assertion (assertion'.Implied' c p a) = Implied (expr c.value) (assertion a)
assertion (assertion'.Chosen' c p a q b) = Chosen (expr c.value) (assertion a) (assertion b)

abbrev pub assertions : List (Rc assertion'.Assertion Global) → List Assertion
assertions as' = map (λ a. assertion a.value) as'

abbrev pub declaration : declaration'.Declaration → Declaration
declaration d = record { name = string_bytes d.name.value; of = d.of }

abbrev mutual
  pub stmt : stmt'.Stmt → Stmt
  stmt (stmt'.Declare at x t) = Declare at (string_bytes x.value) t
  stmt (stmt'.Assign at x e) = Assign at (string_bytes x.value) (expr e.value)
  stmt (stmt'.Write at e x e') = Write at (expr e.value) (string_bytes x.value) (expr e'.value)
  stmt (stmt'.New at x fs) = New at (string_bytes x.value) (names_of fs.value.items)
  stmt (stmt'.Call at xs m es) = Call at (names_of xs.value.items) (string_bytes m.value) (exprs es.value)
  stmt (stmt'.Inhale at a) = Inhale at (assertion a.value)
  stmt (stmt'.Exhale at a) = Exhale at (assertion a.value)
  stmt (stmt'.Assert at a) = Assert at (assertion a.value)
  stmt (stmt'.Assume at e) = Assume at (expr e.value)
  stmt (stmt'.Fold at i es share) = Fold at (string_bytes i.value) (exprs es.value) (expr share.value)
  stmt (stmt'.Unfold at i es share) = Unfold at (string_bytes i.value) (exprs es.value) (expr share.value)
  stmt (stmt'.If' at e p a q b) = If at (expr e.value) (block a) (block b)
  stmt (stmt'.While' at e is p b) = While at (expr e.value) (assertions is.items) (block b)

  pub block : block'.Block → Block
  block block'.Done = Done
  block (block'.Then' p s q b) = Then (stmt s) (block b)

abbrev pub optional_block : Option (Rc block'.Block Global) → Option Block
optional_block None = None
optional_block (Some b) = Some (block b.value)

abbrev pub optional_assertion : Option (Rc assertion'.Assertion Global) → Option Assertion
optional_assertion None = None
optional_assertion (Some a) = Some (assertion a.value)

abbrev pub predicate : predicate'.Predicate → Predicate
predicate d = record { place = d.place; parameters = map declaration d.parameters.items; body = optional_assertion d.body }

abbrev pub measure : Measure' → Measure
measure (measure'.Number e) = ByNumber (expr e.value)
measure (measure'.Instance at i es) = ByInstance at (string_bytes i.value) (exprs es.value)

abbrev pub optional_measure : Option Measure' → Option Measure
optional_measure o = option_map measure o

abbrev pub expressions : List (Rc expr'.Expr Global) → List Expr
expressions es = map (λ e. expr e.value) es

abbrev pub function : function'.Function → Function
function f = record {
  place = f.place;
  parameters = map declaration f.parameters.items;
  of = f.of;
  requires = assertions f.preconditions.items;
  ensures = expressions f.postconditions.items;
  decreases = optional_measure f.measure;
  body = expr f.body.value;
}

abbrev pub method : method'.Method → Method
method m = record {
  place = m.place;
  parameters = map declaration m.parameters.items;
  returns = map declaration m.returns.items;
  requires = assertions m.preconditions.items;
  ensures = assertions m.postconditions.items;
  body = optional_block m.body;
}

abbrev pub kind : kind'.the_data → Kind
kind (kind'.Field t) = IsField t
kind (kind'.Predicate d) = IsPredicate (predicate d.value)
kind (kind'.Function f) = IsFunction (function f.value)
kind (kind'.Method m) = IsMethod (method m.value)

abbrev pub member : member'.Member → Member
member m = record { name = string_bytes m.name.value; kind = kind m.kind }

abbrev pub program : program'.Program → Program
program p = map member p.members.items
