-- A program without its places.
use Rattle.std.specs.Prelude.{List, map, option_map}
use Rattle.vx_ast.specs.declared.Place.{Place}
use Rattle.vx_ast.specs.Written.{Name, Placed, placed, Expr, Exprs, NoMore, More, Amount, All, Part, Truth, Number, Null, Whole, Nothing, Result, Variable, Call, Read, Unary, Binary, Choice, Old, Access, Unfolding, Right, Value, NewAll, New, Declaration, Stmt, Other, NoElse, Else, Block, Declare, Assign, Write, Invoke, Inhale, Exhale, Assert, Assume, Fold, Unfold, If, While, Done, Then, Clause, Requires, Ensures, Decreases, Kind, IsField, IsPredicate, IsFunction, IsMethod, Member, Program}

abbrev pub nowhere : Place
nowhere = record { line = 0; column = 0 }

abbrev pub bare_name : Name → Placed
bare_name x = placed nowhere x

abbrev pub bare_names : List Placed → List Placed
bare_names xs = map (λ x. bare_name x.name) xs

-- without places, and with the amount of each `acc` written
abbrev mutual
  pub bare : Expr → Expr
  bare (Number p n) = Number nowhere n
  bare (Truth p b) = Truth nowhere b
  bare (Null p) = Null nowhere
  bare (Whole p) = Whole nowhere
  bare (Nothing p) = Nothing nowhere
  bare (Result p) = Result nowhere
  bare (Variable p x) = Variable nowhere x
  bare (Call p f es) = Call nowhere f (bare_exprs es)
  bare (Read p e f) = Read nowhere (bare e) (bare_name f.name)
  bare (Unary p op e) = Unary nowhere op (bare e)
  bare (Binary p op a b) = Binary nowhere op (bare a) (bare b)
  bare (Choice p c a b) = Choice nowhere (bare c) (bare a) (bare b)
  bare (Old p e) = Old nowhere (bare e)
  bare (Access p e a) = Access nowhere (bare e) (Part (bare_written a))
  bare (Unfolding p x es a e) = Unfolding nowhere (bare_name x.name) (bare_exprs es) (bare_amount a) (bare e)

  pub bare_exprs : Exprs → Exprs
  bare_exprs NoMore = NoMore
  bare_exprs (More e es) = More (bare e) (bare_exprs es)

  -- the whole, where none is written
  pub bare_written : Amount → Expr
  bare_written All = Whole nowhere
  bare_written (Part e) = bare e

  pub bare_amount : Amount → Amount
  bare_amount All = All
  bare_amount (Part e) = Part (bare e)

abbrev pub bare_right : Right → Right
bare_right (Value e) = Value (bare e)
bare_right (NewAll p) = NewAll nowhere
bare_right (New p fs) = New nowhere (bare_names fs)

abbrev pub bare_declaration : Declaration → Declaration
bare_declaration d = record { name = bare_name d.name.name; of = d.of; type_at = nowhere }

abbrev pub bare_declarations : List Declaration → List Declaration
bare_declarations ds = map bare_declaration ds

abbrev mutual
  pub bare_stmt : Stmt → Stmt
  bare_stmt (Declare p d r) = Declare nowhere (bare_declaration d) (option_map bare_right r)
  bare_stmt (Assign p x r) = Assign nowhere (bare_name x.name) (bare_right r)
  bare_stmt (Write p e f v) = Write nowhere (bare e) (bare_name f.name) (bare v)
  bare_stmt (Invoke p xs m es) = Invoke nowhere (bare_names xs) (bare_name m.name) (bare_exprs es)
  bare_stmt (Inhale p e) = Inhale nowhere (bare e)
  bare_stmt (Exhale p e) = Exhale nowhere (bare e)
  bare_stmt (Assert p e) = Assert nowhere (bare e)
  bare_stmt (Assume p e) = Assume nowhere (bare e)
  bare_stmt (Fold p x es a) = Fold nowhere (bare_name x.name) (bare_exprs es) (bare_amount a)
  bare_stmt (Unfold p x es a) = Unfold nowhere (bare_name x.name) (bare_exprs es) (bare_amount a)
  bare_stmt (If p e a b) = If nowhere (bare e) (bare_block a) (bare_other b)
  bare_stmt (While p e is b) = While nowhere (bare e) (bare_exprs is) (bare_block b)

  pub bare_other : Other → Other
  bare_other NoElse = NoElse
  bare_other (Else b) = Else (bare_block b)

  pub bare_block : Block → Block
  bare_block Done = Done
  bare_block (Then s b) = Then (bare_stmt s) (bare_block b)

abbrev pub bare_clause : Clause → Clause
bare_clause (Requires e) = Requires (bare e)
bare_clause (Ensures e) = Ensures (bare e)
bare_clause (Decreases e) = Decreases (bare e)

abbrev pub bare_kind : Kind → Kind
bare_kind (IsField t) = IsField t
bare_kind (IsPredicate p) = IsPredicate record { parameters = bare_declarations p.parameters; body = option_map bare p.body }
bare_kind (IsFunction f) = IsFunction record { parameters = bare_declarations f.parameters; of = f.of; clauses = map bare_clause f.clauses; body = bare f.body }
bare_kind (IsMethod m) = IsMethod record { parameters = bare_declarations m.parameters; returns = bare_declarations m.returns; clauses = map bare_clause m.clauses; body = option_map bare_block m.body }

abbrev pub bare_member : Member → Member
bare_member m = record { place = nowhere; name = bare_name m.name.name; kind = bare_kind m.kind }

abbrev pub bare_program : Program → Program
bare_program p = map bare_member p
