-- What speaks of instances that can be held mentions what may be mentioned; and where all may be, everything does.
use Rattle.std.proofs.Common.{◌≡◌, List, [], ◌∷◌, Option, Some, None}
use Rattle.std.specs.Prelude.{⊤}
use Rattle.vx_ast.specs.Syntax.{Name, Program, Method, method_named, Measure, ByNumber, ByInstance, Expr, Number, Truth, Null, Part, Variable, Not, Operate, Divide, Connect, Choose, Read, Old, Apply, Unfolding, Exprs, NoMore, More, Assertion, Pure, Points, Instance, Both, Implied, Chosen, Stmt, Declare, Assign, Write, New, Call, Inhale, Exhale, Assert, Assume, Fold, Unfold, If, While, Block, Done, Then}
use Rattle.vx_types.specs.Premises.{IsTypedProgram}
use Rattle.vx_sound.proofs.World.{World}
use Rattle.vx_sound.proofs.Speaks as instances
use Rattle.vx_sound.proofs.Says as instances_say
use Rattle.vx_live.proofs.Speaks.{Speaks, AllSpeak, SpeaksOf, AllSpeakOf, EachSpeaks, MeasureSpeaks, HasContract, Says, AllSay, BodySays, MethodSays}

module _ (Held Applied : Name → Type 0) (heard : (f : Name) → Applied f → Held f) where
  mutual
    pub expression : (e : Expr) → instances.Speaks Held Applied e → Speaks Held e
    expression (Number at n) k = tt
    expression (Truth at b) k = tt
    expression (Null at) k = tt
    expression (Part at n d) k = tt
    expression (Variable at x) k = tt
    expression (Not at e) k = expression e k
    expression (Operate at op a b) k = (expression a k.0, expression b k.1)
    expression (Divide at op a b) k = (expression a k.0, expression b k.1)
    expression (Connect at c a b) k = (expression a k.0, expression b k.1)
    expression (Choose at c a b) k = (expression c k.0, expression a k.1, expression b k.2)
    expression (Read at e f) k = expression e k
    expression (Old at e) k = expression e k
    expression (Apply at f es) k = (heard f k.0, expressions es k.1)
    expression (Unfolding at i es share e) k = (k.0, expressions es k.1, expression share k.2, expression e k.3)

    expressions : (es : Exprs) → instances.AllSpeak Held Applied es → AllSpeak Held es
    expressions NoMore k = tt
    expressions (More e es) k = (expression e k.0, expressions es k.1)

  pub assertion : (a : Assertion) → instances.SpeaksOf Held Applied a → SpeaksOf Held a
  assertion (Pure e) k = expression e k
  assertion (Points at e f share) k = (expression e k.0, expression share k.1)
  assertion (Instance at i es share) k = (k.0, expressions es k.1, expression share k.2)
  assertion (Both a b) k = (assertion a k.0, assertion b k.1)
  assertion (Implied c a) k = (expression c k.0, assertion a k.1)
  assertion (Chosen c a b) k = (expression c k.0, assertion a k.1, assertion b k.2)

  assertions : (rest : List Assertion) → instances.AllSpeakOf Held Applied rest → AllSpeakOf Held rest
  assertions [] k = tt
  assertions (a ∷ rest) k = (assertion a k.0, assertions rest k.1)

module _ (world : World) (heard : (f : Name) → world.Applied f → world.Held f) where
  abbrev Held : Name → Type 0
  Held = world.Held

  abbrev p : Program
  p = world.program

  contract : (m : Method) → instances_say.HasContract world m → HasContract Held p m
  contract m k = record { typed_requires = k.typed_requires; typed_ensures = k.typed_ensures; requires = assertions Held world.Applied heard m.requires k.requires; ensures = assertions Held world.Applied heard m.ensures k.ensures }

  mutual
    statement : (st : Stmt) → instances_say.Says world st → Says Held p st
    statement (Declare at x t) k = tt
    statement (Assign at x e) k = expression Held world.Applied heard e k
    statement (Write at e f e') k = (expression Held world.Applied heard e k.0, expression Held world.Applied heard e' k.1)
    statement (New at x fs) k = tt
    statement (Call at xs f es) k = (expressions Held world.Applied heard es k.0, λ m e. contract m (k.1 m e))
    statement (Inhale at a) k = assertion Held world.Applied heard a k
    statement (Exhale at a) k = assertion Held world.Applied heard a k
    statement (Assert at a) k = assertion Held world.Applied heard a k
    statement (Assume at e) k = expression Held world.Applied heard e k
    statement (Fold at i es share) k = (k.0, expressions Held world.Applied heard es k.1, expression Held world.Applied heard share k.2)
    statement (Unfold at i es share) k = (k.0, expressions Held world.Applied heard es k.1, expression Held world.Applied heard share k.2)
    statement (If at c a b) k = (expression Held world.Applied heard c k.0, block a k.1, block b k.2)
    statement (While at c is b) k = (expression Held world.Applied heard c k.0, assertions Held world.Applied heard is k.1, block b k.2)

    block : (b : Block) → instances_say.AllSay world b → AllSay Held p b
    block Done k = tt
    block (Then st b) k = (statement st k.0, block b k.1)

  body : (b : Option Block) → instances_say.BodySays world b → BodySays Held p b
  body None k = tt
  body (Some b) k = block b k

  pub method : (m : Method) → instances_say.MethodSays world m → MethodSays Held p m
  method m k = record { requires = assertions Held world.Applied heard m.requires k.requires; ensures = assertions Held world.Applied heard m.ensures k.ensures; body = body m.body k.body }

-- Where all may be mentioned

abbrev pub Any : Name → Type 0
Any x = ⊤

mutual
  pub any_expression : (e : Expr) → Speaks Any e
  any_expression (Number at n) = tt
  any_expression (Truth at b) = tt
  any_expression (Null at) = tt
  any_expression (Part at n d) = tt
  any_expression (Variable at x) = tt
  any_expression (Not at e) = any_expression e
  any_expression (Operate at op a b) = (any_expression a, any_expression b)
  any_expression (Divide at op a b) = (any_expression a, any_expression b)
  any_expression (Connect at c a b) = (any_expression a, any_expression b)
  any_expression (Choose at c a b) = (any_expression c, any_expression a, any_expression b)
  any_expression (Read at e f) = any_expression e
  any_expression (Old at e) = any_expression e
  any_expression (Apply at f es) = (tt, any_expressions es)
  any_expression (Unfolding at i es share e) = (tt, any_expressions es, any_expression share, any_expression e)

  any_expressions : (es : Exprs) → AllSpeak Any es
  any_expressions NoMore = tt
  any_expressions (More e es) = (any_expression e, any_expressions es)

pub any_assertion : (a : Assertion) → SpeaksOf Any a
any_assertion (Pure e) = any_expression e
any_assertion (Points at e f share) = (any_expression e, any_expression share)
any_assertion (Instance at i es share) = (tt, any_expressions es, any_expression share)
any_assertion (Both a b) = (any_assertion a, any_assertion b)
any_assertion (Implied c a) = (any_expression c, any_assertion a)
any_assertion (Chosen c a b) = (any_expression c, any_assertion a, any_assertion b)

pub any_assertions : (rest : List Assertion) → AllSpeakOf Any rest
any_assertions [] = tt
any_assertions (a ∷ rest) = (any_assertion a, any_assertions rest)

pub any_each : (rest : List Expr) → EachSpeaks Any rest
any_each [] = tt
any_each (e ∷ rest) = (any_expression e, any_each rest)

pub any_measure : (m : Option Measure) → MeasureSpeaks Any m
any_measure None = tt
any_measure (Some (ByNumber e)) = any_expression e
any_measure (Some (ByInstance at i es)) = (tt, any_expressions es)

module _ (p : Program) (typed : IsTypedProgram p) where
  any_contract : (f : Name) (m : Method) → method_named p f ≡ Some m → HasContract Any p m
  any_contract f m e = let t = typed.methods f m e in record { typed_requires = t.requires; typed_ensures = t.ensures; requires = any_assertions m.requires; ensures = any_assertions m.ensures }

  mutual
    any_statement : (st : Stmt) → Says Any p st
    any_statement (Declare at x t) = tt
    any_statement (Assign at x e) = any_expression e
    any_statement (Write at e f e') = (any_expression e, any_expression e')
    any_statement (New at x fs) = tt
    any_statement (Call at xs f es) = (any_expressions es, any_contract f)
    any_statement (Inhale at a) = any_assertion a
    any_statement (Exhale at a) = any_assertion a
    any_statement (Assert at a) = any_assertion a
    any_statement (Assume at e) = any_expression e
    any_statement (Fold at i es share) = (tt, any_expressions es, any_expression share)
    any_statement (Unfold at i es share) = (tt, any_expressions es, any_expression share)
    any_statement (If at c a b) = (any_expression c, any_block a, any_block b)
    any_statement (While at c is b) = (any_expression c, any_assertions is, any_block b)

    any_block : (b : Block) → AllSay Any p b
    any_block Done = tt
    any_block (Then st b) = (any_statement st, any_block b)

  any_body : (b : Option Block) → BodySays Any p b
  any_body None = tt
  any_body (Some b) = any_block b

  pub any_method : (m : Method) → MethodSays Any p m
  any_method m = record { requires = any_assertions m.requires; ensures = any_assertions m.ensures; body = any_body m.body }
