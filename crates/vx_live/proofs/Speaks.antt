-- What mentions only predicates and functions of some names.
use Rattle.std.proofs.Common.{◌≡◌, List, [], ◌∷◌, ◌++◌, Option, Some, None}
use Rattle.vx_ast.specs.declared.Place.{Place}
use Rattle.vx_ast.specs.Syntax.{Name, Program, Predicate, Function, Method, predicate_named, function_named, method_named, place_of, joined, joined_with, conjoined, conjoined_with, as_assertion, Measure, ByNumber, ByInstance, And, Or, Implies, Expr, Number, Truth, Null, Part, Variable, Not, Operate, Divide, Connect, Choose, Read, Old, Apply, Unfolding, Exprs, NoMore, More, Assertion, Pure, Points, Instance, Both, Implied, Chosen, Stmt, Declare, Assign, Write, New, Call, Inhale, Exhale, Assert, Assume, Fold, Unfold, If, While, Block, Done, Then}
use Rattle.vx_smt_meaning.specs.Commands.{Declared}
use Rattle.vx_smt_meaning.specs.Symbols.{Declares}
use Rattle.vx_rules.specs.Groups.{function_number}
use Rattle.vx_types.specs.Typing.{IsTyped, AllTyped, IsTypedFunction}
use Rattle.vx_live.specs.Functions.{function_symbol}

module _ (Held : Name → Type 0) where
  abbrev mutual
    pub Speaks : Expr → Type 0
    Speaks (Number at n) = Unit {0}
    Speaks (Truth at b) = Unit {0}
    Speaks (Null at) = Unit {0}
    Speaks (Part at n d) = Unit {0}
    Speaks (Variable at x) = Unit {0}
    Speaks (Not at e) = Speaks e
    Speaks (Operate at op a b) = Speaks a × Speaks b
    Speaks (Divide at op a b) = Speaks a × Speaks b
    Speaks (Connect at c a b) = Speaks a × Speaks b
    Speaks (Choose at c a b) = Speaks c × Speaks a × Speaks b
    Speaks (Read at e f) = Speaks e
    Speaks (Old at e) = Speaks e
    Speaks (Apply at f es) = Held f × AllSpeak es
    Speaks (Unfolding at i es share e) = Held i × AllSpeak es × Speaks share × Speaks e

    pub AllSpeak : Exprs → Type 0
    AllSpeak NoMore = Unit {0}
    AllSpeak (More e es) = Speaks e × AllSpeak es

  abbrev pub SpeaksOf : Assertion → Type 0
  SpeaksOf (Pure e) = Speaks e
  SpeaksOf (Points at e f share) = Speaks e × Speaks share
  SpeaksOf (Instance at i es share) = Held i × AllSpeak es × Speaks share
  SpeaksOf (Both a b) = SpeaksOf a × SpeaksOf b
  SpeaksOf (Implied c a) = Speaks c × SpeaksOf a
  SpeaksOf (Chosen c a b) = Speaks c × SpeaksOf a × SpeaksOf b

  abbrev pub AllSpeakOf : List Assertion → Type 0
  AllSpeakOf [] = Unit {0}
  AllSpeakOf (a ∷ rest) = SpeaksOf a × AllSpeakOf rest

  abbrev pub EachSpeaks : List Expr → Type 0
  EachSpeaks [] = Unit {0}
  EachSpeaks (e ∷ rest) = Speaks e × EachSpeaks rest

  abbrev pub MeasureSpeaks : Option Measure → Type 0
  MeasureSpeaks None = Unit {0}
  MeasureSpeaks (Some (ByNumber e)) = Speaks e
  MeasureSpeaks (Some (ByInstance at i es)) = Held i × AllSpeak es

  -- Clauses that are joined

  joined_with_speaks : (a : Assertion) (rest : List Assertion) → SpeaksOf a → AllSpeakOf rest → SpeaksOf (joined_with a rest)
  joined_with_speaks a [] k ks = k
  joined_with_speaks a (b ∷ rest) k ks = joined_with_speaks (Both a b) rest (k, ks.0) ks.1

  pub joined_speaks : (at : Place) (rest : List Assertion) → AllSpeakOf rest → SpeaksOf (joined at rest)
  joined_speaks at [] h = tt
  joined_speaks at (a ∷ rest) h = joined_with_speaks a rest h.0 h.1

  conjoined_with_speaks : (a : Expr) (rest : List Expr) → Speaks a → EachSpeaks rest → Speaks (conjoined_with a rest)
  conjoined_with_speaks a [] k ks = k
  conjoined_with_speaks a (b ∷ rest) k ks = conjoined_with_speaks (Connect (place_of a) And a b) rest (k, ks.0) ks.1

  pub conjoined_speaks : (at : Place) (rest : List Expr) → EachSpeaks rest → Speaks (conjoined at rest)
  conjoined_speaks at [] h = tt
  conjoined_speaks at (a ∷ rest) h = conjoined_with_speaks a rest h.0 h.1

  pub assertion_speaks : (e : Expr) → Speaks e → SpeaksOf (as_assertion e)
  assertion_speaks (Connect at And a b) k = (assertion_speaks a k.0, assertion_speaks b k.1)
  assertion_speaks (Connect at Or a b) k = k
  assertion_speaks (Connect at Implies a b) k = k
  assertion_speaks (Number at n) k = k
  assertion_speaks (Truth at b) k = k
  assertion_speaks (Null at) k = k
  assertion_speaks (Part at n d) k = k
  assertion_speaks (Variable at x) k = k
  assertion_speaks (Not at e) k = k
  assertion_speaks (Operate at op a b) k = k
  assertion_speaks (Divide at op a b) k = k
  assertion_speaks (Choose at c a b) k = k
  assertion_speaks (Read at e f) k = k
  assertion_speaks (Old at e) k = k
  assertion_speaks (Apply at f es) k = k
  assertion_speaks (Unfolding at i es share e) k = k

  -- Statements, with the contracts of what they call

  module _ (p : Program) where
    -- what a caller reads of a method: its contract
    pub record HasContract (m : Method) : Type 0 where
      pub typed_requires : AllTyped p m.parameters m.requires
      pub typed_ensures : AllTyped p (m.parameters ++ m.returns) m.ensures
      pub requires : AllSpeakOf m.requires
      pub ensures : AllSpeakOf m.ensures

    abbrev mutual
      pub Says : Stmt → Type 0
      Says (Declare at x t) = Unit {0}
      Says (Assign at x e) = Speaks e
      Says (Write at e f e') = Speaks e × Speaks e'
      Says (New at x fs) = Unit {0}
      Says (Call at xs f es) = AllSpeak es × ((m : Method) → method_named p f ≡ Some m → HasContract m)
      Says (Inhale at a) = SpeaksOf a
      Says (Exhale at a) = SpeaksOf a
      Says (Assert at a) = SpeaksOf a
      Says (Assume at e) = Speaks e
      Says (Fold at i es share) = Held i × AllSpeak es × Speaks share
      Says (Unfold at i es share) = Held i × AllSpeak es × Speaks share
      Says (If at c a b) = Speaks c × AllSay a × AllSay b
      Says (While at c is b) = Speaks c × AllSpeakOf is × AllSay b

      pub AllSay : Block → Type 0
      AllSay Done = Unit {0}
      AllSay (Then st b) = Says st × AllSay b

    abbrev pub BodySays : Option Block → Type 0
    BodySays None = Unit {0}
    BodySays (Some b) = AllSay b

    pub record MethodSays (m : Method) : Type 0 where
      pub requires : AllSpeakOf m.requires
      pub ensures : AllSpeakOf m.ensures
      pub body : BodySays m.body

    -- a function's parts, and its symbol, which is one of these
    pub record FunctionSays (fs : List Declared) (f : Name) (g : Function) : Type 0 where
      pub typed : IsTypedFunction p g
      pub requires : AllSpeakOf g.requires
      pub ensures : EachSpeaks g.ensures
      pub measure : MeasureSpeaks g.decreases
      pub body : Speaks g.body
      pub symbol : Declares fs (function_symbol (function_number p f) g)

    -- bodies of predicates and parts of functions that may be mentioned are typed, and mention what may be mentioned
    pub record Spoken (fs : List Declared) : Type 0 where
      pub bodies : (x : Name) (d : Predicate) (e : Assertion) → Held x → predicate_named p x ≡ Some d → d.body ≡ Some e → IsTyped p d.parameters e × SpeaksOf e
      pub functions : (f : Name) (g : Function) → Held f → function_named p f ≡ Some g → FunctionSays fs f g
