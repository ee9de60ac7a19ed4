-- Statements and methods that speak of fields and of instances that can be held, with the contracts of what they call.
use Rattle.std.proofs.Common.{◌≡◌, ◌++◌, Option, Some, None}
use Rattle.vx_ast.specs.Syntax.{Name, Program, Method, method_named, Stmt, Declare, Assign, Write, New, Call, Inhale, Exhale, Assert, Assume, Fold, Unfold, If, While, Block, Done, Then}
use Rattle.vx_types.specs.Typing.{AllTyped}
use Rattle.vx_sound.proofs.World.{World}
use Rattle.vx_sound.proofs.Speaks.{Speaks, AllSpeak, SpeaksOf, AllSpeakOf, fields_speak, all_fields_speak, of_fields_speaks, are_of_fields_speak}
use Rattle.vx_sound.proofs.Contracts.{HasFieldContract, SpeaksOfFields, AllSpeaks, BodySpeaks, MethodSpeaks}

module _ (world : World) where
  abbrev p : Program
  p = world.program

  -- what a caller reads of a method: its contract
  pub record HasContract (m : Method) : Type 0 where
    pub typed_requires : AllTyped p m.parameters m.requires
    pub typed_ensures : AllTyped p (m.parameters ++ m.returns) m.ensures
    pub requires : AllSpeakOf world.Held world.Applied m.requires
    pub ensures : AllSpeakOf world.Held world.Applied m.ensures

  abbrev pub IsCalled : Name → Type 0
  IsCalled f = (m : Method) → method_named p f ≡ Some m → HasContract m

  abbrev mutual
    pub Says : Stmt → Type 0
    Says (Declare at x t) = Unit {0}
    Says (Assign at x e) = Speaks world.Held world.Applied e
    Says (Write at e f e') = Speaks world.Held world.Applied e × Speaks world.Held world.Applied e'
    Says (New at x fs) = Unit {0}
    Says (Call at xs f es) = AllSpeak world.Held world.Applied es × IsCalled f
    Says (Inhale at a) = SpeaksOf world.Held world.Applied a
    Says (Exhale at a) = SpeaksOf world.Held world.Applied a
    Says (Assert at a) = SpeaksOf world.Held world.Applied a
    Says (Assume at e) = Speaks world.Held world.Applied e
    Says (Fold at i es share) = world.Held i × AllSpeak world.Held world.Applied es × Speaks world.Held world.Applied share
    Says (Unfold at i es share) = world.Held i × AllSpeak world.Held world.Applied es × Speaks world.Held world.Applied share
    Says (If at c a b) = Speaks world.Held world.Applied c × AllSay a × AllSay b
    Says (While at c is b) = Speaks world.Held world.Applied c × AllSpeakOf world.Held world.Applied is × AllSay b

    pub AllSay : Block → Type 0
    AllSay Done = Unit {0}
    AllSay (Then st b) = Says st × AllSay b

  abbrev pub BodySays : Option Block → Type 0
  BodySays None = Unit {0}
  BodySays (Some b) = AllSay b

  pub record MethodSays (m : Method) : Type 0 where
    pub requires : AllSpeakOf world.Held world.Applied m.requires
    pub ensures : AllSpeakOf world.Held world.Applied m.ensures
    pub body : BodySays m.body

  -- What speaks of fields alone does.

  contract : (m : Method) → HasFieldContract p m → HasContract m
  contract m k = record { typed_requires = k.typed_requires; typed_ensures = k.typed_ensures; requires = are_of_fields_speak world.Held world.Applied m.requires k.requires; ensures = are_of_fields_speak world.Held world.Applied m.ensures k.ensures }

  mutual
    says : (st : Stmt) → SpeaksOfFields p st → Says st
    says (Declare at x t) k = tt
    says (Assign at x e) k = fields_speak world.Held world.Applied e k
    says (Write at e f e') k = (fields_speak world.Held world.Applied e k.0, fields_speak world.Held world.Applied e' k.1)
    says (New at x fs) k = tt
    says (Call at xs f es) k = (all_fields_speak world.Held world.Applied es k.0, λ m e. contract m (k.1 m e))
    says (Inhale at a) k = of_fields_speaks world.Held world.Applied a k
    says (Exhale at a) k = of_fields_speaks world.Held world.Applied a k
    says (Assert at a) k = of_fields_speaks world.Held world.Applied a k
    says (Assume at e) k = fields_speak world.Held world.Applied e k
    says (Fold at i es share) k = absurd k
    says (Unfold at i es share) k = absurd k
    says (If at c a b) k = (fields_speak world.Held world.Applied c k.0, all_say a k.1, all_say b k.2)
    says (While at c is b) k = (fields_speak world.Held world.Applied c k.0, are_of_fields_speak world.Held world.Applied is k.1, all_say b k.2)

    all_say : (b : Block) → AllSpeaks p b → AllSay b
    all_say Done k = tt
    all_say (Then st b) k = (says st k.0, all_say b k.1)

  body_says : (b : Option Block) → BodySpeaks p b → BodySays b
  body_says None k = tt
  body_says (Some b) k = all_say b k

  pub method_says : (m : Method) → MethodSpeaks p m → MethodSays m
  method_says m k = record { requires = are_of_fields_speak world.Held world.Applied m.requires k.requires; ensures = are_of_fields_speak world.Held world.Applied m.ensures k.ensures; body = body_says m.body k.body }
