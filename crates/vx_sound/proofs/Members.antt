-- A member that leads only to members of the calling language doesn't fail where their walks passed.
use Rattle.std.proofs.Common.{Option, Some, None, ap}
use Rattle.vx_ast.specs.Syntax.{Kind, IsField, IsPredicate, IsFunction, IsMethod, method_in, Stmt, Declare, Assign, Write, New, Call, Inhale, Exhale, Assert, Assume, Fold, Unfold, If, While, Block, Done, Then}
use Rattle.vx_rules.specs.Members.{method_tree}
use Rattle.vx_types.specs.FieldLanguage.{IsFieldStmt, IsFieldBlock, IsFieldBody}
use Rattle.vx_types.specs.Closure.{itself}
use Rattle.vx_types.specs.CallLanguage.{IsCallingStmt, IsCallingBlock, IsCallingBody, IsCallingMember}
use Rattle.vx_sound.specs.Law.{SoundLaw, IsFieldMember}
use Rattle.vx_sound.proofs.Passes.{cleared}
use Rattle.vx_sound.proofs.Callees.{speaks}
use Rattle.vx_sound.proofs.Methods.{method_sound}

pub calling_sound : SoundLaw IsCallingMember
calling_sound p x (IsField t) replies typed named all fails = absurd fails
calling_sound p x (IsPredicate d) replies typed named all fails = absurd (all x (IsPredicate d) itself named).0
calling_sound p x (IsFunction g) replies typed named all fails = absurd (all x (IsFunction g) itself named).0
calling_sound p x (IsMethod m) replies typed named all fails =
    let own = all x (IsMethod m) itself named in
    method_sound (λ g es e. ⊥) p m (typed.methods x m (ap method_in named)) (speaks p typed x m named own.0 (λ y l c e. (all y l c e).0))
    (cleared (method_tree p m) (replies x) own.1.0 own.1.1) fails.0 fails.1

-- The language of fields is a part of it.

mutual
  stmt : (st : Stmt) → IsFieldStmt st → IsCallingStmt st
  stmt (Declare at x t) k = k
  stmt (Assign at x e) k = k
  stmt (Write at e f e') k = k
  stmt (New at x fs) k = k
  stmt (Call at xs f es) k = absurd k
  stmt (Inhale at a) k = k
  stmt (Exhale at a) k = k
  stmt (Assert at a) k = k
  stmt (Assume at e) k = k
  stmt (Fold at i es share) k = k
  stmt (Unfold at i es share) k = k
  stmt (If at c a b) k = (k.0, block a k.1, block b k.2)
  stmt (While at c is b) k = (k.0, k.1, block b k.2)

  block : (b : Block) → IsFieldBlock b → IsCallingBlock b
  block Done k = tt
  block (Then st b) k = (stmt st k.0, block b k.1)

body : (b : Option Block) → IsFieldBody b → IsCallingBody b
body None k = tt
body (Some b) k = block b k

calling : (k : Kind) → IsFieldMember k → IsCallingMember k
calling (IsField t) k = tt
calling (IsPredicate d) k = k
calling (IsFunction g) k = k
calling (IsMethod m) k = record { requires = k.requires; ensures = k.ensures; body = body m.body k.body }

pub members_sound : SoundLaw IsFieldMember
members_sound p x k replies typed named all fails =
    calling_sound p x k replies typed named (λ y l c e. let a = all y l c e in (calling l a.0, a.1)) fails
