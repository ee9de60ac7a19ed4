-- The law of real failures: where the last reply was a sat and right, some run of the method fails at the place that is told.
use Rattle.std.specs.Prelude.{◌≡◌, List, [], ◌∷◌, Some, ⊤}
use Rattle.vx_ast.specs.declared.Place.{Place}
use Rattle.vx_ast.specs.Syntax.{Name, Program, Kind, IsMethod, Method, member_named}
use Rattle.vx_terms.specs.Build.{negate}
use Rattle.vx_terms.specs.Interpretations.{IsSatisfiable}
use Rattle.vx_meaning.specs.Fails.{MethodFails}
use Rattle.vx_smt_meaning.specs.declared.reply.Reply.{Reply}
use Rattle.vx_smt_meaning.specs.declared.reply.Reply.TheVariants.{Unsat, Sat, Unknown}
use Rattle.vx_rules.specs.Trees.{Code, Question, Answered, Failed, walk}
use Rattle.vx_rules.specs.Members.{method_tree}
use Rattle.vx_types.specs.Typing.{IsTypedMethod}
use Rattle.vx_types.specs.FieldLanguage.{IsFieldMethod}
use Rattle.vx_types.specs.CallLanguage.{IsCallingMember}
use Rattle.vx_types.specs.Premises.{IsTypedProgram}
use Rattle.vx_types.specs.Closure.{InClosure}

-- a sat is right where some interpretation makes the path and the negated condition true
abbrev pub IsPossible : Question → Reply → Type 0
IsPossible q Sat = IsSatisfiable (negate q.condition ∷ q.path)
IsPossible q Unsat = ⊤
IsPossible q Unknown = ⊤

-- of the question that was answered last; nothing is asked of the replies before it
abbrev pub LastIsPossible : List Answered → Type 0
LastIsPossible [] = ⊤
LastIsPossible (a ∷ []) = IsPossible a.question a.reply
LastIsPossible (a ∷ b ∷ rest) = LastIsPossible (b ∷ rest)

-- the walk ends at this place by a sat that was right
abbrev pub FailsRightly : Program → Method → List Reply → Code → Place → Type 0
FailsRightly p m replies code at =
    ((walk (method_tree p m) replies).ending ≡ Failed at code Sat) × LastIsPossible (walk (method_tree p m) replies).answered

-- of methods of the language of fields, each by itself
abbrev pub RealFieldLaw : Type 0
RealFieldLaw =
    (p : Program) (m : Method) (replies : List Reply) (code : Code) (at : Place) →
    IsTypedMethod p m → IsFieldMethod m → FailsRightly p m replies code at → MethodFails p m at

-- no predicate and no function is mentioned, by contracts of methods that are called neither
abbrev pub IsInFieldFragment : Program → Name → Type 0
IsInFieldFragment p x = (y : Name) (l : Kind) → InClosure p x y → member_named p y ≡ Some l → IsCallingMember l

-- of methods of the field fragment, with calls
abbrev pub RealLaw : Type 0
RealLaw =
    (p : Program) (x : Name) (m : Method) (replies : List Reply) (code : Code) (at : Place) →
    IsTypedProgram p → member_named p x ≡ Some (IsMethod m) → IsInFieldFragment p x → FailsRightly p m replies code at → MethodFails p m at
