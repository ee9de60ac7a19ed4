-- The part of the language with predicates: fields, permissions, instances, `fold`, `unfold`, `unfolding`, loops and calls.
-- Only functions are left out, and with them whatever leads to one.
use Rattle.std.specs.Prelude.{⊤}
use Rattle.vx_ast.specs.Syntax.{Kind, IsField, IsPredicate, IsFunction, IsMethod}

abbrev pub IsInstanceMember : Kind → Type 0
IsInstanceMember (IsField t) = ⊤
IsInstanceMember (IsPredicate d) = ⊤
IsInstanceMember (IsMethod m) = ⊤
IsInstanceMember (IsFunction g) = ⊥
