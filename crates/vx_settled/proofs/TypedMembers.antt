-- A method that is typed as it is written is typed when it is settled.
use Rattle.std.proofs.Common.{◌≡◌, ◌∙◌, ◌++◌, ℕ, zero, suc, List, [], ◌∷◌, Option, Some, None, map, slice_get, sym, ap, subst, append_assoc, append-nil}
use Rattle.vx_ast.specs.declared.Place.{Place}
use Rattle.vx_ast.specs.Written as written
use Rattle.vx_ast.specs.Resolve as resolve
use Rattle.vx_ast.specs.Resolve.{Names, assertion, names_of}
use Rattle.vx_ast.specs.Syntax.{Program, Member, Method, IsMethod}
use Rattle.vx_statements.specs.declared.names.Role.{Role}
use Rattle.vx_statements.specs.declared.names.Role.TheVariants.{Parameter, Local}
use Rattle.vx_expressions.specs.Scopes as scopes
use Rattle.vx_expressions.specs.Scopes.{named}
use Rattle.vx_statements.specs.Roles.{with_variable, with_variables}
use Rattle.vx_expressions.specs.Settings.{Table, plainly, within_method}
use Rattle.vx_typing.specs.Members.{table_of, AreTypedContracts, AreTypedMembers, IsTypedKind, IsTypedBlockOf}
use Rattle.vx_types.specs.Typing.{AreOnce, AllTyped, IsTypedBody, IsTypedMethod}
use Rattle.vx_typing.specs.Programs.{IsTyped}
use Rattle.vx_settled.proofs.TypedNames.{Knows, knows}
use Rattle.vx_settled.proofs.TypedExprs.{Sees}
use Rattle.vx_settled.proofs.TypedClaims.{claim}
use Rattle.vx_settled.proofs.TypedStmts.{settled, declared_once, same_types, one_more, sees, block}

-- variables as they are settled
pub all_more : (names : Names) (role : Role) (ds : List written.Declaration) (scope : scopes.Scope) → settled (with_variables role ds scope) ≡ settled scope ++ map (resolve.declaration names) ds
all_more names role [] scope = sym (append-nil (settled scope))
all_more names role (d ∷ ds) scope =
    all_more names role ds (with_variable role d scope) ∙ ap (λ s. s ++ map (resolve.declaration names) ds) (one_more role d scope) ∙ append_assoc (settled scope) (resolve.declaration names d ∷ []) (map (resolve.declaration names) ds)

pub same_method : (a b : Method) → IsMethod a ≡ IsMethod b → a ≡ b
same_method a b e = cc

pub same_member : (a b : Member) → Some a ≡ Some b → a ≡ b
same_member a b e = cc

module _ (table : Table) (names : Names) (p : Program) (knows : Knows (named table) names p) where
  plainly_sees : (scope : scopes.Scope) → Sees (plainly table scope) (settled scope) names p
  plainly_sees scope = record { variables = λ x t h. same_types scope x ∙ h; outcome = λ t h. cc; members = knows }

  required : (before after : scopes.Scope) (cs : List written.Clause) → AreTypedContracts table before after cs → AllTyped p (settled before) (map (assertion names) (written.requires_of cs))
  required before after [] h = tt
  required before after (written.Requires e ∷ cs) h = (claim (plainly table before) (settled before) names p (plainly_sees before) h.0, required before after cs h.1)
  required before after (written.Ensures e ∷ cs) h = required before after cs h.1
  required before after (written.Decreases e ∷ cs) h = required before after cs h.1

  ensured : (before after : scopes.Scope) (cs : List written.Clause) → AreTypedContracts table before after cs → AllTyped p (settled after) (map (assertion names) (written.ensures_of cs))
  ensured before after [] h = tt
  ensured before after (written.Requires e ∷ cs) h = ensured before after cs h.1
  ensured before after (written.Ensures e ∷ cs) h = (claim (within_method table after) (settled after) names p (sees table names p knows after) h.0, ensured before after cs h.1)
  ensured before after (written.Decreases e ∷ cs) h = ensured before after cs h.1

  body : (scope : scopes.Scope) (b : Option written.Block) → IsTypedBlockOf table scope b → IsTypedBody p (settled scope) (resolve.optional_block names b)
  body scope None h = tt
  body scope (Some b) h = block table names p knows scope b h

  pub method : (k : written.Kind) (at : Place) (m : Method) → IsTypedKind table k → resolve.kind names at k ≡ IsMethod m → IsTypedMethod p m
  method (written.IsField t) at m h is = (cc)
  method (written.IsPredicate d) at m h is = (cc)
  method (written.IsFunction f) at m h is = (cc)
  method (written.IsMethod w) at m h is =
      let before = with_variables Parameter w.parameters [] in
      let after = with_variables Local w.returns before in
      let first : settled before ≡ map (resolve.declaration names) w.parameters = all_more names Parameter w.parameters [] in
      let both : settled after ≡ map (resolve.declaration names) w.parameters ++ map (resolve.declaration names) w.returns =
      all_more names Local w.returns before ∙ ap (λ s. s ++ map (resolve.declaration names) w.returns) first in
      subst (IsTypedMethod p) (same_method _ m is) record {
        names = subst AreOnce both (declared_once Local w.returns before (declared_once Parameter w.parameters [] tt h.parameters) h.returns);
        requires = subst (λ s. AllTyped p s (map (assertion names) (written.requires_of w.clauses))) first (required before after w.clauses h.clauses);
        ensures = subst (λ s. AllTyped p s (map (assertion names) (written.ensures_of w.clauses))) both (ensured before after w.clauses h.clauses);
        body = subst (λ s. IsTypedBody p s (resolve.optional_block names w.body)) both (body after w.body h.body);
      }

  members : (ms : List written.Member) → AreTypedMembers table ms → (n : ℕ) (x : Member) (m : Method) → slice_get (map (resolve.member names) ms) n ≡ Some x → x.kind ≡ IsMethod m → IsTypedMethod p m
  members [] h n x m at is = (cc)
  members (w ∷ ms) h zero x m at is = method w.kind w.place m h.0 (ap (λ (y : Member). y.kind) (same_member (resolve.member names w) x at) ∙ is)
  members (w ∷ ms) h (suc n) x m at is = members ms h.1 n x m at is

pub typed_when_settled : (p : written.Program) → IsTyped p → (n : ℕ) (x : Member) (m : Method) → slice_get (resolve.program p) n ≡ Some x → x.kind ≡ IsMethod m → IsTypedMethod (resolve.program p) m
typed_when_settled p h = members (table_of p) (names_of p) (resolve.program p) (knows p h.names) p h.members
