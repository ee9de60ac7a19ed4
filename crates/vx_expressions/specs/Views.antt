-- Settings and faults without where they lie in memory.
use denote.Ref.{Bor}
use Rattle.std.specs.Prelude.{List, map}
use Rattle.vx_ast.specs.declared.Declaration.{Declaration}
use Rattle.vx_ast.specs.declared.ValueType.{ValueType}
use Rattle.vx_ast.specs.Written.{Name}
use Rattle.vx_expressions.specs.declared.fault.Expected.TheVariants as expected'
use Rattle.vx_expressions.specs.declared.setting.Signature.TheVariants as signature'
use Rattle.vx_expressions.specs.declared.setting.Setting as setting'
use Rattle.vx_expressions.specs.declared.setting.Variable.{Variable}
use Rattle.vx_expressions.specs.Scopes.{Scope, named, type_in}
use Rattle.vx_expressions.specs.Settings.{Table, Setting, Signature, IsField, IsPredicate, IsFunction, IsMethod}
use Rattle.vx_expressions.specs.declared.assertions.Claim.TheVariants as claim'
use Rattle.vx_expressions.specs.Faults.{Expected, OfType, Numeral, Claim, Value, Permission}

abbrev pub types_of : List Declaration → List ValueType
types_of ds = map (λ d. d.value_type) ds

abbrev pub signature : signature'.the_data → Signature
signature (signature'.Field t) = IsField t
signature (signature'.Predicate ds has_body) = IsPredicate (types_of ds.now) has_body
signature (signature'.Function ds t) = IsFunction (types_of ds.now) t
signature (signature'.Method ds rs) = IsMethod (types_of ds.now) (types_of rs.now)

-- the entries of the maps
abbrev pub table : List (Bor Name × signature'.the_data) → Table
table es = map (λ e. (e.0.now, signature e.1)) es

abbrev pub known : List (Bor Name × Variable) → Scope
known es = map (λ e. (e.0.now, e.1)) es

abbrev pub names_in : Table → List Name
names_in es = map (λ e. e.0) es

abbrev pub listed : List (Bor Name) → List Name
listed ks = map (λ k. k.now) ks

abbrev pub setting : setting'.Setting → Setting
setting s = record {
  member = named (table s.members.now.entries);
  variable = type_in (known s.variables.now.entries);
  outcome = s.outcome;
  has_old = s.has_old;
  applies = s.applies;
  constant = s.constant;
}

abbrev pub expected : expected'.the_data → Expected
expected (expected'.Type t) = OfType t
expected expected'.Numeral = Numeral

abbrev pub claim_of : claim'.the_data → Claim
claim_of (claim'.Value t) = Value t
claim_of claim'.Permission = Permission
