-- What a function reaches and what doesn't lead back to it is of a lower group: so is what that reaches in turn, and what preconditions
-- apply.
use Rattle.std.proofs.Common.{◌≡◌, inl, Option, Some, sym, subst}
use Rattle.vx_ast.specs.Syntax.{Name, Program, Kind, Function, function_named, member_named}
use Rattle.vx_ast.specs.Mentions.{mentioned_by_function}
use Rattle.vx_ast.specs.Apart.{Stands, entered_by}
use Rattle.vx_meaning.specs.Group.{Reaches}
use Rattle.vx_types.specs.Premises.{IsTypedProgram}
use Rattle.vx_types.specs.Closure.{mentioned_by_measure, mentioned_by_kind, InClosure, further}
use Rattle.vx_sound_preds.proofs.Typed.{on_left}
use Rattle.vx_sound_preds.proofs.Mentioning.{function_member}
use Rattle.vx_sound_funcs.specs.Told.{precondition_of}
use Rattle.vx_law.specs.Allowed.{LowerKeep}
use Rattle.vx_law.proofs.Groups.{contains}
use Rattle.vx_law.proofs.Below.{asked_mentioned, asked_lower}
use Rattle.vx_law.proofs.Measures.{reached}

module _ (p : Program) (x : Name) where
  -- x leads to what its functions mention
  pub leads_on : (f : Name) (g : Function) → InClosure p x f → function_named p f ≡ Some g → (y : Name) → Stands y (mentioned_by_function g) → InClosure p x y
  leads_on f g leads named y s = further leads (subst (λ (o : Option Kind). Stands y (mentioned_by_kind p o)) (sym (function_member (member_named p f) g named)) (on_left y (mentioned_by_function g) (mentioned_by_measure g.decreases) s))

  pub reaches_one : (f : Name) (g : Function) → function_named p f ≡ Some g → (y : Name) → Stands y (mentioned_by_function g) → Reaches p f y
  reaches_one f g named y s = (1, inl (g, named, contains (mentioned_by_function g) y s))

  pub reaches_on : (f y z : Name) → Reaches p f y → Reaches p y z → Reaches p f z
  reaches_on f y z r s = reached r.0 f y z r.1 s

  abbrev pub IsLower : Name → Name → Type 0
  IsLower f y = InClosure p x y × Reaches p f y × (Reaches p y f → ⊥)

  -- what is of a lower group than a function that f reaches is so than f
  pub lower_on : (f f' y : Name) → Reaches p f f' → IsLower f' y → IsLower f y
  lower_on f f' y r l = (l.0, reaches_on f f' y r l.1, λ back. l.2 (reaches_on y f f' back r))

  -- so these keep their promises too
  pub keep_on : (f f' : Name) → Reaches p f f' → LowerKeep p x f → LowerKeep p x f'
  keep_on f f' r keep y d leads named s apart = let l = lower_on f f' y r (leads, s, apart) in keep y d leads named l.1 l.2

  -- what a precondition applies
  pub asked_is_lower : IsTypedProgram p → (f : Name) (g : Function) → InClosure p x f → function_named p f ≡ Some g → (y : Name) → Stands y (entered_by (precondition_of g)) → IsLower f y
  asked_is_lower typed f g leads named y s = let k = asked_lower p typed f g y named s in (leads_on f g leads named y (asked_mentioned p g y s), k.0, k.1)

  -- what is of a lower group applies, where it asks for something, what is so too
  pub lower_closed : IsTypedProgram p → (f f' : Name) (g' : Function) → IsLower f f' → function_named p f' ≡ Some g' → (y : Name) → Stands y (entered_by (precondition_of g')) → IsLower f y
  lower_closed typed f f' g' l named y s = lower_on f f' y l.1 (asked_is_lower typed f' g' l.0 named y s)
