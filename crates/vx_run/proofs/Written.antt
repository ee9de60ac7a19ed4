-- What the code holds is written in lowest terms.
use Rattle.std.proofs.Common.{◌≡◌, pos, Bool, true, false, List, [], ◌∷◌, map, Some, option_map, refl, sym, ap, ap₂}
use Rattle.std.specs.Prelude.{if◌then◌else◌}
use Rattle.vx_ast.specs.declared.ValueType.{ValueType}
use Rattle.vx_ast.specs.declared.ValueType.TheVariants as type
use Rattle.vx_ast.specs.Syntax.{Name, Program, Declaration, same_name}
use Rattle.vx_frac.proofs.Reduced.{lowest_fraction}
use Rattle.vx_frac.proofs.Whole.{lowest_whole}
use Rattle.vx_meaning.specs.Values.{Value, PermValue, default_of}
use Rattle.vx_meaning.specs.States.{Store, Location, Folded, find_value, field_type, value_at, lookup, bind}
use Rattle.vx_run.specs.Views.{value}
use Rattle.vx_run.specs.Held.{heap, instance, resource}
use Rattle.vx_run.specs.Flats.{written, written_store, written_resource}
use Rattle.vx_run.specs.declared.values.Value.{Value as Value'}
use Rattle.vx_run.specs.declared.values.Value.TheVariants as value'
use Rattle.vx_run.specs.declared.resource.Resource.{Resource as Resource'}
use Rattle.vx_run.specs.declared.resource.Resource.TheVariants as resource'
use Rattle.vx_run.specs.declared.heap.Heap.{Heap as Heap'}
use Rattle.vx_run.specs.declared.heap.Heap.TheVariants as heap'

pub value_written : (v : Value') → written (value v) ≡ value v
value_written (value'.Int z) = refl
value_written (value'.Bool b) = refl
value_written (value'.Ref r) = refl
value_written (value'.Perm a) = ap PermValue (lowest_fraction a)

pub values_written : (vs : List Value') → map written (map value vs) ≡ map value vs
values_written [] = refl
values_written (v ∷ vs) = ap₂ (λ (x : Value) (xs : List Value). x ∷ xs) (value_written v) (values_written vs)

pub resource_written : (r : Resource') → written_resource (resource r) ≡ resource r
resource_written (resource'.At l) = refl
resource_written (resource'.Folded i) =
    ap (λ (vs : List Value). Folded record { predicate = (instance i).predicate; arguments = vs }) (values_written i.arguments.value.items)

-- the default of a type is written too, and so is each value that is found in a heap
pub default_written : (t : ValueType) → written (default_of t) ≡ default_of t
default_written type.Int = refl
default_written type.Bool = refl
default_written type.Ref = refl
default_written type.Perm = ap PermValue (lowest_whole (pos 0))

pub found_written : (t : ValueType) (h : Heap') (l : Location) → written (find_value t (heap h) l) ≡ find_value t (heap h) l
found_written t heap'.Empty l = default_written t
found_written t (heap'.Write' at v p rest) l = either _ (value v) (find_value t (heap rest) l) (value_written v) (found_written t rest l)
  where
    either : (b : Bool) (x y : Value) → written x ≡ x → written y ≡ y → written (if b then x else y) ≡ (if b then x else y)
    either true x y e f = e
    either false x y e f = f

pub read_written : (p : Program) (h : Heap') (l : Location) → value_at p (heap h) l ≡ written (value_at p (heap h) l)
read_written p h l = sym (found_written (field_type p l.field) h l)

-- a variable of what is written
pub looked_up : (x : Name) (s : Store) → lookup x (written_store s) ≡ option_map written (lookup x s)
looked_up x [] = refl
looked_up x (e ∷ s) = either (same_name x e.0) (looked_up x s)
  where
    either : (b : Bool) → lookup x (written_store s) ≡ option_map written (lookup x s) → (if b then Some (written e.1) else lookup x (written_store s)) ≡ option_map written (if b then Some e.1 else lookup x s)
    either true h = refl
    either false h = h

-- parameters with their values, written
pub bound : (ds : List Declaration) (vs : List Value) → written_store (bind ds vs) ≡ bind ds (map written vs)
bound [] vs = refl
bound (d ∷ ds) [] = refl
bound (d ∷ ds) (v ∷ vs) = ap (λ (s : Store). (d.name, written v) ∷ s) (bound ds vs)
