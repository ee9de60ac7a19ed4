-- Locations, instances, heaps and entries of holdings that the code's stand for.
use Rattle.std.specs.Prelude.{◌≡◌, Bool, true, [], ◌∷◌, map, string_bytes, Result, Ok, Err, if◌then◌else◌, ⊤}
use Rattle.vx_frac.specs.Fraction.{fraction}
use Rattle.vx_frac.specs.Fractions.{Fraction, none, same_fraction}
use Rattle.vx_meaning.specs.States.{Location, Instance, Resource, At, Folded, Heap, Holdings, same_resource, amount}
use Rattle.vx_run.specs.Views.{value}
use Rattle.vx_run.specs.declared.resource.Location.{Location as Location'}
use Rattle.vx_run.specs.declared.resource.Instance.{Instance as Instance'}
use Rattle.vx_run.specs.declared.resource.Resource.{Resource as Resource'}
use Rattle.vx_run.specs.declared.resource.Resource.TheVariants as resource'
use Rattle.vx_run.specs.declared.heap.Heap.{Heap as Heap'}
use Rattle.vx_run.specs.declared.heap.Heap.TheVariants as heap'
use Rattle.vx_run.specs.declared.entries.Entries.{Entries as Entries'}
use Rattle.vx_run.specs.declared.entries.Entries.TheVariants as entries'

abbrev pub location : Location' → Location
location l = record { receiver = l.receiver; field = string_bytes l.field.value }

abbrev pub instance : Instance' → Instance
instance i = record { predicate = string_bytes i.predicate.value; arguments = map value i.arguments.value.items }

abbrev pub resource : Resource' → Resource
resource (resource'.At l) = At (location l)
resource (resource'.Folded i) = Folded (instance i)

abbrev pub heap : Heap' → Heap
heap heap'.Empty = []
heap (heap'.Write' l v p rest) = (location l, value v) ∷ heap rest

abbrev pub entries : Entries' → Holdings
entries entries'.Nothing = []
entries (entries'.Entry' r a t p rest) = (resource r, fraction a) ∷ entries rest

-- the total that the newest entry of a resource tells
abbrev pub told_total : Entries' → Resource → Fraction
told_total entries'.Nothing r = none
told_total (entries'.Entry' of a t p rest) r = if same_resource r (resource of) then fraction t else told_total rest r

-- the totals are the sums of the amounts
abbrev pub TellTotals : Entries' → Type 0
TellTotals h = (r : Resource) → same_fraction (told_total h r) (amount (entries h) r) ≡ true
