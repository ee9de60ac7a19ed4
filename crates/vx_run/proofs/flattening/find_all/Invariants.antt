use Rattle.std.proofs.Common.{◌≡◌, Option}
use Rattle.vx_frac.specs.Fraction.{fraction}
use Rattle.vx_frac.specs.Fractions.{Fraction, lowest}
use Rattle.vx_meaning.specs.States.{Resource, Holdings}
use Rattle.vx_resolved.specs.Settled.{settled}
use Rattle.vx_run.specs.Flats.{EntryOf, inside, written_resource}
use Rattle.vx_run.specs.Flattening.{AreLeft, IsFound, found}
use Rattle.vx_run.specs.Held.{heap, resource}
use Rattle.vx_run.proofs.flattening.find_all.Given as goal

abbrev pub invariant-loop : goal.invariant-loop
invariant-loop l =
    (x : Resource) (z : Fraction) → written_resource x ≡ resource l.fn.r → lowest z ≡ fraction l.fn.q →
    (o : Option Holdings) × AreLeft (settled l.program) (heap l.heap.value) l.left.items o
    × IsFound (found l.fn.all.items) (found l.all.items) (inside (settled l.program) (heap l.heap.value) (EntryOf l.fn.n z x)) o
