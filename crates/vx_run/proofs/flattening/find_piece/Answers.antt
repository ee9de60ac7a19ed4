use Rattle.std.proofs.Common.{subst}
use Rattle.vx_frac.specs.Fraction.{fraction}
use Rattle.vx_resolved.specs.Resolved.{assertion}
use Rattle.vx_resolved.specs.Settled.{settled}
use Rattle.vx_run.specs.Flats.{PartOf, inside}
use Rattle.vx_run.specs.Flattening.{StandsFor, found}
use Rattle.vx_run.specs.Held.{heap, resource}
use Rattle.vx_run.specs.declared.flattening.Piece.{Piece}
use Rattle.vx_run.proofs.Pieces.{by_part, by_entry}
use Rattle.vx_run.proofs.flattening.find_piece.Goals as goal

pub returns-in_ok-there-in-Part : goal.returns-in_ok-there-in-Part
returns-in_ok-there-in-Part c = λ i r s l.
    let p = settled c.args.program.now in
    let h = heap c.args.heap.now.value in
    let f = subst (λ (t : Piece). StandsFor p h t i) c.in-Part.is s in
    by_part p h c.in_ok-there-in-Part.there (inside p h (PartOf c.in-Part.n f.0 f.1 (assertion c.in-Part.a.now))) i r c.find_part.new.left.items (found c.args.all.now.items) f.4
    (c.in_ok-there-in-Part.ensures f.1 f.0 r f.3 f.2 l)

pub returns-in_ok-there-in-Entry : goal.returns-in_ok-there-in-Entry
returns-in_ok-there-in-Entry c = λ i r s l.
    let p = settled c.args.program.now in
    let h = heap c.args.heap.now.value in
    let f = subst (λ (t : Piece). StandsFor p h t i) c.in-Entry.is s in
    by_entry p h c.in_ok-there-in-Entry.there c.in-Entry.n f.0 f.1 (resource c.in-Entry.r) (fraction c.in-Entry.q) i r c.find_entry.new.left.items (found c.args.all.now.items) (found c.find_entry.new.all.items)
    f.4 f.3 f.2 (c.in_ok-there-in-Entry.ensures h f.1 f.0 r f.3 f.2 l)
