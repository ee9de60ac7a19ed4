use Rattle.cs_linear.specs.declared.bounds.Bound.{Bound}
use Rattle.cs_linear.specs.declared.rows.Row.{Row}
use Rattle.cs_linear.proofs.Conflicts.{among_known}
use Rattle.cs_linear.specs.Contradictions.{IsContradiction}
use Rattle.std.proofs.Common.{subst, length, ap, sym, ◌<◌, ◌∙◌, Vec, Global, refl, arith}
use Rattle.cs_linear.specs.Values.{values}
use Rattle.cs_linear.proofs.Mending.{stops_with}
use Rattle.cs_linear.proofs.Tightest.{all_meet, beyond_is, clear_as, pending_as, beyond_as, still_pending}
use Rattle.cs_linear.proofs.tableau.Tableau.turn.Goals as goal

pub first_broken-requires-clause-mains : goal.first_broken-requires-clause-mains
first_broken-requires-clause-mains c = ap length c.deref.ensures.value ∙ c.args.self.now.same_mains ∙ sym c.requires.marks

pub first_broken-requires-clause-deltas : goal.first_broken-requires-clause-deltas
first_broken-requires-clause-deltas c = ap length c.deref-2.ensures.value ∙ c.args.self.now.same_deltas ∙ sym c.requires.marks

pub first_broken-requires-clause-pending : goal.first_broken-requires-clause-pending
first_broken-requires-clause-pending c = pending_as c.args.limits.now c.args.marks.now.items (sym c.deref.ensures.value) (sym c.deref-2.ensures.value) c.requires.pending

pub returns-in-None-clause-turn : goal.returns-in-None-clause-turn
returns-in-None-clause-turn c =
    let s = c.args.self.now in
    record {
      mains = (s.alike (values s.mains.items)).1 s.mains_solve;
      deltas = (s.alike (values s.deltas.items)).1 s.deltas_solve;
      bounds = all_meet s.bounds.items c.args.limits.now (values s.mains.items) (values s.deltas.items) (length s.homes.items) c.requires.tight s.known
          (λ k lt. clear_as c.deref.ensures.value c.deref-2.ensures.value (c.in-None.ensures.none k (subst (λ n. k < n) (sym c.requires.marks) lt)));
    }

pub returns-in-Err-mend-clause-undecided : goal.returns-in-Err-mend-clause-undecided
returns-in-Err-mend-clause-undecided c = c.cause_of.ensures _

pub mend-requires-clause-known : goal.mend-requires-clause-known
mend-requires-clause-known c =
    let s = c.args.self.now in
    let b = beyond_is s.bounds.items c.args.limits.now (values s.mains.items) (values s.deltas.items) c.in-Some.bound c.requires.limits (beyond_as c.deref.ensures.value c.deref-2.ensures.value c.in-Some.ensures.some) in
    among_known s.bounds.items c.in-Some.bound (length s.homes.items) s.known b.0

pub mend-requires-clause-among : goal.mend-requires-clause-among
mend-requires-clause-among c =
    let s = c.args.self.now in
    (beyond_is s.bounds.items c.args.limits.now (values s.mains.items) (values s.deltas.items) c.in-Some.bound c.requires.limits (beyond_as c.deref.ensures.value c.deref-2.ensures.value c.in-Some.ensures.some)).0

pub mend-requires-clause-broken : goal.mend-requires-clause-broken
mend-requires-clause-broken c =
    let s = c.args.self.now in
    (beyond_is s.bounds.items c.args.limits.now (values s.mains.items) (values s.deltas.items) c.in-Some.bound c.requires.limits (beyond_as c.deref.ensures.value c.deref-2.ensures.value c.in-Some.ensures.some)).1

pub mend-requires-clause-marks : goal.mend-requires-clause-marks
mend-requires-clause-marks c = c.first_broken.ensures.count ∙ c.requires.marks

pub returns-in-None-clause-pending : goal.returns-in-None-clause-pending
returns-in-None-clause-pending c = pending_as c.args.limits.now c.first_broken.new.marks.items c.deref.ensures.value c.deref-2.ensures.value c.in-None.ensures.pending

pub returns-in-Ok-None-clause-pending : goal.returns-in-Ok-None-clause-pending
returns-in-Ok-None-clause-pending c =
    let s = c.args.self.now in
    still_pending c.args.limits.now s.mains.items s.deltas.items _ _ _ _ c.mend.ensures.marked (pending_as c.args.limits.now c.first_broken.new.marks.items c.deref.ensures.value c.deref-2.ensures.value c.first_broken.ensures.pending)

pub returns-in-Ok-Some-clause-pending : goal.returns-in-Ok-Some-clause-pending
returns-in-Ok-Some-clause-pending c =
    let s = c.args.self.now in
    still_pending c.args.limits.now s.mains.items s.deltas.items _ _ _ _ c.mend.ensures.marked (pending_as c.args.limits.now c.first_broken.new.marks.items c.deref.ensures.value c.deref-2.ensures.value c.first_broken.ensures.pending)

pub returns-in-Err-mend-clause-pending : goal.returns-in-Err-mend-clause-pending
returns-in-Err-mend-clause-pending c =
    let s = c.args.self.now in
    still_pending c.args.limits.now s.mains.items s.deltas.items _ _ _ _ c.mend.ensures.marked (pending_as c.args.limits.now c.first_broken.new.marks.items c.deref.ensures.value c.deref-2.ensures.value c.first_broken.ensures.pending)

pub returns-in-Ok-Some-clause-turn : goal.returns-in-Ok-Some-clause-turn
returns-in-Ok-Some-clause-turn c =
    let e = c.in-Ok-Some.conflict.parts.items in
    subst (λ (o : Vec Row Global). IsContradiction o.items c.mend.new.self.bounds.items e) (sym c.in-Ok-Some.ensures.rows)
    (subst (λ (b : Vec Bound Global). IsContradiction c.args.self.now.originals.items b.items e) (sym c.in-Ok-Some.ensures.bounds) (rw c.in-Ok-Some.field-0-is at c.in-Ok-Some.ensures.conflict))

pub returns-in-Ok-None-clause-turn : goal.returns-in-Ok-None-clause-turn
returns-in-Ok-None-clause-turn c = (c.in-Ok.ensures.spent, c.in-Ok.ensures.left.0 refl)

pub mend-requires-clause-limits : goal.mend-requires-clause-limits
mend-requires-clause-limits c = c.requires.limits

pub mend-requires-clause-lower : goal.mend-requires-clause-lower
mend-requires-clause-lower c = c.requires.lower

pub mend-requires-clause-upper : goal.mend-requires-clause-upper
mend-requires-clause-upper c = c.requires.upper

pub returns-in-Ok-None-clause-rows : goal.returns-in-Ok-None-clause-rows
returns-in-Ok-None-clause-rows c = c.in-Ok-None.ensures.rows

pub returns-in-Ok-None-clause-width : goal.returns-in-Ok-None-clause-width
returns-in-Ok-None-clause-width c = c.in-Ok-None.ensures.width

pub returns-in-Ok-None-clause-bounds : goal.returns-in-Ok-None-clause-bounds
returns-in-Ok-None-clause-bounds c = c.in-Ok-None.ensures.bounds

pub returns-in-Ok-Some-clause-rows : goal.returns-in-Ok-Some-clause-rows
returns-in-Ok-Some-clause-rows c = c.in-Ok-Some.ensures.rows

pub returns-in-Ok-Some-clause-width : goal.returns-in-Ok-Some-clause-width
returns-in-Ok-Some-clause-width c = c.in-Ok-Some.ensures.width

pub returns-in-Ok-Some-clause-bounds : goal.returns-in-Ok-Some-clause-bounds
returns-in-Ok-Some-clause-bounds c = c.in-Ok-Some.ensures.bounds

pub returns-in-Err-mend-clause-rows : goal.returns-in-Err-mend-clause-rows
returns-in-Err-mend-clause-rows c = c.in-Err-mend.ensures.rows

pub returns-in-Err-mend-clause-width : goal.returns-in-Err-mend-clause-width
returns-in-Err-mend-clause-width c = c.in-Err-mend.ensures.width

pub returns-in-Err-mend-clause-bounds : goal.returns-in-Err-mend-clause-bounds
returns-in-Err-mend-clause-bounds c = c.in-Err-mend.ensures.bounds

pub returns-in-Ok-None-clause-spent : goal.returns-in-Ok-None-clause-spent
returns-in-Ok-None-clause-spent c = omega (arith, c.in-Ok.ensures.spent)

pub returns-in-Ok-Some-clause-spent : goal.returns-in-Ok-Some-clause-spent
returns-in-Ok-Some-clause-spent c = omega (arith, c.in-Ok.ensures.spent)

pub returns-in-Err-mend-clause-spent : goal.returns-in-Err-mend-clause-spent
returns-in-Err-mend-clause-spent c = omega (arith, c.in-Ok.ensures.spent)

pub returns-in-Ok-None-clause-units : goal.returns-in-Ok-None-clause-units
returns-in-Ok-None-clause-units c =
    let s = c.args.self.now in
    let b = beyond_is s.bounds.items c.args.limits.now (values s.mains.items) (values s.deltas.items) c.in-Some.bound c.requires.limits (beyond_as c.deref.ensures.value c.deref-2.ensures.value c.in-Some.ensures.some) in
    (record { bound = c.in-Some.bound; among = b.0; broken = b.1; met = rw c.in-Ok-None.field-0-is at c.in-Ok-None.ensures.met }, c.in-Ok.ensures.spent)

pub returns-in-Ok-Some-clause-units : goal.returns-in-Ok-Some-clause-units
returns-in-Ok-Some-clause-units c = c.in-Ok.ensures.spent

pub returns-in-Err-mend-clause-stopped : goal.returns-in-Err-mend-clause-stopped
returns-in-Err-mend-clause-stopped c = stops_with _ _ _ c.cause_of.ensures c.in-Ok.ensures.spent
