use Rattle.cs_linear.proofs.Conflicts.{known_free}
use Rattle.std.proofs.Common.{◌≡◌, ◌<◌, List, Option, ℕ, [], ◌∷◌, ◌++◌, Some, All, length, sym, ap, ap₂, ◌∙◌, subst, refl, length-append}
use Rattle.std.proofs.lemmas.List.Elements.{All-weaker}
use Rattle.vx_frac.specs.declared.Frac.{Frac}
use Rattle.cs_linear.specs.declared.rows.Row.{Row}
use Rattle.cs_linear.specs.declared.rows.Entry.{Entry}
use Rattle.cs_linear.specs.declared.bounds.Bound.{Bound}
use Rattle.cs_linear.specs.Rows.{total, Homes, AreFree, Solves}
use Rattle.cs_linear.specs.Values.{values}
use Rattle.cs_linear.proofs.Lists.{one_longer, few_more, below_longer, long}
use Rattle.cs_linear.proofs.Sums.{ascends_in}
use Rattle.cs_linear.proofs.Added.{more_tableau, more_solves, more_alike, same_tableau, same_solves, same_alike}
use Rattle.cs_linear.proofs.tableau.Tableau.add_row.Goals as goal

pub invariant_of-self-in-Break-branch-5 : goal.invariant_of-self-in-Break-branch-5
invariant_of-self-in-Break-branch-5 c =
    let s = c.args.self.now in
    let m = c.make_room.ensures in
    record {
      few = subst (λ (hs : List (Option ℕ)). length hs < 4294967296) (sym m.homes) s.few;
      same_mains = ap length m.mains ∙ s.same_mains ∙ ap length (sym m.homes);
      same_deltas = ap length m.deltas ∙ s.same_deltas ∙ ap length (sym m.homes);
      tableau = same_tableau m.rows m.homes s.tableau;
      alike = same_alike m.originals m.rows s.alike;
      mains_solve = same_solves m.rows m.mains s.mains_solve;
      deltas_solve = same_solves m.rows m.deltas s.deltas_solve;
      known = subst (λ (hs : List (Option ℕ)). All (λ (b : Bound). b.column < length hs) s.bounds.items) (sym m.homes) s.known;
    }

pub invariant_of-self-2 : goal.invariant_of-self-2
invariant_of-self-2 c =
    let s = c.args.self.now in
    let m = c.make_room.ensures in
    let o : Row = record { basic = c.len-basic.result; entries = c.in_ok-original.original } in
    let r : Row = record { basic = c.len-basic.result; entries = c.in_ok-entries.entries } in
    let basic : c.len-basic.result ≡ length s.homes.items = c.len-basic.ensures ∙ long c.make_room.new.homes ∙ ap length m.homes in
    let home : c.len-home.result ≡ length s.rows.items = c.len-home.ensures ∙ long c.make_room.new.rows ∙ ap length m.rows in
    let originals = c.put.ensures ∙ ap (λ (rs : List Row). rs ++ o ∷ []) m.originals in
    let rows = c.put-2.ensures ∙ ap (λ (rs : List Row). rs ++ r ∷ []) m.rows in
    let homes = c.put-3.ensures ∙ ap₂ (λ (hs : List (Option ℕ)) (i : ℕ). hs ++ Some i ∷ []) m.homes home in
    let mains = c.put-4.ensures ∙ ap (λ (vs : List Frac). vs ++ c.in_ok-main.main ∷ []) m.mains in
    let deltas = c.put-5.ensures ∙ ap (λ (vs : List Frac). vs ++ c.in_ok-delta.delta ∷ []) m.deltas in
    let free = subst (λ (hs : Homes). AreFree hs c.in_ok-entries.entries.items) c.deref-2.ensures.value c.in_ok-entries.ensures.free in
    let main = c.in_ok-main.ensures.value ∙ ap₂ (λ (es : List Entry) (vs : List Frac). total es (values vs)) c.deref-3.ensures.value c.deref-4.ensures.value in
    let delta = c.in_ok-delta.ensures.value ∙ ap₂ (λ (es : List Entry) (vs : List Frac). total es (values vs)) c.deref-5.ensures.value c.deref-6.ensures.value in
    record {
      few = subst (λ (hs : List (Option ℕ)). length hs < 4294967296) (sym homes) (few_more s.homes.items (Some (length s.rows.items)) 4294967296 c.requires.few);
      same_mains = ap length mains ∙ one_longer s.mains.items c.in_ok-main.main s.homes.items (Some (length s.rows.items)) s.same_mains ∙ ap length (sym homes);
      same_deltas = ap length deltas ∙ one_longer s.deltas.items c.in_ok-delta.delta s.homes.items (Some (length s.rows.items)) s.same_deltas ∙ ap length (sym homes);
      tableau = same_tableau rows homes (more_tableau s.rows.items s.homes.items r s.tableau basic free c.in_ok-entries.ensures.ascends (ascends_in 0 _ c.in_ok-entries.ensures.ascends));
      alike = same_alike originals rows (more_alike s.originals.items s.rows.items o r s.alike refl (λ a h. c.in_ok-entries.ensures.total a (subst (λ (rs : List Row). Solves rs a) (sym c.deref.ensures.value) h) ∙ ap (λ (es : List Entry). total es a) (sym c.in_ok-original.ensures.value)));
      mains_solve = same_solves rows mains (more_solves s.rows.items s.homes.items r s.mains.items c.in_ok-main.main s.tableau s.same_mains basic free main s.mains_solve);
      deltas_solve = same_solves rows deltas (more_solves s.rows.items s.homes.items r s.deltas.items c.in_ok-delta.delta s.tableau s.same_deltas basic free delta s.deltas_solve);
      known = All-weaker (λ (b : Bound). b.column < length s.homes.items) (λ (b : Bound). b.column < length c.put-3.new.list.items) (λ b lt. subst (λ (hs : List (Option ℕ)). b.column < length hs) (sym homes) (below_longer s.homes.items (Some (length s.rows.items)) b.column lt)) s.bounds.items s.known;
    }

pub returns-clause-row : goal.returns-clause-row
returns-clause-row c =
    let m = c.make_room.ensures in
    let o : Row = record { basic = c.len-basic.result; entries = c.in_ok-original.original } in
    record {
      row = o;
      rows = c.put.ensures ∙ ap (λ (rs : List Row). rs ++ o ∷ []) m.originals;
      basic = c.len-basic.ensures ∙ long c.make_room.new.homes ∙ ap length m.homes;
      entries = c.in_ok-original.ensures.value;
    }

pub total_of-requires : goal.total_of-requires
total_of-requires c =
    let s = c.args.self.now in
    known_free s.homes.items c.deref-3.result.now (length c.deref-4.result.now) (ap length c.deref-4.ensures.value ∙ s.same_mains)
    (subst (AreFree s.homes.items) (sym c.deref-3.ensures.value) (subst (λ (hs : Homes). AreFree hs c.in_ok-entries.entries.items) c.deref-2.ensures.value c.in_ok-entries.ensures.free))

pub total_of-requires-2 : goal.total_of-requires-2
total_of-requires-2 c =
    let s = c.args.self.now in
    known_free s.homes.items c.deref-5.result.now (length c.deref-6.result.now) (ap length c.deref-6.ensures.value ∙ s.same_deltas)
    (subst (AreFree s.homes.items) (sym c.deref-5.ensures.value) (subst (λ (hs : Homes). AreFree hs c.in_ok-entries.entries.items) c.deref-2.ensures.value c.in_ok-entries.ensures.free))

pub returns-clause-width : goal.returns-clause-width
returns-clause-width c = ap length (c.put-3.ensures ∙ ap (λ (hs : List (Option ℕ)). hs ++ Some c.len-home.result ∷ []) c.make_room.ensures.homes) ∙ length-append c.args.self.now.homes.items (Some c.len-home.result ∷ [])

pub returns-in_err-entries-clause-bounds : goal.returns-in_err-entries-clause-bounds
returns-in_err-entries-clause-bounds c = refl

pub returns-in_err-main-clause-bounds : goal.returns-in_err-main-clause-bounds
returns-in_err-main-clause-bounds c = refl

pub returns-in_err-delta-clause-bounds : goal.returns-in_err-delta-clause-bounds
returns-in_err-delta-clause-bounds c = refl

pub returns-in_err-original-clause-bounds : goal.returns-in_err-original-clause-bounds
returns-in_err-original-clause-bounds c = refl

pub returns-in_err-make_room-clause-bounds : goal.returns-in_err-make_room-clause-bounds
returns-in_err-make_room-clause-bounds c = refl

pub put-requires : goal.put-requires
put-requires c = c.in_ok-make_room.ensures.room_for_original

pub put-requires-2 : goal.put-requires-2
put-requires-2 c = c.in_ok-make_room.ensures.room_for_row

pub put-requires-3 : goal.put-requires-3
put-requires-3 c = c.in_ok-make_room.ensures.room_for_home

pub put-requires-4 : goal.put-requires-4
put-requires-4 c = c.in_ok-make_room.ensures.room_for_main

pub put-requires-5 : goal.put-requires-5
put-requires-5 c = c.in_ok-make_room.ensures.room_for_delta

pub returns-clause-column : goal.returns-clause-column
returns-clause-column c = c.len-basic.ensures ∙ long c.make_room.new.homes ∙ ap length c.make_room.ensures.homes

pub returns-clause-bounds : goal.returns-clause-bounds
returns-clause-bounds c = refl
