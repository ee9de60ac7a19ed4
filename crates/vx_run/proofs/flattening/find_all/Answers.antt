use Rattle.std.proofs.Common.{◌≡◌, ℕ, Bool, List, [], ◌∷◌, ◌++◌, length, arith, take, Option, Some, refl, sym, ◌∙◌, ap, subst}
use Rattle.vx_meaning.specs.States.{Holdings}
use Rattle.vx_resolved.specs.Settled.{settled}
use Rattle.vx_run.specs.Flats.{EntryOf, inside, and_behind}
use Rattle.vx_run.specs.Flattening.{AreLeft, Finds, IsFound, found}
use Rattle.vx_run.specs.Held.{heap}
use Rattle.vx_run.specs.declared.flattening.Piece.{Piece}
use Rattle.std.specs.Vec.{vec_len}
use Rattle.vx_run.specs.declared.flattening.Piece.TheVariants as piece
use Rattle.vx_run.proofs.Flattened.{none_behind, popped}
use Rattle.vx_run.proofs.Pieces.{found_first, found_next, found_none, found_again}
use Rattle.vx_run.proofs.flattening.find_all.Goals as goal

pub loop-init : goal.loop-init
loop-init c = λ x z w lz.
    let p = settled c.args.program.now in
    let h = heap c.args.heap.now.value in
    let all = inside p h (EntryOf c.args.n z x) in
    let first : AreLeft p h (piece.Entry c.args.n c.args.q c.args.r ∷ []) all = (all, (z, x, lz, w, refl), Some [], refl, none_behind all) in (
      all,
      subst (λ (ts : List Piece). AreLeft p h ts all) (sym (c.in_ok-push.ensures.items ∙ ap (λ (ts : List Piece). ts ++ piece.Entry c.args.n c.args.q c.args.r ∷ []) c.new-left.ensures.items)) first,
      found_first (found c.args.all.now.items) all,
    )

pub returns-then-not-there : goal.returns-then-not-there
returns-then-not-there c = λ x z w lz.
    let p = settled c.args.program.now in
    let h = heap c.args.heap.now.value in
    let all = inside p h (EntryOf c.args.n z x) in
    let old = found c.args.all.now.items in
    let mid = found c.loop.all.items in
    let inv = c.loop.invariant x z w lz in
    let f = popped p h c.pop.new.self.items c.in-Some.next inv.0 (subst (λ (ts : List Piece). AreLeft p h ts inv.0) c.in-Some.ensures.items inv.1) in
    let new = found c.find_piece.new.all.items in
    let long : vec_len c.args.all.now ≡ length c.args.all.now.items = (let e = c.args.all.now.ok.0 in omega (e, arith)) in
    let g = subst (λ (b : Bool). Finds b f.0 mid new ((o : Option Holdings) × AreLeft p h c.find_piece.new.left.items o × IsFound mid new (and_behind f.0 f.2) o)) c.if-not-there.true
    (c.in_ok-there-in-Some.ensures f.0 f.2 f.1 f.3) in (
      ap found (c.truncate.ensures.items ∙ ap (λ (n : ℕ). take n c.find_piece.new.all.items) (c.len-before.ensures ∙ long))
          ∙ found_again c.args.all.now.items c.find_piece.new.all.items _ (g.1 ∙ inv.2.1),
      found_none old mid all inv.0 f.0 f.2 inv.2 f.4 g.0,
    )

pub loop-preserved : goal.loop-preserved
loop-preserved c = λ x z w lz.
    let p = settled c.args.program.now in
    let h = heap c.args.heap.now.value in
    let all = inside p h (EntryOf c.args.n z x) in
    let old = found c.args.all.now.items in
    let mid = found c.loop.all.items in
    let inv = c.loop.invariant x z w lz in
    let f = popped p h c.pop.new.self.items c.in-Some.next inv.0 (subst (λ (ts : List Piece). AreLeft p h ts inv.0) c.in-Some.ensures.items inv.1) in
    let new = found c.find_piece.new.all.items in
    let g = subst (λ (b : Bool). Finds b f.0 mid new ((o : Option Holdings) × AreLeft p h c.find_piece.new.left.items o × IsFound mid new (and_behind f.0 f.2) o)) c.if-not-there.false
    (c.in_ok-there-in-Some.ensures f.0 f.2 f.1 f.3) in
    (g.0, g.1, found_next old mid new all inv.0 g.0 inv.2 (subst (λ (u : Option Holdings). IsFound mid new u g.0) (sym f.4) g.2))
