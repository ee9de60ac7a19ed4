use Rattle.std.proofs.Common.{◌≡◌, ◌∙◌, suc, sym, inr, arith, min}
use Rattle.cs_cong.proofs.Walks.{still, comes}
use Rattle.cs_cong.proofs.merges.Merges.parting.Goals as goal

pub returns-then-when-time : goal.returns-then-when-time
returns-then-when-time c =
    let s = c.args.self.now in
    let i = c.climb.invariant in
    let when : c.min-when.result ≡ min c.end_of.result c.end_of-in-climb.result = c.min-when.ensures in
    let left = c.end_of.ensures in
    let right = c.end_of-in-climb.ensures in
    let late = c.if-when-time.true in
    inr (λ e. i.apart (
    sym (still s.log.items s.links.items s.tree c.args.a c.climb.left i.since.0 c.args.time i.left i.since.2 i.since.1 (omega (arith, when, left, late)))
    ∙ e ∙ still s.log.items s.links.items s.tree c.args.b c.climb.right i.since.0 c.args.time i.right i.since.3 i.since.1 (omega (arith, when, right, late))))

pub returns-then-next_left-next_right : goal.returns-then-next_left-next_right
returns-then-next_left-next_right c =
    let s = c.args.self.now in
    let i = c.climb.invariant in
    let when : c.min-when.result ≡ min c.end_of.result c.end_of-in-climb.result = c.min-when.ensures in
    let left = c.end_of.ensures in
    let right = c.end_of-in-climb.ensures in
    let c_left = i.since.4 in
    let c_right = i.since.5 in
    let at = c.min-when.result in
    record {
      before = c.if-when-time.false;
      apart = λ e. i.apart (
          sym (still s.log.items s.links.items s.tree c.args.a c.climb.left i.since.0 at i.left i.since.2 (omega (arith, when, left, right, c_left, c_right)) (omega (arith, when, left)))
          ∙ e ∙ still s.log.items s.links.items s.tree c.args.b c.climb.right i.since.0 at i.right i.since.3 (omega (arith, when, left, right, c_left, c_right)) (omega (arith, when, right)));
      together =
          comes s.log.items s.links.items s.tree c.args.a c.climb.left i.since.0 (suc at) i.left i.since.2 i.since.4 (omega (arith, when, left, right, c_left, c_right))
          ∙ c.after-next_left.ensures.value ∙ c.if-next_left-next_right.true ∙ sym c.after-next_right.ensures.value
          ∙ sym (comes s.log.items s.links.items s.tree c.args.b c.climb.right i.since.0 (suc at) i.right i.since.3 i.since.5 (omega (arith, when, left, right, c_left, c_right)));
    }

pub climb-preserved : goal.climb-preserved
climb-preserved c =
    let s = c.args.self.now in
    let i = c.climb.invariant in
    let when : c.min-when.result ≡ min c.end_of.result c.end_of-in-climb.result = c.min-when.ensures in
    let left = c.end_of.ensures in
    let right = c.end_of-in-climb.ensures in
    let c_left = i.since.4 in
    let c_right = i.since.5 in
    let early = c.if-when-time.false in
    let at = c.min-when.result in
    record {
      left = c.after-next_left.ensures.within;
      right = c.after-next_right.ensures.within;
      apart = c.if-next_left-next_right.false;
      since = (
        suc at,
        omega (arith, early),
        comes s.log.items s.links.items s.tree c.args.a c.climb.left i.since.0 (suc at) i.left i.since.2 i.since.4 (omega (arith, when, left, right, c_left, c_right)) ∙ c.after-next_left.ensures.value,
        comes s.log.items s.links.items s.tree c.args.b c.climb.right i.since.0 (suc at) i.right i.since.3 i.since.5 (omega (arith, when, left, right, c_left, c_right)) ∙ c.after-next_right.ensures.value,
        c.after-next_left.ensures.rests,
        c.after-next_right.ensures.rests,
      );
    }
