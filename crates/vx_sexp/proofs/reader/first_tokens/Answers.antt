use Rattle.std.proofs.Common.{rules, ◌≡◌, ◌≤◌, ◌++◌, ◌∷◌, ℕ, [], drop, arith, length-drop, ap, ◌∙◌, sym, refl}
use Rattle.std.proofs.lemmas.Grind.{common_steps}
use Rattle.vx_sexp.specs.First.{after}
use Rattle.vx_sexp.specs.Views.{token_of, between}
use Rattle.vx_sexp.proofs.Firsts.{begins_on, begins_ends, next_none, next_shorter, deepest_more, small_after, depth_more}
use Rattle.vx_sexp.proofs.reader.first_tokens.Goals as goal

pub returns-in-Some-eq0-clause-first : goal.returns-in-Some-eq0-clause-first
returns-in-Some-eq0-clause-first c =
    let found = c.in-Found.ensures in
    let text = between c.in-Found.start c.in-Found.end c.args.bytes.now in
    let deep = c.in-Some-eq0.ensures text in
    let so_far = c.loop-at.invariant in
    let items : c.of.result ≡ c.loop-at.tokens.items ++ token_of c.in-Found.shape text ∷ [] = cc (c.of.ensures, c.in_ok-push-in-Some-eq0.ensures.items, c.in_ok-token-in-Found.ensures) in
    let first = begins_ends _ _ _ so_far.so_far so_far.deep found.2 deep.0 deep.1 (search rules) in (
      found.1,
      rw items first,
      rw items (deepest_more 0 _ _ so_far.shallow_all
          (rw so_far.deep (small_after c.loop-at.depth (token_of c.in-Found.shape text) (c.if-is_too_deep.ensures text)))),
    )

pub loop-at-smaller : goal.loop-at-smaller
loop-at-smaller c =
    let h = next_shorter _ _ _ c.in-Found.ensures.2 in
    omega (arith, length-drop {A = ℕ})

pub loop-at-preserved : goal.loop-at-preserved
loop-at-preserved c =
    let found = c.in-Found.ensures in
    let text = between c.in-Found.start c.in-Found.end c.args.bytes.now in
    let deep = c.in-Some.ensures text in
    let so_far = c.loop-at.invariant in
    let small : after c.loop-at.depth (token_of c.in-Found.shape text) ≤ 4096 = small_after c.loop-at.depth (token_of c.in-Found.shape text) (c.if-is_too_deep.ensures text) in
    let items : c.push-in-Found.new.self.items ≡ c.loop-at.tokens.items ++ token_of c.in-Found.shape text ∷ [] = cc (c.in_ok-push-in-Found.ensures.items, c.in_ok-token-in-Found.ensures) in
    record {
      within = found.1;
      so_far = rw items (begins_on _ _ _ so_far.so_far so_far.deep found.2 deep.0 deep.1 c.in-Some.open-test.1);
      deep = rw items (depth_more 0 c.loop-at.tokens.items (token_of c.in-Found.shape text) ∙ ap (λ x. after x (token_of c.in-Found.shape text)) so_far.deep ∙ sym deep.1);
      shallow = omega arith;
      shallow_all = rw items (deepest_more 0 _ _ so_far.shallow_all (rw so_far.deep small));
    }

pub returns-clause-fault : goal.returns-clause-fault
returns-clause-fault c =
    let whole : drop c.loop-at.at c.args.bytes.now ≡ [] = grind (arith, common_steps, length-drop {A = ℕ}) in
    (refl, c.loop-at.tokens.items, _, c.loop-at.invariant.so_far, rw whole next_none)
