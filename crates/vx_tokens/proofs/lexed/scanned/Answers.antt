use Rattle.std.proofs.Common.{◌≡◌, ◌≤◌, ◌++◌, length, take, drop, sym, ap, subst, ◌∙◌, arith}
use Rattle.vx_tokens.specs.Tokens.{tokens_in, token_of, kind_of}
use Rattle.std.proofs.Common.{◌∷◌, []}
use Rattle.std.proofs.lemmas.List.{map-append, length-take}
use Rattle.vx_tokens.specs.Text.{after, first_place, one_token}
use Rattle.vx_tokens.specs.Scanning.{scan}
use Rattle.vx_tokens.proofs.Right.{found_longest}
use Rattle.vx_tokens.proofs.Standing.{reached_on}
use Rattle.vx_tokens.proofs.Scan.{all_push, Stopped, stopped, after_pass, after_found, ends_with, passed, taken}
use Rattle.vx_tokens.proofs.lexed.scanned.Goals as goal
use Rattle.vx_tokens.proofs.lexed.scanned.Goals.{in-Pass, in-Found+in_ok-push-in-Found}

pub returns-in-Finish-clause-scanned : goal.returns-in-Finish-clause-scanned
returns-in-Finish-clause-scanned c = ends_with (tokens_in c.loop-tokens.tokens.items) _ _ _ (subst (λ x. Stopped x c.loop-tokens.place c.loop-tokens.rest.now (scan 0 c.loop-tokens.place c.loop-tokens.rest.now)) (sym c.in-Finish.ensures) (stopped c.loop-tokens.place c.loop-tokens.rest.now)) c.loop-tokens.invariant.scanned

pub returns-in-Wide-clause-scanned : goal.returns-in-Wide-clause-scanned
returns-in-Wide-clause-scanned c = ends_with (tokens_in c.loop-tokens.tokens.items) _ _ _ (subst (λ x. Stopped x c.loop-tokens.place c.loop-tokens.rest.now (scan 0 c.loop-tokens.place c.loop-tokens.rest.now)) (sym c.in-Wide.ensures) (stopped c.loop-tokens.place c.loop-tokens.rest.now)) c.loop-tokens.invariant.scanned

pub returns-in-Unclosed-clause-scanned : goal.returns-in-Unclosed-clause-scanned
returns-in-Unclosed-clause-scanned c = rw c.after.ensures.value (ends_with (tokens_in c.loop-tokens.tokens.items) _ _ _ (subst (λ x. Stopped x c.loop-tokens.place c.loop-tokens.rest.now (scan 0 c.loop-tokens.place c.loop-tokens.rest.now)) (sym c.in-Unclosed.ensures) (stopped c.loop-tokens.place c.loop-tokens.rest.now)) c.loop-tokens.invariant.scanned)

pub returns-in-Bad-clause-scanned : goal.returns-in-Bad-clause-scanned
returns-in-Bad-clause-scanned c = ends_with (tokens_in c.loop-tokens.tokens.items) _ _ _ (subst (λ x. Stopped x c.loop-tokens.place c.loop-tokens.rest.now (scan 0 c.loop-tokens.place c.loop-tokens.rest.now)) (sym c.in-Bad.ensures) (stopped c.loop-tokens.place c.loop-tokens.rest.now)) c.loop-tokens.invariant.scanned

pub slice_bounds-text-end : goal.slice_bounds-text-end
slice_bounds-text-end c =
    let le : c.in-Found.len ≤ length c.loop-tokens.rest.now = (taken c.loop-tokens.rest.now _ c.in-Found.len c.in-Found.ensures).1 in
    omega (arith, length-take c.in-Found.len c.loop-tokens.rest.now, le)

len_fits : (c : goal.Joined-front) → (1 ≤ c.match-front.len) × (c.match-front.len ≤ length c.loop-tokens.rest.now)
len_fits c = elim c.match-front.branch [
  | in-Pass w ↦ rw w.len-is (passed c.loop-tokens.rest.now w.in-Pass.len w.in-Pass.ensures)
  | in-Found+in_ok-push-in-Found w ↦ rw w.len-is (taken c.loop-tokens.rest.now _ w.in-Found.len w.in-Found.ensures)
]

pub split_at-requires : goal.split_at-requires
split_at-requires c = (len_fits c).1

len_fits_after : (c : goal.After-after-place) → (1 ≤ c.match-front.len) × (c.match-front.len ≤ length c.loop-tokens.rest.now)
len_fits_after c = elim c.match-front.branch [
  | in-Pass w ↦ rw w.len-is (passed c.loop-tokens.rest.now w.in-Pass.len w.in-Pass.ensures)
  | in-Found+in_ok-push-in-Found w ↦ rw w.len-is (taken c.loop-tokens.rest.now _ w.in-Found.len w.in-Found.ensures)
]

pub loop-tokens-smaller : goal.loop-tokens-smaller
loop-tokens-smaller c = let f = len_fits_after c in omega (arith, f.0, f.1, c.split_at.ensures.back_len)

pub loop-tokens-preserved : goal.loop-tokens-preserved
loop-tokens-preserved c =
    let f = len_fits_after c in
    let rest = c.loop-tokens.rest.now in
    let place = c.loop-tokens.place in
    record {
      scanned = elim c.match-front.branch [
        | in-Pass w ↦
            let at_place : c.after-place.result ≡ after place (take w.in-Pass.len rest) = c.after-place.ensures.value ∙ ap (after place) (c.split_at.ensures.front ∙ ap (λ n. take n rest) w.len-is) in
            let more : c.split_at.result.1.now ≡ drop w.in-Pass.len rest = c.split_at.ensures.back ∙ ap (λ n. drop n rest) w.len-is in
            rw w.tokens-is (after_pass (tokens_in c.loop-tokens.tokens.items) place c.after-place.result rest c.split_at.result.1.now w.in-Pass.len (scan 0 first_place c.args.text.now) c.loop-tokens.invariant.scanned w.in-Pass.ensures at_place more)
        | in-Found+in_ok-push-in-Found w ↦
            let n = w.in-Found.len in
            let at_place : c.after-place.result ≡ after place (take n rest) = c.after-place.ensures.value ∙ ap (after place) (c.split_at.ensures.front ∙ ap (λ n. take n rest) w.len-is) in
            let more : c.split_at.result.1.now ≡ drop n rest = c.split_at.ensures.back ∙ ap (λ n. drop n rest) w.len-is in
            let pushed : tokens_in w.push.new.self.items ≡ tokens_in c.loop-tokens.tokens.items ++ one_token (kind_of w.in-Found.kind) place ∷ [] = ap tokens_in w.in_ok-push-in-Found.ensures.items ∙ map-append token_of c.loop-tokens.tokens.items _ in
            rw w.tokens-is (after_found (tokens_in c.loop-tokens.tokens.items) (tokens_in w.push.new.self.items) place c.after-place.result rest c.split_at.result.1.now (kind_of w.in-Found.kind) n (scan 0 first_place c.args.text.now) c.loop-tokens.invariant.scanned w.in-Found.ensures at_place more pushed)
      ];
      texts = elim c.match-front.branch [
        | in-Pass w ↦ rw w.tokens-is c.loop-tokens.invariant.texts
        | in-Found+in_ok-push-in-Found w ↦
            rw (w.tokens-is, w.in_ok-push-in-Found.ensures.items) (all_push _ c.loop-tokens.tokens.items _ c.loop-tokens.invariant.texts
            record { bytes = rest; rest = drop w.in-Found.len rest; reached = c.loop-tokens.invariant.reached; longest = found_longest rest _ w.in-Found.len w.in-Found.ensures })
      ];
      reached = elim c.match-front.branch [
        | in-Pass w ↦
            let at_place : c.after-place.result ≡ after place (take w.in-Pass.len rest) = c.after-place.ensures.value ∙ ap (after place) (c.split_at.ensures.front ∙ ap (λ n. take n rest) w.len-is) in
            reached_on c.args.text.now place c.after-place.result rest c.split_at.result.1.now w.in-Pass.len c.loop-tokens.invariant.reached at_place (c.split_at.ensures.back ∙ ap (λ n. drop n rest) w.len-is)
        | in-Found+in_ok-push-in-Found w ↦
            let at_place : c.after-place.result ≡ after place (take w.in-Found.len rest) = c.after-place.ensures.value ∙ ap (after place) (c.split_at.ensures.front ∙ ap (λ n. take n rest) w.len-is) in
            reached_on c.args.text.now place c.after-place.result rest c.split_at.result.1.now w.in-Found.len c.loop-tokens.invariant.reached at_place (c.split_at.ensures.back ∙ ap (λ n. drop n rest) w.len-is)
      ];
      line = omega (arith, c.loop-tokens.invariant.line, c.after-place.ensures.line, c.split_at.ensures.front_len, c.split_at.ensures.back_len, f.1);
      column = omega (arith, c.loop-tokens.invariant.column, c.after-place.ensures.column, c.split_at.ensures.front_len, c.split_at.ensures.back_len, f.1);
    }
