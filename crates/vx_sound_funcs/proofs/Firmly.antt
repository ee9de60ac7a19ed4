-- What can be taken can be taken firmly, if its parts fit firmly where they fit.
use Rattle.std.proofs.Common.{◌≡◌, ℕ, ◌+◌, ◌≤◌, true, false, List, ◌∙◌, arith}
use Rattle.std.specs.Prelude.{Ok}
use Rattle.vx_frac.specs.Fractions.{Fraction, none, at_most}
use Rattle.vx_ast.specs.Syntax.{Program, Expr, Exprs, Assertion, Pure, Points, Both, Implied, Chosen, place_of}
use Rattle.vx_ast.specs.Syntax as syntax
use Rattle.vx_meaning.specs.Values.{Value, IntValue, BoolValue, RefValue, PermValue, is_true}
use Rattle.vx_meaning.specs.States.{State, Holdings, At, Folded}
use Rattle.vx_meaning.specs.Fits.{Checked, ◌>>=◌, or_fail, guard, choose, location_of, amount_of, fit, fit_all, field_part, instance_part, take, take_part, deeper}
use Rattle.vx_sound_preds.proofs.Fitting.{undo}
use Rattle.vx_sound_preds.proofs.Framing.{failed}
use Rattle.vx_sound_funcs.specs.Firm.{firmly, FitsFirmly}
use Rattle.vx_sound_funcs.proofs.Fits.{next, fit_more, fit_all_more, take_more}
use Rattle.vx_sound_funcs.proofs.Grows.{deeper_upto, firm_upto}
use Rattle.vx_sound_funcs.specs.Laws.{EachPart, IsOnlyFirm, AreOnlyFirm, TakesFirmly}

self : (n : ℕ) → n ≤ n
self n = omega arith

left_fuel : (a b : ℕ) → a ≤ a + b
left_fuel a b = omega arith

right_fuel : (a b : ℕ) → b ≤ a + b
right_fuel a b = omega arith

module _ (p : Program) (s : State) (q : Fraction) (n : ℕ) where
  one_firm : (e : Expr) (v : Value) → IsOnlyFirm p s e → fit p (deeper p n) s e ≡ Ok v → FitsFirmly p s e v
  one_firm e v f eq = f v (n, λ m le. fit_more p (deeper p n) (deeper p m) (deeper_upto p n m le) s e v eq)

  all_firm : (es : Exprs) (vs : List Value) → AreOnlyFirm p s es → fit_all p (deeper p n) s es ≡ Ok vs → (m : ℕ) × (fit_all p (firmly p m) s es ≡ Ok vs)
  all_firm es vs f eq = f vs (n, λ m le. fit_all_more p (deeper p n) (deeper p m) (deeper_upto p n m le) s es vs eq)

  up : (k m : ℕ) → k ≤ m → (e : Expr) (v : Value) → fit p (firmly p k) s e ≡ Ok v → fit p (firmly p m) s e ≡ Ok v
  up k m le e v eq = fit_more p (firmly p k) (firmly p m) (firm_upto p k m le) s e v eq

  takes_up : (k m : ℕ) → k ≤ m → (a : Assertion) (hs rest : Holdings) → take p (firmly p k) s q a hs ≡ Ok rest → take p (firmly p m) s q a hs ≡ Ok rest
  takes_up k m le a hs rest eq = take_more p (firmly p k) (firmly p m) (firm_upto p k m le) s q a hs rest eq

  -- a condition, and the side that it picks
  side_firm : (c : Expr) (v : Value) (rest : Holdings) (x y : Checked Holdings) (z w : ℕ → Checked Holdings) → FitsFirmly p s c v →
      ((k m : ℕ) → k ≤ m → z k ≡ Ok rest → z m ≡ Ok rest) → ((k m : ℕ) → k ≤ m → w k ≡ Ok rest → w m ≡ Ok rest) → (x ≡ Ok rest → (k : ℕ) × (z k ≡ Ok rest)) → (y ≡ Ok rest → (k : ℕ) × (w k ≡ Ok rest)) →
      choose (place_of c) v x y ≡ Ok rest → (k : ℕ) × ((fit p (firmly p k) s c >>= λ v. choose (place_of c) v (z k) (w k)) ≡ Ok rest)
  side_firm c (BoolValue true) rest x y z w f zs ws left right e =
      let g = left e in
      let j = f.0 + g.0 in
      (j, next (λ v. choose (place_of c) v (z j) (w j)) (BoolValue true) (up f.0 j (left_fuel f.0 g.0) c (BoolValue true) f.1) ∙ zs g.0 j (right_fuel f.0 g.0) g.1)
  side_firm c (BoolValue false) rest x y z w f zs ws left right e =
      let g = right e in
      let j = f.0 + g.0 in
      (j, next (λ v. choose (place_of c) v (z j) (w j)) (BoolValue false) (up f.0 j (left_fuel f.0 g.0) c (BoolValue false) f.1) ∙ ws g.0 j (right_fuel f.0 g.0) g.1)
  side_firm c (IntValue i) rest x y z w f zs ws left right e = absurd (failed (place_of c) rest e)
  side_firm c (RefValue i) rest x y z w f zs ws left right e = absurd (failed (place_of c) rest e)
  side_firm c (PermValue i) rest x y z w f zs ws left right e = absurd (failed (place_of c) rest e)

  take_firm : (a : Assertion) (hs rest : Holdings) → EachPart (IsOnlyFirm p s) (AreOnlyFirm p s) a → take p (deeper p n) s q a hs ≡ Ok rest → (m : ℕ) × (take p (firmly p m) s q a hs ≡ Ok rest)
  take_firm (Pure e) hs rest parts eq =
      let on = λ (v : Value). guard (place_of e) (is_true v) >>= λ _. Ok hs in
      let x = undo (fit p (deeper p n) s e) on rest eq in
      let f = one_firm e x.it parts x.is in
      (f.0, next on x.it f.1 ∙ x.then)
  take_firm (Points at e f share) hs rest parts eq =
      let last = λ (r v : Value). or_fail at (location_of f r) >>= λ l. or_fail at (amount_of v) >>= λ q. guard at (at_most none q) >>= λ _. Ok (At l, q) in
      let x = undo (field_part p (deeper p n) s at e f share) (take_part p (deeper p n) s q at hs) rest eq in
      let y = undo (fit p (deeper p n) s e) (λ r. fit p (deeper p n) s share >>= last r) x.it x.is in
      let z = undo (fit p (deeper p n) s share) (last y.it) x.it y.then in
      let a = one_firm e y.it parts.0 y.is in
      let b = one_firm share z.it parts.1 z.is in
      let m = a.0 + b.0 in
      let part : field_part p (firmly p m) s at e f share ≡ Ok x.it = next (λ r. fit p (firmly p m) s share >>= last r) y.it (up a.0 m (left_fuel a.0 b.0) e y.it a.1) ∙ next (last y.it) z.it (up b.0 m (right_fuel a.0 b.0) share z.it b.1) ∙ z.then in
      (m, next (take_part p (firmly p m) s q at hs) x.it part ∙ x.then)
  take_firm (syntax.Instance at i es share) hs rest parts eq =
      let last = λ (ws : List Value) (v : Value). or_fail at (amount_of v) >>= λ q. guard at (at_most none q) >>= λ _. Ok (Folded record { predicate = i; arguments = ws }, q) in
      let x = undo (instance_part p (deeper p n) s at i es share) (take_part p (deeper p n) s q at hs) rest eq in
      let y = undo (fit_all p (deeper p n) s es) (λ ws. fit p (deeper p n) s share >>= last ws) x.it x.is in
      let z = undo (fit p (deeper p n) s share) (last y.it) x.it y.then in
      let a = all_firm es y.it parts.0 y.is in
      let b = one_firm share z.it parts.1 z.is in
      let m = a.0 + b.0 in
      let part : instance_part p (firmly p m) s at i es share ≡ Ok x.it = next (λ ws. fit p (firmly p m) s share >>= last ws) y.it (fit_all_more p (firmly p a.0) (firmly p m) (firm_upto p a.0 m (left_fuel a.0 b.0)) s es y.it a.1) ∙ next (last y.it) z.it (up b.0 m (right_fuel a.0 b.0) share z.it b.1) ∙ z.then in
      (m, next (take_part p (firmly p m) s q at hs) x.it part ∙ x.then)
  take_firm (Both a b) hs rest parts eq =
      let x = undo (take p (deeper p n) s q a hs) (λ r. take p (deeper p n) s q b r) rest eq in
      let one = take_firm a hs x.it parts.0 x.is in
      let two = take_firm b x.it rest parts.1 x.then in
      let j = one.0 + two.0 in
      (j, next (λ r. take p (firmly p j) s q b r) x.it (takes_up one.0 j (left_fuel one.0 two.0) a hs x.it one.1) ∙ takes_up two.0 j (right_fuel one.0 two.0) b x.it rest two.1)
  take_firm (Implied c a) hs rest parts eq =
      let x = undo (fit p (deeper p n) s c) (λ v. choose (place_of c) v (take p (deeper p n) s q a hs) (Ok hs)) rest eq in
      side_firm c x.it rest (take p (deeper p n) s q a hs) (Ok hs) (λ k. take p (firmly p k) s q a hs) (λ k. Ok hs) (one_firm c x.it parts.0 x.is) (λ k m le e. takes_up k m le a hs rest e) (λ k m le e. e) (take_firm a hs rest parts.1) (λ e. (0, e)) x.then
  take_firm (Chosen c a b) hs rest parts eq =
      let x = undo (fit p (deeper p n) s c) (λ v. choose (place_of c) v (take p (deeper p n) s q a hs) (take p (deeper p n) s q b hs)) rest eq in
      side_firm c x.it rest (take p (deeper p n) s q a hs) (take p (deeper p n) s q b hs) (λ k. take p (firmly p k) s q a hs) (λ k. take p (firmly p k) s q b hs) (one_firm c x.it parts.0 x.is)
      (λ k m le e. takes_up k m le a hs rest e) (λ k m le e. takes_up k m le b hs rest e) (take_firm a hs rest parts.1) (take_firm b hs rest parts.2) x.then

pub takes_firmly : (p : Program) → TakesFirmly p
takes_firmly p a s q rest parts takes = take_firm p s q takes.0 a s.holdings rest parts (takes.1 takes.0 (self takes.0))
