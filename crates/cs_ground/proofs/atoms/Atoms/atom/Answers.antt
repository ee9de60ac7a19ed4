use Rattle.std.proofs.Common.{◌≡◌, slice_get, Some, None, ap, ◌∙◌}
use Rattle.std.proofs.lemmas.Option.{same_Some}
use Rattle.cs_ground.proofs.atoms.Atoms.atom.Goals as goal

pub returns-in-None-clause-found : goal.returns-in-None-clause-found
returns-in-None-clause-found c = λ all are b.
    let w = are.placed c.args.of.number b in
    let e : slice_get c.deref.result.now c.args.of.number ≡ Some w.0 = ap (λ xs. slice_get xs c.args.of.number) c.deref.ensures.value ∙ w.1 in
    let l : None ≡ slice_get c.deref.result.now c.args.of.number = c.in-None.ensures in
    cc

pub returns-in-None-at-clause-found : goal.returns-in-None-at-clause-found
returns-in-None-at-clause-found c = λ all are b.
    let w = are.placed c.args.of.number b in
    let e : slice_get c.deref.result.now c.args.of.number ≡ Some w.0 = ap (λ xs. slice_get xs c.args.of.number) c.deref.ensures.value ∙ w.1 in
    let same : c.in-Some.atom ≡ w.0 = same_Some _ _ (c.in-Some.ensures ∙ e) in
    let f : slice_get c.deref-in-Some.result.now c.in-Some.atom ≡ Some c.args.of.number = ap (λ xs. slice_get xs c.in-Some.atom) c.deref-in-Some.ensures.value ∙ ap (slice_get _) same ∙ w.2 in
    let l : None ≡ slice_get c.deref-in-Some.result.now c.in-Some.atom = c.in-None-at.ensures in
    cc

pub returns-then-number-of-clause-found : goal.returns-then-number-of-clause-found
returns-then-number-of-clause-found c = λ all are b.
    let w = are.placed c.args.of.number b in
    let e : slice_get c.deref.result.now c.args.of.number ≡ Some w.0 = ap (λ xs. slice_get xs c.args.of.number) c.deref.ensures.value ∙ w.1 in
    let same : c.in-Some.atom ≡ w.0 = same_Some _ _ (c.in-Some.ensures ∙ e) in
    let f : slice_get c.deref-in-Some.result.now c.in-Some.atom ≡ Some c.args.of.number = ap (λ xs. slice_get xs c.in-Some.atom) c.deref-in-Some.ensures.value ∙ ap (slice_get _) same ∙ w.2 in
    absurd (c.if-number-of.true (same_Some _ _ (c.in-Some-at.ensures ∙ f)))
