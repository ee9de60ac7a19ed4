-- Statements without parts, backwards: declaring, assigning, writing, inhaling, exhaling, assuming and asserting.
use Rattle.std.proofs.Common.{◌≡◌, ◌⊎◌, inl, inr, [], ◌∷◌, ◌++◌, Some, None, refl, ◌∙◌, ap, subst, le_trans}
use Rattle.std.specs.Prelude.{Ok, Err}
use Rattle.vx_frac.specs.Fractions.{Fraction, full}
use Rattle.vx_ast.specs.declared.Place.{Place}
use Rattle.vx_ast.specs.declared.ValueType.{ValueType}
use Rattle.vx_ast.specs.Syntax.{Name, Program, Expr, Assertion, Pure, Declare, Assign, Inhale, Exhale, Assert, Assume}
use Rattle.vx_meaning.specs.Values.{Value}
use Rattle.vx_meaning.specs.States as run
use Rattle.vx_meaning.specs.Fits.{Checked, ◌>>=◌, Eventually, Fits, FailsToFit, fit_by, take_by}
use Rattle.vx_meaning.specs.Consistent.{IsConsistent}
use Rattle.vx_meaning.specs.Outcomes.{Outcomes, ends, checked}
use Rattle.vx_meaning.specs.Give.{give}
use Rattle.vx_meaning.specs.Run as meaning
use Rattle.vx_terms.specs.Build.{whole_amount}
use Rattle.vx_terms.specs.Interpretations.{Interpretation}
use Rattle.vx_rules.specs.States as rules
use Rattle.vx_rules.specs.States.{sort_of_type}
use Rattle.vx_rules.specs.Trees.{Code, AssertCode, PermissionCode, Step}
use Rattle.vx_rules.specs.Rules.{Giving, Outer, placed}
use Rattle.vx_rules.specs.Members.{codes}
use Rattle.vx_types.specs.FieldLanguage.{InFields, IsOfFields}
use Rattle.vx_elements.proofs.Settled.{Meaning, extends-refl}
use Rattle.vx_elements.proofs.Eventually.{eventually}
use Rattle.vx_grows.proofs.Bases.{sooner}
use Rattle.vx_grows.proofs.Later.{name_later}
use Rattle.vx_grows.proofs.GrowSteps.{FollowsWith}
use Rattle.vx_grows.proofs.GrowParts.{OuterGrows}
use Rattle.vx_sound.proofs.Fields.{fields_world}
use Rattle.vx_sound.proofs.Stands.{store_assign, heap_later}
use Rattle.vx_sound.proofs.Giving.{whole_scale}
use Rattle.vx_sound.proofs.Assertions.{stands_at}
use Rattle.vx_real.proofs.Backwards.{FailsFrom, keeping_leads}
use Rattle.vx_real.proofs.Matched.{HasReferences, Misfits, Evaluates, Mistakes, Takes, Reaches, ExecReal}
use Rattle.vx_real.proofs.Grown.{keeps}
use Rattle.vx_real.proofs.HeldAlone.{fit_over, take_over}
use Rattle.vx_real.proofs.Expressions.{eval_real}
use Rattle.vx_real.proofs.TakesAssertions.{take_shown}
use Rattle.vx_real.proofs.GivesAssertions.{give_shown}
use Rattle.vx_real.proofs.Checks.{Always, refused_fails, passing_leads}
use Rattle.vx_real.proofs.Restored.{before}
use Rattle.vx_real.proofs.Symbols.{next_later, declared, symbol, matches_store, named}

-- where no part of another member is around it, a place is its own
pub own_place : (s : rules.State) (x : Place) {at : Place} → s.at ≡ None → placed s x ≡ at → x ≡ at
own_place s x {at = at} none e = subst (λ o. (elim o as (λ o. Place) [ Some outer ↦ outer | None ↦ x ]) ≡ at) none e

pub bind_err : {A B : Type 0} (f : A → Checked B) {x : Checked A} (at : Place) → x ≡ Err at → (x >>= f) ≡ Err at
bind_err f at e = ap (λ y. y >>= f) e

module _ (p : Program) (c : run.State) where
  -- what fits, or doesn't, does so over each heap that agrees
  pub fits_always : (e : Expr) {v : Value} → InFields e → Fits p c e v → Always p c (λ s. Fits p s e v)
  fits_always e j f g o a b = eventually f (λ n u. fit_over p c g o a b n e j ∙ u)

  pub misfits_always : (e : Expr) {x : Place} → InFields e → FailsToFit p c e x → Always p c (λ s. FailsToFit p s e x)
  misfits_always e j f g o a b = eventually f (λ n u. fit_over p c g o a b n e j ∙ u)

  pub takes_always : (a : Assertion) (q : Fraction) (rest : run.Holdings) {left : run.Holdings} → IsOfFields a → Eventually (λ n. take_by p n c q a rest ≡ Ok left) → Always p c (λ s. Eventually (λ n. take_by p n s q a rest ≡ Ok left))
  takes_always a q rest j f g o x y = eventually f (λ n u. take_over p c g o x y n q a rest j ∙ u)

  pub mistakes_always : (a : Assertion) (q : Fraction) (rest : run.Holdings) {x : Place} → IsOfFields a → Eventually (λ n. take_by p n c q a rest ≡ Err x) → Always p c (λ s. Eventually (λ n. take_by p n s q a rest ≡ Err x))
  mistakes_always a q rest j f g o x y = eventually f (λ n u. take_over p c g o x y n q a rest j ∙ u)

module _ (means : Meaning) (p : Program) (i : Interpretation) (references : HasReferences i) (at : Place) (code : Code) (o : Outer) (below : OuterGrows o) where
  pub misfit_fails : (s : rules.State) {c : run.State} (e : Expr) (rest : run.State → Value → Outcomes) → s.at ≡ None → InFields e → Misfits means p i at code s c e → FailsFrom p (λ z. checked (λ n. fit_by p n z e) (rest z)) c at
  misfit_fails s {c = c} e rest none j (x, is, f) =
      refused_fails p (λ z n. fit_by p n z e) rest c at (subst (λ y. Always p c (λ z. FailsToFit p z e y)) (own_place s x none is) (misfits_always p c e j f))

  pub mistake_fails : (s : rules.State) {c : run.State} (a : Assertion) (rest : run.State → run.Holdings → Outcomes) → s.at ≡ None → IsOfFields a → Mistakes means p i at code s c a full c.holdings →
      FailsFrom p (λ z. checked (λ n. take_by p n z full a z.holdings) (rest z)) c at
  mistake_fails s {c = c} a rest none j (x, is, f) =
      refused_fails p (λ z n. take_by p n z full a z.holdings) rest c at (subst (λ y. Always p c (λ z. Eventually (λ n. take_by p n z full a c.holdings ≡ Err y))) (own_place s x none is) (mistakes_always p c a full c.holdings j f))

  pub declare_real : (place : Place) (x : Name) (t : ValueType) → ExecReal means p i at code o (Declare place x t)
  declare_real place x t scope k once s c on none m h e =
      let v = symbol means p i references s.next t in
      inr (
        c.store ++ (x, v.content) ∷ [],
        record {
          state = rules.declare_fresh x (sort_of_type t) s;
          heap = c.heap;
          holdings = c.holdings;
          later = next_later means p i references s.next;
          at_is = refl;
          matches = declared means p i references x t m;
          leads = keeping_leads p (meaning.run p (Declare place x t)) c (run.declare x v.content c) (λ g a. a) (λ g o a b. (v.content, (v.typed, refl)));
          exposed = e;
        },
      )

  pub assign_real : (place : Place) (x : Name) (e : Expr) → InFields e → ExecReal means p i at code o (Assign place x e)
  assign_real place x e j scope k once s c on none m h exposed = go (eval_real means p i at code o below e scope k.0 k.2 j s c after m follows exposed)
    where
      after : Giving
      after t s1 = let s2 = rules.after_name t s1 in Step (on (rules.with_store (rules.assign x (rules.name_of t s1) s2.store) s2))

      follows : FollowsWith after
      follows t s1 =
          let s2 = rules.after_name t s1 in
          let s3 = rules.with_store (rules.assign x (rules.name_of t s1) s2.store) s2 in
          sooner (on s3) (name_later t s1).begins (h s3)

      go : Misfits means p i at code s c e ⊎ Evaluates means p i at code scope s c after e k.0 → FailsFrom p (meaning.run p (Assign place x e)) c at ⊎ ((y : run.Store) × Reaches means p i at code scope (meaning.run p (Assign place x e)) s c y on)
      go (inl f) = inl (misfit_fails s e (λ z v. ends (run.with_store (run.assign x v z.store) z)) none j f)
      go (inr r) =
          let s2 = rules.after_name r.term r.state in
          let s3 = rules.with_store (rules.assign x (rules.name_of r.term r.state) s2.store) s2 in
          let n = named means p i references r.term (sort_of_type k.0) r.matches r.good (keeps i at code on h s3 r.exposed) in
          let d = run.with_store (run.assign x r.result c.store) c in
          inr (
            run.assign x r.result c.store,
            record {
              state = s3;
              heap = c.heap;
              holdings = c.holdings;
              later = le_trans r.later n.later;
              at_is = n.at_is ∙ r.at_is;
              matches = matches_store means p i references scope _ _ n.matches
                  (store_assign means (fields_world p) x k.0 (rules.name_of r.term r.state) r.result scope _ _ n.matches.stands.store k.1 r.typed n.good (n.value_is ∙ r.value_is));
              leads = passing_leads p (λ z n. fit_by p n z e) (λ z v. ends (run.with_store (run.assign x v z.store) z)) c d r.result (fits_always p c e j r.fits)
                  (keeping_leads p (λ z. ends (run.with_store (run.assign x r.result z.store) z)) c d (λ g a. a) (λ g o a b. refl));
              exposed = r.exposed;
            },
          )

  -- Inhaling, assuming, exhaling and asserting

  pub inhale_real : (place : Place) (a : Assertion) → IsOfFields a → ExecReal means p i at code o (Inhale place a)
  inhale_real place a j scope k once s c on none m h e = go (give_shown means p i at code o below references a scope full k j s c whole_amount on (whole_scale means (fields_world p) s.next i) m h e)
    where
      go : ((x : Place) × (placed s x ≡ at) × FailsFrom p (give p (IsConsistent p) full a) c x) ⊎ Reaches means p i at code scope (give p (IsConsistent p) full a) s c c.store on →
          FailsFrom p (meaning.run p (Inhale place a)) c at ⊎ ((y : run.Store) × Reaches means p i at code scope (meaning.run p (Inhale place a)) s c y on)
      go (inl (x, is, f)) = inl (subst (FailsFrom p (give p (IsConsistent p) full a) c) (own_place s x none is) f)
      go (inr r) = inr (c.store, record { state = r.state; heap = r.heap; holdings = r.holdings; later = r.later; at_is = r.at_is; matches = r.matches; leads = r.leads; exposed = r.exposed })

  pub assume_real : (place : Place) (e : Expr) → InFields e → ExecReal means p i at code o (Assume place e)
  assume_real place e j = inhale_real place (Pure e) j

  pub exhale_real : (place : Place) (a : Assertion) → IsOfFields a → ExecReal means p i at code o (Exhale place a)
  exhale_real place a j scope k once s c on none m h e =
      go (take_shown means p i at code o below a scope full k j s c c.holdings (codes AssertCode PermissionCode) whole_amount s.heap after refl (whole_scale means (fields_world p) s.next i) m m (λ t s1. h s1) e)
    where
      after : Giving
      after t s1 = Step (on s1)

      rest : run.State → run.Holdings → Outcomes
      rest z left = meaning.after_change p (run.with_holdings left z) ends

      go : Mistakes means p i at code s c a full c.holdings ⊎ Takes means p i at code scope s c c.holdings after a full → FailsFrom p (meaning.run p (Exhale place a)) c at ⊎ ((y : run.Store) × Reaches means p i at code scope (meaning.run p (Exhale place a)) s c y on)
      go (inl f) = inl (mistake_fails s a rest none j f)
      go (inr r) =
          let d = run.with_holdings r.left c in
          inr (
            c.store,
            record {
              state = r.state;
              heap = c.heap;
              holdings = r.left;
              later = r.later;
              at_is = r.at_is;
              matches = r.matches;
              leads = passing_leads p (λ z n. take_by p n z full a z.holdings) rest c d r.left (takes_always p c a full c.holdings j r.takes)
                  (λ f agrees. let b = before p c r.left f r.matches.stands.holds.only agrees in record { heap = b.front; agrees = b.agrees; runs = λ g o alike old. (f, (λ l. refl), (f, (b.changes g o alike, refl))) });
              exposed = r.exposed;
            },
          )

  pub assert_real : (place : Place) (a : Assertion) → IsOfFields a → ExecReal means p i at code o (Assert place a)
  assert_real place a j scope k once s c on none m h e =
      go (take_shown means p i at code o below a scope full k j s c c.holdings (codes AssertCode PermissionCode) whole_amount s.heap after refl (whole_scale means (fields_world p) s.next i) m m (λ t s1. h (rules.with_heap s.heap s1)) e)
    where
      after : Giving
      after t s1 = Step (on (rules.with_heap s.heap s1))

      go : Mistakes means p i at code s c a full c.holdings ⊎ Takes means p i at code scope s c c.holdings after a full → FailsFrom p (meaning.run p (Assert place a)) c at ⊎ ((y : run.Store) × Reaches means p i at code scope (meaning.run p (Assert place a)) s c y on)
      go (inl f) = inl (mistake_fails s a (λ z left. ends z) none j f)
      go (inr r) = inr (
        c.store,
        record {
          state = rules.with_heap s.heap r.state;
          heap = c.heap;
          holdings = c.holdings;
          later = r.later;
          at_is = r.at_is;
          matches = record {
            stands = stands_at means (fields_world p) c s.heap r.matches.stands (heap_later means (fields_world p) r.later (extends-refl means s.next i) s.heap c.heap c.holdings m.stands.heap) m.stands.holds;
            exact = m.exact;
            old_exact = r.matches.old_exact;
          };
          leads = passing_leads p (λ z n. take_by p n z full a z.holdings) (λ z left. ends z) c c r.left (takes_always p c a full c.holdings j r.takes) (keeping_leads p ends c c (λ g a. a) (λ g o a b. refl));
          exposed = r.exposed;
        },
      )
