-- A write backwards: the location's value before it is put in front of the heap that is wanted behind.
use Rattle.std.proofs.Common.{◌≡◌, ◌⊎◌, inl, inr, ℕ, Bool, true, false, ◌∷◌, refl, sym, ◌∙◌, ap, subst, le_trans}
use Rattle.std.specs.Prelude.{Ok, Err}
use Rattle.vx_frac.specs.Fractions.{full, at_most}
use Rattle.vx_ast.specs.declared.Place.{Place}
use Rattle.vx_ast.specs.declared.ValueType.TheVariants as type
use Rattle.vx_ast.specs.Syntax.{Name, Program, Expr, Write}
use Rattle.vx_meaning.specs.Values.{Value, RefValue, type_of}
use Rattle.vx_meaning.specs.States as run
use Rattle.vx_meaning.specs.Fits.{Checked, ◌>>=◌, guard, Eventually, Fits, fit_by}
use Rattle.vx_meaning.specs.Outcomes.{Outcomes, ends}
use Rattle.vx_meaning.specs.Run as meaning
use Rattle.vx_terms.specs.Terms.{Term}
use Rattle.vx_terms.specs.Interpretations.{Interpretation}
use Rattle.vx_rules.specs.States.{sort_of_type}
use Rattle.vx_rules.specs.Trees.{Code, Step}
use Rattle.vx_rules.specs.Rules.{Giving, Outer, field_sort, eval, write_field}
use Rattle.vx_types.specs.FieldLanguage.{InFields}
use Rattle.vx_elements.proofs.Settled.{Meaning, extends-refl}
use Rattle.vx_elements.proofs.Built.{Good, good_later}
use Rattle.vx_elements.proofs.Elements.{element}
use Rattle.vx_elements.proofs.Eventually.{eventually, both_eventually}
use Rattle.vx_elements.proofs.Values.{ref_value_is, sort_of_field, field_type_is, value_typed}
use Rattle.vx_amounts.proofs.Amounts.{Le, Positive, full-positive, positive-le}
use Rattle.vx_grows.proofs.GrowSteps.{FollowsWith, write_grows}
use Rattle.vx_grows.proofs.GrowParts.{OuterGrows}
use Rattle.vx_grows.proofs.GrowAssertions.{eval_grows}
use Rattle.vx_sound.proofs.World.{at_field}
use Rattle.vx_sound.proofs.Chunks.{location_is}
use Rattle.vx_sound.proofs.Puts.{read_written, read_elsewhere}
use Rattle.vx_sound.proofs.Evaluate.{bind_ok}
use Rattle.vx_real.proofs.Backwards.{AgreeOn, ReadAlike, over, FailsFrom, Leads}
use Rattle.vx_real.proofs.Matched.{HasReferences, Misfits, Evaluates, Reaches, ExecReal}
use Rattle.vx_real.proofs.Expressions.{eval_real}
use Rattle.vx_real.proofs.Written.{WrittenAt, write_real as location_written}
use Rattle.vx_real.proofs.Checks.{Always, refused_fails, passing_leads}
use Rattle.vx_real.proofs.Plain.{own_place, bind_err, fits_always, misfits_always}

module _ (p : Program) (place : Place) (e : Expr) (f : Name) (e' : Expr) where
  -- what a write checks
  abbrev owned_value : run.State → Value → Value → Checked (run.Location × Value)
  owned_value c r v = meaning.owned c place f r >>= λ l. Ok (l, v)

  abbrev pub write_check : run.State → ℕ → Checked (run.Location × Value)
  write_check c n = fit_by p n c e >>= λ r. fit_by p n c e' >>= λ v. owned_value c r v

  abbrev pub writes : run.State → run.Location × Value → Outcomes
  writes c (l, v) = ends (run.with_heap ((l, v) ∷ c.heap) c)

  owned_is : (c : run.State) (n : ℕ) (k : ℕ) (v : Value) (b : Bool) → at_most full (run.amount c.holdings (run.At (at_field k f))) ≡ b → fit_by p n c e ≡ Ok (RefValue k) → fit_by p n c e' ≡ Ok v →
      write_check c n ≡ ((guard place b >>= λ _. Ok (at_field k f)) >>= λ l. Ok (l, v))
  owned_is c n k v b whole g h = bind_ok (λ r. fit_by p n c e' >>= λ v. owned_value c r v) (RefValue k) g ∙ bind_ok (λ v. owned_value c (RefValue k) v) v h ∙ ap tested whole
    where
      tested : Bool → Checked (run.Location × Value)
      tested b = (guard place b >>= λ _. Ok (at_field k f)) >>= λ l. Ok (l, v)

  pub write_fits : (c : run.State) (k : ℕ) (v : Value) → Fits p c e (RefValue k) → Fits p c e' v → Le full (run.amount c.holdings (run.At (at_field k f))) → Eventually (λ n. write_check c n ≡ Ok (at_field k f, v))
  write_fits c k v g h enough = both_eventually g h (λ n x y. owned_is c n k v true enough.holds x y)

  pub write_not_owned : (c : run.State) (k : ℕ) (v : Value) → Fits p c e (RefValue k) → Fits p c e' v → (Le full (run.amount c.holdings (run.At (at_field k f))) → ⊥) → Eventually (λ n. write_check c n ≡ Err place)
  write_not_owned c k v g h less = both_eventually g h (λ n x y. owned_is c n k v false (no (at_most full (run.amount c.holdings (run.At (at_field k f)))) refl) x y)
    where
      no : (b : Bool) → at_most full (run.amount c.holdings (run.At (at_field k f))) ≡ b → at_most full (run.amount c.holdings (run.At (at_field k f))) ≡ false
      no true e = absurd (less record { holds = e })
      no false e = e

  -- to each heap that agrees behind it
  pub writes_lead : (c : run.State) (l : run.Location) (v : Value) → type_of v ≡ run.field_type p l.field → Positive (run.amount c.holdings (run.At l)) → Leads p (λ s. writes s (l, v)) c (run.with_heap ((l, v) ∷ c.heap) c)
  writes_lead c l v typed pos h agrees = record { heap = front; agrees = in_front; runs = λ g o alike old. ((l, v) ∷ g, behind g alike, refl) }
    where
      front : run.Heap
      front = (l, run.value_at p c.heap l) ∷ h

      in_front : AgreeOn p c.holdings ((l, run.value_at p c.heap l) ∷ h) c.heap
      in_front m held = go (run.same_location m l) refl
        where
          go : (b : Bool) → run.same_location m l ≡ b → run.value_at p ((l, run.value_at p c.heap l) ∷ h) m ≡ run.value_at p c.heap m
          go true e = subst (λ x. run.value_at p ((l, run.value_at p c.heap l) ∷ h) x ≡ run.value_at p c.heap x) (sym (location_is m l e)) (read_written p l (run.value_at p c.heap l) h (value_typed p c.heap l))
          go false e = read_elsewhere p l m (run.value_at p c.heap l) h e ∙ agrees m held ∙ read_elsewhere p l m v c.heap e

      behind : (g : run.Heap) → ReadAlike p g ((l, run.value_at p c.heap l) ∷ h) → ReadAlike p ((l, v) ∷ g) h
      behind g alike m = go (run.same_location m l) refl
        where
          go : (b : Bool) → run.same_location m l ≡ b → run.value_at p ((l, v) ∷ g) m ≡ run.value_at p h m
          go true e = subst (λ x. run.value_at p ((l, v) ∷ g) x ≡ run.value_at p h x) (sym (location_is m l e)) (read_written p l v g typed ∙ sym (agrees l pos ∙ read_written p l v c.heap typed))
          go false e = read_elsewhere p l m v g e ∙ alike m ∙ read_elsewhere p l m (run.value_at p c.heap l) h e

module _ (means : Meaning) (p : Program) (i : Interpretation) (references : HasReferences i) (at : Place) (code : Code) (o : Outer) (below : OuterGrows o) where
  pub write_real : (place : Place) (e : Expr) (f : Name) (e' : Expr) → InFields e → InFields e' → ExecReal means p i at code o (Write place e f e')
  write_real place e f e' j j' scope k once s c on none m h exposed = on_first (eval_real means p i at code o below e scope type.Ref k.2 j s c (λ r s1. Step (eval p o e' s1 (second r))) m second_grows exposed)
    where
      second : Term → Giving
      second r t s2 = write_field f r t place s2 on

      second_grows : FollowsWith (λ r s1. Step (eval p o e' s1 (second r)))
      second_grows r s1 = eval_grows p o below e' s1 (second r) (λ t s2. write_grows s2 f r t place on h)

      Result : Type 0
      Result = FailsFrom p (meaning.run p (Write place e f e')) c at ⊎ ((y : run.Store) × Reaches means p i at code scope (meaning.run p (Write place e f e')) s c y on)

      failing : Always p c (λ z. Eventually (λ n. write_check p place e f e' z n ≡ Err at)) → FailsFrom p (meaning.run p (Write place e f e')) c at
      failing always = refused_fails p (write_check p place e f e') (writes p place e f e') c at always

      on_first : Misfits means p i at code s c e ⊎ Evaluates means p i at code scope s c (λ r s1. Step (eval p o e' s1 (second r))) e type.Ref → FailsFrom p (meaning.run p (Write place e f e')) c at ⊎ ((y : run.Store) × Reaches means p i at code scope (meaning.run p (Write place e f e')) s c y on)
      on_first (inl (x, is, misfit)) = inl (failing (λ g o' a b.
          eventually (misfits_always p c e j misfit g o' a b) (λ n u. bind_err (λ r. fit_by p n (over g o' c) e' >>= λ v. owned_value p place e f e' (over g o' c) r v) x u ∙ ap Err (own_place s x none is))))
      on_first (inr r) = on_second (eval_real means p i at code o below e' scope k.0 k.3 j' r.state c (second r.term) r.matches (λ t s2. write_grows s2 f r.term t place on h) r.exposed)
        where
          reference : (n : ℕ) × (r.result ≡ RefValue n)
          reference = ref_value_is r.result r.typed

          fits_first : Fits p c e (RefValue reference.0)
          fits_first = subst (Fits p c e) reference.1 r.fits

          on_second : Misfits means p i at code r.state c e' ⊎ Evaluates means p i at code scope r.state c (second r.term) e' k.0 → FailsFrom p (meaning.run p (Write place e f e')) c at ⊎ ((y : run.Store) × Reaches means p i at code scope (meaning.run p (Write place e f e')) s c y on)
          on_second (inl (x, is, misfit)) = inl (failing (λ g o' a b.
              both_eventually (fits_always p c e j fits_first g o' a b) (misfits_always p c e' j' misfit g o' a b) (λ n y u.
              bind_ok (λ r. fit_by p n (over g o' c) e' >>= λ v. owned_value p place e f e' (over g o' c) r v) (RefValue reference.0) y
              ∙ bind_err (λ v. owned_value p place e f e' (over g o' c) (RefValue reference.0) v) x u ∙ ap Err (own_place r.state x (r.at_is ∙ none) is))))
          on_second (inr q) = on_write (location_written means p i at code scope q.state c q.matches f r.term reference.0 (good_later means q.later (extends-refl means r.state.next i) r.good) (r.value_is ∙ ap element reference.1)
              q.term q.result (subst (λ z. Good means q.state.next i q.term z) sort_is q.good) q.value_is typed on h place q.exposed)
            where
              sort_is : sort_of_type k.0 ≡ field_sort p f
              sort_is = sym (sort_of_field p f ∙ ap sort_of_type (field_type_is p f k.1))

              typed : type_of q.result ≡ run.field_type p f
              typed = q.typed ∙ sym (field_type_is p f k.1)

              on_write : ((place ≡ at) × (Le full (run.amount c.holdings (run.At (at_field reference.0 f))) → ⊥)) ⊎ WrittenAt means p i at code scope f reference.0 q.result q.state c on →
                  FailsFrom p (meaning.run p (Write place e f e')) c at ⊎ ((y : run.Store) × Reaches means p i at code scope (meaning.run p (Write place e f e')) s c y on)
              on_write (inl (is, less)) = inl (failing (λ g o' a b.
                  subst (λ x. Eventually (λ n. write_check p place e f e' (over g o' c) n ≡ Err x)) is
                  (write_not_owned p place e f e' (over g o' c) reference.0 q.result (fits_always p c e j fits_first g o' a b) (fits_always p c e' j' q.fits g o' a b) less)))
              on_write (inr w) =
                  let l = at_field reference.0 f in
                  let d = run.with_heap ((l, q.result) ∷ c.heap) c in
                  inr (
                    c.store,
                    record {
                      state = w.state;
                      heap = (l, q.result) ∷ c.heap;
                      holdings = c.holdings;
                      later = le_trans (le_trans r.later q.later) w.later;
                      at_is = w.at_is ∙ q.at_is ∙ r.at_is;
                      matches = w.matches;
                      leads = passing_leads p (write_check p place e f e') (writes p place e f e') c d (l, q.result)
                          (λ g o' a b. write_fits p place e f e' (over g o' c) reference.0 q.result (fits_always p c e j fits_first g o' a b) (fits_always p c e' j' q.fits g o' a b) w.enough)
                          (writes_lead p place e f e' c l q.result typed (positive-le full-positive w.enough));
                      exposed = w.exposed;
                    },
                  )
