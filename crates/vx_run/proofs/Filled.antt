-- Values that are chosen for an instance, after its step.
use Rattle.std.proofs.Common.{◌≡◌, ◌≢◌, ℕ, zero, suc, ◌-◌, List, Option, Some, None, Result, Ok, Err, refl, sym, ◌∙◌, ap, arith}
use Rattle.vx_ast.specs.declared.Place.{Place}
use Rattle.vx_ast.specs.Syntax.{Predicate, predicate_named}
use Rattle.vx_frac.specs.Fractions.{Fraction}
use Rattle.vx_meaning.specs.States.{Holdings, Instance}
use Rattle.vx_run.specs.Draws.{by_draws}
use Rattle.vx_run.specs.Going.{Going, Outcome, Supply, Failed, Running, ◌>>=◌, continued, gives, expect, step}
use Rattle.vx_run.specs.Widths.{within_128_bits}
use Rattle.vx_run.specs.Given.{Filling, fill, fill_body}
use Rattle.vx_run.specs.Blame.{ended_within, counted}
use Rattle.vx_run.specs.Configs.{Setting, Config, newest_of, with_taking, with_takings, put_filling}
use Rattle.vx_run.specs.Frames.{Come}
use Rattle.vx_run.specs.Pending.{deeper_by}
use Rattle.vx_run.specs.Visits.{HasTaking, filling_body}
use Rattle.vx_run.specs.declared.blame.Blame.{Blame}
use Rattle.vx_run.specs.declared.context.Within.{Within}
use Rattle.vx_run.proofs.Levels.{still_running}

-- a step within something ends as it ends by itself
step_in : (b : Blame) (s n : ℕ) → ended_within b (step (record { source = s; steps = n })) ≡ step (record { source = s; steps = n })
step_in b s zero = ap (λ (o : Outcome). let r : Result (Unit {0} × Supply ℕ) Outcome = Err o in r) (still_running b)
step_in b s (suc n) = refl

module _ (t : Setting) (k : Within) (at : Place) (i : Instance) (q : Fraction) (g : Config → Going ℕ Config) where
  abbrev pub filling_it : ℕ → Config → Going ℕ Config
  filling_it n c =
      with_taking c (λ h d. put_filling k.blame d (fill t.program by_draws within_128_bits (deeper_by t k.level) n at i q (record { heap = d.state.heap; totals = h })))

  abbrev by_predicate : ℕ → Config → Holdings → Option Predicate → Going ℕ Filling
  by_predicate n c h o =
      expect o (Failed at) >>= λ b.
      fill_body t.program by_draws within_128_bits (deeper_by t k.level) (fill t.program by_draws within_128_bits (deeper_by t k.level) n at) q b i b.body
      (record { heap = c.state.heap; totals = h })

  abbrev after_step : ℕ → Config → Holdings → List Holdings → Option Predicate → Result (Unit {0} × Supply ℕ) Outcome → Supply ℕ → Come
  after_step n c h more o x l =
      let m : Going ℕ (Unit {0}) = λ j. x in
      (put_filling k.blame (with_takings more c) (m >>= λ _. by_predicate n c h o) >>= g) l

  -- these are the takings
  abbrev filled_at : ℕ → Config → Supply ℕ → List Holdings → Come
  filled_at n c l hs =
      (newest_of hs (λ h more. put_filling k.blame (with_takings more c) (fill t.program by_draws within_128_bits (deeper_by t k.level) n at i q (record { heap = c.state.heap; totals = h }))) >>= g) l

  abbrev body_at : ℕ → Predicate → Config → Supply ℕ → List Holdings → Come
  body_at n b c l hs =
      (newest_of hs (λ h more. put_filling k.blame (with_takings more c) (
      fill_body t.program by_draws within_128_bits (deeper_by t k.level) (fill t.program by_draws within_128_bits (deeper_by t k.level) n at) q b i b.body
      (record { heap = c.state.heap; totals = h }))) >>= g) l

  pub none_deeper : (n : ℕ) (c : Config) (l : Supply ℕ) → HasTaking c.takings → n ≡ 0 → Err Running ≡ (filling_it n c >>= g) l
  none_deeper n c l ht e =
      ap (λ (o : Outcome). let x : Come = Err o in x) (sym (still_running k.blame))
      ∙ ap (filled_at 0 c l) (sym ht.2)
      ∙ ap (λ (m : ℕ). filled_at m c l c.takings) (sym e)

  pub no_step : (n : ℕ) (c : Config) (l : Supply ℕ) (o : Outcome) → HasTaking c.takings → n ≢ 0 → Err o ≡ step l → Err o ≡ (filling_it n c >>= g) l
  no_step zero c l o ht h e = absurd (h refl)
  no_step (suc j) c l o ht h e =
      let told : Err o ≡ Err (counted k.blame o) = e ∙ sym (step_in k.blame l.source l.steps) ∙ ap (ended_within k.blame) (sym e) in
      ap (λ (x : Result (Unit {0} × Supply ℕ) Outcome). continued x (λ _. gives c)) told
      ∙ ap (λ (x : Result (Unit {0} × Supply ℕ) Outcome). after_step j c ht.0 ht.1 (predicate_named t.program i.predicate) x l) e
      ∙ ap (filled_at (suc j) c l) (sym ht.2)

  pub no_predicate : (n : ℕ) (c : Config) (l u : Supply ℕ) → HasTaking c.takings → n ≢ 0 → Ok (tt, u) ≡ step l → predicate_named t.program i.predicate ≡ None →
      Err (counted k.blame (Failed at)) ≡ (filling_it n c >>= g) l
  no_predicate zero c l u ht h e p = absurd (h refl)
  no_predicate (suc j) c l u ht h e p =
      ap (λ (o : Option Predicate). after_step j c ht.0 ht.1 o (Ok (tt, u)) l) (sym p)
      ∙ ap (λ (x : Result (Unit {0} × Supply ℕ) Outcome). after_step j c ht.0 ht.1 (predicate_named t.program i.predicate) x l) e
      ∙ ap (filled_at (suc j) c l) (sym ht.2)

  pub the_predicate : (n : ℕ) (c : Config) (l u : Supply ℕ) (b : Predicate) → HasTaking c.takings → n ≢ 0 → Ok (tt, u) ≡ step l → predicate_named t.program i.predicate ≡ Some b →
      (filling_body t k (n - 1) at b i q c >>= g) u ≡ (filling_it n c >>= g) l
  the_predicate zero c l u b ht h e p = absurd (h refl)
  the_predicate (suc j) c l u b ht h e p =
      let less : suc j - 1 ≡ j = omega arith in
      ap (λ (m : ℕ). body_at m b c u c.takings) less
      ∙ ap (body_at j b c u) ht.2
      ∙ ap (λ (o : Option Predicate). after_step j c ht.0 ht.1 o (Ok (tt, u)) l) (sym p)
      ∙ ap (λ (x : Result (Unit {0} × Supply ℕ) Outcome). after_step j c ht.0 ht.1 (predicate_named t.program i.predicate) x l) e
      ∙ ap (filled_at (suc j) c l) (sym ht.2)
