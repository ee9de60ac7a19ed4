-- What is a lane's, of lists of all lanes.
use Rattle.std.proofs.Common.{◌≡◌, ◌==◌, ℕ, ◌+◌, ◌<◌, ◌%◌, Bool, true, false, ◌++◌, ◌∷◌, [], List, length, refl, ap, ◌∙◌, sym, subst, inl, inr, arith, if◌then◌else◌}
use Rattle.std.proofs.lemmas.Grind.{common_steps}
use Rattle.std.proofs.lemmas.Nat.{mod_below}
use Rattle.vx_terms.specs.Interpretations.{Each}
use Rattle.vx_ends.specs.declared.piece.Ending.{Ending}
use Rattle.vx_report.specs.declared.run.MemberRun.{MemberRun}
use Rattle.vx_resting.specs.Resting.{AreLater}
use Rattle.vx_verifier.specs.Dealt.{IsDealt, runs_in, links_in}
use Rattle.vx_verifier.specs.Sequences.{IsIn}

pub same_self : (n : ℕ) → (n == n) ≡ true
same_self n = grind (arith, common_steps)

pub same_is : (m n : ℕ) → (m == n) ≡ true → m ≡ n
same_is m n e = grind (arith, common_steps)

pub not_same : (m n : ℕ) → (m ≡ n → ⊥) → (m == n) ≡ false
not_same m n apart = grind (arith, common_steps)

-- ---- runs

-- the first run is the lane's, or not
run_here : (lane : ℕ) (r : MemberRun) (runs : List MemberRun) → (r.lane == lane) ≡ true → runs_in lane (r ∷ runs) ≡ r ∷ runs_in lane runs
run_here lane r runs is = ap (λ b. if b then r ∷ runs_in lane runs else runs_in lane runs) is

run_elsewhere : (lane : ℕ) (r : MemberRun) (runs : List MemberRun) → (r.lane == lane) ≡ false → runs_in lane (r ∷ runs) ≡ runs_in lane runs
run_elsewhere lane r runs is = ap (λ b. if b then r ∷ runs_in lane runs else runs_in lane runs) is

pub own_run : (lane : ℕ) (runs : List MemberRun) (r : MemberRun) → r.lane ≡ lane → runs_in lane (runs ++ r ∷ []) ≡ runs_in lane runs ++ r ∷ []
own_run lane [] r is = run_here lane r [] (ap (λ n. n == lane) is ∙ same_self lane)
own_run lane (s ∷ runs) r is = by_test (own_run lane runs r is) (s.lane == lane) refl
  where
    by_test : runs_in lane (runs ++ r ∷ []) ≡ runs_in lane runs ++ r ∷ [] → (b : Bool) → (s.lane == lane) ≡ b → runs_in lane ((s ∷ runs) ++ r ∷ []) ≡ runs_in lane (s ∷ runs) ++ r ∷ []
    by_test rest true same = run_here lane s (runs ++ r ∷ []) same ∙ (ap (λ l. s ∷ l) rest ∙ sym (ap (λ l. l ++ r ∷ []) (run_here lane s runs same)))
    by_test rest false other = run_elsewhere lane s (runs ++ r ∷ []) other ∙ (rest ∙ sym (ap (λ l. l ++ r ∷ []) (run_elsewhere lane s runs other)))

pub other_run : (lane : ℕ) (runs : List MemberRun) (r : MemberRun) → (r.lane ≡ lane → ⊥) → runs_in lane (runs ++ r ∷ []) ≡ runs_in lane runs
other_run lane [] r apart = run_elsewhere lane r [] (not_same r.lane lane apart)
other_run lane (s ∷ runs) r apart = by_test (other_run lane runs r apart) (s.lane == lane) refl
  where
    by_test : runs_in lane (runs ++ r ∷ []) ≡ runs_in lane runs → (b : Bool) → (s.lane == lane) ≡ b → runs_in lane ((s ∷ runs) ++ r ∷ []) ≡ runs_in lane (s ∷ runs)
    by_test rest true same = run_here lane s (runs ++ r ∷ []) same ∙ (ap (λ l. s ∷ l) rest ∙ sym (run_here lane s runs same))
    by_test rest false other = run_elsewhere lane s (runs ++ r ∷ []) other ∙ (rest ∙ sym (run_elsewhere lane s runs other))

module _ (P : MemberRun → Type 0) where
  pub each_own : (lane : ℕ) (runs : List MemberRun) → Each P runs → Each P (runs_in lane runs)
  each_own lane [] all = tt
  each_own lane (r ∷ runs) all = by_test (each_own lane runs all.1) (r.lane == lane) refl
    where
      by_test : Each P (runs_in lane runs) → (b : Bool) → (r.lane == lane) ≡ b → Each P (runs_in lane (r ∷ runs))
      by_test rest true same = subst (Each P) (sym (run_here lane r runs same)) (all.0, rest)
      by_test rest false other = subst (Each P) (sym (run_elsewhere lane r runs other)) rest

-- a run is among those of its own lane
pub in_own : (r : MemberRun) (runs : List MemberRun) → IsIn r runs → IsIn r (runs_in r.lane runs)
in_own r [] inside = absurd inside
in_own r (s ∷ runs) (inl same) =
    subst (IsIn r) (sym (run_here r.lane s runs (ap (λ (x : MemberRun). x.lane == r.lane) (sym same) ∙ same_self r.lane))) (inl same)
in_own r (s ∷ runs) (inr inside) = by_test (in_own r runs inside) (s.lane == r.lane) refl
  where
    by_test : IsIn r (runs_in r.lane runs) → (b : Bool) → (s.lane == r.lane) ≡ b → IsIn r (runs_in r.lane (s ∷ runs))
    by_test rest true same = subst (IsIn r) (sym (run_here r.lane s runs same)) (inr rest)
    by_test rest false other = subst (IsIn r) (sym (run_elsewhere r.lane s runs other)) rest

-- each run is in one of the lanes
pub dealt_below : (jobs i : ℕ) (runs : List MemberRun) → 0 < jobs → IsDealt jobs i runs → Each (λ (r : MemberRun). r.lane < jobs) runs
dealt_below jobs i [] some dealt = tt
dealt_below jobs i (r ∷ runs) some dealt = (subst (λ k. k < jobs) (sym dealt.0) (mod_below i jobs some), dealt_below jobs (i + 1) runs some dealt.1)

pub dealt_more : (jobs i : ℕ) (runs : List MemberRun) (r : MemberRun) → IsDealt jobs i runs → r.lane ≡ (i + length runs) % jobs → IsDealt jobs i (runs ++ r ∷ [])
dealt_more jobs i [] r dealt is = let k : i + 0 ≡ i = omega arith in (is ∙ ap (λ n. n % jobs) k, tt)
dealt_more jobs i (s ∷ runs) r dealt is =
    let k : i + length (s ∷ runs) ≡ (i + 1) + length runs = omega arith in
    (dealt.0, dealt_more jobs (i + 1) runs r dealt.1 (is ∙ ap (λ n. n % jobs) k))

-- the same runs with later verdicts
pub dealt_later : (jobs i : ℕ) (runs rested : List MemberRun) → AreLater runs rested → IsDealt jobs i runs → IsDealt jobs i rested
dealt_later jobs i [] [] later dealt = tt
dealt_later jobs i [] (s ∷ rested) later dealt = absurd later
dealt_later jobs i (r ∷ runs) [] later dealt = absurd later
dealt_later jobs i (r ∷ runs) (s ∷ rested) later dealt = (later.1 ∙ dealt.0, dealt_later jobs (i + 1) runs rested later.6 dealt.1)

pub own_later : (lane : ℕ) (runs rested : List MemberRun) → AreLater runs rested → AreLater (runs_in lane runs) (runs_in lane rested)
own_later lane [] [] later = tt
own_later lane [] (s ∷ rested) later = absurd later
own_later lane (r ∷ runs) [] later = absurd later
own_later lane (r ∷ runs) (s ∷ rested) later = by_test (own_later lane runs rested later.6) (r.lane == lane) refl
  where
    by_test : AreLater (runs_in lane runs) (runs_in lane rested) → (b : Bool) → (r.lane == lane) ≡ b → AreLater (runs_in lane (r ∷ runs)) (runs_in lane (s ∷ rested))
    by_test rest true same =
        subst (λ l. AreLater l (runs_in lane (s ∷ rested))) (sym (run_here lane r runs same))
        (subst (λ l. AreLater (r ∷ runs_in lane runs) l) (sym (run_here lane s rested (ap (λ n. n == lane) later.1 ∙ same)))
        (later.0, later.1, later.2, later.3, later.4, later.5, rest))
    by_test rest false other =
        subst (λ l. AreLater l (runs_in lane (s ∷ rested))) (sym (run_elsewhere lane r runs other))
        (subst (λ l. AreLater (runs_in lane runs) l) (sym (run_elsewhere lane s rested (ap (λ n. n == lane) later.1 ∙ other))) rest)

-- ---- links

link_here : (lane : ℕ) (e : Ending) (es : List Ending) → (e.lane == lane) ≡ true → links_in lane (e ∷ es) ≡ e ∷ links_in lane es
link_here lane e es is = ap (λ b. if b then e ∷ links_in lane es else links_in lane es) is

link_elsewhere : (lane : ℕ) (e : Ending) (es : List Ending) → (e.lane == lane) ≡ false → links_in lane (e ∷ es) ≡ links_in lane es
link_elsewhere lane e es is = ap (λ b. if b then e ∷ links_in lane es else links_in lane es) is

module _ (P : Ending → Type 0) where
  pub each_link : (lane : ℕ) (es : List Ending) → Each P es → Each P (links_in lane es)
  each_link lane [] all = tt
  each_link lane (e ∷ es) all = by_test (each_link lane es all.1) (e.lane == lane) refl
    where
      by_test : Each P (links_in lane es) → (b : Bool) → (e.lane == lane) ≡ b → Each P (links_in lane (e ∷ es))
      by_test rest true same = subst (Each P) (sym (link_here lane e es same)) (all.0, rest)
      by_test rest false other = subst (Each P) (sym (link_elsewhere lane e es other)) rest

  first_is : (e : Ending) (es : List Ending) → Each P (links_in e.lane (e ∷ es)) → P e
  first_is e es all = (subst (Each P) (link_here e.lane e es (same_self e.lane)) all).0

  rest_is : (lane : ℕ) (e : Ending) (es : List Ending) → Each P (links_in lane (e ∷ es)) → Each P (links_in lane es)
  rest_is lane e es all = by_test (e.lane == lane) refl
    where
      by_test : (b : Bool) → (e.lane == lane) ≡ b → Each P (links_in lane es)
      by_test true same = (subst (Each P) (link_here lane e es same) all).1
      by_test false other = subst (Each P) (link_elsewhere lane e es other) all

  -- what holds of the links of each lane holds of all
  pub all_links : (jobs : ℕ) (es : List Ending) → Each (λ (e : Ending). e.lane < jobs) es → ((lane : ℕ) → lane < jobs → Each P (links_in lane es)) → Each P es
  all_links jobs [] within each = tt
  all_links jobs (e ∷ es) within each = (first_is e es (each e.lane within.0), all_links jobs es within.1 (λ lane below. rest_is lane e es (each lane below)))
