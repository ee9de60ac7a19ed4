-- Lanes in which nothing has happened can be driven, and what stays of lanes that are the same in one respect.
use Rattle.std.proofs.Common.{◌≡◌, ◌⊎◌, ℕ, zero, suc, ◌<◌, ◌≤◌, ◌++◌, ◌∷◌, [], inl, inr, List, Option, Some, None, Bool, length, map, take, slice_get, refl, ap, ◌∙◌, sym, subst}
use Rattle.std.proofs.lemmas.List.{take_at}
use Rattle.vx_ast.specs.Syntax.{Program}
use Rattle.vx_smt_meaning.specs.Commands.{Declared}
use Rattle.vx_smt_meaning.specs.Views.{declared_symbol}
use Rattle.vx_ends.specs.declared.piece.Piece.{Piece}
use Rattle.vx_live.specs.Functions.{function_symbols}
use Rattle.vx_verifier.specs.declared.line.Line.{Line}
use Rattle.vx_verifier.specs.declared.members.Members.{Members}
use Rattle.vx_verifier.specs.Lanes.{IsHeld, TellsOf}
use Rattle.vx_verifier.specs.Members.{IsWorking, asked_at, runs_events, so_far}
use Rattle.vx_verifier.specs.Outsets.{Hub, Outset}
use Rattle.vx_verifier.specs.Verifying.{IsFresh, AreFresh, AreHeldOver, AreNumbered}
use Rattle.vx_verifier.proofs.Beginning.{events_first, held_first, tells_first, working_first}
use Rattle.vx_verifier.proofs.Executing.{get_same, length_same, within_all}

-- what stands in a list with one part more
more_get : {A : Type 0} (xs : List A) (x : A) (i : ℕ) (y : A) → slice_get (xs ++ x ∷ []) i ≡ Some y → ((i ≡ length xs) × (x ≡ y)) ⊎ (slice_get xs i ≡ Some y)
more_get [] x zero y at = inl (refl, one x y at)
  where
    one : {B : Type 0} (a b : B) → (let o : Option B = Some a in o) ≡ Some b → a ≡ b
    one a b e = cc
more_get [] x (suc i) y at = absurd (cc)
more_get (z ∷ xs) x zero y at = inr at
more_get (z ∷ xs) x (suc i) y at = elim (more_get xs x i y at) [ inl s ↦ inl (ap suc s.0, s.1) | inr s ↦ inr s ]

module _ {K L : Type 0} where
  pub fresh_more : (jobs : ℕ) (command : List (List ℕ)) (functions : List Declared) (lanes : List (Members K × Line K L)) (i : ℕ) (w : Members K) (t : Line K L) → AreFresh jobs command functions lanes → length lanes ≡ i
      → IsFresh jobs command functions i w t → AreFresh jobs command functions (lanes ++ (w, t) ∷ [])
  fresh_more jobs command functions lanes i w t fresh count is j l at = elim (more_get lanes (w, t) j l at) [
    | inl s ↦
        subst (λ (x : Members K × Line K L). IsFresh jobs command functions j x.0 x.1) s.1
        (subst (λ k. IsFresh jobs command functions k w t) (sym count ∙ sym s.0) is)
    | inr s ↦ fresh j l s
  ]

  pub fresh_numbered : (jobs : ℕ) (command : List (List ℕ)) (functions : List Declared) (lanes : List (Members K × Line K L)) → AreFresh jobs command functions lanes → AreNumbered lanes
  fresh_numbered jobs command functions lanes fresh i l at = (fresh i l at).number

  pub numbered_apart : (lanes : List (Members K × Line K L)) → AreNumbered lanes → (i j : ℕ) (a b : Members K × Line K L) → slice_get lanes i ≡ Some a → slice_get lanes j ≡ Some b → a.1.lane ≡ b.1.lane → i ≡ j
  numbered_apart lanes numbered i j a b at_i at_j same = sym (numbered i a at_i) ∙ (same ∙ numbered j b at_j)

  pub numbered_on : (xs ys : List (Members K × Line K L)) → map (λ l. l.1.lane) xs ≡ map (λ l. l.1.lane) ys → AreNumbered ys → AreNumbered xs
  numbered_on xs ys same numbered i l at = let x = get_same (λ (y : Members K × Line K L). y.1.lane) (λ (y : Members K × Line K L). y.1.lane) ys xs i l (sym same) at in sym x.2 ∙ numbered i x.0 x.1

  pub numbered_lines : (xs ys : List (Members K × Line K L)) → map (λ l. l.1) xs ≡ map (λ l. l.1) ys → AreNumbered ys → AreNumbered xs
  numbered_lines xs ys same numbered i l at =
      let x = get_same (λ (y : Members K × Line K L). y.1) (λ (y : Members K × Line K L). y.1) ys xs i l (sym same) at in
      ap (λ (t : Line K L). t.lane) (sym x.2) ∙ numbered i x.0 x.1

  pub held_lines : (steady : L → Bool) (faults : L → ℕ) (o : Outset) (h : Hub) (xs ys : List (Members K × Line K L)) → map (λ l. l.1) xs ≡ map (λ l. l.1) ys → AreHeldOver steady faults o h ys
      → AreHeldOver steady faults o h xs
  held_lines steady faults o h xs ys same held i l at =
      let x = get_same (λ (y : Members K × Line K L). y.1) (λ (y : Members K × Line K L). y.1) ys xs i l (sym same) at in
      subst (λ (t : Line K L). IsHeld steady faults o t.lane t.command.now (map declared_symbol t.functions.now) t.child h) x.2 (held i x.0 x.1)

-- A vector of so many lanes that was lent twice: first the lanes ran, and then their runs were taken.
pub record Lent {K L : Type 0} (n : ℕ) (again ran taken last : List (Members K × Line K L)) : Type 0 where
  pub count : length ran ≡ n
  pub again_is : again ≡ ran
  pub lines : map (λ l. l.1) taken ≡ map (λ l. l.1) ran
  pub taken_count : length taken ≡ n
  pub last_is : last ≡ taken

pub lent : {K L : Type 0} (n : ℕ) (first ran behind again taken behind' : List (Members K × Line K L)) → map (λ l. l.1.lane) ran ≡ map (λ l. l.1.lane) first → length first ≡ n → again ≡ take n (ran ++ behind)
    → map (λ l. l.1) taken ≡ map (λ l. l.1) again → Lent n again ran taken (take n (taken ++ behind'))
lent {K} {L} n first ran behind again taken behind' numbers count_first again_is lines_are =
    let count : length ran ≡ n = length_same (λ (y : Members K × Line K L). y.1.lane) (λ (y : Members K × Line K L). y.1.lane) ran first numbers ∙ count_first in
    let same : again ≡ ran = again_is ∙ take_at ran behind n count in
    let lines : map (λ (y : Members K × Line K L). y.1) taken ≡ map (λ (y : Members K × Line K L). y.1) ran = lines_are ∙ ap (map (λ (y : Members K × Line K L). y.1)) same in
    let taken_count : length taken ≡ n = length_same (λ (y : Members K × Line K L). y.1) (λ (y : Members K × Line K L). y.1) taken ran lines ∙ count in
    record {
      count = count;
      again_is = same;
      lines = lines;
      taken_count = taken_count;
      last_is = take_at taken behind' n taken_count;
    }

module _ {K L : Type 0} (dialogue : L → List Piece) (steady : L → Bool) (faults : L → ℕ) (o : Outset) (h : Hub) where
  -- a lane that can be driven to its first question
  pub record IsReadied (w : Members K) (t : Line K L) : Type 0 where
    pub jobs : w.jobs ≡ o.jobs
    pub working : IsWorking o.program w.jobs w.lane w.next w.skip w.runs.items w.replies.items w.stage
    pub same : w.lane ≡ t.lane
    pub held : IsHeld steady faults o t.lane t.command.now (map declared_symbol t.functions.now) t.child h
    pub none : asked_at w.stage ≡ None
    pub told : TellsOf dialogue o t.lane t.child h (runs_events o.program w.runs.items w.replies.items ++ so_far o.program w.stage)

  pub readied : (p : Program) (jobs : ℕ) (command : List (List ℕ)) (functions : List Declared) → o ≡ record { program = p; jobs = jobs; command = command; first = h } → functions ≡ function_symbols p → 1 ≤ jobs
      → (lanes : List (Members K × Line K L)) → AreFresh jobs command functions lanes → length lanes ≡ jobs → (i : ℕ) (l : Members K × Line K L) → slice_get lanes i ≡ Some l → IsReadied l.0 l.1
  readied p jobs command functions is named some lanes fresh count i l at =
      let w = l.0 in
      let t = l.1 in
      let f = fresh i l at in
      let jobs_are : w.jobs ≡ o.jobs = f.jobs_is ∙ sym (ap (λ (x : Outset). x.jobs) is) in
      let below : i < o.jobs = subst (λ k. i < k) (count ∙ sym (ap (λ (x : Outset). x.jobs) is)) (within_all lanes i l at) in
      let first : o.first ≡ h = ap (λ (x : Outset). x.first) is in
      record {
        jobs = jobs_are;
        working = working_first o.program w.jobs w.lane w.next w.skip w.runs.items w.replies.items w.stage (subst (λ k. 1 ≤ k) (sym f.jobs_is) some) f.next (f.skip ∙ sym f.lane) f.runs f.replies f.stage;
        same = f.lane ∙ sym f.number;
        held = subst (IsHeld steady faults o t.lane t.command.now (map declared_symbol t.functions.now) t.child) first
            (held_first steady faults o t.lane t.command.now (map declared_symbol t.functions.now) t.child f.child (subst (λ k. k < o.jobs) (sym f.number) below)
            (f.command_is ∙ sym (ap (λ (x : Outset). x.command) is)) (f.functions_are ∙ (named ∙ ap (λ (x : Outset). function_symbols x.program) (sym is))));
        none = ap asked_at f.stage;
        told = subst (λ es. TellsOf dialogue o t.lane t.child h es) (sym (events_first o.program w.runs.items w.replies.items w.stage f.runs f.stage))
            (subst (λ x. TellsOf dialogue o t.lane t.child x []) first (tells_first dialogue o t.lane t.child f.child));
      }
