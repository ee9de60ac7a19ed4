-- The value of an expression that knows only variables and a heap, as an evaluation finds it.
use Rattle.std.proofs.Common.{◌≡◌, ℕ, Bool, true, false, List, [], ◌∷◌, map, Option, Some, None, option_map, Result, Ok, Err, refl, sym, ◌∙◌, ap, true≢false}
use Rattle.std.specs.Prelude.{IfSome, IfNone}
use Rattle.vx_ast.specs.Syntax.{Program, Expr, Exprs}
use Rattle.vx_meaning.specs.Values.{Value}
use Rattle.vx_meaning.specs.States.{Store}
use Rattle.vx_meaning.specs.Flatten.{bare}
use Rattle.vx_run.specs.Going.{Going, Outcome, Ended, Stopped, Failed, Running, Wide, Unchosen, Supply, continued, gives, ends_with}
use Rattle.vx_run.specs.Evaluated.{Free}
use Rattle.vx_run.specs.Blame.{ended_within}
use Rattle.vx_run.specs.Configs.{Setting, Config, with_values, with_lists, with_one, with_list, put_value, put_list}
use Rattle.vx_run.specs.Held.{heap}
use Rattle.vx_run.specs.Views.{value}
use Rattle.vx_run.specs.Pending.{evaluate, evaluate_all}
use Rattle.vx_run.specs.Flats.{has_value, have_values, written, written_store, at_first, is_wide, Came}
use Rattle.vx_run.specs.declared.values.Value.{Value as Value'}
use Rattle.vx_run.specs.declared.heap.Heap.{Heap as Heap'}
use Rattle.vx_run.specs.declared.blame.Blame.TheVariants as blame
use Rattle.vx_run.proofs.Free.{Told, IsWritten, told, all_told}
use Rattle.vx_run.proofs.Written.{looked_up, read_written}

-- an end and something that was found are two
abbrev config_in : Config → Result (Config × Supply ℕ) Outcome → Config
config_in c (Ok r) = r.0
config_in c (Err o) = c

abbrev is_found : Result (Config × Supply ℕ) Outcome → Bool
is_found (Ok r) = true
is_found (Err o) = false

abbrev outcome_in : Result (Config × Supply ℕ) Outcome → Outcome
outcome_in (Ok r) = Ended
outcome_in (Err o) = o

never : {A : Type 0} (x y : Result (Config × Supply ℕ) Outcome) → x ≡ y → is_found x ≡ true → is_found y ≡ false → A
never x y e f g = absurd (true≢false (sym f ∙ ap is_found e ∙ g))

module _ {A B : Type 0} (f : A → B) (put : B → Config) where
  -- it was found and put there, or there is none
  abbrev pub IsThere : Bool → Config → Option B → Type 0
  IsThere true c o = (b : B) × (o ≡ Some b) × (c ≡ put b)
  IsThere false c o = o ≡ None

  abbrev came_in : Result (B × Supply ℕ) Outcome → Result (Config × Supply ℕ) Outcome
  came_in r = continued (ended_within blame.Itself r) (λ b. gives (put b))

  -- an end that isn't of a number past 128 bits
  no_other : (o : Option A) (x : Outcome) (c : Config) → o ≡ None → (t : Bool) → Came t c (let r : Result (Config × Supply ℕ) Outcome = Err x in r) → IsThere t c (option_map f o)
  no_other o x c n true (l, q) = never _ _ (sym q) refl refl
  no_other o x c n false (e, q, w) = ap (option_map f) n

  pub came_there : (o : Option A) (r : Result (B × Supply ℕ) Outcome) → Told f o r → (t : Bool) (c : Config) → Came t c (came_in r) → IsThere t c (option_map f o)
  came_there o (Ok (b, k)) (a, e, w) true c (l, q) = (b, ap (option_map f) e ∙ ap Some w, sym (ap (config_in c) q))
  came_there o (Ok (b, k)) h false c (e, q, w) = never _ _ q refl refl
  came_there o (Err (Wide at op x y)) h true c (l, q) = never _ _ (sym q) refl refl
  came_there o (Err (Wide at op x y)) h false c (e, q, w) = absurd (true≢false (ap (λ r. is_wide (outcome_in r)) q ∙ w))
  came_there o (Err Ended) h t c q = no_other o Ended c h t q
  came_there o (Err (Stopped at)) h t c q = no_other o (Stopped at) c h t q
  came_there o (Err (Failed at)) h t c q = no_other o (Failed at) c h t q
  came_there o (Err Running) h t c q = no_other o Running c h t q
  came_there o (Err Unchosen) h t c q = no_other o Unchosen c h t q

module _ (p : Program) (x : Store) (h : Heap') where
  -- what the code knows is what the definition knows, written
  abbrev here : Config
  here = at_first (written_store x) (heap h)

  are_written : IsWritten p (bare x (heap h)) (bare (written_store x) (heap h))
  are_written = record { store = λ y. looked_up y x; heap = read_written p h; old_heap = read_written p h }

  abbrev t : Setting
  t = record { program = p; steps = 0 }

  pub value_came : (e : Expr) (l : Supply ℕ) (b : Bool) (c : Config) → Came b c (put_value blame.Itself here (evaluate t 0 Free here.state e) l) →
      IsThere written (λ v. with_values (v ∷ []) here) b c (has_value p x (heap h) e)
  value_came e l b c q = came_there written (λ v. with_values (v ∷ []) here) _ (evaluate t 0 Free here.state e l) (told p _ _ are_written e l) b c q

  pub values_came : (es : Exprs) (l : Supply ℕ) (b : Bool) (c : Config) → Came b c (put_list blame.Itself here (evaluate_all t 0 Free here.state es) l) →
      IsThere (map written) (λ vs. with_lists (vs ∷ []) here) b c (have_values p x (heap h) es)
  values_came es l b c q = came_there (map written) (λ vs. with_lists (vs ∷ []) here) _ (evaluate_all t 0 Free here.state es l) (all_told p _ _ are_written es l) b c q

-- it is taken off there
abbrev first_of : {A : Type 0} → A → List A → A
first_of a [] = a
first_of a (x ∷ xs) = x

abbrev first_value : Value → Result (Config × Supply ℕ) Outcome → Value
first_value v (Ok r) = first_of v r.0.values
first_value v (Err o) = v

abbrev first_list : List Value → Result (Config × Supply ℕ) Outcome → List Value
first_list v (Ok r) = first_of v r.0.lists
first_list v (Err o) = v

abbrev at_start : Supply ℕ
at_start = record { source = 0; steps = 0 }

pub value_taken : (v : Value) (c d e : Config) (r : Option Value') → c ≡ with_values (v ∷ []) d →
    IfSome r (λ w. (f : Value → Config → Going ℕ Config) → with_one c f ≡ f (value w) e) → IfNone r ((f : Value → Config → Going ℕ Config) → with_one c f ≡ ends_with Running) → option_map value r ≡ Some v
value_taken v c d e (Some w) q s n =
    let put : Value → Config → Going ℕ Config = λ u k. gives (with_values (u ∷ []) k) in
    ap Some (sym (ap (λ (k : Config). first_value v (with_one k put at_start)) (sym q) ∙ ap (λ (m : Going ℕ Config). first_value v (m at_start)) (s put)))
value_taken v c d e None q s n =
    let put : Value → Config → Going ℕ Config = λ u k. gives (with_values (u ∷ []) k) in
    never _ _ (ap (λ (k : Config). with_one k put at_start) (sym q) ∙ ap (λ (m : Going ℕ Config). m at_start) (n put)) refl refl

pub list_taken : {A : Type 0} (view : A → List Value) (vs : List Value) (c d e : Config) (r : Option A) → c ≡ with_lists (vs ∷ []) d →
    IfSome r (λ w. (f : List Value → Config → Going ℕ Config) → with_list c f ≡ f (view w) e) → IfNone r ((f : List Value → Config → Going ℕ Config) → with_list c f ≡ ends_with Running) →
    option_map view r ≡ Some vs
list_taken view vs c d e (Some w) q s n =
    let put : List Value → Config → Going ℕ Config = λ us k. gives (with_lists (us ∷ []) k) in
    ap Some (sym (ap (λ (k : Config). first_list vs (with_list k put at_start)) (sym q) ∙ ap (λ (m : Going ℕ Config). first_list vs (m at_start)) (s put)))
list_taken view vs c d e None q s n =
    let put : List Value → Config → Going ℕ Config = λ us k. gives (with_lists (us ∷ []) k) in
    never _ _ (ap (λ (k : Config). with_list k put at_start) (sym q) ∙ ap (λ (m : Going ℕ Config). m at_start) (n put)) refl refl
