-- Two checks of which the second passes where the first does, as one in a state that holds less and one in a state that holds more.
use Rattle.std.proofs.Common.{arith, ◌≡◌, ◌≤◌, ◌+◌, ℕ, ◌⊎◌, inl, inr, refl, sym, ◌∙◌, ap, subst}
use Rattle.std.specs.Prelude.{Ok, Err}
use Rattle.vx_ast.specs.declared.Place.{Place}
use Rattle.vx_meaning.specs.Fits.{Checked, ◌>>=◌, Eventually}
use Rattle.vx_meaning.specs.Outcomes.{Outcome, FailsAt, Outcomes, checked, passes, refused}
use Rattle.vx_runs.proofs.Surely.{Surely, surely, surely_then, surely_map}
use Rattle.vx_runs.proofs.Mirrored.{err_ok, ok_is}

pub record Passes {A B : Type 0} (Rel : A → B → Type 0) (c : ℕ → Checked A) (d : ℕ → Checked B) : Type 0 where
  pub less : A
  pub more : B
  pub related : Rel less more
  pub by_less : Eventually (λ n. c n ≡ Ok less)
  pub by_more : Eventually (λ n. d n ≡ Ok more)

abbrev pub Refuses : {A : Type 0} → (ℕ → Checked A) → Type 0
Refuses c = (at : Place) × Eventually (λ n. c n ≡ Err at)

-- the first settles, and where it passes the second passes with what Rel says
abbrev pub RisesTo : {A B : Type 0} → (A → B → Type 0) → (ℕ → Checked A) → (ℕ → Checked B) → Type 0
RisesTo Rel c d = Surely (Passes Rel c d ⊎ Refuses c)

-- with the same
abbrev pub Rises : {A : Type 0} → (ℕ → Checked A) → (ℕ → Checked A) → Type 0
Rises {A = A} c d = RisesTo (◌≡◌ {A = A}) c d

pub eventually_both : (P Q : ℕ → Type 0) → Eventually P → Eventually Q → Eventually (λ n. P n × Q n)
eventually_both P Q a b = (a.0 + b.0, λ n le. (a.1 n (left n le), b.1 n (right n le)))
  where
    left : (n : ℕ) → a.0 + b.0 ≤ n → a.0 ≤ n
    left n le = omega arith

    right : (n : ℕ) → a.0 + b.0 ≤ n → b.0 ≤ n
    right n le = omega arith

-- a check has one end
pub one_end : {A : Type 0} (c : ℕ → Checked A) (x y : Checked A) → Eventually (λ n. c n ≡ x) → Eventually (λ n. c n ≡ y) → x ≡ y
one_end c x y a b = let z = eventually_both (λ n. c n ≡ x) (λ n. c n ≡ y) a b in let k = z.1 z.0 (self z.0) in sym k.0 ∙ k.1
  where
    self : (n : ℕ) → n ≤ n
    self n = omega arith

-- one check after another
pub after_ok : {A B : Type 0} (c : ℕ → Checked A) (f : ℕ → A → Checked B) (a : A) (x : Checked B) → Eventually (λ n. c n ≡ Ok a) → Eventually (λ n. f n a ≡ x) → Eventually (λ n. (c n >>= f n) ≡ x)
after_ok c f a x h k = let z = eventually_both (λ n. c n ≡ Ok a) (λ n. f n a ≡ x) h k in (z.0, λ n le. let y = z.1 n le in ap (λ w. w >>= f n) y.0 ∙ y.1)

pub after_err : {A B : Type 0} (c : ℕ → Checked A) (f : ℕ → A → Checked B) (at : Place) → Eventually (λ n. c n ≡ Err at) → Eventually (λ n. (c n >>= f n) ≡ Err at)
after_err c f at h = (h.0, λ n le. ap (λ w. w >>= f n) (h.1 n le))

pub rises_then : {A B C D : Type 0} (Rel : A → B → Type 0) (On : C → D → Type 0) (c : ℕ → Checked A) (d : ℕ → Checked B) (f : ℕ → A → Checked C) (g : ℕ → B → Checked D) →
    RisesTo Rel c d → ((a : A) (b : B) → Rel a b → RisesTo On (λ n. f n a) (λ n. g n b)) → RisesTo On (λ n. c n >>= f n) (λ n. d n >>= g n)
rises_then {A = A} {B = B} Rel On c d f g h k = surely_then h first
  where
    last : (a : A) (b : B) → Eventually (λ n. c n ≡ Ok a) → Eventually (λ n. d n ≡ Ok b) → Passes On (λ n. f n a) (λ n. g n b) ⊎ Refuses (λ n. f n a) → Passes On (λ n. c n >>= f n) (λ n. d n >>= g n) ⊎ Refuses (λ n. c n >>= f n)
    last a b i j (inl x) = inl record { less = x.less; more = x.more; related = x.related; by_less = after_ok c f a (Ok x.less) i x.by_less; by_more = after_ok d g b (Ok x.more) j x.by_more }
    last a b i j (inr (at, x)) = inr (at, after_ok c f a (Err at) i x)

    first : Passes Rel c d ⊎ Refuses c → RisesTo On (λ n. c n >>= f n) (λ n. d n >>= g n)
    first (inl x) = surely_map (k x.less x.more x.related) (last x.less x.more x.by_less x.by_more)
    first (inr (at, x)) = surely (inr (at, after_err c f at x))

-- what is the same at each fuel
pub rises_always : {A B : Type 0} (Rel : A → B → Type 0) (c : Checked A) (d : Checked B) → ((a : A) → c ≡ Ok a → (b : B) × Rel a b × (d ≡ Ok b)) → RisesTo Rel (λ n. c) (λ n. d)
rises_always Rel (Ok a) d h = let k = h a refl in surely (inl record { less = a; more = k.0; related = k.1; by_less = (0, λ n le. refl); by_more = (0, λ n le. k.2) })
rises_always Rel (Err at) d h = surely (inr (at, (0, λ n le. refl)))

-- Where the first check is never refused, the second passes with what the first gives.
pub record Passed {A B : Type 0} (Rel : A → B → Type 0) (c : ℕ → Checked A) (rest : B → Outcomes) (o : Outcome) : Type 0 where
  pub less : A
  pub more : B
  pub related : Rel less more
  pub by_less : Eventually (λ n. c n ≡ Ok less)
  pub on : rest more o

pub passed : {A B : Type 0} (Rel : A → B → Type 0) (c : ℕ → Checked A) (d : ℕ → Checked B) (rest : A → Outcomes) (more : B → Outcomes) (o : Outcome) →
    RisesTo Rel c d → ((at : Place) → checked c rest (FailsAt at) → ⊥) → checked d more o → Surely (Passed Rel c more o)
passed {B = B} Rel c d rest more o rises never run = surely_then rises (go run)
  where
    go : checked d more o → Passes Rel c d ⊎ Refuses c → Surely (Passed Rel c more o)
    go run (inr (at, x)) = absurd (never at (refused at x refl))
    go (refused at x f) (inl k) = absurd (err_ok at k.more (one_end d (Err at) (Ok k.more) x k.by_more))
    go (passes b x r) (inl k) = surely record {
      less = k.less;
      more = k.more;
      related = k.related;
      by_less = k.by_less;
      on = subst (λ (z : B). more z o) (ok_is b k.more (one_end d (Ok b) (Ok k.more) x k.by_more)) r;
    }
