-- Where a Give ends, the parts fit from left to right, and what is added is what it adds.
use Rattle.std.proofs.Common.{◌≡◌, inl, inr, ℕ, ◌+◌, ◌≤◌, Bool, true, false, sym, ◌∙◌, ap, subst, arith}
use Rattle.std.specs.Prelude.{Ok}
use Rattle.vx_frac.specs.Fractions.{Fraction, product}
use Rattle.vx_ast.specs.Syntax.{Program, Assertion, Pure, Points, Both, Implied, Chosen, place_of}
use Rattle.vx_ast.specs.Syntax as syntax
use Rattle.vx_meaning.specs.Values.{Value, IntValue, BoolValue, RefValue, PermValue, is_true}
use Rattle.vx_meaning.specs.States.{State, Holdings, Resource, gained, with_holdings}
use Rattle.vx_meaning.specs.Fits.{Checked, ◌>>=◌, choose, fit_by, deeper, add, add_part}
use Rattle.vx_meaning.specs.Outcomes.{Ends, passes, refused, goes_on, is_over, ends, stops}
use Rattle.vx_meaning.specs.Give.{give, if_possible, side, when}

abbrev pub IsBool : Value → Type 0
IsBool (BoolValue b) = Unit {0}
IsBool _ = ⊥

-- conditions are of type Bool in the states of T
abbrev pub HasBools : Program → (State → Type 0) → Assertion → Type 0
HasBools p T (Both a b) = HasBools p T a × HasBools p T b
HasBools p T (Implied c a) = ((n : ℕ) (s : State) (v : Value) → T s → fit_by p n s c ≡ Ok v → IsBool v) × HasBools p T a
HasBools p T (Chosen c a b) = ((n : ℕ) (s : State) (v : Value) → T s → fit_by p n s c ≡ Ok v → IsBool v) × HasBools p T a × HasBools p T b
HasBools p T _ = Unit {0}

least_left : (m n k : ℕ) → m + n ≤ k → m ≤ k
least_left m n k h = omega arith

least_right : (m n k : ℕ) → m + n ≤ k → n ≤ k
least_right m n k h = omega arith

self : (n : ℕ) → n ≤ n
self n = omega arith

module _ (p : Program) (Possible : State → Type 0) (q : Fraction) (T : State → Type 0) (keeps : (h : Holdings) (s : State) → T s → T (with_holdings h s)) where
  pub record Gave (a : Assertion) (s t : State) : Type 0 where
    pub fuel : ℕ
    pub adds : (n : ℕ) → fuel ≤ n → add p (deeper p n) q a s ≡ Ok t
    pub typed : T t

  possible : (u t : State) → if_possible p Possible q u (Ends t) → t ≡ u
  possible u t (inl h) = h.1
  possible u t (inr h) = absurd h.1

  pub give_adds : (a : Assertion) (s t : State) → HasBools p T a → T s → give p Possible q a s (Ends t) → Gave a s t
  give_adds (Pure e) s t k ts (passes v ev r) = go (is_true v) r
    where
      go : (b : Bool) → when b (ends s) stops (Ends t) → Gave (Pure e) s t
      go true h = record { fuel = ev.0; adds = λ n le. ap (λ (x : Checked Value). x >>= λ _. Ok s) (ev.1 n le) ∙ ap Ok (sym h); typed = subst T (sym h) ts }
      go false h = absurd h
  give_adds (Pure e) s t k ts (refused at ev r) = absurd r
  give_adds (Points at e f share) s t k ts (passes part ev r) =
      let h = possible (with_holdings (gained part.0 (product q part.1) s.holdings) s) t r in
      record { fuel = ev.0; adds = λ n le. ap (λ (x : Checked (Resource × Fraction)). x >>= add_part p (deeper p n) q s) (ev.1 n le) ∙ ap Ok (sym h); typed = subst T (sym h) (keeps (gained part.0 (product q part.1) s.holdings) s ts) }
  give_adds (Points at e f share) s t k ts (refused place ev r) = absurd r
  give_adds (syntax.Instance at i es share) s t k ts (passes part ev r) =
      let h = possible (with_holdings (gained part.0 (product q part.1) s.holdings) s) t r in
      record { fuel = ev.0; adds = λ n le. ap (λ (x : Checked (Resource × Fraction)). x >>= add_part p (deeper p n) q s) (ev.1 n le) ∙ ap Ok (sym h); typed = subst T (sym h) (keeps (gained part.0 (product q part.1) s.holdings) s ts) }
  give_adds (syntax.Instance at i es share) s t k ts (refused place ev r) = absurd r
  give_adds (Both a b) s t k ts (goes_on m x y) =
      let first = give_adds a s m k.0 ts x in
      let second = give_adds b m t k.1 first.typed y in
      record {
        fuel = first.fuel + second.fuel;
        adds = λ n le. ap (λ (x : Checked State). x >>= λ u. add p (deeper p n) q b u) (first.adds n (least_left first.fuel second.fuel n le)) ∙ second.adds n (least_right first.fuel second.fuel n le);
        typed = second.typed;
      }
  give_adds (Both a b) s t k ts (is_over o x) = absurd o
  give_adds (Implied c a) s t k ts (passes v ev r) = go v ev.0 ev.1 (k.0 ev.0 s v ts (ev.1 ev.0 (self ev.0))) r (λ z. give_adds a s t k.1 ts z)
    where
      go : (v : Value) (m : ℕ) → ((n : ℕ) → m ≤ n → fit_by p n s c ≡ Ok v) → IsBool v → side v (give p Possible q a s) (ends s) (Ends t) → (give p Possible q a s (Ends t) → Gave a s t) → Gave (Implied c a) s t
      go (BoolValue true) m e h r f =
          let g = f r in
          record { fuel = m + g.fuel; adds = λ n le. ap (λ (x : Checked Value). x >>= λ v. choose (place_of c) v (add p (deeper p n) q a s) (Ok s)) (e n (least_left m g.fuel n le)) ∙ g.adds n (least_right m g.fuel n le); typed = g.typed }
      go (BoolValue false) m e h r f =
          record { fuel = m; adds = λ n le. ap (λ (x : Checked Value). x >>= λ v. choose (place_of c) v (add p (deeper p n) q a s) (Ok s)) (e n le) ∙ ap Ok (sym r); typed = subst T (sym r) ts }
      go (IntValue z) m e h r f = absurd h
      go (RefValue z) m e h r f = absurd h
      go (PermValue z) m e h r f = absurd h
  give_adds (Implied c a) s t k ts (refused place ev r) = absurd r
  give_adds (Chosen c a b) s t k ts (passes v ev r) = go v ev.0 ev.1 (k.0 ev.0 s v ts (ev.1 ev.0 (self ev.0))) r (λ z. give_adds a s t k.1 ts z) (λ z. give_adds b s t k.2 ts z)
    where
      go : (v : Value) (m : ℕ) → ((n : ℕ) → m ≤ n → fit_by p n s c ≡ Ok v) → IsBool v → side v (give p Possible q a s) (give p Possible q b s) (Ends t) → (give p Possible q a s (Ends t) → Gave a s t) → (give p Possible q b s (Ends t) → Gave b s t) → Gave (Chosen c a b) s t
      go (BoolValue true) m e h r f g =
          let x = f r in
          record { fuel = m + x.fuel; adds = λ n le. ap (λ (y : Checked Value). y >>= λ v. choose (place_of c) v (add p (deeper p n) q a s) (add p (deeper p n) q b s)) (e n (least_left m x.fuel n le)) ∙ x.adds n (least_right m x.fuel n le); typed = x.typed }
      go (BoolValue false) m e h r f g =
          let x = g r in
          record { fuel = m + x.fuel; adds = λ n le. ap (λ (y : Checked Value). y >>= λ v. choose (place_of c) v (add p (deeper p n) q a s) (add p (deeper p n) q b s)) (e n (least_left m x.fuel n le)) ∙ x.adds n (least_right m x.fuel n le); typed = x.typed }
      go (IntValue z) m e h r f g = absurd h
      go (RefValue z) m e h r f g = absurd h
      go (PermValue z) m e h r f g = absurd h
  give_adds (Chosen c a b) s t k ts (refused place ev r) = absurd r
