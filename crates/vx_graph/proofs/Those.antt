-- Members that pass a test, collected in file order.
use Rattle.std.proofs.Common.{◌≡◌, ◌≢◌, ℕ, ◌+◌, ◌<◌, ◌≤◌, ◌⊎◌, inl, inr, Bool, true, false, ◌||◌, nat_eq, List, [], ◌∷◌, ◌++◌, refl, ap, arith, ◌∙◌, sym, subst}
use Rattle.std.specs.Prelude.{All}
use Rattle.std.proofs.lemmas.Bool.Decides.{eqb_tells}
use Rattle.std.proofs.lemmas.List.Elements.{All-weaker, All-head, All-tail, All-push, All-nil}
use Rattle.vx_ast.specs.declared.MemberId.{MemberId}
use Rattle.vx_graph.specs.Listed.{is_in, Ascends, AreThose}
use Rattle.vx_graph.proofs.Lists.{push_is_in}

pub none_those : (passes : ℕ → Bool) (ms : List MemberId) → ms ≡ [] → AreThose passes 0 ms
none_those passes ms e = record {
  within = subst (All (λ m. m.0 < 0)) (sym e) (All-nil (λ (m : MemberId). m.0 < 0));
  order = subst Ascends (sym e) tt;
  members = λ k lt. absurd (omega (arith, lt));
}

ascends_push : (ms : List MemberId) (m : MemberId) → Ascends ms → All (λ k. k.0 < m.0) ms → Ascends (ms ++ m ∷ [])
ascends_push [] m a all = (All-nil (λ (k : MemberId). m.0 < k.0), tt)
ascends_push (h ∷ ms) m (first, a) all =
    (All-push (λ (k : MemberId). h.0 < k.0) ms m first (All-head (λ (k : MemberId). k.0 < m.0) h ms all), ascends_push ms m a (All-tail (λ (k : MemberId). k.0 < m.0) h ms all))

or_none : (a b : Bool) → a ≡ false → b ≡ false → (a || b) ≡ false
or_none a b e f = ap (λ x. x || b) e ∙ f

differ : (a n : ℕ) → a < n → nat_eq a n ≡ false
differ a n lt = go (eqb_tells a n)
  where
    go : ((nat_eq a n ≡ true) × (a ≡ n)) ⊎ ((nat_eq a n ≡ false) × (a ≢ n)) → nat_eq a n ≡ false
    go (inl (t, e)) = absurd (omega (arith, e, lt))
    go (inr (f, e)) = f

-- none is at or past the bound
pub past : (ms : List MemberId) (n k : ℕ) → All (λ m. m.0 < n) ms → n ≤ k → is_in ms k ≡ false
past [] n k all le = refl
past (m ∷ ms) n k all le =
    let h : m.0 < n = All-head (λ (x : MemberId). x.0 < n) m ms all in
    or_none (nat_eq m.0 k) (is_in ms k) (differ m.0 k (omega (arith, h, le))) (past ms n k (All-tail (λ (x : MemberId). x.0 < n) m ms all) le)

pub skipped : (passes : ℕ → Bool) (n : ℕ) (ms : List MemberId) → passes n ≡ false → AreThose passes n ms → AreThose passes (n + 1) ms
skipped passes n ms e t = record {
  within = All-weaker (λ (m : MemberId). m.0 < n) (λ (m : MemberId). m.0 < n + 1) (λ m lt. omega (arith, lt)) ms t.within;
  order = t.order;
  members = λ k lt. go k (eqb_tells k n) lt;
}
  where
    go : (k : ℕ) → ((nat_eq k n ≡ true) × (k ≡ n)) ⊎ ((nat_eq k n ≡ false) × (k ≢ n)) → k < n + 1 → is_in ms k ≡ passes k
    go k (inl (f, same)) lt = past ms n k t.within (omega (arith, same)) ∙ sym (ap passes same ∙ e)
    go k (inr (f, other)) lt = t.members k (omega (arith, lt, other))

pub taken : (passes : ℕ → Bool) (n : ℕ) (ms new : List MemberId) (m : MemberId) → passes n ≡ true → m.0 ≡ n → new ≡ ms ++ m ∷ [] → AreThose passes n ms → AreThose passes (n + 1) new
taken passes n ms new m e at is t = record {
  within = subst (All (λ k. k.0 < n + 1)) (sym is) (All-push (λ (k : MemberId). k.0 < n + 1) ms m (All-weaker (λ (k : MemberId). k.0 < n) (λ (k : MemberId). k.0 < n + 1) (λ k lt. omega (arith, lt)) ms t.within) (omega (arith, at)));
  order = subst Ascends (sym is) (ascends_push ms m t.order (subst (λ x. All (λ k. k.0 < x) ms) (sym at) t.within));
  members = λ k lt. ap (λ xs. is_in xs k) is ∙ push_is_in ms m k ∙ go k (eqb_tells m.0 k) lt;
}
  where
    or_no : (b : Bool) → (b || false) ≡ b
    or_no true = refl
    or_no false = refl

    or_yes : (b : Bool) → (b || true) ≡ true
    or_yes true = refl
    or_yes false = refl

    go : (k : ℕ) → ((nat_eq m.0 k ≡ true) × (m.0 ≡ k)) ⊎ ((nat_eq m.0 k ≡ false) × (m.0 ≢ k)) → k < n + 1 → (is_in ms k || nat_eq m.0 k) ≡ passes k
    go k (inl (t', same)) lt = ap (λ b. is_in ms k || b) t' ∙ or_yes (is_in ms k) ∙ sym (ap passes (sym same ∙ at) ∙ e)
    go k (inr (f, other)) lt = ap (λ b. is_in ms k || b) f ∙ or_no (is_in ms k) ∙ t.members k (omega (arith, lt, other, at))
