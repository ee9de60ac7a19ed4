-- Over the rows of who mentions each member, one member is reached from another where it leads to it.
use Rattle.std.proofs.Common.{◌≡◌, ◌≢◌, ◌∙◌, refl, sym, ap, subst, ℕ, ◌<◌, ◌⊎◌, inl, inr, Bool, true, false, ◌||◌, List, [], ◌∷◌, length, Option, Some, None, All, eq-eqb, eqb-true}
use Rattle.std.specs.Prelude.{slice_get, ◌↔◌}
use Rattle.std.proofs.lemmas.Bool.{false≢true}
use Rattle.std.proofs.lemmas.Option.{slice_get_within}
use Rattle.vx_ast.specs.declared.MemberId.{MemberId}
use Rattle.vx_ast.specs.Apart.{Stands}
use Rattle.vx_ast.specs.Syntax.{Name, Program, Member}
use Rattle.vx_graph.specs.Listed.{is_in}
use Rattle.vx_graph.specs.Reach.{Rows, Reaches, at_once, further as further_on, leads}
use Rattle.vx_resolved.specs.Numbers.{number_named}
use Rattle.vx_types.specs.Closure.{mentioned_by_kind, InClosure, itself, further}
use Rattle.vx_types.specs.Closure as closure
use Rattle.vx_closure.specs.Leads.{LeadsTo, HasDistinctNames}
use Rattle.vx_closure.specs.Mentioners.{is_number, are_of, names_by_member, mentions, AreMentioners}
use Rattle.vx_closure.proofs.Numbers.{found, not_found}
use Rattle.vx_closure.proofs.Turns.{numbers_below}

same_some : {A : Type 0} (x y : A) → (let o : Option A = Some x in o) ≡ Some y → x ≡ y
same_some x y e = cc

is_that : (o : Option ℕ) (b : ℕ) → is_number o b ≡ true → o ≡ Some b
is_that None b e = absurd (false≢true e)
is_that (Some n) b e = ap Some (eqb-true n b e)

or_true : (b : Bool) → (b || true) ≡ true
or_true true = refl
or_true false = refl

-- one of these names is that of member b
record HasNumber (p : Program) (b : ℕ) (xs : List Name) : Type 0 where
  name : Name
  stands : Stands name xs
  number : number_named 0 p name ≡ Some b

number_stands : (p : Program) (b : ℕ) (xs : List Name) → are_of p b xs ≡ true → HasNumber p b xs
number_stands p b [] e = absurd (false≢true e)
number_stands p b (x ∷ xs) e = go (is_number (number_named 0 p x) b) refl e (number_stands p b xs)
  where
    go : (t : Bool) → is_number (number_named 0 p x) b ≡ t → (t || are_of p b xs) ≡ true → (are_of p b xs ≡ true → HasNumber p b xs) → HasNumber p b (x ∷ xs)
    go true is e more = record { name = x; stands = inl refl; number = is_that (number_named 0 p x) b is }
    go false is e more = let it = more e in record { name = it.name; stands = inr it.stands; number = it.number }

stands_number : (p : Program) (b : ℕ) (xs : List Name) (y : Name) → Stands y xs → number_named 0 p y ≡ Some b → are_of p b xs ≡ true
stands_number p b [] y s e = absurd s
stands_number p b (x ∷ xs) y (inl same) e =
    ap (λ o. is_number o b || are_of p b xs) (subst (λ z. number_named 0 p z ≡ Some b) same e) ∙ ap (λ t. t || are_of p b xs) (eq-eqb b b refl)
stands_number p b (x ∷ xs) y (inr s) e = ap (λ t. is_number (number_named 0 p x) b || t) (stands_number p b xs y s e) ∙ or_true (is_number (number_named 0 p x) b)

module _ (p : Program) (distinct : HasDistinctNames p) where
  -- what a member of number n mentions, by its name
  by_name : (n : ℕ) (x : Member) → slice_get p n ≡ Some x → closure.mentions p x.name ≡ names_by_member p (slice_get p n)
  by_name n x is =
      let it = found p x.name n (distinct n x is) in
      let same : it.member ≡ x = same_some it.member x (sym it.here ∙ is) in
      ap (mentioned_by_kind p) it.named ∙ ap (λ (m : Member). mentioned_by_kind p (Some m.kind)) same ∙ sym (ap (names_by_member p) is)

  -- ---- from the rows
  one_step : (a b : ℕ) (x y : Member) → slice_get p a ≡ Some x → slice_get p b ≡ Some y → mentions p a b ≡ true → Stands y.name (closure.mentions p x.name)
  one_step a b x y is_x is_y e =
      let it = number_stands p b (names_by_member p (slice_get p a)) e in
      let of = found p it.name b it.number in
      let same : of.member ≡ y = same_some of.member y (sym of.here ∙ is_y) in
      subst (λ (z : Name). Stands z (closure.mentions p x.name)) (of.name ∙ ap (λ (m : Member). m.name) same)
      (subst (Stands it.name) (sym (by_name a x is_x)) it.stands)

  leads_at_once : (a b : ℕ) (o : Option Member) → slice_get p a ≡ o → mentions p a b ≡ true → LeadsTo p a b
  leads_at_once a b None is e = absurd (false≢true (ap (λ o. are_of p b (names_by_member p o)) (sym is) ∙ e))
  leads_at_once a b (Some x) is e =
      let it = number_stands p b (names_by_member p (slice_get p a)) e in
      let of = found p it.name b it.number in
      (x, of.member, is, of.here, further itself (one_step a b x of.member is of.here e))

  leads_further : (n a b : ℕ) → LeadsTo p n a → mentions p a b ≡ true → LeadsTo p n b
  leads_further n a b l e =
      let it = number_stands p b (names_by_member p (slice_get p a)) e in
      let of = found p it.name b it.number in
      (l.0, of.member, l.2, of.here, further l.4 (one_step a b l.1 of.member l.3 of.here e))

  module _ (rows : Rows) (are : AreMentioners p rows) where
    pub leads_to : {m n : ℕ} → Reaches rows m n → LeadsTo p n m
    leads_to (at_once {a = m} {b = n} l) = leads_at_once n m (slice_get p n) refl (sym (are.edges n m) ∙ l)
    leads_to (further_on {a = m} {b = c} {c = n} l more) = leads_further n c m (leads_to more) (sym (are.edges c m) ∙ l)

    -- ---- to the rows
    onward : (n c m : ℕ) → (n ≡ c) ⊎ Reaches rows c n → leads rows m c ≡ true → Reaches rows m n
    onward n c m (inl same) l = at_once (subst (λ k. leads rows m k ≡ true) (sym same) l)
    onward n c m (inr more) l = further_on l more

    reached : (n : ℕ) (x : Member) → slice_get p n ≡ Some x → (z : Name) → InClosure p x.name z → (m : ℕ) (y : Member) → slice_get p m ≡ Some y → y.name ≡ z → (n ≡ m) ⊎ Reaches rows m n
    reached n x is_x z itself m y is_y same =
        inl (same_some n m (sym (distinct n x is_x) ∙ ap (number_named 0 p) (sym same) ∙ distinct m y is_y))
    reached n x is_x z (further {y = w} k stands) m y is_y same = go (number_named 0 p w) refl (reached n x is_x w k)
      where
        go : (o : Option ℕ) → number_named 0 p w ≡ o → ((c : ℕ) (v : Member) → slice_get p c ≡ Some v → v.name ≡ w → (n ≡ c) ⊎ Reaches rows c n) → (n ≡ m) ⊎ Reaches rows m n
        go None none before = absurd (subst (λ o. Stands z (mentioned_by_kind p o)) (not_found p w none) stands)
        go (Some c) is before =
            let it = found p w c is in
            let mentioned : Stands y.name (names_by_member p (slice_get p c)) =
            subst (Stands y.name) (ap (closure.mentions p) it.name ∙ by_name c it.member it.here) (subst (λ u. Stands u (closure.mentions p w)) (sym same) stands) in
            inr (onward n c m (before c it.member it.here (sym it.name)) (are.edges c m ∙ stands_number p m (names_by_member p (slice_get p c)) y.name mentioned (distinct m y is_y)))

    pub reached_by : (n m : ℕ) → LeadsTo p n m → n ≢ m → Reaches rows m n
    reached_by n m l other = go (reached n l.0 l.2 l.1.name l.4 m l.1 l.3 refl)
      where
        go : (n ≡ m) ⊎ Reaches rows m n → Reaches rows m n
        go (inl same) = absurd (other same)
        go (inr r) = r

    -- those that are found are those that lead to m
    pub leading : (ms : List MemberId) (m : ℕ) → ((n : ℕ) → (is_in ms n ≡ true) ↔ (Reaches rows m n × (n ≢ m))) → (n : ℕ) → (is_in ms n ≡ true) ↔ (LeadsTo p n m × (n ≢ m))
    leading ms m are_found n = (λ e. let r = (are_found n).0 e in (leads_to r.0, r.1), λ l. (are_found n).1 (reached_by n m l.0 l.1, l.1))

    pub leading_below : (ms : List MemberId) (m : ℕ) → ((n : ℕ) → (is_in ms n ≡ true) ↔ (Reaches rows m n × (n ≢ m))) → All (λ k. k.0 < length p) ms
    leading_below ms m are_found = numbers_below (length p) ms (λ n e. let l = leads_to ((are_found n).0 e).0 in slice_get_within p n l.0 l.2)
