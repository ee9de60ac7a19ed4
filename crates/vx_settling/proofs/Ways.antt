-- Ways over the rows, by numbers, are ways between functions, by names.
use Rattle.std.proofs.Common.{◌≡◌, ◌∙◌, refl, sym, ap, subst, ℕ, zero, suc, ◌⊎◌, inl, inr, Bool, true, false, ◌||◌, ◌&&◌, List, [], ◌∷◌, length, Option, Some, None, eq-eqb}
use Rattle.std.specs.Prelude.{slice_get, ◌↔◌}
use Rattle.std.proofs.lemmas.Bool.{false≢true, and_parts, and_from}
use Rattle.vx_ast.specs.declared.MemberId.{MemberId}
use Rattle.vx_ast.specs.Apart.{Stands}
use Rattle.vx_ast.specs.Mentions.{mentions_of}
use Rattle.vx_ast.specs.Syntax.{Name, Program, Member, same_name, function_in, function_named}
use Rattle.vx_graph.specs.Groups.{are_together}
use Rattle.vx_graph.specs.Reach.{Rows, Reaches, at_once, further, leads}
use Rattle.vx_resolved.specs.Numbers.{number_named, AreGroups}
use Rattle.vx_rules.specs.Groups.{leads_to, reaches_by, is_in_group}
use Rattle.vx_rules.proofs.Names.{same_name_is}
use Rattle.vx_settling.specs.Mentioned.{is_number, are_of, names_by_member, AreMentions}
use Rattle.vx_settling.proofs.Bounded.{bounded, none}
use Rattle.vx_settling.proofs.Numbers.{found, not_found}
use Rattle.vx_settling.proofs.Told.{is_that, or_true}

same_some : {A : Type 0} (x y : A) → (let o : Option A = Some x in o) ≡ Some y → x ≡ y
same_some x y e = cc

same_itself : (x : Name) → same_name x x ≡ true
same_itself [] = refl
same_itself (a ∷ x) = ap (λ b. b && same_name x x) (eq-eqb a a refl) ∙ same_itself x

-- two tests that follow from each other
as_true : (a b : Bool) → (a ≡ true → b ≡ true) → (b ≡ true → a ≡ true) → a ≡ b
as_true true b f g = sym (f refl)
as_true false true f g = g refl
as_true false false f g = refl

-- ---- one step, among the names that a function mentions
-- one of these names is g's, or passes
record Led (q : Name → Bool) (g : Name) (xs : List Name) : Type 0 where
  name : Name
  stands : Stands name xs
  goes : (g ≡ name) ⊎ (q name ≡ true)

led : (q : Name → Bool) (g : Name) (xs : List Name) → leads_to q g xs ≡ true → Led q g xs
led q g [] h = absurd (false≢true h)
led q g (x ∷ xs) h = go (same_name g x) (q x) refl refl h (led q g xs)
  where
    go : (s a : Bool) → same_name g x ≡ s → q x ≡ a → (s || a || leads_to q g xs) ≡ true → (leads_to q g xs ≡ true → Led q g xs) → Led q g (x ∷ xs)
    go true a e f h rest = record { name = x; stands = inl refl; goes = inl (same_name_is g x e) }
    go false true e f h rest = record { name = x; stands = inl refl; goes = inr f }
    go false false e f h rest = let it = rest h in record { name = it.name; stands = inr it.stands; goes = it.goes }

first_true : (a b c : Bool) → a ≡ true → (a || b || c) ≡ true
first_true true b c e = refl
first_true false b c e = absurd (false≢true e)

second_true : (a b c : Bool) → b ≡ true → (a || b || c) ≡ true
second_true true b c e = refl
second_true false true c e = refl
second_true false false c e = absurd (false≢true e)

third_true : (a b c : Bool) → c ≡ true → (a || b || c) ≡ true
third_true true b c e = refl
third_true false true c e = refl
third_true false false c e = e

leads_by : (q : Name → Bool) (g : Name) (xs : List Name) (y : Name) → Stands y xs → (g ≡ y) ⊎ (q y ≡ true) → leads_to q g xs ≡ true
leads_by q g [] y s h = absurd s
leads_by q g (x ∷ xs) y (inr s) h = third_true (same_name g x) (q x) (leads_to q g xs) (leads_by q g xs y s h)
leads_by q g (x ∷ xs) y (inl same) (inl e) = first_true (same_name g x) (q x) (leads_to q g xs) (subst (λ z. same_name g z ≡ true) (e ∙ same) (same_itself g))
leads_by q g (x ∷ xs) y (inl same) (inr e) = second_true (same_name g x) (q x) (leads_to q g xs) (subst (λ z. q z ≡ true) same e)

-- one of these names is that of member b
record HasNumber (p : Program) (b : ℕ) (xs : List Name) : Type 0 where
  name : Name
  stands : Stands name xs
  number : number_named 0 p name ≡ Some b

number_stands : (p : Program) (b : ℕ) (xs : List Name) → are_of p b xs ≡ true → HasNumber p b xs
number_stands p b [] e = absurd (false≢true e)
number_stands p b (x ∷ xs) e = go (is_number (number_named 0 p x) b) refl e (number_stands p b xs)
  where
    go : (t : Bool) → is_number (number_named 0 p x) b ≡ t → (t || are_of p b xs) ≡ true → (are_of p b xs ≡ true → HasNumber p b xs) → HasNumber p b (x ∷ xs)
    go true is e more = record { name = x; stands = inl refl; number = is_that (number_named 0 p x) b is }
    go false is e more = let it = more e in record { name = it.name; stands = inr it.stands; number = it.number }

stands_number : (p : Program) (b : ℕ) (xs : List Name) (y : Name) → Stands y xs → number_named 0 p y ≡ Some b → are_of p b xs ≡ true
stands_number p b [] y s e = absurd s
stands_number p b (x ∷ xs) y (inl same) e =
    ap (λ o. is_number o b || are_of p b xs) (subst (λ z. number_named 0 p z ≡ Some b) same e) ∙ ap (λ t. t || are_of p b xs) (eq-eqb b b refl)
stands_number p b (x ∷ xs) y (inr s) e = ap (λ t. is_number (number_named 0 p x) b || t) (stands_number p b xs y s e) ∙ or_true (is_number (number_named 0 p x) b)

-- who has one number has one name
one_name : (p : Program) (x y : Name) (b : ℕ) → number_named 0 p x ≡ Some b → number_named 0 p y ≡ Some b → x ≡ y
one_name p x y b h k =
    let f = found p x b h in
    let g = found p y b k in
    let same : f.member ≡ g.member = same_some f.member g.member (sym f.here ∙ g.here) in
    f.name ∙ ap (λ (m : Member). m.name) same ∙ sym g.name

-- what the member of a name mentions, by its number
by_number : (p : Program) (f : Name) (a : ℕ) → number_named 0 p f ≡ Some a → names_by_member (slice_get p a) ≡ mentions_of (function_named p f)
by_number p f a h = let it = found p f a h in ap names_by_member it.here ∙ ap (λ k. mentions_of (function_in k)) (sym it.named)

module _ (p : Program) (rows : Rows) (are : AreMentions p rows) where
  leads_it : (f x : Name) (a c : ℕ) → number_named 0 p f ≡ Some a → number_named 0 p x ≡ Some c → Stands x (mentions_of (function_named p f)) → leads rows a c ≡ true
  leads_it f x a c of_f of_x s = are.edges a c ∙ ap (are_of p c) (by_number p f a of_f) ∙ stands_number p c (mentions_of (function_named p f)) x s of_x

  it_leads : (f : Name) (a c : ℕ) → number_named 0 p f ≡ Some a → leads rows a c ≡ true → HasNumber p c (mentions_of (function_named p f))
  it_leads f a c of_f h = number_stands p c (mentions_of (function_named p f)) (sym (ap (are_of p c) (by_number p f a of_f)) ∙ sym (are.edges a c) ∙ h)

  -- ---- to the rows
  way : (n : ℕ) (f g : Name) (a b : ℕ) → number_named 0 p f ≡ Some a → number_named 0 p g ≡ Some b → reaches_by p n f g ≡ true → Reaches rows a b
  way zero f g a b of_f of_g h = absurd (false≢true h)
  way (suc n) f g a b of_f of_g h = go (led (λ x. reaches_by p n x g) g (mentions_of (function_named p f)) h) (λ x c of_x. way n x g c b of_x of_g)
    where
      by_way : (x : Name) → Stands x (mentions_of (function_named p f)) → reaches_by p n x g ≡ true → ((c : ℕ) → number_named 0 p x ≡ Some c → Reaches rows c b) →
          (o : Option ℕ) → number_named 0 p x ≡ o → Reaches rows a b
      by_way x s r rest None e = absurd (false≢true (sym (none p g n x (not_found p x e)) ∙ r))
      by_way x s r rest (Some c) e = further (leads_it f x a c of_f e s) (rest c e)

      go : (it : Led (λ x. reaches_by p n x g) g (mentions_of (function_named p f))) → ((x : Name) (c : ℕ) → number_named 0 p x ≡ Some c → reaches_by p n x g ≡ true → Reaches rows c b) → Reaches rows a b
      go it rest = by_case it.goes
        where
          by_case : (g ≡ it.name) ⊎ (reaches_by p n it.name g ≡ true) → Reaches rows a b
          by_case (inl e) = at_once (leads_it f it.name a b of_f (subst (λ x. number_named 0 p x ≡ Some b) e of_g) it.stands)
          by_case (inr r) = by_way it.name it.stands r (λ c e. rest it.name c e r) (number_named 0 p it.name) refl

  -- ---- from the rows
  steps : {a b : ℕ} → Reaches rows a b → (f g : Name) → number_named 0 p f ≡ Some a → number_named 0 p g ≡ Some b → (n : ℕ) × (reaches_by p n f g ≡ true)
  steps (at_once {a} {b} h) f g of_f of_g =
      let it = it_leads f a b of_f h in
      (1, leads_by (λ x. reaches_by p 0 x g) g (mentions_of (function_named p f)) it.name it.stands (inl (one_name p g it.name b of_g it.number)))
  steps (further {a} {b} {c} h r) f g of_f of_g =
      let it = it_leads f a b of_f h in
      let rest = steps r it.name g it.number of_g in
      (suc rest.0, leads_by (λ x. reaches_by p rest.0 x g) g (mentions_of (function_named p f)) it.name it.stands (inr rest.1))

  reached : (f g : Name) (a b : ℕ) → number_named 0 p f ≡ Some a → number_named 0 p g ≡ Some b → Reaches rows a b → reaches_by p (length p) f g ≡ true
  reached f g a b of_f of_g r = let it = steps r f g of_f of_g in bounded p g it.0 f it.1

  -- roots over the rows are those of the program's groups
  pub grouped : (rs : List (Option MemberId)) → length rs ≡ length rows → ((a b : ℕ) → (are_together rs a b ≡ true) ↔ (Reaches rows a b × Reaches rows b a)) → AreGroups rs p
  grouped rs count together = record {
    count = count ∙ are.members;
    together = λ f g a b of_f of_g.
        as_true (are_together rs a b) (is_in_group p f g)
        (λ e. let r = (together a b).0 e in and_from (reaches_by p (length p) f g) (reaches_by p (length p) g f) (reached f g a b of_f of_g r.0) (reached g f b a of_g of_f r.1))
        (λ e. let r = and_parts (reaches_by p (length p) f g) (reaches_by p (length p) g f) e in (together a b).1 (way (length p) f g a b of_f of_g r.0, way (length p) g f b a of_g of_f r.1));
  }
