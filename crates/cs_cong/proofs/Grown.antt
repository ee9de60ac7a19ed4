-- One more merge of congruent terms.
use Rattle.std.proofs.Common.{◌≡◌, ℕ, ◌<◌, ◌+◌, inl, inr, Bool, true, false, nat_eq, cond, ◌&&◌, List, [], ◌∷◌, ◌++◌, length, take, get_or, slice_get, Option, Some, None, refl, sym, ◌∙◌, ap, ap₂, subst, arith, eq-eqb}
use Rattle.std.proofs.lemmas.Bool.{cases_eq, cases_lt, eqb-true}
use Rattle.std.proofs.lemmas.List.{get_or_append_left, get_or_at, length-append, take-append-le, take_all, take-take}
use Rattle.std.proofs.lemmas.Option.{slice_get_past}
use Rattle.cs_cong.specs.declared.congruent.Applied.{Applied}
use Rattle.cs_cong.specs.declared.congruent.Claim.{Claim}
use Rattle.cs_cong.specs.declared.merges.Merge.{Merge}
use Rattle.cs_cong.specs.declared.merges.Reason.{Reason}
use Rattle.cs_cong.specs.declared.merges.Reason.TheVariants.{Claimed, Congruence}
use Rattle.cs_cong.specs.Merged.{nothing, representative, current, with_merge, IsMerged}
use Rattle.cs_cong.specs.Joined.{all_same, alike, are_congruent, is_reason, AreJustified, Grown}
use Rattle.cs_cong.proofs.Times.{front}

-- representatives that are the same make the same parts alike
same_all : (f g : ℕ → ℕ) → ((a : ℕ) → f a ≡ g a) → (xs ys : List ℕ) → all_same f xs ys ≡ all_same g xs ys
same_all f g e [] [] = refl
same_all f g e [] (y ∷ ys) = refl
same_all f g e (x ∷ xs) [] = refl
same_all f g e (x ∷ xs) (y ∷ ys) =
    ap (λ b. nat_eq (f x) (f y) && b) (same_all f g e xs ys) ∙ ap₂ (λ m n. nat_eq m n && all_same g xs ys) (e x) (e y)

pub same_alike : (f g : ℕ → ℕ) → ((a : ℕ) → f a ≡ g a) → (s t : Option Applied) → alike f s t ≡ alike g s t
same_alike f g e (Some s) (Some t) = ap (λ b. nat_eq s.head t.head && b) (same_all f g e s.parts.items t.parts.items)
same_alike f g e None t = refl
same_alike f g e (Some s) None = refl

pub same_reason : (terms : List Applied) (claims : List Claim) (f g : ℕ → ℕ) → ((a : ℕ) → f a ≡ g a) → (why : Reason) (a b : ℕ) → is_reason terms claims f why a b ≡ is_reason terms claims g why a b
same_reason terms claims f g e (Claimed i) a b = refl
same_reason terms claims f g e Congruence a b = same_alike f g e (slice_get terms a) (slice_get terms b)

-- one more merge with a reason
pub justified_more : (terms : List Applied) (claims : List Claim) (log : List Merge) (m : Merge) → AreJustified terms claims log → is_reason terms claims (current log) m.reason m.left m.right ≡ true → AreJustified terms claims (log ++ m ∷ [])
justified_more terms claims log m all one k lt = elim (cases_eq k (length log)) [
  | inl e ↦
      ap (λ x. is_reason terms claims (representative (log ++ m ∷ []) k) (get_or (log ++ m ∷ []) x nothing).reason (get_or (log ++ m ∷ []) x nothing).left (get_or (log ++ m ∷ []) x nothing).right) e
      ∙ ap (λ (x : Merge). is_reason terms claims (representative (log ++ m ∷ []) k) x.reason x.left x.right) (get_or_at log m [] nothing (length log) refl)
      ∙ same_reason terms claims (representative (log ++ m ∷ []) k) (current log) (λ a. ap (λ x. representative (log ++ m ∷ []) x a) e ∙ front log (m ∷ []) (length log) a (omega arith)) m.reason m.left m.right
      ∙ one
  | inr n ↦
      let long : length (log ++ m ∷ []) ≡ length log + 1 = length-append log (m ∷ []) in
      let sooner : k < length log = omega arith in
      ap (λ (x : Merge). is_reason terms claims (representative (log ++ m ∷ []) k) x.reason x.left x.right) (get_or_append_left log (m ∷ []) nothing k sooner)
      ∙ same_reason terms claims (representative (log ++ m ∷ []) k) (representative log k) (λ a. front log (m ∷ []) k a (omega arith)) (get_or log k nothing).reason (get_or log k nothing).left (get_or log k nothing).right
      ∙ all k sooner
]

pub grown_none : (terms : List Applied) (log : List Merge) → Grown terms log log
grown_none terms log = record { front = take_all (length log) log (omega arith); longer = omega arith; justified = λ claims all. all }

-- merged, or in one class before
pub with_cases : (P : List Merge → Type 0) (log : List Merge) (a b : ℕ) (why : Reason) → (current log a ≡ current log b → P log) → P (log ++ record { left = a; right = b; reason = why; moved = current log a } ∷ []) → P (with_merge log a b why)
with_cases P log a b why same more = go (nat_eq (current log a) (current log b)) refl
  where
    go : (t : Bool) → nat_eq (current log a) (current log b) ≡ t → P (cond t log (log ++ record { left = a; right = b; reason = why; moved = current log a } ∷ []))
    go true e = same (eqb-true _ _ e)
    go false e = more

grown_step : (terms : List Applied) (old log : List Merge) (m : Merge) → Grown terms old log → m.reason ≡ Congruence → are_congruent terms (current log) m.left m.right ≡ true → Grown terms old (log ++ m ∷ [])
grown_step terms old log m g why c = record {
  front = take-append-le (length old) log (m ∷ []) g.longer ∙ g.front;
  longer = let long : length (log ++ m ∷ []) ≡ length log + 1 = length-append log (m ∷ []) in let l = g.longer in omega arith;
  justified = λ claims all. justified_more terms claims log m (g.justified claims all) (ap (λ w. is_reason terms claims (current log) w m.left m.right) why ∙ c);
}

pub grown_more : (terms : List Applied) (old log : List Merge) (a b : ℕ) → Grown terms old log → are_congruent terms (current log) a b ≡ true → Grown terms old (with_merge log a b Congruence)
grown_more terms old log a b g c = with_cases (Grown terms old) log a b Congruence (λ e. g) (grown_step terms old log record { left = a; right = b; reason = Congruence; moved = current log a } g refl c)

pub grown_on : (terms : List Applied) (old mid new : List Merge) → Grown terms old mid → Grown terms mid new → Grown terms old new
grown_on terms old mid new g h = record {
  front =
      let l = g.longer in
      sym (take-take (length old) (length mid) new l)
      ∙ ap (take (length old)) h.front ∙ g.front;
  longer = let l = g.longer in let k = h.longer in omega arith;
  justified = λ claims all. h.justified claims (g.justified claims all);
}

-- congruence is the same either way
flip_one : (m n : ℕ) (p q : Bool) → (p ≡ true → q ≡ true) → (nat_eq m n && p) ≡ true → (nat_eq n m && q) ≡ true
flip_one m n p q f e = go (nat_eq m n) refl e
  where
    go : (t : Bool) → nat_eq m n ≡ t → (t && p) ≡ true → (nat_eq n m && q) ≡ true
    go true is rest = ap (λ b. b && q) (eq-eqb _ _ (sym (eqb-true _ _ is))) ∙ f rest
    go false is rest = absurd (let h : false ≡ true = rest in cc)

flipped_all : (f : ℕ → ℕ) (xs ys : List ℕ) → all_same f xs ys ≡ true → all_same f ys xs ≡ true
flipped_all f [] [] e = refl
flipped_all f [] (y ∷ ys) e = absurd (let h : false ≡ true = e in cc)
flipped_all f (x ∷ xs) [] e = absurd (let h : false ≡ true = e in cc)
flipped_all f (x ∷ xs) (y ∷ ys) e = flip_one (f x) (f y) (all_same f xs ys) (all_same f ys xs) (flipped_all f xs ys) e

pub flipped : (f : ℕ → ℕ) (s t : Option Applied) → alike f s t ≡ true → alike f t s ≡ true
flipped f (Some s) (Some t) e = flip_one s.head t.head (all_same f s.parts.items t.parts.items) (all_same f t.parts.items s.parts.items) (flipped_all f s.parts.items t.parts.items) e
flipped f None t e = absurd (let h : false ≡ true = e in cc)
flipped f (Some s) None e = absurd (let h : false ≡ true = e in cc)

alike_second : (f : ℕ → ℕ) (s t : Option Applied) → t ≡ None → alike f s t ≡ true → ⊥
alike_second f (Some s) t e h = let g : false ≡ true = sym (ap (alike f (Some s)) e) ∙ h in cc
alike_second f None t e h = let g : false ≡ true = h in cc

-- a term that is congruent to another has a number
pub congruent_within : (terms : List Applied) (f : ℕ → ℕ) (a b : ℕ) → are_congruent terms f a b ≡ true → b < length terms
congruent_within terms f a b e = elim (cases_lt b (length terms)) [
  | inl lt ↦ lt
  | inr le ↦ absurd (alike_second f (slice_get terms a) (slice_get terms b) (slice_get_past terms b le) e)
]

-- one more merge, whichever class was turned
pub grown_merged : (terms : List Applied) (old log new : List Merge) (a b : ℕ) → Grown terms old log → are_congruent terms (current log) a b ≡ true → IsMerged log a b Congruence new → Grown terms old new
grown_merged terms old log new a b g c (inl e) = subst (Grown terms old) (sym e) (grown_more terms old log a b g c)
grown_merged terms old log new a b g c (inr e) = subst (Grown terms old) (sym e) (grown_more terms old log b a g (flipped (current log) (slice_get terms a) (slice_get terms b) c))
