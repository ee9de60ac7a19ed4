-- Steps that follow, as claims are named and steps are added.
use Rattle.std.proofs.Common.{◌≡◌, ℕ, inl, inr, true, List, [], ◌∷◌, ◌++◌, length, take, slice_get, Some, None, refl, sym, ◌∙◌, ap, subst, arith}
use Rattle.std.specs.List.{Contains}
use Rattle.std.proofs.lemmas.Bool.{cases_eq, cases_lt}
use Rattle.std.proofs.lemmas.List.{take-append-le, take_all}
use Rattle.std.proofs.lemmas.List.Elements.{Contains-append_left, Contains-push_cases}
use Rattle.std.proofs.lemmas.Option.{same_Some}
use Rattle.cs_cong.specs.declared.congruent.Applied.{Applied}
use Rattle.cs_cong.specs.declared.congruent.Claim.{Claim}
use Rattle.cs_cong.specs.declared.explain.Derived.{Derived}
use Rattle.cs_cong.specs.declared.explain.Derived.TheVariants.{Path, Congruent}
use Rattle.cs_cong.specs.Joined.{is_claimed}
use Rattle.cs_cong.specs.Explained.{last, Ends, AreJoinedBy, IsKnown, by_claim, by_step, turned, IsChain, alone, linked, Follows, IsDerivation}
use Rattle.cs_cong.specs.Needed.{KeepsSteps}
use Rattle.cs_cong.proofs.Stages.{get_front, get_last, get_past}

pub joined_more : (old new : List Derived) → KeepsSteps old new → (a b : ℕ) → AreJoinedBy old a b → AreJoinedBy new a b
joined_more old new kept a b j = (j.0, kept j.0 j.1, j.2)

pub known_more : (claims : List Claim) (ns ms : List ℕ) (old new : List Derived) → ((i : ℕ) → Contains ns i → Contains ms i) → KeepsSteps old new →
    (a b : ℕ) → IsKnown claims ns old a b → IsKnown claims ms new a b
known_more claims ns ms old new f g a b (by_claim i in' e) = by_claim i (f i in') e
known_more claims ns ms old new f g a b (by_step j) = by_step (joined_more old new g a b j)
known_more claims ns ms old new f g a b (turned h) = turned (known_more claims ns ms old new f g b a h)

chain_more : (claims : List Claim) (ns ms : List ℕ) (steps : List Derived) → ((i : ℕ) → Contains ns i → Contains ms i) →
    (a b : ℕ) (xs : List ℕ) → IsChain claims ns steps a xs b → IsChain claims ms steps a xs b
chain_more claims ns ms steps f a b xs (alone z) = alone z
chain_more claims ns ms steps f a b xs (linked {b = y} {rest = rest} k on) = linked (known_more claims ns ms steps steps f (λ d h. h) a y k) (chain_more claims ns ms steps f y b rest on)

follows_more : (terms : List Applied) (claims : List Claim) (ns ms : List ℕ) (steps : List Derived) → ((i : ℕ) → Contains ns i → Contains ms i) →
    (d : Derived) → Follows terms claims ns steps d → Follows terms claims ms steps d
follows_more terms claims ns ms steps f (Path path) h = (h.0, h.1, chain_more claims ns ms steps f h.0 h.1 path.items h.2)
follows_more terms claims ns ms steps f (Congruent a b) h = h

-- one claim more is named
pub named_more : (terms : List Applied) (claims : List Claim) (ns : List ℕ) (i a b : ℕ) (steps : List Derived) → is_claimed claims i a b ≡ true →
    IsDerivation terms claims ns steps → IsDerivation terms claims (ns ++ i ∷ []) steps
named_more terms claims ns i a b steps e d = record {
  claimed = λ j in'. elim (Contains-push_cases ns i j in') [
    | inl before ↦ d.claimed j before
    | inr is ↦ (a, b, subst (λ k. is_claimed claims k a b ≡ true) is e)
  ];
  each = λ n s at. follows_more terms claims ns (ns ++ i ∷ []) (take n steps) (λ j. Contains-append_left ns (i ∷ []) j) s (d.each n s at);
}

-- one step more
pub one_step : (terms : List Applied) (claims : List Claim) (named : List ℕ) (steps : List Derived) (d : Derived) →
    Follows terms claims named steps d → IsDerivation terms claims named steps → IsDerivation terms claims named (steps ++ d ∷ [])
one_step terms claims named steps d f is = record {
  claimed = is.claimed;
  each = λ n e at. elim (cases_lt n (length steps)) [
    | inl lt ↦
        subst (λ l. Follows terms claims named l e) (sym (take-append-le n steps (d ∷ []) (omega arith)))
        (is.each n e (sym (get_front steps (d ∷ []) n lt) ∙ at))
    | inr le ↦ elim (cases_eq n (length steps)) [
      | inl same ↦
          let here : d ≡ e = same_Some d e (sym (get_last steps d) ∙ ap (slice_get (steps ++ d ∷ [])) (sym same) ∙ at) in
          let front : steps ≡ take n (steps ++ d ∷ []) = sym (take_all n steps (omega arith)) ∙ sym (take-append-le n steps (d ∷ []) (omega arith)) in
          subst (λ l. Follows terms claims named l e) front (subst (Follows terms claims named steps) here f)
      | inr other ↦ absurd (let none : None ≡ Some e = sym (get_past steps d n (omega arith)) ∙ at in cc)
    ]
  ];
}

-- a chain has its ends
pub chain_ends : (claims : List Claim) (named : List ℕ) (steps : List Derived) (a b : ℕ) (xs : List ℕ) → IsChain claims named steps a xs b → Ends xs a b
chain_ends claims named steps a b xs (alone z) = (refl, refl)
chain_ends claims named steps a b xs (linked {b = y} {rest = rest} k on) = (refl, behind rest (chain_ends claims named steps y b rest on))
  where
    behind : (ys : List ℕ) → Ends ys y b → last a ys ≡ b
    behind [] e = absurd e
    behind (z ∷ zs) e = e.1

pub kept_push : (steps : List Derived) (d : Derived) → KeepsSteps steps (steps ++ d ∷ [])
kept_push steps d e = Contains-append_left steps (d ∷ []) e
