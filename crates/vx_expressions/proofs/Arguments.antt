-- Arguments, one after another.
use Rattle.std.proofs.Common.{◌≡◌, ◌∙◌, refl, sym, ap, subst, ℕ, zero, suc, ◌+◌, ◌<◌, ◌≤◌, ◌⊎◌, inl, inr, Bool, true, false, ◌||◌, List, [], ◌∷◌, length, drop, get_or, Ok, arith, add-one}
use Rattle.std.proofs.Math.Seq.{drop-cons}
use Rattle.std.proofs.lemmas.List.{get_or-map, length-map}
use Rattle.std.proofs.Math.Dec.{leb}
use Rattle.std.proofs.lemmas.Bool.{leb-true, leb-false, false≢true}
use Rattle.std.specs.declared.alloc.Global.{Global}
use Rattle.std.specs.declared.rc.Rc.{Rc}
use Rattle.vx_ast.specs.declared.Declaration.{Declaration}
use Rattle.vx_ast.specs.declared.Expr as expr
use Rattle.vx_ast.specs.declared.ValueType.{ValueType}
use Rattle.vx_ast.specs.Written.{Exprs, NoMore, More, written_expr, written_all}
use Rattle.vx_expressions.specs.Places.{place_of}
use Rattle.vx_expressions.specs.Views.{types_of}
use Rattle.std.specs.Prelude.{⊤}
use Rattle.vx_ast.specs.declared.Place.{Place}
use Rattle.vx_expressions.specs.declared.fault.TypeFault as fault'
use Rattle.vx_expressions.specs.Gives.{Fails}
use Rattle.vx_expressions.proofs.Fails.{fails_on}
use Rattle.vx_expressions.specs.Faults.{Checked, ◌>>=◌, expect, arguments_fit}

pub drop_past : {X : Type 0} (xs : List X) (i : ℕ) → length xs ≤ i → drop i xs ≡ []
drop_past [] zero le = refl
drop_past [] (suc i) le = refl
drop_past (x ∷ xs) zero le = absurd (omega (arith, le))
drop_past (x ∷ xs) (suc i) le = drop_past xs i (omega (arith, le))

none_found : (es : Exprs) (ts : List ValueType) → arguments_fit es [] ts ≡ Ok tt
none_found NoMore ts = refl
none_found (More e es) ts = refl

none_expected : (es : Exprs) (us : List ValueType) → arguments_fit es us [] ≡ Ok tt
none_expected NoMore us = refl
none_expected (More e es) [] = refl
none_expected (More e es) (u ∷ us) = refl

none_given : (us ts : List ValueType) → arguments_fit NoMore us ts ≡ Ok tt
none_given us ts = refl

either : (a b : Bool) → (a || b) ≡ true → (a ≡ true) ⊎ (b ≡ true)
either true b e = inl refl
either false b e = inr e

-- one of the lists is at its end
pub ended : (es : List (Rc expr.Expr Global)) (found : List ValueType) (ds : List Declaration) (i : ℕ) → (leb (length found) i || leb (length ds) i) ≡ true →
    arguments_fit (written_all (drop i es)) (drop i found) (drop i (types_of ds)) ≡ Ok tt
ended es found ds i e = go (either (leb (length found) i) (leb (length ds) i) e)
  where
    go : (leb (length found) i ≡ true) ⊎ (leb (length ds) i ≡ true) → arguments_fit (written_all (drop i es)) (drop i found) (drop i (types_of ds)) ≡ Ok tt
    go (inl a) = ap (λ us. arguments_fit (written_all (drop i es)) us (drop i (types_of ds))) (drop_past found i (leb-true (length found) i a)) ∙ none_found (written_all (drop i es)) (drop i (types_of ds))
    go (inr b) = ap (λ ts. arguments_fit (written_all (drop i es)) (drop i found) ts) (drop_past (types_of ds) i (subst (λ n. n ≤ i) (sym (length-map ds (λ d. d.value_type))) (leb-true (length ds) i b))) ∙ none_expected (written_all (drop i es)) (drop i found)

pub all_given : (es : List (Rc expr.Expr Global)) (found : List ValueType) (ts : List ValueType) (i : ℕ) → length es ≤ i → arguments_fit (written_all (drop i es)) (drop i found) (drop i ts) ≡ Ok tt
all_given es found ts i past = ap (λ xs. arguments_fit (written_all xs) (drop i found) (drop i ts)) (drop_past es i past)

-- one more argument is looked at
pub next : (es : List (Rc expr.Expr Global)) (found : List ValueType) (ds : List Declaration) (i : ℕ) (e : Rc expr.Expr Global) (u : ValueType) (d : Declaration) → i < length es → i < length found → i < length ds →
    e ≡ get_or es i e → u ≡ get_or found i u → d ≡ get_or ds i d →
    arguments_fit (written_all (drop i es)) (drop i found) (drop i (types_of ds)) ≡ (expect (place_of (written_expr e.value)) d.value_type u >>= λ _. arguments_fit (written_all (drop (i + 1) es)) (drop (i + 1) found) (drop (i + 1) (types_of ds)))
next es found ds i e u d in_es in_found in_ds is_e is_u is_d =
    ap (λ xs. arguments_fit (written_all xs) (drop i found) (drop i (types_of ds))) (drop-cons es i e in_es ∙ ap (λ x. x ∷ drop (suc i) es) (sym is_e))
    ∙ ap (λ us. arguments_fit (More (written_expr e.value) (written_all (drop (suc i) es))) us (drop i (types_of ds))) (drop-cons found i u in_found ∙ ap (λ x. x ∷ drop (suc i) found) (sym is_u))
    ∙ ap (λ ts. arguments_fit (More (written_expr e.value) (written_all (drop (suc i) es))) (u ∷ drop (suc i) found) ts)
    (drop-cons (types_of ds) i d.value_type (subst (λ n. i < n) (sym (length-map ds (λ d. d.value_type))) in_ds)
    ∙ ap (λ x. x ∷ drop (suc i) (types_of ds)) (get_or-map (λ (d : Declaration). d.value_type) ds i d d.value_type in_ds ∙ ap (λ (d : Declaration). d.value_type) (sym is_d)))
    ∙ ap (λ k. expect (place_of (written_expr e.value)) d.value_type u >>= λ _. arguments_fit (written_all (drop k es)) (drop k found) (drop k (types_of ds))) (sym (add-one i))

neither : (a b : Bool) → (a || b) ≡ false → (a ≡ false) × (b ≡ false)
neither true b e = absurd (false≢true (sym e))
neither false b e = (refl, e)

-- none of the lists is at its end
pub go_on : (n m i : ℕ) → (leb n i || leb m i) ≡ false → (i < n) × (i < m)
go_on n m i e = let both = neither (leb n i) (leb m i) e in (leb-false n i both.0, leb-false m i both.1)

pub fits : (es : List (Rc expr.Expr Global)) (found : List ValueType) (ds : List Declaration) (i : ℕ) (e : Rc expr.Expr Global) (u : ValueType) (d : Declaration) (at : Place) (whole : Checked ⊤) → i < length es → (leb (length found) i || leb (length ds) i) ≡ false →
    e ≡ get_or es i e → u ≡ get_or found i u → d ≡ get_or ds i d → at ≡ place_of (written_expr e.value) → expect at d.value_type u ≡ Ok tt →
    whole ≡ arguments_fit (written_all (drop i es)) (drop i found) (drop i (types_of ds)) → whole ≡ arguments_fit (written_all (drop (i + 1) es)) (drop (i + 1) found) (drop (i + 1) (types_of ds))
fits es found ds i e u d at whole in_es on is_e is_u is_d is_at ok before =
    let within = go_on (length found) (length ds) i on in
    before ∙ next es found ds i e u d in_es within.0 within.1 is_e is_u is_d
    ∙ ap (λ x. x >>= λ _. arguments_fit (written_all (drop (i + 1) es)) (drop (i + 1) found) (drop (i + 1) (types_of ds))) (ap (λ p. expect p d.value_type u) (sym is_at) ∙ ok)

pub fits_not : (es : List (Rc expr.Expr Global)) (found : List ValueType) (ds : List Declaration) (i : ℕ) (e : Rc expr.Expr Global) (u : ValueType) (d : Declaration) (at : Place) (whole : Checked ⊤) → i < length es → (leb (length found) i || leb (length ds) i) ≡ false →
    e ≡ get_or es i e → u ≡ get_or found i u → d ≡ get_or ds i d → at ≡ place_of (written_expr e.value) → (f : fault'.TypeFault) → Fails f (expect at d.value_type u) →
    whole ≡ arguments_fit (written_all (drop i es)) (drop i found) (drop i (types_of ds)) → Fails f whole
fits_not es found ds i e u d at whole in_es on is_e is_u is_d is_at f fails before =
    let within = go_on (length found) (length ds) i on in
    subst (Fails f) (sym (before ∙ next es found ds i e u d in_es within.0 within.1 is_e is_u is_d))
    (fails_on f (expect (place_of (written_expr e.value)) d.value_type u) _ (subst (λ p. Fails f (expect p d.value_type u)) is_at fails))
