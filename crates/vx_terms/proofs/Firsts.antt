-- Terms whose other parts are the same are the same where their first parts are; of a choice that is its first branch.
use Rattle.std.proofs.Common.{◌≡◌, ℕ, ◌+◌, ◌<◌, ◌≤◌, ◌&&◌, Bool, true, false, refl, sym, subst, rules, arith}
use Rattle.std.specs.declared.alloc.Global.{Global}
use Rattle.std.specs.declared.rc.Rc.{Rc}
use Rattle.vx_terms.specs.declared.sort.Sort.{Sort}
use Rattle.vx_terms.specs.declared.term.Symbol.{Symbol}
use Rattle.vx_terms.specs.declared.term.Operator.{Operator}
use Rattle.vx_terms.specs.declared.term.Term.{Term, size-Term, Apply, Binary, Ite}
use Rattle.vx_terms.specs.declared.term.Terms.{Terms, size-Terms, More}
use Rattle.vx_terms.specs.declared.term.Term.TheViews.{the_lemmas}
use Rattle.vx_terms.specs.Sorts.{same_sort, same_symbol, same_operator}
use Rattle.vx_terms.specs.Terms.{same, same_all}
use Rattle.vx_terms.specs.Views.{sort, symbol, operator, term, terms}

pub and_false : (a : Bool) → (a && false) ≡ false
and_false true = refl
and_false false = refl

pub and_true : (a : Bool) → (a && true) ≡ a
and_true true = refl
and_true false = refl

pub below_apply : (l : Term) (f : Symbol) (a : Sort) (ts : Rc Terms Global) (t : Rc Term Global) (rest : Rc Terms Global) → l ≡ Apply f a ts → ts.value ≡ More t rest → size-Term t.value ≤ size-Term l
below_apply l f a ts t rest e more = subst (λ y. size-Term t.value ≤ size-Term y) (sym e) (search (rules, the_lemmas))

pub below_binary : (l : Term) (o : Operator) (t s : Rc Term Global) → l ≡ Binary o t s → size-Term t.value ≤ size-Term l
below_binary l o t s e = subst (λ y. size-Term t.value ≤ size-Term y) (sym e) (search (rules, the_lemmas))

pub below_ite : (l : Term) (c t s : Rc Term Global) → l ≡ Ite c t s → size-Term t.value ≤ size-Term l
below_ite l c t s e = subst (λ y. size-Term t.value ≤ size-Term y) (sym e) (search (rules, the_lemmas))

pub condition_below : (l : Term) (c t s : Rc Term Global) (x : Term) → l ≡ Ite c t s → x ≡ c.value → size-Term x < size-Term l
condition_below l c t s x e is = rw (e, is) (search (rules, the_lemmas))

pub branch_below : (l : Term) (c t s : Rc Term Global) (x : Term) → l ≡ Ite c t s → x ≡ t.value → size-Term x < size-Term l
branch_below l c t s x e is = rw (e, is) (search (rules, the_lemmas))

pub other_below : (l : Term) (c t s : Rc Term Global) (x : Term) → l ≡ Ite c t s → x ≡ s.value → size-Term x < size-Term l
other_below l c t s x e is = rw (e, is) (search (rules, the_lemmas))

pub item_below : (l : Terms) (t : Rc Term Global) (rest : Rc Terms Global) (x : Term) → l ≡ More t rest → x ≡ t.value → size-Term x < size-Terms l
item_below l t rest x e is = rw (e, is) (search (rules, the_lemmas))

pub rest_below : (l : Terms) (t : Rc Term Global) (rest : Rc Terms Global) (x : Terms) → l ≡ More t rest → x ≡ rest.value → size-Terms x < size-Terms l
rest_below l t rest x e is = rw (e, is) (search (rules, the_lemmas))

pub falls : (a b d t : ℕ) → a < b → b ≤ d → d ≡ t → a < t
falls a b d t below within is = omega arith

pub both_fall : (a b d e : ℕ) → a < b → d < e → a + d < b + e
both_fall a b d e first second = omega arith

pub stays : (a b d : ℕ) → a < b → b ≤ d → a ≤ d
stays a b d below within = omega arith

pub more_on : (l r x y : Terms) (t u : Rc Term Global) (rest others : Rc Terms Global) → l ≡ More t rest → r ≡ More u others → x ≡ rest.value → y ≡ others.value → same (term t.value) (term u.value) ≡ true
    → same_all (terms x) (terms y) ≡ same_all (terms l) (terms r)
more_on l r x y t u rest others el er ex ey e = rw (el, er, ex, ey, e) refl

pub apply_on : (l r : Term) (f g : Symbol) (a b : Sort) (ts us : Rc Terms Global) (t u : Rc Term Global) (rest others : Rc Terms Global)
    → l ≡ Apply f a ts → r ≡ Apply g b us → ts.value ≡ More t rest → us.value ≡ More u others
    → same_symbol (symbol f) (symbol g) ≡ true → same_sort (sort a) (sort b) ≡ true → same_all (terms rest.value) (terms others.value) ≡ true
    → same (term t.value) (term u.value) ≡ same (term l) (term r)
apply_on l r f g a b ts us t u rest others el er et eu ef ea eo = rw (el, er, et, eu, ef, ea, eo) (sym (and_true _))

pub binary_on : (l r : Term) (o p : Operator) (t s u v : Rc Term Global) → l ≡ Binary o t s → r ≡ Binary p u v
    → same_operator (operator o) (operator p) ≡ true → same (term s.value) (term v.value) ≡ true
    → same (term t.value) (term u.value) ≡ same (term l) (term r)
binary_on l r o p t s u v el er eo es = rw (el, er, eo, es) (sym (and_true _))

pub ite_on : (l r : Term) (c t s d u v : Rc Term Global) → l ≡ Ite c t s → r ≡ Ite d u v
    → same (term c.value) (term d.value) ≡ true → same (term s.value) (term v.value) ≡ true
    → same (term t.value) (term u.value) ≡ same (term l) (term r)
ite_on l r c t s d u v el er ec es = rw (el, er, ec, es) (sym (and_true _))
