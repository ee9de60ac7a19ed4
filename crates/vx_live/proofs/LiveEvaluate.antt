-- Expressions ask well-sorted questions, and give terms of their types' sorts.
use Rattle.std.proofs.Common.{◌≡◌, ℕ, true, false, cond, ◌&&◌, inl, inr, pos, [], ◌∷◌, List, Some, refl, sym, ◌∙◌, ap, subst}
use Rattle.vx_ast.specs.declared.Place.{Place}
use Rattle.vx_ast.specs.declared.ValueType.{ValueType}
use Rattle.vx_ast.specs.Syntax.{Name, Declaration, Program, Predicate, Function, predicate_named, function_named, Operator, Equal, Less, LessEqual, Greater, GreaterEqual, Add, Subtract, Multiply, Division, Quotient, Remainder, Connective, And, Or, Implies, Expr, Exprs}
use Rattle.vx_frac.specs.Fractions.{whole, over, lowest}
use Rattle.vx_frac.proofs.Lowest.{lowest-lowest}
use Rattle.vx_frac.proofs.Whole.{lowest_whole}
use Rattle.vx_terms.specs.Sorts.{IntSort, BoolSort, RealSort, same_sort}
use Rattle.vx_terms.specs.Terms.{Term}
use Rattle.vx_terms.specs.Terms as term
use Rattle.vx_terms.specs.Build.{true_term, false_term, negate, equals, less, ite, multiply, null, zero_amount}
use Rattle.vx_terms.proofs.Values.{sort_of_formed}
use Rattle.vx_smt_meaning.specs.Commands.{Declared}
use Rattle.vx_rules.specs.States as rules
use Rattle.vx_rules.specs.States.{sort_of_type}
use Rattle.vx_rules.specs.Trees.{DivisorCode, AmountCode, Step}
use Rattle.vx_rules.specs.Rules as rule
use Rattle.vx_rules.specs.Rules.{Giving, Going, GivingAll, Outer, short, is_total, placed, applied, unfolded, eval, evals}
use Rattle.vx_types.specs.Typing.{Scope, TakesType, gives_type, HasType, HaveTypes, no_more, more, variable, nulls, part, nots, operates, scales, divides, connects, chooses, reads, olds, applies, unfoldings}
use Rattle.vx_types.specs.Typing as typed
use Rattle.vx_elements.proofs.Elements.{as_amount_is, numeric}
use Rattle.vx_elements.proofs.Values.{sort_of_field, field_type_is}
use Rattle.vx_live.proofs.Speaks.{Speaks, AllSpeak}
use Rattle.vx_live.proofs.Over.{Sorts, stays, above, Fine, fine_later, truth_fine, number_fine, null_fine, part_fine, positive_fine, negate_fine, and_fine, or_fine, implies_fine, equals_fine, ite_fine, less_fine, less_equal_fine, add_fine, subtract_fine, multiply_fine, div_fine, modulo_fine}
use Rattle.vx_live.proofs.Shapes.{AllFine, Shaped, with_chunks, found_formed}
use Rattle.vx_live.proofs.LiveSteps.{Saying, LiveBy, Follows, FollowsWith, FollowsAll, live_case, ask_live, fork_live}
use Rattle.vx_live.proofs.LiveSums.{read_live}

-- Operators

operated_fine : {fs : List Declared} {sorts : Sorts fs} {n : ℕ} {t u : Term} (op : Operator) (a : ValueType) → TakesType op a → Fine sorts n t (sort_of_type a) → Fine sorts n u (sort_of_type a) → Fine sorts n (rule.operated op t u) (sort_of_type (gives_type op a))
operated_fine Equal a k f g = equals_fine f g
operated_fine Less a k f g = less_fine (numeric k) f g
operated_fine LessEqual a k f g = less_equal_fine (numeric k) f g
operated_fine Greater a k f g = less_fine (numeric k) g f
operated_fine GreaterEqual a k f g = less_equal_fine (numeric k) g f
operated_fine Add a k f g = add_fine (numeric k) f g
operated_fine Subtract a k f g = subtract_fine (numeric k) f g
operated_fine {sorts = sorts} {n = n} {t = t} {u = u} Multiply a k f g =
    subst (λ s. Fine sorts n (multiply s u) (sort_of_type a)) (sym (as_amount_is t u (sort_of_formed g.formed ∙ ap sort_of_type k))) (multiply_fine (inl (ap sort_of_type k)) f g)

divided_fine : {fs : List Declared} {sorts : Sorts fs} {n : ℕ} {t u : Term} (op : Division) → Fine sorts n t IntSort → Fine sorts n u IntSort → Fine sorts n (rule.divided op t u) IntSort
divided_fine Quotient f g = div_fine f g
divided_fine Remainder f g = modulo_fine f g

connected_fine : {fs : List Declared} {sorts : Sorts fs} {n : ℕ} {t u : Term} (c : Connective) → Fine sorts n t BoolSort → Fine sorts n u BoolSort → Fine sorts n (rule.connected c t u) BoolSort
connected_fine And f g = and_fine f g
connected_fine Or f g = or_fine f g
connected_fine Implies f g = implies_fine f g

short_live : {fs : List Declared} (P : Saying) {p : Program} {sorts : Sorts fs} {scope : Scope} {s : rules.State} (c : Connective) (t : Term) (further : Going) (on : Giving) → Shaped p sorts scope s → Fine sorts s.next t BoolSort →
    Follows P p sorts s.next scope further → FollowsWith P p sorts s.next scope BoolSort on → LiveBy fs P (short c t s further on)
short_live P And t further on sh f h k = fork_live P t further (on false_term) sh f h (λ s le sh. k false_term s le sh (truth_fine false))
short_live P Or t further on sh f h k = fork_live P t (on true_term) further sh f (λ s le sh. k true_term s le sh (truth_fine true)) h
short_live P Implies t further on sh f h k = fork_live P t further (on true_term) sh f h (λ s le sh. k true_term s le sh (truth_fine true))

-- what is shown of an instance that is exchanged for its body, over rules for the parts of others
abbrev pub UnfoldsLive : List Declared → Saying → Program → (Name → Type 0) → Outer → Type 0
UnfoldsLive fs P p Held o =
    (i : Name) (d : Predicate) → Held i → predicate_named p i ≡ Some d → (scope : Scope) (at : Place) (ts : List Term) (a : Term) (sorts : Sorts fs) (s : rules.State) (on : Going) → Shaped p sorts scope s → AllFine sorts s.next d.parameters ts →
    Fine sorts s.next a RealSort → Follows P p sorts s.next scope on → LiveBy fs P (unfolded p o at i ts a s on)

-- and of an application
abbrev pub AppliesLive : List Declared → Saying → Program → (Name → Type 0) → Outer → Type 0
AppliesLive fs P p Held o =
    (f : Name) (g : Function) → Held f → function_named p f ≡ Some g → (scope : Scope) (at : Place) (ts : List Term) (sorts : Sorts fs) (s : rules.State) (on : Giving) → Shaped p sorts scope s → AllFine sorts s.next g.parameters ts →
    FollowsWith P p sorts s.next scope (sort_of_type g.of) on → LiveBy fs P (applied p o at f ts s on)

pub record PartsLive (fs : List Declared) (P : Saying) (p : Program) (Held : Name → Type 0) (o : Outer) : Type 0 where
  pub unfolds : UnfoldsLive fs P p Held o
  pub applies : AppliesLive fs P p Held o

module _ {fs : List Declared} (P : Saying) (p : Program) (Held : Name → Type 0) (o : Outer) (parts : PartsLive fs P p Held o) where
  mutual
    pub eval_live : {scope : Scope} {e : Expr} {t : ValueType} → HasType p scope e t → Speaks Held e → {sorts : Sorts fs} {s : rules.State} (on : Giving) → Shaped p sorts scope s →
        FollowsWith P p sorts s.next scope (sort_of_type t) on → LiveBy fs P (eval p o e s on)
    eval_live (typed.number at n) k {s = s} on sh h = h (term.Number (pos n)) s stays sh (number_fine (pos n))
    eval_live (typed.truth {b = b}) k {s = s} on sh h = h (term.Truth b) s stays sh (truth_fine b)
    eval_live {scope = scope} {t = t} (variable at x e) k {s = s} on sh h = h (rules.found x s.store) s stays sh (found_formed x t scope s.store sh.store e)
    eval_live (nots a) k on sh h = eval_live a k _ sh (λ t s le sh1 f. h (negate t) s le sh1 (negate_fine f))
    eval_live (operates {op = op} {b = b} {t = a} w ta tb) k on sh h =
        eval_live ta k.0 _ sh (λ t s1 le sh1 f.
        eval_live tb k.1 _ sh1 (λ u s2 le2 sh2 g.
        h (rule.operated op t u) s2 (above le le2) sh2 (operated_fine op a w (fine_later le2 f) g)))
    eval_live (scales place n tb) k on sh h =
        eval_live tb k.1 _ sh (λ u s1 le sh1 f.
        h (rule.operated Multiply (term.Number (pos n)) u) s1 le sh1
        (subst (λ s. Fine le.sorts s1.next (multiply (cond (same_sort s RealSort) (term.Part (whole (pos n))) (term.Number (pos n))) u) RealSort) (sym (sort_of_formed f.formed))
        (multiply_fine (inr refl) (part_fine (whole (pos n)) (lowest_whole (pos n))) f)))
    eval_live (divides {op = op} {b = b} ta tb) k on sh h =
        eval_live ta k.0 _ sh (λ t s1 le sh1 f.
        eval_live tb k.1 _ sh1 (λ u s2 le2 sh2 g.
        ask_live P (negate (equals u (term.Number (pos 0)))) _ DivisorCode (on (rule.divided op t u)) sh2 (negate_fine (equals_fine g (number_fine (pos 0)))) (λ s3 le3 sh3.
        h (rule.divided op t u) s3 (above le (above le2 le3)) sh3 (divided_fine op (fine_later (above le2 le3) f) (fine_later le3 g)))))
    eval_live (connects {c = d} {a = a} {b = b} ta tb) k {s = s} on sh h = live_case _ P (is_total b) _ _
        (eval_live ta k.0 _ sh (λ t s1 le sh1 f.
        eval_live tb k.1 _ sh1 (λ u s2 le2 sh2 g.
        h (rule.connected d t u) s2 (above le le2) sh2 (connected_fine d (fine_later le2 f) g))))
        (eval_live ta k.0 _ sh (λ t s1 le sh1 f.
        short_live P d t (λ s2. eval p o b s2 on) on sh1 f
        (λ s2 le2 sh2. eval_live tb k.1 on sh2 (λ u s3 le3 sh3 g. h u s3 (above le (above le2 le3)) sh3 g))
        (λ u s2 le2 sh2 g. h u s2 (above le le2) sh2 g)))
    eval_live (chooses {c = d} {a = a} {b = b} td ta tb) k on sh h = live_case _ P (is_total a && is_total b) _ _
        (eval_live td k.0 _ sh (λ t s1 le sh1 f.
        eval_live ta k.1 _ sh1 (λ u s2 le2 sh2 g.
        eval_live tb k.2 _ sh2 (λ v s3 le3 sh3 l.
        h (ite t u v) s3 (above le (above le2 le3)) sh3 (ite_fine (fine_later (above le2 le3) f) (fine_later le3 g) l)))))
        (eval_live td k.0 _ sh (λ t s1 le sh1 f.
        fork_live P t (λ s2. eval p o a s2 on) (λ s2. eval p o b s2 on) sh1 f
        (λ s2 le2 sh2. eval_live ta k.1 on sh2 (λ u s3 le3 sh3 g. h u s3 (above le (above le2 le3)) sh3 g))
        (λ s2 le2 sh2. eval_live tb k.2 on sh2 (λ u s3 le3 sh3 g. h u s3 (above le (above le2 le3)) sh3 g))))
    eval_live (nulls at) k {s = s} on sh h = h null s stays sh null_fine
    eval_live (part at n d l) k {s = s} on sh h = h (term.Part (lowest (over n d))) s stays sh (part_fine (lowest (over n d)) (lowest-lowest (over n d)))
    eval_live (reads {at = at} f {t = t} named te) k on sh h =
        eval_live te k _ sh (λ r s1 le sh1 g.
        read_live P f r (placed s1 at) on sh1 g (λ u s2 le2 sh2 f2. h u s2 (above le le2) sh2 (subst (λ a. Fine le2.sorts s2.next u a) (sort_of_field p f ∙ ap sort_of_type (field_type_is p f named)) f2)))
    eval_live (olds te) k {s = s} on sh h =
        eval_live te k {s = rules.with_heap s.old s} _ (with_chunks s.old stays sh.old sh) (λ t s1 le sh1 f. h t (rules.with_heap s.heap s1) le (with_chunks s.heap le sh.heap sh1) f)
    eval_live {scope = scope} (applies {at = at} f g named tes) k on sh h =
        evals_live tes k.1 _ sh (λ ts s1 le sh1 fts.
        parts.applies f g k.0 named scope (placed s1 at) ts le.sorts s1 on sh1 fts (λ t s2 le2 sh2 v. h t s2 (above le le2) sh2 v))
    eval_live {scope = scope} (unfoldings {at = at} i {es = es} {e = e} d named tes tq te) k {s = s} on sh h =
        let inside = λ (s4 : rules.State). eval p o e s4 (λ t s5. Step (on t (rules.with_heap s.heap s5))) in
        let exchanged = λ (a : Term) (ts : List Term) (s3 : rules.State). unfolded p o (placed s3 at) i ts a s3 inside in
        eval_live tq k.2 _ sh (λ a s1 le sh1 f.
        ask_live P (less zero_amount a) (placed s1 at) AmountCode (λ s2. evals p o es s2 (exchanged a)) sh1 (positive_fine f) (λ s2 le2 sh2.
        evals_live tes k.1 (exchanged a) sh2 (λ ts s3 le3 sh3 g.
        parts.unfolds i d k.0 named scope (placed s3 at) ts a le3.sorts s3 inside sh3 g (fine_later (above le2 le3) f) (λ s4 le4 sh4.
        eval_live te k.3 (λ t s5. Step (on t (rules.with_heap s.heap s5))) sh4 (λ t s5 le5 sh5 v.
        let past = above le (above le2 (above le3 (above le4 le5))) in
        h t (rules.with_heap s.heap s5) past (with_chunks s.heap past sh.heap sh5) v)))))

    pub evals_live : {scope : Scope} {es : Exprs} {ds : List Declaration} → HaveTypes p scope es ds → AllSpeak Held es → {sorts : Sorts fs} {s : rules.State} (on : GivingAll) → Shaped p sorts scope s →
        FollowsAll P p sorts s.next scope ds on → LiveBy fs P (evals p o es s on)
    evals_live no_more k {s = s} on sh h = h [] s stays sh tt
    evals_live (more ta tas) k on sh h =
        eval_live ta k.0 _ sh (λ t s1 le sh1 f.
        evals_live tas k.1 _ sh1 (λ ts s2 le2 sh2 g.
        h (t ∷ ts) s2 (above le le2) sh2 (fine_later le2 f, g)))
