-- What is gathered of the sides that a quiet walk leaves is true: of the side on the way what is said of it is, and each other has
-- a branch that isn't.
use Rattle.std.proofs.Common.{◌≡◌, ℕ, Bool, true, false, not, cond, List, [], ◌∷◌, ◌++◌, length, drop, Option, Some, None, refl, sym, ◌∙◌, ap, ap₂, subst, le_refl}
use Rattle.vx_meaning.specs.States as run
use Rattle.vx_terms.specs.Terms.{Term, Truth, Number, Part, Constant, Apply, Not, Binary, Ite, AllOf, SomeOf}
use Rattle.vx_terms.specs.Build.{true_term, truth_of, negate, and_by, and, implies_by, implies}
use Rattle.vx_terms.specs.Interpretations.{Each, Interpretation, as_bool, value, IsTrueIn}
use Rattle.vx_terms.proofs.Build.{truth_value}
use Rattle.vx_rules.specs.States.{State, Entry, new_entries, joined_onto, conjunction}
use Rattle.vx_rules.specs.Trees.{Left, Tree, leaves}
use Rattle.vx_rules.specs.Rules.{gathered}
use Rattle.vx_types.specs.Typing.{Scope}
use Rattle.vx_elements.proofs.Settled.{Meaning, Settles, Extends, value_kept, settles_later}
use Rattle.vx_elements.proofs.Built.{and_settled, implies_settled}
use Rattle.vx_sound.proofs.World.{World}
use Rattle.vx_sound.proofs.Stands.{FactStands, PathStands}
use Rattle.vx_live.proofs.Quiet.{Quiet, each_left}
use Rattle.vx_law.proofs.Told.{Walk, On, Off, Told, each_behind}

-- Connectives of any terms

not-not : (b : Bool) → b ≡ not (not b)
not-not true = refl
not-not false = refl

negate_bool : (i : Interpretation) (t : Term) → as_bool (value i (negate t)) ≡ not (as_bool (value i t))
negate_bool i (Truth b) = refl
negate_bool i (Number z) = refl
negate_bool i (Part a) = refl
negate_bool i (Constant f a) = refl
negate_bool i (Apply f a ts) = refl
negate_bool i (Not t) = not-not (as_bool (value i t))
negate_bool i (Binary o t u) = refl
negate_bool i (Ite c t u) = refl
negate_bool i (AllOf ts) = refl
negate_bool i (SomeOf ts) = refl

and_bool : (i : Interpretation) (s t : Term) → as_bool (value i (and s t)) ≡ cond (as_bool (value i s)) (as_bool (value i t)) false
and_bool i s t = go (truth_of s) (truth_of t) refl refl
  where
    on_left : (b : Bool) → as_bool (value i s) ≡ b → as_bool (value i (cond b t (Truth false))) ≡ cond (as_bool (value i s)) (as_bool (value i t)) false
    on_left true e = sym (ap (λ b. cond b (as_bool (value i t)) false) e)
    on_left false e = sym (ap (λ b. cond b (as_bool (value i t)) false) e)

    itself : (b : Bool) → b ≡ cond b true false
    itself true = refl
    itself false = refl

    never : (b : Bool) → false ≡ cond b false false
    never true = refl
    never false = refl

    on_right : (b : Bool) → as_bool (value i t) ≡ b → as_bool (value i (cond b s (Truth false))) ≡ cond (as_bool (value i s)) (as_bool (value i t)) false
    on_right true e = itself (as_bool (value i s)) ∙ sym (ap (λ b. cond (as_bool (value i s)) b false) e)
    on_right false e = never (as_bool (value i s)) ∙ sym (ap (λ b. cond (as_bool (value i s)) b false) e)

    go : (x y : Option Bool) → truth_of s ≡ x → truth_of t ≡ y → as_bool (value i (and_by x y s t)) ≡ cond (as_bool (value i s)) (as_bool (value i t)) false
    go (Some b) y e f = on_left b (truth_value i s b e)
    go None (Some b) e f = on_right b (truth_value i t b f)
    go None None e f = refl

implies_bool : (i : Interpretation) (s t : Term) → as_bool (value i (implies s t)) ≡ cond (as_bool (value i s)) (as_bool (value i t)) true
implies_bool i s t = go (truth_of s) (truth_of t) refl refl
  where
    on_left : (b : Bool) → as_bool (value i s) ≡ b → as_bool (value i (cond b t (Truth true))) ≡ cond (as_bool (value i s)) (as_bool (value i t)) true
    on_left true e = sym (ap (λ b. cond b (as_bool (value i t)) true) e)
    on_left false e = sym (ap (λ b. cond b (as_bool (value i t)) true) e)

    always : (b : Bool) → true ≡ cond b true true
    always true = refl
    always false = refl

    against : (b : Bool) → not b ≡ cond b false true
    against true = refl
    against false = refl

    on_right : (b : Bool) → as_bool (value i t) ≡ b → as_bool (value i (cond b (Truth true) (negate s))) ≡ cond (as_bool (value i s)) (as_bool (value i t)) true
    on_right true e = always (as_bool (value i s)) ∙ sym (ap (λ b. cond (as_bool (value i s)) b true) e)
    on_right false e = negate_bool i s ∙ against (as_bool (value i s)) ∙ sym (ap (λ b. cond (as_bool (value i s)) b true) e)

    go : (x y : Option Bool) → truth_of s ≡ x → truth_of t ≡ y → as_bool (value i (implies_by x y s t)) ≡ cond (as_bool (value i s)) (as_bool (value i t)) true
    go (Some b) y e f = on_left b (truth_value i s b e)
    go None (Some b) e f = on_right b (truth_value i t b f)
    go None None e f = refl

drop_behind : {A : Type 0} (xs ys : List A) → drop (length xs) (xs ++ ys) ≡ ys
drop_behind [] ys = refl
drop_behind (x ∷ xs) ys = drop_behind xs ys

not_both : {b : Bool} → b ≡ true → b ≡ false → ⊥
not_both e f = cc

module _ (means : Meaning) (n : ℕ) where
  -- true, and its value rests on nothing that isn't settled
  pub record Stated (i : Interpretation) (t : Term) : Type 0 where
    pub settled : Settles means n i t
    pub holds : IsTrueIn i t

  -- not true, by what is settled
  record Denied (i : Interpretation) (t : Term) : Type 0 where
    settled : Settles means n i t
    fails : as_bool (value i t) ≡ false

  pub stated_later : {i j : Interpretation} {t : Term} → Extends means n i j → Stated i t → Stated j t
  stated_later {t = t} x k = record { settled = settles_later means t (le_refl n) x k.settled; holds = ap as_bool (value_kept means t k.settled x) ∙ k.holds }

  true_stated : (i : Interpretation) → Stated i true_term
  true_stated i = record { settled = tt; holds = refl }

  both_stated : {i : Interpretation} (s t : Term) → Stated i s → Stated i t → Stated i (and s t)
  both_stated {i = i} s t a b = record { settled = and_settled means n i s t a.settled (λ e. b.settled); holds = and_bool i s t ∙ ap₂ (λ x y. cond x y false) a.holds b.holds }

  left_denied : {i : Interpretation} (s t : Term) → Denied i s → Denied i (and s t)
  left_denied {i = i} s t a = record { settled = and_settled means n i s t a.settled (λ e. absurd (not_both e a.fails)); fails = and_bool i s t ∙ ap (λ x. cond x (as_bool (value i t)) false) a.fails }

  right_denied : {i : Interpretation} (s t : Term) → Stated i s → Denied i t → Denied i (and s t)
  right_denied {i = i} s t a b = record { settled = and_settled means n i s t a.settled (λ e. b.settled); fails = and_bool i s t ∙ ap₂ (λ x y. cond x y false) a.holds b.fails }

  follows_stated : {i : Interpretation} (s t : Term) → Stated i s → Stated i t → Stated i (implies s t)
  follows_stated {i = i} s t a b = record { settled = implies_settled means n i s t a.settled (λ e. b.settled); holds = implies_bool i s t ∙ ap₂ (λ x y. cond x y true) a.holds b.holds }

  vacuous : {i : Interpretation} (s t : Term) → Denied i s → Stated i (implies s t)
  vacuous {i = i} s t a = record { settled = implies_settled means n i s t a.settled (λ e. absurd (not_both e a.fails)); holds = implies_bool i s t ∙ ap (λ x. cond x (as_bool (value i t)) true) a.fails }

  module _ (world : World) (i : Interpretation) where
    -- those of a kind, joined
    entries_stated : (b : Bool) (t : Term) (es : List Entry) → Stated i t → PathStands means world n i es → Stated i (joined_onto t b es)
    entries_stated b t [] k h = k
    entries_stated b t (e ∷ es) k h = go (cond b e.branch (not e.branch)) (entries_stated b (and t e.term) es (both_stated t e.term k (record { settled = h.0.settled; holds = h.0.holds })) h.1) (entries_stated b t es k h.1)
      where
        go : (x : Bool) → Stated i (joined_onto (and t e.term) b es) → Stated i (joined_onto t b es) → Stated i (cond x (joined_onto (and t e.term) b es) (joined_onto t b es))
        go true f g = f
        go false f g = g

    stays_denied : (b : Bool) (t : Term) (es : List Entry) → Denied i t → Denied i (joined_onto t b es)
    stays_denied b t [] k = k
    stays_denied b t (e ∷ es) k = go (cond b e.branch (not e.branch)) (stays_denied b (and t e.term) es (left_denied t e.term k)) (stays_denied b t es k)
      where
        go : (x : Bool) → Denied i (joined_onto (and t e.term) b es) → Denied i (joined_onto t b es) → Denied i (cond x (joined_onto (and t e.term) b es) (joined_onto t b es))
        go true f g = f
        go false f g = g

    -- behind what stands, a branch that isn't true
    turn_denied : (t : Term) (front : List Entry) (turn : Entry) (back : List Entry) → Stated i t → PathStands means world n i front → turn.branch ≡ true → Denied i turn.term → Denied i (joined_onto t true (front ++ turn ∷ back))
    turn_denied t [] turn back k h e f = go turn.branch e
      where
        go : (x : Bool) → x ≡ true → Denied i (cond x (joined_onto (and t turn.term) true back) (joined_onto t true back))
        go true e = stays_denied true (and t turn.term) back (right_denied t turn.term k f)
        go false e = cc
    turn_denied t (a ∷ front) turn back k h e f =
        go a.branch (turn_denied (and t a.term) front turn back (both_stated t a.term k (record { settled = h.0.settled; holds = h.0.holds })) h.1 e f) (turn_denied t front turn back k h.1 e f)
      where
        go : (x : Bool) → Denied i (joined_onto (and t a.term) true (front ++ turn ∷ back)) → Denied i (joined_onto t true (front ++ turn ∷ back)) → Denied i (cond x (joined_onto (and t a.term) true (front ++ turn ∷ back)) (joined_onto t true (front ++ turn ∷ back)))
        go true f g = f
        go false f g = g

  -- what is gathered of one side
  abbrev pub side_fact : State → (Term → Term) → Term → State → Term
  side_fact before said t u = implies (conjunction true (new_entries before u)) (and (conjunction false (new_entries before u)) (said t))

  -- a walk of which facts are gathered
  abbrev pub gathering : (start : State) → Quiet start → (Term → Term) → Walk means n
  gathering start q said = record { start = start; quiet = q; Tells = λ i t u. Stated i (side_fact start said t u); later = λ i j t u x k. stated_later x k }

  module _ (world : World) (start : State) (q : Quiet start) (said : Term → Term) where
    added_is : (u : State) (es : List Entry) → u.path ≡ start.path ++ es → new_entries start u ≡ es
    added_is u es e = ap (drop (length start.path)) e ∙ drop_behind start.path es

    pub on_fact : {scope : Scope} {i : Interpretation} {u : State} {c : run.State} (t : Term) → On means world n (gathering start q said) scope i u c → Stated i (said t) → Stated i (side_fact start said t u)
    on_fact {i = i} {u = u} t on k =
        let es = on.still.path.0 in
        let h : PathStands means world n i es = each_behind (FactStands means world n i) start.path es (subst (λ z. PathStands means world n i z) on.still.path.1 on.quietly.stands.path) in
        subst (λ z. Stated i (implies (conjunction true z) (and (conjunction false z) (said t)))) (sym (added_is u es on.still.path.1))
        (follows_stated (conjunction true es) (and (conjunction false es) (said t)) (entries_stated world i true true_term es (true_stated i) h)
        (both_stated (conjunction false es) (said t) (entries_stated world i false true_term es (true_stated i) h) k))

    pub off_fact : {i : Interpretation} {u : State} (t : Term) → Off means world n (gathering start q said) i u → Stated i (side_fact start said t u)
    off_fact {i = i} {u = u} t o =
        let es = o.front ++ o.turn ∷ o.back in
        subst (λ z. Stated i (implies (conjunction true z) (and (conjunction false z) (said t)))) (sym (added_is u es o.path))
        (vacuous (conjunction true es) (and (conjunction false es) (said t)) (turn_denied world i true_term o.front o.turn o.back (true_stated i) o.before o.branch (record { settled = o.good.settled; fails = o.not_true })))

    gathered_each : (P : Term → Type 0) (ls : List Left) → Each (λ (l : Left). P (side_fact start said l.value l.state)) ls → Each P (gathered start said ls)
    gathered_each P [] h = tt
    gathered_each P (l ∷ ls) h = (h.0, gathered_each P ls h.1)

    -- what is told of the sides is true of what is gathered of them
    pub gathered_stated : {i : Interpretation} (t : Tree) (k : Told means world n (gathering start q said) i t) → Each (Stated k.interp) (gathered start said (leaves t))
    gathered_stated t k = gathered_each (Stated k.interp) (leaves t) (each_left _ t k.left)
