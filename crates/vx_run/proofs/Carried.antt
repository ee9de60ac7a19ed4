-- Assertions step by step: what a manner carries, and what each form of an assertion puts off.
use Rattle.std.proofs.Common.{◌≡◌, ℕ, Bool, true, false, List, [], ◌∷◌, Result, Ok, Err, refl, sym, ◌∙◌, ap, ap₂, subst}
use Rattle.vx_ast.specs.declared.Place.{Place}
use Rattle.vx_ast.specs.Syntax.{Name, Expr, Exprs, Assertion, Pure, Points, Both, Implied, Chosen, Truth, place_of, joined, joined_with}
use Rattle.vx_ast.specs.Syntax as syntax
use Rattle.vx_frac.specs.Fraction.{fraction}
use Rattle.vx_frac.specs.Fractions.{Fraction}
use Rattle.vx_meaning.specs.Values.{Value, is_true}
use Rattle.vx_meaning.specs.States.{State, Store, Holdings, Resource}
use Rattle.vx_meaning.specs.Flatten.{bare}
use Rattle.vx_run.specs.Going.{Going, Outcome, Supply, ◌>>=◌, continued, gives, when}
use Rattle.vx_run.specs.Evaluated.{Reading, Visit}
use Rattle.vx_run.specs.Given.{Filling}
use Rattle.vx_run.specs.Blame.{within, ended_within}
use Rattle.vx_run.specs.Configs.{Setting, Config, with_values, with_lists, in_state, with_takings, with_one, with_two, with_list, put_value, put_list}
use Rattle.vx_run.specs.Pending.{evaluate, evaluate_all}
use Rattle.vx_run.specs.Frames.{before}
use Rattle.vx_run.specs.Visits.{asked_of, side_of, reading_of, field_of, instance_of, taking, adding, giving_again, giving, filling, visit_by, value_in, list_in, visiting, doing, HasTaking, IsReady}
use Rattle.vx_run.specs.declared.blame.Blame.{Blame}
use Rattle.vx_run.specs.declared.context.Within.{Within}
use Rattle.vx_run.specs.declared.visit.Manner.{Manner}
use Rattle.vx_run.specs.declared.visit.Manner.TheVariants as manner'
use Rattle.vx_run.proofs.Steps.{bracketed, within_on, of_one, of_two}

-- what a manner carries stands in the configuration, and all that is done with an assertion is done to it
pub record Carries (t : Setting) (k : Within) (m : Manner) (X : Type 0) (v : Visit ℕ X) (put : X → Config) : Type 0 where
  pub visits : (a : Assertion) (x : X) → visiting t k m a (put x) ≡ (within k.blame (visit_by t k v a x) >>= λ y. gives (put y))
  pub does : (at : Place) (part : Resource × Fraction) (x : X) → doing t k m at part (put x) ≡ (within k.blame (v.part at part x) >>= λ y. gives (put y))
  pub asks : (at : Place) (b : Bool) → asked_of m at b ≡ v.pure at b
  pub sides : (at : Place) (w : Value) → side_of m at w ≡ v.side at w
  pub reads : reading_of m ≡ v.reading
  pub states : (x : X) → (put x).state ≡ v.state x

-- a configuration with what it carries
pub record Carried (t : Setting) (k : Within) (m : Manner) (c : Config) : Type 1 where
  pub of : Type 0
  pub v : Visit ℕ of
  pub put : of → Config
  pub now : of
  pub is : put now ≡ c
  pub carries : Carries t k m of v put

pub carried : (t : Setting) (k : Within) (m : Manner) (c : Config) → IsReady m c → Carried t k m c
carried t k (manner'.Take q) c (h, hs, e) =
    record {
      of = Holdings;
      v = taking t k (fraction q) c.state;
      put = λ y. with_takings (y ∷ hs) c;
      now = h;
      is = ap (λ x. with_takings x c) (sym e);
      carries = record { visits = λ a x. refl; does = λ at part x. refl; asks = λ at b. refl; sides = λ at w. refl; reads = refl; states = λ x. refl };
    }
carried t k (manner'.Add q) c h = record {
  of = State;
  v = adding t k (fraction q);
  put = λ s. in_state s c;
  now = c.state;
  is = refl;
  carries = record { visits = λ a x. refl; does = λ at part x. refl; asks = λ at b. refl; sides = λ at w. refl; reads = refl; states = λ x. refl };
}
carried t k (manner'.GiveAgain q) c h = record {
  of = State;
  v = giving_again t k (fraction q) c;
  put = λ s. in_state s c;
  now = c.state;
  is = refl;
  carries = record { visits = λ a x. refl; does = λ at part x. refl; asks = λ at b. refl; sides = λ at w. refl; reads = refl; states = λ x. refl };
}
carried t k (manner'.Give q) c h = record {
  of = State;
  v = giving t k (fraction q) c;
  put = λ s. in_state s c;
  now = c.state;
  is = refl;
  carries = record { visits = λ a x. refl; does = λ at part x. refl; asks = λ at b. refl; sides = λ at w. refl; reads = refl; states = λ x. refl };
}
carried t k (manner'.Fill q n at) c ((h, hs, e), b) = record {
  of = Filling;
  v = filling t k (fraction q) n at c.state.store;
  put = λ w. with_takings (w.totals ∷ hs) (in_state (bare c.state.store w.heap) c);
  now = record { heap = c.state.heap; totals = h };
  is = ap₂ (λ x s. with_takings x (in_state s c)) (sym e) (sym b);
  carries = record { visits = λ a x. refl; does = λ at part x. refl; asks = λ at b. refl; sides = λ at w. refl; reads = refl; states = λ x. refl };
}

-- clauses of one kind, one after the other
given_on : {A : Type 0} (x : Result (A × Supply ℕ) Outcome) → continued x gives ≡ x
given_on (Ok (a, l)) = refl
given_on (Err o) = refl

no_question : (m : Manner) (at : Place) → asked_of m at true ≡ gives tt
no_question (manner'.Take q) at = refl
no_question (manner'.Add q) at = refl
no_question (manner'.GiveAgain q) at = refl
no_question (manner'.Give q) at = refl
no_question (manner'.Fill q n place) at = refl

-- what is asked leaves what is carried
asked_on : {X : Type 0} (b : Blame) (n : Result (Unit {0} × Supply ℕ) Outcome) (x : X) (put : X → Config) →
    continued (ended_within b n) (λ u. gives (put x)) ≡ continued (ended_within b (continued n (λ u. gives x))) (λ y. gives (put y))
asked_on b (Ok (u, l)) x put = refl
asked_on b (Err o) x put = refl

-- one of two by a condition
side_on : {X : Type 0} (b : Blame) (s : Result (Bool × Supply ℕ) Outcome) (m n : Going ℕ X) (put : X → Config) →
    continued (ended_within b s) (λ t. when t (within b m >>= λ y. gives (put y)) (within b n >>= λ y. gives (put y)))
    ≡ continued (ended_within b (continued s (λ t. when t m n))) (λ y. gives (put y))
side_on b (Ok (true, l)) m n put = refl
side_on b (Ok (false, l)) m n put = refl
side_on b (Err o) m n put = refl

-- a permission that is found is done
part_on : {X P : Type 0} (b : Blame) (p : Result (P × Supply ℕ) Outcome) (f : P → Going ℕ X) (put : X → Config) →
    continued (ended_within b p) (λ r. within b (f r) >>= λ y. gives (put y)) ≡ continued (ended_within b (continued p f)) (λ y. gives (put y))
part_on b (Ok (r, l)) f put = refl
part_on b (Err o) f put = refl

module _ (t : Setting) (k : Within) (m : Manner) where
  abbrev pub ask : Place → Config → Going ℕ Config
  ask at c = with_one c (λ v d. within k.blame (asked_of m at (is_true v)) >>= λ _. gives d)

  abbrev pub imply : Place → Assertion → Config → Going ℕ Config
  imply at a c = with_one c (λ v d. within k.blame (side_of m at v) >>= λ b. when b (visiting t k m a d) (gives d))

  abbrev pub choose : Place → Assertion → Assertion → Config → Going ℕ Config
  choose at x y c = with_one c (λ v d. within k.blame (side_of m at v) >>= λ b. when b (visiting t k m x d) (visiting t k m y d))

  abbrev pub points : Place → Name → Config → Going ℕ Config
  points at f c = with_two c (λ v w d. within k.blame (field_of at f v w) >>= λ part. doing t k m at part d)

  abbrev pub folded : Place → Name → Config → Going ℕ Config
  folded at i c = with_one c (λ w d. with_list d (λ vs e. within k.blame (instance_of at i vs w) >>= λ part. doing t k m at part e))

  module _ {X : Type 0} (v : Visit ℕ X) (put : X → Config) (h : Carries t k m X v put) (g : Config → Going ℕ Config) where
    value_is : (x : X) (e : Expr) → evaluate t k.level (reading_of m) (put x).state e ≡ evaluate t k.level v.reading (v.state x) e
    value_is x e = ap₂ (λ r s. evaluate t k.level r s e) h.reads (h.states x)

    list_is : (x : X) (es : Exprs) → evaluate_all t k.level (reading_of m) (put x).state es ≡ evaluate_all t k.level v.reading (v.state x) es
    list_is x es = ap₂ (λ r s. evaluate_all t k.level r s es) h.reads (h.states x)

    pure_by : (e : Expr) (x : X) → before (value_in t k m e) (before (ask (place_of e)) g) (put x) ≡ before (visiting t k m (Pure e)) g (put x)
    pure_by e x =
        of_one k.blame (evaluate t k.level (reading_of m) (put x).state e) (λ w. with_values (w ∷ (put x).values) (put x)) (λ w. v.pure (place_of e) (is_true w) >>= λ _. gives x) put
        (ask (place_of e)) g
        (λ w. ap (λ (n : Going ℕ (Unit {0})). within k.blame n >>= λ _. gives (put x)) (h.asks (place_of e) (is_true w)) ∙ (λ i l. asked_on k.blame (v.pure (place_of e) (is_true w) l) x put i))
        ∙ ap (λ (n : Going ℕ Value). (within k.blame (n >>= λ w. v.pure (place_of e) (is_true w) >>= λ _. gives x) >>= λ y. gives (put y)) >>= g) (value_is x e)
        ∙ ap (λ (n : Going ℕ Config). n >>= g) (sym (h.visits (Pure e) x))

    side_by : (at : Place) (w : Value) (a b : Assertion) (x : X) →
        (within k.blame (side_of m at w) >>= λ b'. when b' (visiting t k m a (put x)) (visiting t k m b (put x)))
        ≡ (within k.blame (v.side at w >>= λ b'. when b' (visit_by t k v a x) (visit_by t k v b x)) >>= λ y. gives (put y))
    side_by at w a b x =
        ap (λ (s : Going ℕ Bool). within k.blame s >>= λ b'. when b' (visiting t k m a (put x)) (visiting t k m b (put x))) (h.sides at w)
        ∙ ap₂ (λ (p q : Going ℕ Config). within k.blame (v.side at w) >>= λ b'. when b' p q) (h.visits a x) (h.visits b x)
        ∙ (λ i l. side_on k.blame (v.side at w l) (visit_by t k v a x) (visit_by t k v b x) put i)

    implied_side : (at : Place) (w : Value) (a : Assertion) (x : X) →
        (within k.blame (side_of m at w) >>= λ b. when b (visiting t k m a (put x)) (gives (put x)))
        ≡ (within k.blame (v.side at w >>= λ b. when b (visit_by t k v a x) (gives x)) >>= λ y. gives (put y))
    implied_side at w a x =
        ap (λ (s : Going ℕ Bool). within k.blame s >>= λ b. when b (visiting t k m a (put x)) (gives (put x))) (h.sides at w)
        ∙ ap (λ (p : Going ℕ Config). within k.blame (v.side at w) >>= λ b. when b p (gives (put x))) (h.visits a x)
        ∙ (λ i l. side_on k.blame (v.side at w l) (visit_by t k v a x) (gives x) put i)

    implied_by : (e : Expr) (a : Assertion) (x : X) → before (value_in t k m e) (before (imply (place_of e) a) g) (put x) ≡ before (visiting t k m (Implied e a)) g (put x)
    implied_by e a x =
        of_one k.blame (evaluate t k.level (reading_of m) (put x).state e) (λ w. with_values (w ∷ (put x).values) (put x)) (λ w. v.side (place_of e) w >>= λ b. when b (visit_by t k v a x) (gives x)) put
        (imply (place_of e) a) g (λ w. implied_side (place_of e) w a x)
        ∙ ap (λ (n : Going ℕ Value). (within k.blame (n >>= λ w. v.side (place_of e) w >>= λ b. when b (visit_by t k v a x) (gives x)) >>= λ y. gives (put y)) >>= g) (value_is x e)
        ∙ ap (λ (n : Going ℕ Config). n >>= g) (sym (h.visits (Implied e a) x))

    chosen_by : (e : Expr) (a b : Assertion) (x : X) → before (value_in t k m e) (before (choose (place_of e) a b) g) (put x) ≡ before (visiting t k m (Chosen e a b)) g (put x)
    chosen_by e a b x =
        of_one k.blame (evaluate t k.level (reading_of m) (put x).state e) (λ w. with_values (w ∷ (put x).values) (put x))
        (λ w. v.side (place_of e) w >>= λ b'. when b' (visit_by t k v a x) (visit_by t k v b x)) put
        (choose (place_of e) a b) g (λ w. side_by (place_of e) w a b x)
        ∙ ap (λ (n : Going ℕ Value). (within k.blame (n >>= λ w. v.side (place_of e) w >>= λ b'. when b' (visit_by t k v a x) (visit_by t k v b x)) >>= λ y. gives (put y)) >>= g) (value_is x e)
        ∙ ap (λ (n : Going ℕ Config). n >>= g) (sym (h.visits (Chosen e a b) x))

    both_by : (a b : Assertion) (x : X) → before (visiting t k m a) (before (visiting t k m b) g) (put x) ≡ before (visiting t k m (Both a b)) g (put x)
    both_by a b x =
        ap (λ (n : Going ℕ Config). n >>= before (visiting t k m b) g) (h.visits a x)
        ∙ of_one k.blame (visit_by t k v a x) put (visit_by t k v b) put (visiting t k m b) g (λ y. h.visits b y)
        ∙ ap (λ (n : Going ℕ Config). n >>= g) (sym (h.visits (Both a b) x))

    done_by : (p : Going ℕ (Resource × Fraction)) (at : Place) (x : X) →
        (within k.blame p >>= λ part. doing t k m at part (put x)) ≡ (within k.blame (p >>= λ part. v.part at part x) >>= λ y. gives (put y))
    done_by p at x =
        ap (λ (f : Resource × Fraction → Going ℕ Config). within k.blame p >>= f) (λ i part. h.does at part x i)
        ∙ (λ i l. part_on k.blame (p l) (λ part. v.part at part x) put i)

    points_by : (at : Place) (e : Expr) (f : Name) (share : Expr) (x : X) →
        before (value_in t k m e) (before (value_in t k m share) (before (points at f) g)) (put x) ≡ before (visiting t k m (Points at e f share)) g (put x)
    points_by at e f share x =
        let c = put x in
        let r = evaluate t k.level (reading_of m) c.state e in
        let q = evaluate t k.level (reading_of m) c.state share in
        let to = λ (a b : Value). field_of at f a b >>= λ part. v.part at part x in
        of_two k.blame r q (λ a. with_values (a ∷ c.values) c) (λ a b. with_values (b ∷ a ∷ c.values) c) to put (value_in t k m share) (points at f) g (λ a. refl)
        (λ a b. done_by (field_of at f a b) at x)
        ∙ ap₂ (λ (n o : Going ℕ Value). (within k.blame (n >>= λ a. o >>= to a) >>= λ y. gives (put y)) >>= g) (value_is x e) (value_is x share)
        ∙ ap (λ (n : Going ℕ X). (within k.blame n >>= λ y. gives (put y)) >>= g) (parts (evaluate t k.level v.reading (v.state x) e) (evaluate t k.level v.reading (v.state x) share))
        ∙ ap (λ (n : Going ℕ Config). n >>= g) (sym (h.visits (Points at e f share) x))
      where
        parts : (n o : Going ℕ Value) → (n >>= λ a. o >>= λ b. field_of at f a b >>= λ part. v.part at part x) ≡ ((n >>= λ a. o >>= λ b. field_of at f a b) >>= λ part. v.part at part x)
        parts n o =
            ap (λ (f : Value → Going ℕ X). n >>= f) (λ i a. sym (bracketed o (λ b. field_of at f a b) (λ part. v.part at part x)) i)
            ∙ sym (bracketed n (λ a. o >>= λ b. field_of at f a b) (λ part. v.part at part x))

    folded_by : (at : Place) (i : Name) (es : Exprs) (share : Expr) (x : X) →
        before (list_in t k m es) (before (value_in t k m share) (before (folded at i) g)) (put x) ≡ before (visiting t k m (syntax.Instance at i es share)) g (put x)
    folded_by at i es share x =
        let c = put x in
        let r = evaluate_all t k.level (reading_of m) c.state es in
        let q = evaluate t k.level (reading_of m) c.state share in
        let to = λ (vs : List Value) (b : Value). instance_of at i vs b >>= λ part. v.part at part x in
        of_two k.blame r q (λ vs. with_lists (vs ∷ c.lists) c) (λ vs b. with_values (b ∷ c.values) (with_lists (vs ∷ c.lists) c)) to put (value_in t k m share) (folded at i) g (λ vs. refl)
        (λ vs b. done_by (instance_of at i vs b) at x)
        ∙ ap₂ (λ (n : Going ℕ (List Value)) (o : Going ℕ Value). (within k.blame (n >>= λ a. o >>= to a) >>= λ y. gives (put y)) >>= g) (list_is x es) (value_is x share)
        ∙ ap (λ (n : Going ℕ X). (within k.blame n >>= λ y. gives (put y)) >>= g) (parts (evaluate_all t k.level v.reading (v.state x) es) (evaluate t k.level v.reading (v.state x) share))
        ∙ ap (λ (n : Going ℕ Config). n >>= g) (sym (h.visits (syntax.Instance at i es share) x))
      where
        parts : (n : Going ℕ (List Value)) (o : Going ℕ Value) → (n >>= λ a. o >>= λ b. instance_of at i a b >>= λ part. v.part at part x) ≡ ((n >>= λ a. o >>= λ b. instance_of at i a b) >>= λ part. v.part at part x)
        parts n o =
            ap (λ (f : List Value → Going ℕ X). n >>= f) (λ j a. sym (bracketed o (λ b. instance_of at i a b) (λ part. v.part at part x)) j)
            ∙ sym (bracketed n (λ a. o >>= λ b. instance_of at i a b) (λ part. v.part at part x))

    always_by : (at : Place) (x : X) → visit_by t k v (Pure (Truth at true)) x ≡ gives x
    always_by at x = ap (λ (n : Going ℕ (Unit {0})). n >>= λ _. gives x) (sym (h.asks at true) ∙ no_question m at)

    joined_on : (at : Place) (a : Assertion) (rest : List Assertion) (x : X) → visit_by t k v (joined_with a rest) x ≡ (visit_by t k v a x >>= λ y. visit_by t k v (joined at rest) y)
    joined_on at a [] x = (λ i l. sym (given_on (visit_by t k v a x l)) i) ∙ ap (λ (f : X → Going ℕ X). visit_by t k v a x >>= f) (λ i y. sym (always_by at y) i)
    joined_on at a (b ∷ rest) x =
        joined_on at (Both a b) rest x ∙ bracketed (visit_by t k v a x) (visit_by t k v b) (visit_by t k v (joined at rest))
        ∙ ap (λ (f : X → Going ℕ X). visit_by t k v a x >>= f) (λ i y. sym (joined_on at b rest y) i)

    joined_by : (at : Place) (a : Assertion) (rest : List Assertion) (x : X) →
        before (visiting t k m a) (before (visiting t k m (joined at rest)) g) (put x) ≡ before (visiting t k m (joined_with a rest)) g (put x)
    joined_by at a rest x =
        ap (λ (n : Going ℕ Config). n >>= before (visiting t k m (joined at rest)) g) (h.visits a x)
        ∙ of_one k.blame (visit_by t k v a x) put (visit_by t k v (joined at rest)) put (visiting t k m (joined at rest)) g (λ y. h.visits (joined at rest) y)
        ∙ ap (λ (n : Going ℕ X). (within k.blame n >>= λ y. gives (put y)) >>= g) (sym (joined_on at a rest x))
        ∙ ap (λ (n : Going ℕ Config). n >>= g) (sym (h.visits (joined_with a rest) x))

    none_by : (at : Place) (x : X) → visiting t k m (joined at []) (put x) ≡ gives (put x)
    none_by at x = h.visits (Pure (Truth at true)) x ∙ ap (λ (n : Going ℕ X). within k.blame n >>= λ y. gives (put y)) (always_by at x)

  -- the same of a configuration that is ready
  module _ (g : Config → Going ℕ Config) (c : Config) (r : IsReady m c) where
    by_what_is_carried : (P : Config → Type 0) → ((X : Type 0) (v : Visit ℕ X) (put : X → Config) → Carries t k m X v put → (x : X) → P (put x)) → P c
    by_what_is_carried P f = let d = carried t k m c r in subst P d.is (f d.of d.v d.put d.carries d.now)

    pub puts_pure : (e : Expr) → before (value_in t k m e) (before (ask (place_of e)) g) c ≡ before (visiting t k m (Pure e)) g c
    puts_pure e = by_what_is_carried (λ d. before (value_in t k m e) (before (ask (place_of e)) g) d ≡ before (visiting t k m (Pure e)) g d) (λ X v put h x. pure_by v put h g e x)

    pub puts_implied : (e : Expr) (a : Assertion) → before (value_in t k m e) (before (imply (place_of e) a) g) c ≡ before (visiting t k m (Implied e a)) g c
    puts_implied e a =
        by_what_is_carried (λ d. before (value_in t k m e) (before (imply (place_of e) a) g) d ≡ before (visiting t k m (Implied e a)) g d) (λ X v put h x. implied_by v put h g e a x)

    pub puts_chosen : (e : Expr) (a b : Assertion) → before (value_in t k m e) (before (choose (place_of e) a b) g) c ≡ before (visiting t k m (Chosen e a b)) g c
    puts_chosen e a b =
        by_what_is_carried (λ d. before (value_in t k m e) (before (choose (place_of e) a b) g) d ≡ before (visiting t k m (Chosen e a b)) g d) (λ X v put h x. chosen_by v put h g e a b x)

    pub puts_both : (a b : Assertion) → before (visiting t k m a) (before (visiting t k m b) g) c ≡ before (visiting t k m (Both a b)) g c
    puts_both a b = by_what_is_carried (λ d. before (visiting t k m a) (before (visiting t k m b) g) d ≡ before (visiting t k m (Both a b)) g d) (λ X v put h x. both_by v put h g a b x)

    pub puts_points : (at : Place) (e : Expr) (f : Name) (share : Expr) →
        before (value_in t k m e) (before (value_in t k m share) (before (points at f) g)) c ≡ before (visiting t k m (Points at e f share)) g c
    puts_points at e f share =
        by_what_is_carried (λ d. before (value_in t k m e) (before (value_in t k m share) (before (points at f) g)) d ≡ before (visiting t k m (Points at e f share)) g d)
        (λ X v put h x. points_by v put h g at e f share x)

    pub puts_instance : (at : Place) (i : Name) (es : Exprs) (share : Expr) →
        before (list_in t k m es) (before (value_in t k m share) (before (folded at i) g)) c ≡ before (visiting t k m (syntax.Instance at i es share)) g c
    puts_instance at i es share =
        by_what_is_carried (λ d. before (list_in t k m es) (before (value_in t k m share) (before (folded at i) g)) d ≡ before (visiting t k m (syntax.Instance at i es share)) g d)
        (λ X v put h x. folded_by v put h g at i es share x)

    pub puts_joined : (at : Place) (a : Assertion) (rest : List Assertion) →
        before (visiting t k m a) (before (visiting t k m (joined at rest)) g) c ≡ before (visiting t k m (joined at (a ∷ rest))) g c
    puts_joined at a rest =
        by_what_is_carried (λ d. before (visiting t k m a) (before (visiting t k m (joined at rest)) g) d ≡ before (visiting t k m (joined at (a ∷ rest))) g d) (λ X v put h x. joined_by v put h g at a rest x)

    pub puts_none : (at : Place) → g c ≡ before (visiting t k m (joined at [])) g c
    puts_none at = by_what_is_carried (λ d. g d ≡ before (visiting t k m (joined at [])) g d) (λ X v put h x. ap (λ (n : Going ℕ Config). n >>= g) (sym (none_by v put h g at x)))
