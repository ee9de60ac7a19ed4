-- An assertion whose taking is exposed: it fails to be taken at the place, or what is left matches the state behind.
use Rattle.std.proofs.Common.{◌≡◌, ◌⊎◌, inl, inr, ℕ, ◌≤◌, Bool, true, false, not, cond, refl, sym, ◌∙◌, ap, subst, le_trans}
use Rattle.std.specs.Prelude.{Ok, Err}
use Rattle.vx_frac.specs.Fractions.{Fraction, at_most, product}
use Rattle.vx_ast.specs.declared.Place.{Place}
use Rattle.vx_ast.specs.declared.ValueType.TheVariants as type
use Rattle.vx_ast.specs.Syntax.{Name, Program, place_of, Expr, Assertion, Pure, Points, Instance, Both, Implied, Chosen}
use Rattle.vx_meaning.specs.Values.{Value, BoolValue, is_true}
use Rattle.vx_meaning.specs.States as run
use Rattle.vx_meaning.specs.Fits.{Checked, ◌>>=◌, guard, Eventually, fit_by, take_by, take_part, field_part, deeper}
use Rattle.vx_meaning.specs.Fits as fits
use Rattle.vx_terms.specs.Sorts as sort
use Rattle.vx_terms.specs.Terms as term
use Rattle.vx_terms.specs.Terms.{Term}
use Rattle.vx_terms.specs.Build.{unit, pair, wrap, written_unwrap, negate}
use Rattle.vx_terms.specs.Interpretations.{Interpretation, as_bool, value, IsTrueIn}
use Rattle.vx_terms.proofs.Build.{negate_value}
use Rattle.vx_rules.specs.States as rules
use Rattle.vx_rules.specs.Trees.{Code, Step}
use Rattle.vx_rules.specs.Chunks.{field_key}
use Rattle.vx_rules.specs.Rules.{Giving, Going, pair_facts, Outer, ask, fork, placed, field_sort, take_chunk, with_built_wrap, with_built_pair, eval, consume}
use Rattle.vx_types.specs.Typing.{Scope, HasType}
use Rattle.vx_types.specs.FieldLanguage.{InFields, IsOfFields}
use Rattle.vx_elements.proofs.Settled.{Meaning, extends-refl}
use Rattle.vx_elements.proofs.Elements.{element, bool_value_is}
use Rattle.vx_elements.proofs.Eventually.{eventually, both_eventually}
use Rattle.vx_amounts.proofs.Amounts.{Le}
use Rattle.vx_grows.proofs.Later.{built_wrap_later, built_pair_later}
use Rattle.vx_grows.proofs.GrowSteps.{Follows, FollowsWith, earlier, ask_grows, fork_grows, take_grows}
use Rattle.vx_grows.proofs.GrowParts.{OuterGrows}
use Rattle.vx_grows.proofs.GrowAssertions.{consume_grows}
use Rattle.vx_sound.proofs.World.{at_field}
use Rattle.vx_sound.proofs.Stands.{heap_later}
use Rattle.vx_sound.proofs.Puts.{stands_with_holdings}
use Rattle.vx_sound.proofs.Evaluate.{bind_ok}
use Rattle.vx_sound.proofs.Giving.{scale_later}
use Rattle.vx_sound.proofs.Fields.{fields_world}
use Rattle.vx_real.specs.Exposed.{Exposed}
use Rattle.vx_real.proofs.Matched.{Matches, IsAt, Mistakes, Takes, TakeReal, Evaluates}
use Rattle.vx_real.proofs.Questions.{Behind, asked, forked}
use Rattle.vx_real.proofs.ExpressionSteps.{bind_err, is_at}
use Rattle.vx_real.proofs.Expressions.{by_either, eval_real}
use Rattle.vx_real.proofs.Taken.{TakenReal, take_real}
use Rattle.vx_real.proofs.Locates.{Located, located_real}

module _ (means : Meaning) (p : Program) (i : Interpretation) where
  -- back at the chunks that are left, in a later state
  pub matches_back : {scope : Scope} {s s1 : rules.State} {c : run.State} (rest : run.Holdings) → Matches means p i scope s1 c → s.next ≤ s1.next → Matches means p i scope s (run.with_holdings rest c) →
      Matches means p i scope (rules.with_heap s.heap s1) (run.with_holdings rest c)
  matches_back {s = s} {c = c} rest m le left = record {
    stands = stands_with_holdings means (fields_world p) s.heap rest m.stands (heap_later means (fields_world p) le (extends-refl means s.next i) s.heap c.heap rest left.stands.heap) left.stands.holds;
    exact = left.exact;
    old_exact = m.old_exact;
  }

  -- at the chunks of the start, in a later state
  pub matches_start : {scope : Scope} (s : rules.State) {s1 : rules.State} {c : run.State} (start : rules.Heap) (rest : run.Holdings) → Matches means p i scope (rules.with_heap start s) c → s.next ≤ s1.next → Matches means p i scope s1 (run.with_holdings rest c) →
      Matches means p i scope (rules.with_heap start s1) c
  matches_start s {c = c} start rest m le left = record {
    stands = stands_with_holdings means (fields_world p) start c.holdings left.stands (heap_later means (fields_world p) le (extends-refl means s.next i) start c.heap c.holdings m.stands.heap) m.stands.holds;
    exact = m.exact;
    old_exact = left.old_exact;
  }

  module _ (at : Place) (code : Code) (o : Outer) (below : OuterGrows o) where
    abbrev Shown : Scope → rules.State → run.State → run.Holdings → Giving → Assertion → Fraction → Type 0
    Shown scope s c rest on a q = Mistakes means p i at code s c a q rest ⊎ Takes means p i at code scope s c rest on a q

    false_result : (v : Value) → v ≡ BoolValue (as_bool (element v)) → (t : Term) → value i t ≡ element v → as_bool (value i t) ≡ false → v ≡ BoolValue false
    false_result v b t is e = b ∙ ap BoolValue (sym (ap as_bool is) ∙ e)

    pure_taken : (e : Expr) → TakeReal means p i at code o (Pure e)
    pure_taken e scope q ty k s c rest x scale start on plain sc m left h y =
        by_either (eval_real means p i at code o below e scope type.Bool ty k (rules.with_heap start s) c first m follows y)
        (λ z. inl (z.0, z.1, eventually z.2 (λ n f. bind_err (λ v. guard (place_of e) (is_true v) >>= λ _. Ok rest) f)))
        (λ r. by_either (asked means p i at code r.term (placed r.state (place_of e)) x.pure last r.matches r.good (λ s2. h unit (rules.with_heap s.heap s2)) r.exposed) (refused r) (passed r))
      where
        last : Going
        last s2 = Step (on unit (rules.with_heap s.heap s2))

        first : Giving
        first t s1 = ask t (placed s1 (place_of e)) x.pure s1 last

        follows : FollowsWith first
        follows t s1 = ask_grows s1 t (placed s1 (place_of e)) x.pure last (λ s2. h unit (rules.with_heap s.heap s2))

        tested : Value → Checked run.Holdings
        tested v = guard (place_of e) (is_true v) >>= λ _. Ok rest

        refused : (r : Evaluates means p i at code scope (rules.with_heap start s) c first e type.Bool) → (placed r.state (place_of e) ≡ at) × IsTrueIn i (negate r.term) → Shown scope s c rest on (Pure e) q
        refused r z =
            let no_value : as_bool (value i r.term) ≡ false = denied (as_bool (value i r.term)) (sym (ap as_bool (negate_value i r.good.formed)) ∙ z.1) in
            let is = false_result r.result (bool_value_is r.result r.typed) r.term r.value_is no_value in
            inl (place_of e, is_at means p i at code s r.state (place_of e) r.at_is z.0, eventually r.fits (λ n f. bind_ok tested r.result f ∙ ap tested is))
          where
            denied : (b : Bool) → not b ≡ true → b ≡ false
            denied true e = sym e
            denied false e = refl

        passed : (r : Evaluates means p i at code scope (rules.with_heap start s) c first e type.Bool) → IsTrueIn i r.term × Behind means p i at code scope r.state c last → Shown scope s c rest on (Pure e) q
        passed r (told, b) =
            let le : s.next ≤ b.state.next = subst (λ n. s.next ≤ n) (sym b.next_is) r.later in
            let is : r.result ≡ BoolValue true = bool_value_is r.result r.typed ∙ ap BoolValue (sym (ap as_bool r.value_is) ∙ told) in
            inr record {
              state = rules.with_heap s.heap b.state;
              snapshot = unit;
              left = rest;
              later = le;
              at_is = b.at_is ∙ r.at_is;
              matches = matches_back rest b.matches le left;
              takes = eventually r.fits (λ n f. bind_ok tested r.result f ∙ ap tested is);
              exposed = b.exposed;
            }

    points_taken : (place : Place) (e : Expr) (f : Name) (share : Expr) → TakeReal means p i at code o (Points place e f share)
    points_taken place e f share scope q ty k s c rest x scale start on plain sc m left h y =
        by_either (located_real means p i at code o below place e f share scale q (rules.with_heap start s) c after ty.0 k.0 ty.2 k.1 sc m (λ r a s3. grows r a s3) y)
        (λ z. inl (z.0, z.1, eventually z.2 (λ n u. bind_err (take_part p (deeper p n) c q place rest) u)))
        (λ l. by_either (take_real means p i at code scope (rules.with_heap s.heap l.state) (run.with_holdings rest c) (matches_back rest l.matches l.later left) f l.receiver l.reference l.receiver_good l.receiver_is l.amount (product q l.fraction) l.amount_good l.amount_is l.sign
        done (placed l.state place) x.permission done_grows l.exposed) (refused l) (passed l))
      where
        done : rules.Chunk → Going
        done d s4 = Step (on (wrap (field_sort p f) d.value) (with_built_wrap x (field_sort p f) d.value s4))

        done_grows : (d : rules.Chunk) → Follows (done d)
        done_grows d s4 = earlier (built_wrap_later x (field_sort p f) d.value s4) (done d s4) (h (wrap (field_sort p f) d.value) (with_built_wrap x (field_sort p f) d.value s4))

        after : Term → Term → Going
        after r a s3 = take_chunk (field_key f r) a (field_sort p f) (placed s3 place) x.permission (rules.with_heap s.heap s3) done

        grows : (r a : Term) → Follows (after r a)
        grows r a s3 = take_grows (rules.with_heap s.heap s3) (field_key f r) a (field_sort p f) (placed s3 place) x.permission done done_grows

        tested : (l : Located means p i at code scope (rules.with_heap start s) c place e f share q after) → Bool → Checked run.Holdings
        tested l b = guard place b >>= λ _. Ok (run.lost (run.At (at_field l.reference f)) (product q l.fraction) rest)

        refused : (l : Located means p i at code scope (rules.with_heap start s) c place e f share q after) → (placed l.state place ≡ at) × (Le (product q l.fraction) (run.amount rest (run.At (at_field l.reference f))) → ⊥) → Shown scope s c rest on (Points place e f share) q
        refused l z =
            inl (
              place,
              is_at means p i at code s l.state place l.at_is z.0,
              eventually l.part (λ n u.
                  bind_ok (take_part p (deeper p n) c q place rest) (run.At (at_field l.reference f), l.fraction) u ∙ ap (tested l) (denied (at_most (product q l.fraction) (run.amount rest (run.At (at_field l.reference f)))) (λ e. z.1 record { holds = e }))),
            )
          where
            denied : (b : Bool) → (b ≡ true → ⊥) → b ≡ false
            denied true h = absurd (h refl)
            denied false h = refl

        passed : (l : Located means p i at code scope (rules.with_heap start s) c place e f share q after) → TakenReal means p i at code scope f l.reference (product q l.fraction) (rules.with_heap s.heap l.state) (run.with_holdings rest c) done → Shown scope s c rest on (Points place e f share) q
        passed l d = inr record {
          state = d.state;
          snapshot = wrap (field_sort p f) d.chunk.value;
          left = run.lost (run.At (at_field l.reference f)) (product q l.fraction) rest;
          later = le_trans l.later d.later;
          at_is = d.at_is ∙ l.at_is;
          matches = d.matches;
          takes = eventually l.part (λ n u. bind_ok (take_part p (deeper p n) c q place rest) (run.At (at_field l.reference f), l.fraction) u ∙ ap (tested l) d.enough.holds);
          exposed = subst (λ b. Exposed i at code (on (wrap (field_sort p f) d.chunk.value) (cond b (rules.with_fact (term.Binary sort.Equal (written_unwrap (field_sort p f) (wrap (field_sort p f) d.chunk.value)) d.chunk.value) d.state) d.state))) plain d.exposed;
        }

    both_taken : (a b : Assertion) → TakeReal means p i at code o a → TakeReal means p i at code o b → TakeReal means p i at code o (Both a b)
    both_taken a b on_a on_b scope q ty k s c rest x scale start on plain sc m left h y =
        by_either (on_a scope q ty.0 k.0 s c rest x scale start first plain sc m left (λ t s1. consume_grows p o below b x scale start s1 (second t) (follows t)) y)
        (λ z. inl (z.0, z.1, eventually z.2 (λ n u. bind_err (λ h'. take_by p n c q b h') u)))
        (λ r. by_either (on_b scope q ty.1 k.1 r.state c r.left x scale start (second r.snapshot) plain (scale_later means (fields_world p) r.later (extends-refl means s.next i) sc) (matches_start s start r.left m r.later r.matches) r.matches (follows r.snapshot) r.exposed)
        (λ z. inl (z.0, is_at means p i at code s r.state z.0 r.at_is z.1, both_eventually r.takes z.2 (λ n u v. bind_ok (λ h'. take_by p n c q b h') r.left u ∙ v)))
        (λ w. inr record {
          state = w.state;
          snapshot = pair r.snapshot w.snapshot;
          left = w.left;
          later = le_trans r.later w.later;
          at_is = w.at_is ∙ r.at_is;
          matches = w.matches;
          takes = both_eventually r.takes w.takes (λ n u v. bind_ok (λ h'. take_by p n c q b h') r.left u ∙ v);
          exposed = subst (λ b. Exposed i at code (on (pair r.snapshot w.snapshot) (cond b (rules.with_facts (pair_facts r.snapshot w.snapshot) w.state) w.state))) plain w.exposed;
        }))
      where
        second : Term → Giving
        second t u s2 = Step (on (pair t u) (with_built_pair x t u s2))

        follows : (t : Term) → FollowsWith (second t)
        follows t u s2 = earlier (built_pair_later x t u s2) (on (pair t u) (with_built_pair x t u s2)) (h (pair t u) (with_built_pair x t u s2))

        first : Giving
        first t s1 = consume p o b x scale start s1 (second t)

    -- the condition of a side is read in the heap of the start
    record Tested (scope : Scope) (s : rules.State) (c : run.State) (rest : run.Holdings) (d : Expr) (left right : Going) : Type 0 where
      pub test : Bool
      pub state : rules.State
      pub later : s.next ≤ state.next
      pub at_is : state.at ≡ s.at
      pub matches : Matches means p i scope state (run.with_holdings rest c)
      pub fits : Eventually (λ n. fit_by p n c d ≡ Ok (BoolValue test))
      pub exposed : Exposed i at code (cond test left right state)

    tested_real : {scope : Scope} (d : Expr) (s : rules.State) (c : run.State) (rest : run.Holdings) (start : rules.Heap) (left right : Going) → HasType p scope d type.Bool → InFields d → Matches means p i scope (rules.with_heap start s) c → Matches means p i scope s (run.with_holdings rest c) →
        Follows left → Follows right → Exposed i at code (eval p o d (rules.with_heap start s) (λ t s1. fork t (rules.with_heap s.heap s1) left right)) →
        ((x : Place) × IsAt means p i at code s x × Eventually (λ n. fit_by p n c d ≡ Err x)) ⊎ Tested scope s c rest d left right
    tested_real {scope = scope} d s c rest start left right ty k m remains hl hr y =
        by_either (eval_real means p i at code o below d scope type.Bool ty k (rules.with_heap start s) c (λ t s1. fork t (rules.with_heap s.heap s1) left right) m (λ t s1. fork_grows (rules.with_heap s.heap s1) t left right hl hr) y)
        (λ z. inl z)
        (λ r.
        let b = as_bool (element r.result) in
        let g = forked means p i at code r.term left right (matches_back rest r.matches r.later remains) r.good hl hr r.exposed b (ap as_bool r.value_is) in
        let le : s.next ≤ g.state.next = subst (λ n. s.next ≤ n) (sym g.next_is) r.later in
        inr record { test = b; state = g.state; later = le; at_is = g.at_is ∙ r.at_is; matches = g.matches; fits = eventually r.fits (λ n e. e ∙ ap Ok (bool_value_is r.result r.typed)); exposed = g.exposed })

    -- a side that was picked
    side_taken : {scope : Scope} (d : Expr) (a e : Assertion) (q : Fraction) (s : rules.State) (c : run.State) (rest : run.Holdings) (on : Giving) (b : Bool) (s1 : rules.State) → s.next ≤ s1.next → s1.at ≡ s.at → Eventually (λ n. fit_by p n c d ≡ Ok (BoolValue b)) →
        ((n : ℕ) → fit_by p n c d ≡ Ok (BoolValue b) → take_by p n c q a rest ≡ take_by p n c q e rest) → Shown scope s1 c rest on e q → Shown scope s c rest on a q
    side_taken d a e q s c rest on b s1 le same f is (inl z) = inl (z.0, is_at means p i at code s s1 z.0 same z.1, both_eventually f z.2 (λ n u v. is n u ∙ v))
    side_taken d a e q s c rest on b s1 le same f is (inr w) = inr record {
      state = w.state;
      snapshot = w.snapshot;
      left = w.left;
      later = le_trans le w.later;
      at_is = w.at_is ∙ same;
      matches = w.matches;
      takes = both_eventually f w.takes (λ n u v. is n u ∙ v);
      exposed = w.exposed;
    }

    implied_taken : (d : Expr) (a : Assertion) → TakeReal means p i at code o a → TakeReal means p i at code o (Implied d a)
    implied_taken d a on_a scope q ty k s c rest x scale start on plain sc m left h y =
        by_either (tested_real d s c rest start inside (on unit) ty.0 k.0 m left (λ s2. consume_grows p o below a x scale start s2 on h) (h unit) y)
        (λ z. inl (z.0, z.1, eventually z.2 (λ n u. bind_err (λ v. fits.choose (place_of d) v (take_by p n c q a rest) (Ok rest)) u)))
        (λ r. go r r.test refl)
      where
        inside : Going
        inside s2 = consume p o a x scale start s2 on

        go : (r : Tested scope s c rest d inside (on unit)) → (b : Bool) → r.test ≡ b → Shown scope s c rest on (Implied d a) q
        go r true e =
            side_taken d (Implied d a) a q s c rest on true r.state r.later r.at_is (subst (λ b. Eventually (λ n. fit_by p n c d ≡ Ok (BoolValue b))) e r.fits)
            (λ n u. bind_ok (λ v. fits.choose (place_of d) v (take_by p n c q a rest) (Ok rest)) (BoolValue true) u)
            (on_a scope q ty.1 k.1 r.state c rest x scale start on plain (scale_later means (fields_world p) r.later (extends-refl means s.next i) sc) (matches_start s start rest m r.later r.matches) r.matches h
            (subst (λ b. Exposed i at code (cond b inside (on unit) r.state)) e r.exposed))
        go r false e = inr record {
          state = r.state;
          snapshot = unit;
          left = rest;
          later = r.later;
          at_is = r.at_is;
          matches = r.matches;
          takes = eventually (subst (λ b. Eventually (λ n. fit_by p n c d ≡ Ok (BoolValue b))) e r.fits) (λ n u. bind_ok (λ v. fits.choose (place_of d) v (take_by p n c q a rest) (Ok rest)) (BoolValue false) u);
          exposed = subst (λ b. Exposed i at code (cond b inside (on unit) r.state)) e r.exposed;
        }

    chosen_taken : (d : Expr) (a b : Assertion) → TakeReal means p i at code o a → TakeReal means p i at code o b → TakeReal means p i at code o (Chosen d a b)
    chosen_taken d a b on_a on_b scope q ty k s c rest x scale start on plain sc m left h y =
        by_either (tested_real d s c rest start inside outside ty.0 k.0 m left (λ s2. consume_grows p o below a x scale start s2 on h) (λ s2. consume_grows p o below b x scale start s2 on h) y)
        (λ z. inl (z.0, z.1, eventually z.2 (λ n u. bind_err (λ v. fits.choose (place_of d) v (take_by p n c q a rest) (take_by p n c q b rest)) u)))
        (λ r. go r r.test refl)
      where
        inside : Going
        inside s2 = consume p o a x scale start s2 on

        outside : Going
        outside s2 = consume p o b x scale start s2 on

        go : (r : Tested scope s c rest d inside outside) → (y : Bool) → r.test ≡ y → Shown scope s c rest on (Chosen d a b) q
        go r true e =
            side_taken d (Chosen d a b) a q s c rest on true r.state r.later r.at_is (subst (λ b. Eventually (λ n. fit_by p n c d ≡ Ok (BoolValue b))) e r.fits)
            (λ n u. bind_ok (λ v. fits.choose (place_of d) v (take_by p n c q a rest) (take_by p n c q b rest)) (BoolValue true) u)
            (on_a scope q ty.1 k.1 r.state c rest x scale start on plain (scale_later means (fields_world p) r.later (extends-refl means s.next i) sc) (matches_start s start rest m r.later r.matches) r.matches h
            (subst (λ b. Exposed i at code (cond b inside outside r.state)) e r.exposed))
        go r false e =
            side_taken d (Chosen d a b) b q s c rest on false r.state r.later r.at_is (subst (λ b. Eventually (λ n. fit_by p n c d ≡ Ok (BoolValue b))) e r.fits)
            (λ n u. bind_ok (λ v. fits.choose (place_of d) v (take_by p n c q a rest) (take_by p n c q b rest)) (BoolValue false) u)
            (on_b scope q ty.2 k.2 r.state c rest x scale start on plain (scale_later means (fields_world p) r.later (extends-refl means s.next i) sc) (matches_start s start rest m r.later r.matches) r.matches h
            (subst (λ b. Exposed i at code (cond b inside outside r.state)) e r.exposed))

    taken : (a : Assertion) → IsOfFields a → TakeReal means p i at code o a
    taken (Pure e) k = pure_taken e
    taken (Points place e f share) k = points_taken place e f share
    taken (Instance place f es share) k = absurd k
    taken (Both a b) k = both_taken a b (taken a k.0) (taken b k.1)
    taken (Implied d a) k = implied_taken d a (taken a k.1)
    taken (Chosen d a b) k = chosen_taken d a b (taken a k.1) (taken b k.2)

    -- as it is stated
    pub take_shown : (a : Assertion) → TakeReal means p i at code o a
    take_shown a scope q ty k = taken a k scope q ty k
