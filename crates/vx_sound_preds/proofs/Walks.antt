-- Where the walks of all predicates passed, proper instances are covered, and a predicate whose walk passed doesn't fail.
use Rattle.std.proofs.Common.{◌≡◌, ℕ, suc, ◌+◌, false, List, [], ◌∷◌, Option, Some, None, refl, sym, ◌∙◌, ap, subst, arith, le_refl, true≢false}
use Rattle.std.specs.Prelude.{Ok, option_and_then, unwrap_or}
use Rattle.std.proofs.lemmas.Option.{same_Some}
use Rattle.vx_frac.specs.Fractions.{none, full, product}
use Rattle.vx_ast.specs.Syntax.{Name, Declaration, Program, Predicate, IsPredicate, Assertion, predicate_named}
use Rattle.vx_smt_meaning.specs.declared.reply.Reply.{Reply}
use Rattle.vx_meaning.specs.Values.{Value}
use Rattle.vx_meaning.specs.States as run
use Rattle.vx_meaning.specs.States.{Heap, Holdings, Location, Instance, At, Folded, amount, bind}
use Rattle.vx_meaning.specs.Flatten.{bare, entries, body_entries, flat}
use Rattle.vx_meaning.specs.Consistent.{total, IsSupported}
use Rattle.vx_meaning.specs.Outcomes.{FailsAt}
use Rattle.vx_meaning.specs.Fits.{add, deeper}
use Rattle.vx_meaning.specs.Fails.{PredicateFails}
use Rattle.vx_meaning.specs.Fails as fails
use Rattle.vx_terms.specs.Build.{whole_amount}
use Rattle.vx_rules.specs.States as rules
use Rattle.vx_rules.specs.Trees.{Tree, End}
use Rattle.vx_rules.specs.Rules.{produce}
use Rattle.vx_rules.specs.Members.{depth, rules as member_rules, blank, ended, tree}
use Rattle.vx_types.specs.Typing.{HaveNoPerm}
use Rattle.vx_types.specs.Closure.{InClosure}
use Rattle.vx_elements.proofs.Settled.{Meaning}
use Rattle.vx_amounts.proofs.Amounts.{Le, Positive, le-refl, le-trans, le-is, not-positive, positive-or, above-add, below-add, sum_same, full-positive}
use Rattle.vx_amounts.proofs.Products.{product_sign, product_positive, positive_le}
use Rattle.vx_sound.specs.Law.{Passes}
use Rattle.vx_sound.proofs.World.{World}
use Rattle.vx_sound.proofs.Standard.{start as start_interpretation, start_null, start_standard}
use Rattle.vx_sound.proofs.Passes.{Cleared, cleared}
use Rattle.vx_sound.proofs.Stands.{Stands}
use Rattle.vx_sound.proofs.Goes.{Goes, declared_all}
use Rattle.vx_sound.proofs.Evaluate.{PartsGo}
use Rattle.vx_sound.proofs.Giving.{whole_scale}
use Rattle.vx_sound.proofs.Assertions.{give_goes}
use Rattle.vx_sound_preds.specs.Bodies.{GoodBodies}
use Rattle.vx_sound_preds.specs.Covered.{AllGood, Covered, IsProper, PredicatesPass}
use Rattle.vx_sound_preds.proofs.Flats.{came, flat_later}
use Rattle.vx_sound_preds.proofs.Totals.{weigh, weigh_none, weight, weight_sign, weight_of_body, weigh_sign, total_weighs, same_is}
use Rattle.vx_sound_preds.proofs.Grouped.{AreSingle, NoDebts}
use Rattle.vx_sound_preds.proofs.Adding.{AreEntries, added, weigh_added}
use Rattle.vx_sound_preds.proofs.Exchanging.{no_negatives, opened, grown}
use Rattle.vx_sound_preds.proofs.Frames.{AllPositive, positive_least, entries_positive, full-product, sum-none}
use Rattle.vx_sound_preds.proofs.Folding.{Stock, held_inside}
use Rattle.vx_sound_preds.proofs.Holding.{TypedAll, typed_added, all_single, added_debts, of_entries, nothing, instances_world, nothing_applied}
use Rattle.vx_sound_preds.proofs.Marking.{BodiesKeep, bodies_keep}
use Rattle.vx_sound_preds.proofs.Entries.{entries_typed}
use Rattle.vx_sound_preds.proofs.Produced.{plain_produced}
use Rattle.vx_sound_preds.proofs.Unfolds.{BodiesSpeak, instances_go}

abbrev null_at : Name → Location
null_at f = record { receiver = 0; field = f }

module _ (p : Program) (good : GoodBodies p) (x : Name) (h : Heap) where
  -- what is inside an instance weighs nothing where the instance does
  abbrev Lighter : ℕ → Location → Holdings → Type 0
  Lighter n l [] = Unit {0}
  Lighter n l ((At k, q) ∷ xs) = Lighter n l xs
  Lighter n l ((Folded j, q) ∷ xs) = Le (weight p h l n (Folded j)) none × Lighter n l xs

  lighter : (n : ℕ) (l : Location) (es : Holdings) → AllPositive es → Le (weigh (weight p h l n) es) none → Lighter n l es
  unfolding weigh
  lighter n l [] pos le = tt
  lighter n l ((At k, q) ∷ xs) pos le = lighter n l xs pos.1 (le-trans (below-add (weigh (weight p h l n) xs) (product_sign (positive_le pos.0) (weight_sign p h l (no_negatives p h l good) n (At k)))) le)
  lighter n l ((Folded j, q) ∷ xs) pos le =
      let up : Le none (weigh (weight p h l n) xs) = weigh_sign p h l (weight p h l n) (weight_sign p h l (no_negatives p h l good) n) xs (positive_least p h l xs pos.1) in
      let mine : Le (product q (weight p h l n (Folded j))) none = le-trans (above-add (product q (weight p h l n (Folded j))) (weigh (weight p h l n) xs) up) le in (
        positive-or (weight p h l n (Folded j)) (λ z. absurd (not-positive (product_positive pos.0 z) mine)) (λ z. z),
        lighter n l xs pos.1 (le-trans (below-add (weigh (weight p h l n) xs) (product_sign (positive_le pos.0) (weight_sign p h l (no_negatives p h l good) n (Folded j)))) le),
      )

  -- by less fuel it weighs the same, or nothing
  less_fuel : (k n : ℕ) (l : Location) (j : Instance) → Le (weight p h l (k + n) (Folded j)) none → Le (weight p h l n (Folded j)) none
  less_fuel k n l j le = go (flat p n h j) refl
    where
      go : (o : Option Holdings) → flat p n h j ≡ o → Le (amount (unwrap_or (flat p n h j) []) (At l)) none
      go None e = le-is (ap (λ (o : Option Holdings). amount (unwrap_or o []) (At l)) e)
      go (Some y) e = le-trans (le-is (ap (λ (o : Option Holdings). amount (unwrap_or o []) (At l)) (e ∙ sym (flat_later p k n h j y e)))) le

  -- a proper instance's entries weigh nothing at null, by any fuel
  light : (i : Instance) (pr : IsProper p x h i) (es : Holdings) → option_and_then (λ d. body_entries p h i.arguments d) (predicate_named p i.predicate) ≡ Some es →
      (n : ℕ) (f : Name) → Le (weigh (weight p h (null_at f) (pr.grounded.0 + n)) es) none
  light i pr es body n f =
      let g = pr.grounded in
      let z : suc n + g.0 ≡ suc (g.0 + n) = omega arith in
      let e : flat p (suc (g.0 + n)) h i ≡ Some g.1 = subst (λ (m : ℕ). flat p m h i ≡ Some g.1) z (flat_later p (suc n) g.0 h i g.1 g.2) in
      le-trans (weight_of_body p h (null_at f) (g.0 + n) i g.1 e es body).back (record { holds = pr.null (suc (g.0 + n)) f })

-- at the depth of a program
pub bodies : (p : Program) (good : GoodBodies p) → BodiesKeep p good (member_rules p)
unfolding member_rules
bodies p good = bodies_keep p good (depth p)

-- no function's symbol means anything
abbrev pub no_function : Meaning
no_function = λ g es e. ⊥

-- The walk of a body

-- where amounts are bounded or not, the same is declared
declared_loose : (ds : List Declaration) (s : rules.State) → record (rules.declare_all ds s) { bounded = false } ≡ rules.declare_all ds (record s { bounded = false })
declared_loose [] s = refl
declared_loose (d ∷ ds) s = declared_loose ds (rules.declare_fresh d.name (rules.sort_of_type d.of) s)

module _ (means : Meaning) (p : Program) (good : GoodBodies p) (Held : Name → Type 0) (no_perm : (x : Name) (d : Predicate) → predicate_named p x ≡ Some d → HaveNoPerm d.parameters) (speak : BodiesSpeak p Held) where
  -- nothing bounds the amounts of a predicate's own walk
  abbrev loose : World
  loose = instances_world p good Held no_perm false

  parts : PartsGo means loose (member_rules p)
  unfolding member_rules
  parts = instances_go means p good Held no_perm false speak (depth p)

  module _ (i : Name) (d : Predicate) (a : Assertion) (body : d.body ≡ Some a) (replies : List Reply) (pass : Passes p i (IsPredicate d) replies) where
    abbrev blank_loose : rules.State
    blank_loose = record blank { bounded = false }

    walked : Cleared (produce p (member_rules p) a whole_amount None (rules.declare_all d.parameters (record blank { bounded = false })) ended)
    walked =
        let k = cleared (tree p i (IsPredicate d)) replies pass.0 pass.1 in
        let e : Cleared (produce p (member_rules p) a whole_amount None (record (rules.declare_all d.parameters blank) { bounded = false }) ended) =
        subst (λ (b : Option Assertion). Cleared (elim b as (λ b. Tree) [ None ↦ End | Some body ↦ produce p (member_rules p) body whole_amount None (record (rules.declare_all d.parameters blank) { bounded = false }) ended ])) body k in
        subst (λ s. Cleared (produce p (member_rules p) a whole_amount None s ended)) (declared_loose d.parameters blank) e

    starts : (h : Heap) → Stands means loose [] start_interpretation (record blank { bounded = false }) (bare [] h)
    starts h = record {
      store = tt;
      path = tt;
      heap = record { each = tt; sums = λ r. le-refl none };
      old = record { each = tt; sums = λ r. le-refl none };
      awake = refl;
      bounded = refl;
      null = start_null;
      standard = start_standard;
      owned = tt;
      marked = λ e. absurd (true≢false (sym e));
      holds = nothing p good Held false h;
      old_holds = nothing p good Held false h;
    }

    -- from any arguments and any heap
    begun : (vs : List Value) → run.HaveTypes d.parameters vs → (h : Heap) → Goes means loose d.parameters start_interpretation 0 (λ s. produce p (member_rules p) a whole_amount None s ended) (bare (bind d.parameters vs) h)
    begun vs tv h = declared_all means loose d.parameters vs tv [] start_interpretation blank_loose (bare [] h) (λ s. produce p (member_rules p) a whole_amount None s ended) (starts h) walked

-- a predicate whose walk passed doesn't fail
pub predicate_sound : (p : Program) (good : GoodBodies p) (Held : Name → Type 0) (no_perm : (x : Name) (d : Predicate) → predicate_named p x ≡ Some d → HaveNoPerm d.parameters) (speak : BodiesSpeak p Held) (i : Name) (d : Predicate) (replies : List Reply) →
    Held i → predicate_named p i ≡ Some d → Passes p i (IsPredicate d) replies → PredicateFails p d → ⊥
predicate_sound p good Held no_perm speak i d replies held is pass (fails.body vs h a at tv body given) =
    let b = speak i d a held is body in
    let g = begun no_function p good Held no_perm speak i d a body replies pass vs tv h in
    give_goes no_function (instances_world p good Held no_perm false) (member_rules p) (parts no_function p good Held no_perm speak) (IsSupported p) (λ c k. k) tt (FailsAt at) a full given b.0 b.1 whole_amount ended (whole_scale no_function (instances_world p good Held no_perm false) g.state.next g.interp) g.stands g.cleared

module _ (p : Program) (good : GoodBodies p) (x : Name) (no_perm : (x : Name) (d : Predicate) → predicate_named p x ≡ Some d → HaveNoPerm d.parameters) (speak : BodiesSpeak p (InClosure p x)) (replies : Name → List Reply) (pass : PredicatesPass p x replies) where
  abbrev Held : Name → Type 0
  Held = InClosure p x

  abbrev means : Meaning
  means = no_function

  -- the entries of a proper instance's body
  body_typed : (h : Heap) (i : Instance) (d : Predicate) (a : Assertion) (es : Holdings) → predicate_named p i.predicate ≡ Some d → d.body ≡ Some a → IsProper p x h i → entries p (bare (bind d.parameters i.arguments) h) a ≡ Some es → TypedAll p (InClosure p x) es
  body_typed h i d a es is body pr en =
      let b = speak i.predicate d a pr.seen is body in
      entries_typed p Held no_perm d.parameters i.arguments (pr.typed d is) h a es b.0 (good.plain i.predicate d a is body) b.1 en

  fits_by : (h : Heap) (i : Instance) (d : Predicate) (a : Assertion) → predicate_named p i.predicate ≡ Some d → d.body ≡ Some a → IsProper p x h i →
      (m : ℕ) × (u : run.State) × (add p (deeper p m) full a (bare (bind d.parameters i.arguments) h) ≡ Ok u)
  fits_by h i d a is body pr =
      let o = opened p h i d a is body pr.grounded in
      let ds = d.parameters in
      let vs = i.arguments in
      let plain_body = good.plain i.predicate d a is body in
      let ps = entries_positive p (bare (bind ds vs) h) a o.entries_of plain_body o.entries_are in
      let types = body_typed h i d a o.entries_of is body pr o.entries_are in
      let b = speak i.predicate d a pr.seen is body in
      let g = begun means p good Held no_perm speak i.predicate d a body (replies i.predicate) (pass i.predicate d pr.seen is) vs (pr.typed d is) h in
      let holds = of_entries p good Held false h o.entries_of types o.can ps (at_null h i pr o.entries_of o.body_is types ps) refl in
      let r = plain_produced means p good Held no_perm false nothing_applied (member_rules p) (parts means p good Held no_perm speak) (λ (u : run.State). Unit {0}) (bodies p good) full a ds (bare (bind ds vs) h) o.entries_of b.0 b.1 plain_body o.entries_are holds
      g.interp g.state whole_amount None ended tt (whole_scale means (instances_world p good Held no_perm false) g.state.next g.interp) g.stands (λ e. absurd (g.stands.marked e)) g.cleared in
      (r.adds.0, run.with_holdings (added full o.entries_of []) (bare (bind ds vs) h), r.adds.1 r.adds.0 (le_refl _))
    where
      at_null : (h : Heap) (i : Instance) (pr : IsProper p x h i) (es : Holdings) → option_and_then (λ d. body_entries p h i.arguments d) (predicate_named p i.predicate) ≡ Some es → TypedAll p (InClosure p x) es → AllPositive es →
          (n : ℕ) (f : Name) → Le (total p n h (added full es []) (null_at f)) none
      at_null h i pr es e types ps n f =
          let hs = added full es [] in
          let l = null_at f in
          let k = pr.grounded.0 in
          let w = weight p h l (k + n) in
          let single : AreSingle hs = all_single p Held hs (typed_added p Held full es [] types tt) in
          let debts : NoDebts hs = added_debts p good Held false full es [] full-positive ps (λ r s. le-refl none) in
          le-trans (total_weighs p h l n hs).there
          (le-trans (grown p h l (no_negatives p h l good) hs single debts k n)
          (le-trans (weigh_added w full es []).there
          (le-trans (sum_same (full-product (weigh w es)) (same_is (weigh_none w))).there
          (le-trans (sum-none (weigh w es)).there (light p good x h i pr es e n f)))))

  -- what is inside a proper instance is proper
  all_proper : (h : Heap) (es : Holdings) → TypedAll p (InClosure p x) es → AreEntries p h es → ((n : ℕ) (f : Name) → (k : ℕ) × Lighter p good x h (k + n) (null_at f) es) → AllGood (IsProper p x) h es
  all_proper h [] t g l = tt
  all_proper h ((At k, q) ∷ xs) t g l = all_proper h xs t.1 g.1 l
  all_proper h ((Folded j, q) ∷ xs) t g l = (
    record {
      seen = t.0.0;
      typed = λ d e. subst (λ (d : Predicate). run.HaveTypes d.parameters j.arguments) (same_Some t.0.1.0 d (sym t.0.1.1 ∙ e)) t.0.1.3;
      grounded = g.0;
      null = λ n f. (less_fuel p good x h (l n f).0 n (null_at f) j (l n f).1.0).holds;
    },
    all_proper h xs t.1 g.1 (λ n f. ((l n f).0, (l n f).1.1)),
  )

  inside_by : (h : Heap) (i : Instance) (es : Holdings) → IsProper p x h i → option_and_then (λ d. body_entries p h i.arguments d) (predicate_named p i.predicate) ≡ Some es → AllGood (IsProper p x) h es
  inside_by h i es pr e =
      let y = came (predicate_named p i.predicate) (λ d. body_entries p h i.arguments d) es e in
      go y.it y.is y.it.body refl y.then
    where
      side : Predicate → Option Assertion → Option Holdings
      side d None = Some []
      side d (Some a) = entries p (bare (bind d.parameters i.arguments) h) a

      go : (d : Predicate) → predicate_named p i.predicate ≡ Some d → (b : Option Assertion) → d.body ≡ b → side d d.body ≡ Some es → AllGood (IsProper p x) h es
      go d is None body f = subst (AllGood (IsProper p x) h) (same_Some [] es (sym (ap (side d) body) ∙ f)) tt
      go d is (Some a) body f =
          let of : entries p (bare (bind d.parameters i.arguments) h) a ≡ Some es = sym (ap (side d) body) ∙ f in
          let o = opened p h i d a is body pr.grounded in
          let one : o.entries_of ≡ es = same_Some o.entries_of es (sym o.entries_are ∙ of) in
          let ps = entries_positive p (bare (bind d.parameters i.arguments) h) a es (good.plain i.predicate d a is body) of in
          all_proper h es (body_typed h i d a es is body pr of) (subst (AreEntries p h) one o.can)
          (λ n f. (pr.grounded.0, lighter p good x h (pr.grounded.0 + n) (null_at f) es ps (light p good x h i pr es e n f)))

  pub proper_covered : Covered p (IsProper p x)
  proper_covered = record { fits = λ h i d a is body pr g. fits_by h i d a is body pr; inside = inside_by }

-- in a state that can be, what is held is proper
pub held_proper : (p : Program) (x : Name) → GoodBodies p → (s : run.State) → IsSupported p s → Stock p s.heap s.holdings → (i : Instance) → Positive (amount s.holdings (Folded i)) →
    InClosure p x i.predicate → ((d : Predicate) → predicate_named p i.predicate ≡ Some d → run.HaveTypes d.parameters i.arguments) → IsProper p x s.heap i
held_proper p x gb s su st i k seen typed = record {
  seen = seen;
  typed = typed;
  grounded = su.grounded i k.holds;
  null = λ n f. (positive-or (weight p s.heap (null_at f) n (Folded i)) (λ z. nothing n f z) (λ z. z)).holds;
}
  where
    nothing : (n : ℕ) (f : Name) → Positive (weight p s.heap (null_at f) n (Folded i)) → Le (weight p s.heap (null_at f) n (Folded i)) none
    nothing n f z =
        let y = held_inside p gb s.heap s.holdings st i k n (null_at f) z in
        absurd (not-positive (let m : Positive (total p y.0 s.heap s.holdings (null_at f)) = record { holds = y.1 } in m) (record { holds = su.null y.0 f }))
