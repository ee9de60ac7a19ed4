-- What an entry does for a broken bound, and the sums of those that block.
use Rattle.std.proofs.Common.{◌≡◌, ℕ, pos, ◌+◌, ◌<◌, ◌≤◌, true, false, true≢false, List, [], ◌∷◌, ◌++◌, Option, Some, length, slice_get, get_or, drop, sym, ◌∙◌, ap, ap₂, subst, All}
use Rattle.std.proofs.lemmas.List.Elements.{All-append, All-cons, All-nil}
use Rattle.std.proofs.lemmas.List.{drop_all}
use Rattle.vx_frac.specs.Fractions.{Fraction, none, lowest, is_below}
use Rattle.vx_frac.specs.Fraction.{fraction}
use Rattle.vx_frac.specs.declared.Frac.{Frac}
use Rattle.vx_frac.proofs.Reduced.{lowest_fraction}
use Rattle.vx_amounts.proofs.Amounts.{lowest_is}
use Rattle.cs_linear.specs.Numbers.{plus, times}
use Rattle.cs_linear.specs.Amounts.{Amount, pair, amount, has_sign, has_room_by}
use Rattle.cs_linear.specs.Rows.{Assignment, multiple, total}
use Rattle.cs_linear.specs.Values.{value, values}
use Rattle.cs_linear.specs.Contradictions.{columns, limits, amount_at, IsBlocking, IsTable}
use Rattle.cs_linear.specs.Checks.{IsBlock, IsBlocked, IsJudged, IsMet}
use Rattle.cs_linear.specs.declared.bounds.Side.{Side}
use Rattle.cs_linear.specs.declared.bounds.Side.TheVariants.{AtLeast, AtMost}
use Rattle.cs_linear.specs.declared.bounds.Bound.{Bound}
use Rattle.cs_linear.specs.declared.bounds.Part.{Part}
use Rattle.cs_linear.specs.declared.rows.Entry.{Entry}
use Rattle.cs_linear.specs.declared.check.Judged.{Judged}
use Rattle.cs_linear.specs.declared.check.Judged.TheVariants as judged
use Rattle.cs_linear.proofs.Arithmetic.{plus_assoc, plus_none, none_plus, none_times, times_none, times_plus, times_assoc, lowest_of_plus, lowest_of_times, lowest_none, lowest_zero}
use Rattle.cs_linear.proofs.Lists.{read_as}
use Rattle.cs_linear.proofs.Orders.{le_not_below}
use Rattle.cs_linear.proofs.Added.{next_total}

-- a multiplier with a sign is of a factor other than 0

unsigned : (side : Side) → has_sign side none ≡ true → ⊥
unsigned AtLeast h = true≢false (sym h)
unsigned AtMost h = true≢false (sym h)

has_factor : (side : Side) (t f q : Fraction) → lowest f ≡ f → q ≡ times t f → has_sign side q ≡ true → ¬ (f.numerator ≡ pos 0)
has_factor side t f q low e h z =
    unsigned side (subst (λ q. has_sign side q ≡ true) (e ∙ ap (times t) (sym low ∙ lowest_zero f z) ∙ times_none t) h)

pub judge_is : (side : Side) (bounds : List Bound) (table : List (Option Bound)) (a d : Assignment) (t : Fraction) (e : Entry) (limit : Option Bound) (q : Frac) (v : Amount) (j : Judged) → IsTable side bounds table → slice_get table e.column ≡ Some limit →
    fraction q ≡ times t (fraction e.factor) → has_sign side (fraction q) ≡ true → v ≡ amount_at a d e.column → IsBlock limit q v j → IsJudged bounds a d t e j
judge_is side bounds table a d t e limit q v judged.Idle table_is at qe sign ve h = absurd h
judge_is side bounds table a d t e limit q v judged.Moves table_is at qe sign ve h = has_factor side t (fraction e.factor) (fraction q) (lowest_fraction e.factor) qe sign
judge_is side bounds table a d t e limit q v (judged.Blocked p) table_is at qe sign ve h =
    let of = table_is e.column p.bound (at ∙ ap Some h.0) in
    record {
      blocking = record {
        part = record { among = of.among; sign = subst (λ s. has_sign s (fraction p.multiplier) ≡ true) (sym of.same_side) (subst (λ (m : Frac). has_sign side (fraction m) ≡ true) (sym h.1) sign) };
        full = subst (λ k. has_room_by p.bound.side (amount p.bound.limit) (amount_at a d k) ≡ false) (sym of.column) (subst (λ v. has_room_by p.bound.side (amount p.bound.limit) v ≡ false) ve h.2);
      };
      column = of.column;
      multiplier = ap fraction h.1 ∙ qe;
    }

pub no_sign : (q : Frac) → is_below none (fraction q) ≡ false → is_below (fraction q) none ≡ false → fraction q ≡ none
no_sign q h k = sym (lowest_fraction q) ∙ lowest_is (record { there = le_not_below none (fraction q) h; back = le_not_below (fraction q) none k }) ∙ lowest_none

pub value_is : (mains deltas : List Frac) (k : ℕ) (m d : Frac) → k < length mains → k < length deltas → m ≡ get_or mains k m → d ≡ get_or deltas k d → pair (fraction m) (fraction d) ≡ amount_at (values mains) (values deltas) k
value_is mains deltas k m d lm ld im id = ap₂ (λ (x y : Option Frac). pair (value x) (value y)) (sym (read_as mains k m lm im)) (sym (read_as deltas k d ld id))

-- columns of parts

pub lowest_of_columns : (ps : List Part) (x : Assignment) → lowest (columns ps x) ≡ columns ps x
lowest_of_columns [] x = lowest_none
lowest_of_columns (p ∷ ps) x = lowest_of_plus _ _

pub columns_more : (ps : List Part) (p : Part) (x : Assignment) → columns (ps ++ p ∷ []) x ≡ plus (columns ps x) (times (fraction p.multiplier) (x p.bound.column))
columns_more [] p x = plus_none _ ∙ lowest_of_times _ _ ∙ sym (none_plus _ ∙ lowest_of_times _ _)
columns_more (q ∷ ps) p x = ap (plus (times (fraction q.multiplier) (x q.bound.column))) (columns_more ps p x) ∙ sym (plus_assoc _ _ _)

pub limits_more : (ps : List Part) (p : Part) (f : Bound → Fraction) → limits (ps ++ p ∷ []) f ≡ plus (limits ps f) (times (fraction p.multiplier) (f p.bound))
limits_more [] p f = plus_none _ ∙ lowest_of_times _ _ ∙ sym (none_plus _ ∙ lowest_of_times _ _)
limits_more (q ∷ ps) p f = ap (plus (times (fraction q.multiplier) (f q.bound))) (limits_more ps p f) ∙ sym (plus_assoc _ _ _)

pub idle_met : (bounds : List Bound) (a d : Assignment) (t : Fraction) (ps : List Part) (e : Entry) → times t (fraction e.factor) ≡ none → IsMet bounds a d t ps e ps false
idle_met bounds a d t ps e h = record {
  moving = λ is. absurd (true≢false (sym is));
  columns = λ is x. sym (ap (plus (columns ps x)) (sym (times_assoc t (fraction e.factor) (x e.column)) ∙ ap (λ q. times q (x e.column)) h ∙ none_times _) ∙ plus_none _ ∙ lowest_of_columns ps x);
  blocking = λ is b. b;
}

pub moves_met : (bounds : List Bound) (a d : Assignment) (t : Fraction) (ps : List Part) (e : Entry) → ¬ ((fraction e.factor).numerator ≡ pos 0) → IsMet bounds a d t ps e ps true
moves_met bounds a d t ps e h = record {
  moving = λ is. h;
  columns = λ is. absurd (true≢false is);
  blocking = λ is. absurd (true≢false is);
}

pub blocked_met : (bounds : List Bound) (a d : Assignment) (t : Fraction) (ps new : List Part) (e : Entry) (p : Part) → IsBlocked bounds a d t e p → new ≡ ps ++ p ∷ [] → IsMet bounds a d t ps e new false
blocked_met bounds a d t ps new e p h is = record {
  moving = λ is. absurd (true≢false (sym is));
  columns = λ _ x. ap (λ qs. columns qs x) is ∙ columns_more ps p x ∙ ap (plus (columns ps x)) (ap₂ (λ (q : Fraction) (k : ℕ). times q (x k)) h.multiplier h.column ∙ times_assoc t (fraction e.factor) (x e.column));
  blocking = λ _ b. subst (All (IsBlocking bounds a d)) (sym is) (All-append (IsBlocking bounds a d) ps (p ∷ []) b (All-cons (IsBlocking bounds a d) p [] h.blocking (All-nil (IsBlocking bounds a d))));
}

-- along the entries

pub meets_begin : (ps : List Part) (es : List Entry) (t : Fraction) (x : Assignment) → ps ≡ [] → plus (columns ps x) (times t (total (drop 0 es) x)) ≡ times t (total es x)
meets_begin ps es t x is = ap (λ qs. plus (columns qs x) (times t (total es x))) is ∙ none_plus _ ∙ lowest_of_times _ _

meet_step : (c t m r s : Fraction) → plus m r ≡ s → plus (plus c (times t m)) (times t r) ≡ plus c (times t s)
meet_step c t m r s e = plus_assoc _ _ _ ∙ ap (plus c) (sym (times_plus t m r) ∙ ap (times t) e)

pub meets_go : (ps new : List Part) (es : List Entry) (i : ℕ) (e : Entry) (t : Fraction) (x : Assignment) → i < length es → e ≡ get_or es i e → columns new x ≡ plus (columns ps x) (times t (multiple e x)) →
    plus (columns new x) (times t (total (drop (i + 1) es) x)) ≡ plus (columns ps x) (times t (total (drop i es) x))
meets_go ps new es i e t x lt is h =
    ap (λ c. plus c (times t (total (drop (i + 1) es) x))) h
    ∙ meet_step (columns ps x) t (multiple e x) (total (drop (i + 1) es) x) (total (drop i es) x) (sym (next_total es i e x lt is))

pub meets_end : (ps : List Part) (es : List Entry) (i : ℕ) (t : Fraction) (x : Assignment) → length es ≤ i → columns ps x ≡ plus (columns ps x) (times t (total (drop i es) x))
meets_end ps es i t x le = sym (ap (λ xs. plus (columns ps x) (times t (total xs x))) (drop_all i es le) ∙ ap (plus (columns ps x)) (times_none t) ∙ plus_none _ ∙ lowest_of_columns ps x)

pub none_block : (bounds : List Bound) (a d : Assignment) (ps : List Part) → ps ≡ [] → All (IsBlocking bounds a d) ps
none_block bounds a d ps is = subst (All (IsBlocking bounds a d)) (sym is) (All-nil (IsBlocking bounds a d))
