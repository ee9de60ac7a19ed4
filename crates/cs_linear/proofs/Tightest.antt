-- The tightest bounds by column: each is among those that are asserted, and each of those is told by one of them.
use Rattle.std.proofs.Common.{Vec, Global, ◌≡◌, ℕ, ◌+◌, ◌<◌, ◌≤◌, Bool, true, false, true≢false, List, [], ◌∷◌, Option, Some, None, IfSome, IfNone, length, slice_get, slice_set, get_or, refl, sym, ◌∙◌, ap, ap₂, subst, inl, inr, arith, All}
use Rattle.std.proofs.lemmas.List.{length-set}
use Rattle.std.proofs.lemmas.List.Elements.{All-head, All-tail}
use Rattle.std.proofs.lemmas.Option.{slice_get_within, slice_get-get_or, same_Some}
use Rattle.vx_frac.specs.declared.Frac.{Frac}
use Rattle.cs_linear.specs.declared.bounds.Side.{Side}
use Rattle.cs_linear.specs.declared.bounds.Bound.{Bound}
use Rattle.cs_linear.specs.declared.bounds.Side.TheVariants.{AtLeast, AtMost}
use Rattle.cs_linear.specs.declared.limits.Limits.{Limits}
use Rattle.cs_linear.specs.declared.values.Move.{Move}
use Rattle.cs_linear.specs.Amounts.{Amount, pair, amount, is_broken_by, has_room_by}
use Rattle.cs_linear.specs.Checks.{AreLimits, AreTight}
use Rattle.cs_linear.specs.Rows.{Assignment}
use Rattle.cs_linear.specs.Values.{value, values, arrived}
use Rattle.cs_linear.specs.Contradictions.{IsTable, IsOf, IsAmong, Meets, is_broken, amount_at}
use Rattle.cs_linear.specs.Limits.{is_tighter, IsEntered, IsTold, AreTold, IsWithinAt, IsClear, IsBeyond, ArePending, marked, AreMarked}
use Rattle.cs_linear.proofs.Conflicts.{among_known}
use Rattle.cs_linear.proofs.Lists.{set_here, set_others}
use Rattle.cs_linear.proofs.Orders.{tells_lesser, tells_greater}
use Rattle.cs_linear.proofs.Turned.{either}

written_table : (side : Side) (bounds : List Bound) (old : List (Option Bound)) (b : Bound) → IsAmong b bounds → b.column < length old → b.side ≡ side → IsTable side bounds old → IsTable side bounds (slice_set old b.column (Some b))
written_table side bounds old b among lt same t k x e =
    either k b.column
    (λ here.
    let is : b ≡ x = same_Some b x (same_Some (Some b) (Some x) (sym (set_here old b.column (Some b) lt) ∙ ap (slice_get (slice_set old b.column (Some b))) (sym here) ∙ e)) in
    subst (IsOf side bounds k) is record { among = among; column = sym here; same_side = same })
    (λ ne. t k x (sym (set_others old b.column k (Some b) ne) ∙ e))

pub entered_table : (side : Side) (bounds : List Bound) (old new : List (Option Bound)) (b : Bound) → IsAmong b bounds → b.column < length old → IsTable side bounds old → IsEntered side b old new → IsTable side bounds new
entered_table side bounds old new b among lt t (inl (e, f)) = subst (IsTable side bounds) (sym e) t
entered_table side bounds old new b among lt t (inr (s, e, f)) = subst (IsTable side bounds) (sym e) (written_table side bounds old b among lt s t)

pub entered_count : (side : Side) (old new : List (Option Bound)) (b : Bound) → IsEntered side b old new → length new ≡ length old
entered_count side old new b (inl (e, f)) = ap length e
entered_count side old new b (inr (s, e, f)) = ap length e ∙ length-set old b.column (Some b)

-- what one limit says is said by another one

lesser : (s : Side) (x b : Bound) → x.side ≡ s → b.side ≡ s → has_room_by x.side (amount x.limit) (amount b.limit) ≡ false → (v : Amount) → is_broken_by x.side (amount x.limit) v ≡ false → is_broken_by b.side (amount b.limit) v ≡ false
lesser s x b xs bs room v u =
    ap (λ s. is_broken_by s (amount b.limit) v) bs
    ∙ tells_lesser s (amount x.limit) (amount b.limit) v (ap (λ s. has_room_by s (amount x.limit) (amount b.limit)) (sym xs) ∙ room) (ap (λ s. is_broken_by s (amount x.limit) v) (sym xs) ∙ u)

greater : (s : Side) (x b : Bound) → x.side ≡ s → b.side ≡ s → has_room_by x.side (amount x.limit) (amount b.limit) ≡ true → (v : Amount) → is_broken_by b.side (amount b.limit) v ≡ false → is_broken_by x.side (amount x.limit) v ≡ false
greater s x b xs bs room v u =
    ap (λ s. is_broken_by s (amount x.limit) v) xs
    ∙ tells_greater s (amount x.limit) (amount b.limit) v (ap (λ s. has_room_by s (amount x.limit) (amount b.limit)) (sym xs) ∙ room) (ap (λ s. is_broken_by s (amount b.limit) v) (sym bs) ∙ u)

-- one bound more is told

pub entered_told : (side : Side) (bounds : List Bound) (old new : List (Option Bound)) (i : ℕ) (b : Bound) → slice_get bounds i ≡ Some b → b.column < length old → IsTable side bounds old → IsEntered side b old new → AreTold i side bounds old → AreTold (i + 1) side bounds new
entered_told side bounds old new i b at lt t (inl (e, f)) h k x less ex sx =
    subst (λ (os : List (Option Bound)). IsTold os x) (sym e)
    (either k i
    (λ same. stood x (same_Some b x (sym at ∙ ap (slice_get bounds) (sym same) ∙ ex)) sx)
    (λ ne. h k x (omega arith) ex sx))
  where
    told : (o : Option Bound) → b.side ≡ side → slice_get old b.column ≡ Some o → is_tighter b o ≡ false → IsTold old b
    told None bs e f = absurd (true≢false f)
    told (Some x) bs e f = record { limit = x; here = e; tells = lesser side x b (t b.column x e).same_side bs f }

    stood : (x : Bound) → b ≡ x → x.side ≡ side → IsTold old x
    stood x is sx =
        let bs : b.side ≡ side = ap (λ (b : Bound). b.side) is ∙ sx in
        let here = slice_get-get_or old b.column None lt in
        subst (IsTold old) is (told (get_or old b.column None) bs here (f bs (get_or old b.column None) here))
entered_told side bounds old new i b at lt t (inr (s, e, f)) h k x less ex sx =
    subst (λ (os : List (Option Bound)). IsTold os x) (sym e)
    (either k i
    (λ same. subst (IsTold (slice_set old b.column (Some b))) (same_Some b x (sym at ∙ ap (slice_get bounds) (sym same) ∙ ex)) record { limit = b; here = set_here old b.column (Some b) lt; tells = λ v u. u })
    (λ ne. stays x (h k x (omega arith) ex sx)))
  where
    stays : (x : Bound) → IsTold old x → IsTold (slice_set old b.column (Some b)) x
    stays x q =
        either x.column b.column
        (λ same. record {
          limit = b;
          here = ap (slice_get (slice_set old b.column (Some b))) same ∙ set_here old b.column (Some b) lt;
          tells = λ v u. q.tells v (greater side q.limit b (t x.column q.limit q.here).same_side s (f (Some q.limit) (ap (slice_get old) (sym same) ∙ q.here)) v u);
        })
        (λ ne. record { limit = q.limit; here = set_others old b.column x.column (Some b) ne ∙ q.here; tells = q.tells })

pub all_told : (side : Side) (bounds : List Bound) (table : List (Option Bound)) (n : ℕ) → length bounds ≤ n → AreTold n side bounds table → AreTold (length bounds) side bounds table
all_told side bounds table n le h i b lt e s = h i b (omega arith) e s

-- where all columns are clear all bounds are met, and a limit that is broken is a bound that is broken

pub all_meet : (bounds : List Bound) (l : Limits) (mains deltas : Assignment) (width : ℕ) → AreTight bounds l → All (λ (b : Bound). b.column < width) bounds → ((k : ℕ) → k < width → IsClear l mains deltas k) → Meets bounds mains deltas
all_meet bounds l mains deltas width tight known clear i b e = by_side b.side refl where
  c : IsClear l mains deltas b.column
  c = clear b.column (among_known bounds b width known (i, e))

  by_side : (s : Side) → b.side ≡ s → is_broken mains deltas b ≡ false
  by_side AtLeast s = let q = tight.lower i b (slice_get_within bounds i b e) e s in q.tells _ (c.lower (Some q.limit) q.here)
  by_side AtMost s = let q = tight.upper i b (slice_get_within bounds i b e) e s in q.tells _ (c.upper (Some q.limit) q.here)

pub beyond_is : (bounds : List Bound) (l : Limits) (mains deltas : Assignment) (b : Bound) → AreLimits bounds l → IsBeyond l mains deltas b → IsAmong b bounds × (is_broken mains deltas b ≡ true)
beyond_is bounds l mains deltas b lim h = elim h.among [
  | inl e ↦ of_side AtLeast (lim.lower h.column b e)
  | inr e ↦ of_side AtMost (lim.upper h.column b e)
] where
  of_side : (s : Side) → IsOf s bounds h.column b → IsAmong b bounds × (is_broken mains deltas b ≡ true)
  of_side s o = (o.among, ap (λ k. is_broken_by b.side (amount b.limit) (amount_at mains deltas k)) o.column ∙ h.broken)

-- marks

pub cleared : (l : Limits) (mains deltas : Assignment) (marks : List Bool) (k : ℕ) → ArePending l mains deltas marks → IsClear l mains deltas k → ArePending l mains deltas (slice_set marks k false)
cleared l mains deltas marks k h c j e =
    either j k
    (λ same. subst (IsClear l mains deltas) (sym same) c)
    (λ ne. h j (sym (set_others marks k j false ne) ∙ e))

pub marked_keeps : (ms : List Move) (vs : List Frac) (marks : List Bool) → All (λ (m : Move). m.column < length marks) ms → (k : ℕ) → slice_get (marked ms marks) k ≡ Some false → (slice_get marks k ≡ Some false) × (slice_get (arrived ms vs) k ≡ slice_get vs k)
marked_keeps [] vs marks h k e = (e, refl)
marked_keeps (m ∷ ms) vs marks h k e =
    let lt = All-head (λ (m : Move). m.column < length marks) m ms h in
    let rest = subst (λ n. All (λ (m : Move). m.column < n) ms) (sym (length-set marks m.column true)) (All-tail (λ (m : Move). m.column < length marks) m ms h) in
    let r = marked_keeps ms (slice_set vs m.column m.value) (slice_set marks m.column true) rest k e in
    let ne : ¬ (k ≡ m.column) = λ same. true≢false (same_Some true false (sym (set_here marks m.column true lt) ∙ ap (slice_get (slice_set marks m.column true)) (sym same) ∙ r.0)) in
    (sym (set_others marks m.column k true ne) ∙ r.0, r.1 ∙ set_others vs m.column k m.value ne)

pub marked_count : (ms : List Move) (marks : List Bool) → length (marked ms marks) ≡ length marks
marked_count [] marks = refl
marked_count (m ∷ ms) marks = marked_count ms (slice_set marks m.column true) ∙ length-set marks m.column true

pub nothing_marked : (mains deltas : List Frac) (marks : List Bool) → AreMarked mains deltas mains deltas marks marks
nothing_marked mains deltas marks = record { count = refl; each = λ k e. (e, refl, refl) }

pub both_marked : (mains deltas nm nd : List Frac) (ms ds : List Move) (marks first new : List Bool) → nm ≡ arrived ms mains → nd ≡ arrived ds deltas → first ≡ marked ms marks → new ≡ marked ds first →
    All (λ (m : Move). m.column < length marks) ms → All (λ (m : Move). m.column < length first) ds → AreMarked mains deltas nm nd marks new
both_marked mains deltas nm nd ms ds marks first new me de fe ne wm wd = record {
  count = ap length ne ∙ marked_count ds first ∙ ap length fe ∙ marked_count ms marks;
  each = λ k e.
      let r = marked_keeps ds deltas first wd k (ap (λ (xs : List Bool). slice_get xs k) (sym ne) ∙ e) in
      let q = marked_keeps ms mains marks wm k (ap (λ (xs : List Bool). slice_get xs k) (sym fe) ∙ r.0) in
      (q.0, ap (λ (xs : List Frac). values xs k) me ∙ ap value q.1, ap (λ (xs : List Frac). values xs k) de ∙ ap value r.1);
}

pub still_pending : (l : Limits) (mains deltas nm nd : List Frac) (marks new : List Bool) → AreMarked mains deltas nm nd marks new → ArePending l (values mains) (values deltas) marks → ArePending l (values nm) (values nd) new
still_pending l mains deltas nm nd marks new m h k e =
    let r = m.each k e in
    let c = h k r.0 in
    let is : amount_at (values mains) (values deltas) k ≡ amount_at (values nm) (values nd) k = ap₂ pair (sym r.1) (sym r.2) in
    record { lower = subst (IsWithinAt l.lower.items k) is c.lower; upper = subst (IsWithinAt l.upper.items k) is c.upper }

pub if_some : {A : Type 0} (P : A → Type 0) (o : Option A) → ((x : A) → o ≡ Some x → P x) → IfSome o P
if_some P None h = tt
if_some P (Some x) h = h x refl

pub if_none : {A : Type 0} (P : Type 0) (o : Option A) → (o ≡ None → P) → IfNone o P
if_none P None h = h refl
if_none P (Some x) h = tt

-- the same of equal lists

pub clear_as : {l : Limits} {ms mains ds deltas : List Frac} {k : ℕ} → ms ≡ mains → ds ≡ deltas → IsClear l (values ms) (values ds) k → IsClear l (values mains) (values deltas) k
clear_as {l = l} {mains = mains} {ds = ds} {k = k} me de c = subst (λ (xs : List Frac). IsClear l (values mains) (values xs) k) de (subst (λ (xs : List Frac). IsClear l (values xs) (values ds) k) me c)

pub pending_as : (l : Limits) (marks : List Bool) {ms mains ds deltas : List Frac} → ms ≡ mains → ds ≡ deltas → ArePending l (values ms) (values ds) marks → ArePending l (values mains) (values deltas) marks
pending_as l marks me de h k e = clear_as me de (h k e)

pub beyond_as : {l : Limits} {ms mains ds deltas : List Frac} {b : Bound} → ms ≡ mains → ds ≡ deltas → IsBeyond l (values ms) (values ds) b → IsBeyond l (values mains) (values deltas) b
beyond_as {l = l} {mains = mains} {ds = ds} {b = b} me de h = subst (λ (xs : List Frac). IsBeyond l (values mains) (values xs) b) de (subst (λ (xs : List Frac). IsBeyond l (values xs) (values ds) b) me h)

pub marked_on : {m d : List Frac} {marks new : List Bool} {nm nd pm pd : Vec Frac Global} → pm ≡ nm → pd ≡ nd → AreMarked m d nm.items nd.items marks new → AreMarked m d pm.items pd.items marks new
marked_on {m = m} {d = d} {marks = marks} {new = new} {nm = nm} {pd = pd} me de h =
    subst (λ (v : Vec Frac Global). AreMarked m d v.items pd.items marks new) (sym me) (subst (λ (v : Vec Frac Global). AreMarked m d nm.items v.items marks new) (sym de) h)

pub marked_within : (ms seen : List Move) (vs before : List Frac) (n : ℕ) (marks : List Bool) → seen ≡ ms → before ≡ vs → length vs ≡ n → length marks ≡ n → All (λ (m : Move). m.column < length before) ms → All (λ (m : Move). m.column < length marks) seen
marked_within ms seen vs before n marks se be vn mn h =
    subst (All (λ (m : Move). m.column < length marks)) (sym se) (subst (λ k. All (λ (m : Move). m.column < k) ms) (ap length be ∙ vn ∙ sym mn) h)
