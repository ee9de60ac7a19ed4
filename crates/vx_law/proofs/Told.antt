-- A quiet walk: at each side that it leaves something is told, by an interpretation that knows the applications that were made.
use Rattle.std.proofs.Common.{◌≡◌, ℕ, Bool, true, false, not, cond, ◌&&◌, ◌||◌, List, [], ◌∷◌, ◌++◌, append_assoc, refl, sym, ◌∙◌, ap, subst, le_refl, true≢false}
use Rattle.vx_ast.specs.declared.Place.{Place}
use Rattle.vx_ast.specs.declared.ValueType.{ValueType}
use Rattle.vx_ast.specs.Syntax.{Declaration}
use Rattle.vx_meaning.specs.Values.{Value, type_of}
use Rattle.vx_meaning.specs.States as run
use Rattle.vx_terms.specs.Sorts.{BoolSort}
use Rattle.vx_terms.specs.Terms.{Term, same}
use Rattle.vx_terms.specs.Build.{true_term, negate}
use Rattle.vx_terms.specs.Interpretations.{Each, Interpretation, as_bool, value, IsTrueIn}
use Rattle.vx_terms.proofs.Same.{term_is}
use Rattle.vx_terms.proofs.Build.{negate_value}
use Rattle.vx_rules.specs.States.{State, Entry, sort_of_type, is_quiet, is_known, with_branch}
use Rattle.vx_rules.specs.Trees.{Code, Tree, End, Impossible, Step, Ask, Probe, Fork}
use Rattle.vx_rules.specs.Trees as trees
use Rattle.vx_rules.specs.Chunks.{Candidate}
use Rattle.vx_rules.specs.States as rules
use Rattle.vx_rules.specs.Rules.{Giving, Going, GivingAll, question, unless_false, ask, never, fork, first_with}
use Rattle.vx_types.specs.Typing.{Scope}
use Rattle.vx_elements.proofs.Settled.{Meaning, Extends, extends-refl, extends-trans, value_kept}
use Rattle.vx_elements.proofs.Built.{Good, good_later, good_negate}
use Rattle.vx_elements.proofs.Elements.{element}
use Rattle.vx_elements.proofs.Places.{IsPlace}
use Rattle.vx_sound.proofs.World.{World}
use Rattle.vx_sound.proofs.Stands.{PathStands, path_later, known_true, TermsStand}
use Rattle.vx_live.specs.Quiet.{Still}
use Rattle.vx_live.proofs.Quiet.{Quiet, LeftBy, still_quiet, after, entry_still}
use Rattle.vx_law.proofs.Woken.{Quietly, with_side}

pub each_behind : {A : Type 0} (P : A → Type 0) (xs ys : List A) → Each P (xs ++ ys) → Each P ys
each_behind P [] ys h = h
each_behind P (x ∷ xs) ys h = each_behind P xs ys h.1

pub literal_true : (i : Interpretation) (t : Term) → same t true_term ≡ true → IsTrueIn i t
literal_true i t e = subst (IsTrueIn i) (sym (term_is t true_term e)) refl

pub left_later : (P Q : Term → State → Type 0) → ((t : Term) (s : State) → P t s → Q t s) → (t : Tree) → LeftBy P t → LeftBy Q t
left_later P Q f End h = tt
left_later P Q f (Impossible s) h = tt
left_later P Q f (trees.On t s) h = f t s h
left_later P Q f (Step t) h = left_later P Q f t h
left_later P Q f (Ask q t) h = left_later P Q f t h
left_later P Q f (Probe q a b) h = (left_later P Q f a h.0, left_later P Q f b h.1)
left_later P Q f (Fork a b) h = (left_later P Q f a h.0, left_later P Q f b h.1)

-- where it began, and what is told of a side, which more applications leave as it is
pub record Walk (means : Meaning) (n : ℕ) : Type 1 where
  pub start : State
  pub quiet : Quiet start
  pub Tells : Interpretation → Term → State → Type 0
  pub later : (i j : Interpretation) (t : Term) (u : State) → Extends means n i j → Tells i t u → Tells j t u

module _ (means : Meaning) (world : World) (n : ℕ) (w : Walk means n) where
  -- on the way that the concrete run takes
  pub record On (scope : Scope) (i : Interpretation) (s : State) (c : run.State) : Type 0 where
    pub still : Still w.start s
    pub quietly : Quietly means world n scope i s c

  -- off it: behind a branch that isn't true
  pub record Off (i : Interpretation) (s : State) : Type 0 where
    pub still : Still w.start s
    pub front : List Entry
    pub turn : Entry
    pub back : List Entry
    pub path : s.path ≡ w.start.path ++ (front ++ turn ∷ back)
    pub before : PathStands means world n i front
    pub branch : turn.branch ≡ true
    pub good : Good means n i turn.term BoolSort
    pub not_true : as_bool (value i turn.term) ≡ false

  pub off_later : {i j : Interpretation} {s : State} → Extends means n i j → Off i s → Off j s
  off_later x o = record {
    still = o.still;
    front = o.front;
    turn = o.turn;
    back = o.back;
    path = o.path;
    before = path_later means world (le_refl n) x o.front o.before;
    branch = o.branch;
    good = good_later means (le_refl n) x o.good;
    not_true = ap as_bool (value_kept means o.turn.term o.good.settled x) ∙ o.not_true;
  }

  pub off_still : {i : Interpretation} {s u : State} → Off i s → Still s u → Off i u
  off_still o st = record {
    still = after o.still st;
    front = o.front;
    turn = o.turn;
    back = o.back ++ st.path.0;
    path = st.path.1 ∙ ap (λ es. es ++ st.path.0) o.path ∙ append_assoc w.start.path (o.front ++ o.turn ∷ o.back) st.path.0 ∙ ap (λ es. w.start.path ++ es) (append_assoc o.front (o.turn ∷ o.back) st.path.0);
    before = o.before;
    branch = o.branch;
    good = o.good;
    not_true = o.not_true;
  }

  turned : {scope : Scope} {i : Interpretation} {s : State} {c : run.State} (t : Term) → On scope i s c → Good means n i t BoolSort → as_bool (value i t) ≡ false → Off i (with_branch t s)
  turned {i = i} {s = s} t on g h =
      let e : Entry = record { term = t; branch = true } in
      let added = on.still.path.0 in
      record {
        still = after on.still (entry_still e s);
        front = added;
        turn = e;
        back = [];
        path = ap (λ es. es ++ e ∷ []) on.still.path.1 ∙ append_assoc w.start.path added (e ∷ []);
        before = each_behind _ w.start.path added (subst (λ es. PathStands means world n i es) on.still.path.1 on.quietly.stands.path);
        branch = refl;
        good = g;
        not_true = h;
      }

  -- What is told of the sides of a tree, once some applications are known

  pub record Told (i : Interpretation) (t : Tree) : Type 0 where
    pub interp : Interpretation
    pub extends : Extends means n i interp
    pub left : LeftBy (w.Tells interp) t

  pub told_here : {i : Interpretation} (t : Tree) → LeftBy (w.Tells i) t → Told i t
  told_here {i = i} t h = record { interp = i; extends = extends-refl means n i; left = h }

  pub told_after : {i j : Interpretation} {t : Tree} → Extends means n i j → Told j t → Told i t
  told_after x k = record { interp = k.interp; extends = extends-trans means (le_refl n) x k.extends; left = k.left }

  -- What follows, on the way and off it

  abbrev pub Follows : Scope → Interpretation → run.State → Going → Type 0
  Follows scope i c on = (j : Interpretation) (s : State) → Extends means n i j → On scope j s c → Told j (on s)

  abbrev pub FollowsWith : Scope → Interpretation → run.State → ValueType → Value → Giving → Type 0
  FollowsWith scope i c t v on =
      (j : Interpretation) (u : Term) (s : State) → Extends means n i j → On scope j s c → Good means n j u (sort_of_type t) → value j u ≡ element v → type_of v ≡ t → Told j (on u s)

  abbrev pub FollowsAll : Scope → Interpretation → run.State → List Declaration → List Value → GivingAll → Type 0
  FollowsAll scope i c ds vs on = (j : Interpretation) (us : List Term) (s : State) → Extends means n i j → On scope j s c → TermsStand means world n j ds us vs → Told j (on us s)

  abbrev pub OffGoing : Going → Type 0
  OffGoing on = (j : Interpretation) (s : State) → Off j s → LeftBy (w.Tells j) (on s)

  abbrev pub OffGiving : Giving → Type 0
  OffGiving on = (j : Interpretation) (u : Term) (s : State) → Off j s → LeftBy (w.Tells j) (on u s)

  abbrev pub OffAll : GivingAll → Type 0
  OffAll on = (j : Interpretation) (us : List Term) (s : State) → Off j s → LeftBy (w.Tells j) (on us s)

  -- Steps

  pub on_quiet : {scope : Scope} {i : Interpretation} {s : State} {c : run.State} → On scope i s c → Quiet s
  on_quiet on = still_quiet on.still w.quiet

  pub off_quiet : {i : Interpretation} {s : State} → Off i s → Quiet s
  off_quiet o = still_quiet o.still w.quiet

  case_told : (i : Interpretation) (a b : Bool) → b ≡ true → (x y : Tree) → Told i x → Told i (cond (a || b) x y)
  case_told i true b e x y h = h
  case_told i false true e x y h = h
  case_told i false false e x y h = cc

  end_told : (i : Interpretation) (b : Bool) → b ≡ true → (x : Tree) → Told i (cond b End x)
  end_told i true e x = told_here End tt
  end_told i false e x = cc

  pub step_told : {i : Interpretation} (t : Tree) → Told i t → Told i (Step t)
  step_told t k = record { interp = k.interp; extends = k.extends; left = k.left }

  pub ask_told : {i : Interpretation} (s : State) (c : Term) (at : Place) (code : Code) (on : Going) → Quiet s → Told i (on s) → Told i (ask c at code s on)
  ask_told {i = i} s c at code on q h = case_told i (same c true_term) (is_quiet s) q (Step (on s)) _ (step_told (on s) h)

  pub never_told : (i : Interpretation) (s : State) (at : Place) (code : Code) → Quiet s → Told i (never at code s)
  never_told i s at code q = end_told i (is_quiet s) q _

  -- above level 0 no sum is asked for
  pub unsummed_told : (i : Interpretation) (a b : Bool) → b ≡ true → (x y : Tree) → Told i y → Told i (cond (a && not b) x y)
  unsummed_told i true true e x y h = h
  unsummed_told i false true e x y h = h
  unsummed_told i a false e x y h = cc

  pub quiet_told : (i : Interpretation) (b : Bool) → b ≡ true → (x y : Tree) → Told i x → Told i (cond b x y)
  quiet_told i true e x y h = h
  quiet_told i false e x y h = cc

  pub no_chunk_told : (i : Interpretation) (s : State) (x : Tree) → Quiet s → Told i (cond (is_quiet s) End x)
  no_chunk_told i s x q = end_told i (is_quiet s) q x

  both_sides : {i : Interpretation} (a b : Tree) (k : Told i a) → LeftBy (w.Tells k.interp) b → Told i (Fork a b)
  both_sides a b k h = record { interp = k.interp; extends = k.extends; left = (k.left, h) }

  other_sides : {i : Interpretation} (a b : Tree) (k : Told i b) → LeftBy (w.Tells k.interp) a → Told i (Fork a b)
  other_sides a b k h = record { interp = k.interp; extends = k.extends; left = (h, k.left) }

  -- the side that the condition picks; the other is off the way
  pub fork_told : {scope : Scope} {i : Interpretation} {s : State} {c : run.State} (t : Term) (left right : Going) → On scope i s c → Good means n i t BoolSort → (b : Bool) → as_bool (value i t) ≡ b →
      (b ≡ true → Follows scope i c left) → (b ≡ false → Follows scope i c right) → OffGoing left → OffGoing right → Told i (fork t s left right)
  fork_told {scope = scope} {i = i} {s = s} {c = c} t left right on g b is go_left go_right off_left off_right = go (is_known t s) refl (is_known (negate t) s) refl b is go_left go_right
    where
      untrue : (b : Bool) → as_bool (value i t) ≡ b → as_bool (value i (negate t)) ≡ not b
      untrue b e = ap as_bool (negate_value i g.formed) ∙ ap not e

      known : (u : Term) → is_known u s ≡ true → IsTrueIn i u
      known u e = known_true means world u on.quietly.stands e

      go : (x : Bool) → is_known t s ≡ x → (y : Bool) → is_known (negate t) s ≡ y → (b : Bool) → as_bool (value i t) ≡ b → (b ≡ true → Follows scope i c left) → (b ≡ false → Follows scope i c right) →
          Told i (cond x (Step (left s)) (cond y (Step (right s)) (Fork (left (with_branch t s)) (right (with_branch (negate t) s)))))
      go true x y f true e go_left go_right = step_told (left s) (go_left refl i s (extends-refl means n i) on)
      go true x y f false e go_left go_right = absurd (true≢false (sym (known t x) ∙ e))
      go false x true f false e go_left go_right = step_told (right s) (go_right refl i s (extends-refl means n i) on)
      go false x true f true e go_left go_right = absurd (true≢false (sym (known (negate t) f) ∙ untrue true e))
      go false x false f true e go_left go_right =
          let k = go_left refl i (with_branch t s) (extends-refl means n i) (record { still = after on.still (entry_still record { term = t; branch = true } s); quietly = with_side means world n t on.quietly g e }) in
          both_sides (left (with_branch t s)) (right (with_branch (negate t) s)) k (off_right k.interp (with_branch (negate t) s) (off_later k.extends (turned (negate t) on (good_negate means g) (untrue true e))))
      go false x false f false e go_left go_right =
          let k = go_right refl i (with_branch (negate t) s) (extends-refl means n i) (record { still = after on.still (entry_still record { term = negate t; branch = true } s); quietly = with_side means world n (negate t) on.quietly (good_negate means g) (untrue false e) }) in
          other_sides (left (with_branch t s)) (right (with_branch (negate t) s)) k (off_left k.interp (with_branch t s) (off_later k.extends (turned t on g e)))

  -- the first candidate that is literally as wanted, or what follows where none is
  pub first_told : {i : Interpretation} (s : State) (wanted : rules.Chunk → Term) (cs : List Candidate) (at : Place) (code : Code) (on : Candidate → Tree) (otherwise : Tree) → Quiet s → {key : rules.Chunk} → Each (IsPlace key s.heap) cs →
      ((d : Candidate) → IsPlace key s.heap d → IsTrueIn i (wanted d.chunk) → Told i (on d)) → Told i otherwise → Told i (first_with wanted cs at code s on otherwise)
  first_told s wanted [] at code on otherwise q pl h k = k
  first_told {i = i} s wanted (d ∷ ds) at code on otherwise q pl h k = go (same (wanted d.chunk) true_term) refl (is_quiet s) q (first_told s wanted ds at code on otherwise q pl.1 h k)
    where
      go : (a : Bool) → same (wanted d.chunk) true_term ≡ a → (b : Bool) → b ≡ true → Told i (first_with wanted ds at code s on otherwise) →
          Told i (cond a (Step (on d)) (cond b (Step (first_with wanted ds at code s on otherwise)) (Probe (question true (wanted d.chunk) at code s)
          (unless_false (wanted d.chunk) s (on d)) (first_with wanted ds at code s on otherwise))))
      go true e b f r = step_told (on d) (h d pl.0 (literal_true i (wanted d.chunk) e))
      go false e true f r = step_told (first_with wanted ds at code s on otherwise) r
      go false e false f r = cc
