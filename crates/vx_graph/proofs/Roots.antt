-- Groups found by two searches, the second within what the first has found.
use Rattle.std.proofs.Common.{◌≡◌, ◌≢◌, ℕ, ◌<◌, ◌⊎◌, inl, inr, Bool, true, false, ◌||◌, ◌&&◌, nat_eq, List, [], ◌∷◌, ◌++◌, length, refl, ap, ◌∙◌, sym, subst, eq-eqb, if◌then◌else◌}
use Rattle.std.specs.Prelude.{not, ◌↔◌, Option, Some, None}
use Rattle.std.proofs.lemmas.Bool.{false≢true}
use Rattle.std.proofs.lemmas.Bool.Decides.{eqb_tells}
use Rattle.vx_ast.specs.declared.MemberId.{MemberId}
use Rattle.vx_graph.specs.Groups.{root_at, is_same, are_together}
use Rattle.vx_graph.specs.Listed.{is_in, is_marked}
use Rattle.vx_graph.specs.Reach.{Rows, Reaches, at_once, further, leads, InRange}
use Rattle.vx_graph.specs.Rooted.{Together, IsWhole, Rooted}
use Rattle.vx_graph.specs.Within.{ReachesWithin, straight, onward}
use Rattle.vx_graph.proofs.Lists.{push_is_in}
use Rattle.vx_graph.proofs.Turned.{back, leads_further, leads_within, reaches_within}

pub reaches_on : (rows : Rows) {a b c : ℕ} → Reaches rows a b → Reaches rows b c → Reaches rows a c
reaches_on rows (at_once l) more = further l more
reaches_on rows (further l next) more = further l (reaches_on rows next more)

-- a way by marked members is a way
pub any_way : (marks : List Bool) (rows : Rows) {a b : ℕ} → ReachesWithin marks rows a b → Reaches rows a b
any_way marks rows (straight l i) = at_once l
any_way marks rows (onward l i more) = further l (any_way marks rows more)

last_marked : (marks : List Bool) (rows : Rows) {a b : ℕ} → ReachesWithin marks rows a b → is_marked marks b ≡ true
last_marked marks rows (straight l i) = i
last_marked marks rows (onward l i more) = last_marked marks rows more

-- where all are marked, each way is by marked members
pub all_ways : (marks : List Bool) (rows : Rows) (n : ℕ) → InRange n rows → ((k : ℕ) → k < n → is_marked marks k ≡ true) → {a b : ℕ} → Reaches rows a b → ReachesWithin marks rows a b
all_ways marks rows n range all {a} {b} (at_once l) = straight l (all b (leads_within n rows range a b l))
all_ways marks rows n range all {a} (further {b = c} l more) = onward l (all c (leads_within n rows range a c l)) (all_ways marks rows n range all more)

-- a way of which each step stays among marked members
stays : (marks : List Bool) (rows : Rows) (P : ℕ → Type 0) (c : ℕ) → ((n : ℕ) → P n → is_marked marks n ≡ true) →
    ((a b : ℕ) → P a → leads rows a b ≡ true → Reaches rows b c → P b) → P c → {a : ℕ} → P a → Reaches rows a c → ReachesWithin marks rows a c
stays marks rows P c marked step last here (at_once l) = straight l (marked c last)
stays marks rows P c marked step last {a} here (further {b = b} l more) =
    let there = step a b here l more in
    onward l (marked b there) (stays marks rows P c marked step last there more)

pub together_back : (rows : Rows) {a b : ℕ} → Together rows a b → Together rows b a
together_back rows t = (t.1, t.0)

pub together_on : (rows : Rows) {a b c : ℕ} → Together rows a b → Together rows b c → Together rows a c
together_on rows t u = (reaches_on rows t.0 u.0, reaches_on rows u.1 t.1)

module _ (targets sources : Rows) (turned : (a b : ℕ) → leads sources b a ≡ leads targets a b) (left before : List Bool) (r : ℕ)
    (whole : IsWhole targets left) (here : is_marked left r ≡ true) (marked : (n : ℕ) → (is_marked before n ≡ true) ↔ ReachesWithin left sources r n) where
  back_along : {a b : ℕ} → Reaches sources a b → Reaches targets b a
  back_along way = back sources targets (λ a b. sym (turned b a)) way

  -- the whole group is found by the first search
  found_before : (n : ℕ) → Together targets r n → is_marked before n ≡ true
  found_before n t = (marked n).1 (stays left sources (Together targets r) n (λ k u. whole r k u here)
      (λ a b u l more. (reaches_on targets t.0 (back_along more), further (sym (turned b a) ∙ l) u.1)) t (together_on targets t (together_back targets t)) (back targets sources turned t.1))

  pub group_found : (n : ℕ) → ReachesWithin before targets r n ↔ Together targets r n
  group_found n = (
    (λ way. (any_way before targets way, back_along (any_way left sources ((marked n).0 (last_marked before targets way))))),
    (λ t. stays before targets (Together targets r) n found_before (λ a b u l more. (leads_further targets u.0 l, reaches_on targets more t.1)) t (together_on targets t (together_back targets t)) t.0),
  )

pub decide : (b : Bool) → (b ≡ true) ⊎ (b ≡ false)
decide true = inl refl
decide false = inr refl

both : {Goal : Type 0} (b : Bool) → b ≡ true → b ≡ false → Goal
both b t f = absurd (false≢true (sym f ∙ t))

-- what is taken from those left
parts : (x g e : Bool) → ((x && not g) && not e) ≡ true → (x ≡ true) × (g ≡ false) × (e ≡ false)
parts true false false t = (refl, refl, refl)
parts true false true t = absurd (false≢true t)
parts true true e t = absurd (false≢true t)
parts false g e t = absurd (false≢true t)

kept : (x g e : Bool) → x ≡ true → g ≡ false → e ≡ false → ((x && not g) && not e) ≡ true
kept x g e xt gf ef = ap (λ b. (b && not g) && not e) xt ∙ ap (λ b. (true && not b) && not e) gf ∙ ap (λ b. (true && true) && not b) ef

gone : (x g e : Bool) → x ≡ true → g ≡ false → ((x && not g) && not e) ≡ false → e ≡ true
gone x g true xt gf f = refl
gone x g false xt gf f = absurd (false≢true (sym f ∙ kept x g false xt gf refl))

equal : (a b : ℕ) → nat_eq a b ≡ true → a ≡ b
equal a b t = go (eqb_tells a b)
  where
    go : ((nat_eq a b ≡ true) × (a ≡ b)) ⊎ ((nat_eq a b ≡ false) × (a ≢ b)) → a ≡ b
    go (inl (e, same)) = same
    go (inr (f, other)) = both (nat_eq a b) t f

some_same : (m r : MemberId) → Some m ≡ Some r → m ≡ r
some_same m r e = cc

none_some : {Goal : Type 0} (r : MemberId) → None ≡ Some r → Goal
none_some r e = cc

module _ (rows : Rows) (roots new : List (Option MemberId)) (left rest : List Bool) (group : ℕ → Bool) (m : MemberId)
    (is_group : (n : ℕ) → (group n ≡ true) ↔ Together rows m.0 n)
    (roots_are : (n : ℕ) → root_at new n ≡ (if group n then Some m else root_at roots n))
    (rest_is : (n : ℕ) → is_marked rest n ≡ ((is_marked left n && not (group n)) && not (nat_eq m.0 n)))
    (here : is_marked left m.0 ≡ true) (r : Rooted rows roots left) where
  rest_parts : (n : ℕ) → is_marked rest n ≡ true → (is_marked left n ≡ true) × (group n ≡ false) × (nat_eq m.0 n ≡ false)
  rest_parts n t = parts (is_marked left n) (group n) (nat_eq m.0 n) (sym (rest_is n) ∙ t)

  root_in : (n : ℕ) → group n ≡ true → root_at new n ≡ Some m
  root_in n t = roots_are n ∙ ap (λ b. if b then Some m else root_at roots n) t

  root_out : (n : ℕ) → group n ≡ false → root_at new n ≡ root_at roots n
  root_out n f = roots_are n ∙ ap (λ b. if b then Some m else root_at roots n) f

  spreads : (a b : ℕ) → Together rows a b → group b ≡ true → group a ≡ true
  spreads a b t g = (is_group a).1 (together_on rows ((is_group b).0 g) (together_back rows t))

  stays_out : (a b : ℕ) → Together rows a b → group a ≡ false → group b ≡ false
  stays_out a b t f = go (decide (group b))
    where
      go : (group b ≡ true) ⊎ (group b ≡ false) → group b ≡ false
      go (inl g) = both (group a) (spreads a b t g) f
      go (inr f) = f

  -- the member itself is in the group, where it is together with any
  itself : (a b : ℕ) → Together rows a b → nat_eq m.0 a ≡ true → group a ≡ true
  itself a b t e = (is_group a).1 (subst (λ k. Together rows k a) (sym (equal m.0 a e)) (together_on rows t (together_back rows t)))

  rest_whole : IsWhole rows rest
  rest_whole a b t at =
      let p = rest_parts a at in
      let out = stays_out a b t p.1 in
      rest_is b ∙ kept (is_marked left b) (group b) (nat_eq m.0 b) (r.whole a b t p.0) out (other (decide (nat_eq m.0 b)) out)
    where
      other : (nat_eq m.0 b ≡ true) ⊎ (nat_eq m.0 b ≡ false) → group b ≡ false → nat_eq m.0 b ≡ false
      other (inl e) out = both (group b) (itself b a (together_back rows t) e) out
      other (inr f) out = f

  new_sound : (a : ℕ) (root : MemberId) → root_at new a ≡ Some root → Together rows a root.0
  new_sound a root e = go (decide (group a))
    where
      go : (group a ≡ true) ⊎ (group a ≡ false) → Together rows a root.0
      go (inl t) = subst (λ (k : MemberId). Together rows a k.0) (some_same m root (sym (root_in a t) ∙ e)) (together_back rows ((is_group a).0 t))
      go (inr f) = r.sound a root (sym (root_out a f) ∙ e)

  same_root : (a b : ℕ) (x y : Option MemberId) → root_at new a ≡ x → root_at new b ≡ y → is_same x y ≡ true → are_together new a b ≡ true
  same_root a b x y ex ey t = ap (λ k. is_same k (root_at new b)) ex ∙ ap (is_same x) ey ∙ t

  new_complete : (a b : ℕ) → Together rows a b → is_marked rest a ≡ false → are_together new a b ≡ true
  new_complete a b t at = go (decide (group a)) (decide (is_marked left a))
    where
      go : (group a ≡ true) ⊎ (group a ≡ false) → (is_marked left a ≡ true) ⊎ (is_marked left a ≡ false) → are_together new a b ≡ true
      go (inl g) l = same_root a b (Some m) (Some m) (root_in a g) (root_in b (spreads b a (together_back rows t) g)) (eq-eqb m.0 m.0 refl)
      go (inr out) (inl l) = both (group a) (itself a b t (gone (is_marked left a) (group a) (nat_eq m.0 a) l out (sym (rest_is a) ∙ at))) out
      go (inr out) (inr l) = same_root a b (root_at roots a) (root_at roots b) (root_out a out) (root_out b (stays_out a b t out)) (r.complete a b t l)

  pub rooted_more : Rooted rows new rest
  rooted_more = record { whole = rest_whole; sound = new_sound; complete = new_complete }

  pub rest_fewer : (n : ℕ) → is_marked rest n ≡ true → is_marked left n ≡ true
  rest_fewer n t = (rest_parts n t).0

  pub rest_without : is_marked rest m.0 ≡ false
  rest_without = go (decide (is_marked rest m.0))
    where
      go : (is_marked rest m.0 ≡ true) ⊎ (is_marked rest m.0 ≡ false) → is_marked rest m.0 ≡ false
      go (inl t) = both (nat_eq m.0 m.0) (eq-eqb m.0 m.0 refl) (rest_parts m.0 t).2
      go (inr f) = f

-- at first all are left
pub rooted_first : (rows : Rows) (roots : List (Option MemberId)) (left : List Bool) → InRange (length rows) rows → ((n : ℕ) → root_at roots n ≡ None) → ((n : ℕ) → n < length rows → is_marked left n ≡ true) → Rooted rows roots left
rooted_first rows roots left range none all = record {
  whole = λ a b t at. all b (reaches_within (length rows) rows range t.0);
  sound = λ a r e. none_some r (sym (none a) ∙ e);
  complete = λ a b t at. both (is_marked left a) (all a (reaches_within (length rows) rows range t.1)) at;
}

roots_of_same : (x y : Option MemberId) → is_same x y ≡ true → (r : MemberId) × (s : MemberId) × (x ≡ Some r) × (y ≡ Some s) × (r.0 ≡ s.0)
roots_of_same (Some r) (Some s) t = (r, s, refl, refl, equal r.0 s.0 t)
roots_of_same (Some r) None t = absurd (false≢true t)
roots_of_same None y t = absurd (false≢true t)

-- at last none is left
pub rooted_last : (rows : Rows) (roots : List (Option MemberId)) (left : List Bool) → Rooted rows roots left → ((n : ℕ) → is_marked left n ≡ false) → (a b : ℕ) → (are_together roots a b ≡ true) ↔ Together rows a b
rooted_last rows roots left r none a b = (
  (λ e. let same = roots_of_same (root_at roots a) (root_at roots b) e in
      together_on rows (r.sound a same.0 same.2) (subst (λ k. Together rows k b) (sym same.4) (together_back rows (r.sound b same.1 same.3)))),
  (λ t. r.complete a b t (none a)),
)

or_no : (b : Bool) → b ≡ (b || false)
or_no true = refl
or_no false = refl

-- those left are still to come, after one of them
pub still_left : (old new : List MemberId) (m : MemberId) (left rest : List Bool) → old ≡ new ++ m ∷ [] → ((n : ℕ) → is_marked left n ≡ true → is_in old n ≡ true) → is_marked rest m.0 ≡ false →
    ((n : ℕ) → is_marked rest n ≡ true → is_marked left n ≡ true) → (n : ℕ) → is_marked rest n ≡ true → is_in new n ≡ true
still_left old new m left rest is all settled fewer n t = go (eqb_tells m.0 n) (sym (push_is_in new m n) ∙ ap (λ ms. is_in ms n) (sym is) ∙ all n (fewer n t))
  where
    go : ((nat_eq m.0 n ≡ true) × (m.0 ≡ n)) ⊎ ((nat_eq m.0 n ≡ false) × (m.0 ≢ n)) → (is_in new n || nat_eq m.0 n) ≡ true → is_in new n ≡ true
    go (inl (e, same)) u = both (is_marked rest n) t (subst (λ k. is_marked rest k ≡ false) same settled)
    go (inr (f, other)) u = or_no (is_in new n) ∙ ap (λ b. is_in new n || b) (sym f) ∙ u

pub none_left_behind : (ends : List MemberId) (left : List Bool) → ends ≡ [] → ((n : ℕ) → is_marked left n ≡ true → is_in ends n ≡ true) → (n : ℕ) → is_marked left n ≡ false
none_left_behind ends left empty all n = go (decide (is_marked left n))
  where
    go : (is_marked left n ≡ true) ⊎ (is_marked left n ≡ false) → is_marked left n ≡ false
    go (inl t) = absurd (false≢true (ap (λ ms. is_in ms n) (sym empty) ∙ all n t))
    go (inr f) = f
