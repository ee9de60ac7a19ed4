-- What holds of the members found, while those led to by the first of them are looked at.
use Rattle.std.proofs.Common.{◌≡◌, ◌≢◌, ℕ, zero, suc, ◌+◌, ◌<◌, ◌≤◌, ◌⊎◌, inl, inr, Bool, true, false, ◌||◌, nat_eq, List, [], ◌∷◌, ◌++◌, length, get_or, take, refl, ap, arith, ◌∙◌, sym, subst, Vec, append_assoc, eq-eqb}
use Rattle.std.specs.Prelude.{All}
use Rattle.std.proofs.lemmas.Bool.{false≢true}
use Rattle.std.proofs.lemmas.Bool.Decides.{eqb_tells}
use Rattle.std.proofs.lemmas.List.{length-append, get_or_append_left, take-append-le, take_all}
use Rattle.std.proofs.lemmas.List.Elements.{All-append, All-weaker, All-head, All-tail, All-push, All-more, All-get_or, All-nil}
use Rattle.std.specs.declared.alloc.Global.{Global}
use Rattle.vx_ast.specs.declared.MemberId.{MemberId}
use Rattle.vx_graph.specs.Listed.{is_in, is_marked}
use Rattle.vx_graph.specs.Reach.{Rows, leads, InRange}
use Rattle.vx_graph.specs.Within.{ReachesWithin, straight, onward}
use Rattle.vx_graph.proofs.Rows.{row_leads}

-- all marked members that a leads to are in the list
abbrev pub LeadsInto : List Bool → Rows → List MemberId → ℕ → Type 0
LeadsInto marks rows order a = (b : ℕ) → leads rows a b ≡ true → is_marked marks b ≡ true → is_in order b ≡ true

-- the list has grown by marked members of the row
abbrev pub Grows : List Bool → List MemberId → List MemberId → List MemberId → Type 0
Grows marks row old new = (added : List MemberId) × (new ≡ old ++ added) × All (λ m. (is_in row m.0 ≡ true) × (is_marked marks m.0 ≡ true)) added

-- all marked members of the row are in the list
abbrev pub FindsAll : List Bool → List MemberId → List MemberId → Type 0
FindsAll marks row order = All (λ m. is_marked marks m.0 ≡ true → is_in order m.0 ≡ true) row

pub record Searched (marks : List Bool) (rows : Rows) (from : ℕ) (order : List MemberId) (next : ℕ) : Type 0 where
  pub within : All (λ m. m.0 < length rows) order
  pub sound : All (λ m. ReachesWithin marks rows from m.0) order
  pub first : LeadsInto marks rows order from
  pub closed : All (λ m. LeadsInto marks rows order m.0) (take next order)

none_in : {Goal : Type 0} (n : ℕ) → is_in [] n ≡ true → Goal
none_in n e = absurd (false≢true e)

front : (b : Bool) (x y : Bool) → (x ≡ true → y ≡ true) → (b || x) ≡ true → (b || y) ≡ true
front true x y more e = refl
front false x y more e = more e

pub is_in_front : (ms added : List MemberId) (n : ℕ) → is_in ms n ≡ true → is_in (ms ++ added) n ≡ true
is_in_front [] added n e = none_in n e
is_in_front (m ∷ ms) added n e = front (nat_eq m.0 n) (is_in ms n) (is_in (ms ++ added) n) (is_in_front ms added n) e

one_of : (P : ℕ → Type 0) (m n : ℕ) (rest : Bool) → P m → (rest ≡ true → P n) → ((nat_eq m n ≡ true) × (m ≡ n)) ⊎ ((nat_eq m n ≡ false) × (m ≢ n)) → (nat_eq m n || rest) ≡ true → P n
one_of P m n rest first more (inl (t, same)) e = subst P same first
one_of P m n rest first more (inr (f, other)) e = more (subst (λ b. (b || rest) ≡ true) f e)

-- what holds of all in a list holds of one
pub all_at : (P : ℕ → Type 0) (ms : List MemberId) (n : ℕ) → All (λ m. P m.0) ms → is_in ms n ≡ true → P n
all_at P [] n all e = none_in n e
all_at P (m ∷ ms) n all e = one_of P m.0 n (is_in ms n) (All-head (λ k. P k.0) m ms all) (all_at P ms n (All-tail (λ k. P k.0) m ms all)) (eqb_tells m.0 n) e

-- where all that was found has been looked at, all that is reached is found
pub complete : (marks : List Bool) (rows : Rows) (order : List MemberId) → All (λ m. LeadsInto marks rows order m.0) order → (a b : ℕ) → LeadsInto marks rows order a → ReachesWithin marks rows a b → is_in order b ≡ true
complete marks rows order closed a b first (straight l inside) = first b l inside
complete marks rows order closed a b first (onward {b = c} l inside more) = complete marks rows order closed c b (all_at (LeadsInto marks rows order) order c closed (first c l inside)) more

pub leads_onward : (marks : List Bool) (rows : Rows) {from c b : ℕ} → ReachesWithin marks rows from c → leads rows c b ≡ true → is_marked marks b ≡ true → ReachesWithin marks rows from b
leads_onward marks rows (straight l i) m j = onward l i (straight m j)
leads_onward marks rows (onward l i more) m j = onward l i (leads_onward marks rows more m j)

grown : (marks : List Bool) (rows : Rows) (row old new : List MemberId) (a : ℕ) → Grows marks row old new → LeadsInto marks rows old a → LeadsInto marks rows new a
grown marks rows row old new a (added, e, are) into b l i = subst (λ ms. is_in ms b ≡ true) (sym e) (is_in_front old added b (into b l i))

-- a row of which all are found
led : (marks : List Bool) (rows : Rows) (order : List MemberId) (a : ℕ) (row : Vec MemberId Global) → a < length rows → row ≡ get_or rows a row → FindsAll marks row.items order → LeadsInto marks rows order a
led marks rows order a row within is all b l = all_at (λ n. is_marked marks n ≡ true → is_in order n ≡ true) row.items b all (row_leads rows a row within is b ∙ l)

-- all of a row are within, and led to
pub row_within : (rows : Rows) (a : ℕ) (row : Vec MemberId Global) → a < length rows → row ≡ get_or rows a row → InRange (length rows) rows → All (λ m. m.0 < length rows) row.items
row_within rows a row within is all = subst (λ (v : Vec MemberId Global). All (λ m. m.0 < length rows) v.items) (sym is) (All-get_or (λ (v : Vec MemberId Global). All (λ m. m.0 < length rows) v.items) rows a row within all)

module _ (marks : List Bool) (rows : Rows) (from : ℕ) (order new : List MemberId) (row : Vec MemberId Global) (range : InRange (length rows) rows) (grows : Grows marks row.items order new) where
  added_within : (a : ℕ) → a < length rows → row ≡ get_or rows a row → All (λ m. m.0 < length rows) order → All (λ m. m.0 < length rows) new
  added_within a within is old =
      let added = grows.0 in
      subst (All (λ m. m.0 < length rows)) (sym grows.1)
      (All-append (λ m. m.0 < length rows) order added old
      (All-weaker (λ (m : MemberId). (is_in row.items m.0 ≡ true) × (is_marked marks m.0 ≡ true)) (λ m. m.0 < length rows) (λ m e. all_at (λ n. n < length rows) row.items m.0 (row_within rows a row within is range) e.0) added grows.2))

  added_sound : (a : ℕ) → a < length rows → row ≡ get_or rows a row → ((b : ℕ) → leads rows a b ≡ true → is_marked marks b ≡ true → ReachesWithin marks rows from b) → All (λ m. ReachesWithin marks rows from m.0) order →
      All (λ m. ReachesWithin marks rows from m.0) new
  added_sound a within is reach old =
      let added = grows.0 in
      subst (All (λ m. ReachesWithin marks rows from m.0)) (sym grows.1)
      (All-append (λ m. ReachesWithin marks rows from m.0) order added old
      (All-weaker (λ (m : MemberId). (is_in row.items m.0 ≡ true) × (is_marked marks m.0 ≡ true)) (λ m. ReachesWithin marks rows from m.0) (λ m e. reach m.0 (sym (row_leads rows a row within is m.0) ∙ e.0) e.1) added grows.2))

pub searched_first : (marks : List Bool) (rows : Rows) (from : ℕ) (order new : List MemberId) (row : Vec MemberId Global) → InRange (length rows) rows → from < length rows → row ≡ get_or rows from row → order ≡ [] →
    Grows marks row.items order new → FindsAll marks row.items new → Searched marks rows from new 0
searched_first marks rows from order new row range within is e grows all = record {
  within = added_within marks rows from order new row range grows from within is (subst (All (λ m. m.0 < length rows)) (sym e) (All-nil (λ (m : MemberId). m.0 < length rows)));
  sound = added_sound marks rows from order new row range grows from within is (λ b l i. straight l i) (subst (All (λ m. ReachesWithin marks rows from m.0)) (sym e) (All-nil (λ (m : MemberId). ReachesWithin marks rows from m.0)));
  first = led marks rows new from row within is all;
  closed = All-nil (λ (m : MemberId). LeadsInto marks rows new m.0);
}

longer : (order added : List MemberId) (next : ℕ) → next < length order → next < length (order ++ added)
longer order added next before = subst (λ n. next < n) (sym (length-append order added)) (omega (arith, before))

closed_more : (marks : List Bool) (rows : Rows) (order new : List MemberId) (next : ℕ) (at : MemberId) (row : Vec MemberId Global) → next < length order → at ≡ get_or order next at → Grows marks row.items order new →
    All (λ m. LeadsInto marks rows order m.0) (take next order) → LeadsInto marks rows new at.0 → All (λ m. LeadsInto marks rows new m.0) (take (next + 1) new)
closed_more marks rows order new next at row before is (added, e, are) old here =
    subst (λ ms. All (λ m. LeadsInto marks rows new m.0) (take (next + 1) ms)) (sym e)
    (All-more (λ (m : MemberId). LeadsInto marks rows new m.0) (order ++ added) next at (longer order added next before)
    (subst (All (λ m. LeadsInto marks rows new m.0)) (sym (take-append-le next order added (omega (arith, before))))
    (All-weaker (λ (m : MemberId). LeadsInto marks rows order m.0) (λ (m : MemberId). LeadsInto marks rows new m.0) (λ m into. grown marks rows row.items order new m.0 (added, e, are) into) (take next order) old))
    (subst (λ (m : MemberId). LeadsInto marks rows new m.0) (is ∙ sym (get_or_append_left order added at next before)) here))

pub searched_more : (marks : List Bool) (rows : Rows) (from : ℕ) (order new : List MemberId) (next : ℕ) (at : MemberId) (row : Vec MemberId Global) → InRange (length rows) rows → next < length order → at ≡ get_or order next at →
    row ≡ get_or rows at.0 row → Searched marks rows from order next → Grows marks row.items order new → FindsAll marks row.items new → Searched marks rows from new (next + 1)
searched_more marks rows from order new next at row range before is row_is s grows all =
    let within : at.0 < length rows = subst (λ (m : MemberId). m.0 < length rows) (sym is) (All-get_or (λ (m : MemberId). m.0 < length rows) order next at before s.within) in
    let reached : ReachesWithin marks rows from at.0 = subst (λ (m : MemberId). ReachesWithin marks rows from m.0) (sym is) (All-get_or (λ (m : MemberId). ReachesWithin marks rows from m.0) order next at before s.sound) in
    record {
      within = added_within marks rows from order new row range grows at.0 within row_is s.within;
      sound = added_sound marks rows from order new row range grows at.0 within row_is (λ b l i. leads_onward marks rows reached l i) s.sound;
      first = grown marks rows row.items order new from grows s.first;
      closed = closed_more marks rows order new next at row before is grows s.closed (led marks rows new at.0 row within row_is all);
    }

pub searched_all : (marks : List Bool) (rows : Rows) (from : ℕ) (order : List MemberId) (next : ℕ) → Searched marks rows from order next → length order ≤ next → (b : ℕ) → ReachesWithin marks rows from b → is_in order b ≡ true
searched_all marks rows from order next s past b r = complete marks rows order (subst (All (λ m. LeadsInto marks rows order m.0)) (take_all next order past) s.closed) from b s.first r

pub searched_sound : (marks : List Bool) (rows : Rows) (from : ℕ) (order : List MemberId) (next : ℕ) → Searched marks rows from order next → (b : ℕ) → is_in order b ≡ true → ReachesWithin marks rows from b
searched_sound marks rows from order next s b e = all_at (ReachesWithin marks rows from) order b s.sound e

same_or : (a b : ℕ) (x : Bool) → a ≡ b → (nat_eq a b || x) ≡ true
same_or a b x e = ap (λ c. c || x) (eq-eqb a b e)

or_true : (b : Bool) → (b || true) ≡ true
or_true true = refl
or_true false = refl

is_in_at : (ms : List MemberId) (i : ℕ) (m : MemberId) → i < length ms → m ≡ get_or ms i m → is_in ms m.0 ≡ true
is_in_at [] i m within is = absurd (omega arith)
is_in_at (k ∷ ms) zero m within is = same_or k.0 m.0 (is_in ms m.0) (ap (λ (x : MemberId). x.0) (sym is))
is_in_at (k ∷ ms) (suc i) m within is = ap (λ b. nat_eq k.0 m.0 || b) (is_in_at ms i m (omega arith) is) ∙ or_true (nat_eq k.0 m.0)

-- one more of a row is found, if it is marked
pub found_more : (marks : List Bool) (old found new row : List MemberId) (i : ℕ) (m : MemberId) → i < length row → m ≡ get_or row i m → FindsAll marks (take i row) found → Grows marks row old found →
    (is_marked marks m.0 ≡ true → is_in new m.0 ≡ true) → ((new ≡ found) ⊎ ((new ≡ found ++ m ∷ []) × (is_marked marks m.0 ≡ true))) → FindsAll marks (take (i + 1) row) new × Grows marks row old new
found_more marks old found new row i m within is all grows marked how = (
  All-more (λ (k : MemberId). is_marked marks k.0 ≡ true → is_in new k.0 ≡ true) row i m within
      (All-weaker (λ (k : MemberId). is_marked marks k.0 ≡ true → is_in found k.0 ≡ true) (λ (k : MemberId). is_marked marks k.0 ≡ true → is_in new k.0 ≡ true) (λ k e inside. kept k.0 how (e inside)) (take i row) all)
      (subst (λ (k : MemberId). is_marked marks k.0 ≡ true → is_in new k.0 ≡ true) is marked),
  grew grows how,
)
  where
    kept : (n : ℕ) → ((new ≡ found) ⊎ ((new ≡ found ++ m ∷ []) × (is_marked marks m.0 ≡ true))) → is_in found n ≡ true → is_in new n ≡ true
    kept n (inl e) t = subst (λ ms. is_in ms n ≡ true) (sym e) t
    kept n (inr (e, i)) t = subst (λ ms. is_in ms n ≡ true) (sym e) (is_in_front found (m ∷ []) n t)

    grew : Grows marks row old found → ((new ≡ found) ⊎ ((new ≡ found ++ m ∷ []) × (is_marked marks m.0 ≡ true))) → Grows marks row old new
    grew (added, e, are) (inl same) = (added, same ∙ e, are)
    grew (added, e, are) (inr (more, inside)) =
        (added ++ m ∷ [], more ∙ ap (λ ms. ms ++ m ∷ []) e ∙ append_assoc old added (m ∷ []), All-push (λ (k : MemberId). (is_in row k.0 ≡ true) × (is_marked marks k.0 ≡ true)) added m are (is_in_at row i m within is, inside))
