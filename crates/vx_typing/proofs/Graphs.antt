-- The graph of members: its rows tell what members mention, so its groups are theirs.
use Rattle.std.proofs.Common.{false, ◌≡◌, ◌∙◌, refl, sym, ap, subst, ℕ, zero, suc, ◌+◌, ◌<◌, Bool, true, ◌&&◌, ◌↔◌, nat_eq, List, [], ◌∷◌, ◌++◌, length, map, drop, get_or, Option, Some, All, Vec, arith, append_assoc, eq-eqb, ◌||◌, add-one}
use Rattle.std.proofs.lemmas.List.Elements.{All-cons}
use Rattle.std.specs.declared.alloc.Global.{Global}
use Rattle.std.proofs.lemmas.Bool.{or_left, or_right}
use Rattle.vx_ast.specs.declared.Member.{Member as Member'}
use Rattle.vx_ast.specs.declared.MemberId.{MemberId}
use Rattle.vx_ast.specs.Written.{Member, Program, written_kind, written_member}
use Rattle.vx_graph.specs.Groups.{root_at, is_same, are_together}
use Rattle.vx_graph.specs.Listed.{is_in}
use Rattle.vx_graph.specs.Reach as graph
use Rattle.vx_graph.specs.Reach.{Rows, InRange, leads}
use Rattle.vx_typing.specs.Uses.{uses_by}
use Rattle.vx_typing.specs.Groups.{are_of, uses_by_kind, kind_at, mentions, Reaches, at_once, further, in_group}
use Rattle.vx_typing.specs.Numbered.{AreMarks, AreRoots, Tells}
use Rattle.vx_expressions.specs.Settings.{Table}
use Rattle.vx_typing.specs.Members.{table_of}
use Rattle.vx_typing.specs.GroupFaults.{some_below, measures_by}
use Rattle.vx_statements.proofs.Loops.{left}
use Rattle.vx_typing.proofs.Reachable.{as_true, are_below, grouped, in_its_group}

-- one row more
pub one_row : (p : Program) (all : List Member') (i : ℕ) (m : Member') (rows : Rows) (row : Vec MemberId Global) → i < length all → m ≡ get_or all i m →
    ((b : ℕ) → is_in row.items b ≡ are_of p b (uses_by (written_kind m.kind) [])) → ((after : Rows) → Tells p after (map written_member (drop i all)) → Tells p (rows ++ after) (map written_member all)) →
    (after : Rows) → Tells p after (map written_member (drop (i + 1) all)) → Tells p ((rows ++ row ∷ []) ++ after) (map written_member all)
one_row p all i m rows row within is tells before after rest =
    subst (λ rs. Tells p rs (map written_member all)) (sym (append_assoc rows (row ∷ []) after))
    (before (row ∷ after) (subst (λ ms. Tells p (row ∷ after) (map written_member ms)) (sym (left all i m within is)) (tells, rest)))

pub as_many_rows : (p : Program) (rows : Rows) (ms : List Member) → Tells p rows ms → length rows ≡ length ms
as_many_rows p [] [] h = refl
as_many_rows p [] (m ∷ ms) h = absurd h
as_many_rows p (row ∷ rows) [] h = absurd h
as_many_rows p (row ∷ rows) (m ∷ ms) h = ap suc (as_many_rows p rows ms h.1)

pub as_mentioned : (p : Program) (rows : Rows) (ms : List Member) → Tells p rows ms → (a b : ℕ) → leads rows a b ≡ are_of p b (uses_by_kind (kind_at ms a))
as_mentioned p [] [] h a b = refl
as_mentioned p [] (m ∷ ms) h a b = absurd h
as_mentioned p (row ∷ rows) [] h a b = absurd h
as_mentioned p (row ∷ rows) (m ∷ ms) h zero b = h.0 b
as_mentioned p (row ∷ rows) (m ∷ ms) h (suc a) b = as_mentioned p rows ms h.1 a b

no_elements : {X : Type 0} (P : X → Type 0) → All P []
no_elements P = λ k d l. absurd (omega (arith, l))

numbers_below : (n : ℕ) (ms : List MemberId) → ((b : ℕ) → is_in ms b ≡ true → b < n) → All (λ m. m.0 < n) ms
numbers_below n [] h = no_elements _
numbers_below n (m ∷ ms) h =
    All-cons (λ (m : MemberId). m.0 < n) m ms (h m.0 (or_left (nat_eq m.0 m.0) (is_in ms m.0) (eq-eqb m.0 m.0 refl))) (numbers_below n ms (λ b e. h b (or_right (nat_eq m.0 b) (is_in ms b) e)))

rows_below : (p : Program) (n : ℕ) (rows : Rows) (ms : List Member) → n ≡ length p → Tells p rows ms → InRange n rows
rows_below p n [] ms e h = no_elements _
rows_below p n (row ∷ rows) [] e h = absurd h
rows_below p n (row ∷ rows) (m ∷ ms) e h =
    All-cons (λ (row : Vec MemberId Global). All (λ (m : MemberId). m.0 < n) row.items) row rows (numbers_below n row.items (λ b i. subst (λ n. b < n) (sym e) (are_below p b (uses_by m.kind []) (sym (h.0 b) ∙ i)))) (rows_below p n rows ms e h.1)

pub in_range : (p : Program) (rows : Rows) → Tells p rows p → InRange (length rows) rows
in_range p rows h = rows_below p (length rows) rows p (as_many_rows p rows p h) h

-- ---- reachability
module _ (rows : Rows) (p : Program) (same : (a b : ℕ) → leads rows a b ≡ mentions p a b) where
  to_members : {a b : ℕ} → graph.Reaches rows a b → Reaches p a b
  to_members (graph.at_once {a} {b} h) = at_once (sym (same a b) ∙ h)
  to_members (graph.further {a} {b} h r) = further (sym (same a b) ∙ h) (to_members r)

  to_rows : {a b : ℕ} → Reaches p a b → graph.Reaches rows a b
  to_rows (at_once {a} {b} h) = graph.at_once (same a b ∙ h)
  to_rows (further {a} {b} h r) = graph.further (same a b ∙ h) (to_rows r)

  -- members with one root are those of one group
  pub together : (rs : List (Option MemberId)) → ((a b : ℕ) → (are_together rs a b ≡ true) ↔ (graph.Reaches rows a b × graph.Reaches rows b a)) → (a b : ℕ) → are_together rs a b ≡ in_group p a b
  together rs h a b =
      as_true (are_together rs a b) (in_group p a b) (λ e. let r = (h a b).0 e in grouped p (to_members r.0, to_members r.1)) (λ e. let r = in_its_group p a b e in (h a b).1 (to_rows r.0, to_rows r.1))

-- ---- kinds by number
kind_within : (all : List Member') (n : ℕ) (d : Member') → n < length all → kind_at (map written_member all) n ≡ Some (written_kind (get_or all n d).kind)
kind_within [] n d l = absurd (omega (arith, l))
kind_within (m ∷ all) zero d l = refl
kind_within (m ∷ all) (suc n) d l = kind_within all n d (omega (arith, l))

pub measures_at : (all : List Member') (t : Table) (b : Bool) (n : ℕ) (d : Member') → t ≡ table_of (map written_member all) → n < length all →
    measures_by t b (Some (written_kind (get_or all n d).kind)) ≡ measures_by (table_of (map written_member all)) b (kind_at (map written_member all) n)
measures_at all t b n d e within =
    ap (λ t. measures_by t b (Some (written_kind (get_or all n d).kind))) e ∙ ap (measures_by (table_of (map written_member all)) b) (sym (kind_within all n d within))

-- ---- marks at the roots
-- one more member, with the root of its group and whether it measures so
pub one_mark : (p : Program) (rs : List (Option MemberId)) (b : Bool) (n : ℕ) (old new : List Bool) (root : Option MemberId) (measures : Bool) → AreRoots p rs → root ≡ root_at rs n →
    measures ≡ measures_by (table_of p) b (kind_at p n) → length new ≡ length old →
    ((r : MemberId) → get_or new r.0 false ≡ ((is_same (Some r) root && measures) || get_or old r.0 false)) → AreMarks p rs b n old → AreMarks p rs b (n + 1) new
one_mark p rs b n old new root measures h at by count more before = record {
  count = count ∙ before.count;
  told = λ a r is.
      let passes = λ (k : ℕ). in_group p a k && measures_by (table_of p) b (kind_at p k) in
      let own : is_same (Some r) root ≡ in_group p a n = ap (is_same (Some r)) at ∙ ap (λ o. is_same o (root_at rs n)) (sym is) ∙ h.groups a n in
      more r ∙ ap (λ g. (g && measures) || get_or old r.0 false) own ∙ ap (λ m. (in_group p a n && m) || get_or old r.0 false) by
      ∙ ap (λ s. passes n || s) (before.told a r is) ∙ ap (λ k. some_below k passes) (sym (add-one n));
}
