-- What taking takes and what adding adds: entries in front, none of which is less than nothing.
use Rattle.std.proofs.Common.{◌≡◌, Bool, true, false, cond, List, [], ◌∷◌, ◌++◌, Some, refl, sym, ◌∙◌, ap, subst}
use Rattle.std.specs.Prelude.{Ok}
use Rattle.vx_frac.specs.Fractions.{Fraction, none, sum, minus, product, at_most}
use Rattle.vx_ast.specs.declared.Place.{Place}
use Rattle.vx_ast.specs.Syntax.{Name, Program, Predicate, predicate_named, Exprs, Assertion, Pure, Points, Both, Implied, Chosen, place_of}
use Rattle.vx_ast.specs.Syntax as syntax
use Rattle.vx_meaning.specs.Values.{Value, is_true}
use Rattle.vx_meaning.specs.States.{State, Holdings, Resource, At, Folded, same_resource, amount, gained, lost, with_holdings}
use Rattle.vx_meaning.specs.Fits.{Checked, ◌>>=◌, guard, choose, Deeper, fit, fit_all, take, take_part, field_part, instance_part, add, add_part}
use Rattle.vx_amounts.proofs.Amounts.{Le, Positive, le-refl, le-trans, below-add}
use Rattle.vx_amounts.proofs.Products.{product_sign, positive_le}
use Rattle.vx_sound_preds.proofs.Fitting.{undo, guarded}
use Rattle.vx_sound_preds.proofs.Framing.{ok_same, picked, field_parts, instance_parts}
use Rattle.vx_sound_preds.proofs.Grouped.{NoDebts}
use Rattle.vx_sound_preds.proofs.Holding.{TypedAll}
use Rattle.vx_sound.proofs.World.{IsTypedResource}
use Rattle.vx_types.specs.Typing.{Scope, HaveTypes, IsTyped}
use Rattle.vx_runs.proofs.Followed.{Any, AtMost}
use Rattle.vx_runs.proofs.Fewer.{at_most_self, at_most_both}
use Rattle.vx_runs.proofs.Shared.{lost_fewer, lost_debts}

-- each is at least none
abbrev pub AllSigned : Holdings → Type 0
AllSigned [] = Unit {0}
AllSigned (e ∷ es) = Le none e.1 × AllSigned es

pub signed_both : (xs ys : Holdings) → AllSigned xs → AllSigned ys → AllSigned (xs ++ ys)
signed_both [] ys a b = b
signed_both (x ∷ xs) ys a b = (a.0, signed_both xs ys a.1 b)

-- more of each resource
pub more_of : (es h : Holdings) → AllSigned es → AtMost h (es ++ h)
more_of [] h k r si = le-refl (amount h r)
more_of (e ∷ es) h k r si = le-trans (more_of es h k.1 r si) (go (same_resource r e.0))
  where
    go : (b : Bool) → Le (amount (es ++ h) r) (cond b (sum e.1 (amount (es ++ h) r)) (amount (es ++ h) r))
    go true = below-add (amount (es ++ h) r) k.0
    go false = le-refl (amount (es ++ h) r)

module _ (p : Program) (d : Deeper) (s : State) (q : Fraction) (scale : Positive q) where
  part_fewer : (at : Place) (h left : Holdings) (r : Resource) (a : Fraction) (part : Resource × Fraction) → at_most none a ≡ true → ◌≡◌ {A = Checked (Resource × Fraction)} (Ok (r, a)) (Ok part) → take_part p d s q at h part ≡ Ok left → AtMost left h
  part_fewer at h left r a part sign is e =
      let b = undo (guard at (at_most (product q part.1) (amount h part.0))) (λ _. Ok (lost part.0 (product q part.1) h)) left e in
      let same : (let z : Resource × Fraction = (r, a) in z) ≡ part = ok_same {A = Resource × Fraction} (r, a) part is in
      let below : Le none part.1 = subst (λ (z : Resource × Fraction). Le none z.1) same (record { holds = sign }) in
      subst (λ (z : Holdings). AtMost z h) (ok_same (lost part.0 (product q part.1) h) left b.then) (lost_fewer part.0 (product q part.1) h (product_sign {a = q} {b = part.1} (positive_le scale) below))

  -- what is left is no more
  pub take_fewer : (a : Assertion) (h left : Holdings) → take p d s q a h ≡ Ok left → AtMost left h
  take_fewer (Pure e) h left eq =
      let x = undo (fit p d s e) (λ v. guard (place_of e) (is_true v) >>= λ _. Ok h) left eq in
      let y = undo (guard (place_of e) (is_true x.it)) (λ _. Ok h) left x.then in
      subst (λ (z : Holdings). AtMost z h) (ok_same h left y.then) (at_most_self h)
  take_fewer (Points at e f share) h left eq =
      let x = undo (field_part p d s at e f share) (take_part p d s q at h) left eq in
      let y = field_parts p d s at e f share x.it x.is in
      part_fewer at h left (At y.location) y.amount x.it y.sign y.is x.then
  take_fewer (syntax.Instance at i es share) h left eq =
      let x = undo (instance_part p d s at i es share) (take_part p d s q at h) left eq in
      let y = instance_parts p d s at i es share x.it x.is in
      part_fewer at h left (Folded record { predicate = i; arguments = y.arguments }) y.amount x.it y.sign y.is x.then
  take_fewer (Both a b) h left eq =
      let x = undo (take p d s q a h) (λ k. take p d s q b k) left eq in
      at_most_both left x.it h (take_fewer b x.it left x.then) (take_fewer a h x.it x.is)
  take_fewer (Implied c a) h left eq =
      let x = undo (fit p d s c) (λ v. choose (place_of c) v (take p d s q a h) (Ok h)) left eq in
      picked {R = AtMost left h} (place_of c) x.it (take p d s q a h) (Ok h) left (λ e. take_fewer a h left e) (λ e. subst (λ (z : Holdings). AtMost z h) (ok_same h left e) (at_most_self h)) x.then
  take_fewer (Chosen c a b) h left eq =
      let x = undo (fit p d s c) (λ v. choose (place_of c) v (take p d s q a h) (take p d s q b h)) left eq in
      picked {R = AtMost left h} (place_of c) x.it (take p d s q a h) (take p d s q b h) left (λ e. take_fewer a h left e) (λ e. take_fewer b h left e) x.then

pub append_assoc : (xs ys zs : Holdings) → (xs ++ ys) ++ zs ≡ xs ++ (ys ++ zs)
append_assoc [] ys zs = refl
append_assoc (x ∷ xs) ys zs = ap (λ (z : Holdings). x ∷ z) (append_assoc xs ys zs)

pub typed_both : (p : Program) (xs ys : Holdings) → TypedAll p Any xs → TypedAll p Any ys → TypedAll p Any (xs ++ ys)
typed_both p [] ys a b = b
typed_both p (x ∷ xs) ys a b = (a.0, typed_both p xs ys a.1 b)

module _ (p : Program) (d : Deeper) (q : Fraction) (scale : Positive q) where
  pub record Adding (s u : State) : Type 0 where
    pub entries : Holdings
    pub signed : AllSigned entries
    pub is : u ≡ with_holdings (entries ++ s.holdings) s

  nothing_added : (s u : State) → s ≡ u → Adding s u
  nothing_added s u e = record { entries = []; signed = tt; is = sym e }

  part_added : (s u : State) (r : Resource) (a : Fraction) (part : Resource × Fraction) → at_most none a ≡ true → ◌≡◌ {A = Checked (Resource × Fraction)} (Ok (r, a)) (Ok part) → add_part p d q s part ≡ Ok u → Adding s u
  part_added s u r a part sign is e =
      let same : (let z : Resource × Fraction = (r, a) in z) ≡ part = ok_same {A = Resource × Fraction} (r, a) part is in
      let below : Le none part.1 = subst (λ (z : Resource × Fraction). Le none z.1) same (record { holds = sign }) in
      record {
        entries = (part.0, product q part.1) ∷ [];
        signed = (product_sign {a = q} {b = part.1} (positive_le scale) below, tt);
        is = sym (ok_same (with_holdings (gained part.0 (product q part.1) s.holdings) s) u e);
      }

  both_added : (s t u : State) → Adding s t → Adding t u → Adding s u
  both_added s t u x y = record {
    entries = y.entries ++ x.entries;
    signed = signed_both y.entries x.entries y.signed x.signed;
    is = y.is ∙ ap (λ (t : State). with_holdings (y.entries ++ t.holdings) t) x.is ∙ ap (λ (z : Holdings). with_holdings z s) (sym (append_assoc y.entries x.entries s.holdings));
  }

  -- what is added stands in front
  pub add_adding : (a : Assertion) (s u : State) → add p d q a s ≡ Ok u → Adding s u
  add_adding (Pure e) s u eq = let x = undo (fit p d s e) (λ _. Ok s) u eq in nothing_added s u (ok_same s u x.then)
  add_adding (Points at e f share) s u eq =
      let x = undo (field_part p d s at e f share) (add_part p d q s) u eq in
      let y = field_parts p d s at e f share x.it x.is in
      part_added s u (At y.location) y.amount x.it y.sign y.is x.then
  add_adding (syntax.Instance at i es share) s u eq =
      let x = undo (instance_part p d s at i es share) (add_part p d q s) u eq in
      let y = instance_parts p d s at i es share x.it x.is in
      part_added s u (Folded record { predicate = i; arguments = y.arguments }) y.amount x.it y.sign y.is x.then
  add_adding (Both a b) s u eq =
      let x = undo (add p d q a s) (λ t. add p d q b t) u eq in
      both_added s x.it u (add_adding a s x.it x.is) (add_adding b x.it u x.then)
  add_adding (Implied c a) s u eq =
      let x = undo (fit p d s c) (λ v. choose (place_of c) v (add p d q a s) (Ok s)) u eq in
      picked {R = Adding s u} (place_of c) x.it (add p d q a s) (Ok s) u (λ e. add_adding a s u e) (λ e. nothing_added s u (ok_same s u e)) x.then
  add_adding (Chosen c a b) s u eq =
      let x = undo (fit p d s c) (λ v. choose (place_of c) v (add p d q a s) (add p d q b s)) u eq in
      picked {R = Adding s u} (place_of c) x.it (add p d q a s) (add p d q b s) u (λ e. add_adding a s u e) (λ e. add_adding b s u e) x.then

-- what was taken, in front
pub record Taken (p : Program) (h left : Holdings) : Type 0 where
  pub entries : Holdings
  pub is : left ≡ entries ++ h
  pub typed : TypedAll p Any entries
  pub debts : NoDebts left

module _ (p : Program) (d : Deeper) (s : State) (q : Fraction) (scale : Positive q) (ds : Scope)
    (of_type : (es : Exprs) (i : Name) (d' : Predicate) (vs : List Value) → predicate_named p i ≡ Some d' → HaveTypes p ds es d'.parameters → fit_all p d s es ≡ Ok vs → IsTypedResource p Any (Folded record { predicate = i; arguments = vs })) where
  nothing_taken : (h left : Holdings) → NoDebts h → h ≡ left → Taken p h left
  nothing_taken h left k e = record { entries = []; is = sym e; typed = tt; debts = subst (λ (z : Holdings). NoDebts z) e k }

  part_taken : (at : Place) (h left : Holdings) (r : Resource) (a : Fraction) (part : Resource × Fraction) → IsTypedResource p Any r → NoDebts h → ◌≡◌ {A = Checked (Resource × Fraction)} (Ok (r, a)) (Ok part) → take_part p d s q at h part ≡ Ok left → Taken p h left
  part_taken at h left r a part kind k is e =
      let b = undo (guard at (at_most (product q part.1) (amount h part.0))) (λ _. Ok (lost part.0 (product q part.1) h)) left e in
      let same : (let z : Resource × Fraction = (r, a) in z) ≡ part = ok_same {A = Resource × Fraction} (r, a) part is in
      let kind' : IsTypedResource p Any part.0 = subst (λ (z : Resource × Fraction). IsTypedResource p Any z.0) same kind in
      let left_is : lost part.0 (product q part.1) h ≡ left = ok_same (lost part.0 (product q part.1) h) left b.then in
      record {
        entries = (part.0, minus (product q part.1)) ∷ [];
        is = sym left_is;
        typed = (kind', tt);
        debts = subst (λ (z : Holdings). NoDebts z) left_is (lost_debts p part.0 (product q part.1) h kind' (record { holds = guarded at (at_most (product q part.1) (amount h part.0)) b.it b.is }) k);
      }

  both_taken : (h mid left : Holdings) → Taken p h mid → Taken p mid left → Taken p h left
  both_taken h mid left x y = record {
    entries = y.entries ++ x.entries;
    is = y.is ∙ ap (λ (z : Holdings). y.entries ++ z) x.is ∙ sym (append_assoc y.entries x.entries h);
    typed = typed_both p y.entries x.entries y.typed x.typed;
    debts = y.debts;
  }

  pub take_takes : (a : Assertion) → IsTyped p ds a → (h left : Holdings) → NoDebts h → take p d s q a h ≡ Ok left → Taken p h left
  take_takes (Pure e) t h left k eq =
      let x = undo (fit p d s e) (λ v. guard (place_of e) (is_true v) >>= λ _. Ok h) left eq in
      let y = undo (guard (place_of e) (is_true x.it)) (λ _. Ok h) left x.then in
      nothing_taken h left k (ok_same h left y.then)
  take_takes (Points at e f share) t h left k eq =
      let x = undo (field_part p d s at e f share) (take_part p d s q at h) left eq in
      let y = field_parts p d s at e f share x.it x.is in
      part_taken at h left (At y.location) y.amount x.it tt k y.is x.then
  take_takes (syntax.Instance at i es share) t h left k eq =
      let x = undo (instance_part p d s at i es share) (take_part p d s q at h) left eq in
      let y = instance_parts p d s at i es share x.it x.is in
      part_taken at h left (Folded record { predicate = i; arguments = y.arguments }) y.amount x.it (of_type es i t.0.0 y.arguments t.0.1 t.0.2 y.arguments_are) k y.is x.then
  take_takes (Both a b) t h left k eq =
      let x = undo (take p d s q a h) (λ k. take p d s q b k) left eq in
      let first = take_takes a t.0 h x.it k x.is in
      both_taken h x.it left first (take_takes b t.1 x.it left first.debts x.then)
  take_takes (Implied c a) t h left k eq =
      let x = undo (fit p d s c) (λ v. choose (place_of c) v (take p d s q a h) (Ok h)) left eq in
      picked {R = Taken p h left} (place_of c) x.it (take p d s q a h) (Ok h) left (λ e. take_takes a t.1 h left k e) (λ e. nothing_taken h left k (ok_same h left e)) x.then
  take_takes (Chosen c a b) t h left k eq =
      let x = undo (fit p d s c) (λ v. choose (place_of c) v (take p d s q a h) (take p d s q b h)) left eq in
      picked {R = Taken p h left} (place_of c) x.it (take p d s q a h) (take p d s q b h) left (λ e. take_takes a t.1 h left k e) (λ e. take_takes b t.2 h left k e) x.then
