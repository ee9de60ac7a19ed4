-- A map is the list of its entries.
use Rattle.std.proofs.Common.{◌≡◌, ℕ, Bool, true, false, List, [], ◌∷◌, ◌++◌, ◌||◌, Option, Some, None, cond, option_map, map, refl, sym, ◌∙◌, ap, ap₂, Bor, Ok, Err}
use Rattle.std.specs.Prelude.{◌&&◌, nat_eq, not, if◌then◌else◌, is_some, IfSome, ⊤}
use Rattle.std.specs.List.{list_any}
use Rattle.std.proofs.lemmas.List.{map-append}
use Rattle.std.proofs.lemmas.Bool.{false≢true}
use Rattle.std.specs.Str.{bytes_eq}
use Rattle.std.specs.Map.{lookup}
use Rattle.vx_ast.specs.Syntax.{same_name}
use Rattle.vx_ast.specs.Mentions.{is_among}
use Rattle.vx_expressions.specs.Scopes.{named}
use Rattle.vx_expressions.specs.Views.{listed}
use Rattle.vx_expressions.specs.Faults.{Fault, unless}
use Rattle.vx_expressions.specs.declared.fault.TypeFault as fault'
use Rattle.vx_expressions.specs.Gives.{Fails, told}
use Rattle.indexmap.specs.IndexMap.{insert_entry}
use Rattle.indexmap.specs.IndexSet.{insert_key}

pub same : (x y : List ℕ) → bytes_eq x y ≡ same_name x y
same [] [] = refl
same [] (b ∷ y) = refl
same (a ∷ x) [] = refl
same (a ∷ x) (b ∷ y) = ap (λ s. nat_eq a b && s) (same x y)

module _ {X Y : Type 0} (view : X → Y) where
  abbrev pub seen : List (Bor (List ℕ) × X) → List (List ℕ × Y)
  seen es = map (λ e. (e.0.now, view e.1)) es

  picked : (q : List ℕ) (e : Bor (List ℕ) × X) (es : List (Bor (List ℕ) × X)) → option_map view (lookup (λ k. bytes_eq q k.now) es) ≡ named (seen es) q
      → (b : Bool) → option_map view (cond b (Some e.1) (lookup (λ k. bytes_eq q k.now) es)) ≡ cond b (Some (view e.1)) (named (seen es) q)
  picked q e es h true = refl
  picked q e es h false = h

  pub found : (q : List ℕ) (es : List (Bor (List ℕ) × X)) → option_map view (lookup (λ k. bytes_eq q k.now) es) ≡ named (seen es) q
  found q [] = refl
  found q (e ∷ es) =
      ap (λ b. option_map view (cond b (Some e.1) (lookup (λ k. bytes_eq q k.now) es))) (same q e.0.now) ∙ picked q e es (found q es) (same_name q e.0.now)

  inserted : Bor (List ℕ) → X → List (Bor (List ℕ) × X) → List (Bor (List ℕ) × X)
  inserted k v es = insert_entry (λ a b. bytes_eq a.now b.now) es k v

  put : (k : Bor (List ℕ)) (v : X) (e : Bor (List ℕ) × X) (es : List (Bor (List ℕ) × X))
      → (named (seen es) k.now ≡ None → seen (inserted k v es) ≡ seen es ++ (k.now, view v) ∷ [])
      → (b : Bool) → cond b (Some (view e.1)) (named (seen es) k.now) ≡ None
      → seen (cond b ((e.0, v) ∷ es) (e ∷ inserted k v es)) ≡ seen (e ∷ es) ++ (k.now, view v) ∷ []
  put k v e es rest true h = (cc)
  put k v e es rest false h = ap (λ ds. (e.0.now, view e.1) ∷ ds) (rest h)

  -- a name that stands for nothing yet goes last
  pub appended : (k : Bor (List ℕ)) (v : X) (es : List (Bor (List ℕ) × X)) → named (seen es) k.now ≡ None
      → seen (insert_entry (λ a b. bytes_eq a.now b.now) es k v) ≡ seen es ++ (k.now, view v) ∷ []
  unfolding inserted
  appended k v [] h = refl
  appended k v (e ∷ es) h =
      ap (λ b. seen (cond b ((e.0, v) ∷ es) (e ∷ inserted k v es))) (same k.now e.0.now)
      ∙ put k v e es (appended k v es) (same_name k.now e.0.now) h

pub among : (q : List ℕ) (ks : List (Bor (List ℕ))) → list_any (λ k. bytes_eq q k.now) ks ≡ is_among q (listed ks)
among q [] = refl
among q (k ∷ ks) = ap₂ (λ a b. a || b) (same q k.now) (among q ks)

-- a name that is new goes last
pub added : (k : Bor (List ℕ)) (ks : List (Bor (List ℕ))) → not (list_any (λ q. bytes_eq k.now q.now) ks) ≡ true
    → listed (insert_key (λ a b. bytes_eq a.now b.now) ks k) ≡ listed ks ++ k.now ∷ []
added k ks h = go (list_any (λ q. bytes_eq k.now q.now) ks) h
  where
    go : (b : Bool) → not b ≡ true → listed (if b then ks else ks ++ k ∷ []) ≡ listed ks ++ k.now ∷ []
    go true h = absurd (false≢true h)
    go false h = map-append (λ (k : Bor (List ℕ)). k.now) ks (k ∷ [])

refused : (o : Option Fault) (b : Bool) (f : Fault) → b ≡ false → IfSome o (λ g. g ≡ f) → IfSome o (λ g. unless b f ≡ Err g)
refused None b f e h = tt
refused (Some g) b f e h = ap (λ b. unless b f) e ∙ ap Err (sym h)

-- a test that fails, and one that passes
pub unless_fails : (e : fault'.TypeFault) (b : Bool) (f : Fault) → b ≡ false → IfSome (told e) (λ g. g ≡ f) → Fails e (unless b f)
unless_fails e b f h k = refused (told e) b f h k

pub unless_passes : (b : Bool) (f : Fault) → b ≡ true → unless b f ≡ Ok tt
unless_passes b f h = ap (λ b. unless b f) h

-- a variable that is new is not known
pub not_known : {X : Type 0} (o : Option X) (f : Fault) (u : ⊤) → unless (not (is_some o)) f ≡ Ok u → o ≡ None
not_known None f u h = refl
not_known (Some x) f u h = cc
