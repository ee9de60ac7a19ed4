-- In a typed program the parts of what a member leads to lead on along quiet walks.
use Rattle.std.proofs.Common.{◌≡◌, inl, inr, ℕ, List, [], ◌∷◌, ◌++◌, Option, Some, refl, sym, subst}
use Rattle.std.specs.Prelude.{flat_map}
use Rattle.vx_ast.specs.Syntax.{Name, Program, Kind, Function, Predicate, function_named, predicate_named, member_named, Expr, Number, Truth, Null, Part, Variable, Not, Operate, Divide, Connect, Choose, Read, Old, Apply, Unfolding, Exprs, NoMore, More, Assertion}
use Rattle.vx_ast.specs.Mentions.{mentioned, mentioned_in, mentioned_by, mentioned_by_function}
use Rattle.vx_ast.specs.Apart.{Stands}
use Rattle.vx_types.specs.Typing.{IsTyped}
use Rattle.vx_types.specs.Closure.{mentioned_by_measure, mentioned_by_kind, InClosure, further}
use Rattle.vx_types.specs.Premises.{IsTypedProgram}
use Rattle.vx_rules.specs.Rules.{outer}
use Rattle.vx_sound.proofs.Speaks as instances
use Rattle.vx_sound_preds.proofs.Typed.{on_left}
use Rattle.vx_sound_preds.proofs.Mentioning.{function_member}
use Rattle.vx_sound_preds.proofs.Asked.{speaks_for}
use Rattle.vx_sound_preds.proofs.Speaking.{AllSeen, lefts, rights, good, no_perm, speak}
use Rattle.vx_sound_preds.proofs.FunctionWalks.{own_asks}
use Rattle.vx_sound_funcs.specs.Told.{precondition_of}
use Rattle.vx_sound_funcs.specs.Firm.{firmly, GoodFunctions}
use Rattle.vx_sound_funcs.specs.Laws.{ApplicationsAgree}
use Rattle.vx_live.proofs.Speaks.{Speaks, AllSpeak, SpeaksOf, EachSpeaks, conjoined_speaks}
use Rattle.vx_live.proofs.Mentions.{assertion}
use Rattle.vx_law.specs.Means.{Means}
use Rattle.vx_law.proofs.Applied.{Spoken, Knows}
use Rattle.vx_law.proofs.Meanings.{made, is_applied, one_meaning, one_type}
use Rattle.vx_law.proofs.Sides.{AllTold}
use Rattle.vx_law.proofs.Depths.{all_told}

module _ (p : Program) (x : Name) where
  -- what mentions only what x leads to
  mutual
    speaks : (e : Expr) → AllSeen p x (mentioned e) → Speaks (InClosure p x) e
    speaks (Number at n) k = tt
    speaks (Truth at b) k = tt
    speaks (Null at) k = tt
    speaks (Part at n d) k = tt
    speaks (Variable at y) k = tt
    speaks (Not at e) k = speaks e k
    speaks (Operate at op a b) k = (speaks a (lefts p x (mentioned a) (mentioned b) k), speaks b (rights p x (mentioned a) (mentioned b) k))
    speaks (Divide at op a b) k = (speaks a (lefts p x (mentioned a) (mentioned b) k), speaks b (rights p x (mentioned a) (mentioned b) k))
    speaks (Connect at c a b) k = (speaks a (lefts p x (mentioned a) (mentioned b) k), speaks b (rights p x (mentioned a) (mentioned b) k))
    speaks (Choose at c a b) k =
        let first = lefts p x (mentioned c ++ mentioned a) (mentioned b) k in
        (speaks c (lefts p x (mentioned c) (mentioned a) first), speaks a (rights p x (mentioned c) (mentioned a) first), speaks b (rights p x (mentioned c ++ mentioned a) (mentioned b) k))
    speaks (Read at e f) k = speaks e k
    speaks (Old at e) k = speaks e k
    speaks (Apply at f es) k = (k f (inl refl), all_speak es (λ y s. k y (inr s)))
    speaks (Unfolding at i es share e) k =
        let inside : AllSeen p x ((mentioned_in es ++ mentioned share) ++ mentioned e) = λ y s. k y (inr s) in
        let first = lefts p x (mentioned_in es ++ mentioned share) (mentioned e) inside in
        (k i (inl refl), all_speak es (lefts p x (mentioned_in es) (mentioned share) first), speaks share (rights p x (mentioned_in es) (mentioned share) first), speaks e (rights p x (mentioned_in es ++ mentioned share) (mentioned e) inside))

    all_speak : (es : Exprs) → AllSeen p x (mentioned_in es) → AllSpeak (InClosure p x) es
    all_speak NoMore k = tt
    all_speak (More e es) k = (speaks e (lefts p x (mentioned e) (mentioned_in es) k), all_speak es (rights p x (mentioned e) (mentioned_in es) k))

  each_speaks : (es : List Expr) → AllSeen p x (flat_map mentioned es) → EachSpeaks (InClosure p x) es
  each_speaks [] k = tt
  each_speaks (e ∷ es) k = (speaks e (lefts p x (mentioned e) (flat_map mentioned es) k), each_speaks es (rights p x (mentioned e) (flat_map mentioned es) k))

  -- a function that x leads to mentions only what x leads to
  parts_seen : (f : Name) (g : Function) → InClosure p x f → function_named p f ≡ Some g → AllSeen p x (mentioned_by_function g)
  parts_seen f g held named y s = further held (subst (λ (o : Option Kind). Stands y (mentioned_by_kind p o)) (sym (function_member (member_named p f) g named)) (on_left y (mentioned_by_function g) (mentioned_by_measure g.decreases) s))

  module _ (typed : IsTypedProgram p) (functions : GoodFunctions p) where
    -- its precondition may apply all that x leads to
    pub asked : (f : Name) (g : Function) → InClosure p x f → function_named p f ≡ Some g → instances.SpeaksOf (InClosure p x) (InClosure p x) (precondition_of g)
    asked f g held named = own_asks p x typed f g held named (functions.asks f g named)

    pub spoken : (f : Name) (g : Function) → InClosure p x f → function_named p f ≡ Some g → Spoken p (InClosure p x) g
    spoken f g held named =
        let parts = parts_seen f g held named in
        record {
          typed = typed.functions f g named;
          requires = assertion (InClosure p x) (InClosure p x) (λ f k. k) (precondition_of g) (asked f g held named);
          asks_for = speaks_for (InClosure p x) (InClosure p x) (precondition_of g) (asked f g held named);
          body = speaks g.body (lefts p x (mentioned g.body) (flat_map mentioned_by g.requires) (lefts p x (mentioned g.body ++ flat_map mentioned_by g.requires) (flat_map mentioned g.ensures) parts));
          ensures = conjoined_speaks (InClosure p x) g.place g.ensures (each_speaks g.ensures (rights p x (mentioned g.body ++ flat_map mentioned_by g.requires) (flat_map mentioned g.ensures) parts));
        }

    module _ (agree : ApplicationsAgree p x) where
      pub knows : Knows (Means p x) p (InClosure p x)
      knows = record {
        made = λ f g vs v c tree a there. made p x typed agree (good p x typed) f g vs v c tree a there;
        single = λ k es d e a b. one_meaning p x typed agree k es d e a b;
        typed = λ f g vs v c tree a there. one_type p x typed agree f g vs c tree v (is_applied p x typed agree (good p x typed) f g vs v c tree a there);
      }

      -- what a predicate's body mentions, too
      bodies : (i : Name) (d : Predicate) (e : Assertion) → InClosure p x i → predicate_named p i ≡ Some d → d.body ≡ Some e → IsTyped p d.parameters e × SpeaksOf (InClosure p x) e × instances.SpeaksOf (InClosure p x) (λ f. ⊥) e
      bodies i d e held named body = let k = speak p x typed i d e held named body in (k.0, assertion (InClosure p x) (λ f. ⊥) (λ f k. absurd k) e k.1, k.1)

      pub closure_told : (n k m : ℕ) → AllTold (Means p x) p (good p x typed) (InClosure p x) (no_perm p x typed) n (outer p k) (firmly p m)
      closure_told n k m = all_told (Means p x) p (good p x typed) functions (InClosure p x) (no_perm p x typed) n typed.functions bodies spoken knows k m
