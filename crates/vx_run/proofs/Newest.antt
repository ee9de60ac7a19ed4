-- One more on what was found.
use Rattle.std.proofs.Common.{◌≡◌, List, [], ◌∷◌, ◌++◌, map, reverse, refl, sym, ◌∙◌, ap}
use Rattle.std.proofs.lemmas.List.{reverse-append, map-append, reverse-reverse}
use Rattle.std.specs.declared.alloc.Global.{Global}
use Rattle.std.specs.declared.vec.Vec.{Vec}
use Rattle.vx_run.specs.Views.{value}
use Rattle.vx_run.specs.Held.{entries}
use Rattle.vx_run.specs.ConfigViews.{newest, caller_of}
use Rattle.vx_run.specs.declared.values.Value.{Value as Value'}
use Rattle.vx_run.specs.declared.holdings.Holdings.{Holdings as Holdings'}
use Rattle.vx_run.specs.declared.state.Caller.{Caller as Caller'}

pub last_first : {A B : Type 0} (f : A → B) (xs : List A) (x : A) → reverse (map f (xs ++ x ∷ [])) ≡ f x ∷ reverse (map f xs)
last_first f xs x = ap reverse (map-append f xs (x ∷ [])) ∙ reverse-append (map f xs) (f x ∷ [])

map_reverse : {A B : Type 0} (f : A → B) (xs : List A) → map f (reverse xs) ≡ reverse (map f xs)
map_reverse f [] = refl
map_reverse f (x ∷ xs) =
    ap (map f) (reverse-append (x ∷ []) xs) ∙ map-append f (reverse xs) (x ∷ []) ∙ ap (λ l. l ++ f x ∷ []) (map_reverse f xs) ∙ sym (reverse-append (f x ∷ []) (map f xs))

pub newest_more : (vs : List Value') (v : Value') → newest (vs ++ v ∷ []) ≡ value v ∷ newest vs
newest_more vs v = last_first value vs v

pub newest_list : (vss : List (Vec Value' Global)) (vs : Vec Value' Global) → reverse (map (λ us. newest us.items) (vss ++ vs ∷ [])) ≡ newest vs.items ∷ reverse (map (λ us. newest us.items) vss)
newest_list vss vs = last_first (λ us. newest us.items) vss vs

pub newest_taking : (hs : List Holdings') (h : Holdings') → reverse (map (λ o. entries o.entries.value) (hs ++ h ∷ [])) ≡ entries h.entries.value ∷ reverse (map (λ o. entries o.entries.value) hs)
newest_taking hs h = last_first (λ o. entries o.entries.value) hs h

pub newest_caller : (ws : List Caller') (w : Caller') → reverse (map caller_of (ws ++ w ∷ [])) ≡ caller_of w ∷ reverse (map caller_of ws)
newest_caller ws w = last_first caller_of ws w

pub newest_turned : (vs : List Value') → newest (reverse vs) ≡ map value vs
newest_turned vs = ap reverse (map_reverse value vs) ∙ reverse-reverse (map value vs)

pub turned_is : (vs : List Value') → map value (reverse vs) ≡ newest vs
turned_is vs = map_reverse value vs
