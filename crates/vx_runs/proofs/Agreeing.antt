-- Heaps that agree where something is held, and heaps that are alike.
use Rattle.std.proofs.Common.{refl, sym, ◌∙◌}
use Rattle.vx_ast.specs.Syntax.{Program}
use Rattle.vx_meaning.specs.States.{Heap, Holdings, Location}
use Rattle.vx_meaning.specs.Consistent.{IsHeld}
use Rattle.vx_sound_preds.specs.Bodies.{GoodBodies}
use Rattle.vx_sound_preds.proofs.Holding.{all_single}
use Rattle.vx_runs.proofs.Followed.{Any, Sane, SaneKept, Agree, Alike, AtMost}
use Rattle.vx_runs.proofs.Fewer.{held_fewer}

pub agree_self : (p : Program) (h : Heap) (held : Holdings) → Agree p h held h
agree_self p h held l z = refl

pub alike_agrees : (p : Program) (h g : Heap) (held : Holdings) → Alike p h g → Agree p h held g
alike_agrees p h g held k l z = k l

pub alike_then : (p : Program) (h g k : Heap) (held : Holdings) → Agree p h held g → Alike p g k → Agree p h held k
alike_then p h g k held a b l z = b l ∙ a l z

module _ (p : Program) (good : GoodBodies p) where
  -- less is held of a state that can be
  pub agree_fewer : (h g : Heap) (few many : Holdings) → Sane p h few → Sane p h many → AtMost few many → Agree p h many g → Agree p h few g
  agree_fewer h g few many s t le k l z = k l (held_fewer p good h few many (all_single p Any few s.typed) (all_single p Any many t.typed) s.debts t.debts le l z)

  pub held_of : (h : Heap) (few many : Holdings) → Sane p h few → Sane p h many → AtMost few many → (l : Location) → IsHeld p h few l → IsHeld p h many l
  held_of h few many s t le = held_fewer p good h few many (all_single p Any few s.typed) (all_single p Any many t.typed) s.debts t.debts le

  module _ (kept : SaneKept p) where
    pub agree_back : (h g : Heap) (held : Holdings) → Sane p h held → Agree p h held g → Agree p g held h
    agree_back h g held s k l z = let r = kept h g held s k in sym (k l (r.1 l z))

    pub held_there : (h g : Heap) (held : Holdings) → Sane p h held → Agree p h held g → (l : Location) → IsHeld p h held l → IsHeld p g held l
    held_there h g held s k l z = let r = kept h g held s k in let b = kept g h held r.0 (agree_back h g held s k) in b.1 l z

    pub agree_then : (h g k : Heap) (held : Holdings) → Sane p h held → Agree p h held g → Agree p g held k → Agree p h held k
    agree_then h g k held s a b l z = b l (held_there h g held s a l z) ∙ a l z

    -- from a heap that is alike
    pub agree_from : (h k g : Heap) (held : Holdings) → Sane p h held → Alike p h k → Agree p h held g → Agree p k held g
    agree_from h k g held s a b l z = let r = kept h k held s (alike_agrees p h k held a) in b l (r.1 l z) ∙ sym (a l)

    pub sane_there : (h g : Heap) (held : Holdings) → Sane p h held → Agree p h held g → Sane p g held
    sane_there h g held s k = let r = kept h g held s k in r.0
