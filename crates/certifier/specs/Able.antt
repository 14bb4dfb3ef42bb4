-- That a plan can be drawn has one proof at most.
use Rattle.std.specs.Prelude.{List, [], ◌∷◌, ℕ}
use Rattle.model.specs.Frames.{Frame, left, Feasible}
use Rattle.certifier.specs.declared.frame.Rule.{Rule}
use Rattle.certifier.specs.Readable.{Startable, Lent}
use Rattle.certifier.specs.Steps.{Able}
use Rattle.std.proofs.Props.{props}

Feasible-prop : (e y : ℕ) (fs : List Frame) (bs : List ℕ) → IsProp (Feasible e y fs bs)
Feasible-prop e y [] [] = Prim.hlevel props
Feasible-prop e y [] (b ∷ bs) = Prim.hlevel props
Feasible-prop e y (f ∷ fs) [] = Prim.hlevel props
Feasible-prop e y (f ∷ fs) (b ∷ bs) = let rest = Feasible-prop e (left f y b) fs bs in Prim.hlevel (props, rest)

pub Able-prop : (e : ℕ) (fs : List Frame) (i y : ℕ) → IsProp (Able e fs i y)
unfolding Able
Able-prop e fs i y = Feasible-prop _ _ _ _

pub Lent-prop : (r : Rule) (hs ls ms : List ℕ) (y : ℕ) (rs bs : List ℕ) → IsProp (Lent r hs ls ms y rs bs)
Lent-prop r hs ls ms y rs bs = Prim.hlevel (props, Able-prop)

pub Startable-prop : (r : Rule) (hs ls ms : List ℕ) (y : ℕ) → IsProp (Startable r hs ls ms y)
Startable-prop r hs ls ms y = Prim.hlevel (props, Able-prop)
