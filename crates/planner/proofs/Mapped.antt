-- What is mapped where there is a value.
use Rattle.std.proofs.Common.{◌≡◌, Bool, true, false, cond, Some, None, Option, refl}
use Rattle.std.specs.Option.{option_map}

pub option_map-twice : {X Y Z : Type 0} (f : X → Y) (g : Y → Z) (o : Option X) → option_map (λ x. g (f x)) o ≡ option_map g (option_map f o)
option_map-twice f g None = refl
option_map-twice f g (Some x) = refl

-- one element of a search
pub option_map-cond : {X Y : Type 0} (f : X → Y) (t : Bool) (x : X) (o : Option X) →
    option_map f (cond t (Some x) o) ≡ cond t (Some (f x)) (option_map f o)
option_map-cond f true x o = refl
option_map-cond f false x o = refl
