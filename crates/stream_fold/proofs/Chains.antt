-- Results one after the other, where the last is a value.
use Rattle.std.proofs.Common.{◌≡◌, Result, Ok, Err, refl}
use Rattle.h264_types.specs.Chains.{◌>>=◌}

-- there is a value before it
pub then_ok : {A B E : Type 0} (first : Result A E) (next : A → Result B E) (last : B) → (first >>= next) ≡ Ok last
    → (value : A) × (first ≡ Ok value) × (next value ≡ Ok last)
then_ok (Ok value) next last is = (value, refl, is)
then_ok (Err fault) next last is = absurd cc
