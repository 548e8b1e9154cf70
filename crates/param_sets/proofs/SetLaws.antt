-- From what reading gives to the set that a payload has, and back.
use Rattle.std.proofs.Common.{◌≡◌, Result, Ok, Err, IfOk, IfErr, refl, subst}
use Rattle.expgolomb.specs.Bits.{Place}
use Rattle.expgolomb.proofs.ExpGolomb.{ok_is}
use Rattle.param_sets.specs.declared.fault.SetFault.{SetFault}
use Rattle.param_sets.specs.declared.fault.SetFault.TheVariants.{Memory, Cut, Range, Profile, Chroma444, Interlaced, SliceGroups, RefFrames}
use Rattle.param_sets.specs.Sets.{Answers, IsShown, first_of}

-- the answer is a set that is there
pub found_by : {A : Type 0} (r read : Result A SetFault) (P : A → Type 0) → Answers r read → ((x : A) → read ≡ Ok x → P x) → IfOk r P
found_by (Ok x) read P exact law = law x exact
found_by (Err e) read P exact law = tt

-- the answer is a fault that is shown
pub shown_by : {A : Type 0} (r read : Result A SetFault) (P : SetFault → Type 0) → Answers r read → ((e : SetFault) → read ≡ Err e → P e) → IfErr r (λ e. IsShown P e)
shown_by (Ok x) read P exact law = tt
shown_by (Err Memory) read P exact law = tt
shown_by (Err Cut) read P exact law = law Cut exact
shown_by (Err (Range f)) read P exact law = law (Range f) exact
shown_by (Err Profile) read P exact law = law Profile exact
shown_by (Err Chroma444) read P exact law = law Chroma444 exact
shown_by (Err Interlaced) read P exact law = law Interlaced exact
shown_by (Err SliceGroups) read P exact law = law SliceGroups exact
shown_by (Err RefFrames) read P exact law = law RefFrames exact

-- what reading gives is what is answered
pub only_by : {A : Type 0} (r read given : Result A SetFault) → Answers r read → read ≡ given → Answers r given
only_by r read given exact is = subst (λ z. Answers r z) is exact

-- what a first part is of
pub first_ok : {A B : Type 0} (r : Result (A × Place) SetFault) (view : A → B) (set : B) → first_of view r ≡ Ok set → (x : A × Place) × (r ≡ Ok x) × (view x.0 ≡ set)
first_ok (Ok x) view set is = (x, refl, ok_is _ _ is)
first_ok (Err e) view set is = cc

pub first_err : {A B : Type 0} (r : Result (A × Place) SetFault) (view : A → B) (e : SetFault) → first_of view r ≡ Err e → r ≡ Err e
first_err (Ok x) view e is = cc
first_err (Err d) view e is = cc
