-- NAL units that aren't left out by themselves.
use Rattle.std.proofs.Common.{◌≡◌, ℕ, ◌+◌, ◌-◌, ◌<◌, Bool, true, false, ◌&&◌, ◌||◌, cond, List, [], ◌∷◌, length, get_or, Option, None, Some, arith, refl, sym}
use Rattle.std.proofs.lemmas.Bool.{false≢true}
use Rattle.annexb.specs.NalUnit.{IsUnit, is_slice, nal_unit_type, forbidden_zero_bit}
use Rattle.annexb.specs.Faults.{is_nothing}
use Rattle.annexb.specs.AccessUnits.{begins_access_unit}
use Rattle.slice_header.specs.Fronts.{slice_type_at}
use Rattle.access_unit.specs.Sets.{is_sps, is_pps, sps_of, pps_of, is_unreadable}
use Rattle.access_unit.specs.Refusals.{is_refused_type, is_switching, is_inter, is_idr, is_not_reference, has_slice, mixes_idr, mixes_reference}
use Rattle.stream_mending.specs.Faults.{has_forbidden, slice_fault, coded_fault, fault_of, is_sound, has_none}
use Rattle.stream_mending.specs.Portions.{is_of_other, joint_of}
use Rattle.stream_mending.specs.declared.why.Why.{Why}
use Rattle.stream_mending.specs.declared.why.Why.TheVariants.{Empty, ForbiddenBytes}
use Rattle.stream_mending.specs.OpenPortions.{IsFirstOf}
use Rattle.stream_mending.specs.declared.joint.Joint.TheVariants.{Joins, Begins, NeedsDelimiter}
use Rattle.stream_mending.proofs.Sequences.{allowed_at}

-- what is known of one
pub record IsSound (unit : List ℕ) : Type 0 where
  pub filled : is_nothing unit ≡ false
  pub allowed : has_forbidden unit ≡ false
  pub bit : forbidden_zero_bit unit ≡ false
  pub type_read : is_refused_type (nal_unit_type unit) ≡ false
  pub sps : (is_sps unit && is_unreadable (sps_of unit)) ≡ false
  pub pps : (is_pps unit && is_unreadable (pps_of unit)) ≡ false
  pub switching : (is_slice unit && is_switching (slice_type_at unit)) ≡ false
  pub intra : (is_idr unit && is_inter (slice_type_at unit)) ≡ false
  pub reference : (is_idr unit && is_not_reference unit) ≡ false

-- the first of two that has no reason
first_none : (b : Bool) (why : Why) (others : Option Why) → has_none (cond b (Some why) others) ≡ true
    → (b ≡ false) × (has_none others ≡ true)
first_none true why others h = absurd (false≢true h)
first_none false why others h = (refl, h)

pub sound_parts : (unit : List ℕ) → is_sound unit ≡ true → IsSound unit
unfolding fault_of coded_fault slice_fault
sound_parts unit h =
    let filled = first_none (is_nothing unit) _ _ h in
    let allowed = first_none (has_forbidden unit) _ _ filled.1 in
    let bit = first_none (forbidden_zero_bit unit) _ _ allowed.1 in
    let type_read = first_none (is_refused_type (nal_unit_type unit)) _ _ bit.1 in
    let sps = first_none (is_sps unit && is_unreadable (sps_of unit)) _ _ type_read.1 in
    let pps = first_none (is_pps unit && is_unreadable (pps_of unit)) _ _ sps.1 in
    let switching = first_none (is_slice unit && is_switching (slice_type_at unit)) _ _ pps.1 in
    let intra = first_none (is_idr unit && is_inter (slice_type_at unit)) _ _ switching.1 in
    let reference = first_none (is_idr unit && is_not_reference unit) _ _ intra.1 in
    record {
      filled = filled.0;
      allowed = allowed.0;
      bit = bit.0;
      type_read = type_read.0;
      sps = sps.0;
      pps = pps.0;
      switching = switching.0;
      intra = intra.0;
      reference = reference.0;
    }

-- and what is so has no reason
pub parts_sound : (unit : List ℕ) → IsSound unit → is_sound unit ≡ true
unfolding fault_of coded_fault slice_fault
parts_sound unit h =
    rw (h.filled, h.allowed, h.bit, h.type_read, h.sps, h.pps, h.switching, h.intra, h.reference) refl

-- it joins the access unit of these slices
pub record DoesJoin (slices : List (List ℕ)) (unit : List ℕ) : Type 0 where
  pub inside : (has_slice slices && begins_access_unit unit) ≡ false
  pub same : is_of_other slices unit ≡ false

pub joins_parts : (slices : List (List ℕ)) (unit : List ℕ) → joint_of slices unit ≡ Joins → DoesJoin slices unit
unfolding joint_of
joins_parts slices unit h = first (has_slice slices && begins_access_unit unit) refl
  where
    second : (b : Bool) → is_of_other slices unit ≡ b → cond b NeedsDelimiter Joins ≡ Joins → b ≡ false
    second true e h = cc
    second false e h = refl

    first : (b : Bool) → (has_slice slices && begins_access_unit unit) ≡ b → DoesJoin slices unit
    first true e = let bad : Begins ≡ Joins = rw e at h in cc
    first false e = record { inside = e; same = second (is_of_other slices unit) refl (rw e at h) }

pub parts_join : (slices : List (List ℕ)) (unit : List ℕ) → DoesJoin slices unit → joint_of slices unit ≡ Joins
unfolding joint_of
parts_join slices unit h = rw (h.inside, h.same) refl

-- one that begins the next access unit
pub begins_parts : (slices : List (List ℕ)) (unit : List ℕ) → (has_slice slices && begins_access_unit unit) ≡ true
    → joint_of slices unit ≡ Begins
unfolding joint_of
begins_parts slices unit h = rw h refl

-- why bytes are left out, case by case
pub fault_empty : (unit : List ℕ) → length unit ≡ 0 → Some Empty ≡ fault_of unit
unfolding fault_of
fault_empty [] none = refl
fault_empty (byte ∷ unit) none = absurd (omega arith)

pub fault_forbidden : (unit : List ℕ) → 0 < length unit → has_forbidden unit ≡ true → Some ForbiddenBytes ≡ fault_of unit
unfolding fault_of
fault_forbidden [] some h = absurd (omega arith)
fault_forbidden (byte ∷ unit) some h = rw h refl

pub fault_coded : (unit : List ℕ) → 0 < length unit → has_forbidden unit ≡ false → coded_fault unit ≡ fault_of unit
unfolding fault_of
fault_coded [] some h = absurd (omega arith)
fault_coded (byte ∷ unit) some h = rw h refl

-- bytes that hold no forbidden sequence are a NAL unit
pub IsUnit-from : (unit : List ℕ) → 0 < length unit → has_forbidden unit ≡ false
    → ((last : ℕ) → last + 1 ≡ length unit → get_or unit last 0 ≡ 0 → ⊥) → IsUnit unit
IsUnit-from unit some h ends = record {
  filled = some;
  ends = ends (length unit - 1) (omega arith);
  allowed = allowed_at unit h;
}

-- where there is no slice, each joins
and_none : (b : Bool) → (b && (false || false)) ≡ false
and_none true = refl
and_none false = refl

pub of_none : (unit : List ℕ) → is_of_other [] unit ≡ false
unfolding mixes_idr mixes_reference
of_none unit = and_none (is_slice unit)

pub joins_none : (unit : List ℕ) → joint_of [] unit ≡ Joins
joins_none unit = parts_join [] unit (record { inside = refl; same = of_none unit })

-- what joins an access unit without slices
pub joins_first : (slices : List (List ℕ)) (unit : List ℕ) → IsFirstOf slices None → Joins ≡ joint_of slices unit
joins_first [] unit first = sym (joins_none unit)
joins_first (slice ∷ slices) unit first = cc
