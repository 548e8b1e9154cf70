-- The rows of the types of counts: those of the other types are absent.
use Rattle.std.proofs.Common.{◌≡◌, ◌++◌, [], List, ℤ, false, Result, Ok, Err, refl, ◌∙◌, ap}
use Rattle.expgolomb.specs.Bits.{Place}
use Rattle.expgolomb.specs.Answer.{Reads}
use Rattle.param_sets.specs.Answer.{Refuses, Stores}
use Rattle.expgolomb.specs.TableReading.{rows_at}
use Rattle.param_sets.specs.SpsSyntax.{take, type_zero_rows, type_one_rows, offset_row, offset_rows, typed_rows, with_offsets}
use Rattle.h264_types.specs.CountTypes.{is_type_zero, is_type_one}
use Rattle.param_sets.specs.declared.fault.SetFault.{SetFault}
use Rattle.h264_types.specs.declared.param_sets.sps.Sps.{Sps}
use Rattle.h264_types.specs.declared.param_sets.sps.PicOrderCntType.TheVariants.{Zero, One, Two}
use Rattle.expgolomb.proofs.Tables.{rows_absent}
use Rattle.expgolomb.proofs.Loops.{after_ok, after_err, repeat_absent}
use Rattle.param_sets.proofs.Refusals.{refused, refused_by}

-- outside type 1 its rows are absent
one_absent : (s : Sps) (p : Place) → is_type_one s ≡ false → rows_at take (type_one_rows ++ offset_rows) s p ≡ Ok (s, p)
unfolding offset_rows
one_absent s p other =
    after_ok take type_one_rows offset_rows s p s p (rows_absent take type_one_rows s p (other, (other, (other, (other, tt))))) ∙ repeat_absent take offset_row 255 s p (rw other refl)

zero_absent : (s : Sps) (p : Place) → is_type_zero s ≡ false → rows_at take type_zero_rows s p ≡ Ok (s, p)
zero_absent s p other = rows_absent take type_zero_rows s p (other, tt)

-- type 2 has no rows
pub type_two : (s : Sps) (p : Place) → s.pic_order_cnt_type ≡ Two → rows_at take typed_rows s p ≡ Ok (s, p)
type_two s p two =
    after_ok take type_zero_rows (type_one_rows ++ offset_rows) s p s p (zero_absent s p (rw two refl)) ∙ one_absent s p (rw two refl)

-- type 0 has its own row
pub type_zero : {X : Type 0} (s t : Sps) (p q : Place) (r : Result X SetFault) → t.pic_order_cnt_type ≡ Zero → Reads (λ x. t) r q (rows_at take type_zero_rows s p) → Stores (λ x. t) r q (rows_at take typed_rows s p)
type_zero s t p q (Ok x) zero read =
    after_ok take type_zero_rows (type_one_rows ++ offset_rows) s p t q read ∙ one_absent t q (rw zero refl)
type_zero s t p q (Err e) zero read =
    refused e (rows_at take typed_rows s p) (after_err take type_zero_rows (type_one_rows ++ offset_rows) s p e read)

-- type 1 begins with its own rows
after_zero : (s : Sps) (p : Place) → s.pic_order_cnt_type ≡ One → rows_at take typed_rows s p ≡ rows_at take (type_one_rows ++ offset_rows) s p
after_zero s p one = after_ok take type_zero_rows (type_one_rows ++ offset_rows) s p s p (zero_absent s p (rw one refl))

pub type_one_fault : (s : Sps) (p : Place) (e : SetFault) → s.pic_order_cnt_type ≡ One → rows_at take type_one_rows s p ≡ Err e → Refuses e (rows_at take typed_rows s p)
type_one_fault s p e one read =
    refused e (rows_at take typed_rows s p) (after_zero s p one ∙ after_err take type_one_rows offset_rows s p e read)

-- the cycle stands after them
after_one : (s t : Sps) (p q : Place) → s.pic_order_cnt_type ≡ One → rows_at take type_one_rows s p ≡ Ok (t, q) → t.offset_for_ref_frame ≡ [] → rows_at take typed_rows s p ≡ rows_at take offset_rows (with_offsets t []) q
after_one s t p q one read none =
    after_zero s p one ∙ after_ok take type_one_rows offset_rows s p t q read ∙ ap (λ (os : List ℤ). rows_at take offset_rows (with_offsets t os) q) none

pub cycle_fault : (s t : Sps) (p q : Place) (e : SetFault) → s.pic_order_cnt_type ≡ One → rows_at take type_one_rows s p ≡ Ok (t, q) → t.offset_for_ref_frame ≡ [] → Refuses e (rows_at take offset_rows (with_offsets t []) q) → Refuses e (rows_at take typed_rows s p)
cycle_fault s t p q e one read none fault =
    refused_by e (rows_at take offset_rows (with_offsets t []) q) (rows_at take typed_rows s p) (λ h. after_one s t p q one read none ∙ h) fault

pub cycle_read : (s t : Sps) (p q r : Place) (os : List ℤ) → s.pic_order_cnt_type ≡ One → rows_at take type_one_rows s p ≡ Ok (t, q) → t.offset_for_ref_frame ≡ [] → rows_at take offset_rows (with_offsets t []) q ≡ Ok (with_offsets t os, r) → rows_at take typed_rows s p ≡ Ok (with_offsets t os, r)
cycle_read s t p q r os one read none rest = after_one s t p q one read none ∙ rest
