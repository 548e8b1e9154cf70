use Rattle.std.proofs.Common.{◌≡◌, ℕ, ◌+◌, ◌-◌, ◌<◌, ◌≤◌, ◌++◌, ◌∷◌, [], List, ℤ, true, false, Ok, Err, refl, ◌∙◌, ap, arith, replicate, length, length-append, rules}
use Rattle.std.proofs.lemmas.Bool.{lt-ltb, le-ltb}
use Rattle.std.proofs.lemmas.Int.{to_z-of_z}
use mir.Val.{SFits}
use mir.Syntax.{w32}
use Rattle.std.proofs.lemmas.Result.{err_from_is_err_and}
use Rattle.expgolomb.specs.Bits.{Place}
use Rattle.expgolomb.specs.TableReading.{field_at, rows_at}
use Rattle.param_sets.specs.SpsSyntax.{take, has_offset, with_offsets, IsCycleOf, offset_row, offset_rows}
use Rattle.param_sets.specs.declared.fault.SetFault.{SetFault}
use Rattle.h264_types.specs.declared.param_sets.sps.Sps.{Sps}
use Rattle.expgolomb.proofs.Loops.{repeat_step, repeat_stop, repeat_absent}
use Rattle.param_sets.proofs.Refusals.{refused}
use Rattle.param_sets.proofs.seq_parameter_set.cycle.Goals as goal

-- an offset is still to be read
here : (s : Sps) (count : ℕ) (offsets : List ℤ) → IsCycleOf s count → length offsets < count → has_offset (with_offsets s offsets) ≡ true
here s count offsets cycle few = rw (cycle.0, cycle.1, lt-ltb (length offsets) count few) refl

-- no offset is left
past : (s : Sps) (count : ℕ) (offsets : List ℤ) → IsCycleOf s count → count ≤ length offsets → has_offset (with_offsets s offsets) ≡ false
past s count offsets cycle all = rw (cycle.0, cycle.1, le-ltb (length offsets) count all) refl

-- one more offset
more : (s : Sps) (count i : ℕ) (offsets after : List ℤ) (offset : ℤ) (p q : Place) → IsCycleOf s count → length offsets ≡ i → i < count → count ≤ 255 → after ≡ offsets ++ offset ∷ [] → field_at offset_row (with_offsets s offsets) p ≡ Ok (offset, q) → rows_at take (replicate (255 - i) offset_row) (with_offsets s offsets) p ≡ rows_at take (replicate (255 - (i + 1)) offset_row) (with_offsets s after) q
more s count i offsets after offset p q cycle is few most pushed read =
    rw pushed (repeat_step take offset_row (255 - (i + 1)) (255 - i) (with_offsets s offsets) p offset q (omega arith) (here s count offsets cycle (omega arith)) read)

-- an offset that can't be read
none : (s : Sps) (count i : ℕ) (offsets : List ℤ) (e : SetFault) (p : Place) → IsCycleOf s count → length offsets ≡ i → i < count → count ≤ 255 → field_at offset_row (with_offsets s offsets) p ≡ Err e → rows_at take (replicate (255 - i) offset_row) (with_offsets s offsets) p ≡ Err e
none s count i offsets e p cycle is few most read =
    repeat_stop take offset_row (255 - (i + 1)) (255 - i) (with_offsets s offsets) p e (omega arith) (here s count offsets cycle (omega arith)) read

pub returns-in_err-offset : goal.returns-in_err-offset
unfolding offset_rows
returns-in_err-offset c s cycle =
    let p = err_from_is_err_and c.from_residual.result c.from_residual.ensures.1 in
    let w = c.loop-i.invariant in
    let most : c.args.length ≤ 255 = omega arith in
    let read = w.whole s cycle ∙ none s c.args.length c.loop-i._i c.loop-i.offsets c.in_err-offset.field-0.0 c.loop-i.bits cycle w.so_far c.loop-i-test.true most c.in_err-offset.ensures.exact in
    rw (p.1, p.2) (refused c.in_err-offset.field-0.0 (rows_at take offset_rows (with_offsets s []) c.args.bits.now) read)

pub loop-i-preserved : goal.loop-i-preserved
loop-i-preserved c =
    let w = c.loop-i.invariant in
    let most : c.args.length ≤ 255 = omega arith in
    let fits : SFits w32 c.in_ok-offset.offset = search rules in
    let pushed = rw (to_z-of_z w32 c.in_ok-offset.offset fits) at c.in_ok-push.ensures.pushed in
    record {
      so_far = omega (arith, ap length pushed, length-append c.loop-i.offsets (c.in_ok-offset.offset ∷ []), w.so_far);
      whole = λ s cycle. w.whole s cycle ∙ more s c.args.length c.loop-i._i c.loop-i.offsets c.push.new.self c.in_ok-offset.offset c.loop-i.bits c.se_any.new.bits cycle w.so_far c.loop-i-test.true most pushed c.in_ok-offset.ensures.exact;
    }

pub returns : goal.returns
unfolding offset_rows
returns c s cycle =
    let w = c.loop-i.invariant in
    w.whole s cycle ∙ repeat_absent take offset_row (255 - c.loop-i._i) (with_offsets s c.loop-i.offsets) c.loop-i.bits (past s c.args.length c.loop-i.offsets cycle (omega arith))
