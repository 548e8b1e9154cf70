use Rattle.std.proofs.Common.{◌++◌, ◌∙◌, false, refl}
use Rattle.std.proofs.lemmas.Result.{err_from_is_err_and}
use Rattle.expgolomb.specs.TableReading.{rows_at}
use Rattle.param_sets.specs.PpsSyntax.{take, no_pps, so_far, id_rows, coding_rows, prediction_rows, quantisation_rows, slice_rows, more_rows, pps_rows}
use Rattle.expgolomb.proofs.Loops.{after_ok}
use Rattle.param_sets.proofs.Sections.{further, stopped_at, stopped_last}
use Rattle.param_sets.proofs.pic_parameter_set.pic_parameter_set_rbsp.Goals as goal

pub returns-in_err-pps : goal.returns-in_err-pps
unfolding pps_rows
returns-in_err-pps c =
    let x = err_from_is_err_and c.from_residual.result c.from_residual.ensures.1 in
    let whole = rows_at take pps_rows no_pps c.args.bits.now in
    (false, rw (x.1, x.2) (stopped_at take id_rows (coding_rows ++ (prediction_rows ++ (quantisation_rows ++ (slice_rows ++ more_rows)))) whole no_pps c.args.bits.now c.in_err-pps.field-0.0 refl c.in_err-pps.ensures.exact))

pub returns-in_err-coding : goal.returns-in_err-coding
unfolding pps_rows
returns-in_err-coding c =
    let x = err_from_is_err_and c.from_residual-in_err-coding.result c.from_residual-in_err-coding.ensures.1 in
    let e = c.in_err-coding.field-0.0 in
    let whole = rows_at take pps_rows no_pps c.args.bits.now in
    let s0 = so_far false c.in_ok-pps.pps in
    let p0 = c.beginning.new.bits in
    let left0 = after_ok take id_rows (coding_rows ++ (prediction_rows ++ (quantisation_rows ++ (slice_rows ++ more_rows)))) no_pps c.args.bits.now s0 p0 c.in_ok-pps.ensures.exact in
    (false, rw (x.1, x.2) (stopped_at take coding_rows (prediction_rows ++ (quantisation_rows ++ (slice_rows ++ more_rows))) whole s0 p0 e left0 c.in_err-coding.ensures.exact))

pub returns-in_err-prediction : goal.returns-in_err-prediction
unfolding pps_rows
returns-in_err-prediction c =
    let x = err_from_is_err_and c.from_residual-in_err-prediction.result c.from_residual-in_err-prediction.ensures.1 in
    let e = c.in_err-prediction.field-0.0 in
    let whole = rows_at take pps_rows no_pps c.args.bits.now in
    let s0 = so_far false c.in_ok-pps.pps in
    let p0 = c.beginning.new.bits in
    let left0 = after_ok take id_rows (coding_rows ++ (prediction_rows ++ (quantisation_rows ++ (slice_rows ++ more_rows)))) no_pps c.args.bits.now s0 p0 c.in_ok-pps.ensures.exact in
    let s1 = so_far false c.coding.new.pps in
    let p1 = c.coding.new.bits in
    let left1 = further take coding_rows (prediction_rows ++ (quantisation_rows ++ (slice_rows ++ more_rows))) whole s0 s1 p0 p1 left0 c.in_ok-coding.ensures.exact in
    (false, rw (x.1, x.2) (stopped_at take prediction_rows (quantisation_rows ++ (slice_rows ++ more_rows)) whole s1 p1 e left1 c.in_err-prediction.ensures.exact))

pub returns-in_err-quantisation : goal.returns-in_err-quantisation
unfolding pps_rows
returns-in_err-quantisation c =
    let x = err_from_is_err_and c.from_residual-in_err-quantisation.result c.from_residual-in_err-quantisation.ensures.1 in
    let e = c.in_err-quantisation.field-0.0 in
    let whole = rows_at take pps_rows no_pps c.args.bits.now in
    let s0 = so_far false c.in_ok-pps.pps in
    let p0 = c.beginning.new.bits in
    let left0 = after_ok take id_rows (coding_rows ++ (prediction_rows ++ (quantisation_rows ++ (slice_rows ++ more_rows)))) no_pps c.args.bits.now s0 p0 c.in_ok-pps.ensures.exact in
    let s1 = so_far false c.coding.new.pps in
    let p1 = c.coding.new.bits in
    let left1 = further take coding_rows (prediction_rows ++ (quantisation_rows ++ (slice_rows ++ more_rows))) whole s0 s1 p0 p1 left0 c.in_ok-coding.ensures.exact in
    let s2 = so_far false c.prediction.new.pps in
    let p2 = c.prediction.new.bits in
    let left2 = further take prediction_rows (quantisation_rows ++ (slice_rows ++ more_rows)) whole s1 s2 p1 p2 left1 c.in_ok-prediction.ensures.exact in
    (false, rw (x.1, x.2) (stopped_at take quantisation_rows (slice_rows ++ more_rows) whole s2 p2 e left2 c.in_err-quantisation.ensures.exact))

pub returns-in_err-slices : goal.returns-in_err-slices
unfolding pps_rows
returns-in_err-slices c =
    let x = err_from_is_err_and c.from_residual-in_err-slices.result c.from_residual-in_err-slices.ensures.1 in
    let e = c.in_err-slices.field-0.0 in
    let whole = rows_at take pps_rows no_pps c.args.bits.now in
    let s0 = so_far false c.in_ok-pps.pps in
    let p0 = c.beginning.new.bits in
    let left0 = after_ok take id_rows (coding_rows ++ (prediction_rows ++ (quantisation_rows ++ (slice_rows ++ more_rows)))) no_pps c.args.bits.now s0 p0 c.in_ok-pps.ensures.exact in
    let s1 = so_far false c.coding.new.pps in
    let p1 = c.coding.new.bits in
    let left1 = further take coding_rows (prediction_rows ++ (quantisation_rows ++ (slice_rows ++ more_rows))) whole s0 s1 p0 p1 left0 c.in_ok-coding.ensures.exact in
    let s2 = so_far false c.prediction.new.pps in
    let p2 = c.prediction.new.bits in
    let left2 = further take prediction_rows (quantisation_rows ++ (slice_rows ++ more_rows)) whole s1 s2 p1 p2 left1 c.in_ok-prediction.ensures.exact in
    let s3 = so_far false c.quantisation.new.pps in
    let p3 = c.quantisation.new.bits in
    let left3 = further take quantisation_rows (slice_rows ++ more_rows) whole s2 s3 p2 p3 left2 c.in_ok-quantisation.ensures.exact in
    (false, rw (x.1, x.2) (stopped_at take slice_rows more_rows whole s3 p3 e left3 c.in_err-slices.ensures.exact))

pub more-requires : goal.more-requires
more-requires c =
    c.slices.ensures.same ∙ c.quantisation.ensures.same ∙ c.prediction.ensures.same ∙ c.coding.ensures.same ∙ c.in_ok-pps.ensures.none

pub returns-in_err-more : goal.returns-in_err-more
unfolding pps_rows
returns-in_err-more c =
    let x = err_from_is_err_and c.from_residual-in_err-more.result c.from_residual-in_err-more.ensures.1 in
    let e = c.in_err-more.field-0.0 in
    let whole = rows_at take pps_rows no_pps c.args.bits.now in
    let s0 = so_far false c.in_ok-pps.pps in
    let p0 = c.beginning.new.bits in
    let left0 = after_ok take id_rows (coding_rows ++ (prediction_rows ++ (quantisation_rows ++ (slice_rows ++ more_rows)))) no_pps c.args.bits.now s0 p0 c.in_ok-pps.ensures.exact in
    let s1 = so_far false c.coding.new.pps in
    let p1 = c.coding.new.bits in
    let left1 = further take coding_rows (prediction_rows ++ (quantisation_rows ++ (slice_rows ++ more_rows))) whole s0 s1 p0 p1 left0 c.in_ok-coding.ensures.exact in
    let s2 = so_far false c.prediction.new.pps in
    let p2 = c.prediction.new.bits in
    let left2 = further take prediction_rows (quantisation_rows ++ (slice_rows ++ more_rows)) whole s1 s2 p1 p2 left1 c.in_ok-prediction.ensures.exact in
    let s3 = so_far false c.quantisation.new.pps in
    let p3 = c.quantisation.new.bits in
    let left3 = further take quantisation_rows (slice_rows ++ more_rows) whole s2 s3 p2 p3 left2 c.in_ok-quantisation.ensures.exact in
    let s4 = so_far false c.slices.new.pps in
    let p4 = c.slices.new.bits in
    let left4 = further take slice_rows more_rows whole s3 s4 p3 p4 left3 c.in_ok-slices.ensures.exact in
    (c.in_err-more.ensures.0, rw (x.1, x.2) (stopped_last take more_rows whole s4 p4 e left4 c.in_err-more.ensures.1))

pub returns : goal.returns
unfolding pps_rows
returns c =
    let whole = rows_at take pps_rows no_pps c.args.bits.now in
    let s0 = so_far false c.in_ok-pps.pps in
    let p0 = c.beginning.new.bits in
    let left0 = after_ok take id_rows (coding_rows ++ (prediction_rows ++ (quantisation_rows ++ (slice_rows ++ more_rows)))) no_pps c.args.bits.now s0 p0 c.in_ok-pps.ensures.exact in
    let s1 = so_far false c.coding.new.pps in
    let p1 = c.coding.new.bits in
    let left1 = further take coding_rows (prediction_rows ++ (quantisation_rows ++ (slice_rows ++ more_rows))) whole s0 s1 p0 p1 left0 c.in_ok-coding.ensures.exact in
    let s2 = so_far false c.prediction.new.pps in
    let p2 = c.prediction.new.bits in
    let left2 = further take prediction_rows (quantisation_rows ++ (slice_rows ++ more_rows)) whole s1 s2 p1 p2 left1 c.in_ok-prediction.ensures.exact in
    let s3 = so_far false c.quantisation.new.pps in
    let p3 = c.quantisation.new.bits in
    let left3 = further take quantisation_rows (slice_rows ++ more_rows) whole s2 s3 p2 p3 left2 c.in_ok-quantisation.ensures.exact in
    let s4 = so_far false c.slices.new.pps in
    let p4 = c.slices.new.bits in
    let left4 = further take slice_rows more_rows whole s3 s4 p3 p4 left3 c.in_ok-slices.ensures.exact in
    (c.in_ok-more.ensures.0, left4 ∙ c.in_ok-more.ensures.1)
