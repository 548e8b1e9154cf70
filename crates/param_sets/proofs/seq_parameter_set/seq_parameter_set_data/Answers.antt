use Rattle.std.proofs.Common.{◌++◌, ◌∙◌}
use Rattle.std.proofs.lemmas.Result.{err_from_is_err_and}
use Rattle.expgolomb.specs.TableReading.{rows_at}
use Rattle.param_sets.specs.SpsSyntax.{take, high_rows, count_rows, typed_rows, frame_rows, size_rows}
use Rattle.param_sets.proofs.Refusals.{refused}
use Rattle.param_sets.proofs.SpsSections.{from_types, from_counts, begun, not_begun, further, stopped, stopped_last}
use Rattle.param_sets.proofs.seq_parameter_set.seq_parameter_set_data.Goals as goal

pub returns-in_err-sps : goal.returns-in_err-sps
returns-in_err-sps c =
    let p = err_from_is_err_and c.from_residual.result c.from_residual.ensures.1 in
    rw (p.1, p.2) (not_begun c.args.bits.now c.in_err-sps.field-0.0 c.in_err-sps.ensures.exact)

pub high-requires : goal.high-requires
high-requires c = c.in_ok-sps.ensures.none.0

pub returns-in_err-high : goal.returns-in_err-high
returns-in_err-high c =
    let x = err_from_is_err_and c.from_residual-in_err-high.result c.from_residual-in_err-high.ensures.1 in
    let e = c.in_err-high.field-0.0 in
    let p = c.args.bits.now in
    let s0 = c.in_ok-sps.sps in
    let p0 = c.beginning.new.bits in
    let left0 = begun s0 p p0 c.in_ok-sps.ensures.exact in
    rw (x.1, x.2) (stopped high_rows from_counts s0 p p0 e left0 c.in_err-high.ensures.exact)

pub returns-in_err-frame_num_and_count_type : goal.returns-in_err-frame_num_and_count_type
returns-in_err-frame_num_and_count_type c =
    let x = err_from_is_err_and c.from_residual-in_err-frame_num_and_count_type.result c.from_residual-in_err-frame_num_and_count_type.ensures.1 in
    let e = c.in_err-frame_num_and_count_type.field-0.0 in
    let p = c.args.bits.now in
    let s0 = c.in_ok-sps.sps in
    let p0 = c.beginning.new.bits in
    let left0 = begun s0 p p0 c.in_ok-sps.ensures.exact in
    let sh = c.high.new.sps in
    let ph = c.high.new.bits in
    let lefth = further high_rows from_counts s0 sh p p0 ph left0 c.in_ok-high.ensures.exact in
    rw (x.1, x.2) (stopped count_rows from_types sh p ph e lefth (refused e (rows_at take count_rows sh ph) c.in_err-frame_num_and_count_type.ensures.exact))

pub counts-requires : goal.counts-requires
counts-requires c =
    c.frame_num_and_count_type.ensures.same ∙ c.high.ensures.same ∙ c.in_ok-sps.ensures.none.1

pub returns-in_err-counts : goal.returns-in_err-counts
returns-in_err-counts c =
    let x = err_from_is_err_and c.from_residual-in_err-counts.result c.from_residual-in_err-counts.ensures.1 in
    let e = c.in_err-counts.field-0.0 in
    let p = c.args.bits.now in
    let s0 = c.in_ok-sps.sps in
    let p0 = c.beginning.new.bits in
    let left0 = begun s0 p p0 c.in_ok-sps.ensures.exact in
    let sh = c.high.new.sps in
    let ph = c.high.new.bits in
    let lefth = further high_rows from_counts s0 sh p p0 ph left0 c.in_ok-high.ensures.exact in
    let s1 = c.frame_num_and_count_type.new.sps in
    let p1 = c.frame_num_and_count_type.new.bits in
    let left1 = further count_rows from_types sh s1 p ph p1 lefth c.in_ok-frame_num_and_count_type.ensures.exact in
    rw (x.1, x.2) (stopped typed_rows (frame_rows ++ size_rows) s1 p p1 e left1 c.in_err-counts.ensures)

pub returns-in_err-frames : goal.returns-in_err-frames
returns-in_err-frames c =
    let x = err_from_is_err_and c.from_residual-in_err-frames.result c.from_residual-in_err-frames.ensures.1 in
    let e = c.in_err-frames.field-0.0 in
    let p = c.args.bits.now in
    let s0 = c.in_ok-sps.sps in
    let p0 = c.beginning.new.bits in
    let left0 = begun s0 p p0 c.in_ok-sps.ensures.exact in
    let sh = c.high.new.sps in
    let ph = c.high.new.bits in
    let lefth = further high_rows from_counts s0 sh p p0 ph left0 c.in_ok-high.ensures.exact in
    let s1 = c.frame_num_and_count_type.new.sps in
    let p1 = c.frame_num_and_count_type.new.bits in
    let left1 = further count_rows from_types sh s1 p ph p1 lefth c.in_ok-frame_num_and_count_type.ensures.exact in
    let s2 = c.counts.new.sps in
    let p2 = c.counts.new.bits in
    let left2 = further typed_rows (frame_rows ++ size_rows) s1 s2 p p1 p2 left1 c.in_ok-counts.ensures in
    rw (x.1, x.2) (stopped frame_rows size_rows s2 p p2 e left2 (refused e (rows_at take frame_rows s2 p2) c.in_err-frames.ensures))

pub returns-in_err-size : goal.returns-in_err-size
returns-in_err-size c =
    let x = err_from_is_err_and c.from_residual-in_err-size.result c.from_residual-in_err-size.ensures.1 in
    let e = c.in_err-size.field-0.0 in
    let p = c.args.bits.now in
    let s0 = c.in_ok-sps.sps in
    let p0 = c.beginning.new.bits in
    let left0 = begun s0 p p0 c.in_ok-sps.ensures.exact in
    let sh = c.high.new.sps in
    let ph = c.high.new.bits in
    let lefth = further high_rows from_counts s0 sh p p0 ph left0 c.in_ok-high.ensures.exact in
    let s1 = c.frame_num_and_count_type.new.sps in
    let p1 = c.frame_num_and_count_type.new.bits in
    let left1 = further count_rows from_types sh s1 p ph p1 lefth c.in_ok-frame_num_and_count_type.ensures.exact in
    let s2 = c.counts.new.sps in
    let p2 = c.counts.new.bits in
    let left2 = further typed_rows (frame_rows ++ size_rows) s1 s2 p p1 p2 left1 c.in_ok-counts.ensures in
    let s3 = c.frames.new.sps in
    let p3 = c.frames.new.bits in
    let left3 = further frame_rows size_rows s2 s3 p p2 p3 left2 c.in_ok-frames.ensures in
    rw (x.1, x.2) (stopped_last size_rows s3 p p3 e left3 (refused e (rows_at take size_rows s3 p3) c.in_err-size.ensures))

pub returns : goal.returns
returns c =
    let p = c.args.bits.now in
    let s0 = c.in_ok-sps.sps in
    let p0 = c.beginning.new.bits in
    let left0 = begun s0 p p0 c.in_ok-sps.ensures.exact in
    let sh = c.high.new.sps in
    let ph = c.high.new.bits in
    let lefth = further high_rows from_counts s0 sh p p0 ph left0 c.in_ok-high.ensures.exact in
    let s1 = c.frame_num_and_count_type.new.sps in
    let p1 = c.frame_num_and_count_type.new.bits in
    let left1 = further count_rows from_types sh s1 p ph p1 lefth c.in_ok-frame_num_and_count_type.ensures.exact in
    let s2 = c.counts.new.sps in
    let p2 = c.counts.new.bits in
    let left2 = further typed_rows (frame_rows ++ size_rows) s1 s2 p p1 p2 left1 c.in_ok-counts.ensures in
    let s3 = c.frames.new.sps in
    let p3 = c.frames.new.bits in
    let left3 = further frame_rows size_rows s2 s3 p p2 p3 left2 c.in_ok-frames.ensures in
    left3 ∙ c.in_ok-size.ensures
