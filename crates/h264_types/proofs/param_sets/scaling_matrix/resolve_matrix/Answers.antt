use Rattle.std.proofs.Common.{◌∙◌, ap, refl}
use Rattle.h264_types.specs.declared.param_sets.fall_back.Lists.{Lists}
use Rattle.h264_types.specs.InverseScan.{raster}
use Rattle.h264_types.specs.ScalingMatrix.{scaling_matrix}
use Rattle.h264_types.proofs.param_sets.scaling_matrix.resolve_matrix.Goals as goal

pub returns : goal.returns
unfolding scaling_matrix
returns c =
    let intra = c.picture_lists-intra.ensures in
    let inter = c.picture_lists-inter.ensures in
    let a = c.block_4x4.ensures ∙ ap (λ (l : Lists). raster 4 l.y) intra in
    let b = c.block_4x4-2.ensures ∙ ap (λ (l : Lists). raster 4 l.cb) intra in
    let d = c.block_4x4-3.ensures ∙ ap (λ (l : Lists). raster 4 l.cr) intra in
    let e = c.block_4x4-4.ensures ∙ ap (λ (l : Lists). raster 4 l.y) inter in
    let f = c.block_4x4-5.ensures ∙ ap (λ (l : Lists). raster 4 l.cb) inter in
    let g = c.block_4x4-6.ensures ∙ ap (λ (l : Lists). raster 4 l.cr) inter in
    let h = c.block_8x8.ensures ∙ ap (λ (l : Lists). raster 8 l.y_8x8) intra in
    let i = c.block_8x8-2.ensures ∙ ap (λ (l : Lists). raster 8 l.y_8x8) inter in
    rw (a, b, d, e, f, g, h, i) refl
