use Rattle.std.proofs.Common.{◌++◌, ◌∷◌, [], ◌+◌, replicate, ap, sym, subst, refl, ◌∙◌}
use Rattle.std.specs.List.{filter}
use Rattle.annexb.specs.ByteStream.{start_code}
use Rattle.annexb.specs.NalUnit.{is_slice}
use Rattle.stream_mending.specs.Segments.{Segment}
use Rattle.stream_mending.specs.Portions.{slices_of}
use Rattle.stream_mending.specs.OpenPortions.{IsFirstOf}
use Rattle.stream_mending.proofs.Open.{IsOpen-kept}
use Rattle.stream_mending.proofs.open_portion.OpenPortion.add.Goals as goal

pub returns : goal.returns
returns c = λ portion is_open.
    let unit = c.args.unit.now in
    let segment : Segment = record { place = c.args.place; unit = c.args.unit.now; zeros = c.args.zeros } in
    let rest = c.in_ok-add_zeros.ensures.rest in
    let counted = c.in_ok-count.ensures in
    IsOpen-kept portion segment c.args.self.now c.add_zeros.new.self c.requires is_open
    (c.in_ok-add_zeros.ensures.text
    ∙ ap (λ l. l ++ replicate c.args.zeros 0) (c.in_ok-extend_from_slice-2.ensures.items
    ∙ ap (λ l. l ++ unit) (c.in_ok-extend_from_slice.ensures.items ∙ ap (λ t. t.items ++ start_code) counted.text)))
    (c.in_ok-add_zeros.ensures.zeros ∙ ap (λ n. n + c.args.zeros) counted.zeros)
    (ap (λ o. o.bytes) rest ∙ counted.bytes ∙ c.in_ok-bytes.ensures)
    (ap (λ o. o.place) rest ∙ counted.place ∙ c.place_with-self.ensures portion segment is_open c.requires refl)
    (ap (λ o. o.slices) rest ∙ counted.slices (slices_of portion) is_open.slices_are)
    (subst (IsFirstOf (slices_of portion ++ filter is_slice (unit ∷ []))) (sym (ap (λ o. o.first) rest))
    (counted.first (slices_of portion) is_open.first_is))
    (ap (λ o. o.is_delimited) rest ∙ counted.delimited)
