-- The only NAL unit is the only slice.
use Rattle.std.proofs.Common.{◌≡◌, ◌∙◌, sym, ap, length, arith}
use Rattle.std.specs.List.{filter}
use Rattle.std.proofs.lemmas.Grind.{common_steps}
use Rattle.annexb.specs.NalUnit.{is_slice}
use Rattle.access_unit.proofs.Trailing.{none_left, sole}
use Rattle.access_unit.proofs.content.content_of.Goals as goal

pub returns-then-is_empty : goal.returns-then-is_empty
returns-then-is_empty c =
    let nals = c.args.parts.nals.items in
    let slices : length c.args.parts.slices.items ≡ length (filter is_slice nals) = ap length c.requires.parts.stored.slices_are in
    let one : length nals ≡ 1 = grind (arith, common_steps, c.if-len-eq1.true, c.len.ensures) in
    let left : length (filter is_slice nals) ≡ 1 = grind (arith, common_steps, slices, c.if-len-eq1-2.true, c.len-then-len-eq1.ensures) in
    let empty : length c.args.parts.sets.items ≡ 0 = grind (arith, common_steps, c.if-is_empty.true, c.if-is_empty.ensures) in
    record {
      nals_are = c.only_slice.ensures.nals;
      slices_are = c.only_slice.ensures.slices ∙ sole is_slice nals one left;
      within = rw c.only_slice.ensures.first (omega arith);
      sets_are = c.only_slice.ensures.sets ∙ sym (none_left c.args.parts.sets.items empty) ∙ c.requires.parts.stored.sets_are;
      accepted = c.requires.parts.accepted;
      text_is = rw c.only_slice.ensures.text tt;
    }
