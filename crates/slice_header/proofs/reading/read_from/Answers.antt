use Rattle.std.proofs.Common.{◌≡◌, ◌≤◌, ℕ, List, length, take, inl, inr, arith, true, false, ◌↔◌}
use Rattle.std.proofs.lemmas.Bool.{cases_lt}
use Rattle.std.proofs.lemmas.List.{length-take-le}
use Rattle.annexb.specs.EmulationPrevention.{payload_of}
use Rattle.annexb.specs.NalUnit.{nal_ref_idc, nal_unit_type}
use Rattle.slice_header.specs.SliceHeaders.{header_at, syntax_of}
use Rattle.slice_header.proofs.HeaderLaws.{answers_whole, header_cuts}
use Rattle.slice_header.proofs.reading.read_from.Goals as goal

-- a start that isn't full is all
all_there : (is_cut : Type 0) (payload : List ℕ) → (false ≡ true) ↔ (is_cut × (length (take 64 payload) ≡ 64)) → is_cut → length payload ≤ 64
all_there is_cut payload short cut =
    elim (cases_lt 64 (length payload)) [
      | inl more ↦ absurd (cc (short.1 (cut, length-take-le 64 payload (omega arith))))
      | inr le ↦ le
    ]

pub returns-then-is_cut_short : goal.returns-then-is_cut_short
returns-then-is_cut_short c = rw c.nal-then-is_cut_short.ensures at c.whole.ensures

pub returns-else-is_cut_short : goal.returns-else-is_cut_short
unfolding header_at
returns-else-is_cut_short c =
    let unit = c.args.start.now in
    let payload = payload_of unit in
    answers_whole (syntax_of unit c.args.sps.now c.args.pps.now) (header_cuts (nal_ref_idc unit) (nal_unit_type unit) c.args.sps.now c.args.pps.now) 64 payload (omega arith)
    c.header_of-answer.result (rw (c.nal.ensures, c.bytes.ensures) at c.header_of-answer.ensures)
    (all_there _ payload c.if-is_cut_short.ensures)
