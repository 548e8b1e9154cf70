use Rattle.std.proofs.Common.{◌≡◌, ◌≢◌, ◌∙◌, ◌<◌, ◌≤◌, ℕ, Option, Some, None, Ok, pos, ap, refl, arith}
use Rattle.std.proofs.lemmas.Bool.{le-leb, lt-leb, ne_eqb}
use Rattle.expgolomb.specs.Bits.{Place}
use Rattle.std.proofs.lemmas.Result.{err_from_is_err_and}
use Rattle.param_sets.specs.declared.fault.SetFault.TheVariants.{Cut, Range, Chroma444}
use Rattle.param_sets.specs.declared.fault.SetFault.{SetFault}
use Rattle.expgolomb.specs.Ranges.{any}
use Rattle.expgolomb.specs.TableReading.{value_at, in_range}
use Rattle.param_sets.specs.declared.fault.SetField.TheVariants.{ChromaFormat}
use Rattle.expgolomb.specs.Grammar.{Unsigned}
use Rattle.param_sets.specs.SpsSyntax.{chroma_range}
use Rattle.expgolomb.proofs.FieldLaws.{narrow_ok, narrow_err}
use Rattle.param_sets.proofs.seq_parameter_set.chroma_format_idc.Goals as goal

pub returns-in_err-idc : goal.returns-in_err-idc
returns-in_err-idc c =
    let p = err_from_is_err_and c.from_residual.result c.from_residual.ensures.1 in
    rw (p.1, p.2) (narrow_err Unsigned Cut (Range ChromaFormat) chroma_range c.args.bits.now c.in_err-idc.field-0.0 c.in_err-idc.ensures.exact)

-- the range of the formats
four : (idc : ℕ) → idc ≡ 3 → chroma_range (pos idc) ≡ Some Chroma444
four idc is = rw is refl

less : (idc : ℕ) → idc < 3 → chroma_range (pos idc) ≡ None
less idc h = rw (le-leb idc 2 (omega arith)) refl

more : (idc : ℕ) → idc ≢ 3 → 3 ≤ idc → chroma_range (pos idc) ≡ Some (Range ChromaFormat)
more idc not h = rw (lt-leb idc 2 (omega arith), ne_eqb idc 3 not) refl

-- what the number is worth
ranged : (p q : Place) (idc : ℕ) (o : Option SetFault) → value_at Unsigned Cut (Range ChromaFormat) any p ≡ Ok (pos idc, q) → chroma_range (pos idc) ≡ o → value_at Unsigned Cut (Range ChromaFormat) chroma_range p ≡ in_range o (pos idc, q)
ranged p q idc o read is =
    narrow_ok Unsigned Cut (Range ChromaFormat) chroma_range p (pos idc) q read ∙ ap (λ x. in_range x (pos idc, q)) is

pub returns-in-3 : goal.returns-in-3
returns-in-3 c =
    ranged c.args.bits.now c.ue_any.new.bits c.in_ok-idc.idc (Some Chroma444) c.in_ok-idc.ensures.exact (four c.in_ok-idc.idc c.in-3.is)

pub returns-in_default : goal.returns-in_default
returns-in_default c =
    ranged c.args.bits.now c.ue_any.new.bits c.in_ok-idc.idc None c.in_ok-idc.ensures.exact (less c.in_ok-idc.idc c.if-idc-lt3.true)

pub returns-in_default-2 : goal.returns-in_default-2
returns-in_default-2 c =
    let other : c.in_ok-idc.idc ≢ 3 = omega (arith, c.in_default) in
    ranged c.args.bits.now c.ue_any.new.bits c.in_ok-idc.idc (Some (Range ChromaFormat)) c.in_ok-idc.ensures.exact (more c.in_ok-idc.idc other c.if-idc-lt3.false)
