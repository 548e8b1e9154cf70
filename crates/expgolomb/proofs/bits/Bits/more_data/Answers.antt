use Rattle.std.proofs.Common.{◌≡◌, ◌+◌, List, Bool, true, drop, sym, ap, subst, ◌∙◌, Contains}
use Rattle.std.proofs.lemmas.List.{drop-drop}
use Rattle.expgolomb.specs.Bits.{Place, bits_of}
use Rattle.expgolomb.proofs.Numbers.{rest-start}
use Rattle.expgolomb.proofs.bits.Bits.more_data.Goals as goal

pub returns : goal.returns
returns c =
    let self = c.self.inside in
    let past : drop (self.bit + 1) (bits_of c.split_at.result.1.now) ≡ drop 1 c.args.self.now.rest =
    ap (λ bytes. drop (self.bit + 1) (bits_of bytes)) c.split_at.ensures.back
    ∙ (sym (drop-drop 1 self.bit (bits_of (drop self.at self.bytes.now)))
    ∙ ap (drop 1) (sym (rest-start self.bytes.now self.at self.bit) ∙ ap (λ (p : Place). p.rest) c.self.view_is)) in (
      λ is. subst (λ (bits : List Bool). Contains bits true) past (c.has_one_past.ensures.0 is),
      λ one. c.has_one_past.ensures.1 (subst (λ (bits : List Bool). Contains bits true) (sym past) one),
    )
