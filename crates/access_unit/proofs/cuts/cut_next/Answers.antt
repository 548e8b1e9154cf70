-- After the zeros stand a start code and the NAL unit, and then the rest.
use Rattle.std.proofs.Common.{drop, ◌∙◌, ap}
use Rattle.access_unit.proofs.Pieces.{text_is, coded_is, rest_is, IsCoded-next}
use Rattle.access_unit.proofs.cuts.cut_next.Goals as goal

pub new-requires : goal.new-requires
new-requires c =
    let left = c.requires.1 in
    let zeros = c.zeros_before_code.ensures left.zeros _ (c.as_slice.ensures ∙ text_is _ _ _ left) in
    let front = rw (c.advance.ensures, zeros, c.bytes.ensures.value) at c.in_ok-coded.ensures.front in
    rw front (IsCoded-next _ _ _ left)

pub returns-clause-nal : goal.returns-clause-nal
returns-clause-nal c =
    let left = c.requires.1 in
    let zeros = c.zeros_before_code.ensures left.zeros _ (c.as_slice.ensures ∙ text_is _ _ _ left) in
    let front = rw (c.advance.ensures, zeros, c.bytes.ensures.value) at c.in_ok-coded.ensures.front in
    c.new.ensures ∙ ap (drop 3) (front ∙ coded_is _ _ _ left)

pub returns-clause-rest : goal.returns-clause-rest
returns-clause-rest c = λ units left.
    let zeros = c.zeros_before_code.ensures left.zeros _ (c.as_slice.ensures ∙ text_is _ _ _ left) in
    let rest = rw (c.advance.ensures, zeros, c.bytes.ensures.value) at c.in_ok-coded.ensures.rest in
    rw rest (rest_is _ _ units left)
