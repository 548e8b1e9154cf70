-- The piece is added, and where it ends.
use Rattle.std.proofs.Common.{◌≡◌, ◌∙◌, ℕ, ◌+◌, [], ◌∷◌, ◌++◌, length, ap, arith}
use Rattle.plan_stream.proofs.Pieces.{ends-push, pieces-push}
use Rattle.plan_stream.proofs.tails.Tails.push.Goals as goal

pub invariant_of-self-2 : goal.invariant_of-self-2
invariant_of-self-2 c =
    let bytes = c.self.inside.bytes in
    let ends = c.self.inside.ends.items in
    let tail = c.args.tail.now in
    let end : c.len.result ≡ length bytes.items + length tail = omega (arith, c.len.ensures, c.in_ok-extend_from_slice.ensures.len, bytes.ok.0) in
    let ends_is : c.push_reserved.new.self.items ≡ ends ++ (length bytes.items + length tail) ∷ [] =
    c.push_reserved.ensures.items ∙ ap (λ l. l ++ c.len.result ∷ []) c.in_ok-reserve.ensures.items ∙ ap (λ (n : ℕ). ends ++ n ∷ []) end in
    rw (ends_is, c.in_ok-extend_from_slice.ensures.items) (ends-push 0 ends bytes.items tail c.self.invariant)

pub returns-clause-ok : goal.returns-clause-ok
returns-clause-ok c =
    let bytes = c.self.inside.bytes in
    let ends = c.self.inside.ends.items in
    let tail = c.args.tail.now in
    let end : c.len.result ≡ length bytes.items + length tail = omega (arith, c.len.ensures, c.in_ok-extend_from_slice.ensures.len, bytes.ok.0) in
    let ends_is : c.push_reserved.new.self.items ≡ ends ++ (length bytes.items + length tail) ∷ [] =
    c.push_reserved.ensures.items ∙ ap (λ l. l ++ c.len.result ∷ []) c.in_ok-reserve.ensures.items ∙ ap (λ (n : ℕ). ends ++ n ∷ []) end in
    rw (ends_is, c.in_ok-extend_from_slice.ensures.items)
    (pieces-push 0 ends bytes.items tail c.self.invariant ∙ ap (λ l. l ++ tail ∷ []) c.self.view_is)
